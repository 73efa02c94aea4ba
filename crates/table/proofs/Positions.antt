-- What comes of a plan that was judged.
use Rattle.std.proofs.Common.{◌≡◌, ℕ, ◌+◌, true, false, cond, ltb, List, length, Ok, Err, Result}
use Rattle.laws.specs.declared.fault.Fault.{Fault}
use Rattle.laws.specs.Faults.{fault}
use Rattle.table.specs.Judged.{judged}

-- a plan that was judged is not refused whatever is made of the answer
pub judged_with : {X Y : Type 0} (g : X → Y) (n : ℕ) (p : List ℕ) (x y : X) → Ok x ≡ judged n p y → Ok (g x) ≡ judged n p (g y)
judged_with {X = X} {Y = Y} g n p x y h =
    elim (ltb (length p) (n + 1)) as
    (λ b. ◌≡◌ {A = Result X Fault} (Ok x) (cond b (Err (fault 3 31 0)) (Ok y))
    → ◌≡◌ {A = Result Y Fault} (Ok (g x)) (cond b (Err (fault 3 31 0)) (Ok (g y))))
    [ true ↦ λ e. cc | false ↦ λ e. cc ] h
