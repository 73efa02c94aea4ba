-- What an inclusive range yields.
use Rattle.std.proofs.Common.{◌≡◌, ℕ, suc, ◌+◌, ◌-◌, Bool, true, false, List, ◌∷◌, length, Some, sym, refl, ap, ◌∙◌, ap₂, subst, arith}
use Rattle.std.specs.List.{range_with_len}
use Rattle.std.specs.Range.{range_inclusive_start, range_inclusive_end, range_inclusive_exhausted, range_inclusive_len}
use Rattle.std.specs.declared.ops.RangeInclusive.{RangeInclusive}
use Rattle.std.proofs.iter.runs.Sources.{nat_range_inclusive_steps}
use Rattle.std.proofs.lemmas.Iterator.{YieldsList}
use Rattle.std.proofs.lemmas.Iterator.Consumers.{YieldsList-from_shown}

-- how many numbers are left
abbrev left : RangeInclusive ℕ → ℕ
left s = range_inclusive_len (λ a b. b - a) (range_inclusive_start s) (range_inclusive_end s) (range_inclusive_exhausted s)

-- the numbers that are left
abbrev numbers : RangeInclusive ℕ → List ℕ
numbers s = range_with_len (range_inclusive_start s) (left s)

-- behind n come the numbers from a, which is the next number unless none comes
behind :
    (n a b : ℕ) (spent : Bool) → (spent ≡ false → a ≡ n + 1)
    → range_with_len (n + 1) (range_inclusive_len (λ a b. b - a) a b spent) ≡ range_with_len a (range_inclusive_len (λ a b. b - a) a b spent)
behind n a b true h = refl
behind n a b false h = ap (λ m. range_with_len m (range_inclusive_len (λ a b. b - a) a b false)) (sym (h refl))

one_comes : (s : RangeInclusive ℕ) (x : ℕ) (t : RangeInclusive ℕ) → nat_range_inclusive_steps s (Some x) t → numbers s ≡ x ∷ numbers t
one_comes s x t h =
    let more : left s ≡ suc (left t) = omega (arith, h.1.1) in
    ap (range_with_len (range_inclusive_start s)) more
    ∙ ap₂ ◌∷◌ (sym h.1.0) (behind (range_inclusive_start s) (range_inclusive_start t) (range_inclusive_end t) (range_inclusive_exhausted t) h.1.2)

-- `0..=n` yields the numbers from 0 to n
pub YieldsList-from_zero :
    {s : RangeInclusive ℕ} (n : ℕ) → range_inclusive_start s ≡ 0 → range_inclusive_end s ≡ n → range_inclusive_exhausted s ≡ false
    → YieldsList nat_range_inclusive_steps (λ x. x) s (range_with_len 0 (n + 1))
YieldsList-from_zero {s} n a b z =
    let all : left s ≡ n + 1 = omega (arith, a, b, ap (range_inclusive_len (λ x y. y - x) (range_inclusive_start s) (range_inclusive_end s)) z) in
    subst (YieldsList nat_range_inclusive_steps (λ x. x) s) (ap₂ range_with_len a all)
    (YieldsList-from_shown nat_range_inclusive_steps (λ x. x) numbers
    (λ s t h. ap (λ k. length (range_with_len (range_inclusive_start s) k)) h.1.0) one_comes s)
