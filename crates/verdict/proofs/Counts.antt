-- What a plan breaks of the clauses and of the pins, it breaks of both together.
use Rattle.std.proofs.Common.{◌≡◌, ℕ, ◌+◌, ◌≤◌, cond, not, eqb, ltb, List, ◌++◌, length, Ok, Err, Result, sym, ap, ◌∙◌, arith, length-append}
use Rattle.std.proofs.lemmas.List.Sums.{sum_by-append}
use Rattle.std.proofs.lemmas.Bool.{eq-eqb, le-ltb, cond-true, cond-false}
use Rattle.laws.specs.declared.fault.Fault.{Fault}
use Rattle.laws.specs.Clauses.{true_in}
use Rattle.laws.specs.Faults.{fault}
use Rattle.laws.specs.Outcomes.{planned}
use Rattle.laws.specs.Plans.{broken}
use Rattle.table.specs.Judged.{judged}
use Rattle.verdict.specs.declared.failure.Failure.{Failure}
use Rattle.verdict.specs.declared.verdict.Verdict.{Verdict}
use Rattle.verdict.specs.Hours.{Asked}
use Rattle.verdict.specs.Judging.{judge, counted, all_of}

pub broken_append : (p : List ℕ) (Cs Ds : List (List ℕ)) → broken p (Cs ++ Ds) ≡ broken p Cs + broken p Ds
broken_append p Cs Ds = sum_by-append (λ C. cond (not (true_in p C)) 1 0) Cs Ds

-- what a table answers of a plan that is long enough
pub judged_is : (n : ℕ) (p : List ℕ) (x y : ℕ)
    → n + 1 ≤ length p → ◌≡◌ {A = Result ℕ Fault} (Ok x) (judged n p y) → x ≡ y
judged_is n p x y long h =
    let e : ◌≡◌ {A = Result ℕ Fault} (Ok x) (Ok y) =
    h ∙ cond-false (ltb (length p) (n + 1)) (Err (fault 3 31 0)) (Ok y) (le-ltb (length p) (n + 1) long) in
    cc

-- the verdict on a plan with one byte for each choice, from the two counts
pub judge_plan : (h : Asked) (p : List ℕ) (work a b m : ℕ)
    → length p ≡ h.clauses.last + 1 → a ≡ broken p h.clauses.clauses → b ≡ broken p h.pins.clauses
    → m ≡ length h.clauses.clauses + length h.pins.clauses
    → ◌≡◌ {A = Result Verdict Failure} (Ok (counted (a + b) m)) (judge h (planned p work))
judge_plan h p work a b m long ea eb em =
    let n : a + b ≡ broken p (all_of h) =
    omega (arith, ea, eb, broken_append p h.clauses.clauses h.pins.clauses) in
    let l : m ≡ length (all_of h) = em ∙ sym (length-append h.clauses.clauses h.pins.clauses) in
    ap (λ k. Ok (counted k m)) n
    ∙ ap (λ k. Ok (counted (broken p (all_of h)) k)) l
    ∙ sym (cond-true (eqb (length p) (h.clauses.last + 1)) _ _ (eq-eqb (length p) (h.clauses.last + 1) long))
