-- The choices that occur in clauses, and their number.
use Rattle.std.proofs.Common.{◌≡◌, ℕ, ◌+◌, ◌<◌, ◌≤◌, true, false, eqb, List, length, Contains, sym, refl, subst, arith}
use Rattle.std.specs.List.{range_with_len}
use Rattle.std.proofs.lemmas.List.Elements.{All-contains}
use Rattle.std.proofs.lemmas.Bool.{eqb-true, eq-eqb}
use Rattle.laws.specs.Clauses.{lawful}
use Rattle.laws.specs.Lists.{any}
use Rattle.laws.specs.Literals.{choice, top}
use Rattle.laws.specs.Occurring.{occurring, occurring_count}
use Rattle.laws.specs.Tables.{Tab, Lawful, occurs_in}
use Rattle.laws.proofs.Counting.{has_counting}
use Rattle.laws.proofs.Kept.{any_witness, any_from, every_at, length_kept_by_fewer}
use Rattle.laws.proofs.Lawful.{decides_lawful}

-- a choice occurs exactly if a literal of it stands in a clause
pub occurs_witness :
    (c : ℕ) (Cs : List (List ℕ)) → occurs_in c Cs ≡ true → (C : List ℕ) × (l : ℕ) × Contains Cs C × Contains C l × (choice l ≡ c)
occurs_witness c Cs h =
    let C = any_witness (any (λ l. eqb (choice l) c)) Cs h in
    let l = any_witness (λ l. eqb (choice l) c) C.0 C.2 in
    (C.0, l.0, C.1, l.1, eqb-true (choice l.0) c l.2)

pub occurs_from :
    (Cs : List (List ℕ)) (C : List ℕ) (l : ℕ) → Contains Cs C → Contains C l → occurs_in (choice l) Cs ≡ true
occurs_from Cs C l stands in' =
    any_from (any (λ m. eqb (choice m) (choice l))) Cs C stands
    (any_from (λ m. eqb (choice m) (choice l)) C l in' (eq-eqb (choice l) (choice l) refl))

-- no literal of a lawful table is above the largest
pub literal_low : (t : Tab) (C : List ℕ) (l : ℕ) → Lawful t → Contains t.clauses C → Contains C l → l ≤ top t.last
literal_low t C l ok stands in' =
    let good = every_at (lawful t.last) t.clauses C ok.each stands in
    All-contains (λ m. m ≤ top t.last) C l ((decides_lawful t.last C).0 good).low in'

-- only the table's choices occur
pub occurs_below : (t : Tab) (c : ℕ) → Lawful t → occurs_in c t.clauses ≡ true → c ≤ t.last
occurs_below t c ok h =
    let at = occurs_witness c t.clauses h in
    let low = literal_low t at.0 at.1 ok at.2 at.3 in
    omega (arith, low, at.4)

-- fewer choices occur if none is new and one no longer does
pub occurring_falls :
    (t u : Tab) (c : ℕ) → u.last ≡ t.last
    → ((d : ℕ) → occurs_in d u.clauses ≡ true → occurs_in d t.clauses ≡ true)
    → c ≤ t.last → occurs_in c t.clauses ≡ true → occurs_in c u.clauses ≡ false
    → occurring_count u < occurring_count t
occurring_falls t u c same old low was gone =
    let fewer = length_kept_by_fewer (λ d. occurs_in d u.clauses) (λ d. occurs_in d t.clauses) old (range_with_len 0 (t.last + 1)) c (has_counting (t.last + 1) c (omega arith)) gone was in
    subst (λ n. length (occurring n u.clauses) < occurring_count t) (sym same) fewer
