-- Why a reading refuses with the fault of the first check that fails.
use Rattle.std.proofs.Common.{◌≡◌, ℕ, ◌<◌, false, not, ◌||◌, eqb, List, length, arith}
use Rattle.laws.specs.declared.fault.Fault.{Fault}
use Rattle.std.proofs.lemmas.Bool.{leb-true, leb-false, le-leb, lt-leb, eqb-true, eqb-false, eq-eqb, ne_eqb, not-false, not_from_true, or_parts, or_from}
use Rattle.std.proofs.lemmas.Bool.Decides.{not_from_Decides}
use Rattle.records.specs.Reading.{read_at, refuses, behind}
use Rattle.records.specs.Refusals.{Refuses, too_long, cut_short, unknown, misplaced, unfit, not_last, fault_at, RefusesTheFirst}
use Rattle.records.proofs.Readings.{by_check, at_50, at_51, at_52, at_53, at_54, at_55}
use Rattle.records.proofs.Tells.{fails, tells_whole, tells_known, tells_placed, tells_fit}

-- the file goes on behind the end record
pub last_fails : (tag next long : ℕ) → tag ≡ 15 → next < long → (not (eqb tag 15) || eqb next long) ≡ false
last_fails tag next long t l = or_from _ _ (not_from_true _ (eq-eqb tag 15 t)) (ne_eqb next long (omega arith))

told : (file : List ℕ) (at number : ℕ) → Refuses file at number → read_at file at ≡ refuses (fault_at number at)
told file at number (too_long l) = at_50 file at (lt-leb _ _ l)
told file at number (cut_short a b) = at_51 file at (le-leb _ _ a) (fails _ (tells_whole file at) b)
told file at number (unknown a b c) =
    at_52 file at (le-leb _ _ a) ((tells_whole file at).1 b) (fails _ (tells_known _) c)
told file at number (misplaced a b c d) =
    at_53 file at (le-leb _ _ a) ((tells_whole file at).1 b) ((tells_known _).1 c) (fails _ (tells_placed _ at) d)
told file at number (unfit a b c d e) =
    at_54 file at (le-leb _ _ a) ((tells_whole file at).1 b) ((tells_known _).1 c) ((tells_placed _ at).1 d)
    (fails _ (tells_fit _ _ c) e)
told file at number (not_last a b c d e t l) =
    at_55 file at (le-leb _ _ a) ((tells_whole file at).1 b) ((tells_known _).1 c) ((tells_placed _ at).1 d)
    ((tells_fit _ _ c).1 e) (last_fails _ _ _ t l)

found : (file : List ℕ) (at : ℕ) (f : Fault) → read_at file at ≡ refuses f →
    (number : ℕ) × Refuses file at number × (f ≡ fault_at number at)
found file at f h =
    by_check _ _ _ f h (λ no e. (50, too_long (leb-false _ _ no), e)) (λ a h₁.
    let few = leb-true _ _ a in
    by_check _ _ _ f h₁ (λ no e. (51, cut_short few (not_from_Decides _ (tells_whole file at) no), e)) (λ b h₂.
    let whole = (tells_whole file at).0 b in
    by_check _ _ _ f h₂ (λ no e. (52, unknown few whole (not_from_Decides _ (tells_known _) no), e)) (λ c h₃.
    let known = (tells_known _).0 c in
    by_check _ _ _ f h₃ (λ no e. (53, misplaced few whole known (not_from_Decides _ (tells_placed _ at) no), e)) (λ d h₄.
    let placed = (tells_placed _ at).0 d in
    by_check _ _ _ f h₄ (λ no e. (54, unfit few whole known placed (not_from_Decides _ (tells_fit _ _ known) no), e)) (λ i h₅.
    let fit = (tells_fit _ _ known).0 i in
    by_check _ _ _ f h₅
    (λ no e.
    let p = or_parts _ _ no in
    let ne = eqb-false (behind file at) (length file) p.1 in
    let in-file = whole.1 in
    (55, not_last few whole known placed fit (eqb-true _ _ (not-false _ p.0)) (omega arith), e))
    (λ _ h₆. let z : ◌≡◌ {A = ℕ} 0 1 = cc in absurd (omega arith)))))))

pub refuses_the_first : RefusesTheFirst
refuses_the_first file at = record { found = found file at; told = told file at }
