-- What a number means that no check has.
use Rattle.std.proofs.Common.{◌≡◌, ℕ, true, not, eqb, List, [], ◌∷◌, refl, ◌∙◌, arith, ◌≢◌}
use Rattle.std.proofs.lemmas.Bool.{cond-false, and_parts}
use Rattle.std.proofs.lemmas.Bool.Decides.{nat_tests}
use Rattle.laws.specs.declared.check.Check.{Check}
use Rattle.laws.specs.declared.check.Check.TheVariants.{ClauseSize, CodeRange, ChoiceOnce, ClauseCount, LiteralCount, NotPinned, PinCount, Pinned, PlanSize, SplitCount, ListedChoices, FileSize, RecordWhole, RecordTag, HeaderFirst, RecordLength, EndLast, FileBuffer}
use Rattle.laws.specs.Lists.{every}
use Rattle.laws.specs.Meanings.{meanings, said_of, meaning_of, unknown_words}
use Rattle.laws.specs.Numbers.{check_number}

-- of a number that is none of those in a list, the list says nothing
unlisted : (n : ℕ) (ms : List (ℕ × List ℕ)) → every (λ m. not (eqb n m.0)) ms ≡ true → said_of n ms ≡ unknown_words
unlisted n [] h = refl
unlisted n (m ∷ ms) h =
    let parts = and_parts (not (eqb n m.0)) (every (λ k. not (eqb n k.0)) ms) h in
    cond-false (eqb n m.0) m.1 (said_of n ms) (grind (arith, nat_tests, parts.0)) ∙ unlisted n ms parts.1

pub unknown_meaning : (n : ℕ) → ((c : Check) → n ≢ check_number c) → meaning_of n ≡ unknown_words
unknown_meaning n other =
    let a = other ClauseSize in
    let b = other CodeRange in
    let c = other ChoiceOnce in
    let d = other ClauseCount in
    let e = other LiteralCount in
    let f = other NotPinned in
    let g = other PinCount in
    let h = other Pinned in
    let i = other PlanSize in
    let j = other SplitCount in
    let k = other ListedChoices in
    let l = other FileSize in
    let m = other RecordWhole in
    let o = other RecordTag in
    let p = other HeaderFirst in
    let q = other RecordLength in
    let r = other EndLast in
    let s = other FileBuffer in
    let none : every (λ x. not (eqb n x.0)) meanings ≡ true = grind (arith, nat_tests) in
    unlisted n meanings none
