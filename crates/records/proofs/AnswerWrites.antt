-- What is read back of a buffer after a write.
use Rattle.std.proofs.Common.{◌≡◌, ℕ, ◌+◌, List, length, take, drop, None, Ok, Err, Result, ap, ◌∙◌, arith}
use Rattle.std.proofs.lemmas.List.{take_at}
use Rattle.std.proofs.lemmas.Bool.Decides.{nat_tests}
use Rattle.std.specs.Result.{IfOk}
use Rattle.laws.specs.Outcomes.{Outcome}
use Rattle.records.specs.declared.answer.WriteError.{WriteError}
use Rattle.records.specs.Answers.{encode, decode, over, fitted, unwritable}
use Rattle.records.specs.AnswerLaws.{OutcomeFits}
use Rattle.records.proofs.AnswerTrips.{written_back}

-- an outcome whose record was put at the front of a buffer is read back from there
pub back_at : (o : Outcome) (bs : List ℕ) (r : Result ℕ WriteError) (b b' : List ℕ)
    → OutcomeFits o → unwritable o ≡ None → bs ≡ encode o → r ≡ fitted bs (length b)
    → IfOk r (λ _. b' ≡ over b 0 bs) → IfOk r (λ n. decode (take n b') ≡ Ok o)
back_at o bs (Err e) b b' f u s v h = tt
back_at o bs (Ok n) b b' f u s v h =
    let whole : length bs ≡ n = grind (arith, nat_tests) in
    ap decode (ap (take n) h ∙ take_at bs (drop (0 + length bs) b) n whole ∙ s) ∙ written_back o f u
