-- Answer records: what bytes stand for an outcome, and which outcome bytes stand for.
use Rattle.std.specs.Prelude.{ℕ, ◌+◌, cond, ◌&&◌, ltb, List, ◌∷◌, ◌++◌, length, take, drop, Some, None, Ok, Err, Option, Result, ◌==◌, nat_le, nat_lt, slice_index}
use Rattle.std.specs.Option.{option_map}
use Rattle.laws.specs.declared.fault.Fault.{Fault}
use Rattle.laws.specs.Lists.{place, or_else}
use Rattle.laws.specs.Outcomes.{Outcome, planned, never, refused}
use Rattle.records.specs.Bytes.{in_two, in_four, from_two, from_four, framed}
use Rattle.records.specs.declared.answer.Answer.{Answer}
use Rattle.records.specs.declared.answer.Answer.TheVariants.{Plan, NoPlan, Refusal}
use Rattle.records.specs.declared.answer.AnswerError.{AnswerError}
use Rattle.records.specs.declared.answer.AnswerError.TheVariants as flaw
use Rattle.records.specs.declared.answer.WriteError.{WriteError}
use Rattle.records.specs.declared.answer.WriteError.TheVariants as reason

-- the outcome that an answer is
abbrev pub answer_of : Answer → Outcome
answer_of (Plan n bytes) = planned bytes.now n
answer_of (NoPlan n) = never n
answer_of (Refusal f) = refused f

-- the tag of a record
abbrev pub tag_of : Outcome → ℕ
tag_of (planned bytes n) = 0x21
tag_of (never n) = 0x22
tag_of (refused f) = 0x23

-- a fault's five numbers as bytes
abbrev pub in_fault : Fault → List ℕ
in_fault f = f.layer ∷ f.depth ∷ f.number ∷ (in_two f.place ++ in_two f.offset)

-- the fault that seven bytes stand for
abbrev pub fault_in : List ℕ → Fault
fault_in bs =
    record
    { layer = slice_index bs 0; depth = slice_index bs 1; number = slice_index bs 2; place = from_two 3 bs; offset = from_two 5 bs }

-- the body of a record
abbrev pub body_of : Outcome → List ℕ
body_of (planned bytes n) = in_four n ++ bytes
body_of (never n) = in_four n
body_of (refused f) = in_fault f

-- the record of an outcome
abbrev pub encode : Outcome → List ℕ
encode o = framed (tag_of o) (body_of o)

-- the value, unless there is a reason against it
abbrev pub refusing : {X E : Type 0} → Option E → X → Result X E
refusing None x = Ok x
refusing (Some e) x = Err e

-- the first outcome if it is a refusal, else the second
abbrev pub and_then : {X E : Type 0} → Result (Unit {0}) E → Result X E → Result X E
and_then (Ok _) r = r
and_then (Err e) r = Err e

-- the place of the first byte of a plan that is neither 0 nor 1
abbrev pub stray : List ℕ → Option ℕ
stray bytes = place (λ b. ltb 1 b) bytes

-- why a plan has no record: it has not 1 to 256 bytes, or a byte that is neither 0 nor 1
abbrev pub flaw_of : List ℕ → Option WriteError
flaw_of bytes =
    cond (nat_lt 0 (length bytes) && nat_le (length bytes) 256) (option_map reason.PlanByte (stray bytes))
    (Some (reason.PlanLength (length bytes)))

-- why an outcome has no record
abbrev pub unwritable : Outcome → Option WriteError
unwritable (planned bytes n) = flaw_of bytes
unwritable (never n) = None
unwritable (refused f) = None

-- what writing a record into a buffer of so many bytes answers: its length, or that it does not fit
abbrev pub fitted : List ℕ → ℕ → Result ℕ WriteError
fitted bs room =
    refusing (cond (nat_le (length bs) room) None (Some (reason.Buffer (length bs)))) (length bs)

-- what writing an outcome into a buffer of so many bytes answers: the record's length, or why it was not written
abbrev pub written : Outcome → ℕ → Result ℕ WriteError
written o room =
    refusing (or_else (unwritable o)
    (cond (nat_le (length (encode o)) room) None (Some (reason.Buffer (length (encode o)))))) (length (encode o))

-- a buffer after a write: the record, and what stood behind its end; or all as it was
abbrev pub left_by : Result ℕ WriteError → Outcome → List ℕ → List ℕ
left_by (Ok n) o buffer = encode o ++ drop n buffer
left_by (Err e) o buffer = buffer

-- a buffer after bytes were put over it from a place on
abbrev pub over : List ℕ → ℕ → List ℕ → List ℕ
over buffer i bs = take i buffer ++ (bs ++ drop (i + length bs) buffer)

-- the check that a length is from l to m
abbrev pub ranged : ℕ → ℕ → ℕ → Result (Unit {0}) AnswerError
ranged l m n = cond (nat_le l n && nat_le n m) (Ok tt) (Err (flaw.Length n))

-- the check of a record's head: the tag is known, and the length fits it
abbrev pub head_of : ℕ → ℕ → Result (Unit {0}) AnswerError
head_of t n =
    cond (t == 0x21) (ranged 5 260 n)
    (cond (t == 0x22) (ranged 4 4 n) (cond (t == 0x23) (ranged 7 7 n) (Err (flaw.Tag t))))

-- the outcome that a body of a fitting length stands for
abbrev pub body_in : ℕ → List ℕ → Result Outcome AnswerError
body_in t bs =
    cond (t == 0x21)
    (refusing (option_map flaw.PlanByte (stray (drop 4 bs))) (planned (drop 4 bs) (from_four bs)))
    (cond (t == 0x22) (Ok (never (from_four bs))) (Ok (refused (fault_in bs))))

-- a record's length as its head says it
abbrev pub end_of : List ℕ → ℕ
end_of bs = 3 + from_two 1 bs

-- the outcome that bytes stand for, or the first check that they fail: three bytes are here; the tag is known; the
-- length fits it; the body is here; nothing stands behind it; each byte of a plan is 0 or 1
abbrev pub decode : List ℕ → Result Outcome AnswerError
decode bs =
    cond (nat_lt (length bs) 3) (Err flaw.Cut)
    (and_then (head_of (slice_index bs 0) (from_two 1 bs))
    (cond (nat_lt (length bs) (end_of bs)) (Err flaw.Cut)
    (cond (nat_lt (end_of bs) (length bs)) (Err flaw.Trailing) (body_in (slice_index bs 0) (drop 3 bs)))))

-- what reading gave, by its outcome
abbrev pub means : Result Answer AnswerError → Result Outcome AnswerError
means (Ok a) = Ok (answer_of a)
means (Err e) = Err e
