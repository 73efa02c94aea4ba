-- The tags by which answer records name their kind.
use Rattle.std.specs.Prelude.{◌≡◌, ℕ, Ok, Err, Result, ◌≢◌}
use Rattle.records.specs.declared.answer.AnswerError.{AnswerError}
use Rattle.records.specs.declared.answer.AnswerError.TheVariants.{Tag}
use Rattle.records.specs.declared.answer.kind.Kind.{Kind}
use Rattle.records.specs.declared.answer.kind.Kind.TheVariants.{Plan, NoPlan, Refusal}

-- the tag of a kind
abbrev pub kind_number : Kind → ℕ
kind_number Plan = 0x21
kind_number NoPlan = 0x22
kind_number Refusal = 0x23

-- a tag read as a kind: the kind that has it, or that none has it
abbrev pub Decodes : ℕ → Result Kind AnswerError → Type 0
Decodes n (Ok k) = n ≡ kind_number k
Decodes n (Err e) = ((k : Kind) → n ≢ kind_number k) × (e ≡ Tag n)
