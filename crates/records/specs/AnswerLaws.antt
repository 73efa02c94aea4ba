-- What holds of answer records: each outcome that has one is read back from it, and an accepted record is the only one of
-- its outcome.
use Rattle.std.specs.Prelude.{◌≡◌, ℕ, ◌^◌, ◌<◌, List, None, Ok, All}
use Rattle.laws.specs.declared.fault.Fault.{Fault}
use Rattle.laws.specs.Outcomes.{Outcome, planned, never, refused}
use Rattle.records.specs.Answers.{encode, decode, unwritable}

-- a fault's numbers are small enough for their bytes
pub record FaultFits (f : Fault) : Type 0 where
  pub layer_fits : f.layer < 256
  pub depth_fits : f.depth < 256
  pub number_fits : f.number < 256
  pub place_fits : f.place < 65536
  pub offset_fits : f.offset < 65536

-- an outcome's numbers are small enough for their bytes
abbrev pub OutcomeFits : Outcome → Type 0
OutcomeFits (planned bytes n) = n < 2 ^ 32
OutcomeFits (never n) = n < 2 ^ 32
OutcomeFits (refused f) = FaultFits f

-- the outcome has a record, and these bytes are it
pub record RecordOf (bs : List ℕ) (o : Outcome) : Type 0 where
  pub fits : OutcomeFits o
  pub writable : unwritable o ≡ None
  pub same : encode o ≡ bs

-- the laws
pub record AnswerLaws : Type 0 where
  -- what is written is read back as the same outcome
  pub back : (o : Outcome) → OutcomeFits o → unwritable o ≡ None → decode (encode o) ≡ Ok o
  -- bytes that are accepted are what would be written for their outcome
  pub exact : (bs : List ℕ) (o : Outcome) → All (λ b. b < 256) bs → decode bs ≡ Ok o → RecordOf bs o
  -- no two records stand for the same outcome
  pub one : (bs cs : List ℕ) (o : Outcome)
      → All (λ b. b < 256) bs → All (λ b. b < 256) cs → decode bs ≡ Ok o → decode cs ≡ Ok o → bs ≡ cs
