-- Where a record is read, the file holds exactly the bytes of that record.
use Rattle.std.specs.Prelude.{◌≡◌, ℕ, ◌+◌, ◌-◌, ◌<◌, ◌≤◌, List, length, take, drop, All}
use Rattle.records.specs.Entries.{Entry, header, clause, pin, finish, bytes_of}
use Rattle.records.specs.Reading.{read_at, gives}

-- a clause's bytes are a part of the file: they begin behind the tag and the length
abbrev pub Part : List ℕ → ℕ → Entry → Type 0
Part file at (header n) = Unit {0}
Part file at (clause bytes offset) = (offset ≡ at + 3) × (bytes ≡ take (length bytes) (drop offset file))
Part file at (pin l) = Unit {0}
Part file at finish = Unit {0}

-- a record lies in a file from one offset to another
pub record Lies (file : List ℕ) (at : ℕ) (e : Entry) (next : ℕ) : Type 0 where
  -- it has three bytes or more
  pub forward : at + 3 ≤ next
  -- it does not pass the file's end
  pub inside : next ≤ length file
  -- in a file of bytes, these are its bytes
  pub exact : All (λ b. b < 256) file → take (next - at) (drop at file) ≡ bytes_of e
  -- a clause lends a part of the file
  pub part : Part file at e

-- every record that is read lies there
abbrev pub ReadsItsBytes : Type 0
ReadsItsBytes =
    (file : List ℕ) (at : ℕ) (e : Entry) (next : ℕ) → read_at file at ≡ gives e next → Lies file at e next
