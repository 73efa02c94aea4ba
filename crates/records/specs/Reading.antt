-- Reading one record at an offset of a file: what is there, or which check refuses it.
use Rattle.std.specs.Prelude.{ℕ, ◌+◌, ◌%◌, Bool, cond, not, ◌||◌, List, length, take, drop, Ok, Err, Result, ◌==◌, nat_le, slice_index}
use Rattle.std.specs.Bool.{beq}
use Rattle.laws.specs.declared.fault.Fault.{Fault}
use Rattle.laws.specs.Faults.{file_fault}
use Rattle.records.specs.Bytes.{word}
use Rattle.records.specs.Entries.{Entry, header, clause, pin, finish, entry_of}
use Rattle.records.specs.declared.record.Record.{Record}

-- a refusal, or a record and the offset behind it
pub data Reading : Type 0 where
  refuses : Fault → Reading
  gives : Entry → ℕ → Reading

-- the tag of the record at an offset
abbrev pub tag_at : List ℕ → ℕ → ℕ
tag_at file at = slice_index file at

-- the length of its body
abbrev pub size_at : List ℕ → ℕ → ℕ
size_at file at = word (slice_index file (at + 1)) (slice_index file (at + 2))

-- the offset behind it
abbrev pub behind : List ℕ → ℕ → ℕ
behind file at = at + 3 + size_at file at

-- four tags are known: 1 the header, 2 a clause, 3 a pin, 15 the end
abbrev pub is_known : ℕ → Bool
is_known tag = tag == 1 || (tag == 2 || (tag == 3 || tag == 15))

-- the length of a body that fits its tag: 1 for the header, even for a clause, 2 for a pin, 0 for the end
abbrev pub is_fit : ℕ → ℕ → Bool
is_fit tag size =
    cond (tag == 1) (size == 1) (cond (tag == 2) (size % 2 == 0) (cond (tag == 3) (size == 2) (size == 0)))

-- what a known tag and a body of a length that fits say, the body beginning at an offset
abbrev pub says : ℕ → List ℕ → ℕ → Entry
says tag body offset =
    cond (tag == 1) (header (slice_index body 0))
    (cond (tag == 2) (clause body offset)
    (cond (tag == 3) (pin (word (slice_index body 0) (slice_index body 1)))
    finish))

-- what the record at an offset says
abbrev pub entry_at : List ℕ → ℕ → Entry
entry_at file at = says (tag_at file at) (take (size_at file at) (drop (at + 3) file)) (at + 3)

-- a refusal unless the test holds, and then the rest
abbrev pub refuses_unless : Bool → Fault → Reading → Reading
refuses_unless b f rest = cond b rest (refuses f)

-- the checks in their order: 50 the file has at most 65,535 bytes; 51 three bytes are here, and the body; 52 the tag is
-- known; 53 it is a header exactly if it is first; 54 the length fits; 55 the file stops after the end
abbrev pub read_at : List ℕ → ℕ → Reading
read_at file at =
    refuses_unless (nat_le (length file) 65535) (file_fault 50 0)
    (refuses_unless (nat_le (behind file at) (length file)) (file_fault 51 at)
    (refuses_unless (is_known (tag_at file at)) (file_fault 52 at)
    (refuses_unless (beq (tag_at file at == 1) (at == 0)) (file_fault 53 at)
    (refuses_unless (is_fit (tag_at file at) (size_at file at)) (file_fault 54 at)
    (refuses_unless (not (tag_at file at == 15) || behind file at == length file) (file_fault 55 at)
    (gives (entry_at file at) (behind file at)))))))

-- where a reader stands after a reading at an offset: behind the record, or still there
abbrev pub stands : Reading → ℕ → ℕ
stands (refuses f) at = at
stands (gives e n) at = n

-- the result of a read, and where the reader stands then, as a reading
abbrev pub reading_of : Result Record Fault → ℕ → Reading
reading_of (Ok x) n = gives (entry_of x) n
reading_of (Err f) n = refuses f

-- a record and the offset behind it, or a fault, as a reading
abbrev pub record_reading : Result (Record × ℕ) Fault → Reading
record_reading (Ok r) = gives (entry_of r.0) r.1
record_reading (Err f) = refuses f
