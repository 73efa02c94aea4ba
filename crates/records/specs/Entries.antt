-- What a record of a sheet file says, and the bytes that say it.
use Rattle.std.specs.Prelude.{ℕ, Bool, true, false, List, [], ◌∷◌}
use Rattle.records.specs.Bytes.{framed, in_two}
use Rattle.records.specs.declared.record.Record.{Record}
use Rattle.records.specs.declared.record.Record.TheVariants.{Header, Clause, Pin, End}

-- the last choice; a clause, by the bytes of its codes and their offset in the file; a pinned literal; the end
pub data Entry : Type 0 where
  header : ℕ → Entry
  clause : List ℕ → ℕ → Entry
  pin : ℕ → Entry
  finish : Entry

-- what a record of the code says
abbrev pub entry_of : Record → Entry
entry_of (Header n) = header n
entry_of (Clause part at) = clause part.now at
entry_of (Pin l) = pin l
entry_of End = finish

-- the record is the end
abbrev pub is_end : Entry → Bool
is_end (header n) = false
is_end (clause bytes at) = false
is_end (pin l) = false
is_end finish = true

-- the bytes of a record in a file: 1 is the tag of the header, 2 of a clause, 3 of a pin, 15 of the end
abbrev pub bytes_of : Entry → List ℕ
bytes_of (header n) = framed 1 (n ∷ [])
bytes_of (clause bytes at) = framed 2 bytes
bytes_of (pin l) = framed 3 (in_two l)
bytes_of finish = framed 15 []
