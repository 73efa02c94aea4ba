-- Which refusal a reading comes to: that of the first check that fails.
use Rattle.std.specs.Prelude.{◌≡◌, ℕ, ◌+◌, ◌%◌, ◌<◌, ◌≤◌, cond, ◌⊎◌, List, length, ◌==◌}
use Rattle.laws.specs.declared.fault.Fault.{Fault}
use Rattle.laws.specs.Faults.{file_fault}
use Rattle.records.specs.Reading.{read_at, refuses, tag_at, size_at}

-- the file is not too long
abbrev pub Few : List ℕ → Type 0
Few file = length file ≤ 65535

-- three bytes are here, and then the body
abbrev pub Whole : List ℕ → ℕ → Type 0
Whole file at = (at + 3 ≤ length file) × (at + 3 + size_at file at ≤ length file)

-- the tag is that of a header, a clause, a pin or the end
abbrev pub Known : ℕ → Type 0
Known tag = (tag ≡ 1) ⊎ ((tag ≡ 2) ⊎ ((tag ≡ 3) ⊎ (tag ≡ 15)))

-- it is a header exactly if it is first
abbrev pub Placed : ℕ → ℕ → Type 0
Placed tag at = (tag ≡ 1 → at ≡ 0) × (at ≡ 0 → tag ≡ 1)

-- the length of the body fits: 1 for a header, even for a clause, 2 for a pin, 0 for the end
pub record Fit (tag size : ℕ) : Type 0 where
  pub header : tag ≡ 1 → size ≡ 1
  pub clause : tag ≡ 2 → size % 2 ≡ 0
  pub pin : tag ≡ 3 → size ≡ 2
  pub finish : tag ≡ 15 → size ≡ 0

-- the first check that the record at an offset fails, by its number
pub data Refuses (file : List ℕ) (at : ℕ) : ℕ → Type 0 where
  too_long : 65535 < length file → Refuses file at 50
  cut_short : Few file → (Whole file at → ⊥) → Refuses file at 51
  unknown : Few file → Whole file at → (Known (tag_at file at) → ⊥) → Refuses file at 52
  misplaced : Few file → Whole file at → Known (tag_at file at) → (Placed (tag_at file at) at → ⊥) → Refuses file at 53
  unfit : Few file → Whole file at → Known (tag_at file at) → Placed (tag_at file at) at →
      (Fit (tag_at file at) (size_at file at) → ⊥) → Refuses file at 54
  not_last : Few file → Whole file at → Known (tag_at file at) → Placed (tag_at file at) at →
      Fit (tag_at file at) (size_at file at) → tag_at file at ≡ 15 → at + 3 + size_at file at < length file →
      Refuses file at 55

-- a check's fault: 50 speaks of the whole file and has offset 0, any other has the record's offset
abbrev pub fault_at : ℕ → ℕ → Fault
fault_at number at = file_fault number (cond (number == 50) 0 at)

-- a reading refuses exactly where a check fails, with the fault of the first that does
pub record RefusesFirst (file : List ℕ) (at : ℕ) : Type 0 where
  pub found : (f : Fault) → read_at file at ≡ refuses f →
      (number : ℕ) × Refuses file at number × (f ≡ fault_at number at)
  pub told : (number : ℕ) → Refuses file at number → read_at file at ≡ refuses (fault_at number at)

-- so it is at every offset of every file
abbrev pub RefusesTheFirst : Type 0
RefusesTheFirst = (file : List ℕ) (at : ℕ) → RefusesFirst file at
