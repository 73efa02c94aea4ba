-- The tags of a sheet file's records.
use Rattle.std.specs.Prelude.{◌≡◌, ℕ, false, Ok, Err, Result}
use Rattle.laws.specs.declared.check.Check.{Check}
use Rattle.laws.specs.declared.check.Check.TheVariants.{RecordTag}
use Rattle.records.specs.declared.tag.Tag.{Tag}
use Rattle.records.specs.declared.tag.Tag.TheVariants.{Header, Clause, Pin, End}
use Rattle.records.specs.Reading.{is_known}

-- the byte of a tag
abbrev pub tag_number : Tag → ℕ
tag_number Header = 1
tag_number Clause = 2
tag_number Pin = 3
tag_number End = 15

-- a byte read as a tag: the tag that has it, or that it is none
abbrev pub Decodes : ℕ → Result Tag Check → Type 0
Decodes n (Ok t) = n ≡ tag_number t
Decodes n (Err c) = (is_known n ≡ false) × (c ≡ RecordTag)
