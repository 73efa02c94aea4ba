-- The numbers by which a fault says who refused and which check failed.
use Rattle.std.specs.Prelude.{◌≡◌, ℕ, Ok, Err, Result, ◌≢◌}
use Rattle.laws.specs.declared.check.Check.{Check}
use Rattle.laws.specs.declared.check.Check.TheVariants.{ClauseSize, CodeRange, ChoiceOnce, ClauseCount, LiteralCount, NotPinned, PinCount, Pinned, PlanSize, SplitCount, ListedChoices, FileSize, RecordWhole, RecordTag, HeaderFirst, RecordLength, EndLast, FileBuffer}
use Rattle.laws.specs.declared.check.UnknownCheck.{UnknownCheck}
use Rattle.laws.specs.declared.layer.Layer.{Layer}
use Rattle.laws.specs.declared.layer.Layer.TheVariants.{File, Sheet, Pile}

-- who refused
abbrev pub layer_number : Layer → ℕ
layer_number File = 1
layer_number Sheet = 2
layer_number Pile = 3

-- which check failed: 11 to 15 of a clause, 21 to 23 of pins, 31 of a plan's buffer, 41 and 42 of solvers, 50 to 56 of files
abbrev pub check_number : Check → ℕ
check_number ClauseSize = 11
check_number CodeRange = 12
check_number ChoiceOnce = 13
check_number ClauseCount = 14
check_number LiteralCount = 15
check_number NotPinned = 21
check_number PinCount = 22
check_number Pinned = 23
check_number PlanSize = 31
check_number SplitCount = 41
check_number ListedChoices = 42
check_number FileSize = 50
check_number RecordWhole = 51
check_number RecordTag = 52
check_number HeaderFirst = 53
check_number RecordLength = 54
check_number EndLast = 55
check_number FileBuffer = 56

-- a number read as a check: the check that has it, or that none has it
abbrev pub Decodes : ℕ → Result Check UnknownCheck → Type 0
Decodes n (Ok c) = n ≡ check_number c
Decodes n (Err e) = ((c : Check) → n ≢ check_number c) × (e ≡ record { 0 = n })
