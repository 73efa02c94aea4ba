-- Faults by name, and the outcome of a call that may refuse.
use Rattle.std.specs.Prelude.{ℕ, Some, None, Ok, Err, Option, Result}
use Rattle.laws.specs.declared.fault.Fault.{Fault}

-- a fault of a layer: its number and its place; depth and offset are 0
abbrev pub fault : ℕ → ℕ → ℕ → Fault
fault layer number place = record { layer = layer; depth = 0; number = number; place = place; offset = 0 }

-- a file's fault: its number and the record's offset
abbrev pub file_fault : ℕ → ℕ → Fault
file_fault number offset = record { layer = 1; depth = 0; number = number; place = 0; offset = offset }

-- a check's outcome: nothing refused, or the fault
abbrev pub passes : Option Fault → Result (Unit {0}) Fault
passes None = Ok tt
passes (Some f) = Err f
