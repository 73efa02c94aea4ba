-- A refusal with the offset of the record that met it.
use Rattle.std.specs.Prelude.{ℕ}
use Rattle.table.specs.declared.error.Error.{Error}
use Rattle.table.specs.declared.error.Error.TheVariants.{Refused, Memory}
use Rattle.verdict.specs.Hours.{at_offset}

abbrev pub offset_by : ℕ → Error → Error
offset_by at (Refused f) = Refused (at_offset at f)
offset_by at Memory = Memory
