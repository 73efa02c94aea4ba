-- How a table's error becomes a failure of the audit.
use Rattle.table.specs.declared.error.Error.{Error}
use Rattle.table.specs.declared.error.Error.TheVariants.{Refused, Memory}
use Rattle.verdict.specs.declared.failure.Failure.{Failure}
use Rattle.verdict.specs.declared.failure.Failure.TheVariants as cases

abbrev pub from_error : Error → Failure
from_error (Refused f) = cases.Sheet f
from_error Memory = cases.Memory
