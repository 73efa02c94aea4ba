-- The limits that code holds, as the checks read them.
use Rattle.laws.specs.Checks as checks
use Rattle.laws.specs.Numbers.{layer_number}
use Rattle.table.specs.declared.checks.Limits.{Limits}

abbrev pub limits_of : Limits → checks.Limits
limits_of m = record { layer = layer_number m.layer; clauses = m.clauses; literals = m.literals }
