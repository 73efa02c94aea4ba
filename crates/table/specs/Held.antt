-- What a table holds, and what a call that may change it leaves.
use Rattle.std.specs.Prelude.{◌≡◌, ℕ, List, map, length, Some, None, Ok, Err, vec_items, Option, Result}
use Rattle.laws.specs.declared.fault.Fault.{Fault}
use Rattle.laws.specs.Checks.{refusal, table_limits}
use Rattle.laws.specs.Clauses.{literals}
use Rattle.laws.specs.Tables.{Tab, with_clause}
use Rattle.table.specs.declared.error.Error.{Error}
use Rattle.table.specs.declared.error.Error.TheVariants.{Refused, Memory}
use Rattle.table.specs.declared.table.Table.{Table}
use Rattle.table.specs.Codes.{codes_of}

-- its clauses, by their codes
abbrev pub clauses_of : Table → List (List ℕ)
clauses_of t = map codes_of (vec_items t.clauses)

-- the table as mathematics has it
abbrev pub tab_of : Table → Tab
tab_of t = record { last = t.last; clauses = clauses_of t }

-- the first check of a table that a list of codes fails, if any
abbrev pub refusal_of : Tab → List ℕ → Option Fault
refusal_of t codes = refusal table_limits t.last (length t.clauses) (literals t.clauses) codes

-- a clause was handed to the table t, which is u now: taken, refused, or not done for want of memory.
-- Only a clause that passes every check can meet want of memory.
abbrev pub Taken : Tab → List ℕ → Result (Unit {0}) Error → Tab → Type 0
Taken t codes (Ok x) u = (refusal_of t codes ≡ None) × (u ≡ with_clause t codes)
Taken t codes (Err (Refused f)) u = (refusal_of t codes ≡ Some f) × (u ≡ t)
Taken t codes (Err Memory) u = (refusal_of t codes ≡ None) × (u ≡ t)
