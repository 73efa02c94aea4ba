-- What a sheet file asks of the hour, and how each of its records adds to it.
use Rattle.std.specs.Prelude.{ℕ, [], ◌∷◌, Some, None, Option}
use Rattle.laws.specs.declared.fault.Fault.{Fault}
use Rattle.laws.specs.Tables.{Tab, empty, with_clause}
use Rattle.records.specs.Bytes.{words}
use Rattle.records.specs.Entries.{Entry, header, clause, pin, finish}
use Rattle.table.specs.Held.{tab_of, refusal_of}
use Rattle.verdict.specs.declared.hour.Hour.{Hour}

-- the clauses, and the pins as clauses of one literal
pub record Asked : Type 0 where
  pub clauses : Tab
  pub pins : Tab

abbrev pub asked_of : Hour → Asked
asked_of h = record { clauses = tab_of h.clauses; pins = tab_of h.pins }

-- an hour begins with neither
abbrev pub nothing : ℕ → Asked
nothing n = record { clauses = empty n; pins = empty n }

-- what came of reading: the hour, or the refusal
pub data Loaded : Type 0 where
  done : Asked → Loaded
  stopped : Fault → Loaded

-- a refusal of the record at an offset
abbrev pub at_offset : ℕ → Fault → Fault
at_offset at f = record { layer = f.layer; depth = f.depth; number = f.number; place = f.place; offset = at }

-- the hour, unless the record at an offset is refused
abbrev pub unless_refused : ℕ → Option Fault → Asked → Loaded
unless_refused at None h = done h
unless_refused at (Some f) h = stopped (at_offset at f)

-- the hour after the record at an offset: the header makes it anew, a clause and a pin are added if a table takes them
abbrev pub fed : Asked → ℕ → Entry → Loaded
fed h at (header n) = done (nothing n)
fed h at (clause bytes offset) =
    unless_refused at (refusal_of h.clauses (words bytes)) (record { clauses = with_clause h.clauses (words bytes); pins = h.pins })
fed h at (pin l) =
    unless_refused at (refusal_of h.pins (l ∷ [])) (record { clauses = h.clauses; pins = with_clause h.pins (l ∷ []) })
fed h at finish = done h
