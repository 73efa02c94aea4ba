-- The whole run over a file: record after record, up to the end record or the first refusal.
use Rattle.std.specs.Prelude.{◌≡◌, ℕ, zero, suc, ◌+◌, ◌-◌, false, cond, List, [], ◌∷◌, length, Ok, Err, Result}
use Rattle.laws.specs.declared.fault.Fault.{Fault}
use Rattle.laws.specs.Faults.{file_fault}
use Rattle.records.specs.Entries.{Entry, finish, is_end}
use Rattle.records.specs.Reading.{Reading, refuses, gives, read_at}

-- what a run comes to: the end record; a refusal; or a record, and then what comes behind it
pub data Script : Type 0 where
  ends : Script
  broken : Fault → Script
  more : Entry → Script → Script

-- the run over a file from an offset on: the end record here ends it; a refusal here breaks it; any other record here is
-- followed by the run from behind it
pub data Runs (file : List ℕ) : ℕ → Script → Type 0 where
  at_end : {at next : ℕ} → read_at file at ≡ gives finish next → Runs file at ends
  at_fault : {at : ℕ} {f : Fault} → read_at file at ≡ refuses f → Runs file at (broken f)
  at_record : {at next : ℕ} {e : Entry} {s : Script} → read_at file at ≡ gives e next → is_end e ≡ false →
      Runs file next s → Runs file at (more e s)

-- a reading, carried on by what comes from the offset behind its record
abbrev pub carried : Reading → (ℕ → Script) → Script
carried (refuses f) rest = broken f
carried (gives e next) rest = cond (is_end e) ends (more e (rest next))

-- the run in so many readings at most; a run never comes to the last of them
unfoldable pub follow : ℕ → List ℕ → ℕ → Script
follow zero file at = broken (file_fault 51 at)
follow (suc fuel) file at = carried (read_at file at) (λ next. follow fuel file next)

-- the run: each reading goes on by three bytes or more, so that there are never more of them than bytes
abbrev pub script : List ℕ → ℕ → Script
script file at = follow (length file - at + 1) file at

-- how many records a run has, the end included and n before them, or its refusal
abbrev pub counted : ℕ → Script → Result ℕ Fault
counted n ends = Ok (n + 1)
counted n (broken f) = Err f
counted n (more e s) = counted (n + 1) s

-- how many records a run has, the end included, or its refusal
abbrev pub verdict : Script → Result ℕ Fault
verdict s = counted 0 s

-- the executable run is the one script that the relation holds of
pub record OneScript (file : List ℕ) (at : ℕ) : Type 0 where
  pub runs : Runs file at (script file at)
  pub only : (s : Script) → Runs file at s → s ≡ script file at

-- so it is from every offset of every file
abbrev pub RunsOneScript : Type 0
RunsOneScript = (file : List ℕ) (at : ℕ) → OneScript file at

-- records, one after another, and then a script
abbrev pub behind_all : List Entry → Script → Script
behind_all [] s = s
behind_all (e ∷ es) s = more e (behind_all es s)

-- what a scan answers: a number exactly if the run from the first record ends after so many records, and a fault exactly
-- if it breaks with this one
pub record Scanned (file : List ℕ) (r : Result ℕ Fault) : Type 0 where
  pub counts : (k : ℕ) → r ≡ Ok k → (es : List Entry) × Runs file 0 (behind_all es ends) × (k ≡ length es + 1)
  pub counted_so : (es : List Entry) → Runs file 0 (behind_all es ends) → r ≡ Ok (length es + 1)
  pub breaks : (f : Fault) → r ≡ Err f → (es : List Entry) × Runs file 0 (behind_all es (broken f))
  pub broken_so : (es : List Entry) (f : Fault) → Runs file 0 (behind_all es (broken f)) → r ≡ Err f
