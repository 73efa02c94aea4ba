-- What a whole sheet file comes to, as a relation over its records.
use Rattle.std.specs.Prelude.{◌≡◌, ℕ, true, false, List, Ok, Err, Result}
use Rattle.laws.specs.declared.fault.Fault.{Fault}
use Rattle.records.specs.Entries.{Entry, is_end}
use Rattle.records.specs.Reading.{read_at, gives, refuses}
use Rattle.table.specs.declared.error.Error.{Error}
use Rattle.table.specs.declared.error.Error.TheVariants.{Refused, Memory}
use Rattle.verdict.specs.declared.hour.Hour.{Hour}
use Rattle.verdict.specs.Hours.{Asked, asked_of, nothing, Loaded, done, stopped, fed}

-- reading a file from an offset on, with the hour as it is there, comes to x
pub data Loading (src : List ℕ) : ℕ → Asked → Loaded → Type 0 where
  -- the end record is here
  ends : {at n : ℕ} {h : Asked} {e : Entry} → read_at src at ≡ gives e n → is_end e ≡ true → Loading src at h (done h)
  -- the file's own checks refuse what is here
  breaks : {at : ℕ} {h : Asked} {f : Fault} → read_at src at ≡ refuses f → Loading src at h (stopped f)
  -- a record is here that a table refuses
  stops : {at n : ℕ} {h : Asked} {e : Entry} {f : Fault} → read_at src at ≡ gives e n → fed h at e ≡ stopped f → Loading src at h (stopped f)
  -- a record is here, other than the end, and it goes on behind it
  goes : {at n : ℕ} {h k : Asked} {e : Entry} {x : Loaded} → read_at src at ≡ gives e n → is_end e ≡ false → fed h at e ≡ done k → Loading src n k x → Loading src at h x

-- what a whole file comes to, from its first record on
abbrev pub Loads : List ℕ → Loaded → Type 0
Loads src x = Loading src 0 (nothing 0) x

-- a load's answer is what the file comes to; want of memory says nothing of it
abbrev pub ReadAs : List ℕ → Result Hour Error → Type 0
ReadAs src (Ok h) = Loads src (done (asked_of h))
ReadAs src (Err (Refused f)) = Loads src (stopped f)
ReadAs src (Err Memory) = Unit {0}

-- one record fed
abbrev pub Fed : Asked → ℕ → Entry → Result (Unit {0}) Error → Asked → Type 0
Fed h at e (Ok x) k = fed h at e ≡ done k
Fed h at e (Err (Refused f)) k = fed h at e ≡ stopped f
Fed h at e (Err Memory) k = Unit {0}

-- every file comes to one thing, and to one only
pub record OneLoaded (src : List ℕ) : Type 0 where
  pub comes_to : Loaded
  pub so : Loads src comes_to
  pub only : (x : Loaded) → Loads src x → x ≡ comes_to

abbrev pub LoadsOne : Type 0
LoadsOne = (src : List ℕ) → OneLoaded src
