-- A record that was not taken ends the load with the same error.
use Rattle.std.proofs.Common.{◌≡◌, ℕ, List, Err}
use Rattle.laws.specs.declared.fault.Fault.{Fault}
use Rattle.records.specs.Entries.{Entry}
use Rattle.table.specs.declared.error.Error.{Error}
use Rattle.table.specs.declared.error.Error.TheVariants.{Refused, Memory}
use Rattle.verdict.specs.Hours.{Asked, stopped, fed}
use Rattle.verdict.specs.Loading.{Loads, ReadAs, Fed}

pub stopped_as : (src : List ℕ) (h k : Asked) (at : ℕ) (e : Entry) (x : Error)
    → Fed h at e (Err x) k → ((f : Fault) → fed h at e ≡ stopped f → Loads src (stopped f)) → ReadAs src (Err x)
stopped_as src h k at e (Refused f) fact on = on f fact
stopped_as src h k at e Memory fact on = tt
