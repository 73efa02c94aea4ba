-- The checks of a clause in the subject's words: which one fails first, or that all pass.
use Rattle.std.specs.Prelude.{◌≡◌, ℕ, ◌+◌, ◌<◌, ◌≤◌, ◌↔◌, List, length, Some, None, slice_index}
use Rattle.laws.specs.declared.fault.Fault.{Fault}
use Rattle.laws.specs.Faults.{fault}
use Rattle.laws.specs.Literals.{choice, top}
use Rattle.laws.specs.Clauses.{literals}
use Rattle.laws.specs.Checks.{Limits, refusal, table_limits}
use Rattle.laws.specs.Tables.{Tab, Lawful, with_clause}

-- a clause has 1 to 256 codes
abbrev pub Sized : List ℕ → Type 0
Sized codes = (0 < length codes) × (length codes ≤ 256)

-- no code before place i is above the largest one
abbrev pub LowBefore : ℕ → List ℕ → ℕ → Type 0
LowBefore n codes i = (j : ℕ) → j < i → slice_index codes j ≤ top n

-- the choice at place i stood before
abbrev pub Repeats : List ℕ → ℕ → Type 0
Repeats codes i = (j : ℕ) × (j < i) × (choice (slice_index codes j) ≡ choice (slice_index codes i))

-- no choice before place i stood before
abbrev pub OnceBefore : List ℕ → ℕ → Type 0
OnceBefore codes i = (k : ℕ) → k < i → Repeats codes k → ⊥

-- the first check that fails, by its number and place: each says that the earlier ones pass and that it fails
pub data Fails (most : Limits) (n clauses literals : ℕ) (codes : List ℕ) : ℕ → ℕ → Type 0 where
  size : (Sized codes → ⊥) → Fails most n clauses literals codes 11 0
  above :
      (i : ℕ) → Sized codes → i < length codes → LowBefore n codes i → top n < slice_index codes i
      → Fails most n clauses literals codes 12 i
  again :
      (i : ℕ) → Sized codes → LowBefore n codes (length codes) → i < length codes → OnceBefore codes i → Repeats codes i
      → Fails most n clauses literals codes 13 i
  full :
      Sized codes → LowBefore n codes (length codes) → OnceBefore codes (length codes) → most.clauses ≤ clauses
      → Fails most n clauses literals codes 14 0
  large :
      Sized codes → LowBefore n codes (length codes) → OnceBefore codes (length codes) → clauses < most.clauses
      → most.literals < literals + length codes → Fails most n clauses literals codes 15 0

-- all five checks pass
pub record Passes (most : Limits) (n clauses literals : ℕ) (codes : List ℕ) : Type 0 where
  pub sized : Sized codes
  pub low : LowBefore n codes (length codes)
  pub once : OnceBefore codes (length codes)
  pub few : clauses < most.clauses
  pub small : literals + length codes ≤ most.literals

-- a list of codes is refused with a fault exactly if that is the fault of the first check that fails, and not refused
-- exactly if all pass
pub record Judged (most : Limits) (n clauses literals : ℕ) (codes : List ℕ) : Type 0 where
  pub refuses :
      (f : Fault)
      → (refusal most n clauses literals codes ≡ Some f)
      ↔ ((number place : ℕ) × (f ≡ fault most.layer number place) × Fails most n clauses literals codes number place)
  pub accepts : (refusal most n clauses literals codes ≡ None) ↔ Passes most n clauses literals codes

-- this holds of every list of codes
abbrev pub Checking : Type 0
Checking = (most : Limits) (n clauses literals : ℕ) (codes : List ℕ) → Judged most n clauses literals codes

-- the place of a refusal is below 256
abbrev pub Placing : Type 0
Placing =
    (most : Limits) (n clauses literals : ℕ) (codes : List ℕ) (f : Fault)
    → refusal most n clauses literals codes ≡ Some f → f.place < 256

-- a lawful table that does not refuse a clause of these codes is lawful with it
abbrev pub Taking : Type 0
Taking =
    (t : Tab) (codes : List ℕ)
    → Lawful t
    → refusal table_limits t.last (length t.clauses) (literals t.clauses) codes ≡ None
    → Lawful (with_clause t codes)
