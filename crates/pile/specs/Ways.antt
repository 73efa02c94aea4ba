-- The way back that a reduction holds, and what a call does with it.
use Rattle.std.specs.Prelude.{◌≡◌, ℕ, ◌+◌, cond, List, ◌++◌, length, take, drop, Ok, Err, Result, nat_lt}
use Rattle.laws.specs.declared.fault.Fault.{Fault}
use Rattle.laws.specs.Reductions.{ReductionMeaning}
use Rattle.laws.specs.Tables.{Tab}
use Rattle.table.specs.Judged.{enough}

-- how many bytes it wants, and what becomes of them
pub record Way : Type 0 where
  pub bytes : ℕ
  pub apply : List ℕ → List ℕ

-- a fresh reduction holds the way that alters nothing and refuses no buffer
abbrev pub fresh : Way
fresh = record { bytes = 0; apply = λ p. p }

-- the way back of a table
abbrev pub way_of : ReductionMeaning → Tab → Way
way_of m t = record { bytes = t.last + 1; apply = m.back t }

-- a reduction by m of table t, holding h, left table u, holding k: the smaller table and its way back; or want of
-- memory, which leaves the way that was held, and of the table the last choice
abbrev pub Reduced : {E : Type 0} → ReductionMeaning → Tab → Way → Result (Unit {0}) E → Tab → Way → Type 0
Reduced m t h (Ok x) u k = (u ≡ m.smaller t) × (k ≡ way_of m t)
Reduced m t h (Err e) u k = (u.last ≡ t.last) × (k ≡ h)

-- a buffer shorter than the way wants is refused with 31
abbrev pub rebuild_result : Way → List ℕ → Result (Unit {0}) Fault
rebuild_result w b = enough w.bytes b

-- the way applied to the buffer's front; the rest stays, and so does all of a buffer that is too short
abbrev pub rebuilt : Way → List ℕ → List ℕ
rebuilt w b = cond (nat_lt (length b) w.bytes) b (w.apply (take w.bytes b) ++ drop w.bytes b)
