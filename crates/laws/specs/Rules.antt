-- Rules: reductions that repeat a step until no step is left, and lead back by notes, the last one first.
use Rattle.std.specs.Prelude.{◌≡◌, ℕ, zero, suc, ◌<◌, true, List, [], ◌∷◌}
use Rattle.laws.specs.Clauses.{all_true}
use Rattle.laws.specs.Plans.{PlanOf, Possible}
use Rattle.laws.specs.Reductions.{ReductionMeaning, NoLarger, Points}
use Rattle.laws.specs.Tables.{Tab, Lawful}

-- what a rule does next: no step is left, or one with its note and the table after it
pub data Next (N : Type 0) : Type 0 where
  stop : Next N
  step : N → Tab → Next N

-- a rule: its next step, at the notes so far (the newest first) and a table; how a note is used on the way back; and a
-- number that falls with each step
pub record RuleMeaning (N : Type 0) : Type 0 where
  pub next : List N → Tab → Next N
  pub undo : N → List ℕ → List ℕ
  pub size : Tab → ℕ

-- where a run ends: its notes, the newest first, and its table
pub record Ran (N : Type 0) : Type 0 where
  pub notes : List N
  pub table : Tab

-- from t with the notes so far, the steps of a rule, one after another, end at v with notes ms, where no step is left
pub data Runs {N : Type 0} (r : RuleMeaning N) : List N → Tab → List N → Tab → Type 0 where
  ends : {notes : List N} {t : Tab} → r.next notes t ≡ stop → Runs r notes t notes t
  goes :
      {notes ms : List N} {t u v : Tab} {n : N} → r.next notes t ≡ step n u → Runs r (n ∷ notes) u ms v
      → Runs r notes t ms v

module _ {N : Type 0} where
  -- at most k steps
  unfoldable pub run_from : RuleMeaning N → ℕ → List N → Tab → Ran N
  run_from r zero notes t = record { notes = notes; table = t }
  run_from r (suc k) notes t =
      elim (r.next notes t) [ stop ↦ record { notes = notes; table = t } | step n u ↦ run_from r k (n ∷ notes) u ]

  -- the whole run: a table has fewer steps than its size and one
  abbrev pub ran : RuleMeaning N → Tab → Ran N
  ran r t = run_from r (suc (r.size t)) [] t

  -- the notes used one after another, the newest first
  abbrev pub undo_all : RuleMeaning N → List N → List ℕ → List ℕ
  undo_all r [] p = p
  undo_all r (n ∷ ns) p = undo_all r ns (r.undo n p)

  -- the reduction that repeats a rule
  abbrev pub repeated : RuleMeaning N → ReductionMeaning
  repeated r = record { smaller = λ t. (ran r t).table; back = λ t p. undo_all r (ran r t).notes p }

  -- what one step owes: the table after it is lawful and no larger, its note leads plans to plans and makes true what
  -- the step took away, what some plan makes true some plan still does, and the size falls
  pub record GoodStep (r : RuleMeaning N) (t : Tab) (n : N) (u : Tab) : Type 0 where
    pub table : Lawful u
    pub no_larger : NoLarger t u
    pub plans : (p : List ℕ) → PlanOf t.last p → PlanOf t.last (r.undo n p)
    pub back :
        (p : List ℕ) → PlanOf t.last p → all_true p u.clauses ≡ true → all_true (r.undo n p) t.clauses ≡ true
    pub possible : Possible t → Possible u
    pub falls : r.size u < r.size t

  -- each step of the rule, from each lawful table, owes it
  abbrev pub Safe : RuleMeaning N → Type 0
  Safe r = (notes : List N) (t : Tab) → Lawful t → (n : N) (u : Tab) → r.next notes t ≡ step n u → GoodStep r t n u

  -- what a repeated rule shows of a table: the three points; its run is a run, there is no other, and no step is left
  pub record Repeats (r : RuleMeaning N) (t : Tab) : Type 0 where
    pub points : Points (repeated r) t
    pub runs : Runs r [] t (ran r t).notes (ran r t).table
    pub only :
        (ms : List N) (v : Tab) → Runs r [] t ms v → (ms ≡ (ran r t).notes) × (v ≡ (ran r t).table)
    pub no_step_left : r.next (ran r t).notes (ran r t).table ≡ stop

-- for every rule whose steps are safe, and every lawful table
abbrev pub Repetition : Type 0 → Type 0
Repetition N = (r : RuleMeaning N) → Safe r → (t : Tab) → Lawful t → Repeats r t
