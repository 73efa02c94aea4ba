-- Cover: a clause that contains all literals of another one is removed (subsumption).
use Rattle.std.specs.Prelude.{◌≡◌, ℕ, ◌<◌, Bool, cond, not, ◌&&◌, ◌||◌, List, [], ◌∷◌, ◌++◌, length, Contains, ◌≢◌, nat_lt, slice_index_or}
use Rattle.laws.specs.Lists.{any, every, has}
use Rattle.laws.specs.Reductions.{ReductionMeaning, Points}
use Rattle.laws.specs.Rules.{Next, RuleMeaning, Safe, Repeats, ran}
use Rattle.laws.specs.Rules.Next.{stop, step}
use Rattle.laws.specs.Tables.{Tab, Lawful}

-- all literals of C stand in D: C lies in D
abbrev pub inside : List ℕ → List ℕ → Bool
inside C D = every (λ l. has l D) C

-- C is covered where these clauses stand before it and behind it: one before it lies in it, or one behind it lies in it
-- and is not equal to it. So of equal clauses the lowest position stays
abbrev pub covered : List (List ℕ) → List ℕ → List (List ℕ) → Bool
covered before C behind = any (λ D. inside D C) before || any (λ D. inside D C && not (inside C D)) behind

-- the clauses that are not covered, where others stand before them
abbrev pub uncovered : List (List ℕ) → List (List ℕ) → List (List ℕ)
uncovered before [] = []
uncovered before (C ∷ Cs) =
    cond (covered before C Cs) (uncovered (before ++ C ∷ []) Cs) (C ∷ uncovered (before ++ C ∷ []) Cs)

-- all at once, the covered clauses are removed
abbrev pub uncover : Tab → Tab
uncover t = record { last = t.last; clauses = uncovered [] t.clauses }

-- the reduction: one pass, and nothing to be done on the way back
abbrev pub cover : ReductionMeaning
cover = record { smaller = uncover; back = λ _ p. p }

-- the same as a rule: a step as long as a clause is covered
unfoldable pub cover_next : List (Unit {0}) → Tab → Next (Unit {0})
cover_next notes t = cond (nat_lt (length (uncover t).clauses) (length t.clauses)) (step tt (uncover t)) stop

abbrev pub cover_rule : RuleMeaning (Unit {0})
cover_rule = record { next = cover_next; undo = λ _ p. p; size = λ t. length t.clauses }

-- no clause contains all literals of another one
abbrev pub NoCovered : List (List ℕ) → Type 0
NoCovered Cs =
    (i j : ℕ) → i < length Cs → j < length Cs → (i ≢ j) → ((l : ℕ) → Contains (slice_index_or Cs i []) l → Contains (slice_index_or Cs j []) l) → ⊥

-- cover has the three points, once is enough, and at its end no clause contains another
pub record CoverLaw : Type 0 where
  pub points : (t : Tab) → Lawful t → Points cover t
  pub safe : Safe cover_rule
  pub repeats : (t : Tab) → Lawful t → Repeats cover_rule t
  pub once : (t : Tab) → Lawful t → (ran cover_rule t).table ≡ uncover t
  pub again : (t : Tab) → Lawful t → uncover (uncover t) ≡ uncover t
  pub ended : (t : Tab) → Lawful t → NoCovered (uncover t).clauses
