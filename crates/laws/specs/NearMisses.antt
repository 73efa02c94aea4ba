-- Near misses: rules that look right and are wrong, each with a small table that shows it, all of them one fact.
use Rattle.std.specs.Prelude.{◌≡◌, ℕ, true, false, cond, List, [], ◌∷◌, ◌++◌, reverse}
use Rattle.laws.specs.Blocked.{blocked}
use Rattle.laws.specs.Cases.{table_of, leaves, leads}
use Rattle.laws.specs.Clauses.{all_true, lawful}
use Rattle.laws.specs.Colour.{Property, coloured, marked, sign}
use Rattle.laws.specs.Cover.{cover, inside}
use Rattle.laws.specs.Eliminate.{eliminate}
use Rattle.laws.specs.Faults.{fault}
use Rattle.laws.specs.Lists.{any, every}
use Rattle.laws.specs.Outcomes.Outcome.{planned, refused}
use Rattle.laws.specs.Reductions.{ReductionMeaning}
use Rattle.laws.specs.Resolving.{clash, resolvent}
use Rattle.laws.specs.Rules.{RuleMeaning, ran, repeated, undo_all}
use Rattle.laws.specs.Setting.{assigned}
use Rattle.laws.specs.Splitter.{blank, splitter}
use Rattle.laws.specs.Tables.{Tab}

-- wrong: a repeated rule whose notes are used first to last
abbrev pub oldest_first : {N : Type 0} → RuleMeaning N → ReductionMeaning
oldest_first r = record { smaller = λ t. (ran r t).table; back = λ t p. undo_all r (reverse (ran r t).notes) p }

-- on lawful clauses, for a plan that makes true what the rule leaves of them: the notes used last to first lead it to a
-- plan that makes the clauses true, and used first to last to one that does not
pub record OrderMatters {N : Type 0} (r : RuleMeaning N) (n : ℕ) (Cs : List (List ℕ)) (p : List ℕ) : Type 0 where
  pub table : every (lawful n) Cs ≡ true
  pub below : all_true p (leaves (repeated r) n Cs) ≡ true
  pub last_to_first : all_true (leads (repeated r) n Cs p) Cs ≡ true
  pub first_to_last : all_true (leads (oldest_first r) n Cs p) Cs ≡ false

-- wrong: a colour step that sets the literals with the property, not their negations
abbrev pub set_marked : Property → Tab → Tab
set_marked f t = assigned (marked f t) t

-- wrong: the clauses in which no clause of another position lies, where others stand before them
abbrev pub bare : List (List ℕ) → List (List ℕ) → List (List ℕ)
bare before [] = []
bare before (C ∷ Cs) =
    cond (any (λ D. inside D C) (before ++ Cs)) (bare (before ++ C ∷ []) Cs) (C ∷ bare (before ++ C ∷ []) Cs)

-- {0,3},{1,3}: colour with sign takes a step
abbrev pub signed : List (List ℕ)
signed = (0 ∷ 3 ∷ []) ∷ (1 ∷ 3 ∷ []) ∷ []

-- {0},{0}: equal clauses at two positions
abbrev pub twice : List (List ℕ)
twice = (0 ∷ []) ∷ (0 ∷ []) ∷ []

pub record NearMisses : Type 0 where
  -- notes used first to last. On {0},{1,2} blocked leads 0 0 back to 1 1, and in the wrong order to 1 0, which makes
  -- {1,2} false
  pub blocked_order : OrderMatters blocked 1 ((0 ∷ []) ∷ (1 ∷ 2 ∷ []) ∷ []) (0 ∷ 0 ∷ [])
  -- on {0,2},{1} eliminate leads 0 0 back to 0 1, and in the wrong order to 1 1, which makes {1} false
  pub eliminate_order : OrderMatters eliminate 1 ((0 ∷ 2 ∷ []) ∷ (1 ∷ []) ∷ []) (0 ∷ 0 ∷ [])
  -- colour that sets the literals with the property: on {0,3},{1,3} there is a step with sign and 0 0 makes both true;
  -- with 0 and 2 set an empty clause is left, which no plan makes true
  pub sign_steps : coloured sign (table_of 1 signed) ≡ true
  pub sign_possible : all_true (0 ∷ 0 ∷ []) signed ≡ true
  pub sign_set : (set_marked sign (table_of 1 signed)).clauses ≡ [] ∷ []
  pub sign_refuted : (p : List ℕ) → all_true p (set_marked sign (table_of 1 signed)).clauses ≡ false
  -- a resolvent of clauses that clash on a second choice: {0,2} and {1,3} are lawful and clash, and their resolvent of
  -- choice 0, {2,3}, is not lawful
  pub clash_lawful : every (lawful 1) ((0 ∷ 2 ∷ []) ∷ (1 ∷ 3 ∷ []) ∷ []) ≡ true
  pub clash_found : clash 0 (0 ∷ 2 ∷ []) (1 ∷ 3 ∷ []) ≡ true
  pub clash_resolvent : resolvent 0 (0 ∷ 2 ∷ []) (1 ∷ 3 ∷ []) ≡ 2 ∷ 3 ∷ []
  pub clash_unlawful : lawful 1 (resolvent 0 (0 ∷ 2 ∷ []) (1 ∷ 3 ∷ [])) ≡ false
  -- equal clauses that cover each other away: of {0},{0} cover leaves one; without its rule on positions none is left,
  -- and the blank plan, which makes {0} false, would be led back as it is
  pub equal_cover : leaves cover 0 twice ≡ (0 ∷ []) ∷ []
  pub equal_bare : bare [] twice ≡ []
  pub equal_below : all_true (blank 0) (bare [] twice) ≡ true
  pub equal_broken : all_true (blank 0) twice ≡ false
  -- 41 turned into none: with limit 0 the splitter refuses {0,2} with 41, and 1 0 makes it true
  pub limit_refuses : splitter 0 (table_of 1 ((0 ∷ 2 ∷ []) ∷ [])) ≡ refused (fault 3 41 0)
  pub limit_possible : all_true (1 ∷ 0 ∷ []) ((0 ∷ 2 ∷ []) ∷ []) ≡ true
  pub limit_enough : splitter 1 (table_of 1 ((0 ∷ 2 ∷ []) ∷ [])) ≡ planned (1 ∷ 0 ∷ []) 1
