-- The worked cases: what the definitions give on small tables, all of them one fact.
use Rattle.std.specs.Prelude.{◌≡◌, ℕ, List, [], ◌∷◌}
use Rattle.laws.specs.Blocked.{blocked}
use Rattle.laws.specs.Colour.{colour, scarce, sign}
use Rattle.laws.specs.Cover.{cover}
use Rattle.laws.specs.Eliminate.{eliminate}
use Rattle.laws.specs.Faults.{fault}
use Rattle.laws.specs.Lister.{lister}
use Rattle.laws.specs.Lone.{lone}
use Rattle.laws.specs.Outcomes.Outcome.{planned, never, refused}
use Rattle.laws.specs.Reductions.{ReductionMeaning}
use Rattle.laws.specs.Rules.{repeated}
use Rattle.laws.specs.Splitter.{splitter}
use Rattle.laws.specs.Tables.{Tab}
use Rattle.laws.specs.Trim.{trim}

-- a table of choices 0 to n
abbrev pub table_of : ℕ → List (List ℕ) → Tab
table_of n Cs = record { last = n; clauses = Cs }

-- what a reduction leaves of clauses
abbrev pub leaves : ReductionMeaning → ℕ → List (List ℕ) → List (List ℕ)
leaves r n Cs = (r.smaller (table_of n Cs)).clauses

-- where a reduction leads a plan back to
abbrev pub leads : ReductionMeaning → ℕ → List (List ℕ) → List ℕ → List ℕ
leads r n Cs p = r.back (table_of n Cs) p

-- {0,2},{0,3},{1,2},{1,3}: no plan
abbrev pub four : List (List ℕ)
four = (0 ∷ 2 ∷ []) ∷ (0 ∷ 3 ∷ []) ∷ (1 ∷ 2 ∷ []) ∷ (1 ∷ 3 ∷ []) ∷ []

-- {0,3},{0,3,4},{1,2},{1,2,5} and {1,3}: 0 and 2 are scarce with the last clause, none is without it
abbrev pub five : List (List ℕ)
five = (0 ∷ 3 ∷ []) ∷ (0 ∷ 3 ∷ 4 ∷ []) ∷ (1 ∷ 2 ∷ []) ∷ (1 ∷ 2 ∷ 5 ∷ []) ∷ (1 ∷ 3 ∷ []) ∷ []

abbrev pub without_last : List (List ℕ)
without_last = (0 ∷ 3 ∷ []) ∷ (0 ∷ 3 ∷ 4 ∷ []) ∷ (1 ∷ 2 ∷ []) ∷ (1 ∷ 2 ∷ 5 ∷ []) ∷ []

pub record WorkedCases : Type 0 where
  -- lone: {0},{1,2},{3,4} leaves no clause; every plan goes back to 1 1 1
  pub lone_leaves : leaves (repeated lone) 2 ((0 ∷ []) ∷ (1 ∷ 2 ∷ []) ∷ (3 ∷ 4 ∷ []) ∷ []) ≡ []
  pub lone_leads : leads (repeated lone) 2 ((0 ∷ []) ∷ (1 ∷ 2 ∷ []) ∷ (3 ∷ 4 ∷ []) ∷ []) (0 ∷ 0 ∷ 0 ∷ []) ≡ 1 ∷ 1 ∷ 1 ∷ []
  -- trim: {0,2},{1,2} becomes {2},{1,2}
  pub trim_leaves : leaves (repeated trim) 1 ((0 ∷ 2 ∷ []) ∷ (1 ∷ 2 ∷ []) ∷ []) ≡ (2 ∷ []) ∷ (1 ∷ 2 ∷ []) ∷ []
  -- cover: {0,2},{0},{0},{2,4} becomes {0},{2,4}
  pub cover_leaves :
      leaves cover 2 ((0 ∷ 2 ∷ []) ∷ (0 ∷ []) ∷ (0 ∷ []) ∷ (2 ∷ 4 ∷ []) ∷ []) ≡ (0 ∷ []) ∷ (2 ∷ 4 ∷ []) ∷ []
  -- blocked: {0,2},{1,3} leaves no clause; 0 0 goes back to 1 0
  pub blocked_leaves : leaves (repeated blocked) 1 ((0 ∷ 2 ∷ []) ∷ (1 ∷ 3 ∷ []) ∷ []) ≡ []
  pub blocked_leads : leads (repeated blocked) 1 ((0 ∷ 2 ∷ []) ∷ (1 ∷ 3 ∷ []) ∷ []) (0 ∷ 0 ∷ []) ≡ 1 ∷ 0 ∷ []
  -- colour with scarce: five clauses go; without the last one nothing happens
  pub scarce_leaves : leaves (repeated (colour scarce)) 2 five ≡ []
  pub scarce_stays : leaves (repeated (colour scarce)) 2 without_last ≡ without_last
  -- colour with sign: {0,3},{1,3} gives 0 0; {0,2} stays
  pub sign_leaves : leaves (repeated (colour sign)) 1 ((0 ∷ 3 ∷ []) ∷ (1 ∷ 3 ∷ []) ∷ []) ≡ []
  pub sign_leads : leads (repeated (colour sign)) 1 ((0 ∷ 3 ∷ []) ∷ (1 ∷ 3 ∷ []) ∷ []) (1 ∷ 1 ∷ []) ≡ 0 ∷ 0 ∷ []
  pub sign_stays : leaves (repeated (colour sign)) 1 ((0 ∷ 2 ∷ []) ∷ []) ≡ (0 ∷ 2 ∷ []) ∷ []
  -- eliminate: {0,2},{1,4} leaves no clause; 0 0 0 goes back to 0 1 0
  pub eliminate_leaves : leaves (repeated eliminate) 2 ((0 ∷ 2 ∷ []) ∷ (1 ∷ 4 ∷ []) ∷ []) ≡ []
  pub eliminate_leads : leads (repeated eliminate) 2 ((0 ∷ 2 ∷ []) ∷ (1 ∷ 4 ∷ []) ∷ []) (0 ∷ 0 ∷ 0 ∷ []) ≡ 0 ∷ 1 ∷ 0 ∷ []
  -- splitter: none with one split; with limit 0 it refuses
  pub splitter_none : splitter 1 (table_of 1 four) ≡ never 1
  pub splitter_refuses : splitter 0 (table_of 1 four) ≡ refused (fault 3 41 0)
  -- lister: none after 4 plans; {0,2} has 1 0 as its second plan; with no clause the first plan is it
  pub lister_none : lister (table_of 1 four) ≡ never 4
  pub lister_second : lister (table_of 1 ((0 ∷ 2 ∷ []) ∷ [])) ≡ planned (1 ∷ 0 ∷ []) 2
  pub lister_first : lister (table_of 1 []) ≡ planned (0 ∷ 0 ∷ []) 1
