-- Piles: a bottom solver under any number of layers, each of which reduces the table and leads the answer back.
use Rattle.std.specs.Prelude.{◌≡◌, ℕ, ◌+◌, ◌≤◌, min, true, ◌↔◌, List, [], ◌∷◌, length, All}
use Rattle.laws.specs.declared.fault.Fault.{Fault}
use Rattle.laws.specs.Clauses.{all_true}
use Rattle.laws.specs.Outcomes.{Outcome}
use Rattle.laws.specs.Outcomes.Outcome.{planned, never, refused}
use Rattle.laws.specs.Plans.{PlanOf, Possible}
use Rattle.laws.specs.Reductions.{ReductionMeaning, NoLarger, Reduces}
use Rattle.laws.specs.Solvers.{Solves, RightFor}
use Rattle.laws.specs.Tables.{Tab, Lawful}

-- a pile: its layers, the top first, and the answers of its bottom
pub record Pile : Type 0 where
  pub layers : List ReductionMeaning
  pub bottom : Tab → Outcome

-- a bottom alone
abbrev pub alone : (Tab → Outcome) → Pile
alone answers = record { layers = []; bottom = answers }

-- one layer more on top
abbrev pub over : ReductionMeaning → Pile → Pile
over r s = record { layers = r ∷ s.layers; bottom = s.bottom }

-- a refusal that came up so many layers: its depth is that much more, resting at 255
abbrev pub deeper : ℕ → Fault → Fault
deeper k f = record { layer = f.layer; depth = min 255 (f.depth + k); number = f.number; place = f.place; offset = f.offset }

-- an answer from below, as a layer passes it up: a plan is led back, none and work stay, a refusal is one deeper
abbrev pub passed_up : ReductionMeaning → Tab → Outcome → Outcome
passed_up r t (planned p w) = planned (r.back t p) w
passed_up r t (never w) = never w
passed_up r t (refused f) = refused (deeper 1 f)

-- the answer of a pile, layer by layer
abbrev pub piled : List ReductionMeaning → (Tab → Outcome) → Tab → Outcome
piled [] bottom t = bottom t
piled (r ∷ rs) bottom t = passed_up r t (piled rs bottom (r.smaller t))

abbrev pub answer_of : Pile → Tab → Outcome
answer_of s t = piled s.layers s.bottom t

-- the bottom's table: the pile's own, reduced by each layer, the top first
abbrev pub bottom_table : List ReductionMeaning → Tab → Tab
bottom_table [] t = t
bottom_table (r ∷ rs) t = bottom_table rs (r.smaller t)

-- a plan of the bottom's table led back by each layer, the lowest first
abbrev pub led_back : List ReductionMeaning → Tab → List ℕ → List ℕ
led_back [] t p = p
led_back (r ∷ rs) t p = r.back t (led_back rs (r.smaller t) p)

-- the bottom's answer brought up through all layers
abbrev pub brought_up : List ReductionMeaning → Tab → Outcome → Outcome
brought_up rs t (planned p w) = planned (led_back rs t p) w
brought_up rs t (never w) = never w
brought_up rs t (refused f) = refused (deeper (length rs) f)

-- the depth of a refusal fits its byte
abbrev pub ShallowOutcome : Outcome → Type 0
ShallowOutcome (planned p w) = Unit {0}
ShallowOutcome (never w) = Unit {0}
ShallowOutcome (refused f) = f.depth ≤ 255

-- what a pile says of a table, by what its bottom says of the table reduced by each layer
pub record PiledOf (rs : List ReductionMeaning) (bottom : Tab → Outcome) (t : Tab) : Type 0 where
  -- the bottom's table is a table, and no larger
  pub table : Lawful (bottom_table rs t)
  pub no_larger : NoLarger t (bottom_table rs t)
  -- satisfiable exactly if the pile's own table is
  pub possible : Possible t ↔ Possible (bottom_table rs t)
  -- plans of it lead back to plans of the pile's own table, and if they make it true, they make that true
  pub plans : (p : List ℕ) → PlanOf t.last p → PlanOf t.last (led_back rs t p)
  pub back :
      (p : List ℕ) → PlanOf t.last p → all_true p (bottom_table rs t).clauses ≡ true
      → all_true (led_back rs t p) t.clauses ≡ true
  -- the answer is the bottom's, brought up
  pub answer : ShallowOutcome (piled rs bottom t) → piled rs bottom t ≡ brought_up rs t (bottom (bottom_table rs t))
  -- and right
  pub right : RightFor t (piled rs bottom t)
  -- a plan, a none, a refusal comes up exactly if it is the bottom's
  pub some_plan :
      (w : ℕ)
      → ((p : List ℕ) × (piled rs bottom t ≡ planned p w)) ↔ ((q : List ℕ) × (bottom (bottom_table rs t) ≡ planned q w))
  pub none : (w : ℕ) → (piled rs bottom t ≡ never w) ↔ (bottom (bottom_table rs t) ≡ never w)
  pub some_refusal :
      ((f : Fault) × (piled rs bottom t ≡ refused f)) ↔ ((f : Fault) × (bottom (bottom_table rs t) ≡ refused f))

-- for every pile of reductions that show the three points over a solver that shows its two, and every lawful table; and
-- so the pile is a solver again
pub record PileLaw : Type 0 where
  pub piles :
      (rs : List ReductionMeaning) (bottom : Tab → Outcome) → All Reduces rs → Solves bottom → (t : Tab) → Lawful t
      → PiledOf rs bottom t
  pub solves :
      (rs : List ReductionMeaning) (bottom : Tab → Outcome) → All Reduces rs → Solves bottom → Solves (piled rs bottom)

-- the layer alone: a reduction that shows the three points over any solver that shows its two is a solver that does
abbrev pub LayerLaw : Type 0
LayerLaw =
    (r : ReductionMeaning) (s : Tab → Outcome) → Reduces r → Solves s → Solves (λ t. passed_up r t (s (r.smaller t)))
