-- Colour, with any property of literals: where the literals that have it can all be made false at no cost, they are.
use Rattle.std.specs.Prelude.{◌≡◌, ℕ, ◌+◌, ◌%◌, ◌≤◌, Bool, true, false, cond, not, ◌&&◌, ◌||◌, List, map, length, Contains, filter, ◌==◌, nat_le}
use Rattle.std.specs.List.{range_with_len}
use Rattle.laws.specs.Lists.{any, every}
use Rattle.laws.specs.Literals.{choice, neg, top}
use Rattle.laws.specs.Occurring.{occurrences}
use Rattle.laws.specs.Rules.{Next, RuleMeaning, Safe, Repeats, ran}
use Rattle.laws.specs.Rules.Next.{stop, step}
use Rattle.laws.specs.Setting.{make_all, assigned}
use Rattle.laws.specs.Tables.{Tab, Lawful, occurs_in}

-- a property says yes or no for each literal of clauses
abbrev pub Property : Type 0
Property = List (List ℕ) → ℕ → Bool

-- what a property owes: never yes for both literals of a choice, and only for choices that occur
pub record Proper (f : Property) : Type 0 where
  pub one_side : (Cs : List (List ℕ)) (l : ℕ) → f Cs l ≡ true → f Cs (neg l) ≡ false
  pub occurs : (Cs : List (List ℕ)) (l : ℕ) → f Cs l ≡ true → occurs_in (choice l) Cs ≡ true

-- the literals of a table that have the property, in ascending order
abbrev pub marked : Property → Tab → List ℕ
marked f t = filter (f t.clauses) (range_with_len 0 (top t.last + 1))

-- every clause with a literal that has the property also has the negation of one
abbrev pub balanced : Property → List (List ℕ) → Bool
balanced f Cs = every (λ C. not (any (f Cs) C) || any (λ l. f Cs (neg l)) C) Cs

-- a step is taken if some literal has the property and the clauses are balanced
abbrev pub coloured : Property → Tab → Bool
coloured f t = any (f t.clauses) (range_with_len 0 (top t.last + 1)) && balanced f t.clauses

-- a step: the negations of all literals with the property are noted and set
unfoldable pub colour_next : Property → List (List ℕ) → Tab → Next (List ℕ)
colour_next f notes t =
    cond (coloured f t) (step (map neg (marked f t)) (assigned (map neg (marked f t)) t)) stop

-- the rule; on the way back the noted literals are made true. Each step takes a clause away
abbrev pub colour : Property → RuleMeaning (List ℕ)
colour f = record { next = colour_next f; undo = make_all; size = λ t. length t.clauses }

-- scarce: in exactly 2 clauses, its negation in 3 or more
abbrev pub scarce : Property
scarce Cs l = occurrences l Cs == 2 && nat_le 3 (occurrences (neg l) Cs)

-- pure: in none, its negation in 1 or more (its negation is a pure literal)
abbrev pub pure : Property
pure Cs l = occurrences l Cs == 0 && nat_le 1 (occurrences (neg l) Cs)

-- sign: an even code whose choice occurs (a positive literal)
abbrev pub sign : Property
sign Cs l = l % 2 == 0 && occurs_in (choice l) Cs

-- a colour step, in the subject's words
pub record Colours (f : Property) (t : Tab) : Type 0 where
  pub literal : ℕ
  pub inside : literal ≤ top t.last
  pub has_it : f t.clauses literal ≡ true
  pub balances :
      (C : List ℕ) (l : ℕ) → Contains t.clauses C → Contains C l → f t.clauses l ≡ true
      → (m : ℕ) × Contains C m × (f t.clauses (neg m) ≡ true)

-- no colour step is left
abbrev pub NoColour : Property → Tab → Type 0
NoColour f t = Colours f t → ⊥

-- for every proper property; the three are proper
pub record ColourLaw : Type 0 where
  pub safe : (f : Property) → Proper f → Safe (colour f)
  pub repeats : (f : Property) → Proper f → (t : Tab) → Lawful t → Repeats (colour f) t
  pub ended : (f : Property) → Proper f → (t : Tab) → Lawful t → NoColour f (ran (colour f) t).table
  pub scarce_proper : Proper scarce
  pub pure_proper : Proper pure
  pub sign_proper : Proper sign
