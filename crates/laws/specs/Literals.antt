-- Choices and literals. A choice is a number; a literal is a code for a choice taken or left out.
use Rattle.std.specs.Prelude.{◌≡◌, ℕ, ◌+◌, ◌-◌, ◌*◌, ◌/◌, ◌%◌, Bool, cond, not, ◌⊎◌, List, ◌==◌, ◌≢◌, slice_index}

-- the literal that says that choice c is taken (the positive literal of a variable)
abbrev pub taking : ℕ → ℕ
taking c = 2 * c

-- the literal that says that choice c is left out (the negative literal)
abbrev pub leaving : ℕ → ℕ
leaving c = 2 * c + 1

-- the choice that a literal speaks of (its variable)
abbrev pub choice : ℕ → ℕ
choice l = l / 2

-- the other literal of the same choice (its negation)
abbrev pub neg : ℕ → ℕ
neg l = 2 * (l / 2) + (1 - l % 2)

-- the largest code where the last choice is n
abbrev pub top : ℕ → ℕ
top n = 2 * n + 1

-- what a plan's byte says: any other than 0 counts as taken
abbrev pub is_taken : ℕ → Bool
is_taken b = not (b == 0)

-- the literal agrees with the plan; a choice past the plan's end counts as left out
abbrev pub holds : List ℕ → ℕ → Bool
holds p l = cond (l % 2 == 0) (is_taken (slice_index p (choice l))) (slice_index p (choice l) == 0)

-- the same in the subject's words: it says taken and the choice is taken, or it says left out and the choice is left out
abbrev pub Agrees : List ℕ → ℕ → Type 0
Agrees p l = ((c : ℕ) × (l ≡ taking c) × (slice_index p c ≢ 0)) ⊎ ((c : ℕ) × (l ≡ leaving c) × (slice_index p c ≡ 0))

-- a literal and its negation: the negation of the negation is the literal, both speak of one choice, they differ, and
-- of the two exactly one agrees with a plan
pub record Opposite (l : ℕ) : Type 0 where
  pub twice : neg (neg l) ≡ l
  pub same_choice : choice (neg l) ≡ choice l
  pub differs : neg l ≡ l → ⊥
  pub one_holds : (p : List ℕ) → holds p (neg l) ≡ not (holds p l)

-- taking a choice and leaving it out: each is the other's negation, and both speak of that choice
pub record TwoLiterals (c : ℕ) : Type 0 where
  pub neg_taking : neg (taking c) ≡ leaving c
  pub neg_leaving : neg (leaving c) ≡ taking c
  pub choice_taking : choice (taking c) ≡ c
  pub choice_leaving : choice (leaving c) ≡ c

-- each literal has its opposite, and each choice its two literals
abbrev pub Negation : Type 0
Negation = ((l : ℕ) → Opposite l) × ((c : ℕ) → TwoLiterals c)
