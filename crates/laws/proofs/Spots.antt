-- The first spot that passes a test: what it says, and what is known where there is none.
use Rattle.std.proofs.Common.{◌≡◌, ℕ, suc, ◌+◌, ◌<◌, Bool, true, false, List, [], ◌∷◌, length, get_or, Some, None, Contains, sym, refl, ap, ◌∙◌, subst, inl, inr, arith}
use Rattle.std.specs.Option.{option_map}
use Rattle.std.proofs.lemmas.List.Elements.{Contains-get_or}
use Rattle.std.proofs.lemmas.List.{get_or_default}
use Rattle.std.proofs.lemmas.Bool.{or_from}
use Rattle.laws.specs.Lists.{any, first}
use Rattle.laws.specs.Spots.{Spot, spot_from, spot, FirstSpot, Spotting}
use Rattle.laws.proofs.Kept.{any_none}
use Rattle.laws.proofs.Lists.{below_cons, first_at, first_none}
use Rattle.laws.proofs.Options.{no, or_else_none, or_else_some, mapped_none, mapped_some}

module _ (f : List ℕ → ℕ → Bool) where
  -- the first literal of a clause that passes stands in it and passes, and none before it passes
  record FirstLiteral (C : List ℕ) (l : ℕ) : Type 0 where
    stands : Contains C l
    passes : f C l ≡ true
    earlier : (j : ℕ) → j < stands.0 → f C (get_or C j 0) ≡ false

  first_literal : (C : List ℕ) (l : ℕ) → first (f C) C ≡ Some l → FirstLiteral C l
  first_literal C l e =
      let (j, is, at) = first_at (f C) 0 C l e in
      record {
        stands = (j, at.inside, get_or_default C j l 0 at.inside ∙ is);
        passes = subst (λ k. f C k ≡ true) is at.here;
        earlier = at.before;
      }

  -- the first spot where positions are counted from i
  record SpotFrom (i : ℕ) (Cs : List (List ℕ)) (s : Spot) : Type 0 where
    place : ℕ
    at_is : s.at ≡ i + place
    inside : place < length Cs
    clause_is : s.clause ≡ get_or Cs place []
    literal : FirstLiteral s.clause s.literal
    lower : (k : ℕ) → k < place → any (f (get_or Cs k [])) (get_or Cs k []) ≡ false

  spot_from_lem : (i : ℕ) (Cs : List (List ℕ)) (s : Spot) → spot_from f i Cs ≡ Some s → SpotFrom i Cs s
  spot_from_lem i [] s e = no (cc)
  spot_from_lem i (C ∷ Cs) s e =
      elim (or_else_some (option_map (λ l. record { at = i; clause = C; literal = l }) (first (f C) C)) (spot_from f (i + 1) Cs) s e) [
        | inl here ↦
            let got = mapped_some _ (first (f C) C) s here in
            let Here : Spot → Type 0 = SpotFrom i (C ∷ Cs) in
            subst Here (sym got.2)
            (record {
              place = 0;
              at_is = omega arith;
              inside = omega arith;
              clause_is = refl;
              literal = first_literal C got.0 got.1;
              lower = λ k lt. absurd (omega arith);
            })
        | inr past ↦
            let ih = spot_from_lem (i + 1) Cs s past.1 in
            let fails = first_none (f C) C (mapped_none _ (first (f C) C) past.0) in
            record {
              place = suc ih.place;
              at_is = omega arith;
              inside = omega arith;
              clause_is = ih.clause_is;
              literal = ih.literal;
              lower = below_cons (λ k. any (f (get_or (C ∷ Cs) k [])) (get_or (C ∷ Cs) k []) ≡ false) ih.place fails ih.lower;
            }
      ]

  -- where there is no spot, no literal passes
  none_passes : (i : ℕ) (Cs : List (List ℕ)) → spot_from f i Cs ≡ None → any (λ C. any (f C) C) Cs ≡ false
  none_passes i [] e = refl
  none_passes i (C ∷ Cs) e =
      let both = or_else_none (option_map (λ l. record { at = i; clause = C; literal = l }) (first (f C) C)) (spot_from f (i + 1) Cs) e in
      or_from (any (f C) C) (any (λ D. any (f D) D) Cs) (first_none (f C) C (mapped_none _ (first (f C) C) both.0)) (none_passes (i + 1) Cs both.1)

  module _ (Cs : List (List ℕ)) where
    -- what a spot says, and what is known where there is none
    pub spot_some : (s : Spot) → spot f Cs ≡ Some s → FirstSpot f Cs s
    spot_some s e =
        let got = spot_from_lem 0 Cs s e in
        let same : got.place ≡ s.at = omega arith in
        record {
          inside = omega arith;
          clause_is = got.clause_is ∙ ap (λ k. get_or Cs k []) same;
          literal = got.literal.stands;
          passes = got.literal.passes;
          lower = λ k lt l stands. any_none (f (get_or Cs k [])) (get_or Cs k []) l (got.lower k (omega arith)) stands;
          earlier = got.literal.earlier;
        }

    pub spot_none : spot f Cs ≡ None → (C : List ℕ) → Contains Cs C → (l : ℕ) → Contains C l → f C l ≡ false
    spot_none e C stands l literal =
        any_none (f C) C l (any_none (λ D. any (f D) D) Cs C (none_passes 0 Cs e) stands) literal

    -- a spot's clause stands among the clauses
    pub spot_stands : (s : Spot) → FirstSpot f Cs s → Contains Cs s.clause
    spot_stands s found = subst (Contains Cs) (sym found.clause_is) (Contains-get_or Cs s.at [] found.inside)

pub spotting : Spotting
spotting f Cs = record { found = spot_some f Cs; none = spot_none f Cs }
