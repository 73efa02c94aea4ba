-- What the loops leave is what the definitions say: a literal is deleted by setting its negation, and the clauses of a
-- choice are those that contain one of its two literals.
use Rattle.std.proofs.Common.{◌≡◌, ℕ, ◌+◌, ◌*◌, ◌<◌, Bool, not, ◌||◌, eqb, List, [], ◌∷◌, map, length, get_or, set, filter, sym, refl, ap, ◌∙◌, ap₂, arith}
use Rattle.std.proofs.lemmas.List.Elements.{filter_agree}
use Rattle.std.proofs.lemmas.List.{get_or-map, map-set}
use Rattle.std.proofs.lemmas.Bool.Decides.{nat_tests}
use Rattle.laws.specs.Lists.{any, has}
use Rattle.laws.specs.Literals.{choice, neg}
use Rattle.laws.specs.Resolving.{others}
use Rattle.laws.specs.Setting.{meets, strip, assign}
use Rattle.laws.specs.Trim.{without, deleted_at}
use Rattle.table.specs.declared.clause.Clause.{Clause}
use Rattle.table.specs.Codes.{codes_of}

-- the clauses that contain none of the literals, each stripped, are those with the literals set
assign_parts : (ws : List ℕ) (Cs : List (List ℕ)) → map (strip ws) (filter (λ C. not (meets ws C)) Cs) ≡ assign ws Cs
assign_parts ws [] = refl
assign_parts ws (C ∷ Cs) = let ih = assign_parts ws Cs in grind (arith, nat_tests)

-- Bs are those of Cs that contain none of the literals, and Ds are Bs stripped
pub set_in_two :
    (ws : List ℕ) (Ds Bs Cs : List (List ℕ)) → Ds ≡ map (strip ws) Bs → Bs ≡ filter (λ C. not (meets ws C)) Cs → Ds ≡ assign ws Cs
set_in_two ws Ds Bs Cs stripped dropped = stripped ∙ ap (map (strip ws)) dropped ∙ assign_parts ws Cs

negation_stands : (x l : ℕ) → has (neg l) (neg x ∷ []) ≡ eqb l x
negation_stands x l = grind (arith, nat_tests)

pub strip_one : (x : ℕ) (C : List ℕ) → strip (neg x ∷ []) C ≡ without x C
strip_one x C = filter_agree (λ l. not (has (neg l) (neg x ∷ []))) (λ l. not (eqb l x)) (λ l. ap not (negation_stands x l)) C

of_choice : (c l : ℕ) → has l (2 * c ∷ (2 * c + 1) ∷ []) ≡ eqb (choice l) c
of_choice c l = grind (arith, nat_tests)

any_same : {X : Type 0} (f g : X → Bool) → ((x : X) → f x ≡ g x) → (xs : List X) → any f xs ≡ any g xs
any_same f g e [] = refl
any_same f g e (x ∷ xs) = ap₂ ◌||◌ (e x) (any_same f g e xs)

pub others_meeting : (c : ℕ) (Cs : List (List ℕ)) → filter (λ C. not (meets (2 * c ∷ (2 * c + 1) ∷ []) C)) Cs ≡ others c Cs
others_meeting c Cs =
    filter_agree (λ C. not (meets (2 * c ∷ (2 * c + 1) ∷ []) C)) (λ C. not (any (λ l. eqb (choice l) c) C))
    (λ C. ap not (any_same (λ l. has l (2 * c ∷ (2 * c + 1) ∷ [])) (λ l. eqb (choice l) c) (of_choice c) C)) Cs

-- a clause from which a literal was deleted, put in the place of the one that was read
pub deleted_there :
    (xs : List Clause) (i x m : ℕ) (C D : Clause) → i < length xs → C ≡ get_or xs i C → m ≡ neg x
    → codes_of D ≡ strip (m ∷ []) (codes_of C) → map codes_of (set xs i D) ≡ deleted_at i x (map codes_of xs)
deleted_there xs i x m C D lt is e h =
    let read : codes_of C ≡ get_or (map codes_of xs) i [] = ap codes_of is ∙ sym (get_or-map codes_of xs i C [] lt) in
    let less : codes_of D ≡ without x (get_or (map codes_of xs) i []) =
    h ∙ ap (λ w. strip (w ∷ []) (codes_of C)) e ∙ strip_one x (codes_of C) ∙ ap (without x) read in
    map-set codes_of xs i D ∙ ap (set (map codes_of xs) i) less
