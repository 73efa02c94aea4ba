-- Tables that take a clause stay lawful.
use Rattle.std.proofs.Common.{◌≡◌, ℕ, ◌+◌, ◌≤◌, true, leb, List, [], ◌∷◌, ◌++◌, length, None, refl, ◌∙◌, arith}
use Rattle.std.proofs.lemmas.List.{length_push}
use Rattle.std.proofs.lemmas.List.Folds.{list_all-append}
use Rattle.std.proofs.lemmas.Bool.{leb-true, ltb-true, and_from}
use Rattle.laws.specs.Lists.{every}
use Rattle.laws.specs.Literals.{top}
use Rattle.laws.specs.Clauses.{within, ascends, lawful, literals, sorted}
use Rattle.laws.specs.Checks.{refusal, repeat_from, table_limits}
use Rattle.laws.specs.Checked.{Taking}
use Rattle.laws.proofs.Sorted.{every_sorted, length_sorted, ascends_sorted}
use Rattle.laws.proofs.Checks.{passed, within_from_place}

pub literals_append : (Cs Ds : List (List ℕ)) → literals (Cs ++ Ds) ≡ literals Cs + literals Ds
literals_append [] Ds = omega arith
literals_append (C ∷ Cs) Ds = omega (arith, literals_append Cs Ds)

pub literals_push : (Cs : List (List ℕ)) (C : List ℕ) → literals (Cs ++ C ∷ []) ≡ literals Cs + length C
literals_push Cs C = omega (arith, literals_append Cs (C ∷ []))

-- codes of which none is above the largest and none repeats a choice make a lawful clause
pub lawful_sorted :
    (n : ℕ) (codes : List ℕ) → within n codes ≡ true → repeat_from [] 0 codes ≡ None → lawful n (sorted codes) ≡ true
lawful_sorted n codes w none =
    and_from (within n (sorted codes)) (ascends (sorted codes)) (every_sorted (λ l. leb l (top n)) codes ∙ w) (ascends_sorted codes none)

-- the clauses with one more behind them are lawful, few and small
module _ (n : ℕ) (Cs : List (List ℕ)) (codes : List ℕ) (none : refusal table_limits n (length Cs) (literals Cs) codes ≡ None) where
  pub each_taken : every (lawful n) Cs ≡ true → every (lawful n) (Cs ++ sorted codes ∷ []) ≡ true
  each_taken h =
      let ok = passed table_limits n (length Cs) (literals Cs) codes none in
      list_all-append (lawful n) Cs (sorted codes ∷ [])
      ∙ and_from (every (lawful n) Cs) (every (lawful n) (sorted codes ∷ [])) h
      (and_from (lawful n (sorted codes)) true (lawful_sorted n codes (within_from_place n 0 codes ok.each) ok.once) refl)

  pub few_taken : length (Cs ++ sorted codes ∷ []) ≤ 1024
  few_taken =
      let ok = passed table_limits n (length Cs) (literals Cs) codes none in
      omega (arith, length_push Cs (sorted codes), ltb-true (length Cs) 1024 ok.few)

  pub small_taken : literals (Cs ++ sorted codes ∷ []) ≤ 8192
  small_taken =
      let ok = passed table_limits n (length Cs) (literals Cs) codes none in
      omega (arith, literals_push Cs (sorted codes), length_sorted codes, leb-true (literals Cs + length codes) 8192 ok.small)

-- a table that refuses no clause of these codes takes it lawfully
pub takes : Taking
takes t codes l none =
    record {
      last_choice = l.last_choice;
      each = each_taken t.last t.clauses codes none l.each;
      few = few_taken t.last t.clauses codes none;
      small = small_taken t.last t.clauses codes none;
    }
