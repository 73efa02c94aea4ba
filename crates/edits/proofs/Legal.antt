-- Each edit leaves clauses that a table may hold, which is what its ghost fields ask.
use Rattle.std.proofs.Common.{◌≡◌, ℕ, ◌+◌, ◌<◌, ◌≤◌, Bool, true, not, ◌&&◌, eqb, ltb, leb, List, [], ◌∷◌, ◌++◌, map, length, get_or, vec_items, vec_len, filter, Vec, refl, ap, ◌∙◌, arith}
use Rattle.std.specs.declared.alloc.Global.{Global}
use Rattle.std.specs.List.{remove}
use Rattle.std.proofs.lemmas.List.{length-map, length_push, length-set}
use Rattle.std.proofs.lemmas.List.Folds.{list_all-append}
use Rattle.std.proofs.lemmas.Bool.{and_parts, and_from, ltb-true, leb-true}
use Rattle.laws.specs.Clauses.{lawful, literals}
use Rattle.laws.specs.Lists.{every}
use Rattle.laws.specs.Setting.{assign}
use Rattle.laws.specs.Trim.{without, deleted_at}
use Rattle.laws.proofs.Kept.{every_kept_by, lawful_kept_by, literals_kept_by, length_kept_by_le}
use Rattle.laws.proofs.Lists.{every_get_d}
use Rattle.laws.proofs.Replaced.{every_removed, every_set, length_removed_le, literals_removed, literals_set}
use Rattle.laws.proofs.Setting.{every_assign, length_assign_le, literals_assign_le}
use Rattle.laws.proofs.Tables.{literals_push}
use Rattle.table.specs.declared.clause.Clause.{Clause}
use Rattle.table.specs.declared.table.Table.{Table}
use Rattle.table.specs.Codes.{codes_of}
use Rattle.table.specs.Held.{clauses_of}
use Rattle.edits.specs.Growth.{appendable}

-- clauses that a table with last choice n may hold
pub record Legal (n : ℕ) (Cs : List (List ℕ)) : Type 0 where
  pub few : length Cs ≤ 1024
  pub small : literals Cs ≤ 8192
  pub each : every (lawful n) Cs ≡ true

-- those of a table are, by its ghost fields
pub legal_table : (t : Table) → Legal t.last (clauses_of t)
legal_table t =
    let long = length-map t.clauses.items codes_of in
    record { few = omega (arith, t.few, t.clauses.ok.0, long); small = t.small; each = t.each }

-- what the ghost fields ask, of clauses that are such by their codes
pub owed :
    (n : ℕ) (v : Vec Clause Global) (Cs : List (List ℕ)) → map codes_of (vec_items v) ≡ Cs → Legal n Cs
    → record { few : vec_len v ≤ 1024; small : literals (map codes_of (vec_items v)) ≤ 8192; each : every (lawful n) (map codes_of (vec_items v)) ≡ true }
owed n v Cs e ok =
    let long = length-map v.items codes_of in
    record {
      few = omega (arith, ok.few, v.ok.0, long, ap length e);
      small = omega (arith, ok.small, ap literals e);
      each = ap (every (lawful n)) e ∙ ok.each;
    }

module _ (n : ℕ) (Cs : List (List ℕ)) (ok : Legal n Cs) where
  pub legal_kept : (g : List ℕ → Bool) → Legal n (filter g Cs)
  legal_kept g =
      record {
        few = omega (arith, length_kept_by_le g Cs, ok.few);
        small = omega (arith, literals_kept_by g Cs, ok.small);
        each = every_kept_by (lawful n) g Cs ok.each;
      }

  pub legal_removed : (i : ℕ) → Legal n (remove Cs i)
  legal_removed i =
      record {
        few = omega (arith, length_removed_le Cs i, ok.few);
        small = omega (arith, literals_removed Cs i, ok.small);
        each = every_removed (lawful n) Cs i ok.each;
      }

  pub legal_deleted : (i x : ℕ) → i < length Cs → Legal n (deleted_at i x Cs)
  legal_deleted i x lt =
      let C = get_or Cs i [] in
      let fewer = length_kept_by_le (λ l. not (eqb l x)) C in
      let here = every_get_d (lawful n) Cs i [] ok.each lt in
      record {
        few = omega (arith, length-set Cs i (without x C), ok.few);
        small = omega (arith, literals_set Cs i (without x C) lt, fewer, ok.small);
        each = every_set (lawful n) Cs i (without x C) ok.each (lawful_kept_by n (λ l. not (eqb l x)) C here);
      }

  pub legal_assigned : (ws : List ℕ) → Legal n (assign ws Cs)
  legal_assigned ws =
      record {
        few = omega (arith, length_assign_le ws Cs, ok.few);
        small = omega (arith, literals_assign_le ws Cs, ok.small);
        each = every_assign n ws Cs ok.each;
      }

  pub legal_appended : (D : List ℕ) → appendable (record { last = n; clauses = Cs }) D ≡ true → Legal n (Cs ++ D ∷ [])
  legal_appended D h =
      let parts = and_parts (lawful n D) (ltb (length Cs) 1024 && leb (literals Cs + length D) 8192) h in
      let room = and_parts (ltb (length Cs) 1024) (leb (literals Cs + length D) 8192) parts.1 in
      record {
        few = omega (arith, length_push Cs D, ltb-true (length Cs) 1024 room.0);
        small = omega (arith, literals_push Cs D, leb-true (literals Cs + length D) 8192 room.1);
        each = list_all-append (lawful n) Cs (D ∷ []) ∙ and_from (every (lawful n) Cs) (every (lawful n) (D ∷ [])) ok.each (and_from (lawful n D) true parts.0 refl);
      }
