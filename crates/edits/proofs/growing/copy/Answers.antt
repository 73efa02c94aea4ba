-- One turn copies one clause. The copy holds the same clauses, so it is as lawful.
use Rattle.std.proofs.Common.{◌≡◌, ℕ, ◌≤◌, List, [], ◌∷◌, ◌++◌, map, length, take, vec_items, ap, ap₂, sym, ◌∙◌}
use Rattle.std.proofs.lemmas.List.{map_push, take_all, take_more}
use Rattle.table.specs.declared.clause.Clause.{Clause}
use Rattle.table.specs.Codes.{codes_of}
use Rattle.edits.proofs.Legal.{legal_table, owed}
use Rattle.edits.proofs.growing.copy.Goals as goal

pub loop-clause-preserved : goal.loop-clause-preserved
loop-clause-preserved c =
    let xs = c.deref-clause-items.result.now in
    let C = c.clause-item.result in
    let out = vec_items c.loop-clause.clauses in
    let items : vec_items c.push.new.self ≡ out ++ c.in_ok-own.own ∷ [] = c.in_ok-push.ensures.items in
    ap (map codes_of) items ∙ map_push codes_of out c.in_ok-own.own
    ∙ ap₂ (λ Cs D. Cs ++ D ∷ []) c.loop-clause.invariant (c.in_ok-own.ensures ∙ ap codes_of c.clause-item.is)
    ∙ sym (ap (map codes_of) (take_more xs c.loop-clause.clause-index C c.loop-clause-test.true) ∙ map_push codes_of _ _)

-- past the last clause all are copied
all : (out xs cs : List Clause) (i : ℕ) → map codes_of out ≡ map codes_of (take i xs) → length xs ≤ i → xs ≡ cs → map codes_of out ≡ map codes_of cs
all out xs cs i so end is = so ∙ ap (map codes_of) (take_all i xs end ∙ is)

pub invariant_of-result : goal.invariant_of-result
invariant_of-result c =
    let t = c.args.table.now in
    let same = all (vec_items c.loop-clause.clauses) c.deref-clause-items.result.now t.clauses.items c.loop-clause.clause-index c.loop-clause.invariant c.loop-clause-test.false c.deref-clause-items.ensures.value in
    owed t.last c.loop-clause.clauses _ same (legal_table t)
