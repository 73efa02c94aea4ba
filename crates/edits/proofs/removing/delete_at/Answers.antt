-- The clause at the position without the literal; past the end the clauses are the same.
use Rattle.std.proofs.Common.{◌≡◌, [], map, get_or, sym, ap, arith}
use Rattle.std.specs.Vec.{with_item}
use Rattle.std.proofs.lemmas.List.{length-map, set_past}
use Rattle.laws.specs.Trim.{without, deleted_at}
use Rattle.table.specs.Codes.{codes_of}
use Rattle.table.specs.Held.{clauses_of}
use Rattle.edits.proofs.Alike.{deleted_there}
use Rattle.edits.proofs.Legal.{legal_table, owed, legal_deleted}
use Rattle.edits.proofs.removing.delete_at.Goals as goal
use Rattle.edits.proofs.removing.delete_at.Goals.{After-strip_codes}

-- what the table holds after the deletion
left : (c : After-strip_codes)
    → map codes_of (with_item c.args.table.now.clauses c.args.at (record { codes = c.strip_codes.new.codes })).items
    ≡ deleted_at c.args.at c.args.code (clauses_of c.args.table.now)
left c =
    let t = c.args.table.now in
    deleted_there t.clauses.items c.args.at c.args.code c.negation_of.result c.index_mut.result.now (record { codes = c.strip_codes.new.codes })
    (omega (arith, t.clauses.ok.0)) c.index_mut.ensures.value c.negation_of.ensures c.strip_codes.ensures

pub invariant_of-table : goal.invariant_of-table
invariant_of-table c =
    let t = c.args.table.now in
    let long = length-map t.clauses.items codes_of in
    owed t.last (with_item t.clauses c.args.at (record { codes = c.strip_codes.new.codes })) _ (left (goal.at.invariant_of-table c).After-strip_codes)
    (legal_deleted t.last (clauses_of t) (legal_table t) c.args.at c.args.code (omega (arith, t.clauses.ok.0)))

pub returns-then-at-len : goal.returns-then-at-len
returns-then-at-len c =
    let t = c.args.table.now in
    ap (λ Cs. record { last = t.last; clauses = Cs }) (left (goal.at.returns-then-at-len c).After-strip_codes)

pub returns-else-at-len : goal.returns-else-at-len
returns-else-at-len c =
    let t = c.args.table.now in
    let Cs = map codes_of t.clauses.items in
    let long = length-map t.clauses.items codes_of in
    ap (λ Ds. record { last = t.last; clauses = Ds }) (sym (set_past Cs c.args.at (without c.args.code (get_or Cs c.args.at [])) (omega (arith, t.clauses.ok.0))))
