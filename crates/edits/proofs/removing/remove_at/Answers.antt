-- The clauses without the one removed; past the end they are the same.
use Rattle.std.proofs.Common.{◌≡◌, map, sym, ap, ◌∙◌, arith}
use Rattle.std.specs.List.{remove}
use Rattle.std.proofs.lemmas.List.{length-map}
use Rattle.table.specs.Codes.{codes_of}
use Rattle.table.specs.Held.{clauses_of}
use Rattle.edits.proofs.Legal.{legal_table, owed, legal_removed}
use Rattle.edits.proofs.Lists.{map_removed, removed_past}
use Rattle.edits.proofs.removing.remove_at.Goals as goal
use Rattle.edits.proofs.removing.remove_at.Goals.{After-remove-gone}

left : (c : After-remove-gone) → map codes_of c.remove-gone.new.self.items ≡ remove (clauses_of c.args.table.now) c.args.at
left c = ap (map codes_of) c.remove-gone.ensures.items ∙ map_removed codes_of c.args.table.now.clauses.items c.args.at

pub invariant_of-table : goal.invariant_of-table
invariant_of-table c =
    let t = c.args.table.now in
    owed t.last c.remove-gone.new.self _ (left c) (legal_removed t.last (clauses_of t) (legal_table t) c.args.at)

pub returns-then-at-len : goal.returns-then-at-len
returns-then-at-len c =
    ap (λ Cs. record { last = c.args.table.now.last; clauses = Cs }) (left (goal.at.returns-then-at-len c).After-remove-gone)

pub returns-else-at-len : goal.returns-else-at-len
returns-else-at-len c =
    let t = c.args.table.now in
    let long = length-map t.clauses.items codes_of in
    ap (λ Cs. record { last = t.last; clauses = Cs }) (sym (removed_past (clauses_of t) c.args.at (omega (arith, t.clauses.ok.0))))
