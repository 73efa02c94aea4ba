-- Dropping the clauses that contain one of the literals and stripping the others is setting the literals.
use Rattle.std.proofs.Common.{◌≡◌, map, ap}
use Rattle.laws.specs.Setting.{assign}
use Rattle.table.specs.Codes.{codes_of}
use Rattle.table.specs.Held.{clauses_of}
use Rattle.edits.proofs.Alike.{set_in_two}
use Rattle.edits.proofs.Legal.{legal_table, owed, legal_assigned}
use Rattle.edits.proofs.setting.set_all.Goals as goal
use Rattle.edits.proofs.setting.set_all.Goals.{After-strip_each}

left : (c : After-strip_each) → map codes_of c.strip_each.new.clauses.items ≡ assign c.args.codes.now (clauses_of c.args.table.now)
left c =
    set_in_two c.args.codes.now (map codes_of c.strip_each.new.clauses.items) (map codes_of c.drop_meeting.new.clauses.items) (clauses_of c.args.table.now)
    c.strip_each.ensures c.drop_meeting.ensures

pub invariant_of-table : goal.invariant_of-table
invariant_of-table c =
    let t = c.args.table.now in
    owed t.last c.strip_each.new.clauses _ (left c) (legal_assigned t.last (clauses_of t) (legal_table t) c.args.codes.now)

pub returns : goal.returns
returns c = ap (λ Cs. record { last = c.args.table.now.last; clauses = Cs }) (left (goal.at.returns c).After-strip_each)
