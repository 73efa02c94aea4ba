-- The clauses that contain neither literal of the choice.
use Rattle.std.proofs.Common.{◌≡◌, not, eqb, map, filter, ap, ◌∙◌}
use Rattle.laws.specs.Lists.{any}
use Rattle.laws.specs.Literals.{choice}
use Rattle.laws.specs.Setting.{meets}
use Rattle.laws.specs.Resolving.{others}
use Rattle.table.specs.Codes.{codes_of}
use Rattle.table.specs.Held.{clauses_of}
use Rattle.edits.proofs.Alike.{others_meeting}
use Rattle.edits.proofs.Legal.{legal_table, owed, legal_kept}
use Rattle.edits.proofs.removing.drop_choice.Goals as goal
use Rattle.edits.proofs.removing.drop_choice.Goals.{After-drop_meeting}

left : (c : After-drop_meeting) → map codes_of c.drop_meeting.new.clauses.items ≡ others c.args.c (clauses_of c.args.table.now)
left c =
    let Cs = clauses_of c.args.table.now in
    c.drop_meeting.ensures ∙ ap (λ ws. filter (λ C. not (meets ws C)) Cs) c.literals_of.ensures ∙ others_meeting c.args.c Cs

pub invariant_of-table : goal.invariant_of-table
invariant_of-table c =
    let t = c.args.table.now in
    owed t.last c.drop_meeting.new.clauses _ (left c)
    (legal_kept t.last (clauses_of t) (legal_table t) (λ C. not (any (λ l. eqb (choice l) c.args.c) C)))

pub returns : goal.returns
returns c = ap (λ Cs. record { last = c.args.table.now.last; clauses = Cs }) (left (goal.at.returns c).After-drop_meeting)
