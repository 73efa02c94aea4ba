-- A clause is kept exactly if none of its codes stands among the set.
use Rattle.std.proofs.Common.{not, map, ap, ◌∙◌, rules}
use Rattle.std.proofs.lemmas.Fn.{filter_same}
use Rattle.laws.specs.Setting.{meets}
use Rattle.table.specs.Codes.{codes_of}
use Rattle.edits.proofs.Lists.{map_kept_by}
use Rattle.edits.proofs.clauses.drop_meeting.Goals as goal

pub returns : goal.returns
returns c =
    let ws = c.args.set.now in
    ap (map codes_of) (filter_same _ (λ C. not (meets ws (codes_of C))) _ (λ x b f' k. search rules) _ _ c.retain.ensures.filtered)
    ∙ map_kept_by codes_of (λ C. not (meets ws C)) c.args.clauses.now.items
