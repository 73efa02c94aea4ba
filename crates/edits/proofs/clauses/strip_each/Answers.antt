-- One turn strips one clause.
use Rattle.std.proofs.Common.{◌≡◌, map, get_or, set, sym, ap, ◌∙◌, arith}
use Rattle.std.proofs.lemmas.List.Edits.{map_over_more}
use Rattle.std.proofs.lemmas.List.{get_or-map, length-map, map-set}
use Rattle.laws.specs.Setting.{strip}
use Rattle.table.specs.Codes.{codes_of}
use Rattle.edits.proofs.clauses.strip_each.Goals as goal

pub loop-clause-preserved : goal.loop-clause-preserved
loop-clause-preserved c =
    let i = c.loop-clause.clause-index in
    let ws = c.args.set.now in
    let xs = c.args.clauses.now.items in
    let ys = c.loop-clause.clause-items in
    let C = c.clause-item.result in
    let read : codes_of C ≡ get_or (map codes_of ys) i (codes_of C) = ap codes_of c.clause-item.is ∙ sym (get_or-map codes_of ys i C (codes_of C) (omega arith)) in
    map-set codes_of ys i (record { codes = c.strip_codes.new.codes })
    ∙ ap (set (map codes_of ys) i) c.strip_codes.ensures ∙ ap (λ D. set (map codes_of ys) i (strip ws (codes_of D))) (sym c.clause-item.is)
    ∙ map_over_more (strip ws) (map codes_of xs) (map codes_of ys) i (codes_of C) (simp length-map (omega arith)) c.loop-clause.invariant read
