-- One turn writes one line.
use Rattle.std.proofs.Common.{◌≡◌, ◌<◌, ◌++◌, map, length, get_or, take, sym, ap, ◌∙◌, rules, arith, Some}
use Rattle.std.proofs.Output.{has_written_append, has_written_of_eq}
use Rattle.std.proofs.lemmas.List.{length-map, get_or-map}
use Rattle.std.proofs.lemmas.Option.{slice_get-get_or}
use Rattle.std.specs.List.{slice_get}
use Rattle.std.specs.Option.{option_map}
use Rattle.table.specs.Codes.{codes_of}
use Rattle.table.specs.Held.{clauses_of}
use Rattle.verdict.specs.Texts.{line_at}
use Rattle.verdict.specs.Words.{listed}
use Rattle.verdict.proofs.Laid.{line_is}
use Rattle.verdict.proofs.Listings.{listed_more}
use Rattle.verdict.proofs.lines.LinesDisplay.fmt.Goals as goal

pub loop-at-preserved : goal.loop-at-preserved
loop-at-preserved g c = (
  c.loop-at.invariant.0,
  λ p.
      let s = c.args.self.now in
      let i = c.loop-at.at in
      let items = c.deref-clause-items.result.now in
      let Cs = clauses_of s.table.now in
      let C = codes_of c.clause-item.result in
      let line = line_at s.kind.now (option_map (λ x. x.now) s.plan) in
      let same : map codes_of items ≡ Cs = ap (map codes_of) c.loop-at.invariant.0 in
      let low : i < length Cs = omega (arith, length-map items codes_of, ap length same, c.loop-at-test.true) in
      let here : get_or Cs i C ≡ C =
      ap (λ Ds. get_or Ds i C) (sym same) ∙ get_or-map codes_of items i c.clause-item.result C c.loop-at-test.true ∙ ap codes_of (sym c.clause-item.is) in
      let found : slice_get Cs i ≡ Some C = slice_get-get_or Cs i C low ∙ ap Some here in
      let said = line_is s.kind.now i Cs c.codes.result.now C s.plan _ c.codes.ensures found c.truth.ensures in
      has_written_of_eq _ _ _ _ _
      (ap (λ t. listed line 0 (take i Cs) ++ t) (said ∙ ap (line i) (sym here)) ∙ listed_more line i Cs C low)
      (has_written_append _ _ _ _ _ _ (c.loop-at.invariant.1 p) (search rules)),
)
