-- A code is kept exactly if its negation does not stand among the set.
use Rattle.std.proofs.Common.{not, rules}
use Rattle.std.proofs.lemmas.Fn.{filter_same}
use Rattle.laws.specs.Lists.{has}
use Rattle.laws.specs.Literals.{neg}
use Rattle.edits.proofs.codes.strip_codes.Goals as goal

pub returns : goal.returns
returns c = filter_same _ (λ x. not (has (neg x) c.args.set.now)) _ (λ x b f' k. search rules) _ _ c.retain.ensures.filtered
