-- What a step that was taken, or that was not, says of the rule.
use Rattle.std.proofs.Common.{◌≡◌, List, Some, None, Ok, Option, sym, ap, ◌∙◌, subst}
use Rattle.laws.specs.Rules.{RuleMeaning}
use Rattle.laws.specs.Rules.Next.{stop, step}
use Rattle.laws.specs.Tables.{Tab}
use Rattle.pile.specs.Stepped.{Stepped}

module _ {N X : Type 0} (E : Type 0) (r : RuleMeaning N) (noted : X → N) (ns ms : List N) (t u : Tab) (o : Option X) (same : ns ≡ ms)
    (came : Stepped {E = E} r noted ns t (Ok o) u) where
  pub took : (n : X) → o ≡ Some n → r.next ms t ≡ step (noted n) u
  took n is = ap (λ ks. r.next ks t) (sym same) ∙ subst (λ p. Stepped {E = E} r noted ns t (Ok p) u) is came

  pub stopped : o ≡ None → (r.next ms t ≡ stop) × (u ≡ t)
  stopped is =
      let end = subst (λ p. Stepped {E = E} r noted ns t (Ok p) u) is came in
      (ap (λ ks. r.next ks t) (sym same) ∙ end.0, end.1)
