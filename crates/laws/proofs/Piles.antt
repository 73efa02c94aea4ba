-- Piles: a layer over a solver is a solver, and so is a pile, whose answer is its bottom's, brought up.
use Rattle.std.proofs.lemmas.List.Elements.{All-head, All-tail}
use Rattle.std.proofs.Common.{◌≡◌, ℕ, suc, ◌+◌, min, ◌↔◌, List, [], ◌∷◌, length, All, sym, refl, ap, ◌∙◌, subst, arith}
use mathlib.Core.Logic.Iff
use Rattle.laws.specs.declared.fault.Fault.{Fault}
use Rattle.laws.specs.Outcomes.{Outcome}
use Rattle.laws.specs.Outcomes.Outcome.{planned, never, refused}
use Rattle.laws.specs.Piles.{PileLaw, LayerLaw, PiledOf, ShallowOutcome, deeper, passed_up, piled, bottom_table, led_back, brought_up}
use Rattle.laws.specs.Plans.{PlanOf, Possible}
use Rattle.laws.specs.Reductions.{ReductionMeaning, Points, Reduces}
use Rattle.laws.specs.Solvers.{Solves, RightFor}
use Rattle.laws.specs.Tables.{Tab, Lawful}
use Rattle.laws.proofs.Options.{no}
use Rattle.laws.proofs.Reductions.{no_larger_itself, no_larger_trans}
use Rattle.laws.proofs.Solvers.{right_planned, right_never, right_refused}

-- a fault with another depth
abbrev at_depth : Fault → ℕ → Fault
at_depth f d = record { layer = f.layer; depth = d; number = f.number; place = f.place; offset = f.offset }

-- without layers the answer stays as it is
up_none : (t : Tab) (o : Outcome) → ShallowOutcome o → o ≡ brought_up [] t o
up_none t (planned p w) h = refl
up_none t (never w) h = refl
up_none t (refused f) h =
    let same : f.depth ≡ min 255 (f.depth + 0) = omega arith in
    ap (λ d. refused (at_depth f d)) same

-- one layer over a pile's is one layer more
up_more :
    (r : ReductionMeaning) (rs : List ReductionMeaning) (t : Tab) (o : Outcome)
    → passed_up r t (brought_up rs (r.smaller t) o) ≡ brought_up (r ∷ rs) t o
up_more r rs t (planned p w) = refl
up_more r rs t (never w) = refl
up_more r rs t (refused f) =
    let same : min 255 (min 255 (f.depth + length rs) + 1) ≡ min 255 (f.depth + suc (length rs)) = omega arith in
    ap (λ d. refused (at_depth f d)) same

module _ (r : ReductionMeaning) (t : Tab) where
  -- one layer alone
  up_one : (o : Outcome) → passed_up r t o ≡ brought_up (r ∷ []) t o
  up_one (planned p w) = refl
  up_one (never w) = refl
  up_one (refused f) = refl

  -- an answer comes up as an answer of its kind
  plan_up : (o : Outcome) (w : ℕ) → ((p : List ℕ) × (passed_up r t o ≡ planned p w)) ↔ ((q : List ℕ) × (o ≡ planned q w))
  plan_up (planned q v) w = (λ h. let e = h.1 in (q, cc), λ h. let e = h.1 in (r.back t q, cc))
  plan_up (never v) w = (λ h. let e = h.1 in no (cc), λ h. let e = h.1 in no (cc))
  plan_up (refused f) w = (λ h. let e = h.1 in no (cc), λ h. let e = h.1 in no (cc))

  none_up : (o : Outcome) (w : ℕ) → (passed_up r t o ≡ never w) ↔ (o ≡ never w)
  none_up (planned q v) w = (λ e. no (cc), λ e. no (cc))
  none_up (never v) w = (λ e. e, λ e. e)
  none_up (refused f) w = (λ e. no (cc), λ e. no (cc))

  refusal_up : (o : Outcome) → ((f : Fault) × (passed_up r t o ≡ refused f)) ↔ ((f : Fault) × (o ≡ refused f))
  refusal_up (planned q v) = (λ h. let e = h.1 in no (cc), λ h. let e = h.1 in no (cc))
  refusal_up (never v) = (λ h. let e = h.1 in no (cc), λ h. let e = h.1 in no (cc))
  refusal_up (refused f) = (λ h. (f, refl), λ h. (deeper 1 f, refl))

  module _ (shown : Points r t) where
    -- a plan of the smaller table is one of the table: both have one last choice
    here : (p : List ℕ) → PlanOf (r.smaller t).last p → PlanOf t.last p
    here p plan = subst (λ m. PlanOf m p) shown.no_larger.same_last plan

    below : (p : List ℕ) → PlanOf t.last p → PlanOf (r.smaller t).last p
    below p plan = subst (λ m. PlanOf m p) (sym shown.no_larger.same_last) plan

    -- what some plan makes true below, some plan makes true here
    possible_up : Possible (r.smaller t) → Possible t
    possible_up h =
        let plan = here h.plan h.is_plan in
        record { plan = r.back t h.plan; is_plan = shown.plans h.plan plan; keeps = shown.back h.plan plan h.keeps }

    -- an answer that is right below comes up right
    right_up : (o : Outcome) → RightFor (r.smaller t) o → RightFor t (passed_up r t o)
    right_up (planned q v) right =
        let plan = here q (right.is_plan q v refl) in
        right_planned t (r.back t q) v (shown.plans q plan) (shown.back q plan (right.keeps q v refl))
    right_up (never v) right = right_never t v (λ h. right.none v refl (shown.possible h))
    right_up (refused f) right = right_refused t (deeper 1 f)

pub layer_law : LayerLaw
layer_law r s shows solves t ok =
    let shown = shows t ok in
    right_up r t shown (s (r.smaller t)) (solves (r.smaller t) shown.table)

-- the answer under at least one layer, without a word on the bottom's depth
answer_up :
    (r : ReductionMeaning) (rs : List ReductionMeaning) (bottom : Tab → Outcome) (t : Tab)
    → piled (r ∷ rs) bottom t ≡ brought_up (r ∷ rs) t (bottom (bottom_table (r ∷ rs) t))
answer_up r [] bottom t = up_one r t (bottom (r.smaller t))
answer_up r (s ∷ rs) bottom t =
    ap (passed_up r t) (answer_up s rs bottom (r.smaller t))
    ∙ up_more r (s ∷ rs) t (bottom (bottom_table rs (s.smaller (r.smaller t))))

pile_of :
    (rs : List ReductionMeaning) (bottom : Tab → Outcome) → All Reduces rs → Solves bottom → (t : Tab) → Lawful t
    → PiledOf rs bottom t
pile_of [] bottom shows solves t ok =
    record {
      table = ok;
      no_larger = no_larger_itself t;
      possible = (λ h. h, λ h. h);
      plans = λ p plan. plan;
      back = λ p plan h. h;
      answer = up_none t (bottom t);
      right = solves t ok;
      some_plan = λ w. (λ h. h, λ h. h);
      none = λ w. (λ h. h, λ h. h);
      some_refusal = (λ h. h, λ h. h);
    }
pile_of (r ∷ rs) bottom shows solves t ok =
    let shown = All-head Reduces r rs shows t ok in
    let rest = pile_of rs bottom (All-tail Reduces r rs shows) solves (r.smaller t) shown.table in
    let low = piled rs bottom (r.smaller t) in
    record {
      table = rest.table;
      no_larger = no_larger_trans t (r.smaller t) (bottom_table rs (r.smaller t)) shown.no_larger rest.no_larger;
      possible = (λ h. rest.possible.0 (shown.possible h), λ h. possible_up r t shown (rest.possible.1 h));
      plans =
          λ p plan.
          let q = led_back rs (r.smaller t) p in
          shown.plans q (here r t shown q (rest.plans p (below r t shown p plan)));
      back =
          λ p plan h.
          let q = led_back rs (r.smaller t) p in
          let low-plan = below r t shown p plan in
          shown.back q (here r t shown q (rest.plans p low-plan)) (rest.back p low-plan h);
      answer = λ _. answer_up r rs bottom t;
      right = right_up r t shown low rest.right;
      some_plan = λ w. Iff.trans (plan_up r t low w) (rest.some_plan w);
      none = λ w. Iff.trans (none_up r t low w) (rest.none w);
      some_refusal = Iff.trans (refusal_up r t low) rest.some_refusal;
    }

pub pile_law : PileLaw
pile_law =
    record {
      piles = pile_of;
      solves = λ rs bottom shows solves t ok. (pile_of rs bottom shows solves t ok).right;
    }
