-- One turn takes one step; at the end the run is the rule's own, since there is no other.
use Rattle.std.proofs.Common.{◌≡◌, ◌+◌, [], ◌∷◌, ◌++◌, vec_items, ap, ◌∙◌, subst}
use Rattle.laws.specs.Rules.{Runs, GoodStep, repeated, undo_all}
use Rattle.laws.specs.Rules.Next.{step}
use Rattle.laws.specs.Rules.Runs.{ends, goes}
use Rattle.laws.proofs.Repetition.{repetition}
use Rattle.table.specs.Held.{tab_of}
use Rattle.pile.specs.Stepped.{newest_first}
use Rattle.pile.specs.Ways.{Way, way_of}
use Rattle.pile.proofs.Notes.{newest_push}
use Rattle.pile.proofs.Runs.{took, stopped}
use Rattle.pile.proofs.repeat.RepeatReduction.reduce.Goals as goal
use Rattle.pile.proofs.repeat.RepeatReduction.reduce.Goals.{In-Some}
use Rattle.std.specs.declared.alloc.AllocError.{AllocError}
use Rattle.pile.proofs.repeat.RepeatReduction.reduce.Given as given

-- the step that was taken is the rule's next one
next_is : (g : given.Over) (c : In-Some g)
    → (g.R.Rule.rule c.args.self.now.rule).next (newest_first g.R.Rule.noted (vec_items c.loop-notes.notes)) (tab_of c.loop-notes.table)
    ≡ step (g.R.Rule.noted c.in-Some.note) (tab_of c.step.new.table)
next_is g c =
    took AllocError (g.R.Rule.rule c.args.self.now.rule) g.R.Rule.noted _ _ _ _ c.in_ok-note.field-0 (ap (newest_first g.R.Rule.noted) c.as_slice.ensures.value) c.in_ok-note.ensures c.in-Some.note c.in-Some.is

-- and it is safe
safe_step : (g : given.Over) (c : In-Some g)
    → GoodStep (g.R.Rule.rule c.args.self.now.rule) (tab_of c.loop-notes.table) (g.R.Rule.noted c.in-Some.note) (tab_of c.step.new.table)
safe_step g c =
    g.met.R.Rule.safe c.args.self.now.rule (newest_first g.R.Rule.noted (vec_items c.loop-notes.notes)) (tab_of c.loop-notes.table) c.loop-notes.invariant.0 _ _ (next_is g c)

pub loop-notes-preserved : goal.loop-notes-preserved
loop-notes-preserved g c =
    let d = (goal.at.loop-notes-preserved g c).In-Some in
    let r = g.R.Rule.rule c.args.self.now.rule in
    let noted = g.R.Rule.noted in
    let good = safe_step g d in
    let items : vec_items c.push.new.self ≡ vec_items c.loop-notes.notes ++ c.in-Some.note ∷ [] = c.in_ok-push.ensures.items in
    let pushed = ap (newest_first noted) items ∙ newest_push noted (vec_items c.loop-notes.notes) c.in-Some.note in (
      good.table,
      good.no_larger.same_last ∙ c.loop-notes.invariant.1,
      λ ms v run. c.loop-notes.invariant.2 ms v (goes (next_is g d) (subst (λ ns. Runs r ns (tab_of c.step.new.table) ms v) pushed run)),
    )

pub returns-clause-came : goal.returns-clause-came
returns-clause-came g c =
    let r = g.R.Rule.rule c.args.self.now.rule in
    let noted = g.R.Rule.noted in
    let ns = newest_first noted (vec_items c.loop-notes.notes) in
    let t = tab_of c.args.table.now in
    let end = stopped AllocError r noted _ ns _ _ c.in_ok-note.field-0 (ap (newest_first noted) c.as_slice.ensures.value) c.in_ok-note.ensures c.in_default.is in
    let run = c.loop-notes.invariant.2 ns (tab_of c.loop-notes.table) (ends end.0) in
    let only = (repetition r (g.met.R.Rule.safe c.args.self.now.rule) t c.choice_count-bytes.ensures.lawful).only ns (tab_of c.loop-notes.table) run in
    let sized : ◌≡◌ {A = Way} (record { bytes = c.choice_count-bytes.result; apply = undo_all r ns }) (record { bytes = t.last + 1; apply = undo_all r ns }) =
    ap (λ k. record { bytes = k; apply = undo_all r ns }) c.choice_count-bytes.ensures.count in
    let noted_all : ◌≡◌ {A = Way} (record { bytes = t.last + 1; apply = undo_all r ns }) (way_of (repeated r) t) =
    ap (λ ks. record { bytes = t.last + 1; apply = undo_all r ks }) only.0 in
    (end.1 ∙ only.1, sized ∙ noted_all)
