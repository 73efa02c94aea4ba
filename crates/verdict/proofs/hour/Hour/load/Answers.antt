-- The ways on from an offset: a refusal of the file's, the end, a record taken, a record refused.
use Rattle.std.proofs.Common.{◌≡◌, ℕ, Err, sym, ap, ◌∙◌, subst}
use Rattle.std.proofs.lemmas.Result.{err_from_is_err_and}
use Rattle.records.specs.Entries.{Entry, entry_of}
use Rattle.records.specs.Reading.{refuses, gives}
use Rattle.records.proofs.Scripts.{read_here}
use Rattle.verdict.specs.Hours.{Asked, Loaded, asked_of, fed}
use Rattle.verdict.specs.Loading.{ends, breaks, stops, goes, ReadAs}
use Rattle.verdict.proofs.Stops.{stopped_as}
use Rattle.verdict.proofs.hour.Hour.load.Goals as goal

-- what comes of a record is what comes of it at the reader's offset
at_place : (h : Asked) (n m : ℕ) (e : Entry) (x : Loaded) → n ≡ m → fed h n e ≡ x → fed h m e ≡ x
at_place h n m e x same got = ap (λ (k : ℕ). fed h k e) (sym same) ∙ got

pub returns-in_err-got : goal.returns-in_err-got
returns-in_err-got c =
    let read = refuses c.in_err-got.field-0.0 in
    let refused =
    read_here c.args.src.now c.loop-hour.reader.src.now c.loop-hour.reader.pos read c.loop-hour.invariant.0
    c.in_err-got.ensures.came in
    let out = err_from_is_err_and c.from_residual.result c.from_residual.ensures.1 in
    subst (ReadAs c.args.src.now) (sym (out.1 ∙ ap Err out.2)) (c.loop-hour.invariant.1 _ (breaks refused))

pub returns-then-is_end : goal.returns-then-is_end
returns-then-is_end c =
    let read = gives (entry_of c.in_ok-got.got) c.read.new.self.pos in
    let here =
    read_here c.args.src.now c.loop-hour.reader.src.now c.loop-hour.reader.pos read c.loop-hour.invariant.0
    c.in_ok-got.ensures.came in
    c.loop-hour.invariant.1 _ (ends here (sym c.if-is_end.ensures))

pub loop-hour-preserved : goal.loop-hour-preserved
loop-hour-preserved c =
    let read = gives (entry_of c.in_ok-got.got) c.read.new.self.pos in
    let here =
    read_here c.args.src.now c.loop-hour.reader.src.now c.loop-hour.reader.pos read c.loop-hour.invariant.0
    c.in_ok-got.ensures.came in
    let h = asked_of c.loop-hour.hour in
    let e = entry_of c.in_ok-got.got in
    let place = at_place h c.position-at.result c.loop-hour.reader.pos e in
    let same : c.read.new.self.src.now ≡ c.loop-hour.reader.src.now = c.in_ok-got.ensures.same in (
      same ∙ c.loop-hour.invariant.0,
      λ x on. c.loop-hour.invariant.1 x
          (goes here (sym c.if-is_end.ensures) (place _ c.position-at.ensures c.in_ok-feed.ensures) on),
    )

pub returns-in_err-feed : goal.returns-in_err-feed
returns-in_err-feed c =
    let read = gives (entry_of c.in_ok-got.got) c.read.new.self.pos in
    let here =
    read_here c.args.src.now c.loop-hour.reader.src.now c.loop-hour.reader.pos read c.loop-hour.invariant.0
    c.in_ok-got.ensures.came in
    let h = asked_of c.loop-hour.hour in
    let e = entry_of c.in_ok-got.got in
    let place = at_place h c.position-at.result c.loop-hour.reader.pos e in
    let out = err_from_is_err_and c.from_residual-in_err-feed.result c.from_residual-in_err-feed.ensures.1 in
    subst (ReadAs c.args.src.now) (sym (out.1 ∙ ap Err out.2))
    (stopped_as c.args.src.now (asked_of c.loop-hour.hour) (asked_of c.feed.new.self) c.position-at.result
    (entry_of c.in_ok-got.got) _ c.in_err-feed.ensures
    (λ f e. c.loop-hour.invariant.1 _ (stops here (place _ c.position-at.ensures e))))
