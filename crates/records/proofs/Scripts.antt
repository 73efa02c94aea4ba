-- The run over a file: its fuel never runs out, so that it goes on by one law.
use Rattle.std.proofs.Common.{◌≡◌, ℕ, zero, suc, ◌+◌, ◌-◌, ◌<◌, true, false, cond, List, length, sym, refl, ap, ◌∙◌, add-one, arith}
use Rattle.laws.specs.declared.fault.Fault.{Fault}
use Rattle.records.specs.Entries.{Entry, is_end}
use Rattle.records.specs.Reading.{Reading, refuses, gives, read_at}
use Rattle.records.specs.Script.{Script, ends, broken, more, carried, follow, script}
use Rattle.records.proofs.Readings.{onward}

-- two ways of going on that agree behind a record that is read carry a reading on alike
carried_alike : (r : Reading) (f g : ℕ → Script) → ((e : Entry) (n : ℕ) → r ≡ gives e n → f n ≡ g n) →
    carried r f ≡ carried r g
carried_alike (refuses x) f g h = refl
carried_alike (gives e n) f g h = ap (λ s. cond (is_end e) ends (more e s)) (h e n refl)

-- any fuel above what is left of the file gives the same run
fuel_free : (m n : ℕ) (file : List ℕ) (at : ℕ) → length file - at < m → length file - at < n →
    follow m file at ≡ follow n file at
unfolding follow
fuel_free zero n file at l k = absurd (omega arith)
fuel_free (suc m) zero file at l k = absurd (omega arith)
fuel_free (suc m) (suc n) file at l k =
    carried_alike (read_at file at) _ _ (λ e next h.
    let on = onward file at e next h in
    fuel_free m n file next (omega arith) (omega arith))

-- the run from an offset is the reading there, carried on by the run from behind its record
pub script_law : (file : List ℕ) (at : ℕ) → script file at ≡ carried (read_at file at) (script file)
unfolding follow
script_law file at =
    rw (add-one (length file - at)) (carried_alike (read_at file at) _ _ (λ e next h.
    let on = onward file at e next h in
    fuel_free (length file - at) (length file - next + 1) file next (omega arith) (omega arith)))

-- what is read of an equal file is read here
pub read_here : (file other : List ℕ) (at : ℕ) (r : Reading) → other ≡ file → r ≡ read_at other at → read_at file at ≡ r
read_here file other at r e h = sym (ap (λ xs. read_at xs at) e) ∙ sym h

-- the run by what is read at its offset: a refusal, the end record, any other record
pub script_fault : (file : List ℕ) (at : ℕ) (f : Fault) → read_at file at ≡ refuses f → script file at ≡ broken f
script_fault file at f h = script_law file at ∙ ap (λ r. carried r (script file)) h

pub script_end : (file : List ℕ) (at : ℕ) (e : Entry) (n : ℕ) → read_at file at ≡ gives e n → is_end e ≡ true →
    script file at ≡ ends
script_end file at e n h k =
    script_law file at ∙ ap (λ r. carried r (script file)) h ∙ ap (λ b. cond b ends (more e (script file n))) k

pub script_more : (file : List ℕ) (at : ℕ) (e : Entry) (n : ℕ) → read_at file at ≡ gives e n → is_end e ≡ false →
    script file at ≡ more e (script file n)
script_more file at e n h k =
    script_law file at ∙ ap (λ r. carried r (script file)) h ∙ ap (λ b. cond b ends (more e (script file n))) k
