-- Why the executable run is the one script of a file, and what its count says of it.
use Rattle.std.proofs.Common.{◌≡◌, ℕ, zero, suc, ◌+◌, ◌-◌, ◌<◌, List, [], ◌∷◌, length, Ok, Err, Result, sym, refl, ap, ◌∙◌, subst, arith}
use Rattle.laws.specs.declared.fault.Fault.{Fault}
use Rattle.records.specs.Entries.{Entry, header, clause, pin, finish}
use Rattle.records.specs.Reading.{Reading, refuses, gives, read_at}
use Rattle.records.specs.Script.{Script, ends, broken, more, Runs, at_end, at_fault, at_record, script, counted, verdict, behind_all, Scanned, RunsOneScript}
use Rattle.records.proofs.Readings.{onward}
use Rattle.records.proofs.Scripts.{script_fault, script_end, script_more}

-- the run from here, by what is read here, if it holds from behind each record
runs_on : (file : List ℕ) (at : ℕ) (r : Reading) → read_at file at ≡ r →
    ((e : Entry) (n : ℕ) → read_at file at ≡ gives e n → Runs file n (script file n)) → Runs file at (script file at)
runs_on file at (refuses f) h on = subst (Runs file at) (sym (script_fault file at f h)) (at_fault h)
runs_on file at (gives (header k) n) h on =
    subst (Runs file at) (sym (script_more file at _ n h refl)) (at_record h refl (on _ n h))
runs_on file at (gives (clause bytes k) n) h on =
    subst (Runs file at) (sym (script_more file at _ n h refl)) (at_record h refl (on _ n h))
runs_on file at (gives (pin l) n) h on =
    subst (Runs file at) (sym (script_more file at _ n h refl)) (at_record h refl (on _ n h))
runs_on file at (gives finish n) h on = subst (Runs file at) (sym (script_end file at finish n h refl)) (at_end h)

-- by what is left of the file
runs_within : (m : ℕ) (file : List ℕ) (at : ℕ) → length file - at < m → Runs file at (script file at)
runs_within zero file at l = absurd (omega arith)
runs_within (suc m) file at l =
    runs_on file at (read_at file at) refl (λ e n h.
    let on = onward file at e n h in
    runs_within m file n (omega arith))

runs_it : (file : List ℕ) (at : ℕ) → Runs file at (script file at)
runs_it file at = runs_within (length file - at + 1) file at (omega arith)

only_it : (file : List ℕ) (at : ℕ) (s : Script) → Runs file at s → s ≡ script file at
only_it file at s (at_end {next} h) = sym (script_end file at finish next h refl)
only_it file at s (at_fault {f} h) = sym (script_fault file at f h)
only_it file at s (at_record {next} {e} {s = rest} h k r) =
    ap (more e) (only_it file next rest r) ∙ sym (script_more file at e next h k)

pub runs_one_script : RunsOneScript
runs_one_script file at = record { runs = runs_it file at; only = only_it file at }

-- the count of a run that ends, and of one that breaks
counted_ends : (es : List Entry) (n k : ℕ) → k ≡ n + length es + 1 → counted n (behind_all es ends) ≡ Ok k
counted_ends [] n k h = ap Ok (omega arith)
counted_ends (e ∷ es) n k h = counted_ends es (n + 1) k (omega arith)

counted_breaks : (es : List Entry) (n : ℕ) (f : Fault) → counted n (behind_all es (broken f)) ≡ Err f
counted_breaks [] n f = refl
counted_breaks (e ∷ es) n f = counted_breaks es (n + 1) f

-- and back
ends_counted : (s : Script) (n k : ℕ) → counted n s ≡ Ok k →
    (es : List Entry) × (s ≡ behind_all es ends) × (k ≡ n + length es + 1)
ends_counted ends n k h = let c : n + 1 ≡ k = cc in ([], refl, omega arith)
ends_counted (broken f) n k h = let z : ◌≡◌ {A = ℕ} 0 1 = cc in absurd (omega arith)
ends_counted (more e s) n k h =
    let p = ends_counted s (n + 1) k h in
    let c = p.2 in
    (e ∷ p.0, ap (more e) p.1, omega arith)

breaks_counted : (s : Script) (n : ℕ) (f : Fault) → counted n s ≡ Err f →
    (es : List Entry) × (s ≡ behind_all es (broken f))
breaks_counted ends n f h = let z : ◌≡◌ {A = ℕ} 0 1 = cc in absurd (omega arith)
breaks_counted (broken g) n f h = let c : g ≡ f = cc in ([], ap broken c)
breaks_counted (more e s) n f h =
    let p = breaks_counted s (n + 1) f h in
    (e ∷ p.0, ap (more e) p.1)

scanned_whole : (file : List ℕ) → Scanned file (verdict (script file 0))
scanned_whole file = record {
  counts = λ k h.
      let p = ends_counted (script file 0) 0 k h in
      let c = p.2 in
      (p.0, subst (Runs file 0) p.1 (runs_it file 0), omega arith);
  counted_so = λ es r. ap verdict (sym (only_it file 0 _ r)) ∙ counted_ends es 0 (length es + 1) (omega arith);
  breaks = λ f h.
      let p = breaks_counted (script file 0) 0 f h in
      (p.0, subst (Runs file 0) p.1 (runs_it file 0));
  broken_so = λ es f r. ap verdict (sym (only_it file 0 _ r)) ∙ counted_breaks es 0 f;
}

-- an answer that is the run's verdict is what a scan answers
pub scanned : {file : List ℕ} {r : Result ℕ Fault} → r ≡ verdict (script file 0) → Scanned file r
scanned {file} {r} h = subst (Scanned file) (sym h) (scanned_whole file)
