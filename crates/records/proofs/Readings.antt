-- What a reading is, by the checks that pass and the first that fails.
use Rattle.std.proofs.Common.{◌≡◌, ℕ, ◌+◌, ◌≤◌, Bool, true, false, not, ◌||◌, eqb, leb, List, length, refl, arith}
use mathlib.Core.Bool.{beq}
use Rattle.std.proofs.lemmas.Bool.{leb-true}
use Rattle.laws.specs.declared.fault.Fault.{Fault}
use Rattle.laws.specs.Faults.{file_fault}
use Rattle.records.specs.Entries.{Entry}
use Rattle.records.specs.Reading.{Reading, refuses, gives, read_at, behind, tag_at, size_at, is_known, is_fit, entry_at, refuses_unless}

module _ (file : List ℕ) (at : ℕ) where
  pub at_50 : leb (length file) 65535 ≡ false → read_at file at ≡ refuses (file_fault 50 0)
  at_50 a = simp a

  module _ (a : leb (length file) 65535 ≡ true) where
    pub at_51 : leb (behind file at) (length file) ≡ false → read_at file at ≡ refuses (file_fault 51 at)
    at_51 b = simp (a, b)

    module _ (b : leb (behind file at) (length file) ≡ true) where
      pub at_52 : is_known (tag_at file at) ≡ false → read_at file at ≡ refuses (file_fault 52 at)
      at_52 c = simp (a, b, c)

      module _ (c : is_known (tag_at file at) ≡ true) where
        pub at_53 : beq (eqb (tag_at file at) 1) (eqb at 0) ≡ false → read_at file at ≡ refuses (file_fault 53 at)
        at_53 d = simp (a, b, c, d)

        module _ (d : beq (eqb (tag_at file at) 1) (eqb at 0) ≡ true) where
          pub at_54 : is_fit (tag_at file at) (size_at file at) ≡ false → read_at file at ≡ refuses (file_fault 54 at)
          at_54 e = simp (a, b, c, d, e)

          module _ (e : is_fit (tag_at file at) (size_at file at) ≡ true) where
            pub at_55 : (not (eqb (tag_at file at) 15) || eqb (behind file at) (length file)) ≡ false →
                read_at file at ≡ refuses (file_fault 55 at)
            at_55 f = simp (a, b, c, d, e, f)

            pub at_record : (not (eqb (tag_at file at) 15) || eqb (behind file at) (length file)) ≡ true →
                read_at file at ≡ gives (entry_at file at) (behind file at)
            at_record f = simp (a, b, c, d, e, f)

-- a check that is passed on the way to a record
check_gives : (b : Bool) (f : Fault) (rest : Reading) (e : Entry) (n : ℕ) → refuses_unless b f rest ≡ gives e n →
    (b ≡ true) × (rest ≡ gives e n)
check_gives true f rest e n h = (refl, h)
check_gives false f rest e n h = let z : ◌≡◌ {A = ℕ} 0 1 = cc in absurd (omega arith)

-- a check on the way to a refusal: it fails, and this is its fault, or it is passed
pub by_check : {X : Type 0} (b : Bool) (f : Fault) (rest : Reading) (g : Fault) → refuses_unless b f rest ≡ refuses g →
    (b ≡ false → g ≡ f → X) → (b ≡ true → rest ≡ refuses g → X) → X
by_check true f rest g h no_more on = on refl h
by_check false f rest g h no_more on = no_more refl (cc)

-- all six checks are passed at an offset of a file
pub record Passed (file : List ℕ) (at : ℕ) : Type 0 where
  pub few : leb (length file) 65535 ≡ true
  pub whole : leb (behind file at) (length file) ≡ true
  pub known : is_known (tag_at file at) ≡ true
  pub placed : beq (eqb (tag_at file at) 1) (eqb at 0) ≡ true
  pub fit : is_fit (tag_at file at) (size_at file at) ≡ true
  pub final : (not (eqb (tag_at file at) 15) || eqb (behind file at) (length file)) ≡ true

-- where a record is read, every check is passed, and the record and the offset behind it are those of the definition
pub given : (file : List ℕ) (at : ℕ) (e : Entry) (n : ℕ) → read_at file at ≡ gives e n →
    Passed file at × (e ≡ entry_at file at) × (n ≡ behind file at)
given file at e n h =
    let a = check_gives _ _ _ e n h in
    let b = check_gives _ _ _ e n a.1 in
    let c = check_gives _ _ _ e n b.1 in
    let d = check_gives _ _ _ e n c.1 in
    let i = check_gives _ _ _ e n d.1 in
    let j = check_gives _ _ _ e n i.1 in
    let same : gives (entry_at file at) (behind file at) ≡ gives e n = j.1 in
    (record { few = a.0; whole = b.0; known = c.0; placed = d.0; fit = i.0; final = j.0 }, cc, cc)

-- behind a record that is read: three bytes or more on, and within the file
pub onward : (file : List ℕ) (at : ℕ) (e : Entry) (n : ℕ) → read_at file at ≡ gives e n →
    (at + 3 ≤ n) × (n ≤ length file)
onward file at e n h =
    let p = given file at e n h in
    (omega (arith, p.2), omega (arith, p.2, leb-true (behind file at) (length file) p.0.whole))
