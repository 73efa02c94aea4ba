-- Why a record that is read lies in the file with exactly its bytes.
use Rattle.std.proofs.Common.{◌≡◌, ℕ, suc, ◌+◌, ◌-◌, ◌<◌, ◌≤◌, true, eqb, List, [], ◌∷◌, ◌++◌, length, get_or, take, drop, All, sym, refl, ap, ◌∙◌, subst, inl, inr, arith, length-drop}
use Rattle.std.proofs.lemmas.List.Elements.{All-take, All-drop}
use Rattle.std.proofs.lemmas.List.{drop_more, length-take-le}
use Rattle.std.proofs.lemmas.Bool.{leb-true, eqb-true, cond_both}
use Rattle.records.specs.Bytes.{word, framed, in_two}
use Rattle.records.specs.Entries.{bytes_of}
use Rattle.records.specs.Layout.{Part, Lies, ReadsItsBytes}
use Rattle.records.specs.Reading.{tag_at, size_at, behind, is_fit, says, entry_at}
use Rattle.records.specs.Refusals.{Known}
use Rattle.records.proofs.Readings.{Passed, given}
use Rattle.records.proofs.Tells.{tells_known}
use Rattle.records.proofs.Words.{byte_at, two_forth}

-- the bytes of a header
header_bytes : (high low : ℕ) (body : List ℕ) → length body ≡ word high low → word high low ≡ 1 →
    ◌≡◌ {A = List ℕ} (1 ∷ high ∷ low ∷ body) (1 ∷ 0 ∷ 1 ∷ get_or body 0 0 ∷ [])
header_bytes high low [] l s = absurd (omega arith)
header_bytes high low (x ∷ []) l s = let a : high ≡ 0 = omega arith in let b : low ≡ 1 = omega arith in cc
header_bytes high low (x ∷ y ∷ body) l s = absurd (omega arith)

-- the bytes of a clause
clause_bytes : (high low : ℕ) (body : List ℕ) → length body ≡ word high low → high < 256 → low < 256 →
    ◌≡◌ {A = List ℕ} (2 ∷ high ∷ low ∷ body) (framed 2 body)
clause_bytes high low body l a b =
    ap (λ (xs : List ℕ). 2 ∷ (xs ++ body)) (sym (two_forth high low a b))
    ∙ ap (λ (n : ℕ). 2 ∷ (in_two n ++ body)) (sym l)

-- the bytes of a pin
pin_bytes : (high low : ℕ) (body : List ℕ) → length body ≡ word high low → word high low ≡ 2 → All (λ b. b < 256) body →
    ◌≡◌ {A = List ℕ} (3 ∷ high ∷ low ∷ body) (framed 3 (in_two (word (get_or body 0 0) (get_or body 1 0))))
pin_bytes high low [] l s a = absurd (omega arith)
pin_bytes high low (x ∷ []) l s a = absurd (omega arith)
pin_bytes high low (x ∷ y ∷ []) l s a =
    let p : high ≡ 0 = omega arith in
    let q : low ≡ 2 = omega arith in
    let m = two_forth x y (a 0 0 (omega arith)) (a 1 0 (omega arith)) in
    cc
pin_bytes high low (x ∷ y ∷ z ∷ body) l s a = absurd (omega arith)

-- the bytes of the end
end_bytes : (high low : ℕ) (body : List ℕ) → length body ≡ word high low → word high low ≡ 0 →
    ◌≡◌ {A = List ℕ} (15 ∷ high ∷ low ∷ body) (15 ∷ 0 ∷ 0 ∷ [])
end_bytes high low [] l s = let a : high ≡ 0 = omega arith in let b : low ≡ 0 = omega arith in cc
end_bytes high low (x ∷ body) l s = absurd (omega arith)

-- a tag, a length that fits and a body of bytes are the bytes of what they say
says_bytes : (tag high low : ℕ) (body : List ℕ) (offset : ℕ) → Known tag → is_fit tag (word high low) ≡ true →
    length body ≡ word high low → high < 256 → low < 256 → All (λ b. b < 256) body →
    tag ∷ high ∷ low ∷ body ≡ bytes_of (says tag body offset)
says_bytes tag high low body offset known fit long a b all =
    let Goal : ℕ → Type 0 =
    λ t. is_fit t (word high low) ≡ true → t ∷ high ∷ low ∷ body ≡ bytes_of (says t body offset) in
    elim known [
      | inl p ↦ subst Goal (sym p) (λ f. header_bytes high low body long (eqb-true _ 1 f)) fit
      | inr (inl p) ↦ subst Goal (sym p) (λ f. clause_bytes high low body long a b) fit
      | inr (inr (inl p)) ↦ subst Goal (sym p) (λ f. pin_bytes high low body long (eqb-true _ 2 f) all) fit
      | inr (inr (inr p)) ↦ subst Goal (sym p) (λ f. end_bytes high low body long (eqb-true _ 0 f)) fit
    ]

-- three bytes and the rest of a list
first_three : (file : List ℕ) (at size : ℕ) → at + 3 ≤ length file →
    take (at + 3 + size - at) (drop at file)
    ≡ get_or file at 0 ∷ get_or file (at + 1) 0 ∷ get_or file (at + 2) 0 ∷ take size (drop (at + 3) file)
first_three file at size h =
    let a : drop at file ≡ get_or file at 0 ∷ drop (at + 1) file = drop_more file at 0 (omega arith) in
    let b : drop (at + 1) file ≡ get_or file (at + 1) 0 ∷ drop (at + 1 + 1) file = drop_more file (at + 1) 0 (omega arith) in
    let c : drop (at + 2) file ≡ get_or file (at + 2) 0 ∷ drop (at + 2 + 1) file = drop_more file (at + 2) 0 (omega arith) in
    let d : at + 1 + 1 ≡ at + 2 = omega arith in
    let e : at + 2 + 1 ≡ at + 3 = omega arith in
    let n : at + 3 + size - at ≡ suc (suc (suc size)) = omega arith in
    let whole : drop at file ≡ get_or file at 0 ∷ get_or file (at + 1) 0 ∷ get_or file (at + 2) 0 ∷ drop (at + 3) file = cc in
    ap (λ k. take k (drop at file)) n ∙ ap (λ xs. take (suc (suc (suc size))) xs) whole

-- a clause's body is a part of the file
says_part : (file : List ℕ) (at tag : ℕ) (body : List ℕ) → body ≡ take (length body) (drop (at + 3) file) →
    Part file at (says tag body (at + 3))
says_part file at tag body h =
    cond_both (eqb tag 1) _ _ (Part file at) (λ _. tt) (λ _.
    cond_both (eqb tag 2) _ _ (Part file at) (λ _. (refl, h)) (λ _.
    cond_both (eqb tag 3) _ _ (Part file at) (λ _. tt) (λ _. tt)))

lies_there : (file : List ℕ) (at : ℕ) → Passed file at → Lies file at (entry_at file at) (behind file at)
lies_there file at p =
    let size = size_at file at in
    let body = take size (drop (at + 3) file) in
    let inside : behind file at ≤ length file = leb-true _ _ p.whole in
    let room : size ≤ length (drop (at + 3) file) = simp length-drop (omega arith) in
    let long : length body ≡ size = length-take-le size (drop (at + 3) file) room in
    record {
      forward = omega arith;
      inside = inside;
      exact = λ all. first_three file at size (omega arith)
          ∙ says_bytes (tag_at file at) (get_or file (at + 1) 0) (get_or file (at + 2) 0) body (at + 3) ((tells_known _).0 p.known)
          p.fit long (byte_at file all (at + 1)) (byte_at file all (at + 2))
          (All-take (λ b. b < 256) size (drop (at + 3) file) (All-drop (λ b. b < 256) (at + 3) file all));
      part = says_part file at (tag_at file at) body (ap (λ n. take n (drop (at + 3) file)) (sym long));
    }

pub reads_its_bytes : ReadsItsBytes
reads_its_bytes file at e next h =
    let g = given file at e next h in
    subst (λ x. Lies file at x next) (sym g.1)
    (subst (λ n. Lies file at (entry_at file at) n) (sym g.2) (lies_there file at g.0))
