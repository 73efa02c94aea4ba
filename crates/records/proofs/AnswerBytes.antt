-- A record's bytes written over a buffer, one part after another.
use Rattle.std.proofs.Common.{◌≡◌, ℕ, ◌+◌, List, ◌∷◌, ◌++◌, length, drop, refl, ap, ◌∙◌, arith, length-append}
use Rattle.std.proofs.Math.Seq.{paste}
use Rattle.std.proofs.lemmas.List.Edits.{paste_all, paste-paste}
use Rattle.records.specs.Answers.{over}
use Rattle.records.specs.Bytes.{framed, in_two}

-- a part right behind another is one part
part_behind : (b : List ℕ) (n j : ℕ) (xs ys : List ℕ)
    → n ≡ length xs → j ≡ 0 + n → paste (paste b 0 xs n) j ys (length ys) ≡ paste b 0 (xs ++ ys) (n + length ys)
part_behind b n j xs ys e h = rw h (paste-paste b 0 xs ys n (length ys) e refl (omega arith))

-- the three writes of a record: its head, and the two parts of its body
pub over_framed : (b b₂ b₃ head : List ℕ) (t : ℕ) (xs ys : List ℕ)
    → head ≡ t ∷ in_two (length xs + length ys) → b₂ ≡ paste (head ++ drop 3 b) 3 xs (length xs)
    → b₃ ≡ paste b₂ (3 + length xs) ys (length ys) → b₃ ≡ over b 0 (framed t (xs ++ ys))
over_framed b b₂ b₃ head t xs ys e p q =
    let z = t ∷ in_two (length xs + length ys) in
    let n = 3 + length xs in
    let all = z ++ xs ++ ys in
    let whole : n + length ys ≡ length all = omega (arith, length-append (z ++ xs) ys) in
    q ∙ ap (λ x. paste x n ys (length ys)) (p ∙ ap (λ h. paste (h ++ drop 3 b) 3 xs (length xs)) e ∙ part_behind b 3 3 z xs refl refl)
    ∙ part_behind b n n (z ++ xs) ys (omega arith) (omega arith)
    ∙ ap (paste b 0 all) whole ∙ paste_all b 0 all (length all) refl
    ∙ rw (length-append xs ys) refl
