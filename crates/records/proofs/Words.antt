-- Bytes, and numbers of two bytes.
use Rattle.std.proofs.Common.{All, ◌≡◌, ℕ, suc, ◌+◌, ◌*◌, ◌/◌, ◌<◌, List, [], ◌∷◌, length, get_or, map, refl, ap, arith}
use Rattle.std.proofs.Math.ListN.{get_or-eq_default}
use Rattle.std.proofs.lemmas.Grind.{common_steps}
use Rattle.std.proofs.lemmas.Nat.{be_bytes_2}
use Rattle.std.specs.Simd.{first_chunks}
use Rattle.records.specs.Bytes.{word, pair_word, words, in_two}

-- a list of bytes has a byte at each place, past its end too
pub byte_at : (bs : List ℕ) → All (λ b. b < 256) bs → (i : ℕ) → get_or bs i 0 < 256
byte_at bs a i = let here : i < length bs → get_or bs i 0 < 256 = a i 0 in grind (arith, common_steps, get_or-eq_default bs 0 {n = i})

-- two bytes are those of the number that they stand for
pub two_forth : (a b : ℕ) → a < 256 → b < 256 → in_two (a * 256 + b) ≡ a ∷ b ∷ []
two_forth a b h k = be_bytes_2 (a ∷ b ∷ []) _ refl (λ i. grind arith) refl

-- the numbers that bytes stand for are those of their pairs
pub words_pairs : (bytes : List ℕ)
    → map pair_word (first_chunks 2 (length bytes / 2) bytes) ≡ words bytes
words_pairs [] = refl
words_pairs (a ∷ []) = refl
words_pairs (a ∷ b ∷ bytes) =
    let more : length (a ∷ b ∷ bytes) / 2 ≡ suc (length bytes / 2) = omega arith in
    rw more (ap (λ ws. word a b ∷ ws) (words_pairs bytes))
