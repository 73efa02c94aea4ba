-- Numbers as bytes, the high byte first, and the frame of a record.
use Rattle.std.specs.Prelude.{ℕ, ◌+◌, ◌*◌, ◌/◌, ◌%◌, List, [], ◌∷◌, ◌++◌, length, slice_index}

-- the number that a high and a low byte stand for
abbrev pub word : ℕ → ℕ → ℕ
word high low = high * 256 + low

-- the number that a pair of bytes stands for
abbrev pub pair_word : List ℕ → ℕ
pair_word pair = word (slice_index pair 0) (slice_index pair 1)

-- the numbers that bytes stand for, two bytes each; an odd last byte is left out
abbrev pub words : List ℕ → List ℕ
words [] = []
words (high ∷ []) = []
words (high ∷ low ∷ bytes) = word high low ∷ words bytes

-- the number that two bytes stand for, those from place i on
abbrev pub from_two : ℕ → List ℕ → ℕ
from_two i bs = word (slice_index bs i) (slice_index bs (i + 1))

-- the number that the first four bytes stand for
abbrev pub from_four : List ℕ → ℕ
from_four bs = slice_index bs 0 * 16777216 + slice_index bs 1 * 65536 + slice_index bs 2 * 256 + slice_index bs 3

-- a number as two bytes
abbrev pub in_two : ℕ → List ℕ
in_two n = (n / 256 % 256) ∷ (n % 256) ∷ []

-- a number as four bytes
abbrev pub in_four : ℕ → List ℕ
in_four n = (n / 16777216 % 256) ∷ (n / 65536 % 256) ∷ (n / 256 % 256) ∷ (n % 256) ∷ []

-- a record: a tag, the length of the body in two bytes, and the body
abbrev pub framed : ℕ → List ℕ → List ℕ
framed tag body = tag ∷ (in_two (length body) ++ body)
