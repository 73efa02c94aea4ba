-- What a refusal says in plain words, as bytes of text: its five numbers, and what its number means.
use Rattle.std.specs.Prelude.{ℕ, cond, List, [], ◌∷◌, ◌++◌, codes, decimal, ◌==◌}
use Rattle.laws.specs.declared.fault.Fault.{Fault}

-- `layer 3, depth 0, number 12, place 1, offset 4`
abbrev pub fault_words : Fault → List ℕ
fault_words f =
    codes "layer " ++ (decimal f.layer
    ++ (codes ", depth " ++ (decimal f.depth
    ++ (codes ", number " ++ (decimal f.number
    ++ (codes ", place " ++ (decimal f.place
    ++ (codes ", offset " ++ decimal f.offset))))))))

-- of a number that no check has
abbrev pub unknown_words : List ℕ
unknown_words = codes "a number that this program does not know"

-- each number that a check has, with what it means
abbrev pub meanings : List (ℕ × List ℕ)
meanings =
    (11, codes "a clause has no code, or more than 256") ∷
    (12, codes "a code is above the largest that the last choice allows") ∷
    (13, codes "a choice stands twice in one clause") ∷
    (14, codes "no more clauses may stand") ∷
    (15, codes "no more literals may stand") ∷
    (21, codes "the literal is pinned already") ∷
    (22, codes "no more pins may stand") ∷
    (23, codes "the literal is not pinned") ∷
    (31, codes "the plan's buffer is shorter than one byte for each choice") ∷
    (41, codes "the splitter's limit of splits ran out") ∷
    (42, codes "more choices occur than the lister tries") ∷
    (50, codes "the file is longer than 65,535 bytes") ∷
    (51, codes "a record is cut short, or the end record is missing") ∷
    (52, codes "a record's tag is unknown") ∷
    (53, codes "the header is not first, or stands twice") ∷
    (54, codes "a record's length does not fit its tag") ∷
    (55, codes "bytes stand behind the end record") ∷
    (56, codes "the buffer is too short for the file") ∷ []

-- the text that stands with a number in a list of them
abbrev pub said_of : ℕ → List (ℕ × List ℕ) → List ℕ
said_of n [] = unknown_words
said_of n (m ∷ ms) = cond (n == m.0) m.1 (said_of n ms)

-- what a number means
abbrev pub meaning_of : ℕ → List ℕ
meaning_of n = said_of n meanings
