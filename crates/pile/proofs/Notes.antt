-- Notes, the newest first.
use Rattle.std.proofs.Common.{◌≡◌, List, [], ◌∷◌, ◌++◌, map, reverse, ap, ◌∙◌}
use mathlib.Core.List.{reverse-append}
use Rattle.std.proofs.lemmas.List.{map_push}
use Rattle.pile.specs.Stepped.{newest_first}

-- one note more at the end of a Vec is the newest
pub newest_push :
    {N X : Type 0} (noted : X → N) (xs : List X) (x : X)
    → newest_first noted (xs ++ x ∷ []) ≡ noted x ∷ newest_first noted xs
newest_push noted xs x = ap reverse (map_push noted xs x) ∙ reverse-append (map noted xs) (noted x ∷ [])
