-- What a solver owes, as a pile: its bottom's two points, and the three points of each layer's reduction.
use Rattle.std.specs.Prelude.{All}
use Rattle.laws.specs.Piles.{Pile}
use Rattle.laws.specs.Reductions.{Reduces}
use Rattle.laws.specs.Solvers.{Solves}

pub record Sound (s : Pile) : Type 0 where
  pub layers : All Reduces s.layers
  pub bottom : Solves s.bottom
