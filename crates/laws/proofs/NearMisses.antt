-- The near misses, computed.
use Rattle.std.proofs.Common.{refl}
use Rattle.laws.specs.Blocked.{blocked_next}
use Rattle.laws.specs.Eliminate.{eliminate_next}
use Rattle.laws.specs.NearMisses.{NearMisses}
use Rattle.laws.specs.Rules.{run_from}
use Rattle.laws.specs.Splitter.{found_within, turn}

pub near_misses : NearMisses
unfolding blocked_next eliminate_next run_from found_within turn
near_misses =
    record {
      blocked_order = record { table = refl; below = refl; last_to_first = refl; first_to_last = refl };
      eliminate_order = record { table = refl; below = refl; last_to_first = refl; first_to_last = refl };
      sign_steps = refl;
      sign_possible = refl;
      sign_set = refl;
      sign_refuted = λ p. refl;
      clash_lawful = refl;
      clash_found = refl;
      clash_resolvent = refl;
      clash_unlawful = refl;
      equal_cover = refl;
      equal_bare = refl;
      equal_below = refl;
      equal_broken = refl;
      limit_refuses = refl;
      limit_possible = refl;
      limit_enough = refl;
    }
