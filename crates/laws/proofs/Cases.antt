-- The worked cases, computed.
use Rattle.std.proofs.Common.{refl}
use Rattle.laws.specs.Blocked.{blocked_next}
use Rattle.laws.specs.Cases.{WorkedCases}
use Rattle.laws.specs.Colour.{colour_next}
use Rattle.laws.specs.Eliminate.{eliminate_next}
use Rattle.laws.specs.Lister.{lister, tries}
use Rattle.laws.specs.Lone.{lone_next}
use Rattle.laws.specs.Rules.{run_from}
use Rattle.laws.specs.Splitter.{found_within, turn}
use Rattle.laws.specs.Trim.{trim_next}

pub worked_cases : WorkedCases
unfolding blocked_next colour_next eliminate_next lister tries lone_next run_from found_within turn trim_next
worked_cases =
    record {
      lone_leaves = refl;
      lone_leads = refl;
      trim_leaves = refl;
      cover_leaves = refl;
      blocked_leaves = refl;
      blocked_leads = refl;
      scarce_leaves = refl;
      scarce_stays = refl;
      sign_leaves = refl;
      sign_leads = refl;
      sign_stays = refl;
      eliminate_leaves = refl;
      eliminate_leads = refl;
      splitter_none = refl;
      splitter_refuses = refl;
      lister_none = refl;
      lister_second = refl;
      lister_first = refl;
    }
