-- How a report keeps what units counted.
use Rattle.std.specs.Prelude.{◌≡◌, List, length, true, Option, Some, None, is_some}
use Rattle.std.proofs.Math.ListN.{get_or}
use Rattle.levels.specs.declared.level.Party.{Party}
use Rattle.levels.specs.Rosters.{RosterView}
use Rattle.events.specs.Scripts.{is_known}
use Rattle.unit_core.specs.Views.{TallyView}
use Rattle.unit_core.specs.Tallies.{nothing_counted}
use Rattle.engine.specs.Slots.{slot_of}

abbrev pub counted_by : Option TallyView → TallyView
counted_by None = nothing_counted
counted_by (Some tally) = tally

-- each party has its slot, and each party of the roster what its unit counted
pub record IsKept (roster : RosterView) (tallies : List (Option TallyView)) : Type 0 where
  pub count : length tallies ≡ 512
  pub there : (u : Party) → is_known roster u ≡ true
      → is_some (get_or tallies (slot_of u) None) ≡ true
