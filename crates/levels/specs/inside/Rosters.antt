use Rattle.levels.specs.declared.roster.Roster.TheInside.{Inside}
use Rattle.levels.specs.Rosters.{RosterView}

abbrev pub view_of : Inside → RosterView
view_of a =
    record {
      sealing = a.sealing;
      levels = a.levels.items;
      keys = a.keys.items;
      guard = a.guard;
      hosts = a.hosts;
    }
