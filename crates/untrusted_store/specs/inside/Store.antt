use Rattle.std.specs.Prelude.{map}
use Rattle.untrusted_store.specs.declared.planned.PlannedStore.TheInside.{Inside}
use Rattle.untrusted_store.specs.Planned.{PlannedView}
use Rattle.untrusted_store.specs.inside.Ahead.{AreAhead}

abbrev pub view_of : Inside → PlannedView
view_of a = record {
  rows = a.rows.items;
  records = a.records.entries;
  asked = map (λ asked. asked.count) a.readers.items;
}

abbrev pub IsPlanned : Inside → Type 0
IsPlanned a = AreAhead a.rows.items a.readers.items
