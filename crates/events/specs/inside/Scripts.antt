use Rattle.events.specs.declared.script.Script.TheInside.{Inside}
use Rattle.events.specs.ScriptView.{ScriptView}

abbrev pub view_of : Inside → ScriptView
view_of a = record { roster = a.roster; rows = a.rows.items; events = a.events.items }
