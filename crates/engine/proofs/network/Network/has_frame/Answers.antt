use Rattle.std.proofs.Common.{◌≡◌, Some, None}
use Rattle.std.specs.Prelude.{slice_get}
use Rattle.std.proofs.lemmas.Option.{slice_get_past}
use Rattle.engine.proofs.MadeBytes.{read_there, stand_there, stand_nowhere}
use Rattle.engine.proofs.network.Network.has_frame.Goals as goal

pub returns-in-Some : goal.returns-in-Some
returns-in-Some g c =
    let found = read_there c.deref.result.now c.from.result c.in-Some.frame.now
    c.in-Some.ensures.lookup.3.0 c.in-Some.ensures.lookup.1 in
    let items = c.deref.ensures.value in
    let place = c.from.ensures in
    let there : slice_get c.args.self.now.handed.items c.args.place ≡ Some c.in-Some.frame.now = cc in
    stand_there c.args.self.now.handed.items c.args.place c.in-Some.frame.now c.args.bytes.now
    c.is_same.result there c.is_same.ensures

pub returns-in-None : goal.returns-in-None
returns-in-None g c =
    let none = slice_get_past c.deref.result.now c.from.result c.in-None.ensures.lookup.3 in
    let items = c.deref.ensures.value in
    let place = c.from.ensures in
    let there : slice_get c.args.self.now.handed.items c.args.place ≡ None = cc in
    stand_nowhere c.args.self.now.handed.items c.args.place c.args.bytes.now there
