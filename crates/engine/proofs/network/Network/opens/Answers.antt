use Rattle.std.proofs.Common.{◌≡◌, Some, arith}
use Rattle.std.specs.Prelude.{slice_get}
use Rattle.engine.proofs.MadeBytes.{first_opens}
use Rattle.engine.proofs.network.Network.opens.Goals as goal

pub returns-in-Some : goal.returns-in-Some
returns-in-Some g c = λ m setup known.
    let first : slice_get c.args.self.now.handed.items 0 ≡ Some c.in-Some.frame.now =
    grind (arith, c.in-Some.ensures.value, c.deref.ensures.value) in
    first_opens m c.args.at c.args.self.now.handed.items c.in-Some.frame.now c.opens_at.result first
    (c.opens_at.ensures m setup known)
