use Rattle.std.proofs.Common.{sym, subst}
use Rattle.std.specs.Prelude.{reverse, take}
use Rattle.seal_core.specs.Sealing.{IsSealing}
use Rattle.machine.specs.Setup.{setup_of}
use Rattle.engine.specs.Reports.{StopsEarly}
use Rattle.engine.specs.inside.Standing.{SetupOf}
use Rattle.engine.proofs.Following.{setup_is, event_there, runs_on, stops}
use Rattle.engine.proofs.engine.follow.Goals as goal

pub loop-number-preserved : goal.loop-number-preserved
loop-number-preserved g c =
    let script = c.args.script.now in
    let n = c.loop-number.number in
    let m = setup_of script in
    let past = reverse (take n script.events) in
    let setup = subst (SetupOf m g.S.Seal.sealed_text) (sym c.roster.ensures.roster)
    (setup_is c.script_laws.ensures script g.S.Seal.sealed_text c.roster.ensures.kept c.requires.sealing) in
    let fits = c.script_laws.ensures.fits script n c.roster.ensures.kept
    (subst IsSealing (sym c.requires.sealing) c.sealing_laws.ensures) in
    runs_on script n c.event-item.result c.loop-number.network.desks c.step.new.self.desks
    c.loop-number.network.files c.step.new.self.files c.loop-number.sent.items c.keep.new.sent.items
    c.in-Ok.row
    (event_there script.events c.events-event-items.result.now n c.event-item.result
    c.events-event-items.ensures c.loop-number-test.true c.event-item.is)
    c.loop-number.invariant
    (c.in-Ok.ensures m past setup fits c.loop-number.invariant.stands) c.in_ok-keep-in-Ok.ensures

pub returns-in-Err : goal.returns-in-Err
returns-in-Err g c =
    let script = c.args.script.now in
    let n = c.loop-number.number in
    let m = setup_of script in
    let past = reverse (take n script.events) in
    let setup = subst (SetupOf m g.S.Seal.sealed_text) (sym c.roster.ensures.roster)
    (setup_is c.script_laws.ensures script g.S.Seal.sealed_text c.roster.ensures.kept c.requires.sealing) in
    let fits = c.script_laws.ensures.fits script n c.roster.ensures.kept
    (subst IsSealing (sym c.requires.sealing) c.sealing_laws.ensures) in
    subst (StopsEarly script) (sym c.stop_at.ensures)
    (stops script n c.event-item.result c.loop-number.network.desks c.step.new.self.desks
    c.loop-number.network.files c.step.new.self.files c.loop-number.sent.items c.in-Err.halt
    (event_there script.events c.events-event-items.result.now n c.event-item.result
    c.events-event-items.ensures c.loop-number-test.true c.event-item.is)
    c.loop-number.invariant (c.in-Err.ensures m past setup fits c.loop-number.invariant.stands))
