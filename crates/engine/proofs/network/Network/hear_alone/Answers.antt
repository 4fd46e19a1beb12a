use Rattle.std.proofs.Common.{◌∙◌}
use Rattle.engine.proofs.HearingAlone.{is_heard_alone}
use Rattle.engine.proofs.Results.{on_ok_two}
use Rattle.engine.proofs.network.Network.hear_alone.Goals as goal

pub returns-clause-heard : goal.returns-clause-heard
returns-clause-heard g c =
    on_ok_two c.turn_alone.result
    (λ here idle m past e sealed fits known place harmless handed ready.
    is_heard_alone c.machine_laws.ensures g.S.Seal.sealed_text c.args.at c.slot_of-slot.result
    c.deref.result.now c.turn_alone.new.out.kinds c.args.self.now.desks c.turn_alone.new.self
    c.slot_of-slot.ensures.slot c.slot_of-slot.ensures.fits here idle c.turn_alone.ensures.others m past e
    sealed fits place harmless (c.deref.ensures.value ∙ handed) ready)
    c.turn_alone.ensures.here c.turn_alone.ensures.idle
