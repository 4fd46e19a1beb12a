use Rattle.std.proofs.Common.{ℕ, sym, subst, ◌∙◌}
use Rattle.std.proofs.lemmas.Result.{on_ok_weaker}
use Rattle.desk.specs.Batches.{join_or_flush}
use Rattle.machine.specs.Machine.{state}
use Rattle.engine.specs.Handed.{handed_frames}
use Rattle.engine.specs.inside.Standing.{desk_at, SlotHears}
use Rattle.engine.proofs.Networking.{network_after_join}
use Rattle.engine.proofs.network.Network.join.Goals as goal

pub returns : goal.returns
returns g c =
    let old = c.args.self.now.desks in
    let new = c.take.new.self in
    let own = c.deref.result.now in
    on_ok_weaker c.take.result
    (λ here m past e from sealed fits is some handed ready files. network_after_join c.machine_laws.ensures
    m past e from c.args.at old new c.args.self.now.files fits c.ranges.at.fits is some ready
    (subst (λ (k : ℕ). SlotHears m.sealed (handed_frames m (state m past) e)
    (join_or_flush (handed_frames m (state m past) e)) (desk_at old k) (desk_at new k)) c.from-slot.ensures
    (subst (λ frames. SlotHears m.sealed frames (join_or_flush frames) (desk_at old c.from-slot.result)
    (desk_at new c.from-slot.result)) (c.deref.ensures.value ∙ handed)
    (subst (λ s. SlotHears s own (join_or_flush own) (desk_at old c.from-slot.result)
    (desk_at new c.from-slot.result)) (sym sealed) here)))
    (λ k differ. c.take.ensures.others k (λ same. differ (same ∙ c.from-slot.ensures))) files)
    c.take.ensures.here
