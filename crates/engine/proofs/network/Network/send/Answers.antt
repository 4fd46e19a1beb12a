use Rattle.std.proofs.Common.{ℕ, sym, subst, ◌∙◌}
use Rattle.std.proofs.lemmas.Result.{on_ok_weaker}
use Rattle.engine.specs.inside.Standing.{desk_at, SlotSays}
use Rattle.engine.proofs.Networking.{network_after_send}
use Rattle.engine.proofs.network.Network.send.Goals as goal

pub returns : goal.returns
returns g c =
    let old = c.args.self.now.desks in
    let new = c.send.new.self in
    let message = c.args.message.now in
    on_ok_weaker c.send.result
    (λ here m past e sealed fits is joins none stands. network_after_send c.machine_laws.ensures m past e
    c.args.from c.args.to message old new c.args.self.now.files fits c.ranges.from.fits is joins none
    (subst (λ (k : ℕ). SlotSays m.sealed c.args.to message (desk_at old k) (desk_at new k))
    c.from-slot.ensures
    (subst (λ s. SlotSays s c.args.to message (desk_at old c.from-slot.result)
    (desk_at new c.from-slot.result)) (sym sealed) here))
    (λ k differ. c.send.ensures.others k (λ same. differ (same ∙ c.from-slot.ensures))) stands)
    c.send.ensures.here
