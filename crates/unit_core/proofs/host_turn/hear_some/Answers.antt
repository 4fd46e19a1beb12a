use Rattle.std.proofs.Common.{◌≡◌, ◌++◌, sym, ap, ap₂, subst, ◌∙◌}
use Rattle.unit_core.specs.inside.Messages.{AreFew}
use Rattle.unit_core.proofs.Hearings.{heard_next}
use Rattle.unit_core.proofs.host_turn.hear_some.Goals as goal

pub loop-preserved : goal.loop-preserved
loop-preserved g c =
    let was = c.loop.invariant in
    let one = c.hear_if_mine-heard.ensures in
    let poll = c.in-Some.ensures in
    record {
      hears = heard_next c.loop.counter c.args.host.now c.loop.host c.hear_if_mine-heard.new.host c.args.end.now
          c.loop.end
          c.poll.new.self c.args.messages.now c.loop.messages c.hear_if_mine-heard.new.messages c.loop.heard
          c.hear_if_mine-heard.result c.in-Some.piece was.hears poll.received
          (ap₂ (λ sent backlog. sent ++ backlog) poll.sent poll.backlog)
          (record { end = poll.same; capacity = poll.memory }) one.hears one.count one.few;
      few = subst (λ n. AreFew n c.hear_if_mine-heard.new.messages.list)
          (sym one.count) (one.hears.few c.loop.heard was.few);
    }
