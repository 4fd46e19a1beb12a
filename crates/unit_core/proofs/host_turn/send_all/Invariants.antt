use Rattle.std.proofs.Common.{◌≡◌, ◌+◌, ◌*◌, ◌≤◌, ◌++◌, length, take, drop, vec_len, vec_capacity}
use Rattle.ring_link.specs.Ends.{spare}
use Rattle.unit_core.specs.Sending.{answers_to}
use Rattle.unit_core.specs.inside.Sides.{SendsAll}
use Rattle.unit_core.proofs.host_turn.send_all.Given as goal

abbrev pub invariant-loop-send : goal.invariant-loop-send
invariant-loop-send g l =
    let rest = drop l.send-index l.sends in
    record {
      sends : SendsAll (take l.send-index l.sends) l.fn.host l.host l.fn.end l.end;
      answers : l.answers.items ++ answers_to l.host.streams rest ≡ l.fn.answers.items ++ answers_to
          l.fn.host.streams l.sends;
      room : 64 * length rest ≤ spare l.end;
      slots : vec_len l.answers + length rest ≤ vec_capacity l.answers;
      memory : vec_capacity l.answers ≡ vec_capacity l.fn.answers;
    }
