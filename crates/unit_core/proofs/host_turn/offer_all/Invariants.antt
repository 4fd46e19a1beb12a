use Rattle.std.proofs.Common.{◌≡◌, ◌+◌, ◌-◌, ◌≤◌, ◌++◌, map}
use Rattle.std.specs.List.{range_with_len}
use Rattle.frame.specs.Pieces.{pieces, piece_of}
use Rattle.ring_link.specs.Ends.{received_by, taken_by, spare}
use Rattle.unit_core.specs.inside.Ends.{StaysEnd}
use Rattle.unit_core.proofs.host_turn.offer_all.Given as goal

abbrev pub invariant-loop-i : goal.invariant-loop-i
invariant-loop-i g l =
    let piece = piece_of l.host.address l.to l.host.partition l.number l.message in
    record {
      taken : taken_by l.end ++ map piece (range_with_len l.i (pieces l.message - l.i))
          ≡ taken_by l.fn.end ++ map piece (range_with_len 0 (pieces l.message));
      received : received_by l.end ≡ received_by l.fn.end;
      spare : spare l.fn.end ≤ spare l.end + l.i;
      same : StaysEnd l.fn.end l.end;
    }
