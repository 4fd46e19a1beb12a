use Rattle.std.proofs.Common.{[], ◌∙◌, ap, refl}
use Rattle.frame.specs.Frames.{frame_of}
use Rattle.desk.specs.Views.{BatchView}
use Rattle.desk.specs.Deeds.{fresh}
use Rattle.desk.proofs.Moving.{nothing_yet}
use Rattle.desk.proofs.desk.Desk.open.Goals as goal

pub returns-clause-starts : goal.returns-clause-starts
returns-clause-starts g c =
    let sealed = g.S.Seal.sealed_text in
    let of = c.in_ok-unit.ensures in
    record {
      start = fresh sealed c.args.keys c.args.address c.args.partition c.in_ok-unit.unit.host.streams;
      deeds = [];
      now = record {
        address = of.address.0;
        partition = of.partition.0;
        frame = ap (frame_of sealed) of.keys;
        streams = refl;
        stands = of.stands;
        told = c.new-2.ensures.items;
        wires = c.in_ok-wire.ensures;
      };
      opened = tt;
      tally = of.tally ∙ nothing_yet;
      order = ap (λ (b : BatchView). b.order) c.new-3.ensures;
      sends = ap (λ (b : BatchView). b.sends) c.new-3.ensures;
      frames = ap (λ (b : BatchView). b.frames) c.new-3.ensures;
      open_sends = refl;
      open_frames = refl;
      is = refl;
    }
