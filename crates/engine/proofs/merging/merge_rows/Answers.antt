use Rattle.std.proofs.Common.{◌≤◌, ◌+◌, ◌<◌, ◌^◌, ◌-◌, length, get_or, sym, subst, arith}
use Rattle.levels.specs.declared.level.Party.TheVariants.{Host}
use Rattle.engine.specs.declared.merging.SentRow.{SentRow}
use Rattle.engine.specs.Slots.{slot_of}
use Rattle.engine.proofs.Merged.{merges_next}
use Rattle.engine.proofs.OneMerge.{has_frames, has_number}
use Rattle.engine.proofs.merging.merge_rows.Goals as goal

abbrev nobody : SentRow
nobody = record { stream = record { from = Host 0; to = Host 0 }; pieces = 0 }

pub merge_one-requires-clause-room : goal.merge_one-requires-clause-room
merge_one-requires-clause-room c =
    omega (arith, c.counter_of-counter.ensures.room, c.loop-row.invariant.streams)

pub merge_one-requires-clause-own : goal.merge_one-requires-clause-own
merge_one-requires-clause-own c =
    let i = c.loop-row.row-index in
    let row = get_or c.args.sent.now i nobody in
    subst (λ own. get_or c.loop-row.taken (slot_of row.stream.from) 0 + row.pieces ≤ length own)
    (sym c.frames_of-own.ensures)
    (has_frames c.args.sent.now c.args.wires.now i nobody c.loop-row.taken c.loop-row.counts
    c.loop-row.frames.items c.requires.sealed.0 c.loop-row-test.true
    c.counter_of-counter.ensures.from c.loop-row.invariant c.requires.sealed.1)

pub merge_one-requires-clause-few : goal.merge_one-requires-clause-few
merge_one-requires-clause-few c =
    let i = c.loop-row.row-index in
    let row = get_or c.args.sent.now i nobody in
    subst (λ counter. get_or c.loop-row.counts counter 0 < 2 ^ 32 - 1)
    (sym c.counter_of-counter.ensures.counter)
    (has_number c.args.sent.now c.args.wires.now i row.stream c.loop-row.taken c.loop-row.counts
    c.loop-row.frames.items c.loop-row-test.true c.requires.few c.counter_of-counter.ensures.from
    c.counter_of-counter.ensures.to c.loop-row.invariant)

pub loop-row-preserved : goal.loop-row-preserved
loop-row-preserved c =
    let i = c.loop-row.row-index in
    let own = c.frames_of-own.result.now in
    let row = get_or c.args.sent.now i nobody in
    let room : get_or c.loop-row.taken (slot_of row.stream.from) 0 + row.pieces ≤ length own =
    subst (λ fs. get_or c.loop-row.taken (slot_of row.stream.from) 0 + row.pieces ≤ length fs)
    (sym c.frames_of-own.ensures)
    (has_frames c.args.sent.now c.args.wires.now i nobody c.loop-row.taken c.loop-row.counts
    c.loop-row.frames.items c.requires.sealed.0 c.loop-row-test.true
    c.counter_of-counter.ensures.from c.loop-row.invariant c.requires.sealed.1) in
    merges_next c.args.sent.now c.args.wires.now i nobody c.loop-row.taken c.loop-row.counts
    c.merge_one.new.taken c.merge_one.new.counts own c.counter_of-counter.result
    c.loop-row.frames.items c.merge_one.new.frames.items c.loop-row-test.true c.loop-row.invariant
    c.counter_of-counter.ensures.from c.counter_of-counter.ensures.to c.frames_of-own.ensures
    c.counter_of-counter.ensures.counter room c.in_ok-merge_one.ensures.taken
    c.in_ok-merge_one.ensures.counts c.in_ok-merge_one.ensures.frames
