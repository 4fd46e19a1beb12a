use Rattle.std.proofs.Common.{◌≡◌, ◌<◌, true, false, Some, subst, inl, inr, rules, arith}
use Rattle.std.specs.Prelude.{slice_get, IsTrue, ◌↔◌}
use Rattle.machine.specs.Machine.{state}
use Rattle.engine.proofs.MadeBytes.{found_flushed, address_slot, known_there, at_address, same_at_address, frames_named, sent_there, named_elsewhere}
use Rattle.engine.proofs.network.Network.was_sent.Goals as goal
use Rattle.engine.proofs.network.Network.was_sent.Goals.{then-not-same_partition-via-then-not-same_partition, then-not-same_partition-via-else-not-same_partition+then-not-same_partition-2}

pub returns-then-not-same_partition-clause-sent : goal.returns-then-not-same_partition-clause-sent
returns-then-not-same_partition-clause-sent g c = λ m past setup fits known frame only ready.
    let x = c.args.piece.now in
    let sealed = g.S.Seal.sealed_text in
    let roster = c.args.roster.now in
    let at = c.args.at in
    named_elsewhere c.machine_laws.ensures m past at c.args.bytes.now x fits frame only
    (elim c.then-not-same_partition.branch [
      | then-not-same_partition-via-then-not-same_partition w ↦ inl
          (let other : c.same_partition.result ≡ false = search rules in
          let here = at_address m sealed roster at c.partition_of.result c.in-Some.partition
          c.party_at.result c.from.result x.from setup c.partition_of.ensures.found c.in-Some.is
          c.party_at.ensures c.from.ensures.from in
          same_at_address m sealed roster at c.party_at.result x.from c.same_partition.result false
          setup here c.same_partition.ensures other)
      | then-not-same_partition-via-else-not-same_partition+then-not-same_partition-2 w ↦ inr
          (let asked = w.same_partition-else-not-same_partition in
          let other : asked.result ≡ false = search rules in
          let here = at_address m sealed roster at c.partition_of.result c.in-Some.partition
          c.party_at-2.result c.to.result x.to setup c.partition_of.ensures.found c.in-Some.is
          c.party_at-2.ensures c.to.ensures.to in
          same_at_address m sealed roster at c.party_at-2.result x.to asked.result false setup here
          asked.ensures other)
    ])

pub returns-clause-sent : goal.returns-clause-sent
returns-clause-sent g c = λ m past setup fits known frame only ready.
    let x = c.args.piece.now in
    let sealed = g.S.Seal.sealed_text in
    let roster = c.args.roster.now in
    let at = c.args.at in
    let p = c.in-Some.partition in
    let frames = c.find.new.self.handed.items in
    let asked = c.same_partition-else-not-same_partition in
    let from = at_address m sealed roster at c.partition_of.result p c.party_at.result c.from.result
    x.from setup c.partition_of.ensures.found c.in-Some.is c.party_at.ensures c.from.ensures.from in
    let to = at_address m sealed roster at c.partition_of.result p c.party_at-2.result c.to.result x.to
    setup c.partition_of.ensures.found c.in-Some.is c.party_at-2.ensures c.to.ensures.to in
    let same_from : c.same_partition.result ≡ true = search rules in
    let same_to : asked.result ≡ true = search rules in
    let small : p.0 < 256 = omega (arith, c.in-Some.ensures.within, c.requires.kept.level_room) in
    let found = found_flushed m past sealed roster c.args.self.now.desks
    (record { from = c.party_at.result; to = c.party_at-2.result }) c.message.result frames
    c.in_ok-find.ensures.found setup fits
    (known_there roster c.party_at-2.result at asked.result asked.ensures same_to)
    (address_slot p.0 c.from.result c.party_at.result small c.from.type_inv c.party_at.ensures) ready in
    sent_there c.machine_laws.ensures m past at c.args.bytes.now x frames c.has_frame.result fits frame
    only (same_at_address m sealed roster at c.party_at.result x.from c.same_partition.result true setup
    from c.same_partition.ensures same_from)
    (frames_named m (state m past) at x frames c.party_at.result c.party_at-2.result c.message.result
    found from to c.message.ensures.message)
    (subst (λ i. IsTrue c.has_frame.result ↔ (slice_get frames i ≡ Some c.args.bytes.now))
    c.piece.ensures.piece c.has_frame.ensures)
