use Rattle.std.proofs.Common.{List, [], length, map, get_or, Option, refl, sym, ap, subst, ◌∙◌}
use Rattle.std.specs.Prelude.{reverse}
use Rattle.std.proofs.lemmas.List.{length-map}
use Rattle.seal_core.specs.Sealing.{IsSealing}
use Rattle.events.specs.Scripts.{IsScript}
use Rattle.desk.specs.Wires.{WireView}
use Rattle.unit_core.specs.Views.{TallyView}
use Rattle.unit_core.specs.Tallies.{nothing_counted}
use Rattle.machine.specs.declared.line.OutLine.{OutLine}
use Rattle.machine.specs.Setup.{setup_of}
use Rattle.machine.specs.Wire.{frames}
use Rattle.engine.specs.declared.merging.SentRow.{SentRow}
use Rattle.engine.specs.Slots.{slot_of}
use Rattle.engine.specs.inside.Kept.{counted_by, IsKept}
use Rattle.engine.specs.inside.Closed.{wire_left, tally_left, lines_left}
use Rattle.engine.specs.inside.Merging.{AreFramesOf}
use Rattle.engine.proofs.Reporting.{closed_is, fits_whole, ran_all, frames_are, is_kept, lines_are, tallies_are, kept_lines_count}
use Rattle.engine.proofs.engine.run_sealed.Goals as goal

pub merge_all-requires-clause-sealed : goal.merge_all-requires-clause-sealed
merge_all-requires-clause-sealed g c =
    let script = c.args.script in
    let desks = c.flush_all.new.self.desks in
    let ran = ran_all script c.follow.new.network.desks c.follow.new.network.files
    c.follow.new.sent.items c.in_ok-follow.ensures in
    let closed = closed_is (setup_of script) (reverse script.events) desks
    (c.in_ok-flush_all.ensures.flushed (setup_of script) (reverse script.events) c.requires
    ran.stands.desks_stand) in (
      frames script,
      subst (λ (sent : List SentRow). AreFramesOf sent c.deref-2.result.now (frames script))
          (sym c.deref.ensures.value)
          (subst (λ (wires : List (Option WireView)).
          AreFramesOf c.follow.new.sent.items wires (frames script))
          (sym (c.deref-2.ensures.value ∙ c.in_ok-closed.ensures.wires))
          (frames_are c.machine_laws.ensures script c.follow.new.sent.items (lines_left desks)
          (map wire_left desks) (map tally_left desks)
          (subst IsScript c.script.view_is c.script.invariant) ran.rows closed)),
    )

pub invariant_of-result : goal.invariant_of-result
invariant_of-result g c =
    let script = c.args.script in
    let desks = c.flush_all.new.self.desks in
    let is = subst IsScript c.script.view_is c.script.invariant in
    let ran = ran_all script c.follow.new.network.desks c.follow.new.network.files
    c.follow.new.sent.items c.in_ok-follow.ensures in
    let closed = closed_is (setup_of script) (reverse script.events) desks
    (c.in_ok-flush_all.ensures.flushed (setup_of script) (reverse script.events) c.requires
    ran.stands.desks_stand) in (
      sym (length-map c.in_ok-closed.closed.lines.items (λ lines. lines.items))
          ∙ ap length c.in_ok-closed.ensures.lines
          ∙ kept_lines_count desks c.in_ok-closed.ensures.slots,
      subst (IsKept script.roster) (sym c.in_ok-closed.ensures.tallies)
          (is_kept c.machine_laws.ensures (setup_of script) (reverse script.events) (lines_left desks)
          (map wire_left desks) (map tally_left desks) is.roster
          (length-map desks tally_left ∙ c.in_ok-closed.ensures.slots) closed),
    )

pub returns : goal.returns
returns g c =
    let script = c.args.script in
    let desks = c.flush_all.new.self.desks in
    let is = subst IsScript c.script.view_is c.script.invariant in
    let ran = ran_all script c.follow.new.network.desks c.follow.new.network.files
    c.follow.new.sent.items c.in_ok-follow.ensures in
    let closed = closed_is (setup_of script) (reverse script.events) desks
    (c.in_ok-flush_all.ensures.flushed (setup_of script) (reverse script.events) c.requires
    ran.stands.desks_stand) in
    let fits = fits_whole c.script_laws.ensures script is
    (subst IsSealing (sym c.requires) c.sealing_laws.ensures) in
    record {
      own = refl;
      clean = ran.clean;
      lines = λ a lt. ap (λ (lines : List (List OutLine)). get_or lines a []) c.in_ok-closed.ensures.lines
          ∙ lines_are c.script_laws.ensures script (lines_left desks) (map wire_left desks)
          (map tally_left desks) is closed a lt;
      frames = c.in_ok-frames.ensures (frames script)
          (subst (λ (sent : List SentRow). AreFramesOf sent c.deref-2.result.now (frames script))
          (sym c.deref.ensures.value)
          (subst (λ (wires : List (Option WireView)).
          AreFramesOf c.follow.new.sent.items wires (frames script))
          (sym (c.deref-2.ensures.value ∙ c.in_ok-closed.ensures.wires))
          (frames_are c.machine_laws.ensures script c.follow.new.sent.items (lines_left desks)
          (map wire_left desks) (map tally_left desks) is ran.rows closed)));
      tallies = λ u known.
          ap (λ (tallies : List (Option TallyView)). get_or (map counted_by tallies) (slot_of u)
          nothing_counted) c.in_ok-closed.ensures.tallies
          ∙ tallies_are c.machine_laws.ensures script (lines_left desks) (map wire_left desks)
          (map tally_left desks) is fits closed u known;
    }
