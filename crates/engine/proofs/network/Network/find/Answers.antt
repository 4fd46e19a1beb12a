use Rattle.std.proofs.Common.{◌≡◌, ℕ, ◌≤◌, ◌++◌, length, take, None, sym, ap, ◌∙◌, arith, rules}
use Rattle.engine.specs.Slots.{slot_of}
use Rattle.engine.specs.inside.Standing.{desk_at}
use Rattle.engine.proofs.Finding.{found_in_slot, found_in_none}
use Rattle.engine.proofs.Results.{on_ok_changed}
use Rattle.engine.proofs.network.Network.find.Goals as goal
use Rattle.engine.proofs.network.Network.find.Goals.{then-frames-gt64, else-frames-gt64}

pub returns-clause-found : goal.returns-clause-found
returns-clause-found g c =
    let frames = c.sent_to-frames.result.now in
    let n = c.if-frames-gt64.count in
    let slot = λ (k : ℕ). desk_at c.args.self.now.desks k in
    let count : length frames ≤ 64 → n ≡ length frames = elim c.if-frames-gt64.branch [
      | then-frames-gt64 w ↦ λ le. absurd (omega (arith, le))
      | else-frames-gt64 w ↦ λ le. w.count-is
    ] in
    on_ok_changed c.extend_from_slice.result c.extend_from_slice.new.self.items
    (c.clear.new.self.items ++ take n frames) c.clear.new.self.items c.extend_from_slice.ensures.items
    (λ items m past b same fits known at silent.
    items ∙ ap (λ before. before ++ take n frames) c.clear.ensures.items
    ∙ found_in_slot c.machine_laws.ensures g.S.Seal.sealed_text c.args.stream c.args.message n
    (desk_at c.args.self.now.desks (slot_of c.args.stream.from)) c.in-Some.desk.now frames
    (c.in-Some.ensures.some ∙ ap slot c.slot_of.ensures.slot) c.sent_to-frames.ensures count m past b same
    fits known at silent)

pub returns-in_default-clause-found : goal.returns-in_default-clause-found
returns-in_default-clause-found g c =
    let none : desk_at c.args.self.now.desks c.slot_of.result ≡ None = search rules in
    found_in_none c.machine_laws.ensures g.S.Seal.sealed_text c.args.stream c.args.message
    (desk_at c.args.self.now.desks (slot_of c.args.stream.from)) c.clear.new.self.items
    (ap (λ (k : ℕ). desk_at c.args.self.now.desks k) (sym c.slot_of.ensures.slot) ∙ none)
    c.clear.ensures.items
