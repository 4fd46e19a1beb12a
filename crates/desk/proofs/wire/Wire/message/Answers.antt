use Rattle.std.proofs.Common.{◌≡◌, ◌<◌, ◌≤◌, ◌+◌, length, Some, None, sym, ◌∙◌, ap, subst, arith}
use Rattle.std.specs.Prelude.{slice_get}
use Rattle.desk.specs.Wires.{WireView, message_frames}
use Rattle.desk.specs.inside.Kept.{Kept, kept_of, runs_to, part_of, shown}
use Rattle.desk.proofs.Wiring.{runs_read, at_run, at_none, in_runs, found}
use Rattle.desk.proofs.wire.Wire.message.Goals as goal

pub part-requires : goal.part-requires
part-requires c =
    let k : Kept = kept_of c.self.inside in
    let to = c.from.result in
    let lt : to < 256 = omega arith in
    let runs = c.self.inside.runs.items in
    let same : c.deref.result.now ≡ runs_to k to = c.deref.ensures.value
    ∙ sym (runs_read runs to c.index.result.now (in_runs runs to c.self.invariant.addresses lt) c.index.ensures) in
    let run = c.in-Some.run'.now in
    let at : slice_get (runs_to k to) c.args.number ≡ Some run = ap (λ rs. slice_get rs c.args.number) (sym same)
    ∙ at_run c.deref.result.now c.args.number run c.in-Some.ensures.lookup.0 c.in-Some.ensures.lookup.1 in
    subst (λ fs. run.first + run.count ≤ length fs) (sym c.deref-in-Some.ensures.value)
    (c.self.invariant.within to c.args.number run at)

pub returns-in-None : goal.returns-in-None
returns-in-None c =
    let k : Kept = kept_of c.self.inside in
    let to = c.from.result in
    let lt : to < 256 = omega arith in
    let runs = c.self.inside.runs.items in
    let same : c.deref.result.now ≡ runs_to k to = c.deref.ensures.value
    ∙ sym (runs_read runs to c.index.result.now (in_runs runs to c.self.invariant.addresses lt) c.index.ensures) in
    let none : slice_get (runs_to k to) c.args.number ≡ None = ap (λ rs. slice_get rs c.args.number) (sym same)
    ∙ at_none c.deref.result.now c.args.number c.in-None.ensures.lookup.0 in
    found k to c.args.number None c.self.invariant lt none
    ∙ ap (λ a. message_frames (shown k) a c.args.number) c.from.ensures
    ∙ ap (λ (v : WireView). message_frames v c.args.to c.args.number) c.self.view_is

pub returns-in-Some : goal.returns-in-Some
returns-in-Some c =
    let k : Kept = kept_of c.self.inside in
    let to = c.from.result in
    let lt : to < 256 = omega arith in
    let runs = c.self.inside.runs.items in
    let same : c.deref.result.now ≡ runs_to k to = c.deref.ensures.value
    ∙ sym (runs_read runs to c.index.result.now (in_runs runs to c.self.invariant.addresses lt) c.index.ensures) in
    let run = c.in-Some.run'.now in
    let at : slice_get (runs_to k to) c.args.number ≡ Some run = ap (λ rs. slice_get rs c.args.number) (sym same)
    ∙ at_run c.deref.result.now c.args.number run c.in-Some.ensures.lookup.0 c.in-Some.ensures.lookup.1 in
    c.part.ensures
    ∙ ap (λ fs. part_of fs run) c.deref-in-Some.ensures.value
    ∙ found k to c.args.number (Some run) c.self.invariant lt at
    ∙ ap (λ a. message_frames (shown k) a c.args.number) c.from.ensures
    ∙ ap (λ (v : WireView). message_frames v c.args.to c.args.number) c.self.view_is
