use Rattle.std.proofs.Common.{◌≡◌, ◌<◌, ◌≤◌, ◌+◌, List, [], ◌∷◌, ◌++◌, length, sym, ◌∙◌, ap, subst, arith, length-append}
use Rattle.std.proofs.Math.ListN.{set}
use Rattle.desk.specs.Wires.{WireView, with_message}
use Rattle.desk.specs.declared.wire.Run.{Run}
use Rattle.desk.specs.inside.Kept.{Kept, kept_of, runs_to, shown, IsKept}
use Rattle.desk.proofs.Wiring.{runs_read, one_more, still, put, later, in_runs, one_message}
use Rattle.desk.proofs.wire.Wire.add.Goals as goal

pub invariant_of-self-in_err-push : goal.invariant_of-self-in_err-push
invariant_of-self-in_err-push c =
    let k : Kept = kept_of c.self.inside in
    let runs = c.self.inside.runs.items in
    let to = c.from.result in
    let lt : to < 256 = omega arith in
    let frames = c.extend_from_slice.new.self.items in
    let p = c.push.new.self in
    let more : frames ≡ k.frames ++ c.args.frames.now = c.in_ok-extend_from_slice.ensures.items in
    let longer : length k.frames ≤ length frames =
    omega (arith, ap length more, length-append k.frames c.args.frames.now) in
    let old : p.items ≡ runs_to k to = c.in_err-push.ensures.items
    ∙ sym (runs_read runs to c.index_mut.result.now
    (in_runs runs to c.self.invariant.addresses lt) c.index_mut.ensures.value) in
    subst (λ rs. IsKept (record { frames = frames; runs = rs })) (sym (put runs to p (runs_to k to) old))
    (still k frames to (runs_to k to) c.self.invariant lt longer
    (later (runs_to k to) (length k.frames) (length frames) longer (c.self.invariant.within to)))

pub invariant_of-self-2 : goal.invariant_of-self-2
invariant_of-self-2 c =
    let k : Kept = kept_of c.self.inside in
    let runs = c.self.inside.runs.items in
    let to = c.from.result in
    let lt : to < 256 = omega arith in
    let frames = c.extend_from_slice.new.self.items in
    let p = c.push.new.self in
    let run : Run = record { first = c.len-first.result; count = length c.args.frames.now } in
    let more : frames ≡ k.frames ++ c.args.frames.now = c.in_ok-extend_from_slice.ensures.items in
    let longer : length k.frames ≤ length frames =
    omega (arith, ap length more, length-append k.frames c.args.frames.now) in
    let last : run.first + run.count ≤ length frames =
    omega (
      arith,
      ap length more,
      length-append k.frames c.args.frames.now,
      c.len-first.ensures,
      c.self.inside.frames.ok.0,
    ) in
    let old : p.items ≡ runs_to k to ++ run ∷ [] = c.in_ok-push.ensures.items
    ∙ ap (λ (rs : List Run). rs ++ run ∷ [])
    (sym (runs_read runs to c.index_mut.result.now
    (in_runs runs to c.self.invariant.addresses lt) c.index_mut.ensures.value)) in
    subst (λ rs. IsKept (record { frames = frames; runs = rs })) (sym (put runs to p (runs_to k to ++ run ∷ []) old))
    (still k frames to (runs_to k to ++ run ∷ []) c.self.invariant lt longer
    (one_more (runs_to k to) run (length frames)
    (later (runs_to k to) (length k.frames) (length frames) longer (c.self.invariant.within to)) last))

pub returns : goal.returns
returns c =
    let k : Kept = kept_of c.self.inside in
    let runs = c.self.inside.runs.items in
    let to = c.from.result in
    let lt : to < 256 = omega arith in
    let frames = c.args.frames.now in
    let p = c.push.new.self in
    let run : Run = record { first = c.len-first.result; count = length frames } in
    let first : c.len-first.result ≡ length k.frames = omega (arith, c.len-first.ensures, c.self.inside.frames.ok.0) in
    let more : c.extend_from_slice.new.self.items ≡ k.frames ++ frames = c.in_ok-extend_from_slice.ensures.items in
    let old : p.items ≡ runs_to k to ++ run ∷ [] = c.in_ok-push.ensures.items
    ∙ ap (λ (rs : List Run). rs ++ run ∷ [])
    (sym (runs_read runs to c.index_mut.result.now
    (in_runs runs to c.self.invariant.addresses lt) c.index_mut.ensures.value)) in
    ap (λ rs. shown (record { frames = c.extend_from_slice.new.self.items; runs = rs }))
    (put runs to p (runs_to k to ++ run ∷ []) old)
    ∙ ap (λ fs. shown (record { frames = fs; runs = set k.runs to (runs_to k to ++ run ∷ []) })) more
    ∙ ap (λ n. shown (record {
      frames = k.frames ++ frames;
      runs =
          set k.runs to (runs_to k to ++ record { first = n; count = length frames } ∷ []);
    })) first
    ∙ one_message k to frames c.self.invariant lt
    ∙ ap (λ a. with_message (shown k) a frames) c.from.ensures
    ∙ ap (λ (v : WireView). with_message v c.args.to frames) c.self.view_is
