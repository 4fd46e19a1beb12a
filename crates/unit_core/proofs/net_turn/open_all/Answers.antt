use Rattle.std.proofs.Common.{◌≡◌, ◌+◌, ◌≤◌, ◌∷◌, ◌++◌, [], ℕ, List, length, take, ap, ◌∙◌, refl, sym, subst, arith, zero-add}
use Rattle.std.proofs.Math.ListN.{get_or}
use Rattle.std.proofs.lemmas.Grind.{take_at_read}
use Rattle.std.proofs.lemmas.List.{length-take-le}
use Rattle.unit_core.specs.inside.Sides.{Opens}
use Rattle.unit_core.proofs.Openings.{opens_none, opens_both, one_kind, one_place}
use Rattle.unit_core.proofs.net_turn.open_all.Goals as goal

pub loop-index-init : goal.loop-index-init
loop-index-init g c = record {
  opens = opens_none g.S.Seal.sealed_text c.args.net.now 0 c.args.end.now c.args.out.now;
  kinds = omega (arith, ap length c.requires.kinds);
  places = omega (arith, ap length c.requires.places);
}

pub loop-index-preserved : goal.loop-index-preserved
loop-index-preserved g c =
    let was = c.loop-index.invariant in
    let one = c.open_one.ensures in
    let sealed = g.S.Seal.sealed_text in
    let net = c.args.net.now in
    let frames = c.args.frames.now in
    let i = c.loop-index.index in
    let frame = get_or frames i [] in
    let many : i ≡ 0 + length (take i frames) =
    omega (arith, length-take-le i frames (omega (arith, c.loop-index-test.true))) in
    let both : Opens sealed net 0
    (take i frames ++ frame ∷ []) c.args.end.now c.open_one.new.end c.args.out.now c.open_one.new.out =
    opens_both sealed net 0 (take i frames) (frame ∷ []) c.args.end.now c.loop-index.end c.open_one.new.end
    c.args.out.now c.loop-index.out c.open_one.new.out was.opens
    (subst (λ n. Opens sealed net n (frame ∷ []) c.loop-index.end c.open_one.new.end
    c.loop-index.out c.open_one.new.out) many one) in
    record {
      opens = subst
          (λ (fs : List (List ℕ)). Opens sealed net 0
          fs c.args.end.now c.open_one.new.end c.args.out.now c.open_one.new.out)
          (sym (take_at_read frames i [] c.loop-index-test.true).1) both;
      kinds = one_kind sealed net i i frame c.loop-index.end c.open_one.new.end
          c.loop-index.out c.open_one.new.out one was.kinds;
      places = one_place sealed net i i frame c.loop-index.end c.open_one.new.end
          c.loop-index.out c.open_one.new.out one was.places;
    }
