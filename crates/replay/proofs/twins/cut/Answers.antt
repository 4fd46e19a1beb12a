use Rattle.std.proofs.Common.{ap, length, length-append, ◌∷◌, refl, sym, ◌∙◌, arith}
use Rattle.std.proofs.lemmas.Bool.{false≢true}
use Rattle.replay.proofs.TwoTexts.{behind_none, behind_more, cut_behind, cut_nowhere}
use Rattle.replay.proofs.twins.cut.Goals as goal

pub loop-line-init : goal.loop-line-init
loop-line-init c = behind_none c.args.input.now

pub loop-line-preserved : goal.loop-line-preserved
loop-line-preserved c =
    behind_more c.args.input.now c.loop-line.rest.now c.in-Some.line.now c.in-Some.behind.now c.loop-line.invariant
    c.in-Some.ensures.parts c.in-Some.ensures.line
    (λ e. absurd (false≢true (sym c.if-is_end.false ∙ c.is_end.ensures.1 e)))

pub loop-line-smaller : goal.loop-line-smaller
loop-line-smaller c = omega (
  arith,
  ap length c.in-Some.ensures.parts,
  length-append c.in-Some.line.now (10 ∷ c.in-Some.behind.now),
)

pub returns-then-is_end : goal.returns-then-is_end
returns-then-is_end c =
    cut_behind c.args.input.now c.loop-line.rest.now c.in-Some.line.now c.in-Some.behind.now
    _ _ c.loop-line.invariant c.in-Some.ensures.parts (c.is_end.ensures.0 c.if-is_end.true)
    c.split_at.ensures.by_index.0 c.split_at.ensures.front_len

pub returns : goal.returns
returns c =
    cut_nowhere c.args.input.now c.loop-line.rest.now _ _ c.loop-line.invariant (c.in_default.ensures.none refl)
    c.split_at-2.ensures.by_index.0 c.split_at-2.ensures.front_len
