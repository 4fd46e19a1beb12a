use Rattle.std.proofs.Common.{◌≡◌, List, ℕ, length, take, drop, sym, subst, ◌∙◌, arith, take_all, length-drop}
use Rattle.std.proofs.lemmas.Bool.{false≢true}
use Rattle.frame.specs.inside.Openings.{PartHolds}
use Rattle.frame.proofs.Unsealing.{begins, closed_where, malformed_where, opened_where}
use Rattle.frame.proofs.sealed.open_frame.Goals as goal

behind : (bytes : List ℕ) → length bytes ≡ 128 → take 120 (drop 8 bytes) ≡ drop 8 bytes
behind bytes long = take_all 120 (drop 8 bytes) (omega (arith, long, length-drop 8 bytes))

pub returns-then-not-is_same_block-clause-opened : goal.returns-then-not-is_same_block-clause-opened
returns-then-not-is_same_block-clause-opened g c = λ x. (
  λ e. cc,
  λ f.
      let own = begins g.S.Seal.sealed_text c.args.keys.now c.args.partition c.args.bytes.now x f in
      absurd (false≢true (sym c.if-not-is_same_block.true
      ∙ c.is_same_block.ensures.1 (c.copy_from_slice.ensures.after ∙ own ∙ sym c.header.ensures))),
)

pub returns-clause-closed : goal.returns-clause-closed
returns-clause-closed g c =
    let sealed = g.S.Seal.sealed_text in
    let held = subst (λ t. PartHolds sealed c.args.keys.now c.args.partition t c.open_part.result)
    (behind c.args.bytes.now c.told-bytes) c.open_part.ensures in
    closed_where sealed c.args.keys.now c.args.partition c.args.bytes.now c.open_part.result
    (sym c.copy_from_slice.ensures.after ∙ c.is_same_block.ensures.0 c.if-not-is_same_block.false ∙ c.header.ensures)
    held

pub returns-clause-malformed : goal.returns-clause-malformed
returns-clause-malformed g c =
    let sealed = g.S.Seal.sealed_text in
    let held = subst (λ t. PartHolds sealed c.args.keys.now c.args.partition t c.open_part.result)
    (behind c.args.bytes.now c.told-bytes) c.open_part.ensures in
    malformed_where sealed c.args.keys.now c.args.partition c.args.bytes.now c.open_part.result
    (sym c.copy_from_slice.ensures.after ∙ c.is_same_block.ensures.0 c.if-not-is_same_block.false ∙ c.header.ensures)
    held

pub returns-clause-opened : goal.returns-clause-opened
returns-clause-opened g c =
    let sealed = g.S.Seal.sealed_text in
    let held = subst (λ t. PartHolds sealed c.args.keys.now c.args.partition t c.open_part.result)
    (behind c.args.bytes.now c.told-bytes) c.open_part.ensures in
    opened_where sealed c.args.keys.now c.args.partition c.args.bytes.now c.open_part.result g.met.S.Seal.laws
    (sym c.copy_from_slice.ensures.after ∙ c.is_same_block.ensures.0 c.if-not-is_same_block.false ∙ c.header.ensures)
    held
