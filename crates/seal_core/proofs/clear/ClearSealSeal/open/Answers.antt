use Rattle.std.proofs.Common.{ℕ, ◌+◌, Some, List, length, take, drop, sym, ap, ◌∙◌, arith}
use Rattle.std.proofs.lemmas.Bool.{false≢true}
use Rattle.std.proofs.lemmas.List.{take_rest}
use Rattle.seal_core.proofs.Joined.{clear_opens, clear_alone}
use Rattle.seal_core.proofs.clear.ClearSealSeal.open.Goals as goal

pub returns-then-is_same_block-clause-opened : goal.returns-then-is_same_block-clause-opened
returns-then-is_same_block-clause-opened c =
    let text = c.args.sealed.now in
    let n = length c.args.plain.now in
    let same = c.is_same_block.ensures.0 c.if-is_same_block.true in
    clear_opens c.args.keys.now text _ _ _ n (record { below = λ i. omega (arith, c.type_inv.sealed i) })
    c.requires.some c.requires.whole c.requires.room
    c.copy_from_slice.ensures.after (c.copy_from_slice-2.ensures.after
    ∙ ap (λ (k : ℕ). take k (drop 8 text)) (omega arith))
    (c.copy_from_slice-3.ensures.after ∙ take_rest text (8 + n)) (same ∙ c.check_block-check.ensures)

pub returns-then-is_same_block-clause-alone : goal.returns-then-is_same_block-clause-alone
returns-then-is_same_block-clause-alone c =
    λ nonce body h.
    let text = c.args.sealed.now in
    let n = length c.args.plain.now in
    let is = clear_alone c.args.keys.now text _ _ _ nonce body n c.requires.room
    c.copy_from_slice.ensures.after (c.copy_from_slice-2.ensures.after
    ∙ ap (λ (k : ℕ). take k (drop 8 text)) (omega arith))
    (c.copy_from_slice-3.ensures.after ∙ take_rest text (8 + n)) h in
    (ap (λ (b : List ℕ). Some b) is.0, is.1)

pub returns-clause-alone : goal.returns-clause-alone
returns-clause-alone c =
    λ nonce body h.
    let text = c.args.sealed.now in
    let n = length c.args.plain.now in
    let is = clear_alone c.args.keys.now text _ _ _ nonce body n c.requires.room
    c.copy_from_slice.ensures.after (c.copy_from_slice-2.ensures.after
    ∙ ap (λ (k : ℕ). take k (drop 8 text)) (omega arith))
    (c.copy_from_slice-3.ensures.after ∙ take_rest text (8 + n)) h in
    let same = c.is_same_block.ensures.1 (is.2 ∙ sym c.check_block-check.ensures) in
    absurd (false≢true (sym c.if-is_same_block.false ∙ same))
