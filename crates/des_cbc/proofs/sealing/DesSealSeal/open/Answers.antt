use Rattle.std.proofs.Common.{ℕ, Some, List, length, map, sym, ap, ◌∙◌, arith}
use Rattle.std.proofs.lemmas.Bool.{false≢true}
use Rattle.std.proofs.lemmas.List.{take_rest}
use Rattle.des_cbc.specs.inside.Words.{round_key}
use Rattle.des_cbc.proofs.Sealed.{taken_back, opens, alone, same_body}
use Rattle.des_cbc.proofs.sealing.DesSealSeal.open.Goals as goal

pub returns-then-open_blocks-clause-opened : goal.returns-then-open_blocks-clause-opened
returns-then-open_blocks-clause-opened c =
    let back = taken_back c.args.keys.now c.args.sealed.now c.copy_from_slice.new.self c.open_blocks.new.plain _
    (length c.args.plain.now) (map round_key c.keys.result.now)
    (map round_key c.reversed-backward.result) (map round_key c.keys-2.result.now) c.from_be_bytes-start.result
    c.open_blocks.result
    (record { below = λ i. omega (arith, c.type_inv.sealed i) }) c.requires.some c.requires.whole c.requires.room
    (omega arith) c.copy_from_slice.ensures.after (take_rest c.args.sealed.now 8)
    c.reversed-backward.ensures (c.keys.ensures ∙ c.new.ensures) (c.keys-2.ensures ∙ c.new-check.ensures)
    c.from_be_bytes-start.ensures c.open_blocks.ensures in
    opens _ _ _ _ _ _ _ _ _ back (record { below = λ i. omega (arith, c.type_inv.plain i) }) c.if-open_blocks.true

pub returns-then-open_blocks-clause-alone : goal.returns-then-open_blocks-clause-alone
returns-then-open_blocks-clause-alone c =
    λ nonce body h.
    let back = taken_back c.args.keys.now c.args.sealed.now c.copy_from_slice.new.self c.open_blocks.new.plain _
    (length c.args.plain.now) (map round_key c.keys.result.now)
    (map round_key c.reversed-backward.result) (map round_key c.keys-2.result.now) c.from_be_bytes-start.result
    c.open_blocks.result
    (record { below = λ i. omega (arith, c.type_inv.sealed i) }) c.requires.some c.requires.whole c.requires.room
    (omega arith) c.copy_from_slice.ensures.after (take_rest c.args.sealed.now 8)
    c.reversed-backward.ensures (c.keys.ensures ∙ c.new.ensures) (c.keys-2.ensures ∙ c.new-check.ensures)
    c.from_be_bytes-start.ensures c.open_blocks.ensures in
    let is = alone _ _ _ _ nonce body _ _ _ _ _ back h in (
      ap (λ (b : List ℕ). Some b) is.nonce_is,
      same_body c.open_blocks.new.plain body (length c.args.plain.now) (omega arith) c.requires.whole
          (record { below = λ i. omega (arith, c.type_inv.plain i) }) h.blocks is.blocks_are,
    )

pub returns-clause-alone : goal.returns-clause-alone
returns-clause-alone c =
    λ nonce body h.
    let back = taken_back c.args.keys.now c.args.sealed.now c.copy_from_slice.new.self c.open_blocks.new.plain _
    (length c.args.plain.now) (map round_key c.keys.result.now)
    (map round_key c.reversed-backward.result) (map round_key c.keys-2.result.now) c.from_be_bytes-start.result
    c.open_blocks.result
    (record { below = λ i. omega (arith, c.type_inv.sealed i) }) c.requires.some c.requires.whole c.requires.room
    (omega arith) c.copy_from_slice.ensures.after (take_rest c.args.sealed.now 8)
    c.reversed-backward.ensures (c.keys.ensures ∙ c.new.ensures) (c.keys-2.ensures ∙ c.new-check.ensures)
    c.from_be_bytes-start.ensures c.open_blocks.ensures in
    absurd (false≢true (sym c.if-open_blocks.false ∙ (alone _ _ _ _ nonce body _ _ _ _ _ back h).answer_is))
