use Rattle.std.proofs.Common.{◌≡◌, Some, sym, ap, subst, ◌∙◌}
use Rattle.std.specs.Int.{w32, from_be_bytes}
use Rattle.std.proofs.lemmas.Bool.{false≢true}
use Rattle.frame.specs.Pieces.{IsPiece}
use Rattle.frame.specs.Frames.{Spells}
use Rattle.frame.proofs.Spelling.{word, fields_in, read_is, spelled, rules_kept, one_piece}
use Rattle.frame.proofs.piece.read_plain.Goals as goal

pub returns-then-not-keeps_rules : goal.returns-then-not-keeps_rules
returns-then-not-keeps_rules c = λ x. (
  λ e. cc,
  λ spells. absurd
      (false≢true (sym c.if-not-keeps_rules.true ∙ c.keeps_rules.ensures.1 (rules_kept c.args.plain.now x spells))),
)

pub invariant_of-result : goal.invariant_of-result
invariant_of-result c =
    let plain = c.args.plain.now in
    let s = spelled plain c.told-plain (record { below = c.fits-plain })
    (c.keeps_rules.ensures.0 c.if-not-keeps_rules.false) in
    let number : c.from_be_bytes-message.result ≡ from_be_bytes w32 (word plain) = c.from_be_bytes-message.ensures in
    subst IsPiece
    (sym (read_is plain c.from_be_bytes-message.result c.copy_from_slice.new.self c.told-plain number
    c.copy_from_slice.ensures.after)) s.piece

pub returns : goal.returns
returns c =
    let plain = c.args.plain.now in
    let s = spelled plain c.told-plain (record { below = c.fits-plain })
    (c.keeps_rules.ensures.0 c.if-not-keeps_rules.false) in
    let number : c.from_be_bytes-message.result ≡ from_be_bytes w32 (word plain) = c.from_be_bytes-message.ensures in
    let made =
    read_is plain c.from_be_bytes-message.result c.copy_from_slice.new.self c.told-plain number
    c.copy_from_slice.ensures.after in
    λ x. (
      λ e. let same : fields_in plain ≡ x = sym made ∙ cc in subst (Spells plain) same s,
      λ spells. ap Some (made ∙ one_piece plain (fields_in plain) x s spells),
    )
