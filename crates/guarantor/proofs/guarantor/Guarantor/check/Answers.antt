use Rattle.std.proofs.Common.{◌≡◌, ℕ, ◌<◌, List, length, Some, sym, ap, ap₂, ◌∙◌, arith}
use Rattle.std.specs.Prelude.{nat_le}
use Rattle.std.proofs.lemmas.Bool.{false≢true}
use Rattle.std.proofs.lemmas.Option.{cond_some}
use Rattle.file_calls.specs.Names.{content_of}
use Rattle.guarantor.specs.Records.{record_nonce, record_plain}
use Rattle.guarantor.specs.inside.Parts.{content_at}
use Rattle.guarantor.specs.Checks.{OpensAs}
use Rattle.guarantor.proofs.Opened.{other_nonce, other_plain, is_record}
use Rattle.guarantor.proofs.guarantor.Guarantor.check.Goals as goal

pub returns-then-not-is_same : goal.returns-then-not-is_same
returns-then-not-is_same g c =
    let text = c.args.sealed.now in
    let opened : OpensAs g.S.Seal.sealed_text c.args.self.now text c.in-Some.opened.nonce
    c.in-Some.opened.plain.items =
    rw c.in-Some.is at c.in_ok-opened.ensures.open in
    let small : c.args.level < 256 = omega (arith, c.ranges.level.fits) in
    let low : c.args.block < 256 = omega (arith, c.requires.block) in
    let other = λ (e : c.in-Some.opened.nonce ≡ record_nonce c.args.level c.args.version).
    false≢true (sym c.if-not-is_same.true ∙ c.is_same.ensures.1 (e ∙ sym c.record_nonce.ensures)) in (
      record { nonce = c.in-Some.opened.nonce; plain = c.in-Some.opened.plain.items; opened = opened },
      other_nonce g.S.Seal.sealed_text c.args.self.now c.args.level c.args.name.now c.args.block c.args.version text
          c.in-Some.opened.nonce c.in-Some.opened.plain.items g.met.S.Seal.laws small c.bytes-name.ensures.name low
          opened.opens other,
    )

pub returns-then-not-is_same-2 : goal.returns-then-not-is_same-2
returns-then-not-is_same-2 g c =
    let text = c.args.sealed.now in
    let plain : List ℕ = c.in-Some.opened.plain.items in
    let opened : OpensAs g.S.Seal.sealed_text c.args.self.now text c.in-Some.opened.nonce plain =
    rw c.in-Some.is at c.in_ok-opened.ensures.open in
    let small : c.args.level < 256 = omega (arith, c.ranges.level.fits) in
    let low : c.args.block < 256 = omega (arith, c.requires.block) in
    let read : content_of c.content_at.result.now ≡ Some c.in-Some-2.content = sym c.in_ok-content.ensures
    ∙ c.in-Some-2.is in
    let whole = (cond_some (nat_le (length c.content_at.result.now) 4096) c.content_at.result.now c.in-Some-2.content
    read).1 in
    let there : content_at plain ≡ c.in-Some-2.content =
    sym (c.content_at.ensures.content ∙ ap content_at c.deref.ensures.value) ∙ whole in
    let own : c.deref-2.result.now ≡ record_plain c.args.level c.args.name.now c.args.block c.args.version
    c.in-Some-2.content =
    c.deref-2.ensures.value ∙ c.in_ok-own.ensures
    ∙ ap₂ (λ (n t : List ℕ). record_plain c.args.level n c.args.block c.args.version t) c.bytes-name.ensures.bytes
    c.bytes.ensures.bytes in
    let other = λ (e : record_plain c.args.level c.args.name.now c.args.block c.args.version (content_at plain)
    ≡ plain).
    false≢true (sym c.if-not-is_same-2.true ∙ c.is_same-2.ensures.1
    (own ∙ ap (record_plain c.args.level c.args.name.now c.args.block c.args.version) (sym there) ∙ e
    ∙ sym c.deref-3.ensures.value)) in (
      record { nonce = c.in-Some.opened.nonce; plain = plain; opened = opened },
      other_plain g.S.Seal.sealed_text c.args.self.now c.args.level c.args.name.now c.args.block c.args.version text
          c.in-Some.opened.nonce plain g.met.S.Seal.laws small c.bytes-name.ensures.name low opened.opens other,
    )

pub returns : goal.returns
returns g c =
    let text = c.args.sealed.now in
    let plain : List ℕ = c.in-Some.opened.plain.items in
    let opened : OpensAs g.S.Seal.sealed_text c.args.self.now text c.in-Some.opened.nonce plain =
    rw c.in-Some.is at c.in_ok-opened.ensures.open in
    let own : c.deref-2.result.now ≡ record_plain c.args.level c.args.name.now c.args.block c.args.version
    c.in-Some-2.content =
    c.deref-2.ensures.value ∙ c.in_ok-own.ensures
    ∙ ap₂ (λ (n t : List ℕ). record_plain c.args.level n c.args.block c.args.version t) c.bytes-name.ensures.bytes
    c.bytes.ensures.bytes in
    is_record g.S.Seal.sealed_text c.args.self.now c.args.level c.args.name.now c.args.block c.args.version text
    c.in-Some.opened.nonce plain c.in-Some-2.content opened.opens c.bytes.ensures.content
    (c.is_same.ensures.0 c.if-not-is_same.false ∙ c.record_nonce.ensures)
    (sym own ∙ c.is_same-2.ensures.0 c.if-not-is_same-2.false ∙ c.deref-3.ensures.value)
