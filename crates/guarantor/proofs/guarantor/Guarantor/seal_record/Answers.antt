use Rattle.std.proofs.Common.{◌≡◌, ℕ, ◌%◌, ◌<◌, List, length, true, ap, ap₂, ◌∙◌, arith, take_at}
use Rattle.file_calls.specs.Names.{is_name}
use Rattle.file_calls.specs.SpellingBytes.{name_few}
use Rattle.guarantor.specs.Records.{record_nonce, record_plain, record_of}
use Rattle.guarantor.specs.RecordLaws.{length-record_plain, plain_whole}
use Rattle.guarantor.proofs.guarantor.Guarantor.seal_record.Goals as goal

pub seal-requires-clause-some : goal.seal-requires-clause-some
seal-requires-clause-some g c =
    let named : is_name c.bytes.result.now ≡ true = rw c.bytes.ensures.bytes c.bytes.ensures.name in
    let wide =
    length-record_plain c.args.level c.bytes.result.now c.args.block c.args.version c.args.content.now
    (name_few c.bytes.result.now named) in
    let some : 0 < length c.deref.result.now =
    omega (arith, wide, ap length (c.deref.ensures.value ∙ c.in_ok-plain.ensures)) in
    some

pub seal-requires-clause-whole : goal.seal-requires-clause-whole
seal-requires-clause-whole g c =
    let named : is_name c.bytes.result.now ≡ true = rw c.bytes.ensures.bytes c.bytes.ensures.name in
    ap (λ (t : List ℕ). length t % 8) (c.deref.ensures.value ∙ c.in_ok-plain.ensures)
    ∙ plain_whole c.args.level c.bytes.result.now c.args.block c.args.version c.args.content.now
    (name_few c.bytes.result.now named)

pub returns : goal.returns
unfolding record_of
returns g c =
    let wide : length c.seal.new.out ≡ c.in_ok-text.text.len = omega arith in
    let plain : c.deref.result.now ≡ record_plain c.args.level c.args.name.now c.args.block c.args.version
    c.args.content.now =
    c.deref.ensures.value ∙ c.in_ok-plain.ensures
    ∙ ap (λ (n : List ℕ). record_plain c.args.level n c.args.block c.args.version c.args.content.now)
    c.bytes.ensures.bytes in
    take_at c.seal.new.out _ c.in_ok-text.text.len wide
    ∙ c.seal.ensures
    ∙ ap₂ (λ (n p : List ℕ). g.S.Seal.sealed_text c.self.inside.keys n p) c.record_nonce-nonce.ensures plain
    ∙ ap (λ k. g.S.Seal.sealed_text k (record_nonce c.args.level c.args.version)
    (record_plain c.args.level c.args.name.now c.args.block c.args.version c.args.content.now)) c.self.view_is
