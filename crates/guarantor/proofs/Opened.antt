-- What opens, and is no record of a block.
use Rattle.std.proofs.Common.{◌≡◌, ℕ, ◌<◌, List, true, ap, ap₂, sym, ◌∙◌}
use Rattle.seal_core.specs.declared.KeyPair.{KeyPair}
use Rattle.seal_core.specs.Sealing.{Sealer, OpensTo, IsSealing}
use Rattle.file_calls.specs.Names.{is_name, is_content}
use Rattle.guarantor.specs.Records.{record_nonce, record_plain, record_of}
use Rattle.guarantor.specs.Checks.{IsRecord}
use Rattle.guarantor.specs.RecordLaws.{record_opens, content_at-record_plain}
use Rattle.guarantor.specs.inside.Parts.{content_at}

-- a record opens as nothing else
opens_as : (sealed : Sealer) (keys : KeyPair) (level : ℕ) (name : List ℕ) (block version : ℕ)
    (text nonce plain content : List ℕ) → IsSealing sealed → level < 256 → is_name name ≡ true → block < 256
    → OpensTo sealed keys text nonce plain → IsRecord sealed keys level name block version text content
    → (nonce ≡ record_nonce level version) × (plain ≡ record_plain level name block version content)
opens_as sealed keys level name block version text nonce plain content laws small named low opens is =
    laws.once keys text nonce plain _ _ opens
    (record_opens sealed keys level name block version text content small named low is)

pub other_nonce : (sealed : Sealer) (keys : KeyPair) (level : ℕ) (name : List ℕ) (block version : ℕ)
    (text nonce plain : List ℕ) → IsSealing sealed → level < 256 → is_name name ≡ true → block < 256
    → OpensTo sealed keys text nonce plain → ¬ (nonce ≡ record_nonce level version)
    → (content : List ℕ) → ¬ IsRecord sealed keys level name block version text content
other_nonce sealed keys level name block version text nonce plain laws small named low opens other content is =
    other (opens_as sealed keys level name block version text nonce plain content laws small named low opens is).0

pub other_plain : (sealed : Sealer) (keys : KeyPair) (level : ℕ) (name : List ℕ) (block version : ℕ)
    (text nonce plain : List ℕ) → IsSealing sealed → level < 256 → is_name name ≡ true → block < 256
    → OpensTo sealed keys text nonce plain → ¬ (record_plain level name block version (content_at plain) ≡ plain)
    → (content : List ℕ) → ¬ IsRecord sealed keys level name block version text content
other_plain sealed keys level name block version text nonce plain laws small named low opens other content is =
    let plain_is = (opens_as sealed keys level name block version text nonce plain content laws small named low opens
    is).1 in
    let there : content_at plain ≡ content =
    ap content_at plain_is ∙ content_at-record_plain level name block version content named is.short in
    other (ap (record_plain level name block version) there ∙ sym plain_is)

pub is_record : (sealed : Sealer) (keys : KeyPair) (level : ℕ) (name : List ℕ) (block version : ℕ)
    (text nonce plain content : List ℕ) → OpensTo sealed keys text nonce plain → is_content content ≡ true
    → nonce ≡ record_nonce level version → record_plain level name block version content ≡ plain
    → IsRecord sealed keys level name block version text content
unfolding record_of
is_record sealed keys level name block version text nonce plain content opens held first rest =
    record { short = held; same = opens.same ∙ ap₂ (λ (n p : List ℕ). sealed keys n p) first (sym rest) }
