-- What is read of a message field by field is the reply that it spells.
use Rattle.std.proofs.Common.{◌≡◌, ℕ, List, [], ◌∷◌, ◌&&◌, ◌-◌, length, length-drop, take, take_all, drop, true, Some, refl, subst, ap, ◌∙◌, arith}
use Rattle.std.specs.Prelude.{◌==◌, slice_index}
use Rattle.std.specs.Option.{option_map}
use Rattle.std.proofs.lemmas.Bool.{and_parts, eqb-true}
use Rattle.std.proofs.lemmas.Option.{cond_some}
use Rattle.seal_core.specs.Blocks.{AreBytes}
use Rattle.seal_core.specs.Parts.{AreBytes-drop}
use Rattle.file_calls.specs.declared.call.Reply.{Reply}
use Rattle.file_calls.specs.declared.call.Reply.TheVariants.{Done, Bytes, Refused, Missing, Damaged, Full, Removed, Names, Bad, Block, Past}
use Rattle.file_calls.specs.Names.{is_content}
use Rattle.file_calls.specs.Spelling.{reply_text, is_reply, is_version, is_count, reply_of}
use Rattle.file_calls.specs.SpellingLaws.{reply_of-reply_text, reply_text-reply_of}
use Rattle.file_calls.specs.inside.Reading.{version_in, bytes_in, counted_in, count_in, names_in, alone, reply_by, reply_in}
use Rattle.file_calls.proofs.Options.{agree, mapped, at_kind, nothing}
use Rattle.file_calls.proofs.FieldLemmas.{version_in_is, version_in-text, bytes_in_is, bytes_in-text, counted_in_is, counted_in-text, count_in_is, count_in-text}
use Rattle.file_calls.proofs.NamesRead.{names_in_is, names_in-text}

-- a reply, and bytes that are its spelling
abbrev IsSpelled : List ℕ → Reply → Type 0
IsSpelled bytes reply = (is_reply reply ≡ true) × (bytes ≡ reply_text reply)

spelled : (kind n : ℕ) (fields rest : List ℕ) (made reply : Reply) → made ≡ reply → is_reply made ≡ true → kind ≡ n
    → fields ≡ rest
    → n ∷ rest ≡ reply_text made → IsSpelled (kind ∷ fields) reply
spelled kind n fields rest made reply is held same text whole =
    subst (IsSpelled (kind ∷ fields)) is (held, rw (same, text) whole)

-- a reply with no fields
bare : (kind n : ℕ) (fields : List ℕ) (made reply : Reply) → kind ≡ n → alone fields made ≡ Some reply
    → is_reply made ≡ true
    → n ∷ [] ≡ reply_text made → IsSpelled (kind ∷ fields) reply
bare kind n fields made reply same own held whole =
    let both = cond_some (length fields == 0) made reply own in
    spelled kind n fields [] made reply both.1 held same (nothing fields (eqb-true (length fields) 0 both.0)) whole

reply_by_is : (kind : ℕ) (fields : List ℕ) (reply : Reply) → AreBytes fields → reply_by kind fields ≡ Some reply
    → IsSpelled (kind ∷ fields) reply
unfolding reply_text
reply_by_is kind fields reply are e =
    at_kind 1 kind _ _ reply _ (λ same own. mapped _ (version_in fields) reply own (λ version made is.
    let text = version_in_is fields version are made in
    spelled kind 1 fields _ (Done version) reply is text.0 same text.1 refl))
    (at_kind 2 kind _ _ reply _ (λ same own. mapped _ (bytes_in fields) reply own (λ block made is.
    let text = bytes_in_is fields block are made in
    spelled kind 2 fields _ (Bytes block.0 block.1) reply is text.0 same text.1 refl))
    (at_kind 3 kind _ _ reply _ (λ same own. bare kind 3 fields Refused reply same own refl refl)
    (at_kind 4 kind _ _ reply _ (λ same own. bare kind 4 fields Missing reply same own refl refl)
    (at_kind 5 kind _ _ reply _ (λ same own. mapped _ (version_in fields) reply own (λ version made is.
    let text = version_in_is fields version are made in
    spelled kind 5 fields _ (Damaged version) reply is text.0 same text.1 refl))
    (at_kind 6 kind _ _ reply _ (λ same own. bare kind 6 fields Full reply same own refl refl)
    (at_kind 7 kind _ _ reply _ (λ same own. bare kind 7 fields Removed reply same own refl refl)
    (at_kind 8 kind _ _ reply _ (λ same own. mapped _ (names_in fields) reply own (λ names made is.
    let text = names_in_is fields names made in
    spelled kind 8 fields _ (Names names) reply is text.0 same text.1 refl))
    (at_kind 9 kind _ _ reply _ (λ same own. bare kind 9 fields Bad reply same own refl refl)
    (at_kind 10 kind _ _ reply _ (λ same own. mapped _ (counted_in fields) reply own (λ block made is.
    let text = counted_in_is fields block are made in
    spelled kind 10 fields _ (Block block.0 block.1 block.2) reply is text.0 same text.1 refl))
    (at_kind 11 kind _ _ reply _ (λ same own. mapped _ (count_in fields) reply own (λ count made is.
    let text = count_in_is fields count made in
    spelled kind 11 fields _ (Past count) reply is text.0 same text.1 refl))
    (λ none. absurd cc)))))))))))
    e

reply_in_is : (bytes : List ℕ) (reply : Reply) → AreBytes bytes → reply_in bytes ≡ Some reply → IsSpelled bytes reply
reply_in_is [] reply are e = absurd cc
reply_in_is (kind ∷ fields) reply are e = reply_by_is kind fields reply (AreBytes-drop 1 (kind ∷ fields) are) e

reply_in-text : (reply : Reply) → is_reply reply ≡ true → reply_in (reply_text reply) ≡ Some reply
unfolding reply_text
reply_in-text (Done version) is = ap (option_map (λ (v : ℕ). Done v)) (version_in-text version is)
reply_in-text (Bytes version content) is =
    let both = and_parts (is_version version) (is_content content) is in
    ap (option_map (λ (b : ℕ × List ℕ). Bytes b.0 b.1)) (bytes_in-text version content both.0 both.1)
reply_in-text Refused is = refl
reply_in-text Missing is = refl
reply_in-text (Damaged version) is = ap (option_map (λ (v : ℕ). Damaged v)) (version_in-text version is)
reply_in-text Full is = refl
reply_in-text Removed is = refl
reply_in-text (Names names) is = ap (option_map (λ (ns : List (List ℕ)). Names ns)) (names_in-text names is)
reply_in-text Bad is = refl
reply_in-text (Block version count content) is =
    let outer = and_parts (is_version version && is_count count) (is_content content) is in
    let both = and_parts (is_version version) (is_count count) outer.0 in
    ap (option_map (λ (b : ℕ × ℕ × List ℕ). Block b.0 b.1 b.2))
    (counted_in-text version count content both.0 both.1 outer.1)
reply_in-text (Past count) is = ap (option_map (λ (n : ℕ). Past n)) (count_in-text count is)

reply_in-is-reply_of : (bytes : List ℕ) → AreBytes bytes → reply_in bytes ≡ reply_of bytes
reply_in-is-reply_of bytes are = agree (reply_in bytes) (reply_of bytes)
    (λ reply e. let is = reply_in_is bytes reply are e in ap reply_of is.1 ∙ reply_of-reply_text reply is.0)
    (λ reply e. let is = reply_text-reply_of bytes reply e in ap reply_in is.1 ∙ reply_in-text reply is.0)

-- as the first byte and those behind it are handed on
pub reply_by-is-reply_of : (bytes : List ℕ) → AreBytes bytes
    → reply_by (slice_index bytes 0) (take (length bytes - 1) (drop 1 bytes)) ≡ reply_of bytes
reply_by-is-reply_of bytes are =
    let all : take (length bytes - 1) (drop 1 bytes) ≡ drop 1 bytes =
    take_all (length bytes - 1) (drop 1 bytes) (omega (arith, length-drop 1 bytes)) in
    ap (reply_by (slice_index bytes 0)) all ∙ reply_in-is-reply_of bytes are
