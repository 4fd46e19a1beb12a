-- What is read of a message field by field is the call that it spells.
use Rattle.std.proofs.Common.{◌≡◌, ℕ, List, [], ◌∷◌, ◌&&◌, ◌-◌, length, length-drop, take, take_all, drop, true, Some, refl, subst, ap, ◌∙◌, arith}
use Rattle.std.specs.Prelude.{nat_le, slice_index}
use Rattle.std.specs.Option.{option_map}
use Rattle.std.proofs.lemmas.Bool.{and_parts}
use Rattle.seal_core.specs.Blocks.{AreBytes}
use Rattle.seal_core.specs.Parts.{AreBytes-drop}
use Rattle.file_calls.specs.declared.call.Call.{Call}
use Rattle.file_calls.specs.declared.call.Call.TheVariants.{Put, Get, List as ListNames, Remove, Append, GetBlock}
use Rattle.file_calls.specs.Names.{is_byte, is_name, is_content}
use Rattle.file_calls.specs.Spelling.{call_text, is_call, call_of}
use Rattle.file_calls.specs.SpellingLaws.{call_of-call_text, call_text-call_of}
use Rattle.file_calls.specs.inside.Reading.{file_in, name_in, level_in, place_in, block_in, call_by, call_in}
use Rattle.file_calls.proofs.Options.{agree, mapped, at_kind}
use Rattle.file_calls.proofs.FieldLemmas.{file_in_is, file_in-text, name_in_is, name_in-text, level_in_is, place_in_is, place_in-text, block_in_is, block_in-text}

-- a call, and bytes that are its spelling
abbrev IsSpelled : List ℕ → Call → Type 0
IsSpelled bytes call = (is_call call ≡ true) × (bytes ≡ call_text call)

spelled : (kind n : ℕ) (fields rest : List ℕ) (made call : Call) → made ≡ call → is_call made ≡ true → kind ≡ n
    → fields ≡ rest
    → n ∷ rest ≡ call_text made → IsSpelled (kind ∷ fields) call
spelled kind n fields rest made call is held same text whole =
    subst (IsSpelled (kind ∷ fields)) is (held, rw (same, text) whole)

call_by_is : (kind : ℕ) (fields : List ℕ) (call : Call) → AreBytes fields → call_by kind fields ≡ Some call
    → IsSpelled (kind ∷ fields) call
unfolding call_text
call_by_is kind fields call are e =
    at_kind 1 kind _ _ call _ (λ same own. mapped _ (file_in fields) call own (λ file made is.
    let text = file_in_is fields file are made in
    spelled kind 1 fields _ (Put file.0 file.1) call is text.0 same text.1 refl))
    (at_kind 2 kind _ _ call _ (λ same own. mapped _ (place_in fields) call own (λ place made is.
    let text = place_in_is fields place are made in
    spelled kind 2 fields _ (Get place.0 place.1) call is text.0 same text.1 refl))
    (at_kind 3 kind _ _ call _ (λ same own. mapped _ (level_in fields) call own (λ level made is.
    let text = level_in_is fields level are made in
    spelled kind 3 fields _ (ListNames level) call is text.0 same text.1 refl))
    (at_kind 4 kind _ _ call _ (λ same own. mapped _ (name_in fields) call own (λ name made is.
    let text = name_in_is fields name made in
    spelled kind 4 fields _ (Remove name) call is text.0 same text.1 refl))
    (at_kind 5 kind _ _ call _ (λ same own. mapped _ (file_in fields) call own (λ file made is.
    let text = file_in_is fields file are made in
    spelled kind 5 fields _ (Append file.0 file.1) call is text.0 same text.1 refl))
    (at_kind 6 kind _ _ call _ (λ same own. mapped _ (block_in fields) call own (λ place made is.
    let text = block_in_is fields place are made in
    spelled kind 6 fields _ (GetBlock place.0 place.1 place.2) call is text.0 same text.1 refl))
    (λ none. absurd cc))))))
    e

call_in_is : (bytes : List ℕ) (call : Call) → AreBytes bytes → call_in bytes ≡ Some call → IsSpelled bytes call
call_in_is [] call are e = absurd cc
call_in_is (kind ∷ fields) call are e = call_by_is kind fields call (AreBytes-drop 1 (kind ∷ fields) are) e

call_in-text : (call : Call) → is_call call ≡ true → call_in (call_text call) ≡ Some call
unfolding call_text
call_in-text (Put name content) is =
    let both = and_parts (is_name name) (is_content content) is in
    ap (option_map (λ (f : List ℕ × List ℕ). Put f.0 f.1)) (file_in-text name content both.0 both.1)
call_in-text (Get level name) is =
    ap (option_map (λ (p : ℕ × List ℕ). Get p.0 p.1))
    (place_in-text level name (and_parts (is_byte level) (is_name name) is).1)
call_in-text (ListNames level) is = refl
call_in-text (Remove name) is = ap (option_map (λ (n : List ℕ). Remove n)) (name_in-text name is)
call_in-text (Append name content) is =
    let both = and_parts (is_name name) (is_content content) is in
    ap (option_map (λ (f : List ℕ × List ℕ). Append f.0 f.1)) (file_in-text name content both.0 both.1)
call_in-text (GetBlock level name block) is =
    let outer = and_parts (is_byte level && is_name name) (nat_le block 63) is in
    ap (option_map (λ (p : ℕ × List ℕ × ℕ). GetBlock p.0 p.1 p.2))
    (block_in-text level name block (and_parts (is_byte level) (is_name name) outer.0).1 outer.1)

call_in-is-call_of : (bytes : List ℕ) → AreBytes bytes → call_in bytes ≡ call_of bytes
call_in-is-call_of bytes are = agree (call_in bytes) (call_of bytes)
    (λ call e. let is = call_in_is bytes call are e in ap call_of is.1 ∙ call_of-call_text call is.0)
    (λ call e. let is = call_text-call_of bytes call e in ap call_in is.1 ∙ call_in-text call is.0)

-- as the first byte and those behind it are handed on
pub call_by-is-call_of : (bytes : List ℕ) → AreBytes bytes
    → call_by (slice_index bytes 0) (take (length bytes - 1) (drop 1 bytes)) ≡ call_of bytes
call_by-is-call_of bytes are =
    let all : take (length bytes - 1) (drop 1 bytes) ≡ drop 1 bytes =
    take_all (length bytes - 1) (drop 1 bytes) (omega (arith, length-drop 1 bytes)) in
    ap (call_by (slice_index bytes 0)) all ∙ call_in-is-call_of bytes are
