-- Lines both ways: the forms, one by one.
use Rattle.std.proofs.Common.{◌≡◌, ℕ, ◌<◌, eqb, List, [], ◌∷◌, length, map, Some, refl, sym, ap, subst, ◌∙◌, arith, lit<, lit≤}
use Rattle.std.specs.Prelude.{codes}
use Rattle.std.specs.List.{AllByRecursion, join_with_byte}
use Rattle.std.specs.Fmt.{decimal}
use Rattle.std.proofs.lemmas.List.Splits.{slice_split_at, slice_split_none, join_with_byte-slice_split}
use Rattle.script.specs.Lines.{CallWords, EventWords, StoreWords, Line}
use Rattle.script.specs.Lines as line
use Rattle.script.specs.Spelling.{edit_text, call_words, event_words, line_words, line_text}
use Rattle.script.specs.declared.line.PartyWord.{PartyWord}
use Rattle.script.specs.declared.line.StreamWord.{StreamWord}
use Rattle.script.specs.Ranges.{InRange, HasRanges}
use Rattle.script.specs.Reasons.{Spells}
use Rattle.script.specs.Naming.{◌>>=◌}
use Rattle.script.specs.inside.Readers.{number_read, exactly, nothing, asked, version_form, seal_form, level_form, key_form, guard_form, host_form, store_form, send_form, deliver_form, carry_form, forge_form, tamper_form, put_form, get_form, list_form, remove_form, append_form, block_form, action_read, call_read, event_forms, event_read, line_forms, name_read, key_pair, piece_read, party_read, edits_read, FormReader, form_read, line_read, words}
use Rattle.script.proofs.Tools.{bind_some, some_same, IsInk, ink_lacks}
use Rattle.script.proofs.Inks.{ranges_held, words_ink}
use Rattle.script.proofs.Spellings.{IsWord, numbers, names, categories, messages, fixed, parties, message_words, piece_words}
use Rattle.script.proofs.EditWords.{sized_words, contents, edits_take, edits_again, rises_are, are_rise}
use Rattle.script.proofs.Combining.{IsSpelledBy, IsForm, ReadsOn, nothing_takes, one_takes, two_takes, three_takes, read_by_takes, same_made}
use Rattle.script.proofs.CallForms.{addresses, files, blocks, actions_take, action_again, calls_take}

abbrev IsLineForm : List ℕ × FormReader Line → Type 0
IsLineForm = IsForm line_words HasRanges

abbrev to_word : IsWord (λ (y : Unit {0}). codes "to") (λ y. tt ≡ y) (exactly (codes "to") (tt {0}))
to_word = fixed (codes "to") (tt {0}) refl

-- ---- what happens

sends_take : IsLineForm (codes "send", send_form)
unfolding send_form
sends_take = three_takes line_words HasRanges (codes "send") addresses parties messages
    (λ from to message. line.Event (line.Send from to message))
    (λ x y z p q r. record { spelled = refl; fits = (p, q, r) })

delivers_take : IsLineForm (codes "deliver", deliver_form)
unfolding deliver_form
delivers_take = three_takes line_words HasRanges (codes "deliver") piece_words to_word parties
    (λ piece to at. line.Event (line.Deliver piece.0 piece.1.0 piece.1.1 at))
    (λ x y z p q r. record { spelled = refl; fits = (p.0, p.1.0, p.1.1, r) })

carries_take : IsLineForm (codes "carry", carry_form)
unfolding carry_form
carries_take = three_takes line_words HasRanges (codes "carry") message_words to_word parties
    (λ message to at. line.Event (line.Carry message.0 message.1 at))
    (λ x y z p q r. record { spelled = refl; fits = (p.0, p.1, r) })

forges_take : IsLineForm (codes "forge", forge_form)
unfolding forge_form
forges_take = two_takes line_words HasRanges (codes "forge") parties (sized_words 128)
    (λ at bytes. line.Event (line.Forge at bytes))
    (λ x y p q. record { spelled = refl; fits = (p, q.0, q.1) })

abbrev changed_frame : StreamWord × (ℕ × ℕ) → PartyWord → List (ℕ × ℕ) → Line
changed_frame piece at edits = line.Event (line.Tamper piece.0 piece.1.0 piece.1.1 at edits)

some_edits : (first : List ℕ) (ws : List (List ℕ)) (edits : List (ℕ × ℕ))
    → first ∷ ws ≡ map edit_text edits → 0 < length edits
some_edits first ws [] e = absurd cc
some_edits first ws (edit ∷ edits) e = omega arith

tampers_take : IsLineForm (codes "tamper", tamper_form)
unfolding tamper_form
tampers_take [] made e = absurd cc
tampers_take (a ∷ []) made e = absurd cc
tampers_take (a ∷ b ∷ []) made e = absurd cc
tampers_take (a ∷ b ∷ c ∷ []) made e = absurd cc
tampers_take (a ∷ b ∷ c ∷ d ∷ ws) made e =
    let x = bind_some (piece_read a) (λ piece. exactly (codes "to") (tt {0}) b >>= λ to.
    party_read c >>= λ at. edits_read 8 0 (d ∷ ws) >>= λ edits. Some (changed_frame piece at edits))
    made e in
    let y = bind_some (exactly (codes "to") (tt {0}) b) (λ to. party_read c >>= λ at.
    edits_read 8 0 (d ∷ ws) >>= λ edits. Some (changed_frame x.0 at edits)) made x.2 in
    let z = bind_some (party_read c) (λ at. edits_read 8 0 (d ∷ ws) >>= λ edits.
    Some (changed_frame x.0 at edits)) made y.2 in
    let u = bind_some (edits_read 8 0 (d ∷ ws)) (λ edits. Some (changed_frame x.0 z.0 edits)) made
    z.2 in
    let tx = piece_words.takes a x.0 x.1 in
    let ty = to_word.takes b y.0 y.1 in
    let tz = parties.takes c z.0 z.1 in
    let tu = edits_take 8 0 (d ∷ ws) u.0 u.1 in
    let are = rises_are u.0 (some_edits d ws u.0 tu.spelled) tu.few tu.rise in
    let good : IsSpelledBy line_words HasRanges (codes "tamper") (a ∷ b ∷ c ∷ d ∷ ws)
    (changed_frame x.0 z.0 u.0) =
    record {
      spelled = cc (tx.0, ty.0, tz.0, tu.spelled);
      fits = (tx.1.0, tx.1.1.0, tx.1.1.1, tz.1, are);
    } in
    same_made line_words HasRanges (codes "tamper") (a ∷ b ∷ c ∷ d ∷ ws)
    (changed_frame x.0 z.0 u.0) made (some_same (changed_frame x.0 z.0 u.0) made u.2) good

happenings : AllByRecursion IsLineForm event_forms
happenings =
    (sends_take, (delivers_take, (carries_take, (forges_take, (tampers_take, tt)))))

events_take : ReadsOn line_words HasRanges event_read
unfolding event_read
events_take = read_by_takes line_words HasRanges event_forms call_read happenings calls_take

-- ---- all lines

abbrev ranks : IsWord decimal (InRange 0 7) (number_read 0 7)
ranks = numbers 0 7 (lit< tt)

versions_take : IsLineForm (codes "dss", version_form)
unfolding version_form
versions_take = one_takes line_words HasRanges (codes "dss") (fixed (codes "1") line.Version refl)
    (λ made. made)
    (λ x p. subst (IsSpelledBy line_words HasRanges (codes "dss") (codes "1" ∷ [])) p
    (record { spelled = refl; fits = tt }))

seals_take : IsLineForm (codes "seal", seal_form)
unfolding seal_form
seals_take = one_takes line_words HasRanges (codes "seal") (fixed (codes "des") line.Seal refl)
    (λ made. made)
    (λ x p. subst (IsSpelledBy line_words HasRanges (codes "seal") (codes "des" ∷ [])) p
    (record { spelled = refl; fits = tt }))

levels_take : IsLineForm (codes "level", level_form)
unfolding level_form
levels_take = three_takes line_words HasRanges (codes "level") names ranks categories
    (λ name rank cats. line.Level name (record { rank = rank; cats = cats }))
    (λ x y z p q r. record { spelled = refl; fits = (p, q, r) })

keys_take : IsLineForm (codes "key", key_form)
unfolding key_form
keys_take =
    three_takes line_words HasRanges (codes "key") names (sized_words 8) (sized_words 8)
    (λ level main check. line.Key level (key_pair main check))
    (λ x y z p q r. record {
      spelled = refl;
      fits = (
        p,
        record {
          main = record { len = q.0; bytes = q.1 };
          check = record { len = r.0; bytes = r.1 };
        },
      );
    })

guards_take : IsLineForm (codes "guard", guard_form)
unfolding guard_form
guards_take =
    two_takes line_words HasRanges (codes "guard") (sized_words 8) (sized_words 8)
    (λ main check. line.Guard (key_pair main check))
    (λ x y p q. record {
      spelled = refl;
      fits = record {
        main = record { len = p.0; bytes = p.1 };
        check = record { len = q.0; bytes = q.1 };
      };
    })

hosts_take : IsLineForm (codes "host", host_form)
unfolding host_form
hosts_take = two_takes line_words HasRanges (codes "host") addresses names
    (λ address level. line.Host address level)
    (λ x y p q. record { spelled = refl; fits = (p, q) })

no_action : (action : StoreWords) → action_read [] ≡ Some action → ⊥
unfolding action_read
no_action action e = absurd cc

stores_take : IsLineForm (codes "store", store_form)
unfolding store_form
stores_take [] made e = absurd cc
stores_take (reader ∷ []) made e =
    let x = bind_some (name_read reader) (λ name. action_read [] >>= λ action.
    Some (line.Store name action)) made e in
    let y = bind_some (action_read []) (λ action. Some (line.Store x.0 action)) made x.2 in
    absurd (no_action y.0 y.1)
stores_take (reader ∷ first ∷ args) made e =
    let x = bind_some (name_read reader) (λ name. action_read (first ∷ args) >>= λ action.
    Some (line.Store name action)) made e in
    let y = bind_some (action_read (first ∷ args)) (λ action. Some (line.Store x.0 action)) made
    x.2 in
    let tx = names.takes reader x.0 x.1 in
    let ty = actions_take first args y.0 y.1 in
    let good : IsSpelledBy line_words HasRanges (codes "store") (reader ∷ first ∷ args)
    (line.Store x.0 y.0) =
    record { spelled = cc (tx.0, ty.spelled); fits = (tx.1, ty.fits) } in
    subst (IsSpelledBy line_words HasRanges (codes "store") (reader ∷ first ∷ args))
    (some_same (line.Store x.0 y.0) made y.2) good

begins_take : IsLineForm (codes "begin", nothing line.Begin)
begins_take = nothing_takes line_words HasRanges (codes "begin") line.Begin
    (record { spelled = refl; fits = tt })

ends_take : IsLineForm (codes "end", nothing line.End)
ends_take = nothing_takes line_words HasRanges (codes "end") line.End
    (record { spelled = refl; fits = tt })

forms_take : AllByRecursion IsLineForm line_forms
forms_take = (
  versions_take,
  (
    seals_take,
    (
      levels_take,
      (
        keys_take,
        (guards_take, (hosts_take, (stores_take, (begins_take, (ends_take, tt))))),
      ),
    ),
  ),
)

-- ---- whole lines

words_take : (ws : List (List ℕ)) (made : Line) → form_read ws ≡ Some made → (ws ≡ line_words made)
    × HasRanges made
unfolding form_read
words_take [] made e = absurd cc
words_take (first ∷ args) made e =
    let s = read_by_takes line_words HasRanges line_forms event_read forms_take events_take first
    args made e in
    (sym s.spelled, s.fits)

call_again : (from : ℕ) (call : CallWords) → HasRanges (asked from call)
    → form_read (call_words from call) ≡ Some (asked from call)
unfolding form_read event_read call_read put_form get_form list_form remove_form append_form block_form
call_again from (line.Put name content) fits =
    rw (addresses.again from fits.0, files.again name fits.1.0, contents.again content fits.1.1)
    refl
call_again from (line.Get level name) fits =
    rw (addresses.again from fits.0, names.again level fits.1.0, files.again name fits.1.1) refl
call_again from (line.ListNames level) fits =
    rw (addresses.again from fits.0, names.again level fits.1) refl
call_again from (line.Remove name) fits =
    rw (addresses.again from fits.0, files.again name fits.1) refl
call_again from (line.Append name content) fits =
    rw (addresses.again from fits.0, files.again name fits.1.0, contents.again content fits.1.1)
    refl
call_again from (line.Block level name block) fits =
    rw (
      addresses.again from fits.0,
      names.again level fits.1.0,
      files.again name fits.1.1,
      blocks.again block fits.1.2,
    ) refl

event_again : (words : EventWords) → HasRanges (line.Event words)
    → form_read (event_words words) ≡ Some (line.Event words)
unfolding form_read event_read send_form deliver_form carry_form forge_form tamper_form
event_again (line.Send from to message) fits =
    rw (addresses.again from fits.0, parties.again to fits.1, messages.again message fits.2) refl
event_again (line.Ask from call) fits = call_again from call fits
event_again (line.Deliver stream message piece at) fits =
    rw (
      piece_words.again (stream, (message, piece)) (fits.0, (fits.1, fits.2)),
      parties.again at fits.3,
    ) refl
event_again (line.Carry stream message at) fits =
    rw (message_words.again (stream, message) (fits.0, fits.1), parties.again at fits.2) refl
event_again (line.Forge at bytes) fits =
    rw (parties.again at fits.0, (sized_words 128).again bytes (fits.1, fits.2)) refl
event_again (line.Tamper stream message piece at []) fits = absurd (omega (arith, fits.4.some))
event_again (line.Tamper stream message piece at (edit ∷ edits)) fits =
    rw (
      piece_words.again (stream, (message, piece)) (fits.0, (fits.1, fits.2)),
      parties.again at fits.3,
      edits_again 8 0 (edit ∷ edits) fits.4.few (are_rise (edit ∷ edits) fits.4),
    ) refl

words_again : (made : Line) → HasRanges made → form_read (line_words made) ≡ Some made
unfolding form_read version_form seal_form level_form key_form guard_form host_form store_form
words_again line.Version fits = refl
words_again line.Seal fits = refl
words_again (line.Level name level) fits =
    rw (
      names.again name fits.0,
      ranks.again level.rank fits.1,
      categories.again level.cats fits.2,
    ) refl
words_again (line.Key level pair) fits =
    rw (
      names.again level fits.0,
      (sized_words 8).again pair.main (fits.1.main.len, fits.1.main.bytes),
      (sized_words 8).again pair.check (fits.1.check.len, fits.1.check.bytes),
    ) refl
words_again (line.Guard pair) fits =
    rw (
      (sized_words 8).again pair.main (fits.main.len, fits.main.bytes),
      (sized_words 8).again pair.check (fits.check.len, fits.check.bytes),
    ) refl
words_again (line.Host address level) fits =
    rw (addresses.again address fits.0, names.again level fits.1) refl
words_again (line.Store reader action) fits =
    rw (names.again reader fits.0, action_again action fits.1) refl
words_again line.Begin fits = refl
words_again (line.Event words) fits = event_again words fits
words_again line.End fits = refl

some_words : (made : Line) → 0 < length (line_words made)
some_words line.Version = omega arith
some_words line.Seal = omega arith
some_words (line.Level name level) = omega arith
some_words (line.Key level pair) = omega arith
some_words (line.Guard pair) = omega arith
some_words (line.Host address level) = omega arith
some_words (line.Store reader action) = omega arith
some_words line.Begin = omega arith
some_words (line.Event words) = some_event words
  where
    some_call : (from : ℕ) (call : CallWords) → 0 < length (call_words from call)
    some_call from (line.Put name content) = omega arith
    some_call from (line.Get level name) = omega arith
    some_call from (line.ListNames level) = omega arith
    some_call from (line.Remove name) = omega arith
    some_call from (line.Append name content) = omega arith
    some_call from (line.Block level name block) = omega arith

    some_event : (words : EventWords) → 0 < length (event_words words)
    some_event (line.Send from to message) = omega arith
    some_event (line.Ask from call) = some_call from call
    some_event (line.Deliver stream message piece at) = omega arith
    some_event (line.Carry stream message at) = omega arith
    some_event (line.Forge at bytes) = omega arith
    some_event (line.Tamper stream message piece at edits) = omega arith
some_words line.End = omega arith

-- words that are joined by spaces are parted by them
words_join : (w : List ℕ) (ws : List (List ℕ)) → AllByRecursion IsInk (w ∷ ws)
    → words (join_with_byte 32 (w ∷ ws)) ≡ w ∷ ws
words_join w [] ink = slice_split_none (λ c. eqb c 32) w (ink_lacks 32 (lit≤ tt) w ink.0)
words_join w (v ∷ ws) ink =
    slice_split_at (λ c. eqb c 32) w 32 (join_with_byte 32 (v ∷ ws))
    (ink_lacks 32 (lit≤ tt) w ink.0) refl
    ∙ ap (λ (r : List (List ℕ)). w ∷ r) (words_join v ws ink.1)

words-join : (ws : List (List ℕ)) → 0 < length ws → AllByRecursion IsInk ws
    → words (join_with_byte 32 ws) ≡ ws
words-join [] h ink = absurd (omega arith)
words-join (w ∷ ws) h ink = words_join w ws ink

-- A text spells a line exactly where the reader gives the line.
pub line_takes : (text : List ℕ) (made : Line) → line_read text ≡ Some made → Spells text made
line_takes text made e =
    let t = words_take (words text) made e in
    (sym (join_with_byte-slice_split 32 text) ∙ ap (join_with_byte 32) t.0, t.1)

pub line_again : (made : Line) → HasRanges made → line_read (line_text made) ≡ Some made
line_again made fits =
    rw (words-join (line_words made) (some_words made) (words_ink made (ranges_held made fits)))
    (words_again made fits)

pub spelled_is_read : (text : List ℕ) (made : Line) → Spells text made → line_read text ≡ Some made
spelled_is_read text made spells = ap line_read spells.0 ∙ line_again made spells.1
