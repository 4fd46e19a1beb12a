-- Texts cut at a mark.
use Rattle.std.proofs.Common.{Option, Some, None, ◌≡◌, ℕ, ◌+◌, ◌-◌, ◌<◌, ◌≤◌, false, eqb, List, [], ◌∷◌, ◌++◌, length, take, drop, get_or, refl, sym, ap, ◌∙◌, arith}
use Rattle.std.specs.List.{All, slice_split}
use Rattle.std.proofs.lemmas.Bool.{eq-eqb}
use Rattle.std.specs.Prelude.{codes}
use Rattle.script.specs.Lines.{Line, Store, Event, Tamper}
use Rattle.script.specs.Naming.{◌>>=◌}
use Rattle.script.specs.inside.Readers.{as_one, as_two, as_three, nothing, words, name_read, action_read, store_form, piece_read, exactly, party_read, edits_read, tamper_form}
use Rattle.std.proofs.lemmas.List.{take-append-drop, drop_more, take_rest, take_all}
use Rattle.std.proofs.lemmas.List.Splits.{slice_split_at, slice_split_none, length-slice_split}

-- a mark stands at place i, and none before it
pub cut_at : (mark : ℕ) (xs : List ℕ) (i : ℕ) → i < length xs → get_or xs i 0 ≡ mark
    → All (λ c. eqb c mark ≡ false) (take i xs)
    → slice_split (λ c. eqb c mark) xs ≡ take i xs
    ∷ slice_split (λ c. eqb c mark) (take (length xs - (i + 1)) (drop (i + 1) xs))
cut_at mark xs i lt is none =
    let p = λ (c : ℕ). eqb c mark in
    let around : xs ≡ take i xs ++ (mark ∷ drop (i + 1) xs) = sym (take-append-drop i xs)
    ∙ ap (λ (r : List ℕ). take i xs ++ r) (drop_more xs i 0 lt ∙ rw is refl) in
    ap (slice_split p) around ∙ slice_split_at p (take i xs) mark (drop (i + 1) xs) none
    (eq-eqb mark mark refl)
    ∙ ap (λ (r : List ℕ). take i xs ∷ slice_split p r) (sym (take_rest xs (i + 1)))

pub uncut : (mark : ℕ) (xs : List ℕ) (i : ℕ) → length xs ≤ i
    → All (λ c. eqb c mark ≡ false) (take i xs) → slice_split (λ c. eqb c mark) xs ≡ xs ∷ []
uncut mark xs i le none = slice_split_none (λ c. eqb c mark) xs (rw take_all at none)

-- a text has at least one part
pub some_part : (mark : ℕ) (text : List ℕ) → (first : List ℕ) × (more : List (List ℕ))
    × (slice_split (λ c. eqb c mark) text ≡ first ∷ more)
some_part mark text = first_of (slice_split (λ c. eqb c mark) text)
    (omega (arith, length-slice_split (λ c. eqb c mark) text))
  where
    first_of : (texts : List (List ℕ)) → 0 < length texts → (first : List ℕ)
        × (more : List (List ℕ)) × (texts ≡ first ∷ more)
    first_of [] some = absurd (omega arith)
    first_of (first ∷ more) some = (first, more, refl)

-- a text with a mark is no last part
pub not_one : (mark : ℕ) (a text : List ℕ) (texts : List (List ℕ))
    → texts ≡ a ∷ slice_split (λ c. eqb c mark) text → as_one texts ≡ None
not_one mark a text texts e = let s = some_part mark text in rw (e, s.2) refl

pub not_two : (mark : ℕ) (a b text : List ℕ) (texts rest : List (List ℕ)) → texts ≡ a ∷ rest
    → rest ≡ b ∷ slice_split (λ c. eqb c mark) text → as_two texts ≡ None
not_two mark a b text texts rest e h = let s = some_part mark text in rw (e, h, s.2) refl

pub not_three : (mark : ℕ) (a b d text : List ℕ) (texts rest last : List (List ℕ))
    → texts ≡ a ∷ rest → rest ≡ b ∷ last → last ≡ d ∷ slice_split (λ c. eqb c mark) text
    → as_three texts ≡ None
not_three mark a b d text texts rest last e h g = let s = some_part mark text in
    rw (e, h, g, s.2) refl

pub something_behind : {R : Type 0} (made : R) (text : List ℕ) → nothing made (words text) ≡ None
something_behind made text = let s = some_part 32 text in rw s.2 refl

-- a reader alone is no row of the plan
pub no_action : (reader : List ℕ) → store_form (reader ∷ []) ≡ None
unfolding store_form action_read
no_action reader = by_name (name_read reader)
  where
    by_name : (o : Option (List ℕ)) → (o >>= λ name. None >>= λ action. Some (Store name action)) ≡ None
    by_name None = refl
    by_name (Some name) = refl

-- a tamper line by its words: some stand behind the third
abbrev pub tampered : List ℕ → List ℕ → List ℕ → List (List ℕ) → Option Line
tampered piece to at edits = do
  piece ← piece_read piece
  to ← exactly (codes "to") (tt {0}) to
  at ← party_read at
  edits ← edits_read 8 0 edits
  Some (Event (Tamper piece.0 piece.1.0 piece.1.1 at edits))

pub tamper_words : (text piece rest to more at edits : List ℕ)
    → words text ≡ piece ∷ words rest → words rest ≡ to ∷ words more
    → words more ≡ at ∷ words edits
    → tamper_form (words text) ≡ tampered piece to at (words edits)
unfolding tamper_form
tamper_words text piece rest to more at edits a b d =
    let s = some_part 32 edits in rw (a, b, d, s.2) refl
