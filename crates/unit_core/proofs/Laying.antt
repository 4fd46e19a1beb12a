-- Messages laid out as rows and bytes, and read back.
use Rattle.std.proofs.Common.{◌≡◌, ℕ, ◌+◌, List, [], ◌∷◌, ◌++◌, length, take, drop, map, refl, sym, ap, ap₂, ◌∙◌, arith, add-zero, zero-add, append-nil, append_assoc, length-append, take_at, drop_at}
use Rattle.std.proofs.lemmas.Grind.{flat_map-append}
use Rattle.unit_core.specs.Views.{GivenMessage}
use Rattle.unit_core.specs.Hearing.{message_in}
use Rattle.unit_core.specs.declared.rows.GivenRow.{GivenRow}
use Rattle.unit_core.specs.inside.Messages.{joined, row_at, rows_from, row_renumbered, renumbered}

pub joined-append : (xs ys : List GivenMessage) → joined (xs ++ ys) ≡ joined xs ++ joined ys
joined-append xs ys = flat_map-append (λ m. m.body) xs ys

pub rows_from-append : (start : ℕ) (xs ys : List GivenMessage)
    → rows_from start (xs ++ ys) ≡ rows_from start xs ++ rows_from (start + length (joined xs)) ys
rows_from-append start [] ys = rw add-zero refl
rows_from-append start (m ∷ xs) ys =
    let same : (start + length m.body) + length (joined xs) ≡ start + length (m.body ++ joined xs) =
    omega (arith, length-append m.body (joined xs)) in
    ap (λ rows. row_at start m ∷ rows)
    (rows_from-append (start + length m.body) xs ys
    ∙ ap (λ k. rows_from (start + length m.body) xs ++ rows_from k ys) same)

-- the bytes of a message that stands between others
body_back : (before body after : List ℕ) → take (length body) (drop (length before) (before ++ (body ++ after))) ≡ body
body_back before body after =
    ap (take (length body)) (drop_at before (body ++ after) (length before) refl)
    ∙ take_at body after (length body) refl

read_back : (before after : List ℕ) (l : List GivenMessage)
    → map (message_in (before ++ (joined l ++ after))) (rows_from (length before) l) ≡ l
read_back before after [] = refl
read_back before after (m ∷ l) =
    let next : (before ++ m.body) ++ (joined l ++ after) ≡ before ++ (joined (m ∷ l) ++ after) =
    append_assoc before m.body (joined l ++ after)
    ∙ ap (λ bytes. before ++ bytes) (sym (append_assoc m.body (joined l) after)) in
    let first : message_in (before ++ (joined (m ∷ l) ++ after)) (row_at (length before) m) ≡ m =
    ap (λ body. record m { body = body })
    (ap (λ bytes. take (length m.body) (drop (length before) (before ++ bytes)))
    (append_assoc m.body (joined l) after)
    ∙ body_back before m.body (joined l ++ after)) in
    let rest : map (message_in (before ++ (joined (m ∷ l) ++ after)))
    (rows_from (length before + length m.body) l) ≡ l =
    ap₂ (λ bytes start. map (message_in bytes) (rows_from start l)) (sym next) (sym (length-append before m.body))
    ∙ read_back (before ++ m.body) after l in
    ap₂ (λ x xs. x ∷ xs) first rest

-- what is laid out is read back
pub read : (rows : List GivenRow) (bodies : List ℕ) (l : List GivenMessage) → rows ≡ rows_from 0 l
    → bodies ≡ joined l → map (message_in bodies) rows ≡ l
read rows bodies l laid bytes =
    ap₂ (λ bytes rows. map (message_in bytes) rows) (bytes ∙ sym (append-nil (joined l))) laid ∙ read_back [] [] l

-- messages that are laid out
pub record AreLaid (rows : List GivenRow) (bodies : List ℕ) (l : List GivenMessage) : Type 0 where
  pub rows_are : rows ≡ rows_from 0 l
  pub bodies_are : bodies ≡ joined l

pub laid_as_read : (rows : List GivenRow) (bodies : List ℕ) (l : List GivenMessage) → AreLaid rows bodies l
    → AreLaid rows bodies (map (message_in bodies) rows)
laid_as_read rows bodies l laid =
    let same = sym (read rows bodies l laid.rows_are laid.bodies_are) in
    record { rows_are = laid.rows_are ∙ ap (rows_from 0) same; bodies_are = laid.bodies_are ∙ ap joined same }

-- one more message
pub laid_more : (rows : List GivenRow) (bodies : List ℕ) (l : List GivenMessage) (m : GivenMessage)
    → AreLaid rows bodies l
    → AreLaid (rows ++ row_at (length bodies) m ∷ []) (bodies ++ m.body) (l ++ m ∷ [])
laid_more rows bodies l m laid = record {
  rows_are =
      ap₂ (λ rows start. rows ++ row_at start m ∷ []) laid.rows_are (ap length laid.bodies_are)
      ∙ ap (λ start. rows_from 0 l ++ row_at start m ∷ []) (sym (zero-add (length (joined l))))
      ∙ sym (rows_from-append 0 l (m ∷ []));
  bodies_are =
      ap (λ bytes. bytes ++ m.body) laid.bodies_are
      ∙ ap (λ bytes. joined l ++ bytes) (sym (append-nil m.body))
      ∙ sym (joined-append l (m ∷ []));
}

-- rows with other frames
rows_again : (places : List ℕ) (start : ℕ) (l : List GivenMessage)
    → map (row_renumbered places) (rows_from start l) ≡ rows_from start (map (renumbered places) l)
rows_again places start [] = refl
rows_again places start (m ∷ l) =
    ap (λ rows. row_renumbered places (row_at start m) ∷ rows) (rows_again places (start + length m.body) l)

joined_again : (places : List ℕ) (l : List GivenMessage) → joined l ≡ joined (map (renumbered places) l)
joined_again places [] = refl
joined_again places (m ∷ l) = ap (λ bytes. m.body ++ bytes) (joined_again places l)

pub laid_again : (places : List ℕ) (rows : List GivenRow) (bodies : List ℕ) (l : List GivenMessage)
    → AreLaid rows bodies l
    → AreLaid (map (row_renumbered places) rows) bodies (map (renumbered places) l)
laid_again places rows bodies l laid = record {
  rows_are = ap (map (row_renumbered places)) laid.rows_are ∙ rows_again places 0 l;
  bodies_are = laid.bodies_are ∙ joined_again places l;
}
