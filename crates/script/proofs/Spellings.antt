-- Words both ways: what is read is spelled so, and what is spelled is read.
use Rattle.std.proofs.Common.{◌≡◌, ℕ, ◌^◌, ◌<◌, Bool, true, false, ◌&&◌, eqb, ltb, leb, List, [], ◌∷◌, ◌++◌, length, get_or, Option, Some, None, refl, sym, ap, subst, ◌∙◌, arith, lit<}
use Rattle.std.specs.List.{slice_split, join_with_byte, list_all}
use Rattle.std.specs.Char.{is_ascii_digit}
use Rattle.std.specs.Fmt.{decimal}
use Rattle.std.specs.Str.{bytes_eq, all_ascii_digits}
use Rattle.std.proofs.lemmas.List.Elements.{All-append, All-cons}
use Rattle.std.proofs.lemmas.List.Folds.{list_all-append}
use Rattle.std.proofs.lemmas.List.Splits.{slice_split_at, slice_split_none, join_with_byte-slice_split}
use Rattle.std.proofs.lemmas.Bool.{eq-eqb}
use Rattle.std.proofs.lemmas.Bool.Decides.{nat_tests}
use Rattle.std.proofs.lemmas.Slice.Eq.{bytes_eq-Decides}
use Rattle.seal_core.specs.Blocks.{AreBytes}
use Rattle.levels.specs.Names.{is_level_name, is_name_mark, is_upper}
use Rattle.script.specs.declared.line.PartyWord.{PartyWord}
use Rattle.script.specs.declared.line.PartyWord.TheVariants.{Address, Name}
use Rattle.script.specs.declared.line.StreamWord.{StreamWord}
use Rattle.events.specs.Words.{hex_word}
use Rattle.script.specs.Spelling.{cats_word, party_text, stream_text, message_text, numbers_text, piece_text}
use Rattle.script.specs.Ranges.{InRange, IsLevelName, HasPartyRange, HasStreamRanges}
use Rattle.script.specs.Naming.{◌>>=◌}
use Rattle.script.specs.Naming.{either}
use Rattle.script.specs.inside.Readers.{is_unpadded, number_read, name_read, cats_read, manager_read, party_read, hex_read, exactly, as_two, parted, stream, together, stream_read, message_read, numbers_read, piece_read}
use Rattle.script.proofs.Tools.{both, bind_some, guard_some, some_same, is_ink, IsInk, Lacks, lacks}
use Rattle.script.proofs.Numbers.{number_takes, number_again, decimal_digits}
use Rattle.script.proofs.Inks.{decimal_ink, name_ink, party_ink}
use Rattle.script.proofs.Letters.{cats_takes, cats_again, cats_ink}
use Rattle.script.proofs.HexWords.{hex_takes, hex_again, hex_ink}

-- how the good values of a type are spelled and read
pub record IsWord {A : Type 0} (spell : A → List ℕ) (Good : A → Type 0)
    (read : List ℕ → Option A) : Type 0 where
  pub takes : (word : List ℕ) (x : A) → read word ≡ Some x → (word ≡ spell x) × Good x
  pub again : (x : A) → Good x → read (spell x) ≡ Some x
  pub ink : (x : A) → Good x → IsInk (spell x)

pub numbers : (low high : ℕ) → high < 2 ^ 64
    → IsWord decimal (InRange low high) (number_read low high)
numbers low high bound = record {
  takes = λ word n e. (let t = number_takes low high word n bound e in (t.0, (t.1, t.2)));
  again = λ n fits. number_again low high n bound fits.0 fits.1;
  ink = λ n fits. decimal_ink n (omega (arith, fits.0, fits.1));
}

abbrev pub itself : List ℕ → List ℕ
itself word = word

pub names : IsWord itself IsLevelName name_read
unfolding name_read
names = record {
  takes = λ word n e. (let g = guard_some (is_level_name word) word n e in
      (g.1, subst IsLevelName g.1 g.0));
  again = λ word fits. rw fits refl;
  ink = λ word fits. name_ink word fits;
}

pub categories : IsWord cats_word (λ cats. cats < 2 ^ 16) cats_read
categories = record { takes = cats_takes; again = cats_again; ink = λ cats fits. cats_ink cats }

pub messages : IsWord hex_word AreBytes hex_read
messages = record {
  takes = λ word bytes e. (let t = hex_takes word bytes e in (t.0, record { below = t.1 }));
  again = λ bytes fits. hex_again bytes fits.below;
  ink = λ bytes fits. hex_ink bytes fits.below;
}

pub fixed : {A : Type 0} (text : List ℕ) (x : A) → IsInk text
    → IsWord (λ (y : A). text) (λ y. x ≡ y) (exactly text x)
fixed text x inked = record {
  takes = λ word y e. (let g = guard_some (bytes_eq word text) x y e in
      ((bytes_eq-Decides word text).0 g.0, g.1));
  again = λ y fits. rw ((bytes_eq-Decides text text).1 refl) (ap Some fits);
  ink = λ y fits. inked;
}

-- ---- parties

digit_first : (c : ℕ) (cs : List ℕ) → is_upper c ≡ true → all_ascii_digits (c ∷ cs) ≡ false
digit_first c cs upper =
    let other : is_ascii_digit c ≡ false = grind (arith, nat_tests) in
    rw other refl

-- the name of a level is no number
name_no_number : (low high : ℕ) (word : List ℕ) → IsLevelName word → number_read low high word ≡ None
unfolding number_read
name_no_number low high [] fits = absurd cc
name_no_number low high (c ∷ cs) fits =
    let word = c ∷ cs in
    let short = ltb 0 (length word) && leb (length word) 8 in
    let front = both (short && is_upper c) (list_all is_name_mark word) fits in
    let upper = both short (is_upper c) front.0 in
    rw (digit_first c cs upper.1, and_false (is_unpadded word)) refl
  where
    and_false : (b : Bool) → (b && false) ≡ false
    and_false true = refl
    and_false false = refl

pub parties : IsWord party_text HasPartyRange party_read
unfolding party_read
parties = record { takes = takes; again = again; ink = λ party fits. party_ink party fits }
  where
    by_number : (word : List ℕ) (party : PartyWord) (o : Option ℕ) → number_read 1 250 word ≡ o
        → either (o >>= λ address. Some (Address address)) (manager_read word) ≡ Some party
        → (word ≡ party_text party) × HasPartyRange party
    by_number word party (Some address) is e =
        let t = number_takes 1 250 word address (lit< tt) is in
        let same : Address address ≡ party = some_same (Address address) party e in
        subst (λ (p : PartyWord). (word ≡ party_text p) × HasPartyRange p) same (t.0, (t.1, t.2))
    by_number word party None is e =
        let n = bind_some (name_read word) (λ level. Some (Name level)) party e in
        let same : Name n.0 ≡ party = some_same (Name n.0) party n.2 in
        subst (λ (p : PartyWord). (word ≡ party_text p) × HasPartyRange p) same
        (names.takes word n.0 n.1)

    takes : (word : List ℕ) (party : PartyWord) → party_read word ≡ Some party
        → (word ≡ party_text party) × HasPartyRange party
    takes word party e = by_number word party (number_read 1 250 word) refl e

    again : (party : PartyWord) → HasPartyRange party → party_read (party_text party) ≡ Some party
    again (Address address) fits = rw (number_again 1 250 address (lit< tt) fits.0 fits.1) refl
    again (Name level) fits = rw (name_no_number 1 250 level fits, names.again level fits) refl

-- ---- words of two parts

pub as_two_is : (texts : List (List ℕ)) (pair : List ℕ × List ℕ) → as_two texts ≡ Some pair
    → texts ≡ pair.0 ∷ pair.1 ∷ []
as_two_is [] pair e = absurd cc
as_two_is (a ∷ []) pair e = absurd cc
as_two_is (a ∷ b ∷ []) pair e = let s = some_same (a, b) pair e in
    ap (λ (p : List ℕ × List ℕ). p.0 ∷ p.1 ∷ []) s
as_two_is (a ∷ b ∷ c ∷ texts) pair e = absurd cc

module _ {A B C : Type 0} {s : A → List ℕ} {P : A → Type 0} {f : List ℕ → Option A}
    {s' : B → List ℕ} {P' : B → Type 0} {g : List ℕ → Option B}
    (mark : ℕ) (make : A → B → C) (left : C → A) (right : C → B) (F : IsWord s P f)
    (G : IsWord s' P' g) where
  abbrev pub Joined : C → List ℕ
  Joined z = s (left z) ++ mark ∷ s' (right z)

  abbrev pub BothFit : C → Type 0
  BothFit z = P (left z) × P' (right z)

  parted_takes : ((x : A) (y : B) → left (make x y) ≡ x) → ((x : A) (y : B) → right (make x y) ≡ y)
      → (word : List ℕ) (z : C) → parted mark f g make word ≡ Some z → (word ≡ Joined z) × BothFit z
  parted_takes left-make right-make word z e =
      let pair = bind_some (as_two (slice_split (λ c. eqb c mark) word))
      (λ parts. f parts.0 >>= λ x. g parts.1 >>= λ y. Some (make x y)) z e in
      let x = bind_some (f pair.0.0) (λ x. g pair.0.1 >>= λ y. Some (make x y)) z pair.2 in
      let y = bind_some (g pair.0.1) (λ y. Some (make x.0 y)) z x.2 in
      let tx = F.takes pair.0.0 x.0 x.1 in
      let ty = G.takes pair.0.1 y.0 y.1 in
      let same : make x.0 y.0 ≡ z = some_same (make x.0 y.0) z y.2 in
      let cut : word ≡ pair.0.0 ++ mark ∷ pair.0.1 = sym (join_with_byte-slice_split mark word)
      ∙ ap (join_with_byte mark) (as_two_is (slice_split (λ c. eqb c mark) word) pair.0 pair.1)
      in
      let spelled : word ≡ s x.0 ++ mark ∷ s' y.0 = cut
      ∙ ap (λ (a : List ℕ). a ++ mark ∷ pair.0.1) tx.0
      ∙ ap (λ (b : List ℕ). s x.0 ++ mark ∷ b) ty.0 in
      let l : x.0 ≡ left z = sym (left-make x.0 y.0) ∙ ap left same in
      let r : y.0 ≡ right z = sym (right-make x.0 y.0) ∙ ap right same in (
        spelled ∙ ap (λ (x : A). s x ++ mark ∷ s' y.0) l
            ∙ ap (λ (y : B). s (left z) ++ mark ∷ s' y) r,
        (subst P l tx.1, subst P' r ty.1),
      )

  parted_again : ((z : C) → make (left z) (right z) ≡ z) → ((x : A) → P x → Lacks mark (s x))
      → ((y : B) → P' y → Lacks mark (s' y))
      → (z : C) → BothFit z → parted mark f g make (Joined z) ≡ Some z
  parted_again made lacks_left lacks_right z fits =
      let cut : slice_split (λ c. eqb c mark) (Joined z) ≡ s (left z) ∷ s' (right z) ∷ [] =
      slice_split_at (λ c. eqb c mark) (s (left z)) mark (s' (right z)) (lacks_left (left z) fits.0)
      (eq-eqb mark mark refl)
      ∙ ap (λ (r : List (List ℕ)). s (left z) ∷ r)
      (slice_split_none (λ c. eqb c mark) (s' (right z)) (lacks_right (right z) fits.1)) in
      rw (cut, F.again (left z) fits.0, G.again (right z) fits.1) (ap Some (made z))

  parted_ink : is_ink mark ≡ true → (z : C) → BothFit z → IsInk (Joined z)
  parted_ink inked z fits = rw (
    list_all-append is_ink (s (left z)) (mark ∷ s' (right z)),
    F.ink (left z) fits.0,
    inked,
    G.ink (right z) fits.1,
  ) refl

  pub parted_word : is_ink mark ≡ true → ((x : A) (y : B) → left (make x y) ≡ x)
      → ((x : A) (y : B) → right (make x y) ≡ y) → ((z : C) → make (left z) (right z) ≡ z)
      → ((x : A) → P x → Lacks mark (s x)) → ((y : B) → P' y → Lacks mark (s' y))
      → IsWord Joined BothFit (parted mark f g make)
  parted_word inked left-make right-make made lacks_left lacks_right = record {
    takes = parted_takes left-make right-make;
    again = parted_again made lacks_left lacks_right;
    ink = parted_ink inked;
  }

-- a number has no mark that is no digit
pub number_lacks : (mark n : ℕ) → mark < 48 → n < 2 ^ 64 → Lacks mark (decimal n)
number_lacks mark n lt fits = lacks is_ascii_digit mark (λ c h. grind (arith, nat_tests))
    (decimal n) (decimal_digits n fits)

pub number_lacks_above : (mark n : ℕ) → 57 < mark → n < 2 ^ 64 → Lacks mark (decimal n)
number_lacks_above mark n lt fits =
    lacks is_ascii_digit mark (λ c h. grind (arith, nat_tests)) (decimal n) (decimal_digits n fits)

name_marks : (word : List ℕ) → IsLevelName word → list_all is_name_mark word ≡ true
name_marks word fits =
    (both (ltb 0 (length word) && leb (length word) 8 && is_upper (get_or word 0 0))
    (list_all is_name_mark word) fits).1

-- no party has a mark in front of the digits, or between them and the letters
party_lacks : (mark : ℕ) → mark < 48 → (party : PartyWord) → HasPartyRange party
    → Lacks mark (party_text party)
party_lacks mark lt (Address address) fits = number_lacks mark address lt (omega (arith, fits.1))
party_lacks mark lt (Name level) fits = lacks is_name_mark mark (λ c h. grind (arith, nat_tests))
    level (name_marks level fits)

party_lacks_between : (mark : ℕ) → 57 < mark → mark < 65 → (party : PartyWord) → HasPartyRange party
    → Lacks mark (party_text party)
party_lacks_between mark gt lt (Address address) fits =
    number_lacks_above mark address gt (omega (arith, fits.1))
party_lacks_between mark gt lt (Name level) fits =
    lacks is_name_mark mark (λ c h. grind (arith, nat_tests)) level (name_marks level fits)

pub streams : IsWord stream_text HasStreamRanges stream_read
unfolding stream_read
streams = parted_word 62 stream (λ words. words.from) (λ words. words.to) parties parties refl
    (λ x y. refl) (λ x y. refl) (λ z. refl) (party_lacks_between 62 (lit< tt) (lit< tt))
    (party_lacks_between 62 (lit< tt) (lit< tt))

stream_lacks : (words : StreamWord) → HasStreamRanges words → Lacks 35 (stream_text words)
stream_lacks words fits =
    All-append (λ c. eqb c 35 ≡ false) (party_text words.from) (62 ∷ party_text words.to)
    (party_lacks 35 (lit< tt) words.from fits.0)
    (All-cons (λ c. eqb c 35 ≡ false) 62 (party_text words.to) refl
    (party_lacks 35 (lit< tt) words.to fits.1))

abbrev wide : IsWord decimal (InRange 0 4294967295) (number_read 0 4294967295)
wide = numbers 0 4294967295 (lit< tt)

abbrev pub MessageFits : StreamWord × ℕ → Type 0
MessageFits message = HasStreamRanges message.0 × InRange 0 4294967295 message.1

pub message_words : IsWord message_text MessageFits message_read
unfolding message_read
message_words =
    parted_word 35 together (λ (z : StreamWord × ℕ). z.0) (λ (z : StreamWord × ℕ). z.1) streams wide
    refl (λ x y. refl) (λ x y. refl) (λ z. refl) stream_lacks
    (λ n fits. number_lacks 35 n (lit< tt) (omega (arith, fits.1)))

abbrev pub NumbersFit : ℕ × ℕ → Type 0
NumbersFit two = InRange 0 4294967295 two.0 × InRange 0 63 two.1

number_words : IsWord numbers_text NumbersFit numbers_read
unfolding numbers_read
number_words =
    parted_word 46 together (λ (z : ℕ × ℕ). z.0) (λ (z : ℕ × ℕ). z.1) wide (numbers 0 63 (lit< tt))
    refl (λ x y. refl) (λ x y. refl) (λ z. refl)
    (λ n fits. number_lacks 46 n (lit< tt) (omega (arith, fits.1)))
    (λ n fits. number_lacks 46 n (lit< tt) (omega (arith, fits.1)))

numbers_lack : (two : ℕ × ℕ) → NumbersFit two → Lacks 35 (numbers_text two)
numbers_lack two fits =
    All-append (λ c. eqb c 35 ≡ false) (decimal two.0) (46 ∷ decimal two.1)
    (number_lacks 35 two.0 (lit< tt) (omega (arith, fits.0.1)))
    (All-cons (λ c. eqb c 35 ≡ false) 46 (decimal two.1) refl
    (number_lacks 35 two.1 (lit< tt) (omega (arith, fits.1.1))))

abbrev pub PieceFits : StreamWord × (ℕ × ℕ) → Type 0
PieceFits piece = HasStreamRanges piece.0 × NumbersFit piece.1

pub piece_words : IsWord piece_text PieceFits piece_read
unfolding piece_read
piece_words =
    parted_word 35 together (λ (z : StreamWord × (ℕ × ℕ)). z.0) (λ (z : StreamWord × (ℕ × ℕ)). z.1)
    streams number_words refl (λ x y. refl) (λ x y. refl) (λ z. refl) stream_lacks numbers_lack
