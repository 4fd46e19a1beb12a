-- The fields of a message are what they spell.
use Rattle.std.proofs.Common.{◌≡◌, ℕ, ◌<◌, ◌≤◌, ◌^◌, List, [], ◌∷◌, ◌++◌, ◌&&◌, length, take, drop, true, Some, refl, sym, subst, ap, ap₂, ◌∙◌, arith, length-append, append-nil, eq-eqb}
use Rattle.std.specs.Prelude.{slice_index, nat_le, nat_lt, ◌==◌}
use Rattle.std.specs.Int.{w16, w64, to_be_bytes, from_be_bytes}
use Rattle.std.proofs.lemmas.Bool.{and_parts, and_from, lt-ltb, le-leb, leb-true, ltb-true, eqb-true}
use Rattle.std.proofs.lemmas.Option.{cond_some, option_and_then_some}
use Rattle.std.proofs.lemmas.List.{take-append-drop, length-take-le}
use Rattle.std.proofs.lemmas.Nat.{be_bytes_2, be_bytes_8, from_be_bytes-to_be_bytes_2}
use Rattle.seal_core.specs.Blocks.{AreBytes}
use Rattle.seal_core.specs.Parts.{AreBytes-drop, AreBytes-take}
use Rattle.file_calls.specs.Names.{is_byte, is_name, is_content, name_of, content_of}
use Rattle.file_calls.specs.ByteLaws.{bytes_pass}
use Rattle.file_calls.specs.Spelling.{name_text, content_text, version_text, behind_name, version_at, is_version, is_count}
use Rattle.file_calls.specs.SpellingLaws.{name_there, behind_there, version_there}
use Rattle.file_calls.specs.SpellingBytes.{content_few}
use Rattle.file_calls.specs.inside.Reading.{name_parts, content_bytes, file_in, name_in, level_in, place_in, block_number, block_in, version_parts, version_in, bytes_in, counted_in, count_in}
use Rattle.file_calls.proofs.Options.{mapped, cond_some_of, nothing, two_or_more}

-- a name and what is behind it
pub name_parts_are : (bytes : List ℕ) (parts : List ℕ × List ℕ) → name_parts bytes ≡ Some parts
    → bytes ≡ name_text parts.0 ++ parts.1
name_parts_are [] parts e = absurd cc
name_parts_are (n ∷ rest) parts e =
    let both = cond_some (nat_lt n (length (n ∷ rest))) (take n rest, drop n rest) parts e in
    let within : n ≤ length rest = let less = ltb-true n (length (n ∷ rest)) both.0 in omega arith in
    let text : n ∷ rest ≡ name_text (take n rest) ++ drop n rest =
    ap₂ (λ (a : ℕ) (b : List ℕ). a ∷ b) (sym (length-take-le n rest within)) (sym (take-append-drop n rest)) in
    subst (λ (p : List ℕ × List ℕ). n ∷ rest ≡ name_text p.0 ++ p.1) both.1 text

pub name_parts-text : (name rest : List ℕ) → name_parts (name_text name ++ rest) ≡ Some (name, rest)
name_parts-text name rest =
    let within : length name < length (name_text name ++ rest) = omega (arith, length-append name rest) in
    rw (lt-ltb _ _ within) (ap₂ (λ (a b : List ℕ). Some (a, b)) (name_there name rest) (behind_there name rest))

pub name_of_is : (text name : List ℕ) → name_of text ≡ Some name → (is_name name ≡ true) × (text ≡ name)
name_of_is text name e =
    let both = cond_some (is_name text) text name e in (rw (← both.1) both.0, both.1)

pub name_of-name : (name : List ℕ) → is_name name ≡ true → name_of name ≡ Some name
name_of-name name is = rw is refl

pub content_of_is : (bytes content : List ℕ) → AreBytes bytes → content_of bytes ≡ Some content
    → (is_content content ≡ true) × (bytes ≡ content)
content_of_is bytes content are e =
    let both = cond_some (nat_le (length bytes) 4096) bytes content e in
    (rw (← both.1, both.0) (bytes_pass bytes are), both.1)

pub content_of-content : (content : List ℕ) → is_content content ≡ true → content_of content ≡ Some content
content_of-content content is = rw (and_parts (nat_le (length content) 4096) _ is).0 refl

-- a content with nothing behind it
pub content_bytes_are : (bytes content : List ℕ) → AreBytes bytes → content_bytes bytes ≡ Some content
    → (AreBytes content) × (bytes ≡ content_text content)
content_bytes_are bytes content are e =
    let both = cond_some (nat_le 2 (length bytes) && (from_be_bytes w16 (take 2 bytes) == length (drop 2 bytes)))
    (drop 2 bytes) content e in
    let tests = and_parts (nat_le 2 (length bytes)) _ both.0 in
    let two : 2 ≤ length bytes = leb-true 2 (length bytes) tests.0 in
    let count : to_be_bytes w16 (length (drop 2 bytes)) ≡ take 2 bytes =
    be_bytes_2 (take 2 bytes) (length (drop 2 bytes)) (length-take-le 2 bytes two) (AreBytes-take 2 bytes are).below
    (sym (eqb-true _ _ tests.1)) in
    let text : bytes ≡ content_text (drop 2 bytes) =
    sym (ap (λ (t : List ℕ). t ++ drop 2 bytes) count ∙ take-append-drop 2 bytes) in
    subst (λ (c : List ℕ). (AreBytes c) × (bytes ≡ content_text c)) both.1 (AreBytes-drop 2 bytes are, text)

pub content_bytes-text : (content : List ℕ) → is_content content ≡ true
    → content_bytes (content_text content) ≡ Some content
content_bytes-text content is =
    let few = content_few content is in
    let same = from_be_bytes-to_be_bytes_2 (length content) (omega arith) in
    rw (
      le-leb 2 (length (content_text content)) (omega arith),
      eq-eqb (from_be_bytes w16 (to_be_bytes w16 (length content))) (length content) same,
    ) refl

-- what is behind a name in bytes
rest_are : (bytes name rest : List ℕ) → AreBytes bytes → bytes ≡ name_text name ++ rest → AreBytes rest
rest_are bytes name rest are e =
    let behind : behind_name bytes ≡ rest = ap behind_name e ∙ behind_there name rest in
    rw (← behind) (AreBytes-drop (slice_index bytes 0) (drop 1 bytes) (AreBytes-drop 1 bytes are))

pub file_in_is : (bytes : List ℕ) (file : List ℕ × List ℕ) → AreBytes bytes → file_in bytes ≡ Some file
    → ((is_name file.0 && is_content file.1) ≡ true) × (bytes ≡ name_text file.0 ++ content_text file.1)
file_in_is bytes file are e =
    option_and_then_some _ (name_parts bytes) file e (λ parts parted e1.
    option_and_then_some _ (content_bytes parts.1) file e1 (λ counted count e2.
    option_and_then_some _ (name_of parts.0) file e2 (λ name named e3.
    mapped _ (content_of counted) file e3 (λ content contained made.
    let text = name_parts_are bytes parts parted in
    let rest = content_bytes_are parts.1 counted (rest_are bytes parts.0 parts.1 are text) count in
    let own = name_of_is parts.0 name named in
    let held = content_of_is counted content rest.0 contained in
    let both : bytes ≡ name_text name ++ content_text content =
    text ∙ ap₂ (λ (n r : List ℕ). name_text n ++ r) own.1 (rest.1 ∙ ap content_text held.1) in
    subst (λ (f : List ℕ × List ℕ). ((is_name f.0 && is_content f.1) ≡ true)
    × (bytes ≡ name_text f.0 ++ content_text f.1))
    made (and_from _ _ own.0 held.0, both)))))

pub file_in-text : (name content : List ℕ) → is_name name ≡ true → is_content content ≡ true
    → file_in (name_text name ++ content_text content) ≡ Some (name, content)
file_in-text name content named contained =
    rw (
      name_parts-text name (content_text content),
      content_bytes-text content contained,
      name_of-name name named,
      content_of-content content contained,
    ) refl

pub name_in_is : (bytes name : List ℕ) → name_in bytes ≡ Some name → (is_name name ≡ true) × (bytes ≡ name_text name)
name_in_is bytes name e =
    option_and_then_some _ (name_parts bytes) name e (λ parts parted e1.
    let both = cond_some_of (length parts.1 == 0) (name_of parts.0) name e1 in
    let own = name_of_is parts.0 name both.1 in
    let none : parts.1 ≡ [] = nothing parts.1 (eqb-true (length parts.1) 0 both.0) in (
      own.0,
      name_parts_are bytes parts parted ∙ ap₂ (λ (n r : List ℕ). name_text n ++ r) own.1 none
          ∙ append-nil (name_text name),
    ))

pub name_in-text : (name : List ℕ) → is_name name ≡ true → name_in (name_text name) ≡ Some name
name_in-text name named =
    let parted : name_parts (name_text name) ≡ Some (name, []) = ap name_parts (sym (append-nil (name_text name)))
    ∙ name_parts-text name [] in
    rw parted (name_of-name name named)

-- a byte in front of something
one_of : (bytes : List ℕ) → 0 < length bytes → bytes ≡ slice_index bytes 0 ∷ drop 1 bytes
one_of [] some = absurd (omega arith)
one_of (b ∷ bytes) some = refl

pub level_in_is : (bytes : List ℕ) (level : ℕ) → AreBytes bytes → level_in bytes ≡ Some level → (is_byte level ≡ true)
    × (bytes ≡ level ∷ [])
level_in_is [] level are e = absurd cc
level_in_is (b ∷ []) level are e =
    let same : b ≡ level = cc in
    (lt-ltb level 256 (rw (← same) (are.below 0)), rw same refl)
level_in_is (b ∷ c ∷ bytes) level are e = absurd (cc (two_or_more (length bytes)))

pub place_in_is : (bytes : List ℕ) (place : ℕ × List ℕ) → AreBytes bytes → place_in bytes ≡ Some place
    → ((is_byte place.0 && is_name place.1) ≡ true) × (bytes ≡ place.0 ∷ name_text place.1)
place_in_is [] place are e = absurd cc
place_in_is (b ∷ bytes) place are e =
    mapped _ (name_in bytes) place e (λ name named made.
    let own = name_in_is bytes name named in
    subst (λ (p : ℕ × List ℕ). ((is_byte p.0 && is_name p.1) ≡ true) × (b ∷ bytes ≡ p.0 ∷ name_text p.1))
    made (and_from _ _ (lt-ltb b 256 (are.below 0)) own.0, ap (λ (t : List ℕ). b ∷ t) own.1))

pub place_in-text : (level : ℕ) (name : List ℕ) → is_name name ≡ true
    → place_in (level ∷ name_text name) ≡ Some (level, name)
place_in-text level name named = rw (name_in-text name named) refl

block_number_is : (bytes : List ℕ) (block : ℕ) → block_number bytes ≡ Some block → (nat_le block 63 ≡ true)
    × (bytes ≡ block ∷ [])
block_number_is [] block e = absurd cc
block_number_is (b ∷ []) block e =
    let both = cond_some (nat_le b 63) b block e in (rw (← both.1) both.0, rw both.1 refl)
block_number_is (b ∷ c ∷ bytes) block e = absurd (cc (two_or_more (length bytes)))

pub block_in_is : (bytes : List ℕ) (place : ℕ × List ℕ × ℕ) → AreBytes bytes → block_in bytes ≡ Some place
    → ((is_byte place.0 && is_name place.1 && nat_le place.2 63) ≡ true)
    × (bytes ≡ place.0 ∷ (name_text place.1 ++ place.2 ∷ []))
block_in_is [] place are e = absurd cc
block_in_is (b ∷ bytes) place are e =
    option_and_then_some _ (name_parts bytes) place e (λ parts parted e1.
    option_and_then_some _ (block_number parts.1) place e1 (λ block numbered e2.
    mapped _ (name_of parts.0) place e2 (λ name named made.
    let last = block_number_is parts.1 block numbered in
    let own = name_of_is parts.0 name named in
    let text : b ∷ bytes ≡ b ∷ (name_text name ++ block ∷ []) =
    ap (λ (t : List ℕ). b ∷ t) (name_parts_are bytes parts parted
    ∙ ap₂ (λ (n r : List ℕ). name_text n ++ r) own.1 last.1) in
    subst (λ (p : ℕ × List ℕ × ℕ). ((is_byte p.0 && is_name p.1 && nat_le p.2 63) ≡ true)
    × (b ∷ bytes ≡ p.0 ∷ (name_text p.1 ++ p.2 ∷ [])))
    made (and_from _ _ (and_from _ _ (lt-ltb b 256 (are.below 0)) own.0) last.0, text))))

pub block_in-text : (level : ℕ) (name : List ℕ) (block : ℕ) → is_name name ≡ true → nat_le block 63 ≡ true
    → block_in (level ∷ (name_text name ++ block ∷ [])) ≡ Some (level, name, block)
block_in-text level name block named few =
    rw (name_parts-text name (block ∷ []), few, name_of-name name named) refl

eight_bytes : (xs : List ℕ) → AreBytes xs → from_be_bytes w64 xs < 2 ^ 64
eight_bytes xs are =
    omega (
      arith,
      are.below 0,
      are.below 1,
      are.below 2,
      are.below 3,
      are.below 4,
      are.below 5,
      are.below 6,
      are.below 7,
    )

-- a version and what is behind it
version_parts_are : (bytes : List ℕ) (parts : ℕ × List ℕ) → AreBytes bytes → version_parts bytes ≡ Some parts
    → (AreBytes parts.1) × (is_version parts.0 ≡ true) × (bytes ≡ version_text parts.0 ++ parts.1)
version_parts_are bytes parts are e =
    let both = cond_some (nat_le 8 (length bytes)) (version_at bytes, drop 8 bytes) parts e in
    let wide : length (take 8 bytes) ≡ 8 = length-take-le 8 bytes (leb-true 8 (length bytes) both.0) in
    let version = be_bytes_8 (take 8 bytes) (version_at bytes) wide (AreBytes-take 8 bytes are).below refl in
    let text : bytes ≡ version_text (version_at bytes) ++ drop 8 bytes =
    sym (ap (λ (t : List ℕ). t ++ drop 8 bytes) version ∙ take-append-drop 8 bytes) in
    subst (λ (p : ℕ × List ℕ). (AreBytes p.1) × (is_version p.0 ≡ true) × (bytes ≡ version_text p.0 ++ p.1)) both.1 (
      AreBytes-drop 8 bytes are,
      lt-ltb (version_at bytes) (2 ^ 64)
          (eight_bytes (take 8 bytes) (AreBytes-take 8 bytes are)),
      text,
    )

version_parts-text : (version : ℕ) (rest : List ℕ) → is_version version ≡ true
    → version_parts (version_text version ++ rest) ≡ Some (version, rest)
version_parts-text version rest few =
    rw (
      le-leb 8 (length (version_text version ++ rest)) (omega arith),
      version_there version rest (ltb-true version (2 ^ 64) few),
    ) refl

pub version_in_is : (bytes : List ℕ) (version : ℕ) → AreBytes bytes → version_in bytes ≡ Some version
    → (is_version version ≡ true) × (bytes ≡ version_text version)
version_in_is bytes version are e =
    option_and_then_some _ (version_parts bytes) version e (λ parts parted e1.
    let both = cond_some (length parts.1 == 0) parts.0 version e1 in
    let text = version_parts_are bytes parts are parted in
    let none : parts.1 ≡ [] = nothing parts.1 (eqb-true (length parts.1) 0 both.0) in
    (rw (← both.1) text.1, text.2 ∙ ap₂ (λ (v : ℕ) (r : List ℕ). version_text v ++ r) both.1 none))

pub version_in-text : (version : ℕ) → is_version version ≡ true → version_in (version_text version) ≡ Some version
version_in-text version few =
    ap (λ (v : ℕ). Some v) (version_there version [] (ltb-true version (2 ^ 64) few))

pub bytes_in_is : (bytes : List ℕ) (block : ℕ × List ℕ) → AreBytes bytes → bytes_in bytes ≡ Some block
    → ((is_version block.0 && is_content block.1) ≡ true) × (bytes ≡ version_text block.0 ++ content_text block.1)
bytes_in_is bytes block are e =
    option_and_then_some _ (version_parts bytes) block e (λ parts parted e1.
    option_and_then_some _ (content_bytes parts.1) block e1 (λ counted count e2.
    mapped _ (content_of counted) block e2 (λ content contained made.
    let text = version_parts_are bytes parts are parted in
    let rest = content_bytes_are parts.1 counted text.0 count in
    let held = content_of_is counted content rest.0 contained in
    subst (λ (b : ℕ × List ℕ). ((is_version b.0 && is_content b.1) ≡ true)
    × (bytes ≡ version_text b.0 ++ content_text b.1))
    made (
      and_from _ _ text.1 held.0,
      text.2 ∙ ap (λ (r : List ℕ). version_text parts.0 ++ r)
          (rest.1 ∙ ap content_text held.1),
    ))))

pub bytes_in-text : (version : ℕ) (content : List ℕ) → is_version version ≡ true → is_content content ≡ true
    → bytes_in (version_text version ++ content_text content) ≡ Some (version, content)
bytes_in-text version content few contained =
    rw (
      version_parts-text version (content_text content) few,
      content_bytes-text content contained,
      content_of-content content contained,
    ) refl

-- a number that is a count stands in front
count_first : (bytes : List ℕ) → is_count (slice_index bytes 0) ≡ true → bytes ≡ slice_index bytes 0 ∷ drop 1 bytes
count_first [] is = absurd (omega (arith, leb-true 1 0 (and_parts (nat_le 1 0) (nat_le 0 64) is).0))
count_first (b ∷ bytes) is = refl

pub counted_in_is : (bytes : List ℕ) (block : ℕ × ℕ × List ℕ) → AreBytes bytes → counted_in bytes ≡ Some block
    → ((is_version block.0 && is_count block.1 && is_content block.2) ≡ true)
    × (bytes ≡ version_text block.0 ++ block.1 ∷ content_text block.2)
counted_in_is bytes block are e =
    option_and_then_some _ (version_parts bytes) block e (λ parts parted e1.
    let counted = cond_some_of (is_count (slice_index parts.1 0)) _ block e1 in
    let text = version_parts_are bytes parts are parted in
    option_and_then_some _ (content_bytes (drop 1 parts.1)) block counted.1 (λ body count e2.
    mapped _ (content_of body) block e2 (λ content contained made.
    let rest = content_bytes_are (drop 1 parts.1) body (AreBytes-drop 1 parts.1 text.0) count in
    let held = content_of_is body content rest.0 contained in
    let behind : parts.1 ≡ slice_index parts.1 0 ∷ content_text content =
    count_first parts.1 counted.0 ∙ ap (λ (r : List ℕ). slice_index parts.1 0 ∷ r) (rest.1 ∙ ap content_text held.1) in
    subst (λ (b : ℕ × ℕ × List ℕ). ((is_version b.0 && is_count b.1 && is_content b.2) ≡ true)
    × (bytes ≡ version_text b.0 ++ b.1 ∷ content_text b.2))
    made (
      and_from _ _ (and_from _ _ text.1 counted.0) held.0,
      text.2
          ∙ ap (λ (r : List ℕ). version_text parts.0 ++ r) behind,
    ))))

pub counted_in-text : (version count : ℕ) (content : List ℕ) → is_version version ≡ true → is_count count ≡ true
    → is_content content ≡ true
    → counted_in (version_text version ++ count ∷ content_text content) ≡ Some (version, count, content)
counted_in-text version count content few counted contained =
    rw (
      version_parts-text version (count ∷ content_text content) few,
      counted,
      content_bytes-text content contained,
      content_of-content content contained,
    ) refl

pub count_in_is : (bytes : List ℕ) (count : ℕ) → count_in bytes ≡ Some count → (is_count count ≡ true)
    × (bytes ≡ count ∷ [])
count_in_is [] count e = absurd cc
count_in_is (b ∷ []) count e =
    let both = cond_some (is_count b) b count e in (rw (← both.1) both.0, rw both.1 refl)
count_in_is (b ∷ c ∷ bytes) count e = absurd (cc (two_or_more (length bytes)))

pub count_in-text : (count : ℕ) → is_count count ≡ true → count_in (count ∷ []) ≡ Some count
count_in-text count is = rw is refl
