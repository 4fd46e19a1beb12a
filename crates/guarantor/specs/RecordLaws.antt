-- What a record opens to.
use Rattle.std.proofs.Common.{◌≡◌, ℕ, zero, suc, ◌+◌, ◌-◌, ◌<◌, ◌≤◌, ◌%◌, ◌^◌, List, ◌++◌, length, take, drop, get_or, true, refl, sym, ap, ◌∙◌, arith, length-append, take_at, drop_at, replicate}
use Rattle.std.proofs.lemmas.List.{length-replicate}
use Rattle.std.proofs.lemmas.Nat.{from_be_bytes-to_be_bytes_2}
use Rattle.seal_core.specs.declared.KeyPair.{KeyPair}
use Rattle.seal_core.specs.Blocks.{AreBytes, IsBlock, IsPlain}
use Rattle.seal_core.specs.Sealing.{Sealer, OpensTo, IsSealing}
use Rattle.seal_core.specs.Parts.{AreBytes-append, AreBytes-drop, AreBytes-word}
use Rattle.file_calls.specs.Names.{is_name, is_content}
use Rattle.file_calls.specs.SpellingBytes.{AreBytes-cons, name_few, name_are_bytes, content_few, content_are_bytes}
use Rattle.guarantor.specs.Records.{in_blocks, name_field, record_nonce, record_head, record_plain, record_of}
use Rattle.guarantor.specs.Checks.{IsOpen, IsRecord}
use Rattle.guarantor.specs.inside.Parts.{content_at}

zeros_below : (n i : ℕ) → get_or (replicate n 0) i 0 < 256
zeros_below zero i = omega arith
zeros_below (suc n) zero = omega arith
zeros_below (suc n) (suc i) = zeros_below n i

are_zeros : (n : ℕ) → AreBytes (replicate n 0)
are_zeros n = record { below = zeros_below n }

-- ---- lengths

length-in_blocks : (bytes : List ℕ)
    → length (in_blocks bytes) ≡ length bytes + (8 - length bytes % 8) % 8
length-in_blocks bytes =
    let zeros = (8 - length bytes % 8) % 8 in
    length-append bytes (replicate zeros 0)
    ∙ ap (λ (n : ℕ). length bytes + n) (length-replicate zeros 0)

length-name_field : (name : List ℕ) → length name ≤ 32 → length (name_field name) ≡ 32
length-name_field name few =
    let zeros = 32 - length name in
    let all = length-append name (replicate zeros 0) in
    omega (arith, all, length-replicate {A = ℕ} zeros 0)

front_wide : (level : ℕ) (name : List ℕ) (block version size : ℕ) → length name ≤ 32
    → length (record_head level name block version size ++ name_field name) ≡ 48
front_wide level name block version size few =
    let head = record_head level name block version size in
    omega (arith, length-append head (name_field name), length-name_field name few)

pub length-record_plain : (level : ℕ) (name : List ℕ) (block version : ℕ) (content : List ℕ)
    → length name ≤ 32
    → length (record_plain level name block version content) ≡ 48 + length (in_blocks content)
unfolding record_plain
length-record_plain level name block version content few =
    let front = record_head level name block version (length content) ++ name_field name in
    length-append front (in_blocks content)
    ∙ ap (λ (n : ℕ). n + length (in_blocks content))
    (front_wide level name block version (length content) few)

padded_whole : (n : ℕ) → (48 + (n + (8 - n % 8) % 8)) % 8 ≡ 0
padded_whole n = omega arith

-- the plain text of a record has whole blocks
pub plain_whole : (level : ℕ) (name : List ℕ) (block version : ℕ) (content : List ℕ)
    → length name ≤ 32 → length (record_plain level name block version content) % 8 ≡ 0
plain_whole level name block version content few =
    ap (λ (n : ℕ). n % 8)
    (length-record_plain level name block version content few
    ∙ ap (λ (n : ℕ). 48 + n) (length-in_blocks content))
    ∙ padded_whole (length content)

-- ---- bytes

head_are_bytes : (level : ℕ) (name : List ℕ) (block version size : ℕ)
    → level < 256 → length name ≤ 32 → block < 256
    → AreBytes (record_head level name block version size)
head_are_bytes level name block version size small few low =
    let zero_is : 0 < 256 = omega arith in
    AreBytes-cons level _ small (AreBytes-cons (length name) _ (omega arith)
    (AreBytes-cons _ _ (omega arith) (AreBytes-cons _ _ (omega arith)
    (AreBytes-cons block _ low (AreBytes-cons 0 _ zero_is (AreBytes-cons 0 _ zero_is
    (AreBytes-cons 0 _ zero_is (AreBytes-word version))))))))

pub plain_is : (level : ℕ) (name : List ℕ) (block version : ℕ) (content : List ℕ)
    → level < 256 → is_name name ≡ true → block < 256 → is_content content ≡ true
    → IsPlain (record_plain level name block version content)
unfolding record_plain
plain_is level name block version content small named low held =
    let few = name_few name named in
    let head = record_head level name block version (length content) in
    let front =
    AreBytes-append head (name_field name)
    (head_are_bytes level name block version (length content) small few low)
    (AreBytes-append name _ (name_are_bytes name named) (are_zeros (32 - length name))) in
    record {
      some = omega (arith, length-record_plain level name block version content few);
      whole = plain_whole level name block version content few;
      bytes =
          AreBytes-append (head ++ name_field name) (in_blocks content) front
          (AreBytes-append content _ (content_are_bytes content held)
          (are_zeros ((8 - length content % 8) % 8)));
    }

pub nonce_is : (level version : ℕ) → level < 256 → IsBlock (record_nonce level version)
unfolding record_nonce
nonce_is level version small = record {
  len = refl;
  bytes = AreBytes-cons level _ small (AreBytes-drop 1 _ (AreBytes-word version));
}

-- a record opens to its nonce and its plain text
pub record_opens : (sealed : Sealer) (keys : KeyPair) (level : ℕ) (name : List ℕ)
    (block version : ℕ) (text content : List ℕ)
    → level < 256 → is_name name ≡ true → block < 256
    → IsRecord sealed keys level name block version text content
    → OpensTo sealed keys text (record_nonce level version)
    (record_plain level name block version content)
unfolding record_of
record_opens sealed keys level name block version text content small named low is = record {
  block = nonce_is level version small;
  blocks = plain_is level name block version content small named low is.short;
  same = is.same;
}

padded_few : (n : ℕ) → n ≤ 4096 → n + (8 - n % 8) % 8 ≤ 4096
padded_few n few = omega arith

-- so it has a record's length
pub record_is_open : (sealed : Sealer) (keys : KeyPair) (level : ℕ) (name : List ℕ)
    (block version : ℕ) (text content : List ℕ) → IsSealing sealed
    → level < 256 → is_name name ≡ true → block < 256
    → IsRecord sealed keys level name block version text content → IsOpen sealed keys text
record_is_open sealed keys level name block version text content laws small named low is =
    let plain = record_plain level name block version content in
    let few = name_few name named in
    let opens = record_opens sealed keys level name block version text content small named low is in
    let wide : length text ≡ length plain + 16 =
    ap length opens.same
    ∙ laws.longer keys (record_nonce level version) plain opens.block opens.blocks in
    let size : length plain ≡ 48 + (length content + (8 - length content % 8) % 8) =
    length-record_plain level name block version content few
    ∙ ap (λ (n : ℕ). 48 + n) (length-in_blocks content) in
    let short = padded_few (length content) (content_few content is.short) in
    let whole = plain_whole level name block version content few in
    record {
      nonce = record_nonce level version;
      plain = plain;
      opened = record {
        least = omega arith;
        most = omega arith;
        whole = omega (arith, wide, whole);
        opens = opens;
      };
    }

-- ---- one content

-- where a record has its content it stands
pub content_at-record_plain : (level : ℕ) (name : List ℕ) (block version : ℕ)
    (content : List ℕ) → is_name name ≡ true → is_content content ≡ true
    → content_at (record_plain level name block version content) ≡ content
unfolding record_plain
content_at-record_plain level name block version content named held =
    let size = length content in
    let few : size < 2 ^ 16 = let short = content_few content held in omega arith in
    let front = record_head level name block version size ++ name_field name in
    let behind : drop 48 (front ++ in_blocks content) ≡ in_blocks content =
    drop_at front (in_blocks content) 48
    (front_wide level name block version size (name_few name named)) in
    ap (λ (n : ℕ). take n (drop 48 (front ++ in_blocks content)))
    (from_be_bytes-to_be_bytes_2 size few)
    ∙ ap (take size) behind
    ∙ take_at content (replicate ((8 - size % 8) % 8) 0) size refl

-- one text is the record of one content
pub one_content : (sealed : Sealer) (keys : KeyPair) (level : ℕ) (name : List ℕ)
    (block version : ℕ) (text content content' : List ℕ) → IsSealing sealed
    → level < 256 → is_name name ≡ true → block < 256
    → IsRecord sealed keys level name block version text content
    → IsRecord sealed keys level name block version text content' → content ≡ content'
one_content sealed keys level name block version text content content' laws small named low is is' =
    let plains =
    (laws.once keys text _ _ _ _
    (record_opens sealed keys level name block version text content small named low is)
    (record_opens sealed keys level name block version text content' small named low is')).1 in
    sym (content_at-record_plain level name block version content named is.short)
    ∙ ap content_at plains
    ∙ content_at-record_plain level name block version content' named is'.short
