-- The spellings are short lists of bytes.
use Rattle.std.proofs.Common.{◌≡◌, ℕ, zero, suc, ◌+◌, ◌*◌, ◌<◌, ◌≤◌, ◌/◌, ◌%◌, List, [], ◌∷◌, ◌++◌, ◌&&◌, length, get_or, true, arith, length-append}
use Rattle.std.specs.Prelude.{nat_lt, nat_le}
use Rattle.std.specs.List.{flat_map, list_all}
use Rattle.std.proofs.lemmas.Bool.{and_parts, leb-true, ltb-true}
use Rattle.std.proofs.lemmas.Bool.Decides.{nat_tests}
use Rattle.seal_core.specs.Blocks.{AreBytes}
use Rattle.seal_core.specs.Parts.{AreBytes-append, AreBytes-word}
use Rattle.file_calls.specs.declared.call.Call.{Call}
use Rattle.file_calls.specs.declared.call.Call.TheVariants.{Put, Get, List as ListNames, Remove, Append, GetBlock}
use Rattle.file_calls.specs.declared.call.Reply.{Reply}
use Rattle.file_calls.specs.declared.call.Reply.TheVariants.{Done, Bytes, Refused, Missing, Damaged, Full, Removed, Names, Bad, Block, Past}
use Rattle.file_calls.specs.Names.{is_byte, is_name_mark, is_name, is_content, are_rising}
use Rattle.file_calls.specs.ByteLaws.{are_bytes}
use Rattle.file_calls.specs.Spelling.{name_text, content_text, version_text, call_text, reply_text, is_call, is_reply, is_version, is_count}

after : (b : ℕ) (xs : List ℕ) → b < 256 → AreBytes xs → (i : ℕ) → get_or (b ∷ xs) i 0 < 256
after b xs small are zero = small
after b xs small are (suc i) = are.below i

-- a byte in front of bytes
pub AreBytes-cons : (b : ℕ) (xs : List ℕ) → b < 256 → AreBytes xs → AreBytes (b ∷ xs)
AreBytes-cons b xs small are = record { below = after b xs small are }

none_below : (i : ℕ) → get_or {A = ℕ} [] i 0 < 256
none_below i = omega arith

pub AreBytes-nil : AreBytes []
AreBytes-nil = record { below = none_below }

mark_small : (b : ℕ) → is_name_mark b ≡ true → b < 256
mark_small b is = grind (arith, nat_tests)

marks_are_bytes : (name : List ℕ) → list_all is_name_mark name ≡ true → AreBytes name
marks_are_bytes [] is = AreBytes-nil
marks_are_bytes (b ∷ name) is =
    let both = and_parts (is_name_mark b) (list_all is_name_mark name) is in
    AreBytes-cons b name (mark_small b both.0) (marks_are_bytes name both.1)

pub name_few : (name : List ℕ) → is_name name ≡ true → length name ≤ 32
name_few name is =
    let wide = and_parts (nat_lt 0 (length name) && nat_le (length name) 32)
    (list_all is_name_mark name) is in
    leb-true (length name) 32 (and_parts (nat_lt 0 (length name)) _ wide.0).1

pub name_are_bytes : (name : List ℕ) → is_name name ≡ true → AreBytes name
name_are_bytes name is = marks_are_bytes name (and_parts _ (list_all is_name_mark name) is).1

pub content_few : (content : List ℕ) → is_content content ≡ true → length content ≤ 4096
content_few content is = leb-true (length content) 4096
    (and_parts _ (list_all is_byte content) is).0

pub content_are_bytes : (content : List ℕ) → is_content content ≡ true → AreBytes content
content_are_bytes content is = are_bytes content (and_parts _ (list_all is_byte content) is).1

-- bytes, and no more than so many
pub record IsShort (most : ℕ) (text : List ℕ) : Type 0 where
  pub bytes : AreBytes text
  pub few : length text ≤ most

longer : (a b c : ℕ) (xs ys : List ℕ) → a + b ≤ c → IsShort a xs → IsShort b ys
    → IsShort c (xs ++ ys)
longer a b c xs ys h hx hy = record {
  bytes = AreBytes-append xs ys hx.bytes hy.bytes;
  few = omega (arith, length-append xs ys, hx.few, hy.few);
}

ahead : (a b : ℕ) (x : ℕ) (xs : List ℕ) → a < b → x < 256 → IsShort a xs → IsShort b (x ∷ xs)
ahead a b x xs h small short =
    record { bytes = AreBytes-cons x xs small short.bytes; few = omega (arith, short.few) }

name_short : (name : List ℕ) → is_name name ≡ true → IsShort 33 (name_text name)
name_short name is =
    let few = name_few name is in
    ahead 32 33 (length name) name (omega arith) (omega arith)
    (record { bytes = name_are_bytes name is; few = few })

content_short : (content : List ℕ) → is_content content ≡ true → IsShort 4098 (content_text content)
content_short content is =
    let short : IsShort 4096 content =
    record { bytes = content_are_bytes content is; few = content_few content is } in
    let n = length content in
    ahead 4097 4098 (n / 256 % 256) _ (omega arith) (omega arith)
    (ahead 4096 4097 (n % 256) content (omega arith) (omega arith) short)

version_short : (version : ℕ) → IsShort 8 (version_text version)
version_short version = record { bytes = AreBytes-word version; few = omega arith }

one_short : (b : ℕ) → b < 256 → IsShort 1 (b ∷ [])
one_short b small = record { bytes = AreBytes-cons b [] small AreBytes-nil; few = omega arith }

file_short : (name content : List ℕ) → (is_name name && is_content content) ≡ true
    → IsShort 4131 (name_text name ++ content_text content)
file_short name content is =
    let both = and_parts (is_name name) (is_content content) is in
    longer 33 4098 4131 (name_text name) (content_text content) (omega arith)
    (name_short name both.0) (content_short content both.1)

more : (a b : ℕ) (text : List ℕ) → a ≤ b → IsShort a text → IsShort b text
more a b text h short = record { bytes = short.bytes; few = omega (arith, short.few) }

-- the spelling of a call has at most 5,632 bytes
pub call_short : (call : Call) → is_call call ≡ true → IsShort 5632 (call_text call)
unfolding call_text
call_short (Put name content) is =
    ahead 4131 5632 1 _ (omega arith) (omega arith) (file_short name content is)
call_short (Get level name) is =
    let both = and_parts (is_byte level) (is_name name) is in
    ahead 34 5632 2 _ (omega arith) (omega arith)
    (ahead 33 34 level _ (omega arith) (ltb-true level 256 both.0) (name_short name both.1))
call_short (ListNames level) is =
    ahead 1 5632 3 _ (omega arith) (omega arith) (one_short level (ltb-true level 256 is))
call_short (Remove name) is =
    ahead 33 5632 4 _ (omega arith) (omega arith) (name_short name is)
call_short (Append name content) is =
    ahead 4131 5632 5 _ (omega arith) (omega arith) (file_short name content is)
call_short (GetBlock level name block) is =
    let outer = and_parts (is_byte level && is_name name) (nat_le block 63) is in
    let both = and_parts (is_byte level) (is_name name) outer.0 in
    let small = leb-true block 63 outer.1 in
    ahead 35 5632 6 _ (omega arith) (omega arith)
    (ahead 34 35 level _ (omega arith) (ltb-true level 256 both.0)
    (longer 33 1 34 (name_text name) (block ∷ []) (omega arith) (name_short name both.1)
    (one_short block (omega arith))))

names_short : (names : List (List ℕ)) → list_all is_name names ≡ true
    → IsShort (33 * length names) (flat_map name_text names)
names_short [] is = record { bytes = AreBytes-nil; few = omega arith }
names_short (name ∷ names) is =
    let both = and_parts (is_name name) (list_all is_name names) is in
    longer 33 (33 * length names) (33 * length (name ∷ names)) (name_text name)
    (flat_map name_text names) (omega arith)
    (name_short name both.0) (names_short names both.1)

count_small : (count : ℕ) → is_count count ≡ true → count < 256
count_small count is =
    let few = leb-true count 64 (and_parts (nat_le 1 count) _ is).1 in
    omega arith

-- the spelling of a reply has at most 5,632 bytes
pub reply_short : (reply : Reply) → is_reply reply ≡ true → IsShort 5632 (reply_text reply)
unfolding reply_text
reply_short (Done version) is = ahead 8 5632 1 _ (omega arith) (omega arith) (version_short version)
reply_short (Bytes version content) is =
    let both = and_parts (is_version version) (is_content content) is in
    ahead 4106 5632 2 _ (omega arith) (omega arith)
    (longer 8 4098 4106 (version_text version) (content_text content) (omega arith)
    (version_short version) (content_short content both.1))
reply_short Refused is = more 1 5632 _ (omega arith) (one_short 3 (omega arith))
reply_short Missing is = more 1 5632 _ (omega arith) (one_short 4 (omega arith))
reply_short (Damaged version) is = ahead 8 5632 5 _ (omega arith) (omega arith)
    (version_short version)
reply_short Full is = more 1 5632 _ (omega arith) (one_short 6 (omega arith))
reply_short Removed is = more 1 5632 _ (omega arith) (one_short 7 (omega arith))
reply_short (Names names) is =
    let outer = and_parts (nat_le (length names) 128 && list_all is_name names) (are_rising names)
    is in
    let both = and_parts (nat_le (length names) 128) (list_all is_name names) outer.0 in
    let few = leb-true (length names) 128 both.0 in
    ahead 4225 5632 8 _ (omega arith) (omega arith)
    (ahead 4224 4225 (length names) _ (omega arith) (omega arith)
    (more (33 * length names) 4224 _ (omega arith) (names_short names both.1)))
reply_short Bad is = more 1 5632 _ (omega arith) (one_short 9 (omega arith))
reply_short (Block version count content) is =
    let outer = and_parts (is_version version && is_count count) (is_content content) is in
    let both = and_parts (is_version version) (is_count count) outer.0 in
    ahead 4107 5632 10 _ (omega arith) (omega arith)
    (longer 8 4099 4107 (version_text version) (count ∷ content_text content) (omega arith)
    (version_short version)
    (ahead 4098 4099 count _ (omega arith) (count_small count both.1)
    (content_short content outer.1)))
reply_short (Past count) is =
    ahead 1 5632 11 _ (omega arith) (omega arith) (one_short count (count_small count is))
