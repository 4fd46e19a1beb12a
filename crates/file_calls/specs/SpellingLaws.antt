-- Each call and each reply has one spelling.
use Rattle.std.proofs.Common.{◌≡◌, ℕ, ◌<◌, ◌^◌, List, [], ◌∷◌, ◌++◌, ◌&&◌, length, drop, Bool, true, cond, Some, None, refl, ap, ap₂, ◌∙◌, inl, inr, take_at, drop_at}
use Rattle.std.proofs.Math.Seq.{take-length}
use Rattle.std.specs.Prelude.{find, slice_index}
use Rattle.std.specs.List.{flat_map}
use Rattle.std.proofs.lemmas.Bool.{and_parts, cases_Bool, ltb-true}
use Rattle.std.proofs.lemmas.Nat.{from_be_bytes-to_be_bytes_8}
use Rattle.std.proofs.lemmas.Slice.Eq.{bytes_eq-Decides}
use Rattle.file_calls.specs.declared.call.Call.{Call}
use Rattle.file_calls.specs.declared.call.Call.TheVariants.{Put, Get, List as ListNames, Remove, Append, GetBlock}
use Rattle.file_calls.specs.declared.call.Reply.{Reply}
use Rattle.file_calls.specs.declared.call.Reply.TheVariants.{Done, Bytes, Refused, Missing, Damaged, Full, Removed, Names, Bad, Block, Past}
use Rattle.file_calls.specs.Spelling.{name_text, content_text, version_text, call_text, reply_text, is_call, is_reply, is_version, is_count, is_call_text, is_reply_text, name_at, behind_name, names_at, version_at, calls_at, replies_at, call_of, reply_of}

-- what is found passes the test
found : {X : Type 0} (p : X → Bool) (xs : List X) (x : X) → find p xs ≡ Some x → p x ≡ true
found p [] x e = absurd cc
found p (y ∷ xs) x e = elim (cases_Bool (p y)) [
  | inl passes ↦ (let at = rw passes at e in let same : y ≡ x = cc in rw (← same) passes)
  | inr fails ↦ (let at = rw fails at e in found p xs x at)
]

-- the one that is left is found where it passes
chosen : {X : Type 0} (p : X → Bool) (y x : X) → y ≡ x → p x ≡ true
    → cond (p y) (Some y) None ≡ Some x
chosen p y x same passes = rw (same, passes) refl

-- a name, a version and what is behind them
pub name_there : (name rest : List ℕ) → name_at (name_text name ++ rest) ≡ name
name_there name rest = take_at name rest (length name) refl

pub behind_there : (name rest : List ℕ) → behind_name (name_text name ++ rest) ≡ rest
behind_there name rest = drop_at name rest (length name) refl

alone_there : (name : List ℕ) → name_at (name_text name) ≡ name
alone_there name = take-length name

pub names_there : (names : List (List ℕ))
    → names_at (length names) (flat_map name_text names) ≡ names
names_there [] = refl
names_there (name ∷ names) =
    let rest = flat_map name_text names in
    ap₂ (λ (n : List ℕ) (ns : List (List ℕ)). n ∷ ns) (name_there name rest)
    (ap (names_at (length names)) (behind_there name rest) ∙ names_there names)

pub version_there : (version : ℕ) (rest : List ℕ) → version < 2 ^ 64
    → version_at (version_text version ++ rest) ≡ version
version_there version rest few = from_be_bytes-to_be_bytes_8 version few

is_text : (call : Call) → is_call call ≡ true → is_call_text (call_text call) call ≡ true
is_text call is = rw ((bytes_eq-Decides (call_text call) (call_text call)).1 refl) is

-- a call is spelled back from its spelling
pub call_of-call_text : (call : Call) → is_call call ≡ true → call_of (call_text call) ≡ Some call
unfolding call_of call_text
call_of-call_text (Put name content) is =
    chosen (is_call_text (call_text (Put name content))) _ (Put name content)
    (ap₂ (λ (n c : List ℕ). Put n c) (name_there name (content_text content))
    (ap (drop 2) (behind_there name (content_text content))))
    (is_text (Put name content) is)
call_of-call_text (Get level name) is =
    chosen (is_call_text (call_text (Get level name))) _ (Get level name)
    (ap (Get level) (alone_there name)) (is_text (Get level name) is)
call_of-call_text (ListNames level) is =
    chosen (is_call_text (call_text (ListNames level))) _ (ListNames level) refl
    (is_text (ListNames level) is)
call_of-call_text (Remove name) is =
    chosen (is_call_text (call_text (Remove name))) _ (Remove name)
    (ap (λ (n : List ℕ). Remove n) (alone_there name)) (is_text (Remove name) is)
call_of-call_text (Append name content) is =
    chosen (is_call_text (call_text (Append name content))) _ (Append name content)
    (ap₂ (λ (n c : List ℕ). Append n c) (name_there name (content_text content))
    (ap (drop 2) (behind_there name (content_text content))))
    (is_text (Append name content) is)
call_of-call_text (GetBlock level name block) is =
    chosen (is_call_text (call_text (GetBlock level name block))) _ (GetBlock level name block)
    (ap₂ (λ (n : List ℕ) (k : ℕ). GetBlock level n k) (name_there name (block ∷ []))
    (ap (λ (rest : List ℕ). slice_index rest 0) (behind_there name (block ∷ []))))
    (is_text (GetBlock level name block) is)

-- what reads as a call is its spelling
pub call_text-call_of : (bytes : List ℕ) (call : Call) → call_of bytes ≡ Some call
    → (is_call call ≡ true) × (bytes ≡ call_text call)
unfolding call_of
call_text-call_of bytes call e =
    let both = and_parts _ (is_call call) (found (is_call_text bytes) (calls_at bytes) call e) in
    (both.1, (bytes_eq-Decides bytes (call_text call)).0 both.0)

is_said : (reply : Reply) → is_reply reply ≡ true → is_reply_text (reply_text reply) reply ≡ true
is_said reply is = rw ((bytes_eq-Decides (reply_text reply) (reply_text reply)).1 refl) is

small : (version : ℕ) → is_version version ≡ true → version < 2 ^ 64
small version is = ltb-true version (2 ^ 64) is

alone_version : (version : ℕ) → is_version version ≡ true
    → version_at (version_text version) ≡ version
alone_version version is = version_there version [] (small version is)

-- a reply is spelled back from its spelling
pub reply_of-reply_text : (reply : Reply) → is_reply reply ≡ true
    → reply_of (reply_text reply) ≡ Some reply
unfolding reply_of reply_text
reply_of-reply_text (Done version) is =
    chosen (is_reply_text (reply_text (Done version))) _ (Done version)
    (ap (λ (v : ℕ). Done v) (alone_version version is)) (is_said (Done version) is)
reply_of-reply_text (Bytes version content) is =
    chosen (is_reply_text (reply_text (Bytes version content))) _ (Bytes version content)
    (ap (λ (v : ℕ). Bytes v content)
    (version_there version (content_text content)
    (small version (and_parts (is_version version) _ is).0)))
    (is_said (Bytes version content) is)
reply_of-reply_text Refused is = refl
reply_of-reply_text Missing is = refl
reply_of-reply_text (Damaged version) is =
    chosen (is_reply_text (reply_text (Damaged version))) _ (Damaged version)
    (ap (λ (v : ℕ). Damaged v) (alone_version version is)) (is_said (Damaged version) is)
reply_of-reply_text Full is = refl
reply_of-reply_text Removed is = refl
reply_of-reply_text (Names names) is =
    chosen (is_reply_text (reply_text (Names names))) _ (Names names)
    (ap (λ (ns : List (List ℕ)). Names ns) (names_there names)) (is_said (Names names) is)
reply_of-reply_text Bad is = refl
reply_of-reply_text (Block version count content) is =
    chosen (is_reply_text (reply_text (Block version count content))) _
    (Block version count content)
    (ap (λ (v : ℕ). Block v count content)
    (version_there version (count ∷ content_text content)
    (small version (and_parts (is_version version) (is_count count)
    (and_parts (is_version version && is_count count) _ is).0).0)))
    (is_said (Block version count content) is)
reply_of-reply_text (Past count) is =
    chosen (is_reply_text (reply_text (Past count))) _ (Past count) refl (is_said (Past count) is)

-- what reads as a reply is its spelling
pub reply_text-reply_of : (bytes : List ℕ) (reply : Reply) → reply_of bytes ≡ Some reply
    → (is_reply reply ≡ true) × (bytes ≡ reply_text reply)
unfolding reply_of
reply_text-reply_of bytes reply e =
    let both = and_parts _ (is_reply reply)
    (found (is_reply_text bytes) (replies_at bytes) reply e) in
    (both.1, (bytes_eq-Decides bytes (reply_text reply)).0 both.0)
