-- A reply with a content is of a block that stands at or below the caller's level.
use Rattle.std.proofs.Common.{◌≡◌, ℕ, List, length, Option, Some, None, refl, sym, ap, subst, ◌∙◌, inl, inr}
use Rattle.std.specs.Prelude.{slice_get}
use Rattle.std.specs.Option.{option_map}
use Rattle.std.specs.Map.{keys_of}
use Rattle.file_calls.specs.declared.call.Call.{Call}
use Rattle.file_calls.specs.declared.call.Call.TheVariants.{Put, Append, Get, GetBlock, List as ListNames, Remove}
use Rattle.file_calls.specs.declared.call.Reply.{Reply}
use Rattle.file_calls.specs.declared.call.Reply.TheVariants.{Bytes, Block, Removed, Names}
use Rattle.file_calls.specs.Spelling.{call_of}
use Rattle.untrusted_store.specs.declared.plan.StoreAction.{StoreAction}
use Rattle.machine.specs.Setup.{Setup}
use Rattle.machine.specs.Files.{CallRow, Directory, Write, Writing, written, versions_of, writing, files}
use Rattle.machine.specs.Replies.{Question, Sight, sight, block_version, question_for, question_in, question_by, write_reply, if_below, if_there, if_within, get_reply, get_block_reply, reply_with}
use Rattle.machine.specs.Plan.{question_of, next_action, is_intact, current_content, intact_content, reply}
use Rattle.machine.specs.Laws.{content_in, ReadsDown}
use Rattle.machine.proofs.Basics.{bool_cases}
use Rattle.machine.proofs.Questions.{asked_below, asked_current}
use Rattle.machine.proofs.Written.{stands_written}

-- a reply has this content because the store's answer opened to it, and the call asks for a block with this version
record Opened (s : Sight) (opened : Option (List ℕ)) (o : Option Call) (version : ℕ) (content : List ℕ) : Type 0
  where
    question : Question
    asks : question_by s o ≡ Some question
    same : question.version ≡ version
    holds : opened ≡ Some content

-- the block that is asked for, with the versions of its name
opens_at : (s : Sight) (opened : Option (List ℕ)) (o : Option Call) (level : ℕ) (name : List ℕ) (number : ℕ)
    (found : ℕ → List ℕ → Reply) (count : ℕ) (v' : Option ℕ) (version : ℕ) (content : List ℕ)
    → ((a : ℕ) (b : List ℕ) → content_in (found a b) ≡ Some (a, b))
    → question_by s o ≡ option_map (question_for level name number) v'
    → content_in (if_within found opened count v') ≡ Some (version, content) → Opened s opened o version content
opens_at s None o level name number found count (Some v) version content has is h = cc
opens_at s (Some c) o level name number found count (Some v) version content has is h =
    let same : (v, c) ≡ (version, content) = let t = sym (has v c) ∙ h in cc in
    record {
      question = question_for level name number v;
      asks = is;
      same = ap (λ (p : ℕ × List ℕ). p.0) same;
      holds = ap (λ (p : ℕ × List ℕ). Some p.1) same;
    }
opens_at s opened o level name number found count None version content has is h = cc

get_at : (s : Sight) (opened : Option (List ℕ)) (level : ℕ) (name : List ℕ) (names : Directory)
    (vs : Option (List ℕ)) (version : ℕ) (content : List ℕ)
    → s.below level ≡ Some names → versions_of name names ≡ vs
    → content_in (if_there vs (get_reply opened)) ≡ Some (version, content)
    → Opened s opened (Some (Get level name)) version content
unfolding question_by
get_at s opened level name names None version content seen there h = cc
get_at s opened level name names (Some vs) version content seen there h =
    opens_at s opened (Some (Get level name)) level name 0 Bytes (length vs) (slice_get vs 0) version content
    (λ a b. refl)
    (ap (question_in level name 0) seen
    ∙ ap (λ x. option_map (question_for level name 0) (block_version x 0)) there) h

get_block_at : (s : Sight) (opened : Option (List ℕ)) (level : ℕ) (name : List ℕ) (number : ℕ)
    (names : Directory) (vs : Option (List ℕ)) (version : ℕ) (content : List ℕ)
    → s.below level ≡ Some names → versions_of name names ≡ vs
    → content_in (if_there vs (get_block_reply opened number)) ≡ Some (version, content)
    → Opened s opened (Some (GetBlock level name number)) version content
unfolding question_by
get_block_at s opened level name number names None version content seen there h = cc
get_block_at s opened level name number names (Some vs) version content seen there h =
    opens_at s opened (Some (GetBlock level name number)) level name number
    (λ version content. Block version (length vs) content) (length vs) (slice_get vs number) version content
    (λ a b. refl)
    (ap (question_in level name number) seen
    ∙ ap (λ x. option_map (question_for level name number) (block_version x number)) there) h

of_get : (s : Sight) (opened : Option (List ℕ)) (level : ℕ) (name : List ℕ) (d : Option Directory) (version : ℕ)
    (content : List ℕ) → s.below level ≡ d
    → content_in (if_below d (λ names. if_there (versions_of name names) (get_reply opened)))
    ≡ Some (version, content) → Opened s opened (Some (Get level name)) version content
of_get s opened level name None version content seen h = cc
of_get s opened level name (Some names) version content seen h =
    get_at s opened level name names (versions_of name names) version content seen refl h

of_get_block : (s : Sight) (opened : Option (List ℕ)) (level : ℕ) (name : List ℕ) (number : ℕ)
    (d : Option Directory) (version : ℕ) (content : List ℕ) → s.below level ≡ d
    → content_in (if_below d (λ names. if_there (versions_of name names) (get_block_reply opened number)))
    ≡ Some (version, content) → Opened s opened (Some (GetBlock level name number)) version content
of_get_block s opened level name number None version content seen h = cc
of_get_block s opened level name number (Some names) version content seen h =
    get_block_at s opened level name number names (versions_of name names) version content seen refl h

no_content_write : (o : Option Writing) (version : ℕ) (content : List ℕ)
    → content_in (write_reply o) ≡ Some (version, content) → ⊥
no_content_write None version content h = cc
no_content_write (Some w) version content h = cc

no_content_there : (o : Option (List ℕ)) (r : Reply) (version : ℕ) (content : List ℕ)
    → (content_in r ≡ Some (version, content) → ⊥)
    → content_in (if_there o (λ versions. r)) ≡ Some (version, content) → ⊥
no_content_there None r version content none h = cc
no_content_there (Some vs) r version content none h = none h

no_content_names : (d : Option Directory) (version : ℕ) (content : List ℕ)
    → content_in (if_below d (λ names. Names (keys_of names))) ≡ Some (version, content) → ⊥
no_content_names None version content h = cc
no_content_names (Some names) version content h = cc

opened_is : (s : Sight) (opened : Option (List ℕ)) (o : Option Call) (version : ℕ) (content : List ℕ)
    → content_in (reply_with s opened o) ≡ Some (version, content) → Opened s opened o version content
unfolding reply_with
opened_is s opened None version content h = cc
opened_is s opened (Some (Put name c)) version content h =
    absurd (no_content_write (writing s.next s.own (Put name c)) version content h)
opened_is s opened (Some (Append name c)) version content h =
    absurd (no_content_there (versions_of name s.own) (write_reply (writing s.next s.own (Append name c)))
    version content (no_content_write (writing s.next s.own (Append name c)) version content) h)
opened_is s opened (Some (Get level name)) version content h =
    of_get s opened level name (s.below level) version content refl h
opened_is s opened (Some (GetBlock level name number)) version content h =
    of_get_block s opened level name number (s.below level) version content refl h
opened_is s opened (Some (ListNames level)) version content h =
    absurd (no_content_names (s.below level) version content h)
opened_is s opened (Some (Remove name)) version content h =
    absurd (no_content_there (versions_of name s.own) Removed version content (λ e. cc) h)

-- what an intact answer opens to was written under the block's version
under_version : (o : Option Write) (content : List ℕ) → option_map (λ (w : Write). w.content) o ≡ Some content
    → (w : Write) × (o ≡ Some w) × (w.content ≡ content)
under_version None content h = cc
under_version (Some w) content h = (w, refl, cc)

intact_is : (action : StoreAction) (before : List CallRow) (o : Option Question) (block : Question)
    (content : List ℕ) → o ≡ Some block → intact_content action before o ≡ Some content
    → (w : Write) × (written (files block.level before).writes block.version ≡ Some w) × (w.content ≡ content)
intact_is action before None block content is h = cc
intact_is action before (Some b) block content is h =
    let same : b ≡ block = cc in
    elim (bool_cases (is_intact action b)) [
      | inl intact ↦ (let found : current_content before b ≡ Some content = rw intact at h in
          subst (λ (x : Question). (w : Write) × (written (files x.level before).writes x.version ≡ Some w)
          × (w.content ≡ content)) same
          (under_version (written (files b.level before).writes b.version) content found))
      | inr damaged ↦ (let t = rw damaged at h in cc)
    ]

-- a version of a name that stands was written as its block
written_as : (level : ℕ) (before : List CallRow) (name : List ℕ) (block version : ℕ) (o : Option (List ℕ))
    (w : Write) → versions_of name (files level before).names ≡ o → block_version o block ≡ Some version
    → written (files level before).writes version ≡ Some w → w ≡ record {
      name = name;
      block = block;
      content = w.content;
    }
written_as level before name block version None w there at_block is = cc
written_as level before name block version (Some vs) w there at_block is =
    let t = stands_written level before name vs there block version at_block in
    let same : w ≡ record { name = name; block = block; content = t.0 } = let e = sym is ∙ t.1 in cc in
    same ∙ ap (λ (c : List ℕ). record {
      name = name;
      block = block;
      content = c;
    }) (sym (ap (λ (x : Write). x.content) same))

pub reads_down : (m : Setup) (before : List CallRow) (c : CallRow) (version : ℕ) (content : List ℕ)
    → content_in (reply m before c) ≡ Some (version, content) → ReadsDown m.roster before c version content
unfolding reply
reads_down m before c version content h =
    let t =
    opened_is (sight m.roster c.level before)
    (intact_content (next_action m before c.level) before (question_of m.roster before c))
    (call_of c.message) version content h in
    let w =
    intact_is (next_action m before c.level) before (question_of m.roster before c) t.question content
    t.asks t.holds in
    let current = asked_current m.roster before c t.question t.asks in
    let as_written =
    written_as t.question.level before t.question.name t.question.block t.question.version
    (versions_of t.question.name (files t.question.level before).names) w.0 refl current w.1 in
    record {
      question = t.question;
      asks = t.asks;
      below = asked_below m.roster before c t.question t.asks;
      current = current ∙ ap Some t.same;
      written = ap (written (files t.question.level before).writes) (sym t.same) ∙ w.1
          ∙ ap Some (as_written
          ∙ ap (λ (x : List ℕ). record { name = t.question.name; block = t.question.block; content = x }) w.2);
    }
