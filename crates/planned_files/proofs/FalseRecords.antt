-- A call is answered by its reply, or by a false record.
use Rattle.std.proofs.Common.{◌≡◌, ℕ, ◌<◌, ◌≤◌, List, length, Bool, true, false, ◌&&◌, Option, None, Some, refl, sym, ◌∙◌, ap, subst, true≢false, inl, inr, arith}
use Rattle.std.specs.Prelude.{if◌then◌else◌, ◌==◌, ◌^◌, is_some, not}
use Rattle.std.specs.Option.{option_map}
use Rattle.std.proofs.lemmas.Bool.Decides.{nat_tests}
use Rattle.levels.specs.Rosters.{RosterView}
use Rattle.seal_core.specs.declared.KeyPair.{KeyPair}
use Rattle.seal_core.specs.Sealing.{Sealer, IsSealing}
use Rattle.guarantor.specs.Records.{record_of}
use Rattle.guarantor.specs.Checks as checks
use Rattle.file_calls.specs.Names.{is_name}
use Rattle.file_calls.specs.Spelling.{call_of}
use Rattle.file_calls.specs.declared.call.Reply.{Reply}
use Rattle.untrusted_store.specs.declared.slot.Slot.{Slot}
use Rattle.untrusted_store.specs.declared.plan.StoreAction.{StoreAction}
use Rattle.untrusted_store.specs.declared.plan.StoreAction.TheVariants.{Honest, Of, Flip, Gone}
use Rattle.untrusted_store.specs.Planned.{action_at, answer_by, next_answer, asked_by}
use Rattle.machine.specs.Setup.{Setup}
use Rattle.machine.specs.Files.{CallRow, Write, files}
use Rattle.machine.specs.Replies.{Question, sight, reply_with}
use Rattle.machine.specs.Plan.{question_of, question_count, next_action, is_intact, current_content, intact_content, reply, records, store_answer}
use Rattle.machine.specs.FalseBytes.{IsFalseRecord}
use Rattle.machine.specs.Laws.{AsksForWritten}
use Rattle.file_manager.specs.declared.outcome.Outcome.{Outcome}
use Rattle.file_manager.specs.Outcomes.{slot_of, OpensAsBlock, WasOpened, got_of, IsOutcome}
use Rattle.planned_files.specs.FilesView.{FilesView}
use Rattle.planned_files.specs.Standing.{StandsFor}
use Rattle.planned_files.specs.inside.Kept.{is_intact_in, is_false_record}
use Rattle.planned_files.proofs.Options.{bool_cases}
use Rattle.planned_files.proofs.Questions.{same_action}

-- under a sealing a text is the record of one content
abbrev pub OneContent : Type 0
OneContent = (sealed : Sealer) (keys : KeyPair) (level : ℕ) (name : List ℕ) (block version : ℕ)
    (text content other : List ℕ) → IsSealing sealed → level < 2 ^ 8 → is_name name ≡ true → block ≤ 63
    → checks.IsRecord sealed keys level name block version text content
    → checks.IsRecord sealed keys level name block version text other → content ≡ other

abbrev pub AskForWritten : Type 0
AskForWritten = (roster : RosterView) (before : List CallRow) (c : CallRow) (question : Question)
    → question_of roster before c ≡ Some question → AsksForWritten before question

-- ---- intact answers

intact_alike : (action : StoreAction) (q : Question) → is_intact_in action (slot_of q) ≡ is_intact action q
intact_alike Honest q = refl
intact_alike (Of level version) q = refl
intact_alike (Flip offset xor) q = refl
intact_alike Gone q = refl

of_slot : (a b c d : ℕ) → (a == b && c == d) ≡ true → (a ≡ b) × (c ≡ d)
of_slot a b c d e = (grind (arith, nat_tests, e), grind (arith, nat_tests, e))

intact_answer : (f : Slot → Option (List ℕ)) (q : Question) (action : StoreAction) → is_intact action q ≡ true
    → answer_by f (slot_of q) action ≡ f (slot_of q)
intact_answer f q Honest e = refl
intact_answer f q (Of level version) e =
    let same = of_slot level q.level version q.version e in
    λ i. f (record { level = same.0 i; version = same.1 i })
intact_answer f q (Flip offset xor) e = cc
intact_answer f q Gone e = cc

-- ---- what a call ends in, by what was opened

record IsRight (m : Setup) (calls : List CallRow) (c : CallRow) (opened : Option (List ℕ)) (found : Bool) : Type 0
  where
    false_record : found ≡ true → IsFalseRecord m calls c
    true_reply : found ≡ false
        → (opened ≡ intact_content (next_action m calls c.level) calls (question_of m.roster calls c))
        × (¬ IsFalseRecord m calls c)

no_question : (m : Setup) (calls : List CallRow) (c : CallRow) (opened : Option (List ℕ))
    → question_of m.roster calls c ≡ None → opened ≡ None → IsRight m calls c opened false
no_question m calls c opened asks none = record {
  false_record = λ e. cc;
  true_reply = λ e. (
    none ∙ sym (ap (intact_content (next_action m calls c.level) calls) asks),
    λ f. let t = sym asks ∙ f.asks in cc,
  );
}

one_opened : OneContent → (m : Setup) (q : Question) (text content : List ℕ) (opened : Option (List ℕ))
    → IsSealing m.sealed → q.level < 2 ^ 8 → is_name q.name ≡ true → q.block ≤ 63
    → checks.IsRecord m.sealed m.guard q.level q.name q.block q.version text content
    → OpensAsBlock m.sealed m.guard q (Some text) opened → opened ≡ Some content
one_opened one m q text content None laws level name block is opens = absurd (opens content is)
one_opened one m q text content (Some other) laws level name block is opens =
    ap Some (one m.sealed m.guard q.level q.name q.block q.version text other content laws level name block opens is)

same_question : (m : Setup) (calls : List CallRow) (c : CallRow) (q q' : Question)
    → question_of m.roster calls c ≡ Some q → question_of m.roster calls c ≡ Some q' → q ≡ q'
same_question m calls c q q' asks asks' = let t = sym asks ∙ asks' in cc

no_and : (b : Bool) → (b && false) ≡ true → ⊥
no_and true e = cc
no_and false e = cc

intact_right : OneContent → (m : Setup) (calls : List CallRow) (c : CallRow) (q : Question)
    (opened : Option (List ℕ)) → IsSealing m.sealed → question_of m.roster calls c ≡ Some q → AsksForWritten calls q
    → is_intact (next_action m calls c.level) q ≡ true
    → OpensAsBlock m.sealed m.guard q (store_answer m calls c.level q) opened
    → IsRight m calls c opened (is_some opened && false)
intact_right one m calls c q opened laws asks w intact opens =
    let action = next_action m calls c.level in
    let text = record_of m.sealed m.guard q.level q.name q.block q.version w.content in
    let here : records m calls (slot_of q) ≡ Some text =
    ap (option_map (λ (x : Write). record_of m.sealed m.guard q.level x.name x.block q.version x.content)) w.written in
    let answer : store_answer m calls c.level q ≡ Some text =
    intact_answer (records m calls) q action intact ∙ here in
    let is : opened ≡ Some w.content =
    one_opened one m q text w.content opened laws w.level w.name w.block (record { short = w.held; same = refl })
    (subst (λ a. OpensAsBlock m.sealed m.guard q a opened) answer opens) in
    let what : intact_content action calls (Some q) ≡ Some w.content =
    ap (λ b. if b then current_content calls q else None)
    intact
    ∙ ap (option_map (λ (x : Write). x.content)) w.written in
    record {
      false_record = λ e. absurd (no_and (is_some opened) e);
      true_reply = λ e. (
        is ∙ sym (ap (intact_content action calls) asks ∙ what),
        λ f.
            (let same = same_question m calls c q f.question asks f.asks in
            true≢false (sym intact ∙ ap (is_intact action) same ∙ f.damaged)),
      );
    }

damaged_right : (m : Setup) (calls : List CallRow) (c : CallRow) (q : Question) (opened answer : Option (List ℕ))
    → question_of m.roster calls c ≡ Some q → is_intact (next_action m calls c.level) q ≡ false
    → store_answer m calls c.level q ≡ answer → OpensAsBlock m.sealed m.guard q answer opened
    → IsRight m calls c opened (is_some opened && true)
damaged_right m calls c q (Some content) None asks damaged is opens = cc
damaged_right m calls c q (Some content) (Some text) asks damaged is opens = record {
  false_record = λ e. record {
    question = q;
    asks = asks;
    damaged = damaged;
    bytes = text;
    content = content;
    answer = is;
    opens = record { short = opens.short; same = opens.same };
  };
  true_reply = λ e. cc;
}
damaged_right m calls c q None answer asks damaged is opens = record {
  false_record = λ e. cc;
  true_reply = λ e. (
    sym (ap (intact_content (next_action m calls c.level) calls) asks
        ∙ ap (λ b. if b then current_content calls q else None)
        damaged),
    λ f.
        (let same = same_question m calls c q f.question asks f.asks in
        let there : answer ≡ Some f.bytes =
        sym is ∙ ap (store_answer m calls c.level) same ∙ f.answer in
        let shut = subst (λ a. OpensAsBlock m.sealed m.guard q a None) there opens in
        shut f.content
        (subst (λ (x : Question). checks.IsRecord m.sealed m.guard x.level x.name x.block x.version f.bytes f.content)
        (sym same) (record { short = f.opens.short; same = f.opens.same }))),
  );
}

-- ---- the store's answer, by the calls

pub action_is : (m : Setup) (files : FilesView) (calls : List CallRow) (p : ℕ) → length files.store.rows < 2 ^ 64
    → StandsFor m files calls
    → action_at files.store.rows p (asked_by files.store p) ≡ next_action m calls p
unfolding next_action
action_is m files calls p few stands =
    ap (action_at files.store.rows p) (stands.asked p)
    ∙ same_action files.store.rows p (question_count m.roster p calls) few
    ∙ ap (λ rows. action_at rows p (question_count m.roster p calls)) stands.rows

answer_is : (m : Setup) (files : FilesView) (calls : List CallRow) (p : ℕ) (q : Question)
    → length files.store.rows < 2 ^ 64 → StandsFor m files calls
    → next_answer files.store (slot_of q) p ≡ store_answer m calls p q
answer_is m files calls p q few stands =
    let action = action_is m files calls p few stands in
    λ i. answer_by (λ slot. stands.last slot i) (slot_of q) (action i)

right_by : OneContent → AskForWritten → (m : Setup) (files : FilesView) (calls : List CallRow) (c : CallRow)
    (opened : Option (List ℕ)) (o : Option Question) → length files.store.rows < 2 ^ 64 → IsSealing m.sealed
    → StandsFor m files calls → question_of m.roster calls c ≡ o
    → WasOpened m.sealed m.guard c.level (Some (next_answer files.store)) o opened
    → IsRight m calls c opened (is_false_record (next_action m calls c.level) (got_of o opened))
right_by one asked m files calls c opened None few laws stands asks opens = no_question m calls c opened asks opens
right_by one asked m files calls c opened (Some q) few laws stands asks opens =
    let action = next_action m calls c.level in
    let alike = intact_alike action q in
    let opens' : OpensAsBlock m.sealed m.guard q (store_answer m calls c.level q) opened =
    subst (λ a. OpensAsBlock m.sealed m.guard q a opened) (answer_is m files calls c.level q few stands) opens in
    let goal : Bool → Type 0 = λ b. IsRight m calls c opened (is_some opened && not b) in
    elim (bool_cases (is_intact action q)) [
      | inl intact ↦
          subst goal (sym (alike ∙ intact))
          (intact_right one m calls c q opened laws asks (asked m.roster calls c q asks) intact opens')
      | inr damaged ↦
          subst goal (sym (alike ∙ damaged))
          (damaged_right m calls c q opened (store_answer m calls c.level q) asks damaged refl opens')
    ]

outcome_is : (sealed : Sealer) (keys : KeyPair) (m : Setup) (reader : ℕ)
    (next : Option (Slot → ℕ → Option (List ℕ))) (o : Option Question) (answer : Option (List ℕ) → Reply)
    (outcome : Outcome) → m.sealed ≡ sealed → keys ≡ m.guard
    → IsOutcome sealed keys reader next o answer outcome
    → IsOutcome m.sealed m.guard reader next o answer outcome
outcome_is sealed keys m reader next o answer outcome same_sealed same_keys is =
    subst (λ s. IsOutcome s m.guard reader next o answer outcome) (sym same_sealed)
    (subst (λ k. IsOutcome sealed k reader next o answer outcome) same_keys is)

-- a call is answered by a false record exactly where that is found; else by its reply
pub ends : OneContent → AskForWritten → (sealed : Sealer) (m : Setup) (files : FilesView) (calls : List CallRow)
    (c : CallRow) (outcome : Outcome) (found : Bool) → length files.store.rows < 2 ^ 64 → IsSealing sealed
    → m.sealed ≡ sealed → StandsFor m files calls
    → IsOutcome sealed files.manager.keys c.level (Some (next_answer files.store)) (question_of m.roster calls c)
    (λ opened. reply_with (sight m.roster c.level calls) opened (call_of c.message)) outcome
    → found ≡ is_false_record (action_at files.store.rows c.level (asked_by files.store c.level)) outcome.got
    → (found ≡ true → IsFalseRecord m calls c)
    × (found ≡ false → (outcome.reply ≡ reply m calls c) × (¬ IsFalseRecord m calls c))
unfolding reply
ends one asked sealed m files calls c outcome found few laws same_sealed stands is test =
    let o = question_of m.roster calls c in
    let is' = outcome_is sealed files.manager.keys m c.level (Some (next_answer files.store)) o
    (λ opened. reply_with (sight m.roster c.level calls) opened (call_of c.message)) outcome same_sealed stands.keys
    is in
    let laws' : IsSealing m.sealed = subst IsSealing (sym same_sealed) laws in
    let right = right_by one asked m files calls c is'.opened o few laws' stands refl is'.opens in
    let same : found ≡ is_false_record (next_action m calls c.level) (got_of o is'.opened) =
    test ∙ ap (λ a. is_false_record a outcome.got) (action_is m files calls c.level few stands)
    ∙ ap (is_false_record (next_action m calls c.level)) is'.got in (
      λ e. right.false_record (sym same ∙ e),
      λ e.
          (let t = right.true_reply (sym same ∙ e) in
          (is'.answer ∙ ap (λ o. reply_with (sight m.roster c.level calls) o (call_of c.message)) t.0, t.1)),
    )
