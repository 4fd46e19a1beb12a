-- What the answer to what a manager unit was given makes of an event.
use Rattle.std.proofs.Common.{◌≡◌, ◌≢◌, ℕ, ◌≤◌, List, [], ◌∷◌, true, Option, Some, None, sym, ap, subst, ◌∙◌, ◌⊎◌, inl, inr}
use Rattle.std.specs.Prelude.{slice_get, Result, Ok, Err}
use Rattle.levels.specs.declared.level.Partition.{Partition}
use Rattle.levels.specs.declared.level.Party.TheVariants.{Manager}
use Rattle.seal_core.specs.Sealing.{Sealer}
use Rattle.frame.specs.Pieces.{pieces}
use Rattle.events.specs.declared.event.Event.{Event}
use Rattle.events.specs.Scripts.{is_known}
use Rattle.planned_files.specs.FilesView.{FilesView}
use Rattle.planned_files.specs.Standing as planned
use Rattle.machine.specs.Setup.{Setup}
use Rattle.machine.specs.Low.{place_of}
use Rattle.machine.specs.Files.{CallRow}
use Rattle.machine.specs.Machine.{Message, call_row, given_to, state}
use Rattle.machine.specs.Wire.{wire}
use Rattle.machine.specs.Laws.{IsOneAtMost}
use Rattle.machine.specs.FalseBytes.{IsFalse, false_record}
use Rattle.desk.specs.Batches.{turn_alone}
use Rattle.desk.specs.Views.{DeskView}
use Rattle.desk.specs.Desks.{told_nothing}
use Rattle.engine.specs.declared.alone.Reply.{Reply}
use Rattle.engine.specs.declared.halt.Halt.{Halt}
use Rattle.engine.specs.declared.halt.Halt.TheVariants.{Opened, OutOfMemory}
use Rattle.engine.specs.Handed.{handed_frames}
use Rattle.engine.specs.Slots.{slot_of, HasSlot}
use Rattle.engine.specs.Turns.{batches}
use Rattle.engine.specs.States.{frames_by}
use Rattle.engine.specs.inside.Facts.{Laws, Fits}
use Rattle.engine.specs.inside.Events.{IsAlone}
use Rattle.engine.specs.inside.Standing.{desk_at, SlotMoves, SlotOpen}
use Rattle.engine.specs.inside.Arrivals.{came, lines_given}
use Rattle.engine.specs.inside.Ends.{EndsEvent}
use Rattle.engine.specs.inside.Alone.{HeardAlone, lines_in, first_given, Answers, IsShort, SlotPosts}
use Rattle.engine.proofs.OneGiven.{one_given, slot_lines}
use Rattle.engine.proofs.EndingAlone.{heard_at, calls_given, manager_ends, manager_ends_with}

-- what the lines of a manager unit say that it was given
first_line : (m : Setup) (past : List Event) (e : Event) (p : Partition)
    (desks : List (Option DeskView)) (given : List Message)
    → is_known m.roster (Manager p) ≡ true → place_of e ≡ Manager p → HeardAlone m past e desks
    → given_to m (state m past) e (Manager p) ≡ given
    → first_given (lines_in (desk_at desks (slot_of (Manager p)))) ≡ first_given (lines_given given)
first_line m past e p desks given known place heard same =
    let x = state m past in
    let u = Manager p in
    ap first_given
    (slot_lines m (came m e x) (lines_given (given_to m x e u)) (frames_by u (wire m past)) u
    (turn_alone (handed_frames m x e) (batches m past u)) (desk_at desks (slot_of u)) known
    (subst (λ v. SlotOpen (desk_at desks (slot_of v))) place heard.idle)
    (heard_at m past e u desks place heard))
    ∙ ap (λ g. first_given (lines_given g)) same

-- how what a manager unit was given is answered
abbrev pub AnswersAt : Sealer → Partition → List (Option DeskView) → FilesView → FilesView
    → Result (Option Reply) Halt → Type 0
AnswersAt sealed p desks before files answer = (m : Setup) (calls : List CallRow) → m.sealed ≡ sealed
    → planned.StandsFor m before calls
    → Answers m calls p.0 (first_given (lines_in (desk_at desks (slot_of (Manager p))))) files answer

-- it was given nothing or one call, and this is the answer
abbrev WasAnswered : Setup → List Event → Event → Partition → FilesView
    → Result (Option Reply) Halt → Type 0
WasAnswered m past e p files answer =
    (given_to m (state m past) e (Manager p) ≡ [] × Answers m (state m past).calls p.0 None files answer)
    ⊎ ((l : Message) × (given_to m (state m past) e (Manager p) ≡ l ∷ [])
    × Answers m (state m past).calls p.0 (Some l) files answer)

was_answered : Laws → (sealed : Sealer) (p : Partition) (desks : List (Option DeskView))
    (before files : FilesView) (answer : Result (Option Reply) Halt)
    → AnswersAt sealed p desks before files answer
    → (m : Setup) (past : List Event) (e : Event) → m.sealed ≡ sealed → Fits m past
    → is_known m.roster (Manager p) ≡ true → place_of e ≡ Manager p → HeardAlone m past e desks
    → planned.StandsFor m before (state m past).calls → WasAnswered m past e p files answer
was_answered laws sealed p desks before files answer answers m past e same fits known place heard stands =
    by (one_given laws m past e (Manager p) fits)
  where
    at : (given : List Message) → given_to m (state m past) e (Manager p) ≡ given
        → Answers m (state m past).calls p.0 (first_given (lines_given given)) files answer
    at given is =
        subst (λ g. Answers m (state m past).calls p.0 g files answer)
        (first_line m past e p desks given known place heard is)
        (answers m (state m past).calls same stands)

    by : IsOneAtMost (given_to m (state m past) e (Manager p)) → WasAnswered m past e p files answer
    by (inl none) = inl (none, at [] none)
    by (inr one) = inr (one.0, one.1, at (one.0 ∷ []) one.1)

-- it was given nothing, and forgets what it was told
pub unasked_ends : Laws → (sealed : Sealer) (p : Partition) (slot : ℕ)
    (old mid new : List (Option DeskView)) (before files : FilesView)
    → slot ≡ slot_of (Manager p) → HasSlot (Manager p) → mid ≡ old
    → AnswersAt sealed p old before files (Ok None)
    → SlotMoves sealed told_nothing (λ b. b) (desk_at mid slot) (desk_at new slot)
    → SlotOpen (desk_at new slot) → ((k : ℕ) → k ≢ slot → desk_at new k ≡ desk_at mid k)
    → (m : Setup) (past : List Event) (e : Event) → m.sealed ≡ sealed → Fits m past
    → is_known m.roster (Manager p) ≡ true → IsAlone m (state m past) e → place_of e ≡ Manager p
    → ¬ IsFalse m (state m past) e → HeardAlone m past e old
    → planned.StandsFor m before (state m past).calls → EndsEvent m past e new files (Ok None)
unasked_ends laws sealed p slot old mid new before files there has stayed answers moves idle others
    m past e same fits known is place true_frame heard stands =
    elim (was_answered laws sealed p old before files (Ok None) answers m past e same fits known place heard stands) [
      | inl none ↦ manager_ends laws m past e p old new files has is place true_frame none.0 heard
          (subst (λ k. SlotMoves m.sealed told_nothing (λ b. b) (desk_at old k) (desk_at new k)) there
          (subst (λ ds. SlotMoves m.sealed told_nothing (λ b. b) (desk_at ds slot) (desk_at new slot)) stayed
          (subst (λ s. SlotMoves s told_nothing (λ b. b) (desk_at mid slot) (desk_at new slot)) (sym same)
          moves)))
          (subst (λ k. SlotOpen (desk_at new k)) there idle)
          (λ k differ. others k (λ e. differ (e ∙ there)) ∙ ap (λ ds. desk_at ds k) stayed)
          none.1
      | inr one ↦ absurd one.2
    ]

-- it was given a call, replies, and forgets what it was told
pub asked_ends : Laws → (sealed : Sealer) (p : Partition) (slot : ℕ) (reply : Reply)
    (text : List ℕ) (count : ℕ) (old mid posted new : List (Option DeskView))
    (before answered files : FilesView)
    → slot ≡ slot_of (Manager p) → HasSlot (Manager p) → mid ≡ old → files ≡ answered
    → text ≡ reply.text.items → count ≡ pieces reply.text.items → IsShort (Some reply)
    → AnswersAt sealed p old before answered (Ok (Some reply))
    → SlotPosts sealed reply.to text (desk_at mid slot) (desk_at posted slot)
    → ((k : ℕ) → k ≢ slot → desk_at posted k ≡ desk_at mid k)
    → SlotMoves sealed told_nothing (λ b. b) (desk_at posted slot) (desk_at new slot)
    → SlotOpen (desk_at new slot) → ((k : ℕ) → k ≢ slot → desk_at new k ≡ desk_at posted k)
    → (m : Setup) (past : List Event) (e : Event) → m.sealed ≡ sealed → Fits m past
    → is_known m.roster (Manager p) ≡ true → IsAlone m (state m past) e → place_of e ≡ Manager p
    → ¬ IsFalse m (state m past) e → HeardAlone m past e old
    → planned.StandsFor m before (state m past).calls
    → EndsEvent m past e new files
    (Ok (Some (record { stream = record { from = Manager p; to = reply.to }; pieces = count })))
asked_ends laws sealed p slot reply text count old mid posted new before answered files there has
    stayed kept is_text is_count short answers posts others moves idle others' m past e same fits known is
    place true_frame heard stands =
    elim (was_answered laws sealed p old before answered (Ok (Some reply)) answers m past e same fits
    known place heard stands) [
      | inl none ↦ absurd none.1
      | inr one ↦
          (let l = one.0 in
          let call = one.2 in
          subst (λ n. EndsEvent m past e new files
          (Ok (Some (record { stream = record { from = Manager p; to = reply.to }; pieces = n }))))
          (sym is_count)
          (subst (λ r. EndsEvent m past e new files
          (Ok (Some (record { stream = record { from = Manager p; to = r }; pieces = pieces reply.text.items }))))
          (sym call.to)
          (manager_ends_with laws m past e p l reply.text.items old posted new files fits known has is
          place true_frame one.1 heard call.is
          (subst (λ n. n ≤ 5632) reply.text.ok.0 short)
          (subst (λ k. SlotPosts m.sealed l.from reply.text.items (desk_at old k) (desk_at posted k)) there
          (subst (λ ds. SlotPosts m.sealed l.from reply.text.items (desk_at ds slot) (desk_at posted slot)) stayed
          (subst (λ s. SlotPosts s l.from reply.text.items (desk_at mid slot) (desk_at posted slot)) (sym same)
          (subst (λ body. SlotPosts sealed l.from body (desk_at mid slot) (desk_at posted slot)) is_text
          (subst (λ r. SlotPosts sealed r text (desk_at mid slot) (desk_at posted slot)) call.to posts)))))
          (subst (λ k. SlotMoves m.sealed told_nothing (λ b. b) (desk_at posted k) (desk_at new k)) there
          (subst (λ s. SlotMoves s told_nothing (λ b. b) (desk_at posted slot) (desk_at new slot)) (sym same)
          moves))
          (subst (λ k. SlotOpen (desk_at new k)) there idle)
          (λ k differ. others' k (λ e. differ (e ∙ there)) ∙ others k (λ e. differ (e ∙ there))
          ∙ ap (λ ds. desk_at ds k) stayed)
          (subst (λ f. planned.StandsFor m f (call_row p.0 l ∷ (state m past).calls)) (sym kept) call.stands))))
    ]

-- a false record opened, or memory is gone
pub unanswered_ends : Laws → (sealed : Sealer) (p : Partition) (old new : List (Option DeskView))
    (before answered files : FilesView) (halt : Halt) → AnswersAt sealed p old before answered (Err halt)
    → (m : Setup) (past : List Event) (e : Event) → m.sealed ≡ sealed → Fits m past
    → is_known m.roster (Manager p) ≡ true → place_of e ≡ Manager p → HeardAlone m past e old
    → planned.StandsFor m before (state m past).calls → EndsEvent m past e new files (Err halt)
unanswered_ends laws sealed p old new before answered files OutOfMemory answers m past e same fits
    known place heard stands = tt
unanswered_ends laws sealed p old new before answered files Opened answers m past e same fits known
    place heard stands =
    elim (was_answered laws sealed p old before answered (Err Opened) answers m past e same fits
    known place heard stands) [
      | inl none ↦ absurd none.1
      | inr one ↦ false_record (record {
        place = 0;
        call = call_row p.0 one.0;
        gives = ap (λ cs. slice_get cs 0) (calls_given m (state m past) e p (one.0 ∷ []) place one.1);
        answer = one.2;
      })
    ]
