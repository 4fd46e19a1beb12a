-- How an event ends whose frames are a turn of their own.
use Rattle.std.proofs.Common.{◌≡◌, ◌≢◌, ℕ, zero, suc, ◌<◌, ◌≤◌, List, [], ◌∷◌, ◌++◌, length, true, Option, Some, None, refl, sym, ap, subst, ◌∙◌, arith}
use Rattle.std.specs.Prelude.{◌==◌, if◌then◌else◌, slice_get}
use Rattle.std.specs.List.{AllByRecursion}
use Rattle.std.proofs.lemmas.Option.{same_Some}
use Rattle.levels.specs.declared.level.Partition.{Partition}
use Rattle.levels.specs.declared.level.Party.{Party}
use Rattle.levels.specs.declared.level.Party.TheVariants.{Host, Manager}
use Rattle.levels.specs.Rosters.{is_same_party, is_partner}
use Rattle.frame.specs.Pieces.{pieces}
use Rattle.events.specs.declared.event.Event.{Event}
use Rattle.events.specs.Scripts.{is_known}
use Rattle.planned_files.specs.FilesView.{FilesView}
use Rattle.planned_files.specs.Answers.{IsReply}
use Rattle.planned_files.specs.Standing as planned
use Rattle.machine.specs.Setup.{Setup}
use Rattle.machine.specs.Low.{place_of}
use Rattle.machine.specs.Files.{CallRow}
use Rattle.machine.specs.Machine.{State, Message, call_row, calls_to, calls_by, given_to, sent_by, state}
use Rattle.machine.specs.Wire.{frames_of, frames_from}
use Rattle.machine.specs.FalseBytes.{IsFalse, IsFalseRecord, OpensFalse, false_frame, false_record}
use Rattle.desk.specs.Batches.{Batch, Batches, nothing, flush, flush_where, join_send, join_or_flush_send, turn_alone}
use Rattle.desk.specs.Views.{DeskView}
use Rattle.desk.specs.Deeds.{DeskState, says, outgoing, did}
use Rattle.desk.specs.Desks.{At, told_nothing}
use Rattle.engine.specs.declared.merging.SentRow.{SentRow}
use Rattle.engine.specs.Handed.{handed_frames}
use Rattle.engine.specs.Slots.{slot_of, HasSlot}
use Rattle.engine.specs.Turns.{partition_number, replies_turn, batches}
use Rattle.engine.specs.States.{NetIs, Stands}
use Rattle.engine.specs.inside.Facts.{Laws, Fits}
use Rattle.engine.specs.inside.Events.{IsAlone}
use Rattle.engine.specs.inside.Standing.{desk_at, SlotAt, SlotMoves, SlotOpen, Flushed}
use Rattle.engine.specs.inside.Ends.{SendsRow, Sends, Passed}
use Rattle.engine.specs.inside.Alone.{HeardAlone, SlotPosts}
use Rattle.engine.proofs.Cases.{own_party}
use Rattle.engine.proofs.Stepping.{sends_nothing, stands_at_host}
use Rattle.engine.proofs.Slotting.{slot_moves, slot_stays, idle_batch, unit_partition}
use Rattle.engine.proofs.Networking.{all_after_alone, idle_if_open}
use Rattle.engine.proofs.Replying.{joins, sent_with, manager_idles, manager_replies, replies_one, replies_frames}
use Rattle.engine.proofs.HearingAlone.{Heard}

-- ---- what all ends share

-- the batches of the unit where such an event happens
own_batches : (m : Setup) (past : List Event) (e : Event) (u : Party) (calls : List CallRow)
    → IsAlone m (state m past) e → place_of e ≡ u
    → calls_by m (state m past) e ≡ calls
    → batches m (e ∷ past) u
    ≡ replies_turn m (state m past) u calls
    (turn_alone (handed_frames m (state m past) e) (batches m past u))
own_batches m past e u calls is place same =
    let x = state m past in
    let b = batches m past u in
    let alone = turn_alone (handed_frames m x e) b in
    is.alone u b
    ∙ ap (λ t. if t then replies_turn m x u (calls_by m x e) alone else flush b)
    (ap (λ v. is_same_party v u) place ∙ own_party u)
    ∙ ap (λ cs. replies_turn m x u cs alone) same

-- the unit where an event happens is where the machine is, and no call is answered by a false record
pub passes : Laws → (m : Setup) (past : List Event) (e : Event) (u : Party) (calls : List CallRow)
    (mid new : List (Option DeskView)) (files : FilesView) (sent : Option SentRow)
    → HasSlot u → IsAlone m (state m past) e → place_of e ≡ u → ¬ IsFalse m (state m past) e
    → calls_by m (state m past) e ≡ calls → Flushed m past mid
    → SlotAt m u (replies_turn m (state m past) u calls
    (turn_alone (handed_frames m (state m past) e) (batches m past u)))
    (Stands m (e ∷ past) (state m (e ∷ past)) u) (desk_at new (slot_of u))
    → SlotOpen (desk_at new (slot_of u))
    → ((k : ℕ) → k ≢ slot_of u → desk_at new k ≡ desk_at mid k)
    → planned.StandsFor m files (calls ++ (state m past).calls)
    → ((i : ℕ) (call : CallRow) → slice_get calls i ≡ Some call
    → ¬ IsFalseRecord m (state m past).calls call)
    → Sends m (state m past) e sent → Passed m past e new files sent
passes laws m past e u calls mid new files sent has is place true_frame same ready at idle others
    stands true_records sends =
    let x = state m past in
    let here : SlotAt m u (batches m (e ∷ past) u) (Stands m (e ∷ past) (state m (e ∷ past)) u)
    (desk_at new (slot_of u)) =
    subst (λ b. SlotAt m u b (Stands m (e ∷ past) (state m (e ∷ past)) u) (desk_at new (slot_of u)))
    (sym (own_batches m past e u calls is place same)) at in
    record {
      stands = record {
        desks_stand = all_after_alone laws m past e mid new (subst HasSlot (sym place) has) is ready
            (subst (λ v. SlotAt m v (batches m (e ∷ past) v) (Stands m (e ∷ past) (state m (e ∷ past)) v)
            (desk_at new (slot_of v))) (sym place) here)
            (idle_if_open (place_of e) (desk_at new (slot_of (place_of e)))
            (subst (λ v. SlotOpen (desk_at new (slot_of v))) (sym place) idle))
            (subst (λ v. (k : ℕ) → k ≢ slot_of v → desk_at new k ≡ desk_at mid k) (sym place) others);
        files_stand = subst (λ cs. planned.StandsFor m files (cs ++ x.calls)) (sym same) stands;
      };
      clean = clean;
      sends = sends;
    }
  where
    clean : ¬ OpensFalse m (state m past) e
    clean (false_frame opened) = true_frame opened
    clean (false_record given) = true_records given.place given.call
        (ap (λ cs. slice_get cs given.place) (sym same) ∙ given.gives) given.answer

no_call : (m : Setup) (x : State) (i : ℕ) (call : CallRow) → slice_get [] i ≡ Some call
    → ¬ IsFalseRecord m x.calls call
no_call m x i call there = cc

-- what the unit where an event happens has heard
pub heard_at : (m : Setup) (past : List Event) (e : Event) (u : Party) (desks : List (Option DeskView))
    → place_of e ≡ u → HeardAlone m past e desks
    → SlotAt m u (turn_alone (handed_frames m (state m past) e) (batches m past u)) (Heard m past e u)
    (desk_at desks (slot_of u))
heard_at m past e u desks place heard =
    subst (λ v. SlotAt m v (turn_alone (handed_frames m (state m past) e) (batches m past v))
    (Heard m past e v) (desk_at desks (slot_of v))) place heard.at

-- the other desks are as they were before the frames came
others_since : (m : Setup) (past : List Event) (e : Event) (u : Party)
    (old new : List (Option DeskView)) → place_of e ≡ u → (heard : HeardAlone m past e old)
    → ((k : ℕ) → k ≢ slot_of u → desk_at new k ≡ desk_at old k)
    → (k : ℕ) → k ≢ slot_of u → desk_at new k ≡ desk_at heard.before k
others_since m past e u old new place heard others k differ =
    others k differ
    ∙ heard.others k (λ same. differ (same ∙ ap slot_of place))

-- ---- a host

pub host_ends : Laws → (m : Setup) (past : List Event) (e : Event) (a : ℕ)
    (desks : List (Option DeskView)) (files : FilesView) → Fits m past
    → is_known m.roster (Host a) ≡ true → IsAlone m (state m past) e → place_of e ≡ Host a
    → ¬ IsFalse m (state m past) e
    → HeardAlone m past e desks → planned.StandsFor m files (state m past).calls
    → Passed m past e desks files None
host_ends laws m past e a desks files fits known is place true_frame heard stands =
    let x = state m past in
    let range = laws.host m.roster a fits.roster known in
    let has : a < 256 = omega (arith, range) in
    let u = Host a in
    let alone = turn_alone (handed_frames m x e) (batches m past u) in
    let none : (s r : Party) → sent_by m x e s r ≡ [] =
    λ s r. sends_nothing m x e a s r is.sending place in
    passes laws m past e u [] heard.before desks files None has is place true_frame
    (ap (λ v. calls_to v (given_to m x e v)) place) heard.ready
    (slot_stays m u alone alone (Heard m past e u) (Stands m (e ∷ past) (state m (e ∷ past)) u)
    (desk_at desks a) refl (λ st p. stands_at_host laws m past e a st is.sending place p)
    (heard_at m past e u desks place heard))
    (subst (λ v. SlotOpen (desk_at desks (slot_of v))) place heard.idle)
    (others_since m past e u desks desks place heard (λ k differ. refl))
    stands (no_call m x)
    (record { frames = laws.no_frames m x e (place_of e) (λ r. none (place_of e) r); none = none })

-- ---- the unit of a manager that was given nothing

pub calls_given : (m : Setup) (x : State) (e : Event) (p : Partition) (given : List Message)
    → place_of e ≡ Manager p → given_to m x e (Manager p) ≡ given
    → calls_by m x e ≡ calls_to (Manager p) given
calls_given m x e p given place same =
    ap (λ v. calls_to v (given_to m x e v)) place ∙ ap (calls_to (Manager p)) same

pub manager_ends : Laws → (m : Setup) (past : List Event) (e : Event) (p : Partition)
    (old new : List (Option DeskView)) (files : FilesView) → HasSlot (Manager p)
    → IsAlone m (state m past) e → place_of e ≡ Manager p → ¬ IsFalse m (state m past) e
    → given_to m (state m past) e (Manager p) ≡ [] → HeardAlone m past e old
    → SlotMoves m.sealed told_nothing (λ b. b) (desk_at old (slot_of (Manager p)))
    (desk_at new (slot_of (Manager p)))
    → SlotOpen (desk_at new (slot_of (Manager p)))
    → ((k : ℕ) → k ≢ slot_of (Manager p) → desk_at new k ≡ desk_at old k)
    → planned.StandsFor m files (state m past).calls → Passed m past e new files None
manager_ends laws m past e p old new files has is place true_frame given heard moves idle others stands =
    let x = state m past in
    let u = Manager p in
    let none : (s r : Party) → sent_by m x e s r ≡ [] =
    λ s r. sent_with m x e p s r [] is.sending place given in
    passes laws m past e u [] heard.before new files None has is place true_frame
    (calls_given m x e p [] place given) heard.ready
    (slot_moves m u (turn_alone (handed_frames m x e) (batches m past u)) (Heard m past e u)
    (Stands m (e ∷ past) (state m (e ∷ past)) u) told_nothing (λ b. b) (desk_at old (slot_of u))
    (desk_at new (slot_of u)) moves
    (λ st q. manager_idles laws m past e p st is.sending place given q)
    (heard_at m past e u old place heard))
    idle (others_since m past e u old new place heard others) stands (no_call m x)
    (record { frames = laws.no_frames m x e (place_of e) (λ r. none (place_of e) r); none = none })

-- ---- the unit of a manager that replies

-- a message that is sent from an idle slot is the only send of its turn
slot_posts : (m : Setup) (u to : Party) (message : List ℕ) (b : Batches) (P Q : DeskState → Type 0)
    (old new : Option DeskView) → SlotPosts m.sealed to message old new → SlotOpen old
    → ((st : DeskState) → P st → st.partition ≡ partition_number m u)
    → ((st : DeskState) → P st → Q (did st (says to message)))
    → SlotAt m u b P old
    → SlotAt m u (flush (join_send (outgoing (partition_number m u) to message) b)) Q new
slot_posts m u to message b P Q None None posts idle where_it keeps at = at
slot_posts m u to message b P Q None (Some new) posts idle where_it keeps at = absurd posts
slot_posts m u to message b P Q (Some old) None posts idle where_it keeps at = absurd posts
slot_posts m u to message b P Q (Some old) (Some new) posts idle where_it keeps at =
    let number : old.unit.host.partition ≡ partition_number m u =
    unit_partition m.sealed old at.st b at.at ∙ where_it at.st at.is in
    let send = outgoing (partition_number m u) to message in
    let none : b.batch ≡ nothing = idle_batch m.sealed old at.st b idle at.at in
    let joined : join_or_flush_send send b ≡ join_send send b =
    ap (λ t. join_send send (flush_where t b)) (ap (λ (c : Batch). length c.sends == 4) none) in
    record {
      known = at.known;
      net = subst (NetIs m u) (sym posts.net) at.net;
      st = did at.st (says to message);
      at = subst (λ c. At m.sealed new (did at.st (says to message)) (flush c)) joined
          (subst (λ n. At m.sealed new (did at.st (says to message))
          (flush (join_or_flush_send (outgoing n to message) b))) number (posts.at at.st b at.at));
      is = keeps at.st at.is;
    }

-- its reply, as a message that the event makes it send
reply_row : (m : Setup) (x : State) (e : Event) (p : Partition) (to : Party) (body : List ℕ)
    → place_of e ≡ Manager p → is_known m.roster (Manager p) ≡ true
    → frames_from m x e (Manager p) ≡ frames_of m (Manager p) to (length (x.sent (Manager p) to)) body
    → ((s r : Party) → sent_by m x e s r ≡ joins (Manager p) to body s r)
    → SendsRow m x e
    (record { stream = record { from = Manager p; to = to }; pieces = pieces body })
reply_row m x e p to body place known frames one = record {
  to = to;
  body = body;
  row_is = ap (λ v. record { stream = record { from = v; to = to }; pieces = pieces body }) (sym place);
  known = subst (λ v. is_known m.roster v ≡ true) (sym place) known;
  frames = subst (λ v. frames_from m x e v ≡ frames_of m v to (length (x.sent v to)) body) (sym place)
      frames;
  one = λ s r. one s r ∙ ap (λ v. joins v to body s r) (sym place);
}

only_call : (c call : CallRow) (i : ℕ) → slice_get (c ∷ []) i ≡ Some call → c ≡ call
only_call c call zero there = same_Some c call there
only_call c call (suc i) there = cc

pub manager_ends_with : Laws → (m : Setup) (past : List Event) (e : Event) (p : Partition)
    (l : Message) (text : List ℕ) (old mid new : List (Option DeskView)) (files : FilesView)
    → Fits m past → is_known m.roster (Manager p) ≡ true → HasSlot (Manager p)
    → IsAlone m (state m past) e → place_of e ≡ Manager p → ¬ IsFalse m (state m past) e
    → given_to m (state m past) e (Manager p) ≡ l ∷ [] → HeardAlone m past e old
    → IsReply m (state m past).calls (call_row p.0 l) text → length text ≤ 5632
    → SlotPosts m.sealed l.from text (desk_at old (slot_of (Manager p)))
    (desk_at mid (slot_of (Manager p)))
    → SlotMoves m.sealed told_nothing (λ b. b) (desk_at mid (slot_of (Manager p)))
    (desk_at new (slot_of (Manager p)))
    → SlotOpen (desk_at new (slot_of (Manager p)))
    → ((k : ℕ) → k ≢ slot_of (Manager p) → desk_at new k ≡ desk_at old k)
    → planned.StandsFor m files (call_row p.0 l ∷ (state m past).calls)
    → Passed m past e new files
    (Some (record { stream = record { from = Manager p; to = l.from }; pieces = pieces text }))
manager_ends_with laws m past e p l text old mid new files fits known has is place true_frame given
    heard is_reply short posts moves idle others stands =
    let x = state m past in
    let u = Manager p in
    let c = call_row p.0 l in
    let alone = turn_alone (handed_frames m x e) (batches m past u) in
    let standing = Stands m (e ∷ past) (state m (e ∷ past)) u in
    let partner : is_partner m.roster u l.from ≡ true =
    laws.back m.roster u l.from ∙ given_partner (given_to m x e u) given (laws.givers m past e u) in
    passes laws m past e u (c ∷ []) heard.before new files
    (Some (record { stream = record { from = u; to = l.from }; pieces = pieces text })) has is place
    true_frame (calls_given m x e p (l ∷ []) place given) heard.ready
    (slot_moves m u (replies_turn m x u (c ∷ []) alone) (λ st. standing (told_nothing st)) standing
    told_nothing (λ b. b) (desk_at mid (slot_of u)) (desk_at new (slot_of u)) moves (λ st q. q)
    (subst (λ body. SlotAt m u (flush (join_send (outgoing (partition_number m u) l.from body) alone))
    (λ st. standing (told_nothing st)) (desk_at mid (slot_of u))) is_reply.text_is
    (slot_posts m u l.from text alone (Heard m past e u) (λ st. standing (told_nothing st))
    (desk_at old (slot_of u)) (desk_at mid (slot_of u)) posts
    (subst (λ v. SlotOpen (desk_at old (slot_of v))) place heard.idle) (λ st q. q.partition)
    (λ st q. manager_replies laws m past e p l text st fits is.sending place partner given
    is_reply.text_is short q)
    (heard_at m past e u old place heard))))
    idle (others_since m past e u old new place heard others) stands
    (λ i call there opens. is_reply.never_false
    (subst (IsFalseRecord m x.calls) (sym (only_call c call i there)) opens))
    (reply_row m x e p l.from text place known
    (replies_frames laws m past e p l text fits is.sending place partner given is_reply.text_is)
    (replies_one laws m past e p l text is.sending place partner given is_reply.text_is))
  where
    given_partner : (given : List Message) → given ≡ l ∷ []
        → AllByRecursion (λ g. is_partner m.roster g.from (Manager p) ≡ true) given
        → is_partner m.roster l.from (Manager p) ≡ true
    given_partner given same all =
        (subst (AllByRecursion (λ g. is_partner m.roster g.from (Manager p) ≡ true)) same all).0
