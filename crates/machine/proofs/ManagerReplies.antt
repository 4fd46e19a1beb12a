-- What a manager unit has sent are its replies.
use Rattle.std.proofs.Common.{◌≡◌, ℕ, List, [], ◌∷◌, ◌++◌, map, Option, Some, None, refl, ap, ap₂, ◌∙◌, ◌⊎◌, inl, inr, append-nil}
use Rattle.std.specs.Prelude.{filter}
use Rattle.std.specs.Option.{option_map}
use Rattle.levels.specs.declared.level.Partition.{Partition}
use Rattle.levels.specs.declared.level.Party.{Party}
use Rattle.levels.specs.declared.level.Party.TheVariants.{Host, Manager}
use Rattle.levels.specs.Rosters.{RosterView, partition_of}
use Rattle.file_calls.specs.declared.call.Call.{Call}
use Rattle.file_calls.specs.Spelling.{call_text, reply_text}
use Rattle.events.specs.declared.event.Event.{Event}
use Rattle.events.specs.declared.event.Event.TheVariants.{Send, Ask, Arrive, Carry, Forge, Tamper}
use Rattle.machine.specs.Setup.{Setup}
use Rattle.machine.specs.Low.{place_of}
use Rattle.machine.specs.Sends.{Sending, sending_of, sent_on}
use Rattle.machine.specs.Files.{CallRow}
use Rattle.machine.specs.Plan.{reply}
use Rattle.machine.specs.Machine.{State, calls_by, is_answered_on, replies, sent_by, after, state, parties}
use Rattle.machine.specs.FalseBytes.{IsSentFrame}
use Rattle.machine.specs.Laws.{FramesApart, replies_to}
use Rattle.machine.proofs.Basics.{bool_cases, found_still}
use Rattle.machine.proofs.PartiesApart.{Apart}
use Rattle.machine.proofs.OneMessage.{one_frame, one_call_or_none}

-- a frame stays the frame of its piece
pub frame_still : (m : Setup) (x : State) (e : Event) (s u : Party) (j i : ℕ) (bytes : List ℕ)
    → IsSentFrame m x s u j i bytes → IsSentFrame m (after m e x) s u j i bytes
frame_still m x e s u j i bytes is =
    record {
      body = is.body;
      sent = found_still (x.sent s u) (sent_by m x e s u) j is.body is.sent;
      piece = is.piece;
      same = is.same;
    }

apart_before : (m : Setup) (x : State) (e : Event) → FramesApart m (after m e x) → FramesApart m x
apart_before m x e apart =
    λ s s' u j j' i i' bytes a b. apart s s' u j j' i i' bytes (frame_still m x e s u j i bytes a)
    (frame_still m x e s' u j' i' bytes b)

no_ask : (roster : RosterView) (from : ℕ) (call : Call) (p : Partition) (r : Party) (o : Option Partition)
    (x : Sending) → option_map (λ q. record { from = Host from; to = Manager q; message = call_text call }) o
    ≡ Some x
    → sent_on roster (Some x) (Manager p) r ≡ []
no_ask roster from call p r None x is = cc
no_ask roster from call p r (Some q) x is =
    let same : x ≡ record { from = Host from; to = Manager q; message = call_text call } =
    cc in ap (λ (y : Sending). sent_on roster (Some y) (Manager p) r) same

-- a send is no manager unit's
no_send : (roster : RosterView) (e : Event) (p : Partition) (r : Party) (o : Option Sending)
    → sending_of roster e ≡ o → sent_on roster o (Manager p) r ≡ []
no_send roster e p r None is = refl
no_send roster (Send from to message) p r (Some x) is =
    let same : x ≡ record { from = Host from; to = to; message = message } =
    cc in ap (λ (y : Sending). sent_on roster (Some y) (Manager p) r) same
no_send roster (Ask from call) p r (Some x) is =
    no_ask roster from call p r (partition_of roster (Host from)) x is
no_send roster (Arrive stream message piece at) p r (Some x) is = cc
no_send roster (Carry stream message at) p r (Some x) is = cc
no_send roster (Forge at bytes) p r (Some x) is = cc
no_send roster (Tamper stream message piece at edits) p r (Some x) is = cc

-- the replies to one call more, or to none
replies_more : (m : Setup) (s r : Party) (new calls : List CallRow)
    → (new ≡ []) ⊎ ((c : CallRow) × (new ≡ c ∷ []))
    → replies_to m s r calls
    ++ map (λ c. reply_text (reply m calls c)) (filter (is_answered_on m.roster s r) new)
    ≡ replies_to m s r (new ++ calls)
replies_more m s r new calls (inl none) = rw (none, append-nil)
replies_more m s r new calls (inr one) =
    rw one.1 (elim (bool_cases (is_answered_on m.roster s r one.0)) [ inl on ↦ rw on | inr off ↦ rw off ])

pub sent_are_replies : (m : Setup) (past : List Event) (p : Partition) (r : Party)
    → FramesApart m (state m past) → Apart (parties m.roster)
    → (state m past).sent (Manager p) r ≡ replies_to m (Manager p) r (state m past).calls
sent_are_replies m [] p r frames apart = refl
sent_are_replies m (e ∷ past) p r frames apart =
    let before : FramesApart m (state m past) = apart_before m (state m past) e frames in
    ap₂ (λ (a b : List (List ℕ)). a
    ++ (b ++ replies m (state m past) e (Manager p) r)) (sent_are_replies m past p r before apart)
    (no_send m.roster e p r (sending_of m.roster e) refl)
    ∙ replies_more m (Manager p) r (calls_by m (state m past) e) (state m past).calls
    (one_call_or_none m (state m past) e (place_of e) (one_frame m (state m past) e before) apart)
