-- One event more: what it leaves at each party.
use Rattle.std.proofs.Common.{◌≡◌, ℕ, List, [], ◌∷◌, ◌++◌, length, map, Bool, false, Option, Some, None, refl, sym, ap, ap₂, subst, ◌∙◌, inl, inr, append-nil}
use Rattle.std.specs.Prelude.{filter, slice_get, if◌then◌else◌}
use Rattle.std.specs.List.{flat_map, range_with_len}
use Rattle.levels.specs.declared.level.Party.{Party}
use Rattle.levels.specs.declared.level.Party.TheVariants.{Host}
use Rattle.levels.specs.Rosters.{is_same_party, is_partner}
use Rattle.frame.specs.Pieces.{pieces}
use Rattle.events.specs.declared.event.Event.{Event}
use Rattle.machine.specs.declared.line.OutLine.{OutLine}
use Rattle.machine.specs.declared.line.FrameRow.{FrameRow}
use Rattle.machine.specs.Setup.{Setup}
use Rattle.machine.specs.Low.{place_of}
use Rattle.machine.specs.Sends.{Sending, sending_of, sent_on, answers}
use Rattle.file_calls.specs.Spelling.{reply_text}
use Rattle.machine.specs.Files.{CallRow}
use Rattle.machine.specs.Plan.{reply}
use Rattle.machine.specs.Machine.{State, parties, piece_frame, given_to, calls_to, is_answered_on, sent_by, after, state}
use Rattle.machine.specs.Wire.{frame_row, frames_of, frames_from, wire}
use Rattle.desk.specs.Deeds.{DeskState}
use Rattle.engine.specs.Genuine.{AreGenuine}
use Rattle.engine.specs.Handed.{frames_if}
use Rattle.engine.specs.States.{peer, StateIs, kept_lines, frames_by, Stands}
use Rattle.engine.proofs.Cases.{bool_cases, own_party}
use Rattle.engine.proofs.Giving.{more_sent}
use Rattle.engine.specs.inside.Facts.{Laws}
use Rattle.engine.specs.inside.Arrivals.{came, lines_given}

-- ---- states that agree on what is u's

-- a list has grown at its end
abbrev pub Grows : List (List ℕ) → List (List ℕ) → Type 0
Grows before now = (more : List (List ℕ)) × (now ≡ before ++ more)

pub state_on : (m : Setup) (x y : State) (lines : List OutLine) (sent : List (List ℕ)) (u : Party)
    (st : DeskState) → ((r : Party) → y.sent u r ≡ x.sent u r)
    → ((s : Party) → Grows (x.sent s u) (y.sent s u))
    → ((s : Party) → y.arrived s u ≡ x.arrived s u) → ((s : Party) → y.given s u ≡ x.given s u)
    → StateIs m x lines sent u st → StateIs m y lines sent u st
state_on m x y lines sent u st own to arrived given is = record {
  address = is.address;
  partition = is.partition;
  frame = is.frame;
  next = λ a lt. is.next a lt
      ∙ ap (λ (messages : List (List ℕ)). if is_partner m.roster u (peer m u a)
      then Some (length messages) else None) (sym (own (peer m u a)));
  told = is.told;
  wires = record {
    frames = is.wires.frames;
    rows = is.wires.rows;
    count = λ a lt partners. is.wires.count a lt partners ∙ ap length (sym (own (peer m u a)));
    messages = λ a j lt partners. is.wires.messages a j lt partners
        ∙ ap (λ messages. frames_if m u (peer m u a) j (slice_get messages j))
        (sym (own (peer m u a)));
    others = is.wires.others;
  };
  ours = is.ours ∙ ap (λ (f : Party → List (ℕ × ℕ)). length (flat_map f (parties m.roster)))
      (λ i s. sym (arrived s) i);
  given = is.given ∙ ap (λ (f : Party → List ℕ). length (flat_map f (parties m.roster)))
      (λ i s. sym (given s) i);
  genuine = λ a lt partners.
      (let s = peer m u a in
      let grown = to s in
      subst (AreGenuine (y.sent s u) (st.heard a) (y.arrived s u)) (sym (given s))
      (subst (λ pairs. AreGenuine (y.sent s u) (st.heard a) pairs (x.given s u)) (sym (arrived s))
      (subst (λ messages. AreGenuine messages (st.heard a) (x.arrived s u) (x.given s u))
      (sym grown.1)
      (more_sent (x.sent s u) grown.0 (st.heard a) (x.arrived s u) (x.given s u)
      (is.genuine a lt partners)))));
}

pub told_as : (m : Setup) (x : State) (lines lines' : List OutLine) (sent sent' : List (List ℕ))
    (u : Party) (st : DeskState) → lines ≡ lines' → sent ≡ sent' → StateIs m x lines sent u st
    → StateIs m x lines' sent' u st
told_as m x lines lines' sent sent' u st same_lines same_sent is =
    subst (λ ls. StateIs m x ls sent' u st) same_lines
    (subst (λ fs. StateIs m x lines fs u st) same_sent is)

-- ---- the frames that a party has sent

filter-append : {A : Type 0} (P : A → Bool) (xs ys : List A)
    → filter P (xs ++ ys) ≡ filter P xs ++ filter P ys
filter-append P [] ys = refl
filter-append P (x ∷ xs) ys = elim (bool_cases (P x)) [
  | inl on ↦ rw on (ap (λ rest. x ∷ rest) (filter-append P xs ys))
  | inr off ↦ rw off (filter-append P xs ys)
]

map-append : {A B : Type 0} (f : A → B) (xs ys : List A) → map f (xs ++ ys) ≡ map f xs ++ map f ys
map-append f [] ys = refl
map-append f (x ∷ xs) ys = ap (λ rest. f x ∷ rest) (map-append f xs ys)

pub frames_joined : (u : Party) (xs ys : List FrameRow)
    → frames_by u (xs ++ ys) ≡ frames_by u xs ++ frames_by u ys
frames_joined u xs ys =
    ap (map (λ (row : FrameRow). row.bytes))
    (filter-append (λ (row : FrameRow). is_same_party row.stream.from u) xs ys)
    ∙ map-append (λ (row : FrameRow). row.bytes)
    (filter (λ (row : FrameRow). is_same_party row.stream.from u) xs)
    (filter (λ (row : FrameRow). is_same_party row.stream.from u) ys)

-- a message's frames are its sender's
pub frames_own : (m : Setup) (u r : Party) (j : ℕ) (body : List ℕ)
    → frames_by u (frames_of m u r j body) ≡ frames_if m u r j (Some body)
frames_own m u r j body = own (range_with_len 0 (pieces body))
  where
    own : (places : List ℕ) → frames_by u (map (frame_row m u r j body) places)
        ≡ map (piece_frame m u r j body) places
    own [] = refl
    own (i ∷ places) =
        let same = own_party u in
        rw same (ap (λ rest. piece_frame m u r j body i ∷ rest) (own places))

frames_other : (m : Setup) (s u r : Party) (j : ℕ) (body : List ℕ) → is_same_party s u ≡ false
    → frames_by u (frames_of m s r j body) ≡ []
frames_other m s u r j body differ = other (range_with_len 0 (pieces body))
  where
    other : (places : List ℕ) → frames_by u (map (frame_row m s r j body) places) ≡ []
    other [] = refl
    other (i ∷ places) = rw differ (other places)

messages_other : (m : Setup) (s u r : Party) (j : ℕ) (bodies : List (List ℕ))
    → is_same_party s u ≡ false → frames_by u (flat_map (frames_of m s r j) bodies) ≡ []
messages_other m s u r j [] differ = refl
messages_other m s u r j (body ∷ bodies) differ =
    frames_joined u (frames_of m s r j body) (flat_map (frames_of m s r j) bodies)
    ∙ ap₂ (λ (a b : List (List ℕ)). a ++ b) (frames_other m s u r j body differ)
    (messages_other m s u r j bodies differ)

parties_other : (m : Setup) (x : State) (e : Event) (s u : Party) (rs : List Party)
    → is_same_party s u ≡ false
    → frames_by u (flat_map (λ r. flat_map (frames_of m s r (length (x.sent s r)))
    (sent_by m x e s r)) rs) ≡ []
parties_other m x e s u [] differ = refl
parties_other m x e s u (r ∷ rs) differ =
    frames_joined u (flat_map (frames_of m s r (length (x.sent s r))) (sent_by m x e s r))
    (flat_map (λ t. flat_map (frames_of m s t (length (x.sent s t))) (sent_by m x e s t)) rs)
    ∙ ap₂ (λ (a b : List (List ℕ)). a ++ b)
    (messages_other m s u r (length (x.sent s r)) (sent_by m x e s r) differ)
    (parties_other m x e s u rs differ)

-- what an event makes another send is none of u's
pub sent_elsewhere : (m : Setup) (past : List Event) (e : Event) (u : Party)
    → is_same_party (place_of e) u ≡ false
    → frames_by u (wire m past) ≡ frames_by u (wire m (e ∷ past))
sent_elsewhere m past e u differ =
    sym (frames_joined u (wire m past) (frames_from m (state m past) e (place_of e))
    ∙ ap (λ more. frames_by u (wire m past) ++ more)
    (parties_other m (state m past) e (place_of e) u (parties m.roster) differ)
    ∙ append-nil (frames_by u (wire m past)))

-- what an event makes u send
pub sent_here : (m : Setup) (past : List Event) (e : Event) (u : Party) → place_of e ≡ u
    → frames_by u (wire m past) ++ frames_by u (frames_from m (state m past) e u)
    ≡ frames_by u (wire m (e ∷ past))
sent_here m past e u same =
    ap (λ v. frames_by u (wire m past) ++ frames_by u (frames_from m (state m past) e v)) (sym same)
    ∙ sym (frames_joined u (wire m past) (frames_from m (state m past) e (place_of e)))

-- ---- an event elsewhere

pub stands_elsewhere : Laws → (m : Setup) (past : List Event) (e : Event) (u : Party)
    (st : DeskState) → is_same_party (place_of e) u ≡ false → Stands m past (state m past) u st
    → Stands m (e ∷ past) (state m (e ∷ past)) u st
stands_elsewhere laws m past e u st differ is =
    let x = state m past in
    let stays = laws.elsewhere m e x u differ in
    told_as m (after m e x) (kept_lines u (x.told u)) (kept_lines u ((after m e x).told u))
    (frames_by u (wire m past)) (frames_by u (wire m (e ∷ past))) u st
    (ap (kept_lines u) (sym stays.told)) (sent_elsewhere m past e u differ)
    (state_on m x (after m e x) (kept_lines u (x.told u)) (frames_by u (wire m past)) u st stays.sent
    (λ s. (sent_by m x e s u, refl)) stays.arrived stays.given is)

-- ---- an event of the network at a host

-- no message is given to a manager unit at a host
pub sends_nothing : (m : Setup) (x : State) (e : Event) (a : ℕ) (s r : Party)
    → sending_of m.roster e ≡ None → place_of e ≡ Host a → sent_by m x e s r ≡ []
sends_nothing m x e a s r none place =
    ap₂ (λ (o : Option Sending) (cs : List CallRow). sent_on m.roster o s r
    ++ map (λ c. reply_text (reply m x.calls c)) (filter (is_answered_on m.roster s r) cs)) none
    (ap (λ p. calls_to p (given_to m x e p)) place)

pub stands_at_host : Laws → (m : Setup) (past : List Event) (e : Event) (a : ℕ) (st : DeskState)
    → sending_of m.roster e ≡ None → place_of e ≡ Host a
    → StateIs m (came m e (state m past)) (((state m past).told (Host a))
    ++ lines_given (given_to m (state m past) e (Host a))) (frames_by (Host a) (wire m past)) (Host a)
    st
    → Stands m (e ∷ past) (state m (e ∷ past)) (Host a) st
stands_at_host laws m past e a st none place is =
    let x = state m past in
    let u = Host a in
    let nothing : frames_from m x e u ≡ [] =
    laws.no_frames m x e u (λ r. sends_nothing m x e a u r none place) in
    told_as m (after m e x) (x.told u ++ lines_given (given_to m x e u)) ((after m e x).told u)
    (frames_by u (wire m past)) (frames_by u (wire m (e ∷ past))) u st
    (ap (λ o. x.told u ++ (answers m.roster x.sent o u ++ lines_given (given_to m x e u))) (sym none))
    (sym (append-nil (frames_by u (wire m past)))
    ∙ ap (λ rows. frames_by u (wire m past) ++ frames_by u rows) (sym nothing)
    ∙ sent_here m past e u place)
    (state_on m (came m e x) (after m e x) (x.told u ++ lines_given (given_to m x e u))
    (frames_by u (wire m past)) u st
    (λ r. ap (λ more. x.sent u r ++ more) (sends_nothing m x e a u r none place)
    ∙ append-nil (x.sent u r))
    (λ s. (sent_by m x e s u, refl)) (λ s. refl) (λ s. refl) is)
