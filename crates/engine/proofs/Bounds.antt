-- What a unit counts in a script is far from the greatest value of its numbers.
use Rattle.std.proofs.Common.{◌≡◌, ℕ, zero, suc, ◌+◌, ◌-◌, ◌*◌, ◌^◌, ◌≤◌, List, [], ◌∷◌, ◌++◌, ◌&&◌, length, map, min, Bool, true, false, Option, Some, None, refl, sym, ap, ◌∙◌, arith, length-append}
use Rattle.std.specs.Prelude.{filter, reverse, slice_get, if◌then◌else◌, ◌==◌}
use Rattle.std.specs.List.{flat_map, range_with_len}
use Rattle.std.proofs.lemmas.List as lists
use Rattle.std.proofs.lemmas.List.{length-reverse}
use Rattle.std.proofs.lemmas.List.FromFn.{length-range_with_len}
use Rattle.levels.specs.declared.level.Party.{Party}
use Rattle.levels.specs.declared.level.Party.TheVariants.{Host, Manager}
use Rattle.levels.specs.Kept.{IsRoster}
use Rattle.levels.specs.Rosters.{RosterView, is_same_party}
use Rattle.frame.specs.Pieces.{piece_count, pieces}
use Rattle.file_calls.specs.Spelling.{reply_text}
use Rattle.events.specs.declared.event.Event.{Event}
use Rattle.events.specs.declared.event.Event.TheVariants.{Send, Ask, Arrive, Carry, Forge, Tamper}
use Rattle.events.specs.ScriptView.{ScriptView}
use Rattle.events.specs.Scripts.{IsScript}
use Rattle.unit_core.specs.Views.{TallyView}
use Rattle.unit_core.specs.Tallies.{capped}
use Rattle.machine.specs.declared.line.FrameRow.{FrameRow}
use Rattle.machine.specs.Setup.{Setup, setup_of}
use Rattle.machine.specs.Low.{place_of}
use Rattle.machine.specs.Sends.{Sending, sending_of}
use Rattle.machine.specs.Files.{CallRow}
use Rattle.machine.specs.Plan.{reply}
use Rattle.machine.specs.Machine.{State, parties, hands, handed_of, handed, gives, numbers_given, given_from, given_to, call_row, calls_to, calls_by, sent_by, after, state, arrivals_at, given_at, end_of}
use Rattle.machine.specs.Wire.{frame_row, frames_of, frames_from, wire, frames}
use Rattle.desk.specs.Batches.{Batches, nothing, is_empty, has_send, flush, flush_where, join_send, join_or_flush_send, is_full_for, join_or_flush, turn_alone}
use Rattle.desk.specs.Deeds.{DeskState, outgoing}
use Rattle.engine.specs.Handed.{handed_frames}
use Rattle.engine.specs.States.{frames_by, Stands}
use Rattle.engine.specs.Turns.{partition_number, sends_join, frames_join, replies_turn, frames_alone, is_manager, batches_by, batches, turns, tally}
use Rattle.engine.specs.inside.Facts.{Fits}

-- ---- lists

length-map : {A B : Type 0} (f : A → B) (xs : List A) → length (map f xs) ≡ length xs
length-map f xs = lists.length-map xs f

-- of each element at most k
flat_few : {A B : Type 0} (f : A → List B) (k : ℕ) (xs : List A) → ((x : A) → length (f x) ≤ k)
    → length (flat_map f xs) ≤ length xs * k
flat_few f k [] few = omega arith
flat_few f k (x ∷ xs) few =
    omega (arith, few x, flat_few f k xs few, length-append (f x) (flat_map f xs))

flat_both : {A B : Type 0} (f g : A → List B) (xs : List A)
    → length (flat_map (λ x. f x ++ g x) xs) ≡ length (flat_map f xs) + length (flat_map g xs)
flat_both f g [] = omega arith
flat_both f g (x ∷ xs) =
    omega (
      arith,
      flat_both f g xs,
      length-append (f x ++ g x) (flat_map (λ y. f y ++ g y) xs),
      length-append (f x) (g x),
      length-append (f x) (flat_map f xs),
      length-append (g x) (flat_map g xs),
    )

filter_few : {A : Type 0} (P : A → Bool) (xs : List A) → length (filter P xs) ≤ length xs
filter_few P [] = omega arith
filter_few P (x ∷ xs) = of (P x) (filter_few P xs)
  where
    of : (b : Bool) → length (filter P xs) ≤ length xs
        → length (if b then x ∷ filter P xs else filter P xs) ≤ suc (length xs)
    of true le = omega (arith, le)
    of false le = omega (arith, le)

get_behind : {A : Type 0} (xs ys : List A) (j : ℕ)
    → slice_get (xs ++ ys) (length xs + j) ≡ slice_get ys j
get_behind [] ys j = let same : 0 + j ≡ j = omega arith in ap (slice_get ys) same
get_behind (x ∷ xs) ys j =
    let same : suc (length xs) + j ≡ suc (length xs + j) = omega arith in
    ap (slice_get ((x ∷ xs) ++ ys)) same ∙ get_behind xs ys j

get_before : {A : Type 0} (xs ys : List A) (j : ℕ) (x : A) → slice_get xs j ≡ Some x
    → slice_get (xs ++ ys) j ≡ Some x
get_before [] ys j x there = cc
get_before (y ∷ xs) ys zero x there = there
get_before (y ∷ xs) ys (suc j) x there = get_before xs ys j x there

-- ---- states

-- there are at most 80 parties
few_parties : (roster : RosterView) → IsRoster roster → length (parties roster) ≤ 80
few_parties roster is =
    omega (
      arith,
      is.host_room,
      is.level_room,
      length-append (map (λ row. Host row.address) roster.hosts)
          (map (λ p. Manager (record { 0 = p })) (range_with_len 0 (length roster.levels))),
      length-map (λ row. Host row.address) roster.hosts,
      length-map (λ p. Manager (record { 0 = p })) (range_with_len 0 (length roster.levels)),
      length-range_with_len 0 (length roster.levels),
    )

-- the messages are short
abbrev AreShort : List (List ℕ) → Type 0
AreShort messages = (j : ℕ) (body : List ℕ) → slice_get messages j ≡ Some body → length body ≤ 5632

-- the messages of each stream are short and few
record IsBounded (x : State) : Type 0 where
  short : (s r : Party) → AreShort (x.sent s r)
  few : (s r : Party) → length (x.sent s r) ≤ 200000

bounded : (m : Setup) (past : List Event) → Fits m past → IsBounded (state m past)
bounded m past fits = record {
  short = λ s r j body there. (fits.small s r j body there).short;
  few = fits.few;
}

earlier : (m : Setup) (x : State) (e : Event) → IsBounded (after m e x) → IsBounded x
earlier m x e is = record {
  short = λ s r j body there.
      is.short s r j body (get_before (x.sent s r) (sent_by m x e s r) j body there);
  few = λ s r. omega (arith, is.few s r, length-append (x.sent s r) (sent_by m x e s r));
}

few_counted : (n : ℕ) → n ≤ 5632 → piece_count n ≤ 64
unfolding piece_count
few_counted n le = omega arith

pub few_pieces : (body : List ℕ) → length body ≤ 5632 → pieces body ≤ 64
few_pieces body le = few_counted (length body) le

-- ---- what is sealed

frames_few : (m : Setup) (s r : Party) (j : ℕ) (bodies : List (List ℕ)) → AreShort bodies
    → length (flat_map (frames_of m s r j) bodies) ≤ 64 * length bodies
frames_few m s r j [] short = omega arith
frames_few m s r j (body ∷ bodies) short =
    omega (
      arith,
      frames_few m s r j bodies (λ k other there. short (suc k) other there),
      few_pieces body (short 0 body refl),
      length-map (frame_row m s r j body) (range_with_len 0 (pieces body)),
      length-range_with_len 0 (pieces body),
      length-append (frames_of m s r j body) (flat_map (frames_of m s r j) bodies),
    )

from_few : (m : Setup) (x : State) (e : Event) (s : Party) → IsRoster m.roster
    → IsBounded (after m e x) → length (frames_from m x e s) ≤ 1024000000
from_few m x e s roster is =
    omega (
      arith,
      few_parties m.roster roster,
      flat_few (λ r. flat_map (frames_of m s r (length (x.sent s r))) (sent_by m x e s r)) 12800000
          (parties m.roster) to_few,
    )
  where
    to_few : (r : Party)
        → length (flat_map (frames_of m s r (length (x.sent s r))) (sent_by m x e s r)) ≤ 12800000
    to_few r =
        omega (
          arith,
          frames_few m s r (length (x.sent s r)) (sent_by m x e s r)
              (λ j body there. is.short s r (length (x.sent s r) + j) body
              (get_behind (x.sent s r) (sent_by m x e s r) j ∙ there)),
          is.few s r,
          length-append (x.sent s r) (sent_by m x e s r),
        )

wire_few : (m : Setup) (past : List Event) → IsRoster m.roster → IsBounded (state m past)
    → length (wire m past) ≤ 1024000000 * length past
wire_few m [] roster is = omega arith
wire_few m (e ∷ past) roster is =
    let x = state m past in
    omega (
      arith,
      wire_few m past roster (earlier m x e is),
      from_few m x e (place_of e) roster is,
      length-append (wire m past) (frames_from m x e (place_of e)),
    )

-- ---- what comes and is given

handed_few : (m : Setup) (e : Event) (s u : Party) (j : ℕ) (messages : List (List ℕ))
    → AreShort messages → length (handed_of m e s u j messages) ≤ 64 * length messages
handed_few m e s u j [] short = omega arith
handed_few m e s u j (body ∷ messages) short =
    let places = filter (hands m e s u j body) (range_with_len 0 (pieces body)) in
    let pair : ℕ → ℕ × ℕ = λ i. (j, i) in
    omega (
      arith,
      handed_few m e s u (j + 1) messages (λ k other there. short (suc k) other there),
      few_pieces body (short 0 body refl),
      filter_few (hands m e s u j body) (range_with_len 0 (pieces body)),
      length-range_with_len 0 (pieces body),
      length-map pair places,
      length-append (map pair places) (handed_of m e s u (j + 1) messages),
    )

arrivals_few : (m : Setup) (past : List Event) (u : Party) → IsRoster m.roster
    → IsBounded (state m past)
    → length (arrivals_at m.roster (state m past) u) ≤ 1024000000 * length past
arrivals_few m [] u roster is = none (parties m.roster)
  where
    none : (ss : List Party) → length (flat_map (λ s. (state m []).arrived s u) ss) ≤ 1024000000 * 0
    none [] = omega arith
    none (s ∷ ss) = none ss
arrivals_few m (e ∷ past) u roster is =
    let x = state m past in
    let before = earlier m x e is in
    omega (
      arith,
      arrivals_few m past u roster before,
      few_parties m.roster roster,
      flat_both (λ s. handed m x e s u) (λ s. x.arrived s u) (parties m.roster),
      flat_few (λ s. handed m x e s u) 12800000 (parties m.roster)
          (λ s. omega (arith, before.few s u, handed_few m e s u 0 (x.sent s u) (before.short s u))),
    )

numbers_few : (m : Setup) (x : State) (e : Event) (s u : Party) → IsBounded x
    → length (numbers_given m x e s u) ≤ 200000
numbers_few m x e s u is =
    omega (
      arith,
      is.few s u,
      filter_few (gives m x e s u) (range_with_len 0 (length (x.sent s u))),
      length-range_with_len 0 (length (x.sent s u)),
    )

given_few : (m : Setup) (past : List Event) (u : Party) → IsRoster m.roster
    → IsBounded (state m past)
    → length (given_at m.roster (state m past) u) ≤ 16000000 * length past
given_few m [] u roster is = none (parties m.roster)
  where
    none : (ss : List Party) → length (flat_map (λ s. (state m []).given s u) ss) ≤ 16000000 * 0
    none [] = omega arith
    none (s ∷ ss) = none ss
given_few m (e ∷ past) u roster is =
    let x = state m past in
    let before = earlier m x e is in
    omega (
      arith,
      given_few m past u roster before,
      few_parties m.roster roster,
      flat_both (λ s. x.given s u) (λ s. numbers_given m x e s u) (parties m.roster),
      flat_few (λ s. numbers_given m x e s u) 200000 (parties m.roster)
          (λ s. numbers_few m x e s u before),
    )

-- ---- turns

-- at most so many turns are made
abbrev AtMost : ℕ → Batches → Type 0
AtMost n b = length b.made ≤ n

either : {X : Type 0} (P : X → Type 0) (b : Bool) (x y : X) → P x → P y → P (if b then x else y)
either P true x y p q = p
either P false x y p q = q

most_flush : (n : ℕ) (b : Batches) → AtMost n b → AtMost (n + 1) (flush b)
most_flush n b most =
    either (AtMost (n + 1)) (is_empty b.batch) b
    (record { batch = nothing; made = b.batch ∷ b.made })
    (omega (arith, most)) (omega (arith, most))

most_where : (n : ℕ) (test : Bool) (b : Batches) → AtMost n b → AtMost (n + 1) (flush_where test b)
most_where n test b most =
    either (AtMost (n + 1)) test (flush b) b (most_flush n b most) (omega (arith, most))

most_join : (n : ℕ) (frames : List (List ℕ)) (b : Batches) → AtMost n b
    → AtMost (n + 1) (join_or_flush frames b)
most_join n [] b most = omega (arith, most)
most_join n (frame ∷ frames) b most =
    most_where n (is_full_for (length (frame ∷ frames)) b) b most

most_alone : (n : ℕ) (frames : List (List ℕ)) (b : Batches) → AtMost n b
    → AtMost (n + 3) (turn_alone frames b)
most_alone n frames b most =
    let flushed = most_flush n b most in
    let joined = most_join (n + 1) frames (flush b) flushed in
    let made = most_flush (n + 1 + 1) (join_or_flush frames (flush b)) joined in
    omega (arith, made)

most_send : (m : Setup) (n : ℕ) (y : Option Sending) (u : Party) (b : Batches) → AtMost n b
    → AtMost (n + 1) (sends_join m y u b)
most_send m n None u b most = omega (arith, most)
most_send m n (Some y) u b most =
    either (AtMost (n + 1)) (is_same_party y.from u)
    (join_or_flush_send (outgoing (partition_number m u) y.to y.message) b) b
    (most_where n (length b.batch.sends == 4) b most) (omega (arith, most))

most_come : (m : Setup) (x : State) (e : Event) (from u : Party) (n : ℕ) (b : Batches)
    → AtMost n b → AtMost (n + 2) (frames_join m x e from u b)
most_come m x e from u n b most =
    let ready = flush_where (is_same_party from u && has_send b) b in
    let made = most_where n (is_same_party from u && has_send b) b most in
    let joined = most_join (n + 1) (handed_frames m x e) ready made in
    either (AtMost (n + 2)) (is_same_party (place_of e) u)
    (join_or_flush (handed_frames m x e) ready) ready
    (omega (arith, joined)) (omega (arith, made))

most_replies : (m : Setup) (x : State) (u : Party) (calls : List CallRow) (n : ℕ) (b : Batches)
    → AtMost n b → AtMost (n + length calls) (replies_turn m x u calls b)
most_replies m x u [] n b most = omega (arith, most)
most_replies m x u (c ∷ calls) n b most =
    let send = outgoing (partition_number m u) c.caller (reply_text (reply m x.calls c)) in
    let rest = most_replies m x u calls (n + 1) (flush (join_send send b))
    (most_flush n (join_send send b) most) in
    omega (arith, rest)

calls_few : (m : Setup) (x : State) (e : Event) → IsRoster m.roster → IsBounded x
    → length (calls_by m x e) ≤ 16000000
calls_few m x e roster is = of (place_of e)
  where
    to_few : (u : Party) → length (given_to m x e u) ≤ 16000000
    to_few u =
        omega (
          arith,
          few_parties m.roster roster,
          flat_few (given_from m x e u) 200000 (parties m.roster)
              (λ s. omega (arith, numbers_few m x e s u is, given_numbers s u)),
        )
      where
        given_numbers : (s u : Party)
            → length (given_from m x e u s) ≡ length (numbers_given m x e s u)
        given_numbers s u = length-map _ (numbers_given m x e s u)

    of : (u : Party) → length (calls_to u (given_to m x e u)) ≤ 16000000
    of (Host a) = omega arith
    of (Manager p) =
        omega (arith, to_few (Manager p), length-map (call_row p.0) (given_to m x e (Manager p)))

most_by : (m : Setup) (x : State) (e : Event) (u : Party) (n : ℕ) (b : Batches)
    → IsRoster m.roster → IsBounded x → AtMost n b → AtMost (n + 16000003) (batches_by m x e u b)
most_by m x e u n b roster is most = of e
  where
    alone : (e : Event) → AtMost (n + 16000003) (frames_alone m x e u b)
    alone e =
        let made = most_alone n (handed_frames m x e) b most in
        let replied = most_replies m x u (calls_by m x e) (n + 3)
        (turn_alone (handed_frames m x e) b) made in
        let flushed = most_flush n b most in
        either (AtMost (n + 16000003)) (is_same_party (place_of e) u)
        (replies_turn m x u (calls_by m x e) (turn_alone (handed_frames m x e) b)) (flush b)
        (omega (arith, replied, calls_few m x e roster is)) (omega (arith, flushed))

    come : (e : Event) (at from : Party)
        → AtMost (n + 16000003)
        (if is_manager at then frames_alone m x e u b else frames_join m x e from u b)
    come e at from =
        let joined = most_come m x e from u n b most in
        either (AtMost (n + 16000003)) (is_manager at) (frames_alone m x e u b)
        (frames_join m x e from u b) (alone e) (omega (arith, joined))

    sends : (y : Option Sending) → AtMost (n + 16000003) (sends_join m y u b)
    sends y = let sent = most_send m n y u b most in omega (arith, sent)

    of : (e : Event) → AtMost (n + 16000003) (batches_by m x e u b)
    of (Send from to message) = sends (sending_of m.roster (Send from to message))
    of (Ask from call) = sends (sending_of m.roster (Ask from call))
    of (Arrive stream message piece at) = come (Arrive stream message piece at) at stream.from
    of (Carry stream message at) = come (Carry stream message at) at stream.from
    of (Forge at bytes) = alone (Forge at bytes)
    of (Tamper stream message piece at edits) = alone (Tamper stream message piece at edits)

batches_few : (m : Setup) (past : List Event) (u : Party) → IsRoster m.roster
    → IsBounded (state m past) → AtMost (16000003 * length past) (batches m past u)
batches_few m [] u roster is = omega arith
batches_few m (e ∷ past) u roster is =
    let x = state m past in
    let before = earlier m x e is in
    let made = most_by m x e u (16000003 * length past) (batches m past u) roster before
    (batches_few m past u roster before) in
    omega (arith, made)

-- ---- no number is at its greatest value

least : (n most : ℕ) → n ≤ most → min n most ≡ n
least n most le = omega (arith, le)

uncapped : (n : ℕ) → n ≤ 2 ^ 60 → capped n ≡ n
unfolding capped
uncapped n le = least n (2 ^ 64 - 1) (omega (arith, le))

abbrev pub numbers : ℕ → ℕ → ℕ → ℕ → TallyView
numbers turns sealed ours given =
    record { turns = turns; sealed = sealed; ours = ours; given = given }

same_numbers : {a b c d a' b' c' d' : ℕ} → a ≡ a' → b ≡ b' → c ≡ c' → d ≡ d'
    → numbers a b c d ≡ numbers a' b' c' d'
same_numbers p q r s = λ i. numbers (p i) (q i) (r i) (s i)

-- the turns of a unit after its last flush, the frames that it sealed, the pieces to it and the
-- messages that it gave, as a tally keeps them
pub numbers_are : (script : ScriptView) (u : Party) → IsScript script
    → Fits (setup_of script) (reverse script.events)
    → (let past = reverse script.events in
    let m = setup_of script in
    let x = end_of script in
    numbers (capped (length (flush (batches m past u)).made))
    (capped (length (frames_by u (wire m past)))) (capped (length (arrivals_at script.roster x u)))
    (capped (length (given_at script.roster x u)))
    ≡ tally script u)
numbers_are script u is fits =
    let past = reverse script.events in
    let m = setup_of script in
    let x = end_of script in
    let within = bounded m past fits in
    let size : length past ≤ 100000 = omega (arith, is.room, length-reverse script.events) in
    let own : length (frames_by u (wire m past))
    ≡ length (filter (λ (row : FrameRow). is_same_party row.stream.from u) (wire m past)) =
    length-map (λ (row : FrameRow). row.bytes)
    (filter (λ (row : FrameRow). is_same_party row.stream.from u) (wire m past)) in
    let made = most_flush (16000003 * length past) (batches m past u)
    (batches_few m past u fits.roster within) in
    same_numbers
    (uncapped (length (flush (batches m past u)).made) (omega (arith, made, size))
    ∙ sym (length-reverse (flush (batches m past u)).made))
    (uncapped (length (frames_by u (wire m past)))
    (omega (
      arith,
      own,
      wire_few m past fits.roster within,
      size,
      filter_few (λ (row : FrameRow). is_same_party row.stream.from u) (wire m past),
    )) ∙ own)
    (uncapped (length (arrivals_at script.roster x u))
    (omega (arith, arrivals_few m past u fits.roster within, size)))
    (uncapped (length (given_at script.roster x u))
    (omega (arith, given_few m past u fits.roster within, size)))

-- the same, of a desk's state at the end
pub counted_are : (script : ScriptView) (u : Party) (st : DeskState) → IsScript script
    → Fits (setup_of script) (reverse script.events)
    → Stands (setup_of script) (reverse script.events) (end_of script) u st
    → numbers
    (capped (length (flush (batches (setup_of script) (reverse script.events) u)).made))
    (capped (length st.wire.frames)) (capped st.ours) (capped st.given)
    ≡ tally script u
counted_are script u st is fits stands =
    let past = reverse script.events in
    let m = setup_of script in
    same_numbers refl (ap (λ (fs : List (List ℕ)). capped (length fs)) stands.wires.frames)
    (ap capped stands.ours) (ap capped stands.given)
    ∙ numbers_are script u is fits
