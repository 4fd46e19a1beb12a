-- Deeds one after another, and what each field of a state is after them.
use Rattle.std.proofs.Common.{◌≡◌, ℕ, ◌+◌, ◌≤◌, List, [], ◌∷◌, ◌++◌, length, map, take, drop, Bool, true, false, Some, None, refl, sym, ◌∙◌, ap, subst, inl, inr, append-nil, append_assoc, length-append, arith}
use Rattle.std.specs.Prelude.{◌==◌, nat_lt, Option, Result, Ok, Err, if◌then◌else◌}
use Rattle.std.specs.List.{range_with_len}
use Rattle.std.proofs.Math.ListN.{get_or}
use Rattle.std.proofs.lemmas.Bool.Decides.{nat_tests}
use Rattle.std.proofs.lemmas.List.{map-append, length-map, length-set, take_at, drop_at}
use Rattle.std.proofs.lemmas.List.FromFn.{length-range_with_len}
use Rattle.levels.specs.declared.level.Party.{Party}
use Rattle.frame.specs.Pieces.{PieceView, pieces, piece_count, piece_of}
use Rattle.frame.specs.declared.refused.SendRefused.{SendRefused}
use Rattle.frame.specs.declared.refused.SendRefused.TheVariants.{TooLong}
use Rattle.window.specs.ListRule.{completes}
use Rattle.host_side.specs.Sending.{send_answer}
use Rattle.net_side.specs.declared.inbound.Inbound.{Inbound}
use Rattle.net_side.specs.declared.inbound.Inbound.TheVariants.{Ours}
use Rattle.machine.specs.declared.line.OutLine.{OutLine}
use Rattle.machine.specs.declared.line.OutLine.TheVariants as line
use Rattle.unit_core.specs.Views.{OutgoingView, OutView, GivenMessage}
use Rattle.unit_core.specs.Sending.{number_for, answer_of, after_send, streams_after, answers_to, pieces_for, pieces_sent}
use Rattle.unit_core.specs.Hearing.{heard_more, heard_after, given_from, completed, ours_in, message_in}
use Rattle.unit_core.specs.declared.rows.SendAnswer.{SendAnswer}
use Rattle.unit_core.specs.declared.rows.GivenRow.{GivenRow}
use Rattle.desk.specs.declared.batch.Waiting.{Waiting}
use Rattle.desk.specs.declared.batch.Waiting.TheVariants.{Send, Frame}
use Rattle.desk.specs.Wires.{WireView, messages_to, with_message}
use Rattle.desk.specs.Deeds.{DeskState, Deed, says, hears, party_at, address_in, outgoing, line_said, lines_of_piece, wire_said, heard, did, does, hearings}
use Rattle.desk.specs.Desks.{sends_in, frames_in, inbounds_in, order_in}
use Rattle.desk.specs.inside.Merging.{merged, line_answered, line_given, wire_merged, Covers, size_of, sizes_in}
use Rattle.desk.proofs.Cases.{bool_cases}

-- ---- more deeds

pub sends_more : (p : ℕ) (deeds more : List Deed) → sends_in p (deeds ++ more) ≡ sends_in p deeds ++ sends_in p more
sends_more p [] more = refl
sends_more p (says to m ∷ deeds) more = ap (λ rest. outgoing p to m ∷ rest) (sends_more p deeds more)
sends_more p (hears f x ∷ deeds) more = sends_more p deeds more

pub frames_more : (deeds more : List Deed) → frames_in (deeds ++ more) ≡ frames_in deeds ++ frames_in more
frames_more [] more = refl
frames_more (says to m ∷ deeds) more = frames_more deeds more
frames_more (hears f x ∷ deeds) more = ap (λ rest. f ∷ rest) (frames_more deeds more)

pub inbounds_more : (deeds more : List Deed) → inbounds_in (deeds ++ more) ≡ inbounds_in deeds ++ inbounds_in more
inbounds_more [] more = refl
inbounds_more (says to m ∷ deeds) more = inbounds_more deeds more
inbounds_more (hears f x ∷ deeds) more = ap (λ rest. x ∷ rest) (inbounds_more deeds more)

pub order_more : (deeds more : List Deed) → order_in (deeds ++ more) ≡ order_in deeds ++ order_in more
order_more [] more = refl
order_more (says to m ∷ deeds) more = ap (λ rest. Send to (length m) ∷ rest) (order_more deeds more)
order_more (hears f x ∷ deeds) more = ap (λ rest. Frame ∷ rest) (order_more deeds more)

pub does_more : (st : DeskState) (deeds more : List Deed) → does st (deeds ++ more) ≡ does (does st deeds) more
does_more st [] more = refl
does_more st (deed ∷ deeds) more = does_more (did st deed) deeds more

-- ---- what stays

pub record Keeps (old new : DeskState) : Type 0 where
  pub address : new.address ≡ old.address
  pub partition : new.partition ≡ old.partition
  pub frame : new.frame ≡ old.frame

pub keeps : (st : DeskState) (deeds : List Deed) → Keeps st (does st deeds)
keeps st [] = record { address = refl; partition = refl; frame = refl }
keeps st (says to m ∷ deeds) = let later = keeps (did st (says to m)) deeds in
    record { address = later.address; partition = later.partition; frame = later.frame }
keeps st (hears f (Ours x) ∷ deeds) = let later = keeps (heard st (Ours x)) deeds in
    record { address = later.address; partition = later.partition; frame = later.frame }
keeps st (hears f x ∷ deeds) = keeps st deeds

-- ---- each field

pub streams_are : (st : DeskState) (deeds : List Deed)
    → (does st deeds).streams ≡ streams_after st.streams (sends_in st.partition deeds)
streams_are st [] = refl
streams_are st (says to m ∷ deeds) = streams_are (did st (says to m)) deeds
streams_are st (hears f (Ours x) ∷ deeds) = streams_are (heard st (Ours x)) deeds
streams_are st (hears f x ∷ deeds) = streams_are st deeds

pub heard_is : (st : DeskState) (deeds : List Deed) → (does st deeds).heard ≡ heard_after st.heard (inbounds_in deeds)
heard_is st [] = refl
heard_is st (says to m ∷ deeds) = heard_is (did st (says to m)) deeds
heard_is st (hears f (Ours x) ∷ deeds) = heard_is (heard st (Ours x)) deeds
heard_is st (hears f x ∷ deeds) = heard_is st deeds

pub ours_are : (st : DeskState) (deeds : List Deed) → (does st deeds).ours ≡ st.ours + ours_in (inbounds_in deeds)
ours_are st [] = omega arith
ours_are st (says to m ∷ deeds) = ours_are (did st (says to m)) deeds
ours_are st (hears f (Ours x) ∷ deeds) = omega (arith, ours_are (heard st (Ours x)) deeds)
ours_are st (hears f x ∷ deeds) = ours_are st deeds

-- ---- what was sealed

abbrev pub wire_answered : WireView → ℕ → ℕ → Party → List ℕ → (PieceView → List ℕ) → Result ℕ SendRefused → WireView
wire_answered w a p to m f (Ok n) =
    with_message w (address_in p to) (map f (pieces_for a p (outgoing p to m) (Ok n)))
wire_answered w a p to m f (Err why) = w

-- a message has its pieces at the front
front : (f : PieceView → List ℕ) (a p : ℕ) (send : OutgoingView) (n : ℕ) (rest : List PieceView)
    → (take (pieces send.message) (map f (pieces_for a p send (Ok n) ++ rest)) ≡ map f (pieces_for a p send (Ok n)))
    × (drop (pieces send.message) (map f (pieces_for a p send (Ok n) ++ rest)) ≡ map f rest)
front f a p send n rest =
    let m = send.message in
    let own = map f (pieces_for a p send (Ok n)) in
    let count : length own ≡ pieces m = length-map (pieces_for a p send (Ok n)) f
    ∙ length-map (range_with_len 0 (pieces m)) (piece_of a send.to p n m) ∙ length-range_with_len 0 (pieces m) in
    let apart = map-append f (pieces_for a p send (Ok n)) rest in (
      ap (take (pieces m)) apart ∙ take_at own (map f rest) (pieces m) count,
      ap (drop (pieces m)) apart
          ∙ drop_at own (map f rest) (pieces m) count,
    )

wire_step : (w : WireView) (a p : ℕ) (to : Party) (m : List ℕ) (order : List Waiting) (answers : List SendAnswer)
    (f : PieceView → List ℕ) (answer : Result ℕ SendRefused) (rest : List PieceView)
    → wire_merged p w (Send to (length m) ∷ order) (answer_of answer ∷ answers)
    (map f (pieces_for a p (outgoing p to m) answer ++ rest))
    ≡ wire_merged p (wire_answered w a p to m f answer) order answers (map f rest)
wire_step w a p to m order answers f (Err why) rest = refl
wire_step w a p to m order answers f (Ok n) rest =
    let both = front f a p (outgoing p to m) n rest in
    ap (λ fs. wire_merged p (with_message w (address_in p to) fs) order answers
    (drop (pieces m) (map f (pieces_for a p (outgoing p to m) (Ok n) ++ rest)))) both.0
    ∙ ap (wire_merged p (with_message w (address_in p to) (map f (pieces_for a p (outgoing p to m) (Ok n)))) order
    answers) both.1

wire_said_is : (st : DeskState) (to : Party) (m : List ℕ) (answer : Result ℕ SendRefused)
    → wire_said st (outgoing st.partition to m) answer
    ≡ wire_answered st.wire st.address st.partition to m st.frame answer
wire_said_is st to m (Ok n) = refl
wire_said_is st to m (Err why) = refl

pub wire_is : (st : DeskState) (deeds : List Deed)
    → (does st deeds).wire ≡ wire_merged st.partition st.wire (order_in deeds)
    (answers_to st.streams (sends_in st.partition deeds))
    (map st.frame (pieces_sent st.address st.partition st.streams (sends_in st.partition deeds)))
wire_is st [] = refl
wire_is st (says to m ∷ deeds) =
    let p = st.partition in
    let send = outgoing p to m in
    let streams = after_send st.streams send in
    let answer = number_for st.streams send in
    let later = did st (says to m) in
    wire_is later deeds
    ∙ ap (λ w. wire_merged p w (order_in deeds) (answers_to streams (sends_in p deeds))
    (map st.frame (pieces_sent st.address p streams (sends_in p deeds)))) (wire_said_is st to m answer)
    ∙ sym (wire_step st.wire st.address p to m (order_in deeds) (answers_to streams (sends_in p deeds)) st.frame answer
    (pieces_sent st.address p streams (sends_in p deeds)))
wire_is st (hears f (Ours x) ∷ deeds) = wire_is (heard st (Ours x)) deeds
wire_is st (hears f x ∷ deeds) = wire_is st deeds

-- ---- accepted messages are short, and their frames are there

short_if : (next : Option ℕ) (size n : ℕ) → send_answer next size ≡ Ok n → size ≤ 5632
short_if None size n is = cc
short_if (Some next) size n is = elim (bool_cases (nat_lt 5632 size)) [
  | inl long ↦ let refused : send_answer (Some next) size ≡ Err TooLong = rw long refl in cc
  | inr short ↦ grind (arith, nat_tests, short)
]

covers_step : (a p : ℕ) (to : Party) (send : OutgoingView) (size : ℕ) (order : List Waiting)
    (answers : List SendAnswer)
    (f : PieceView → List ℕ) (answer : Result ℕ SendRefused) (rest : List PieceView)
    → size ≡ length send.message → ((n : ℕ) → answer ≡ Ok n → length send.message ≤ 5632)
    → Covers order answers (map f rest)
    → Covers (Send to size ∷ order) (answer_of answer ∷ answers) (map f (pieces_for a p send answer ++ rest))
covers_step a p to send size order answers f (Err why) rest is short later = later
covers_step a p to send size order answers f (Ok n) rest is short later =
    let own = pieces_for a p send (Ok n) in
    let both = front f a p send n rest in
    let count : length own ≡ pieces send.message =
    length-map (range_with_len 0 (pieces send.message)) (piece_of a send.to p n send.message)
    ∙ length-range_with_len 0 (pieces send.message) in
    let enough : pieces send.message ≤ length (map f (own ++ rest)) =
    omega (arith, count, length-map (own ++ rest) f, length-append own rest) in
    let same : piece_count size ≡ pieces send.message = ap piece_count is in (
      subst (λ k. k ≤ 5632) (sym is) (short n refl),
      subst (λ k. k ≤ length (map f (own ++ rest))) (sym same) enough,
      subst (λ k. Covers order answers (drop k (map f (own ++ rest)))) (sym same)
          (subst (Covers order answers) (sym both.1) later),
    )

covers : (order : List Waiting) (sends : List OutgoingView) (a p : ℕ) (streams : List (Option ℕ))
    (f : PieceView → List ℕ)
    → sizes_in order ≡ map size_of sends
    → Covers order (answers_to streams sends) (map f (pieces_sent a p streams sends))
covers [] sends a p streams f is = tt
covers (Frame ∷ order) sends a p streams f is = covers order sends a p streams f is
covers (Send to size ∷ order) [] a p streams f is = cc
covers (Send to size ∷ order) (send ∷ sends) a p streams f is =
    covers_step a p to send size order (answers_to (after_send streams send) sends) f (number_for streams send)
    (pieces_sent a p (after_send streams send) sends) (cc)
    (λ n e. short_if (get_or streams send.to None) (length send.message) n e)
    (covers order sends a p (after_send streams send) f (cc))

pub covered : (order : List Waiting) (sends : List OutgoingView) (a p : ℕ) (streams : List (Option ℕ))
    (f : PieceView → List ℕ) (out : OutView) (answers : List SendAnswer) (frames : List (List ℕ))
    → sizes_in order ≡ map size_of sends
    → answers ≡ out.answers → out.answers ≡ answers_to streams sends
    → frames ≡ out.sealed → out.sealed ≡ map f (pieces_sent a p streams sends)
    → Covers order answers frames
covered order sends a p streams f out answers frames sizes same answered same' sealed =
    subst (Covers order answers) (sym sealed ∙ sym same')
    (subst (λ as'. Covers order as' (map f (pieces_sent a p streams sends))) (sym answered ∙ sym same)
    (covers order sends a p streams f sizes))

-- ---- lines, the given messages by their bytes

abbrev pub told_in : ℕ → List Waiting → List SendAnswer → ℕ → List GivenMessage → List OutLine
told_in p [] answers n given = []
told_in p (Send to size ∷ order) [] n given = []
told_in p (Send to size ∷ order) (answer ∷ answers) n given = line_answered to answer ∷ told_in p order answers n given
told_in p (Frame ∷ order) answers n [] = told_in p order answers (n + 1) []
told_in p (Frame ∷ order) answers n (g ∷ given) =
    if g.frame == n then line.From (party_at p g.from) g.body ∷ told_in p order answers (n + 1) given
    else told_in p order answers (n + 1) (g ∷ given)

pub merged_is : (p : ℕ) (bodies : List ℕ) (order : List Waiting) (answers : List SendAnswer) (n : ℕ)
    (given : List GivenRow)
    → merged p bodies order answers n given ≡ told_in p order answers n (map (message_in bodies) given)
merged_is p bodies [] answers n given = refl
merged_is p bodies (Send to size ∷ order) [] n given = refl
merged_is p bodies (Send to size ∷ order) (answer ∷ answers) n given =
    ap (λ rest. line_answered to answer ∷ rest) (merged_is p bodies order answers n given)
merged_is p bodies (Frame ∷ order) answers n [] = merged_is p bodies order answers (n + 1) []
merged_is p bodies (Frame ∷ order) answers n (row ∷ given) = elim (bool_cases (row.frame == n)) [
  | inl here ↦ rw here (ap (λ rest. line_given p bodies row ∷ rest) (merged_is p bodies order answers (n + 1) given))
  | inr later ↦ rw later (merged_is p bodies order answers (n + 1) (row ∷ given))
]

-- the messages of later frames have later indices
abbrev IsFrom : ℕ → List GivenMessage → Type 0
IsFrom n [] = Unit {0}
IsFrom n (g ∷ given) = n ≤ g.frame

from_less : (n : ℕ) (given : List GivenMessage) → IsFrom (n + 1) given → IsFrom n given
from_less n [] later = tt
from_less n (g ∷ given) later = omega (arith, later)

from_piece : (n : ℕ) (h : List PieceView) (x : PieceView) (rest : List GivenMessage) → IsFrom n rest
    → IsFrom n (completed h n x ++ rest)
from_piece n h x rest later = elim (bool_cases (completes h x)) [
  | inl full ↦ rw full (omega arith)
  | inr part ↦ rw part later
]

given_later : (h : ℕ → List PieceView) (n : ℕ) (inbounds : List Inbound) → IsFrom n (given_from h n inbounds)
given_later h n [] = tt
given_later h n (Ours x ∷ inbounds) =
    from_piece n (h x.from) x _ (from_less n _ (given_later (heard_more h (Ours x)) (n + 1) inbounds))
given_later h n (x ∷ inbounds) = from_less n _ (given_later h (n + 1) inbounds)

told_later : (p : ℕ) (order : List Waiting) (answers : List SendAnswer) (n : ℕ) (given : List GivenMessage)
    → IsFrom (n + 1) given
    → told_in p (Frame ∷ order) answers n given ≡ told_in p order answers (n + 1) given
told_later p order answers n [] later = refl
told_later p order answers n (g ∷ given) later =
    let differ : (g.frame == n) ≡ false = grind (arith, nat_tests, later) in rw differ refl

told_piece : (p : ℕ) (c : Bool) (order : List Waiting) (answers : List SendAnswer) (n : ℕ) (h : List PieceView)
    (x : PieceView) (rest : List GivenMessage)
    → completes h x ≡ c → IsFrom (n + 1) rest
    → told_in p (Frame ∷ order) answers n (completed h n x ++ rest)
    ≡ lines_of_piece p h x ++ told_in p order answers (n + 1) rest
told_piece p true order answers n h x rest is later =
    rw is (let same : (n == n) ≡ true = grind (arith, nat_tests) in rw same refl)
told_piece p false order answers n h x rest is later = rw is (told_later p order answers n rest later)

line_is : (to : Party) (answer : Result ℕ SendRefused) → line_answered to (answer_of answer) ≡ line_said to answer
line_is to (Ok n) = refl
line_is to (Err why) = refl

pub lines_are : (st : DeskState) (deeds : List Deed) (n : ℕ)
    → (does st deeds).lines ≡ st.lines ++ told_in st.partition (order_in deeds)
    (answers_to st.streams (sends_in st.partition deeds)) n (given_from st.heard n (inbounds_in deeds))
lines_are st [] n = sym (append-nil st.lines)
lines_are st (says to m ∷ deeds) n =
    let p = st.partition in
    let streams = after_send st.streams (outgoing p to m) in
    lines_are (did st (says to m)) deeds n
    ∙ append_assoc st.lines _ _
    ∙ ap (λ line. st.lines ++ line ∷ told_in p (order_in deeds) (answers_to streams (sends_in p deeds)) n
    (given_from st.heard n (inbounds_in deeds)))
    (sym (line_is to (number_for st.streams (outgoing p to m))))
lines_are st (hears f (Ours x) ∷ deeds) n =
    let p = st.partition in
    let h = heard_more st.heard (Ours x) in
    lines_are (heard st (Ours x)) deeds (n + 1)
    ∙ append_assoc st.lines _ _
    ∙ ap (λ lines. st.lines ++ lines) (sym (told_piece p (completes (st.heard x.from) x) (order_in deeds)
    (answers_to st.streams (sends_in p deeds)) n (st.heard x.from) x (given_from h (n + 1) (inbounds_in deeds)) refl
    (given_later h (n + 1) (inbounds_in deeds))))
lines_are st (hears f x ∷ deeds) n =
    lines_are st deeds (n + 1)
    ∙ ap (λ lines. st.lines ++ lines)
    (sym (told_later st.partition (order_in deeds) (answers_to st.streams (sends_in st.partition deeds)) n
    (given_from st.heard (n + 1) (inbounds_in deeds)) (given_later st.heard (n + 1) (inbounds_in deeds))))

-- ---- how many messages were given

line_count : (p : ℕ) (h : List PieceView) (n : ℕ) (x : PieceView) → length (lines_of_piece p h x)
    ≡ length (completed h n x)
line_count p h n x = elim (bool_cases (completes h x)) [
  | inl full ↦ rw full refl
  | inr part ↦ rw part refl
]

pub given_are : (st : DeskState) (deeds : List Deed) (n : ℕ)
    → (does st deeds).given ≡ st.given + length (given_from st.heard n (inbounds_in deeds))
given_are st [] n = omega arith
given_are st (says to m ∷ deeds) n = given_are (did st (says to m)) deeds n
given_are st (hears f (Ours x) ∷ deeds) n =
    let h = heard_more st.heard (Ours x) in
    omega (
      arith,
      given_are (heard st (Ours x)) deeds (n + 1),
      line_count st.partition (st.heard x.from) n x,
      length-append (completed (st.heard x.from) n x) (given_from h (n + 1) (inbounds_in deeds)),
    )
given_are st (hears f x ∷ deeds) n = given_are st deeds (n + 1)

-- ---- the frames that were sealed

step_frames : (w : WireView) (a p : ℕ) (to : Party) (m : List ℕ) (f : PieceView → List ℕ)
    (answer : Result ℕ SendRefused)
    → (wire_answered w a p to m f answer).frames ≡ w.frames ++ map f (pieces_for a p (outgoing p to m) answer)
step_frames w a p to m f (Ok n) = refl
step_frames w a p to m f (Err why) = sym (append-nil w.frames)

pub sealed_are : (st : DeskState) (deeds : List Deed)
    → (does st deeds).wire.frames
    ≡ st.wire.frames ++ map st.frame (pieces_sent st.address st.partition st.streams (sends_in st.partition deeds))
sealed_are st [] = sym (append-nil st.wire.frames)
sealed_are st (says to m ∷ deeds) =
    let p = st.partition in
    let send = outgoing p to m in
    let answer = number_for st.streams send in
    let rest = pieces_sent st.address p (after_send st.streams send) (sends_in p deeds) in
    sealed_are (did st (says to m)) deeds
    ∙ ap (λ (w : WireView). w.frames ++ map st.frame rest) (wire_said_is st to m answer)
    ∙ ap (λ fs. fs ++ map st.frame rest) (step_frames st.wire st.address p to m st.frame answer)
    ∙ append_assoc st.wire.frames _ _
    ∙ ap (λ fs. st.wire.frames ++ fs) (sym (map-append st.frame (pieces_for st.address p send answer) rest))
sealed_are st (hears f (Ours x) ∷ deeds) = sealed_are (heard st (Ours x)) deeds
sealed_are st (hears f x ∷ deeds) = sealed_are st deeds

-- ---- receivers

step_receivers : (st : DeskState) (send : OutgoingView) (answer : Result ℕ SendRefused)
    → length (wire_said st send answer).messages ≡ length st.wire.messages
step_receivers st send (Ok n) =
    length-set st.wire.messages send.to
    (messages_to st.wire send.to ++ map st.frame (pieces_for st.address st.partition send (Ok n)) ∷ [])
step_receivers st send (Err why) = refl

pub receivers_are : (st : DeskState) (deeds : List Deed) → length (does st deeds).wire.messages
    ≡ length st.wire.messages
receivers_are st [] = refl
receivers_are st (says to m ∷ deeds) =
    receivers_are (did st (says to m)) deeds
    ∙ step_receivers st (outgoing st.partition to m) (number_for st.streams (outgoing st.partition to m))
receivers_are st (hears f (Ours x) ∷ deeds) = receivers_are (heard st (Ours x)) deeds
receivers_are st (hears f x ∷ deeds) = receivers_are st deeds

-- ---- deeds that are frames

pub no_sends : (p : ℕ) (frames : List (List ℕ)) (xs : List Inbound) → sends_in p (hearings frames xs) ≡ []
no_sends p [] xs = refl
no_sends p (frame ∷ frames) [] = refl
no_sends p (frame ∷ frames) (x ∷ xs) = no_sends p frames xs

pub wire_silent : (st : DeskState) (deeds : List Deed) → sends_in st.partition deeds ≡ [] → (does st deeds).wire
    ≡ st.wire
wire_silent st [] none = refl
wire_silent st (says to m ∷ deeds) none = cc
wire_silent st (hears f (Ours x) ∷ deeds) none = wire_silent (heard st (Ours x)) deeds none
wire_silent st (hears f x ∷ deeds) none = wire_silent st deeds none

pub hearings_more : (frames more : List (List ℕ)) (xs ys : List Inbound) → length frames ≡ length xs
    → hearings (frames ++ more) (xs ++ ys) ≡ hearings frames xs ++ hearings more ys
hearings_more [] more [] ys e = refl
hearings_more [] more (x ∷ xs) ys e = absurd (omega (arith, e))
hearings_more (frame ∷ frames) more [] ys e = absurd (omega (arith, e))
hearings_more (frame ∷ frames) more (x ∷ xs) ys e =
    ap (λ rest. hears frame x ∷ rest) (hearings_more frames more xs ys (omega (arith, e)))
