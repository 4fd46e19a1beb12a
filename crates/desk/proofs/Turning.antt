-- A batch, deed by deed and as one turn.
use Rattle.std.proofs.Common.{◌≡◌, ℕ, List, [], ◌∷◌, ◌++◌, length, map, replicate, refl, sym, ◌∙◌, ap, subst, arith}
use Rattle.seal_core.specs.Sealing.{Sealer}
use Rattle.frame.specs.Frames.{frame_of}
use Rattle.net_side.specs.NetView.{NetView}
use Rattle.net_side.specs.Nets.{IsInbound}
use Rattle.net_side.specs.declared.inbound.Inbound.{Inbound}
use Rattle.machine.specs.declared.line.OutLine.{OutLine}
use Rattle.unit_core.specs.Views.{UnitView, OutView}
use Rattle.unit_core.specs.Sending.{streams_after, answers_to, pieces_sent}
use Rattle.unit_core.specs.Hearing.{AreInbound, StandsForAll, heard_after, given_from, message_in}
use Rattle.unit_core.specs.Turns.{Turned}
use Rattle.desk.specs.declared.batch.Waiting.TheVariants.{Frame}
use Rattle.desk.specs.Wires.{WireView}
use Rattle.desk.specs.Deeds.{DeskState, Deed, does, hearings}
use Rattle.desk.specs.Desks.{sends_in, frames_in, inbounds_in, order_in, Represents}
use Rattle.desk.specs.inside.Merging.{merged, wire_merged}
use Rattle.desk.proofs.Doing.{keeps, streams_are, heard_is, wire_is, told_in, merged_is, lines_are}

-- ---- what frames hold

pub same_inbounds : (sealed : Sealer) (net : NetView)
    → ((bytes : List ℕ) (a b : Inbound) → IsInbound sealed net bytes a → IsInbound sealed net bytes b → a ≡ b)
    → (frames : List (List ℕ)) (xs ys : List Inbound)
    → AreInbound sealed net frames xs → AreInbound sealed net frames ys → xs ≡ ys
same_inbounds sealed net once [] [] [] a b = refl
same_inbounds sealed net once [] [] (y ∷ ys) a b = absurd b
same_inbounds sealed net once [] (x ∷ xs) ys a b = absurd a
same_inbounds sealed net once (frame ∷ frames) [] ys a b = absurd a
same_inbounds sealed net once (frame ∷ frames) (x ∷ xs) [] a b = absurd b
same_inbounds sealed net once (frame ∷ frames) (x ∷ xs) (y ∷ ys) a b =
    ap (λ z. z ∷ xs) (once frame x y a.0 b.0) ∙ ap (λ zs. y ∷ zs) (same_inbounds sealed net once frames xs ys a.1 b.1)

pub inbound_more : (sealed : Sealer) (net : NetView) (frames more : List (List ℕ)) (xs ys : List Inbound)
    → AreInbound sealed net frames xs → AreInbound sealed net more ys
    → AreInbound sealed net (frames ++ more) (xs ++ ys)
inbound_more sealed net [] more [] ys a b = b
inbound_more sealed net [] more (x ∷ xs) ys a b = absurd a
inbound_more sealed net (frame ∷ frames) more [] ys a b = absurd a
inbound_more sealed net (frame ∷ frames) more (x ∷ xs) ys a b = (a.0, inbound_more sealed net frames more xs ys a.1 b)

pub as_many : (sealed : Sealer) (net : NetView) (frames : List (List ℕ)) (xs : List Inbound)
    → AreInbound sealed net frames xs → length frames ≡ length xs
as_many sealed net [] [] a = refl
as_many sealed net [] (x ∷ xs) a = absurd a
as_many sealed net (frame ∷ frames) [] a = absurd a
as_many sealed net (frame ∷ frames) (x ∷ xs) a = omega (arith, as_many sealed net frames xs a.1)

-- ---- deeds that are frames

pub heard_frames : (frames : List (List ℕ)) (xs : List Inbound) → length frames ≡ length xs
    → frames_in (hearings frames xs) ≡ frames
heard_frames [] xs e = refl
heard_frames (frame ∷ frames) [] e = absurd (omega (arith, e))
heard_frames (frame ∷ frames) (x ∷ xs) e = ap (λ rest. frame ∷ rest) (heard_frames frames xs (omega (arith, e)))

pub heard_inbounds : (frames : List (List ℕ)) (xs : List Inbound) → length frames ≡ length xs
    → inbounds_in (hearings frames xs) ≡ xs
heard_inbounds [] [] e = refl
heard_inbounds [] (x ∷ xs) e = absurd (omega (arith, e))
heard_inbounds (frame ∷ frames) [] e = absurd (omega (arith, e))
heard_inbounds (frame ∷ frames) (x ∷ xs) e = ap (λ rest. x ∷ rest) (heard_inbounds frames xs (omega (arith, e)))

pub heard_order : (frames : List (List ℕ)) (xs : List Inbound) → length frames ≡ length xs
    → order_in (hearings frames xs) ≡ replicate (length frames) Frame
heard_order [] xs e = refl
heard_order (frame ∷ frames) [] e = absurd (omega (arith, e))
heard_order (frame ∷ frames) (x ∷ xs) e = ap (λ rest. Frame ∷ rest) (heard_order frames xs (omega (arith, e)))

-- ---- the turn of a batch

pub sealed_by : (sealed : Sealer) (old new : UnitView) (lines : List OutLine) (wire : WireView) (st : DeskState)
    (deeds : List Deed) (out : OutView)
    → Represents sealed old lines wire st
    → Turned sealed old (sends_in st.partition deeds) (frames_in deeds) new out
    → out.sealed ≡ map st.frame (pieces_sent st.address st.partition st.streams (sends_in st.partition deeds))
sealed_by sealed old new lines wire st deeds out r t =
    let p = st.partition in
    let sends = sends_in p deeds in
    t.wire
    ∙ ap (λ f. map f (pieces_sent old.host.address old.host.partition old.host.streams sends)) r.frame
    ∙ ap (λ a. map st.frame (pieces_sent a old.host.partition old.host.streams sends)) r.address
    ∙ ap (λ q. map st.frame (pieces_sent st.address q old.host.streams sends)) r.partition
    ∙ ap (λ s. map st.frame (pieces_sent st.address p s sends)) r.streams

-- the turn on a batch brings a unit where its deeds do
pub turned : (sealed : Sealer) (old new : UnitView) (lines : List OutLine) (wire : WireView) (st : DeskState)
    (deeds : List Deed) (out : OutView)
    → Represents sealed old lines wire st
    → (t : Turned sealed old (sends_in st.partition deeds) (frames_in deeds) new out)
    → t.inbounds ≡ inbounds_in deeds
    → Represents sealed new
    (lines ++ merged st.partition out.bodies (order_in deeds) out.answers 0 out.given)
    (wire_merged st.partition wire (order_in deeds) out.answers out.sealed) (does st deeds)
turned sealed old new lines wire st deeds out r t same =
    let p = st.partition in
    let sends = sends_in p deeds in
    let order = order_in deeds in
    let kept = keeps st deeds in
    let answers : out.answers ≡ answers_to st.streams sends = t.answers ∙ ap (λ s. answers_to s sends) r.streams in
    let given : map (message_in out.bodies) out.given ≡ given_from st.heard 0 (inbounds_in deeds) =
    t.given st.heard r.stands ∙ ap (given_from st.heard 0) same in
    let frames : out.sealed ≡ map st.frame (pieces_sent st.address p st.streams sends) =
    sealed_by sealed old new lines wire st deeds out r t in
    record {
      address = t.names.0 ∙ r.address ∙ sym kept.address;
      partition = t.names.1 ∙ r.partition ∙ sym kept.partition;
      frame = ap (λ (net : NetView). frame_of sealed net.keys) t.net ∙ r.frame ∙ sym kept.frame;
      streams = t.streams ∙ ap (λ s. streams_after s sends) r.streams ∙ sym (streams_are st deeds);
      stands = subst (StandsForAll new.host) (ap (heard_after st.heard) same ∙ sym (heard_is st deeds))
          (t.heard st.heard r.stands);
      told = ap (λ ls. ls ++ merged p out.bodies order out.answers 0 out.given) r.told
          ∙ ap (λ more. st.lines ++ more) (merged_is p out.bodies order out.answers 0 out.given)
          ∙ ap (λ as'. st.lines ++ told_in p order as' 0 (map (message_in out.bodies) out.given)) answers
          ∙ ap (λ gs. st.lines ++ told_in p order (answers_to st.streams sends) 0 gs) given
          ∙ sym (lines_are st deeds 0);
      wires = ap (λ w. wire_merged p w order out.answers out.sealed) r.wires
          ∙ ap (λ as'. wire_merged p st.wire order as' out.sealed) answers
          ∙ ap (wire_merged p st.wire order (answers_to st.streams sends)) frames
          ∙ sym (wire_is st deeds);
    }
