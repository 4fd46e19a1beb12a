-- How what is known of a desk goes on: a deed joins its batch, and a turn is made of the batch.
use Rattle.std.proofs.Common.{◌≡◌, ℕ, ◌+◌, ◌-◌, ◌^◌, List, [], ◌∷◌, ◌++◌, length, map, replicate, min, false, refl, sym, ◌∙◌, ap, subst, append-nil, length-append, arith}
use Rattle.std.specs.Prelude.{◌==◌, ◌&&◌}
use Rattle.std.proofs.lemmas.Bool.Decides.{nat_tests}
use Rattle.std.proofs.lemmas.List.{length-map}
use Rattle.levels.specs.declared.level.Party.{Party}
use Rattle.seal_core.specs.Sealing.{Sealer}
use Rattle.net_side.specs.declared.inbound.Inbound.{Inbound}
use Rattle.machine.specs.declared.line.OutLine.{OutLine}
use Rattle.unit_core.specs.Views.{UnitView, OutView, TallyView}
use Rattle.unit_core.specs.Hearing.{AreInbound, given_from, message_in, ours_in}
use Rattle.unit_core.specs.Sending.{pieces_sent}
use Rattle.unit_core.specs.Tallies.{capped, counted}
use Rattle.unit_core.specs.Turns.{Turned}
use Rattle.desk.specs.declared.batch.Waiting.TheVariants.{Send, Frame}
use Rattle.desk.specs.Batches.{Batches, nothing, is_empty, flush, join_send, join_frames}
use Rattle.desk.specs.Wires.{WireView}
use Rattle.desk.specs.Views.{BatchView, DeskView, no_batch}
use Rattle.desk.specs.Deeds.{DeskState, Deed, says, hears, address_in, outgoing, did, does, hearings}
use Rattle.desk.specs.Desks.{sends_in, frames_in, inbounds_in, order_in, Represents, tally_at, At}
use Rattle.desk.specs.inside.Merging.{merged, wire_merged, batch_send, batch_frames}
use Rattle.desk.proofs.Cases.{not_both}
use Rattle.desk.proofs.Doing.{sends_more, frames_more, inbounds_more, order_more, does_more, no_sends, ours_are, sealed_are, given_are, wire_silent}
use Rattle.desk.proofs.Turning.{inbound_more, as_many, heard_frames, heard_inbounds, heard_order, sealed_by, turned}

-- ---- numbers

min_more : (x y most : ℕ) → min (min x most + y) most ≡ min (x + y) most
min_more x y most = omega arith

capped_more : (x y z : ℕ) → x + y ≡ z → capped (capped x + y) ≡ capped z
unfolding capped
capped_more x y z is = min_more x y (2 ^ 64 - 1) ∙ ap (λ n. min n (2 ^ 64 - 1)) is

abbrev pub numbers : ℕ → ℕ → ℕ → ℕ → TallyView
numbers a b c d = record { turns = a; sealed = b; ours = c; given = d }

same_numbers : (a a' b b' c c' d d' : ℕ) → a ≡ a' → b ≡ b' → c ≡ c' → d ≡ d' → numbers a b c d ≡ numbers a' b' c' d'
same_numbers a a' b b' c c' d d' e f g h =
    ap (λ x. numbers x b c d) e ∙ ap (λ x. numbers a' x c d) f ∙ ap (λ x. numbers a' b' x d) g
    ∙ ap (numbers a' b' c') h

-- a turn counts what its deeds do
tallied : (sealed : Sealer) (old new : UnitView) (lines : List OutLine) (wire : WireView) (st : DeskState)
    (deeds : List Deed) (out : OutView) (turns : ℕ)
    → Represents sealed old lines wire st
    → (t : Turned sealed old (sends_in st.partition deeds) (frames_in deeds) new out)
    → t.inbounds ≡ inbounds_in deeds → old.tally ≡ tally_at st turns
    → new.tally ≡ tally_at (does st deeds) (turns + 1)
tallied sealed old new lines wire st deeds out turns r t same was =
    let p = st.partition in
    let pieces = pieces_sent st.address p st.streams (sends_in p deeds) in
    let frames : out.sealed ≡ map st.frame pieces = sealed_by sealed old new lines wire st deeds out r t in
    let rows : length out.given ≡ length (given_from st.heard 0 (inbounds_in deeds)) =
    sym (length-map out.given (message_in out.bodies))
    ∙ ap length (t.given st.heard r.stands ∙ ap (given_from st.heard 0) same) in
    let count : length st.wire.frames + length out.sealed ≡ length (does st deeds).wire.frames =
    sym (length-append st.wire.frames out.sealed) ∙ ap (λ fs. length (st.wire.frames ++ fs)) frames
    ∙ ap length (sym (sealed_are st deeds)) in
    t.tally ∙ ap (λ tally. counted tally (length out.sealed) (ours_in t.inbounds) (length out.given)) was
    ∙ same_numbers _ _ _ _ _ _ _ _
    (capped_more turns 1 (turns + 1) refl)
    (capped_more (length st.wire.frames) (length out.sealed) (length (does st deeds).wire.frames) count)
    (capped_more st.ours (ours_in t.inbounds) (does st deeds).ours (omega (arith, ap ours_in same, ours_are st deeds)))
    (capped_more st.given (length out.given) (does st deeds).given (omega (arith, rows, given_are st deeds 0)))

-- ---- a desk

abbrev pub with_batch : DeskView → BatchView → DeskView
with_batch d b = record { unit = d.unit; lines = d.lines; wire = d.wire; batch = b }

pub at_send : (sealed : Sealer) (d : DeskView) (st : DeskState) (b : Batches) (to : Party) (m : List ℕ)
    → At sealed d st b
    → At sealed (with_batch d (batch_send d.batch (address_in d.unit.host.partition to) to m)) (did st (says to m))
    (join_send (outgoing d.unit.host.partition to m) b)
at_send sealed d st b to m w =
    let x : List Deed = says to m ∷ [] in
    let p = w.start.partition in
    let own : outgoing d.unit.host.partition to m ≡ outgoing p to m = ap (λ q. outgoing q to m) w.now.partition in
    record {
      start = w.start;
      deeds = w.deeds ++ x;
      now = w.now;
      opened = subst (λ fs. AreInbound sealed d.unit.net fs (inbounds_in (w.deeds ++ x)))
          (sym (append-nil (frames_in w.deeds)) ∙ sym (frames_more w.deeds x))
          (subst (AreInbound sealed d.unit.net (frames_in w.deeds))
          (sym (append-nil (inbounds_in w.deeds)) ∙ sym (inbounds_more w.deeds x)) w.opened);
      tally = w.tally;
      order = ap (λ o. o ++ Send to (length m) ∷ []) w.order ∙ sym (order_more w.deeds x);
      sends = ap (λ s. s ++ outgoing d.unit.host.partition to m ∷ []) w.sends
          ∙ ap (λ send. sends_in p w.deeds ++ send ∷ []) own ∙ sym (sends_more p w.deeds x);
      frames = w.frames ∙ sym (append-nil (frames_in w.deeds)) ∙ sym (frames_more w.deeds x);
      open_sends = ap (λ s. s ++ outgoing d.unit.host.partition to m ∷ []) w.open_sends
          ∙ ap (λ send. sends_in p w.deeds ++ send ∷ []) own ∙ sym (sends_more p w.deeds x);
      open_frames = w.open_frames ∙ sym (append-nil (frames_in w.deeds)) ∙ sym (frames_more w.deeds x);
      is = does_more w.start w.deeds x ∙ ap (λ s. did s (says to m)) w.is;
    }

pub at_frames : (sealed : Sealer) (d : DeskView) (st : DeskState) (b : Batches) (frames : List (List ℕ))
    (xs : List Inbound)
    → AreInbound sealed d.unit.net frames xs → At sealed d st b
    → At sealed (with_batch d (batch_frames d.batch frames)) (does st (hearings frames xs)) (join_frames frames b)
at_frames sealed d st b frames xs are w =
    let x = hearings frames xs in
    let p = w.start.partition in
    let many = as_many sealed d.unit.net frames xs are in
    let all_frames : frames_in w.deeds ++ frames ≡ frames_in (w.deeds ++ x) =
    ap (λ fs. frames_in w.deeds ++ fs) (sym (heard_frames frames xs many)) ∙ sym (frames_more w.deeds x) in
    let all_inbounds : inbounds_in w.deeds ++ xs ≡ inbounds_in (w.deeds ++ x) =
    ap (λ is. inbounds_in w.deeds ++ is) (sym (heard_inbounds frames xs many)) ∙ sym (inbounds_more w.deeds x) in
    let all_sends : sends_in p w.deeds ≡ sends_in p (w.deeds ++ x) = sym (append-nil (sends_in p w.deeds))
    ∙ ap (λ s. sends_in p w.deeds ++ s) (sym (no_sends p frames xs)) ∙ sym (sends_more p w.deeds x) in
    record {
      start = w.start;
      deeds = w.deeds ++ x;
      now = w.now;
      opened = subst (λ fs. AreInbound sealed d.unit.net fs (inbounds_in (w.deeds ++ x))) all_frames
          (subst (AreInbound sealed d.unit.net (frames_in w.deeds ++ frames)) all_inbounds
          (inbound_more sealed d.unit.net (frames_in w.deeds) frames (inbounds_in w.deeds) xs w.opened are));
      tally = w.tally;
      order = ap (λ o. o ++ replicate (length frames) Frame) w.order
          ∙ ap (λ o. order_in w.deeds ++ o) (sym (heard_order frames xs many)) ∙ sym (order_more w.deeds x);
      sends = w.sends ∙ all_sends;
      frames = ap (λ fs. fs ++ frames) w.frames ∙ all_frames;
      open_sends = w.open_sends ∙ all_sends;
      open_frames = ap (λ fs. fs ++ frames) w.open_frames ∙ all_frames;
      is = does_more w.start w.deeds x ∙ ap (λ s. does s x) w.is;
    }

is_deed : (p : ℕ) (deeds : List Deed) → (length (order_in deeds) == 0) ≡ false
    → (length (sends_in p deeds) == 0 && length (frames_in deeds) == 0) ≡ false
is_deed p [] h = h
is_deed p (says to m ∷ deeds) h = let some : (length (sends_in p (says to m ∷ deeds)) == 0) ≡ false =
    grind (arith, nat_tests) in rw some refl
is_deed p (hears f x ∷ deeds) h =
    let some : (length (frames_in (hears f x ∷ deeds)) == 0) ≡ false = grind (arith, nat_tests) in
    not_both (length (sends_in p deeds) == 0) _ some

-- the turn of the batch
pub at_turn : (sealed : Sealer) (d : DeskView) (new : UnitView) (out : OutView) (st : DeskState) (b : Batches)
    → ((frames : List (List ℕ)) (xs ys : List Inbound) → AreInbound sealed d.unit.net frames xs
    → AreInbound sealed d.unit.net frames ys → xs ≡ ys)
    → At sealed d st b → (length d.batch.order == 0) ≡ false
    → (t : Turned sealed d.unit d.batch.sends d.batch.frames new out)
    → At sealed (record {
      unit = new;
      lines = d.lines ++ merged d.unit.host.partition out.bodies d.batch.order out.answers 0 out.given;
      wire = wire_merged d.unit.host.partition d.wire d.batch.order out.answers out.sealed;
      batch = no_batch;
    }) st (flush b)
at_turn sealed d new out st b once w busy t =
    let p = w.start.partition in
    let sends = sends_in p w.deeds in
    let frames = frames_in w.deeds in
    let t' : Turned sealed d.unit sends frames new out =
    subst (λ s. Turned sealed d.unit s frames new out) w.sends
    (subst (λ f. Turned sealed d.unit d.batch.sends f new out) w.frames t) in
    let same : t'.inbounds ≡ inbounds_in w.deeds = once frames t'.inbounds (inbounds_in w.deeds) t'.each w.opened in
    let r = turned sealed d.unit new d.lines d.wire w.start w.deeds out w.now t' same in
    let some : is_empty b.batch ≡ false =
    rw (w.open_sends, w.open_frames) (is_deed p w.deeds (ap (λ o. length o == 0) (sym w.order) ∙ busy)) in
    let lines : d.lines ++ merged p out.bodies (order_in w.deeds) out.answers 0 out.given
    ≡ d.lines ++ merged d.unit.host.partition out.bodies d.batch.order out.answers 0 out.given =
    ap (λ q. d.lines ++ merged q out.bodies (order_in w.deeds) out.answers 0 out.given) (sym w.now.partition)
    ∙ ap (λ o. d.lines ++ merged d.unit.host.partition out.bodies o out.answers 0 out.given) (sym w.order) in
    let wires : wire_merged p d.wire (order_in w.deeds) out.answers out.sealed
    ≡ wire_merged d.unit.host.partition d.wire d.batch.order out.answers out.sealed =
    ap (λ q. wire_merged q d.wire (order_in w.deeds) out.answers out.sealed) (sym w.now.partition)
    ∙ ap (λ o. wire_merged d.unit.host.partition d.wire o out.answers out.sealed) (sym w.order) in
    let at : At sealed (record {
      unit = new;
      lines = d.lines ++ merged d.unit.host.partition out.bodies d.batch.order out.answers 0 out.given;
      wire = wire_merged d.unit.host.partition d.wire d.batch.order out.answers out.sealed;
      batch = no_batch;
    }) st (record { batch = nothing; made = b.batch ∷ b.made }) = record {
      start = does w.start w.deeds;
      deeds = [];
      now = subst (λ ls. Represents sealed new ls
          (wire_merged d.unit.host.partition d.wire d.batch.order out.answers out.sealed) (does w.start w.deeds)) lines
          (subst (λ wire. Represents sealed new
          (d.lines ++ merged p out.bodies (order_in w.deeds) out.answers 0 out.given) wire (does w.start w.deeds))
          wires r);
      opened = tt;
      tally = tallied sealed d.unit new d.lines d.wire w.start w.deeds out (length b.made) w.now t' same w.tally
          ∙ ap (tally_at (does w.start w.deeds)) (omega arith);
      order = refl;
      sends = refl;
      frames = refl;
      open_sends = refl;
      open_frames = refl;
      is = w.is;
    } in
    subst (At sealed (record {
      unit = new;
      lines = d.lines ++ merged d.unit.host.partition out.bodies d.batch.order out.answers 0 out.given;
      wire = wire_merged d.unit.host.partition d.wire d.batch.order out.answers out.sealed;
      batch = no_batch;
    }) st) (sym (rw some refl)) at

-- ---- where nothing waits

pub no_order : (deeds : List Deed) → order_in deeds ≡ [] → deeds ≡ []
no_order [] h = refl
no_order (says to m ∷ deeds) h = cc
no_order (hears f x ∷ deeds) h = cc

-- where no deed waits, the desk is at its state now
pub start_now : (sealed : Sealer) (d : DeskView) (st : DeskState) (b : Batches) (w : At sealed d st b) → d.batch
    ≡ no_batch → w.start ≡ st
start_now sealed d st b w idle =
    ap (does w.start) (sym (no_order w.deeds (sym w.order ∙ ap (λ (x : BatchView). x.order) idle))) ∙ w.is

-- where no send waits, all that the party has sent is sealed
pub wire_now : (sealed : Sealer) (d : DeskView) (st : DeskState) (b : Batches) → At sealed d st b → d.batch.sends ≡ []
    → d.wire ≡ st.wire
wire_now sealed d st b w none =
    w.now.wires ∙ sym (wire_silent w.start w.deeds (sym w.sends ∙ none)) ∙ ap (λ (s : DeskState). s.wire) w.is

-- what a unit has counted before its first turn
pub nothing_yet : numbers 0 0 0 0 ≡ numbers (capped 0) (capped 0) (capped 0) (capped 0)
unfolding capped
nothing_yet = refl
