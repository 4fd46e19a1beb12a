-- What calls of a desk do, one after another.
use Rattle.std.proofs.Common.{◌≡◌, ◌≢◌, ℕ, List, [], ◌∷◌, ◌++◌, length, map, false, refl, sym, ◌∙◌, ap, subst, arith}
use Rattle.std.specs.Prelude.{◌==◌, OnOk, Result, Ok, Err}
use Rattle.std.proofs.lemmas.Bool.Decides.{nat_tests}
use Rattle.levels.specs.declared.level.Party.{Party}
use Rattle.seal_core.specs.Sealing.{Sealer}
use Rattle.frame.specs.Frames.{frame_of}
use Rattle.net_side.specs.declared.inbound.Inbound.{Inbound}
use Rattle.machine.specs.declared.line.OutLine.{OutLine}
use Rattle.unit_core.specs.Views.{UnitView, OutView}
use Rattle.unit_core.specs.Hearing.{AreInbound, kind_of}
use Rattle.unit_core.specs.Turns.{Turned}
use Rattle.unit_core.specs.declared.rows.FrameKind.{FrameKind}
use Rattle.desk.specs.Batches.{Batches, flush, flush_where, is_full_for, join_send, join_or_flush_send, join_frames, join_or_flush}
use Rattle.desk.specs.Wires.{WireView}
use Rattle.desk.specs.Views.{BatchView, DeskView, no_batch}
use Rattle.desk.specs.Deeds.{DeskState, says, address_in, outgoing, did, does, hearings}
use Rattle.desk.specs.Desks.{sends_in, frames_in, Represents, tally_at, At, Moves, Hears, HaveKinds, HearsAlone, same, told_nothing}
use Rattle.desk.specs.inside.Merging.{merged, wire_merged, batch_send, batch_frames}
use Rattle.desk.proofs.Doing.{keeps}
use Rattle.desk.proofs.Moving.{with_batch, at_send, at_frames, at_turn, no_order, start_now}

-- ---- results

pub both_ok : {A E : Type 0} {P Q R : Type 0} (r : Result A E) → (P → Q → R) → OnOk r P → OnOk r Q → OnOk r R
both_ok (Ok a) f p q = f p q
both_ok (Err e) f p q = tt

-- ---- one call after another

pub then : (sealed : Sealer) (f f' : DeskState → DeskState) (g g' : Batches → Batches) (a b c : DeskView)
    → Moves sealed f g a b → Moves sealed f' g' b c → Moves sealed (λ st. f' (f st)) (λ x. g' (g x)) a c
then sealed f f' g g' a b c first second = record {
  net = second.net ∙ first.net;
  at = λ st x w. second.at (f st) (g x) (first.at st x w);
}

-- a unit has the names of its state
pub address_at : (sealed : Sealer) (d : DeskView) (st : DeskState) (b : Batches) → At sealed d st b
    → d.unit.host.address ≡ st.address
address_at sealed d st b w =
    w.now.address ∙ sym (keeps w.start w.deeds).address ∙ ap (λ (s : DeskState). s.address) w.is

pub partition_at : (sealed : Sealer) (d : DeskView) (st : DeskState) (b : Batches) → At sealed d st b
    → d.unit.host.partition ≡ st.partition
partition_at sealed d st b w =
    w.now.partition ∙ sym (keeps w.start w.deeds).partition ∙ ap (λ (s : DeskState). s.partition) w.is

pub frame_at : (sealed : Sealer) (d : DeskView) (st : DeskState) (b : Batches) → At sealed d st b
    → frame_of sealed d.unit.net.keys ≡ st.frame
frame_at sealed d st b w =
    w.now.frame ∙ sym (keeps w.start w.deeds).frame ∙ ap (λ (s : DeskState). s.frame) w.is

-- ---- a deed joins

pub send_joins : (sealed : Sealer) (d old : DeskView) (batch : BatchView) (a : ℕ) (to : Party) (m : List ℕ)
    → d ≡ old → a ≡ address_in d.unit.host.partition to → batch ≡ batch_send d.batch a to m
    → Moves sealed (λ st. did st (says to m)) (join_send (outgoing old.unit.host.partition to m)) old
    (with_batch d batch)
send_joins sealed d old batch a to m is own joined =
    let whole : with_batch old (batch_send old.batch (address_in old.unit.host.partition to) to m)
    ≡ with_batch d batch =
    ap (λ (v : DeskView). with_batch v (batch_send v.batch (address_in v.unit.host.partition to) to m)) (sym is)
    ∙ ap (λ x. with_batch d (batch_send d.batch x to m)) (sym own)
    ∙ ap (with_batch d) (sym joined) in
    record {
      net = ap (λ (v : DeskView). v.unit.net) is;
      at = λ st b w. subst (λ v. At sealed v (did st (says to m))
          (join_send (outgoing old.unit.host.partition to m) b)) whole
          (at_send sealed old st b to m w);
    }

pub send_after : (sealed : Sealer) (old mid new : DeskView) (to : Party) (m : List ℕ)
    → Moves sealed same (λ b. flush_where (length b.batch.sends == 4) b) old mid
    → Moves sealed (λ st. did st (says to m)) (join_send (outgoing mid.unit.host.partition to m)) mid new
    → Moves sealed (λ st. did st (says to m)) (join_or_flush_send (outgoing old.unit.host.partition to m)) old new
send_after sealed old mid new to m first second = record {
  net = second.net ∙ first.net;
  at = λ st b w.
      let room = flush_where (length b.batch.sends == 4) b in
      let v = first.at st b w in
      let own : mid.unit.host.partition ≡ old.unit.host.partition = partition_at sealed mid st room v
      ∙ sym (partition_at sealed old st b w) in
      subst (λ p. At sealed new (did st (says to m)) (join_send (outgoing p to m) room)) own (second.at st room v);
}

pub frames_join : (sealed : Sealer) (d old : DeskView) (batch : BatchView) (frames : List (List ℕ))
    → d ≡ old → batch ≡ batch_frames d.batch frames
    → Hears sealed frames (join_frames frames) old (with_batch d batch)
frames_join sealed d old batch frames is joined xs are =
    let whole : with_batch old (batch_frames old.batch frames) ≡ with_batch d batch =
    ap (λ (v : DeskView). with_batch v (batch_frames v.batch frames)) (sym is) ∙ ap (with_batch d) (sym joined) in
    record {
      net = ap (λ (v : DeskView). v.unit.net) is;
      at = λ st b w. subst (λ v. At sealed v (does st (hearings frames xs)) (join_frames frames b)) whole
          (at_frames sealed old st b frames xs are w);
    }

pub frames_after : (sealed : Sealer) (old mid new : DeskView) (frames : List (List ℕ))
    → (length frames == 0) ≡ false
    → Moves sealed same (λ b. flush_where (is_full_for (length frames) b) b) old mid
    → Hears sealed frames (join_frames frames) mid new
    → Hears sealed frames (join_or_flush frames) old new
frames_after sealed old mid new [] some first second xs are = absurd (grind (arith, nat_tests, some))
frames_after sealed old mid new (frame ∷ frames) some first second xs are =
    then sealed same (λ st. does st (hearings (frame ∷ frames) xs))
    (λ b. flush_where (is_full_for (length (frame ∷ frames)) b) b) (join_frames (frame ∷ frames)) old mid new
    first (second xs (subst (λ net. AreInbound sealed net (frame ∷ frames) xs) (sym first.net) are))

-- ---- turns

pub turn : (sealed : Sealer) (d old : DeskView) (new : UnitView) (lines : List OutLine) (wire : WireView)
    (batch : BatchView) (out : OutView) (p : ℕ)
    → ((frames : List (List ℕ)) (xs ys : List Inbound) → AreInbound sealed d.unit.net frames xs
    → AreInbound sealed d.unit.net frames ys → xs ≡ ys)
    → d ≡ old → d.unit.host.partition ≡ p → (length d.batch.order == 0) ≡ false
    → Turned sealed d.unit d.batch.sends d.batch.frames new out
    → lines ≡ d.lines ++ merged p out.bodies d.batch.order out.answers 0 out.given
    → wire ≡ wire_merged p d.wire d.batch.order out.answers out.sealed
    → batch ≡ no_batch
    → Moves sealed same flush old (record { unit = new; lines = lines; wire = wire; batch = batch })
turn sealed d old new lines wire batch out p once is own busy t told wires none =
    let own_lines : d.lines ++ merged d.unit.host.partition out.bodies d.batch.order out.answers 0 out.given ≡ lines =
    ap (λ q. d.lines ++ merged q out.bodies d.batch.order out.answers 0 out.given) own ∙ sym told in
    let own_wire : wire_merged d.unit.host.partition d.wire d.batch.order out.answers out.sealed ≡ wire =
    ap (λ q. wire_merged q d.wire d.batch.order out.answers out.sealed) own ∙ sym wires in
    record {
      net = t.net ∙ ap (λ (v : DeskView). v.unit.net) is;
      at = λ st b w.
          let made = at_turn sealed d new out st b once (subst (λ v. At sealed v st b) (sym is) w) busy t in
          subst (λ x. At sealed (record { unit = new; lines = lines; wire = wire; batch = x }) st (flush b)) (sym none)
          (subst (λ x. At sealed (record { unit = new; lines = lines; wire = x; batch = no_batch }) st (flush b))
          own_wire
          (subst (λ x. At sealed
          (record {
            unit = new;
            lines = x;
            wire =
                wire_merged d.unit.host.partition d.wire d.batch.order out.answers out.sealed;
            batch = no_batch;
          }) st
          (flush b)) own_lines made));
    }

alone : (sealed : Sealer) (frames : List (List ℕ)) (kinds : List FrameKind) (old first second new : DeskView)
    (xs : List Inbound)
    → AreInbound sealed second.unit.net frames xs
    → (frames ≢ [] → kinds ≡ map kind_of xs)
    → Moves sealed same flush old first → Hears sealed frames (join_or_flush frames) first second → second.unit.net
    ≡ first.unit.net
    → Moves sealed same flush second new
    → HearsAlone sealed frames kinds old new
alone sealed frames kinds old first second new xs are kinds_are a b net c =
    let at_first = subst (λ n. AreInbound sealed n frames xs) net are in
    let at_old = subst (λ n. AreInbound sealed n frames xs) a.net at_first in
    record {
      inbounds = xs;
      each = at_old;
      same = kinds_are;
      moves = then sealed (λ st. does st (hearings frames xs)) same
          (λ x. join_or_flush frames (flush x)) flush old second new
          (then sealed same (λ st. does st (hearings frames xs)) flush (join_or_flush frames) old first second a
          (b xs at_first)) c;
    }

is_some : (d : DeskView) (frame : List ℕ) (frames : List (List ℕ)) → d.batch.frames ≡ frame ∷ frames
    → d.batch ≢ no_batch
is_some d frame frames is none = let no : frame ∷ frames ≡ [] = sym is ∙ ap (λ (b : BatchView). b.frames) none in cc

pub heard_alone : (sealed : Sealer) (frames : List (List ℕ)) (kinds : List FrameKind) (old first second new : DeskView)
    → Moves sealed same flush old first → first.batch ≡ no_batch
    → Hears sealed frames (join_or_flush frames) first second → (first.batch ≡ no_batch → second.batch.frames ≡ frames)
    → second.unit.net ≡ first.unit.net
    → Moves sealed same flush second new
    → (second.batch ≢ no_batch → HaveKinds sealed second.unit.net second.batch.frames kinds)
    → HearsAlone sealed frames kinds old new
heard_alone sealed [] kinds old first second new a none b joined net c each =
    alone sealed [] kinds old first second new [] tt (λ some. absurd (some refl)) a b net c
heard_alone sealed (frame ∷ frames) kinds old first second new a none b joined net c each =
    let open_frames = joined none in
    let kinds_are = each (is_some second frame frames open_frames) in
    alone sealed (frame ∷ frames) kinds old first second new kinds_are.inbounds
    (subst (λ fs. AreInbound sealed second.unit.net fs kinds_are.inbounds) open_frames kinds_are.each)
    (λ some. kinds_are.same) a b net c

-- ---- lines are forgotten

pub forgotten : (sealed : Sealer) (d old : DeskView) (lines : List OutLine) → d ≡ old → lines ≡ [] → old.batch
    ≡ no_batch
    → Moves sealed told_nothing (λ b. b) old (record { unit = d.unit; lines = lines; wire = d.wire; batch = d.batch })
forgotten sealed d old lines is none idle = record {
  net = ap (λ (v : DeskView). v.unit.net) is;
  at = λ st b v.
      let w = subst (λ x. At sealed x st b) (sym is) v in
      let empty : d.batch ≡ no_batch = ap (λ (x : DeskView). x.batch) is ∙ idle in
      let start = start_now sealed d st b w empty in
      let no_deeds = no_order w.deeds (sym w.order ∙ ap (λ (x : BatchView). x.order) empty) in
      let r = subst (Represents sealed d.unit d.lines d.wire) start w.now in
      record {
        start = told_nothing st;
        deeds = [];
        now = record {
          address = r.address;
          partition = r.partition;
          frame = r.frame;
          streams = r.streams;
          stands = r.stands;
          told = none;
          wires = r.wires;
        };
        opened = tt;
        tally = w.tally ∙ ap (λ s. tally_at s (length b.made)) start;
        order = ap (λ (x : BatchView). x.order) empty;
        sends = ap (λ (x : BatchView). x.sends) empty;
        frames = ap (λ (x : BatchView). x.frames) empty;
        open_sends = w.open_sends ∙ ap (sends_in w.start.partition) no_deeds;
        open_frames = w.open_frames ∙ ap frames_in no_deeds;
        is = refl;
      };
}
