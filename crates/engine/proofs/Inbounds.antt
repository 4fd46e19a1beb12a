-- What the frame of a piece that was sent is to a unit.
use Rattle.std.proofs.Common.{◌≡◌, ◌≢◌, ℕ, List, [], ◌∷◌, ◌&&◌, map, Bool, true, refl, sym, ap, ap₂, ◌∙◌, arith}
use Rattle.std.specs.Prelude.{◌==◌, slice_index}
use Rattle.std.specs.List.{AllByRecursion}
use Rattle.std.proofs.lemmas.Bool.Decides.{nat_tests}
use Rattle.levels.specs.declared.level.Party.{Party}
use Rattle.levels.specs.Rosters.{is_partner}
use Rattle.seal_core.specs.declared.KeyPair.{KeyPair}
use Rattle.seal_core.specs.Sealing.{Sealer}
use Rattle.frame.specs.Pieces.{PieceView, piece_of}
use Rattle.frame.specs.Frames.{header, frame_of}
use Rattle.events.specs.declared.event.Event.{Event}
use Rattle.events.specs.Scripts.{is_known}
use Rattle.net_side.specs.NetView.{NetView}
use Rattle.net_side.specs.Nets as net_side
use Rattle.net_side.specs.Nets.{IsInbound}
use Rattle.net_side.specs.declared.inbound.Inbound.{Inbound}
use Rattle.net_side.specs.declared.inbound.Inbound.TheVariants.{Foreign, Closed, Malformed, NotMine, Ours}
use Rattle.unit_core.specs.Hearing.{AreInbound}
use Rattle.machine.specs.Setup.{Setup}
use Rattle.machine.specs.Machine.{address_of, state}
use Rattle.machine.specs.FalseBytes.{IsSentFrame}
use Rattle.desk.specs.Deeds.{DeskState, heard, does, hearings}
use Rattle.engine.specs.Turns.{partition_number}
use Rattle.engine.specs.States.{peer, NetIs}
use Rattle.engine.proofs.Cases.{yes}
use Rattle.engine.specs.inside.Facts.{Laws, Fits}
use Rattle.engine.proofs.Peers.{peer_is}

-- frames of one text are of one partition
header_of : (sealed sealed' : Sealer) (keys keys' : KeyPair) (x y : PieceView)
    → frame_of sealed keys x ≡ frame_of sealed' keys' y → x.partition ≡ y.partition
unfolding frame_of header
header_of sealed sealed' keys keys' x y same = ap (λ bytes. slice_index bytes 3) same

-- the piece of a frame that was sent
abbrev pub its_piece : Setup → Party → Party → ℕ → List ℕ → ℕ → PieceView
its_piece m s r j body i =
    piece_of (address_of s) (address_of r) (partition_number m s) j body i

-- a frame of a stream to u is its own
pub own_inbound : Laws → (m : Setup) (past : List Event) (net : NetView) (s u : Party) (j i : ℕ)
    (bytes : List ℕ) → Fits m past → NetIs m u net
    → (f : IsSentFrame m (state m past) s u j i bytes)
    → IsInbound m.sealed net bytes (Ours (its_piece m s u j f.body i))
own_inbound laws m past net s u j i bytes fits is f =
    let partners = laws.partner m past s u j f.body f.sent in
    let number : partition_number m s ≡ partition_number m u =
    laws.one_partition m.roster s u partners in
    let x = its_piece m s u j f.body i in
    let piece = laws.sent_piece m past s u j i f.body fits.roster fits.small f.sent f.piece in
    let keys : m.keys (partition_number m s) ≡ net.keys = ap m.keys number ∙ sym is.keys in
    let known = laws.both_known m.roster s u partners in
    let own_partition : x.partition ≡ net.partition = number ∙ sym is.partition in
    let own_address : x.to ≡ net.address = sym is.address in
    let seen : peer m u (address_of s) ≡ s =
    peer_is laws m u s fits.roster (laws.back m.roster u s ∙ partners) in
    let from : net_side.is_partner net (address_of s) ≡ true =
    is.partners (address_of s) (laws.address m.roster s fits.roster known.0)
    ∙ ap (is_partner m.roster u) seen ∙ laws.back m.roster u s ∙ partners in (
      record {
        piece = piece;
        own = own_partition;
        same = f.same ∙ ap (λ k. frame_of m.sealed k x) keys;
      },
      rw (yes x.to net.address own_address, yes x.partition net.partition own_partition, from) refl,
    )

-- nothing that it hears changes a desk
abbrev pub IsSilent : Inbound → Type 0
IsSilent w = (st : DeskState) → heard st w ≡ st

-- a frame of a stream to another is no unit's own
pub not_own : Laws → (m : Setup) (past : List Event) (net : NetView) (s r u : Party) (j i : ℕ)
    (bytes : List ℕ) (y : PieceView) → Fits m past → NetIs m u net → is_known m.roster u ≡ true
    → IsSentFrame m (state m past) s r j i bytes → r ≢ u
    → ¬ IsInbound m.sealed net bytes (Ours y)
not_own laws m past net s r u j i bytes y fits is known_u f differ w =
    let partners = laws.partner m past s r j f.body f.sent in
    let known = laws.both_known m.roster s r partners in
    let x = its_piece m s r j f.body i in
    let piece = laws.sent_piece m past s r j i f.body fits.roster fits.small f.sent f.piece in
    let same : frame_of m.sealed (m.keys (partition_number m s)) x ≡ frame_of m.sealed net.keys y =
    sym f.same ∙ w.0.same in
    let number : partition_number m s ≡ partition_number m u =
    header_of m.sealed m.sealed (m.keys (partition_number m s)) net.keys x y same
    ∙ w.0.own ∙ is.partition in
    let keys : net.keys ≡ m.keys (partition_number m s) = is.keys ∙ ap m.keys (sym number) in
    let one : x ≡ y = laws.frames m.sealed (m.keys (partition_number m s)) x y fits.sealing piece
    w.0.piece (same ∙ ap (λ k. frame_of m.sealed k y) keys) in
    let to : (y.to == net.address) ≡ true = first (y.to == net.address)
    (y.partition == net.partition) (net_side.is_partner net y.from) w.1 in
    let address : address_of r ≡ address_of u =
    ap (λ (z : PieceView). z.to) one ∙ same_number y.to net.address to ∙ is.address in
    differ (laws.place m.roster r u fits.roster known.1 known_u
    (sym (laws.one_partition m.roster s r partners) ∙ number) address)
  where
    first : (a b c : Bool) → (a && b && c) ≡ true → a ≡ true
    first a b c all = grind (arith, nat_tests)

    same_number : (a b : ℕ) → (a == b) ≡ true → a ≡ b
    same_number a b h = grind (arith, nat_tests)

pub other_silent : Laws → (m : Setup) (past : List Event) (net : NetView) (s r u : Party) (j i : ℕ)
    (bytes : List ℕ) (w : Inbound) → Fits m past → NetIs m u net → is_known m.roster u ≡ true
    → IsSentFrame m (state m past) s r j i bytes → r ≢ u → IsInbound m.sealed net bytes w
    → IsSilent w
other_silent laws m past net s r u j i bytes Foreign fits is known f differ w = λ st. refl
other_silent laws m past net s r u j i bytes Closed fits is known f differ w = λ st. refl
other_silent laws m past net s r u j i bytes Malformed fits is known f differ w = λ st. refl
other_silent laws m past net s r u j i bytes NotMine fits is known f differ w = λ st. refl
other_silent laws m past net s r u j i bytes (Ours y) fits is known f differ w =
    absurd (not_own laws m past net s r u j i bytes y fits is known f differ w)

-- ---- lists of frames

pub all_silent : (frames : List (List ℕ)) (ws : List Inbound) (st : DeskState)
    → AllByRecursion IsSilent ws → does st (hearings frames ws) ≡ st
all_silent [] ws st all = refl
all_silent (f ∷ frames) [] st all = refl
all_silent (f ∷ frames) (w ∷ ws) st all =
    ap (λ s. does s (hearings frames ws)) (all.0 st) ∙ all_silent frames ws st all.1

-- all frames are of pieces to another
pub others_silent : (sealed : Sealer) (net : NetView) (g : ℕ → List ℕ) (places : List ℕ)
    (ws : List Inbound) (P : ℕ → Type 0)
    → ((i : ℕ) (w : Inbound) → P i → IsInbound sealed net (g i) w → IsSilent w)
    → AllByRecursion P places → AreInbound sealed net (map g places) ws
    → AllByRecursion IsSilent ws
others_silent sealed net g [] [] P each all are = tt
others_silent sealed net g [] (w ∷ ws) P each all are = absurd are
others_silent sealed net g (i ∷ places) [] P each all are = absurd are
others_silent sealed net g (i ∷ places) (w ∷ ws) P each all are =
    (each i w all.0 are.0, others_silent sealed net g places ws P each all.1 are.1)

-- all frames are of pieces to the unit
pub all_own : (sealed : Sealer) (net : NetView) (g : ℕ → List ℕ) (x : ℕ → PieceView)
    (places : List ℕ) (ws : List Inbound) (P : ℕ → Type 0)
    → ((i : ℕ) (w : Inbound) → P i → IsInbound sealed net (g i) w → w ≡ Ours (x i))
    → AllByRecursion P places → AreInbound sealed net (map g places) ws
    → ws ≡ map (λ i. Ours (x i)) places
all_own sealed net g x [] [] P each all are = refl
all_own sealed net g x [] (w ∷ ws) P each all are = absurd are
all_own sealed net g x (i ∷ places) [] P each all are = absurd are
all_own sealed net g x (i ∷ places) (w ∷ ws) P each all are =
    ap₂ (λ (v : Inbound) (vs : List Inbound). v ∷ vs) (each i w all.0 are.0)
    (all_own sealed net g x places ws P each all.1 are.1)
