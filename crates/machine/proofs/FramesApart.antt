-- Pieces of different messages to one unit have different frames, by the laws of the sealing.
use Rattle.std.proofs.Common.{◌≡◌, ℕ, ◌-◌, ◌*◌, ◌<◌, ◌≤◌, List, [], ◌∷◌, length, take, drop, true, Option, Some, None, refl, sym, ap, subst, ◌∙◌, inl, inr, arith, length-append, drop_at, zero, suc}
use Rattle.std.specs.Prelude.{slice_get, replicate, min, not, find, ◌==◌, nat_lt}
use Rattle.std.specs.Option.{option_map}
use Rattle.std.specs.List.{AllByRecursion}
use Rattle.std.proofs.lemmas.Bool.Decides.{nat_tests}
use Rattle.std.proofs.lemmas.List.{length-take, length-drop, length-replicate}
use Rattle.levels.specs.declared.level.Partition.{Partition}
use Rattle.levels.specs.declared.level.Party.{Party}
use Rattle.levels.specs.declared.level.Party.TheVariants.{Host, Manager}
use Rattle.levels.specs.declared.level.Sealing.{Sealing}
use Rattle.levels.specs.declared.level.Sealing.TheVariants.{Clear, Des}
use Rattle.levels.specs.declared.rows.HostRow.{HostRow}
use Rattle.levels.specs.Kept.{IsRoster, IsHostRow}
use Rattle.levels.specs.Rosters.{RosterView, host_row, partition_of, is_same_party, is_one_partition, is_same_partition, is_partner}
use Rattle.frame.specs.Pieces.{PieceView, IsPiece, piece_count, pieces, piece_bytes, padded, piece_of}
use Rattle.seal_core.specs.declared.KeyPair.{KeyPair}
use Rattle.seal_core.specs.Blocks.{AreBytes}
use Rattle.seal_core.specs.Sealing.{Sealer, IsSealing}
use Rattle.seal_core.specs.ClearLaws.{clear_laws}
use Rattle.des_cbc.specs.ChainLaws.{des_laws}
use Rattle.seal_core.specs.Parts.{AreBytes-append, AreBytes-drop, AreBytes-take}
use Rattle.frame.specs.Frames.{frame_of}
use Rattle.events.specs.declared.event.Event.{Event}
use Rattle.machine.specs.Setup.{Setup, sealer}
use Rattle.machine.specs.Machine.{address_of, number_of, piece_frame, state}
use Rattle.machine.specs.Laws.{FramesApart, IsSmallMessage, AreSmall}
use Rattle.machine.proofs.InOrder.{nothing_sent}
use Rattle.machine.proofs.Basics.{bool_cases, both}
use Rattle.file_calls.specs.SpellingBytes.{AreBytes-cons, AreBytes-nil}

-- in one partition different pieces have different frames
abbrev pub PiecesApart : Type 0
PiecesApart = (sealed : Sealer) (keys : KeyPair) (x y : PieceView) → IsSealing sealed → IsPiece x → IsPiece y
    → frame_of sealed keys x ≡ frame_of sealed keys y → x ≡ y

-- ---- a piece of a message that fits frames

-- of a message of n bytes, piece i has this many
abbrev used_of : ℕ → ℕ → ℕ
used_of n i = min 88 (n - 88 * i)

length-piece_bytes : (body : List ℕ) (i : ℕ) → length (piece_bytes body i) ≡ used_of (length body) i
unfolding piece_bytes
length-piece_bytes body i =
    length-take 88 (drop (88 * i) body) ∙ ap (min 88) (length-drop (88 * i) body)

-- the numbers of a piece are in their ranges
record Counts (n i : ℕ) : Type 0 where
  within : i ≤ piece_count n - 1
  last : piece_count n - 1 ≤ 63
  full : i < piece_count n - 1 → used_of n i ≡ 88
  some : 0 < piece_count n - 1 → 0 < used_of n i

counts : (n i : ℕ) → n ≤ 5632 → i < piece_count n → Counts n i
unfolding piece_count
counts n i short lt = record {
  within = omega (arith, lt);
  last = omega (arith, short);
  full = λ less. omega (arith, less);
  some = λ more. omega (arith, more, lt);
}

wide : (b : List ℕ) → length b ≤ 88 → length (padded b) ≡ 88
unfolding padded
wide b le =
    length-append b (replicate (88 - length b) 0)
    ∙ omega (arith, le, length-replicate {A = ℕ} (88 - length b) 0)

zeros : (b : List ℕ) → drop (length b) (padded b) ≡ replicate (88 - length b) 0
unfolding padded
zeros b = drop_at b (replicate (88 - length b) 0) (length b) refl

zero_bytes : (n : ℕ) → AreBytes (replicate n 0)
zero_bytes zero = AreBytes-nil
zero_bytes (suc n) = AreBytes-cons 0 (replicate n 0) (omega arith) (zero_bytes n)

payload_bytes : (body : List ℕ) (i : ℕ) → AreBytes body → AreBytes (padded (piece_bytes body i))
unfolding padded piece_bytes
payload_bytes body i bytes =
    AreBytes-append (take 88 (drop (88 * i) body)) (replicate (88 - length (take 88 (drop (88 * i) body))) 0)
    (AreBytes-take 88 (drop (88 * i) body) (AreBytes-drop (88 * i) body bytes))
    (zero_bytes (88 - length (take 88 (drop (88 * i) body))))

pub is_piece : (from to p j : ℕ) (body : List ℕ) (i : ℕ) → from < 256 → to < 256 → p < 256
    → IsSmallMessage j body → i < pieces body → IsPiece (piece_of from to p j body i)
is_piece from to p j body i lf lt lp fits within =
    let c = counts (length body) i fits.short within in
    let used = length-piece_bytes body i in
    let le : length (piece_bytes body i) ≤ 88 = omega (arith, used) in
    record {
      from = lf;
      to = lt;
      message = fits.number;
      partition = lp;
      within = c.within;
      last = c.last;
      full = λ less. used ∙ c.full less;
      some = λ more. (let some = c.some more in omega (arith, used, some));
      used = le;
      wide = wide (piece_bytes body i) le;
      bytes = payload_bytes body i fits.bytes;
      zeros = zeros (piece_bytes body i);
    }

-- ---- parties of one partition have different addresses

row_there : (a : ℕ) (rows : List HostRow) (n : ℕ) (row : HostRow)
    → find (λ (r : HostRow). r.address == a) rows ≡ Some row → AllByRecursion (IsHostRow n) rows
    → (row.address ≡ a) × IsHostRow n row
row_there a [] n row is all = cc
row_there a (first ∷ rows) n row is all = elim (bool_cases (first.address == a)) [
  | inl here ↦ (let t = rw here at is in let same : first ≡ row = cc in
      let number : first.address ≡ a = grind (arith, nat_tests) in
      (ap (λ (r : HostRow). r.address) (sym same) ∙ number, subst (IsHostRow n) same all.0))
  | inr other ↦ row_there a rows n row (rw other at is) all.1
]

pub known_host : (roster : RosterView) (a : ℕ) (o : Option HostRow) → host_row roster a ≡ o → IsRoster roster
    → (p : Partition) → option_map (λ (row : HostRow). row.partition) o ≡ Some p
    → (1 ≤ a) × (a ≤ 250) × (p.0 < 16)
known_host roster a None there is p known = cc
known_host roster a (Some row) there is p known =
    let t = row_there a roster.hosts (length roster.levels) row there is.hosts in
    let same : row.partition ≡ p = cc in
    let number : row.partition.0 ≡ p.0 = ap (λ (q : Partition). q.0) same in
    let address : row.address ≡ a = t.0 in
    let least : 1 ≤ row.address = t.1.least in let most : row.address ≤ 250 =
    t.1.most in let inside : row.partition.0 < length roster.levels =
    t.1.partition in let room : length roster.levels ≤ 16 = is.level_room in
    (omega arith, omega arith, omega arith)

pub known_manager : (roster : RosterView) (q p : Partition) → IsRoster roster
    → partition_of roster (Manager q) ≡ Some p → (q ≡ p) × (p.0 < 16)
known_manager roster q p is known = elim (bool_cases (nat_lt q.0 (length roster.levels))) [
  | inl inside ↦ (let t = rw inside at known in let same : q ≡ p = cc in
      let lt : q.0 < length roster.levels = grind (arith, nat_tests) in let room : length roster.levels ≤ 16 =
      is.level_room in
      let number : q.0 ≡ p.0 = ap (λ (r : Partition). r.0) same in (same, omega arith))
  | inr past ↦ (let t = rw past at known in cc)
]

-- a party of the roster
pub record IsKnown (roster : RosterView) (s : Party) (p : Partition) : Type 0 where
  pub partition : partition_of roster s ≡ Some p
  pub number : p.0 < 256
  pub address : address_of s < 256

pub known : (roster : RosterView) (s : Party) (p : Partition) → IsRoster roster → partition_of roster s ≡ Some p
    → IsKnown roster s p
known roster (Host a) p is there = let t = known_host roster a (host_row roster a) refl is p there in
    record { partition = there; number = omega (arith, t); address = omega (arith, t) }
known roster (Manager q) p is there =
    let t = known_manager roster q p is there in
    record { partition = there; number = omega (arith, t); address = omega arith }

pub one_party : (roster : RosterView) (s s' : Party) (p p' : Partition) → IsRoster roster
    → partition_of roster s ≡ Some p → partition_of roster s' ≡ Some p' → p.0 ≡ p'.0
    → address_of s ≡ address_of s' → s ≡ s'
one_party roster (Host a) (Host b) p p' is there there' number address = ap Host address
one_party roster (Manager q) (Manager q') p p' is there there' number address =
    let one : q.0 ≡ p.0 = ap (λ (r : Partition). r.0) (known_manager roster q p is there).0 in
    let other : q'.0 ≡ p'.0 = ap (λ (r : Partition). r.0) (known_manager roster q' p' is there').0 in
    let same : q.0 ≡ q'.0 = omega arith in ap (λ n. Manager (record { 0 = n })) same
one_party roster (Host a) (Manager q) p p' is there there' number address = let least =
    (known_host roster a (host_row roster a) refl is p there).0 in absurd (omega (arith, least))
one_party roster (Manager q) (Host a) p p' is there there' number address = let least =
    (known_host roster a (host_row roster a) refl is p' there').0 in absurd (omega (arith, least))

-- partners have one partition
pub record InOne (roster : RosterView) (s u : Party) : Type 0 where
  pub p : Partition
  pub q : Partition
  pub there : partition_of roster s ≡ Some p
  pub there' : partition_of roster u ≡ Some q
  pub same : p.0 ≡ q.0

in_one_of : (roster : RosterView) (s u : Party) (o o' : Option Partition) → partition_of roster s ≡ o
    → partition_of roster u ≡ o' → is_one_partition o o' ≡ true → InOne roster s u
in_one_of roster s u (Some p) (Some q) is is' h =
    record { p = p; q = q; there = is; there' = is'; same = grind (arith, nat_tests) }
in_one_of roster s u None o' is is' h = cc
in_one_of roster s u (Some p) None is is' h = cc

pub in_one : (roster : RosterView) (s u : Party) → is_partner roster s u ≡ true → InOne roster s u
in_one roster s u h =
    in_one_of roster s u (partition_of roster s) (partition_of roster u) refl refl
    (both (not (is_same_party s u)) (is_same_partition roster s u) h).1

pub partners_of_sent : (m : Setup) (past : List Event) (s u : Party) (j : ℕ) (body : List ℕ)
    → slice_get ((state m past).sent s u) j ≡ Some body → is_partner m.roster s u ≡ true
partners_of_sent m past s u j body is = elim (bool_cases (is_partner m.roster s u)) [
  | inl partners ↦ partners
  | inr apart ↦ (let none = ap (λ (ms : List (List ℕ)). slice_get ms j) (nothing_sent m past s u apart) in cc)
]

-- the frame of a piece of a message that was sent, with the partition of its sender
the_frame : (m : Setup) (s u : Party) (p : Partition) (j : ℕ) (body : List ℕ) (i : ℕ)
    → partition_of m.roster s ≡ Some p
    → piece_frame m s u j body i
    ≡ frame_of m.sealed (m.keys p.0) (piece_of (address_of s) (address_of u) p.0 j body i)
the_frame m s u p j body i there =
    ap (λ (o : Option Partition). frame_of m.sealed (m.keys (number_of o))
    (piece_of (address_of s) (address_of u) (number_of o) j body i)) there

pub frames_apart : PiecesApart → (m : Setup) (past : List Event) → IsSealing m.sealed → IsRoster m.roster
    → AreSmall (state m past) → FramesApart m (state m past)
frames_apart apart m past laws is small = λ s s' u j j' i i' bytes a b. (
    let one = in_one m.roster s u (partners_of_sent m past s u j a.body a.sent) in
    let other = in_one m.roster s' u (partners_of_sent m past s' u j' b.body b.sent) in
    let met : one.q ≡ other.q = let e = sym one.there' ∙ other.there' in cc in
    let number : one.p.0 ≡ other.p.0 = one.same ∙ ap (λ (q : Partition). q.0) met ∙ sym other.same in
    let k = known m.roster s one.p is one.there in
    let k' = known m.roster s' other.p is other.there in
    let to = known m.roster u one.q is one.there' in
    let x = piece_of (address_of s) (address_of u) one.p.0 j a.body i in
    let y = piece_of (address_of s') (address_of u) other.p.0 j' b.body i' in
    let same : frame_of m.sealed (m.keys one.p.0) x ≡ frame_of m.sealed (m.keys one.p.0) y =
    sym (the_frame m s u one.p j a.body i one.there) ∙ sym a.same ∙ b.same
    ∙ the_frame m s' u other.p j' b.body i' other.there
    ∙ ap (λ n. frame_of m.sealed (m.keys n) y) (sym number) in
    let x_fits = is_piece (address_of s) (address_of u) one.p.0 j a.body i k.address to.address k.number
    (small s u j a.body a.sent) a.piece in
    let y_fits = is_piece (address_of s') (address_of u) other.p.0 j' b.body i' k'.address to.address k'.number
    (small s' u j' b.body b.sent) b.piece in
    let one_piece : x ≡ y = apart m.sealed (m.keys one.p.0) x y laws x_fits y_fits same in
    let address : address_of s ≡ address_of s' = ap (λ (z : PieceView). z.from) one_piece in (
      one_party m.roster s s' one.p other.p is one.there other.there number address,
      ap (λ (z : PieceView). z.message) one_piece,
      ap (λ (z : PieceView). z.piece) one_piece,
    ))

-- both sealings keep the laws
pub sealer_seals : (sealing : Sealing) → IsSealing (sealer sealing)
unfolding sealer
sealer_seals Clear = clear_laws
sealer_seals Des = des_laws
