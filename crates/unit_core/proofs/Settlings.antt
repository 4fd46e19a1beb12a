-- What is on its way, taken over piece by piece once both ends are in one thread.
use Rattle.std.proofs.Common.{◌≡◌, ℕ, ◌+◌, ◌≤◌, ◌<◌, List, [], ◌∷◌, ◌++◌, length, drop, true, Option, Some, None, refl, sym, ap, ap₂, subst, ◌∙◌, arith, add-zero, append-nil, append_assoc, length-append}
use Rattle.std.specs.Prelude.{option_to_list}
use Rattle.std.specs.List.{AllByRecursion}
use Rattle.std.proofs.Math.Seq.{drop-length}
use Rattle.seal_core.specs.declared.KeyPair.{KeyPair}
use Rattle.seal_core.specs.Sealing.{Sealer}
use Rattle.frame.specs.Pieces.{PieceView}
use Rattle.host_side.specs.HostView.{HostView}
use Rattle.host_side.specs.Hosts.{is_for}
use Rattle.ring_link.specs.Links.{received_at, sent_towards, backlog_towards, pending_towards, IsLinked, IsSettled, SameLink, SameTowards}
use Rattle.ring_link.specs.declared.gate.Side.{Side}
use Rattle.ring_link.specs.declared.gate.Side.TheVariants.{Host, Net}
use Rattle.ring_link.specs.declared.link.Link.{Link}
use Rattle.unit_core.specs.declared.parts.NetOut.{NetOut}
use Rattle.unit_core.specs.inside.Messages.{MessagesView, AreFew}
use Rattle.unit_core.specs.inside.Ours.{AreMine}
use Rattle.unit_core.specs.inside.Ends.{InOrder, SameMemory}
use Rattle.unit_core.specs.inside.Sides.{Hears, Seals}
use Rattle.unit_core.proofs.Hearings.{hears_none, hears_both, same_test}
use Rattle.unit_core.proofs.Openings.{seals_none, seals_both}

-- ---- links that are settled further

pub linked_still : (a b : Link) → SameLink a b → IsLinked a → IsLinked b
linked_still a b same linked = search

pub same_link : (a : Link) → SameLink a a
same_link a = search

pub same_link_both : (a b c : Link) → SameLink a b → SameLink b c → SameLink a c
same_link_both a b c first second = search

pub same_memory : (a : Link) → SameMemory a a
same_memory a = record { host = refl; net = refl }

pub same_memory_both : (a b c : Link) → SameMemory a b → SameMemory b c → SameMemory a c
same_memory_both a b c first second = record {
  host = second.host ∙ first.host;
  net = second.net ∙ first.net;
}

pub same_towards : (side : Side) (a : Link) → SameTowards side a a
same_towards side a = record { received = refl; sent = refl; backlog = refl }

pub same_towards_both : (side : Side) (a b c : Link) → SameTowards side a b → SameTowards side b c
    → SameTowards side a c
same_towards_both side a b c first second = record {
  received = second.received ∙ first.received;
  sent = second.sent ∙ first.sent;
  backlog = second.backlog ∙ first.backlog;
}

pub settled_still : (side : Side) (a b : Link) → SameTowards side a b → IsSettled side a → IsSettled side b
settled_still side a b same settled = record {
  received = same.received ∙ settled.received ∙ sym same.sent;
  backlog = same.backlog ∙ settled.backlog;
}

none_left : (received sent backlog : List PieceView) → received ≡ sent → backlog ≡ []
    → drop (length received) sent ++ backlog ≡ []
none_left received sent backlog all empty =
    rw (empty, append-nil) (ap (λ xs. drop (length xs) sent) all ∙ drop-length sent)

-- nothing is on its way towards a side that is settled
pub none_pending : (side : Side) (link : Link) → IsSettled side link → pending_towards side link ≡ []
none_pending side link settled =
    none_left (received_at side link) (sent_towards side link) (backlog_towards side link) settled.received
    settled.backlog

-- ---- the host's side

-- Of all these pieces the host's side has heard the first ones, and these are left.
pub record HearsOn (first now : HostView) (heard number : ℕ) (all left : List PieceView)
    (before after : MessagesView) : Type 0 where
  pub done : List PieceView
  pub hears : Hears first now heard done before after
  pub split : done ++ left ≡ all
  pub count : number ≡ heard + length done

pub hears_on_none : (host : HostView) (heard : ℕ) (all left : List PieceView) (messages : MessagesView) → left ≡ all
    → HearsOn host host heard heard all left messages messages
hears_on_none host heard all left messages same = record {
  done = [];
  hears = hears_none host heard messages;
  split = same;
  count = sym (add-zero heard);
}

pub hears_on : (first now new : HostView) (heard number : ℕ) (all left later : List PieceView) (x : PieceView)
    (l m r : MessagesView) → HearsOn first now heard number all left l m → left ≡ x ∷ later
    → Hears now new number (x ∷ []) m r → HearsOn first new heard (number + 1) all later l r
hears_on first now new heard number all left later x l m r was next one = record {
  done = was.done ++ x ∷ [];
  hears = hears_both was.done (x ∷ []) first now new heard l m r was.hears
      (subst (λ n. Hears now new n (x ∷ []) m r) was.count one);
  split = append_assoc was.done (x ∷ []) later ∙ ap (λ xs. was.done ++ xs) (sym next) ∙ was.split;
  count = omega (arith, was.count, length-append was.done (x ∷ []));
}

pub hears_all : (first now : HostView) (heard number : ℕ) (all left : List PieceView) (l r : MessagesView)
    → HearsOn first now heard number all left l r → left ≡ [] → Hears first now heard all l r
hears_all first now heard number all left l r was none =
    let whole : was.done ≡ all = sym (append-nil was.done) ∙ ap (λ xs. was.done ++ xs) (sym none) ∙ was.split in
    subst (λ xs. Hears first now heard xs l r) whole was.hears

pub mine_next : (first now : HostView) (heard number : ℕ) (all left later : List PieceView) (x : PieceView)
    (l m : MessagesView) → HearsOn first now heard number all left l m → left ≡ x ∷ later → AreMine first number left
    → is_for now x ≡ true
mine_next first now heard number all left later x l m was next mine =
    let own : AllByRecursion (λ y. is_for first y ≡ true) (x ∷ later) =
    subst (λ xs. AllByRecursion (λ y. is_for first y ≡ true) xs) next mine.all in
    ap (λ (test : PieceView → _). test x) (same_test first now was.hears.names) ∙ own.0

pub mine_later : (host : HostView) (number : ℕ) (left later : List PieceView) (x : PieceView) → left ≡ x ∷ later
    → AreMine host number left → AreMine host (number + 1) later
mine_later host number left later x next mine =
    let own : AllByRecursion (λ y. is_for host y ≡ true) (x ∷ later) =
    subst (λ xs. AllByRecursion (λ y. is_for host y ≡ true) xs) next mine.all in
    record { all = own.1; few = omega (arith, mine.few, ap length next) }

pub few_left : (host : HostView) (number : ℕ) (left later : List PieceView) (x : PieceView) → left ≡ x ∷ later
    → AreMine host number left → number < 256
few_left host number left later x next mine = omega (arith, mine.few, ap length next)

-- ---- the network's side

-- Of all these pieces the network's side has sealed the first ones, and these are left.
pub record SealsOn (sealed : Sealer) (keys : KeyPair) (all left : List PieceView) (before after : NetOut) : Type 0
  where
    pub done : List PieceView
    pub seals : Seals sealed keys done before after
    pub split : done ++ left ≡ all

pub seals_on_none : (sealed : Sealer) (keys : KeyPair) (all left : List PieceView) (out : NetOut) → left ≡ all
    → SealsOn sealed keys all left out out
seals_on_none sealed keys all left out same = record { done = []; seals = seals_none sealed keys out; split = same }

pub seals_on : (sealed : Sealer) (keys : KeyPair) (all left later : List PieceView) (x : PieceView) (a b c : NetOut)
    → SealsOn sealed keys all left a b → left ≡ x ∷ later → Seals sealed keys (x ∷ []) b c
    → SealsOn sealed keys all later a c
seals_on sealed keys all left later x a b c was next one = record {
  done = was.done ++ x ∷ [];
  seals = seals_both sealed keys was.done (x ∷ []) a b c was.seals one;
  split = append_assoc was.done (x ∷ []) later ∙ ap (λ xs. was.done ++ xs) (sym next) ∙ was.split;
}

pub seals_all : (sealed : Sealer) (keys : KeyPair) (all left : List PieceView) (a b : NetOut)
    → SealsOn sealed keys all left a b → left ≡ [] → Seals sealed keys all a b
seals_all sealed keys all left a b was none =
    let whole : was.done ≡ all = sym (append-nil was.done) ∙ ap (λ xs. was.done ++ xs) (sym none) ∙ was.split in
    subst (λ xs. Seals sealed keys xs a b) whole was.seals

-- ---- a direction that nothing was done to

pub pending_still : (side : Side) (a b : Link) → SameTowards side a b → pending_towards side b ≡ pending_towards side a
pending_still side a b same =
    ap₂ (λ received sent. drop (length received) sent ++ backlog_towards side b) same.received same.sent
    ∙ ap (λ backlog. drop (length (received_at side a)) (sent_towards side a) ++ backlog) same.backlog

pub order_still : (side : Side) (a b : Link) → SameTowards side a b → InOrder side b → InOrder side a
order_still side a b same order =
    ap₂ (λ received pending. received ++ pending) (sym same.received) (sym (pending_still side a b same))
    ∙ order ∙ ap₂ (λ sent backlog. sent ++ backlog) same.sent same.backlog
