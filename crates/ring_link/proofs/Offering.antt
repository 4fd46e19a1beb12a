-- What an offer and pushes do to what the offering end knows.
use Rattle.std.proofs.Common.{◌≡◌, ℕ, zero, suc, true, false, List, [], ◌∷◌, ◌++◌, take, drop, replicate, refl, sym, ap, subst, ◌∙◌, append_assoc, append-nil}
use Rattle.frame.specs.Pieces.{PieceView}
use Rattle.ring_link.specs.EndView.{EndView}
use Rattle.ring_link.specs.Ends.{IsOffer}
use Rattle.ring_link.specs.Steps.{Direction, State, towards, Kind, Offer, Push, Pop, Drain, Moves, Step, Leads}
use Rattle.ring_link.specs.Calls.{OffersIn, kinds_towards, is_no_pop, offer_and_pushes}
use Rattle.ring_link.specs.declared.gate.Side.{Side}
use Rattle.ring_link.proofs.Walking.{Goes, goes_along}

-- what is still to be offered, what waits, and what was sent
record Known : Type 0 where
  todo : List PieceView
  backlog : List PieceView
  sent : List PieceView

abbrev known : Direction → Known
known d = record { todo = d.todo; backlog = d.backlog; sent = d.received ++ d.ring }

abbrev Does : Kind → Known → Known → Type 0
Does Offer a b = (x : PieceView) × (a.todo ≡ x ∷ b.todo) × (b.backlog ≡ a.backlog ++ x ∷ []) × (b.sent ≡ a.sent)
Does Push a b = (x : PieceView) × (b.todo ≡ a.todo) × (a.backlog ≡ x ∷ b.backlog) × (b.sent ≡ a.sent ++ x ∷ [])
Does Pop a b = Unit {0}
Does Drain a b = Unit {0}

does : (kind : Kind) (d e : Direction) → is_no_pop kind ≡ true → Moves kind d e → Does kind (known d) (known e)
does Offer d e is m = (m.piece, m.todo, m.backlog, rw (m.received, m.ring) refl)
does Push d e is m =
    let behind = append_assoc d.received d.ring (m.piece ∷ []) in
    (m.piece, m.todo, m.backlog, rw (m.received, m.ring) (sym behind))
does Pop d e is m = tt
does Drain d e is m = tt

keeps : (kind : Kind) (d e : Direction) → is_no_pop kind ≡ false → Moves kind d e → known e ≡ known d
keeps Offer d e is m = cc
keeps Push d e is m = cc
keeps Drain d e is m = cc
keeps Pop d e is m =
    let between = append_assoc d.received (m.piece ∷ []) e.ring in
    rw (m.todo, m.backlog, m.received, m.ring)
    (ap (λ xs. record { todo = d.todo; backlog = d.backlog; sent = xs }) between)

-- n pushes move n pieces
record Pushed (n : ℕ) (a b : Known) : Type 0 where
  todo : b.todo ≡ a.todo
  backlog : b.backlog ≡ drop n a.backlog
  sent : b.sent ≡ a.sent ++ take n a.backlog

pushes : (n : ℕ) (a b : Known) → Goes Does (replicate n Push) a b → Pushed n a b
pushes zero a b goes = rw goes (record { todo = refl; backlog = refl; sent = sym (append-nil a.sent) })
pushes (suc n) a b goes =
    let c = goes.0 in
    let one = goes.1 in
    let rest = pushes n c b goes.2 in record {
      todo = rest.todo ∙ one.1;
      backlog = rw one.2 rest.backlog;
      sent = rw one.2 (rest.sent ∙ rw one.3 (append_assoc a.sent (one.0 ∷ []) (take n c.backlog)));
    }

-- an offer, and then n pushes
offers : (n : ℕ) (a b : Known) (x : PieceView) (todo : List PieceView) → a.todo ≡ x ∷ todo
    → Goes Does (offer_and_pushes n) a b
    → (b.todo ≡ todo) × (b.backlog ≡ drop n (a.backlog ++ x ∷ [])) × (b.sent ≡ a.sent ++ take n (a.backlog ++ x ∷ []))
offers n a b x todo next goes =
    let c = goes.0 in
    let one = goes.1 in
    let rest = pushes n c b goes.2 in
    let same : one.0 ≡ x = cc in
    let left : c.todo ≡ todo = cc in
    (rest.todo ∙ left, rest.backlog ∙ rw (one.2, same) refl, rest.sent ∙ rw (one.2, one.3, same) refl)

pub offer_is_steps : (before : List PieceView) (side : Side) (steps : List Step) (s t : State) (old new : EndView)
    → (x : PieceView) (todo : List PieceView) (call : IsOffer old new x) → Leads steps s t
    → kinds_towards side is_no_pop steps ≡ offer_and_pushes call.count → (towards side s).todo ≡ x ∷ todo
    → OffersIn before old (towards side s) → ((towards side t).todo ≡ todo) × OffersIn before new (towards side t)
offer_is_steps before side steps s t old new x todo call leads kinds next at =
    let a = known (towards side s) in
    let b = known (towards side t) in
    let P : List Kind → Type 0 = λ ks. Goes Does ks a b in
    let goes = goes_along known is_no_pop Does does keeps side steps s t leads in
    let e = offers call.count a b x todo next (subst P kinds goes) in
    let behind = append_assoc before a.sent (take call.count (a.backlog ++ x ∷ [])) in (
      e.0,
      record {
        sent = rw (call.sent, at.sent, at.backlog, e.2) behind;
        backlog = rw (call.backlog, at.backlog, e.1) refl;
      },
    )
