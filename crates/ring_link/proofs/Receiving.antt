-- What steps do to what was received.
use Rattle.std.proofs.Common.{◌≡◌, true, false, List, [], ◌∷◌, ◌++◌, sym, ap, subst, ◌∙◌, append_assoc}
use Rattle.frame.specs.Pieces.{PieceView}
use Rattle.ring_link.specs.EndView.{EndView}
use Rattle.ring_link.specs.Ends.{received_by}
use Rattle.ring_link.specs.Steps.{Direction, State, towards, Kind, Offer, Push, Pop, Drain, Moves, Step, Leads}
use Rattle.ring_link.specs.Calls.{ReceivesIn, kinds_towards, is_receiving}
use Rattle.ring_link.specs.declared.gate.Side.{Side}
use Rattle.ring_link.proofs.Walking.{Goes, goes_along}

-- one piece more is received
abbrev Grows : Kind → List PieceView → List PieceView → Type 0
Grows kind a b = (x : PieceView) × (b ≡ a ++ x ∷ [])

grows : (kind : Kind) (d e : Direction) → is_receiving kind ≡ true → Moves kind d e → Grows kind d.received e.received
grows Offer d e is m = cc
grows Push d e is m = cc
grows Pop d e is m = (m.piece, m.received)
grows Drain d e is m = (m.piece, m.received)

stays : (kind : Kind) (d e : Direction) → is_receiving kind ≡ false → Moves kind d e → e.received ≡ d.received
stays Offer d e is m = m.received
stays Push d e is m = m.received
stays Pop d e is m = cc
stays Drain d e is m = cc

-- a single step that receives
one_more : (a b : List PieceView) → Goes Grows (Pop ∷ []) a b → (x : PieceView) × (b ≡ a ++ x ∷ [])
one_more a b goes = (goes.1.0, goes.2 ∙ goes.1.1)

pub poll_is_step : (before : List PieceView) (side : Side) (steps : List Step) (s t : State) (old : EndView)
    → Leads steps s t → kinds_towards side is_receiving steps ≡ Pop ∷ [] → ReceivesIn before old (towards side s)
    → (x : PieceView)
    × ((new : EndView) → received_by new ≡ received_by old ++ x ∷ [] → ReceivesIn before new (towards side t))
poll_is_step before side steps s t old leads kinds at =
    let was = (towards side s).received in
    let is = (towards side t).received in
    let P : List Kind → Type 0 = λ ks. Goes Grows ks was is in
    let goes = goes_along (λ d. d.received) is_receiving Grows grows stays side steps s t leads in
    let e = one_more was is (subst P kinds goes) in
    (e.0, λ new grown. rw (grown, at) (append_assoc before was (e.0 ∷ []) ∙ ap (λ xs. before ++ xs) (sym e.1)))
