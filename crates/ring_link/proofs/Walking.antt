-- What steps do to what one side sees of a direction, where the steps that pass a test change it and
-- the others don't.
use Rattle.std.proofs.Common.{◌≡◌, Bool, true, false, cond, ◌&&◌, List, [], ◌∷◌, map, filter, refl, ap}
use Rattle.ring_link.specs.Sides.{other_side, is_same_side}
use Rattle.ring_link.specs.Steps.{Direction, State, towards, Kind, Moves, Step, Leads}
use Rattle.ring_link.specs.Calls.{kinds_towards}
use Rattle.ring_link.specs.declared.gate.Side.{Side}
use Rattle.ring_link.specs.declared.gate.Side.TheVariants.{Host, Net}

-- steps of these kinds lead from one thing seen to another, by what each kind does
abbrev pub Goes : {K : Type 0} → (Kind → K → K → Type 0) → List Kind → K → K → Type 0
Goes Does [] a b = b ≡ a
Goes {K} Does (kind ∷ kinds) a b = (c : K) × Does kind a c × Goes Does kinds c b

module _ {K : Type 0} (seen : Direction → K) (test : Kind → Bool) (Does : Kind → K → K → Type 0)
    (does : (kind : Kind) (d e : Direction) → test kind ≡ true → Moves kind d e → Does kind (seen d) (seen e))
    (keeps : (kind : Kind) (d e : Direction) → test kind ≡ false → Moves kind d e → seen e ≡ seen d) where
  own_step : (kind : Kind) (b : Bool) → test kind ≡ b → (d e : Direction) → Moves kind d e → (side : Side)
      → (rest : List Step) (to : K) → Goes Does (map (λ s. s.kind) rest) (seen e) to
      → Goes Does (map (λ s. s.kind) (cond b (record { side = side; kind = kind } ∷ rest) rest)) (seen d) to
  own_step kind true is d e moves side rest to goes = (seen e, does kind d e is moves, goes)
  own_step kind false is d e moves side rest to goes = rw (← keeps kind d e is moves) goes

  one_step : (side own : Side) (kind : Kind) (s m : State) → Moves kind (towards own s) (towards own m)
      → towards (other_side own) m ≡ towards (other_side own) s → (rest : List Step) (to : K)
      → Goes Does (map (λ t. t.kind) rest) (seen (towards side m)) to
      → Goes Does
      (map (λ t. t.kind) (cond (is_same_side side own && test kind) (record { side = own; kind = kind } ∷ rest) rest))
      (seen (towards side s)) to
  one_step Host Host kind s m moves other rest to goes =
      own_step kind (test kind) refl s.to_host m.to_host moves Host rest to goes
  one_step Net Net kind s m moves other rest to goes =
      own_step kind (test kind) refl s.to_net m.to_net moves Net rest to goes
  one_step Host Net kind s m moves other rest to goes = rw (← other) goes
  one_step Net Host kind s m moves other rest to goes = rw (← other) goes

  -- the steps towards a side that pass the test lead from what is seen before to what is seen after
  pub goes_along : (side : Side) (steps : List Step) (s t : State) → Leads steps s t
      → Goes Does (kinds_towards side test steps) (seen (towards side s)) (seen (towards side t))
  goes_along side [] s t leads = ap (λ m. seen (towards side m)) leads
  goes_along side (step ∷ later) s t leads =
      let m = leads.0 in
      one_step side step.side step.kind s m leads.1.own leads.1.other
      (filter (λ u. is_same_side side u.side && test u.kind) later) (seen (towards side t))
      (goes_along side later m t leads.2)
