-- What an event gives that names a piece or a message.
use Rattle.std.proofs.Common.{◌≡◌, ℕ, ◌&&◌, true, false, sym, ap₂, ◌∙◌, inl, inr}
use Rattle.std.specs.Prelude.{◌==◌}
use Rattle.levels.specs.declared.level.Party.{Party}
use Rattle.events.specs.declared.event.Stream.{Stream}
use Rattle.events.specs.declared.event.Event.{Event}
use Rattle.events.specs.declared.event.Event.TheVariants.{Arrive, Carry}
use Rattle.machine.specs.Setup.{Setup}
use Rattle.machine.specs.Machine.{State, is_between, gives, message_of, given_to, parties}
use Rattle.machine.specs.Laws.{given_if}
use Rattle.machine.proofs.Basics.{bool_cases, both, same_number}
use Rattle.machine.proofs.OneMessage.{from_of, given_one, given_none}
use Rattle.machine.proofs.Giving.{gives_what_it_hands}
use Rattle.machine.proofs.PartiesApart.{is_in, Apart}

none_of : (m : Setup) (x : State) (e : Event) (s u : Party) (j : ℕ) → gives m x e s u j ≡ false
    → ((s' : Party) (j' : ℕ) → gives m x e s' u j' ≡ true → (s' ≡ s) × (j' ≡ j)) → (s' : Party) (j' : ℕ)
    → gives m x e s' u j' ≡ false
none_of m x e s u j off only s' j' = elim (bool_cases (gives m x e s' u j')) [
  | inl on ↦
      (let t = only s' j' on in let same : gives m x e s u j ≡ true =
      sym (ap₂ (λ (a : Party) (b : ℕ). gives m x e a u b) t.0 t.1) ∙ on in cc)
  | inr other ↦ other
]

-- where an event gives one message alone, if it gives it
pub by_one : (m : Setup) (x : State) (e : Event) (s u : Party) (j : ℕ) → Apart (parties m.roster)
    → is_in s (parties m.roster) ≡ true
    → ((s' : Party) (j' : ℕ) → gives m x e s' u j' ≡ true → (s' ≡ s) × (j' ≡ j))
    → given_to m x e u ≡ given_if (gives m x e s u j) (message_of s (x.sent s u) j)
by_one m x e s u j apart known only = elim (bool_cases (gives m x e s u j)) [
  | inl on ↦ rw on (given_one m x e s u j apart known on only)
  | inr off ↦ rw off (given_none m x e u (λ s' j'. none_of m x e s u j off only s' j'))
]

pub given_by_arrive : (m : Setup) (x : State) (stream : Stream) (j i : ℕ) (at : Party)
    → Apart (parties m.roster) → is_in stream.from (parties m.roster) ≡ true
    → given_to m x (Arrive stream j i at) at
    ≡ given_if (gives m x (Arrive stream j i at) stream.from at j)
    (message_of stream.from (x.sent stream.from at) j)
given_by_arrive m x stream j i at apart known =
    by_one m x (Arrive stream j i at) stream.from at j apart known (λ s' j' on.
    (let piece = gives_what_it_hands m x (Arrive stream j i at) s' at j' on in
    let of_message = both (is_between stream at s' at && j == j') (i == piece.0) piece.1.hands in
    let t = both (is_between stream at s' at) (j == j') of_message.0 in
    (sym (from_of stream at s' at t.0), sym (same_number j j' t.1))))

pub given_by_carry : (m : Setup) (x : State) (stream : Stream) (j : ℕ) (at : Party) → Apart (parties m.roster)
    → is_in stream.from (parties m.roster) ≡ true
    → given_to m x (Carry stream j at) at
    ≡ given_if (gives m x (Carry stream j at) stream.from at j)
    (message_of stream.from (x.sent stream.from at) j)
given_by_carry m x stream j at apart known =
    by_one m x (Carry stream j at) stream.from at j apart known (λ s' j' on.
    (let piece = gives_what_it_hands m x (Carry stream j at) s' at j' on in
    let t = both (is_between stream at s' at) (j == j') piece.1.hands in
    (sym (from_of stream at s' at t.0), sym (same_number j j' t.1))))
