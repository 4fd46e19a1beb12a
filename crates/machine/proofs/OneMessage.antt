-- An event gives one message at most: the one of which it hands over a piece.
use Rattle.std.proofs.Common.{◌≡◌, ◌≢◌, ℕ, zero, suc, ◌+◌, ◌<◌, ◌≤◌, List, [], ◌∷◌, ◌&&◌, length, map, Bool, true, false, refl, sym, ap, ap₂, subst, ◌∙◌, inl, inr, arith, ◌⊎◌}
use Rattle.std.specs.Prelude.{◌==◌, filter, bytes_eq, if◌then◌else◌}
use Rattle.std.specs.List.{flat_map, range_with_len}
use Rattle.std.proofs.lemmas.Option.{slice_get_within}
use Rattle.std.proofs.lemmas.Slice.Eq.{bytes_eq-Decides}
use Rattle.levels.specs.declared.level.Party.{Party}
use Rattle.levels.specs.Rosters.{is_same_party}
use Rattle.events.specs.declared.event.Stream.{Stream}
use Rattle.events.specs.declared.event.Event.{Event}
use Rattle.events.specs.declared.event.Event.TheVariants.{Send, Ask, Arrive, Carry, Forge, Tamper}
use Rattle.machine.specs.Setup.{Setup}
use Rattle.machine.specs.Machine.{call_row, State, piece_frame, is_between, gives, Message, message_of, given_from, given_to, parties, calls_to}
use Rattle.machine.specs.FalseBytes.{IsSentFrame}
use Rattle.machine.specs.Laws.{HandsOver, OneFrame, FramesApart}
use Rattle.machine.proofs.Basics.{none_passes, bool_cases, both, same_number, same_party, own_party}
use Rattle.machine.proofs.Giving.{gives_what_it_hands}
use Rattle.machine.proofs.PartiesApart.{is_in, Apart, only_one}
use Rattle.std.proofs.lemmas.Bool.{or_right}
use Rattle.levels.specs.declared.level.Party.TheVariants.{Host, Manager}
use Rattle.machine.specs.Files.{CallRow}

-- an event that gives message j of s to u gives no other to u
abbrev pub GivesAlone : Setup → State → Event → Party → Party → ℕ → Type 0
GivesAlone m x e s u j = (s' : Party) (j' : ℕ) → gives m x e s' u j' ≡ true → (s' ≡ s) × (j' ≡ j)

-- what is between s and u comes from s
pub from_of : (stream : Stream) (at s u : Party) → is_between stream at s u ≡ true → stream.from ≡ s
from_of stream at s u h =
    same_party stream.from s
    (both (is_same_party stream.from s) (is_same_party stream.to u) (both (is_same_party stream.from s
    && is_same_party stream.to u) (is_same_party at u) h).0).0

named : (stream : Stream) (at s s' u : Party) (k j j' : ℕ) → (is_between stream at s u && k == j) ≡ true
    → (is_between stream at s' u && k == j') ≡ true → (s' ≡ s) × (j' ≡ j)
named stream at s s' u k j j' one other =
    let a = both (is_between stream at s u) (k == j) one in
    let b = both (is_between stream at s' u) (k == j') other in (
      sym (from_of stream at s' u b.0) ∙ from_of stream at s u a.0,
      sym (same_number k j' b.1)
          ∙ same_number k j a.1,
    )

-- a Forge hands over a piece exactly where its bytes are the piece's frame
pub forged : (m : Setup) (x : State) (at : Party) (bytes : List ℕ) (s u : Party) (j i : ℕ)
    → HandsOver m x (Forge at bytes) s u j i → IsSentFrame m x s at j i bytes
forged m x at bytes s u j i h =
    let t = both (is_same_party at u) (bytes_eq bytes (piece_frame m s u j h.body i)) h.hands in
    subst (λ v. IsSentFrame m x s v j i bytes) (sym (same_party at u t.0))
    (record {
      body = h.body;
      sent = h.sent;
      piece = h.piece;
      same = (bytes_eq-Decides bytes (piece_frame m s u j h.body i)).0 t.1;
    })

-- an event hands over pieces of one message alone
hands_one : (m : Setup) (x : State) (e : Event) (s s' u : Party) (j j' i i' : ℕ) → OneFrame m x e
    → HandsOver m x e s u j i → HandsOver m x e s' u j' i' → (s' ≡ s) × (j' ≡ j)
hands_one m x (Arrive stream message piece at) s s' u j j' i i' one h h' =
    named stream at s s' u message j j' (both (is_between stream at s u && message == j) (piece == i) h.hands).0
    (both (is_between stream at s' u && message == j') (piece == i') h'.hands).0
hands_one m x (Carry stream message at) s s' u j j' i i' one h h' =
    named stream at s s' u message j j' h.hands h'.hands
hands_one m x (Forge at bytes) s s' u j j' i i' one h h' =
    let same = one s s' j j' i i' (forged m x at bytes s u j i h) (forged m x at bytes s' u j' i' h') in
    (sym same.0, sym same.1)
hands_one m x (Send from to message) s s' u j j' i i' one h h' = let none = h.hands in cc
hands_one m x (Ask from call) s s' u j j' i i' one h h' = let none = h.hands in cc
hands_one m x (Tamper stream message piece at edits) s s' u j j' i i' one h h' = let none = h.hands in cc

pub one_frame : (m : Setup) (x : State) (e : Event) → FramesApart m x → OneFrame m x e
one_frame m x (Forge at bytes) apart = λ s s' j j' i i' a b.
    (let t = apart s s' at j j' i i' bytes a b in (t.0, t.1))
one_frame m x (Send from to message) apart = tt
one_frame m x (Ask from call) apart = tt
one_frame m x (Arrive stream message piece at) apart = tt
one_frame m x (Carry stream message at) apart = tt
one_frame m x (Tamper stream message piece at edits) apart = tt

pub gives_alone : (m : Setup) (x : State) (e : Event) (s u : Party) (j : ℕ) → OneFrame m x e
    → gives m x e s u j ≡ true → GivesAlone m x e s u j
gives_alone m x e s u j one given = λ s' j' given'. (
    let a = gives_what_it_hands m x e s u j given in
    let b = gives_what_it_hands m x e s' u j' given' in
    hands_one m x e s s' u j j' a.0 b.0 one a.1 b.1)

past_it : (P : ℕ → Bool) (j a n : ℕ) → ((k : ℕ) → P k ≡ true → k ≡ j) → j < a
    → filter P (range_with_len a n) ≡ []
past_it P j a zero only lt = refl
past_it P j a (suc n) only lt = elim (bool_cases (P a)) [
  | inl on ↦ (let same = only a on in absurd (omega (arith, same)))
  | inr off ↦ rw off (past_it P j (a + 1) n only (omega arith))
]

pub filter_one : (P : ℕ → Bool) (j a n : ℕ) → P j ≡ true → ((k : ℕ) → P k ≡ true → k ≡ j) → a ≤ j → j < a + n
    → filter P (range_with_len a n) ≡ j ∷ []
filter_one P j a zero on only le lt = absurd (omega arith)
filter_one P j a (suc n) on only le lt = elim (bool_cases (P a)) [
  | inl here ↦
      (let same =
      only a here in
      rw here (ap₂ (λ (k : ℕ) (ks : List ℕ). k ∷ ks) same (past_it P j (a + 1) n only (omega (arith, same)))))
  | inr other ↦
      (let differ : a ≢ j =
      λ same. (let t : P a ≡ true = ap P same ∙ on in cc) in
      rw other (filter_one P j (a + 1) n on only (omega arith) (omega arith)))
]

pub not_of_other : (m : Setup) (x : State) (e : Event) (s s' u : Party) (j k : ℕ) → GivesAlone m x e s u j
    → is_same_party s' s ≡ false → gives m x e s' u k ≡ false
not_of_other m x e s s' u j k only differ = elim (bool_cases (gives m x e s' u k)) [
  | inl on ↦
      (let same : is_same_party s' s ≡ true = ap (λ t. is_same_party t s) (only s' k on).0 ∙ own_party s in cc)
  | inr off ↦ off
]

only_its : {A : Type 0} (f : Party → List A) (s : Party) → ((t : Party) → is_same_party t s ≡ false → f t ≡ [])
    → (t : Party) → f t ≡ (if is_same_party t s then f t else [])
only_its f s none t =
    elim (bool_cases (is_same_party t s)) [ inl here ↦ rw here | inr other ↦ rw (other, none t other) ]

-- flattened, where all but one of different parties give nothing
pub alone : {A : Type 0} (f : Party → List A) (s : Party) (ts : List Party) → Apart ts → is_in s ts ≡ true
    → ((t : Party) → is_same_party t s ≡ false → f t ≡ []) → flat_map f ts ≡ f s
alone f s ts apart some none =
    ap (λ g. flat_map g ts) (λ i t. only_its f s none t i) ∙ only_one s f ts apart some

pub given_one : (m : Setup) (x : State) (e : Event) (s u : Party) (j : ℕ) → Apart (parties m.roster)
    → is_in s (parties m.roster) ≡ true → gives m x e s u j ≡ true → GivesAlone m x e s u j
    → given_to m x e u ≡ message_of s (x.sent s u) j ∷ []
given_one m x e s u j apart some given only =
    let t = gives_what_it_hands m x e s u j given in
    let within : j < length (x.sent s u) = slice_get_within (x.sent s u) j t.1.body t.1.sent in
    alone (given_from m x e u) s (parties m.roster) apart some
    (λ s' differ. ap (map (message_of s' (x.sent s' u)))
    (none_passes (gives m x e s' u) (range_with_len 0 (length (x.sent s' u)))
    (λ k. not_of_other m x e s s' u j k only differ)))
    ∙ ap (map (message_of s (x.sent s u)))
    (filter_one (gives m x e s u) j 0 (length (x.sent s u)) given (λ k on. (only s k on).1) (omega arith)
    (omega arith))

none_from : (m : Setup) (x : State) (e : Event) (u : Party) (ts : List Party)
    → ((s : Party) (j : ℕ) → gives m x e s u j ≡ false) → flat_map (given_from m x e u) ts ≡ []
none_from m x e u [] none = refl
none_from m x e u (t ∷ ts) none =
    rw (none_passes (gives m x e t u) (range_with_len 0 (length (x.sent t u))) (none t))
    (none_from m x e u ts none)

pub given_none : (m : Setup) (x : State) (e : Event) (u : Party)
    → ((s : Party) (j : ℕ) → gives m x e s u j ≡ false) → given_to m x e u ≡ []
given_none m x e u none = none_from m x e u (parties m.roster) none

pub is_forged : (m : Setup) (x : State) (bytes : List ℕ) (s u : Party) (j i : ℕ) → IsSentFrame m x s u j i bytes
    → HandsOver m x (Forge u bytes) s u j i
is_forged m x bytes s u j i h =
    record {
      body = h.body;
      sent = h.sent;
      piece = h.piece;
      hands = rw (own_party u) ((bytes_eq-Decides bytes (piece_frame m s u j h.body i)).1 h.same);
    }

filter_cases : (P : ℕ → Bool) (xs : List ℕ) → (filter P xs ≡ []) ⊎ ((k : ℕ) × (P k ≡ true))
filter_cases P [] = inl refl
filter_cases P (x ∷ xs) = elim (bool_cases (P x)) [
  | inl on ↦ inr (x, on)
  | inr off ↦ elim (filter_cases P xs) [ inl none ↦ inl (rw off none) | inr some ↦ inr some ]
]

record GivesSome (m : Setup) (x : State) (e : Event) (u : Party) (ts : List Party) : Type 0 where
  from : Party
  number : ℕ
  there : is_in from ts ≡ true
  gives : gives m x e from u number ≡ true

given_cases : (m : Setup) (x : State) (e : Event) (u : Party) (ts : List Party)
    → (flat_map (given_from m x e u) ts ≡ []) ⊎ GivesSome m x e u ts
given_cases m x e u [] = inl refl
given_cases m x e u (t ∷ ts) = elim (filter_cases (gives m x e t u) (range_with_len 0 (length (x.sent t u)))) [
  | inr some ↦ inr (record { from = t; number = some.0; there = rw (own_party t); gives = some.1 })
  | inl none ↦ elim (given_cases m x e u ts) [
    | inl nothing ↦ inl (rw (none, nothing))
    | inr later ↦
        inr (record {
          from = later.from;
          number = later.number;
          there = or_right (is_same_party t later.from) (is_in later.from ts) later.there;
          gives = later.gives;
        })
  ]
]

-- an event gives one message to u, or none
pub one_or_none : (m : Setup) (x : State) (e : Event) (u : Party) → OneFrame m x e → Apart (parties m.roster)
    → (given_to m x e u ≡ []) ⊎ ((l : Message) × (given_to m x e u ≡ l ∷ []))
one_or_none m x e u one apart = elim (given_cases m x e u (parties m.roster)) [
  | inl none ↦ inl none
  | inr some ↦ inr (
    message_of some.from (x.sent some.from u) some.number,
    given_one m x e some.from u some.number apart some.there some.gives
        (gives_alone m x e some.from u some.number one some.gives),
  )
]

pub one_call_or_none : (m : Setup) (x : State) (e : Event) (u : Party) → OneFrame m x e → Apart (parties m.roster)
    → (calls_to u (given_to m x e u) ≡ []) ⊎ ((c : CallRow) × (calls_to u (given_to m x e u) ≡ c ∷ []))
one_call_or_none m x e (Host address) one apart = inl refl
one_call_or_none m x e (Manager p) one apart = elim (one_or_none m x e (Manager p) one apart) [
  | inl none ↦ inl (ap (calls_to (Manager p)) none)
  | inr some ↦ inr (call_row p.0 some.0, ap (calls_to (Manager p)) some.1)
]
