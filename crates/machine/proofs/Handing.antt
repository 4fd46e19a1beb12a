-- The pieces that an event hands over.
use Rattle.std.proofs.Common.{◌≡◌, ℕ, zero, suc, ◌+◌, ◌<◌, ◌≤◌, List, [], ◌∷◌, ◌&&◌, ◌||◌, map, Bool, true, Some, refl, sym, ap, subst, ◌∙◌, inl, inr, arith}
use Rattle.std.specs.Prelude.{slice_get, ◌==◌, filter}
use Rattle.std.specs.List.{range_with_len}
use Rattle.std.proofs.lemmas.Bool.{or_left, or_right}
use Rattle.std.proofs.lemmas.Bool.Decides.{nat_tests}
use Rattle.levels.specs.declared.level.Party.{Party}
use Rattle.frame.specs.Pieces.{pieces}
use Rattle.events.specs.declared.event.Event.{Event}
use Rattle.machine.specs.Setup.{Setup}
use Rattle.machine.specs.Given.{has_piece}
use Rattle.machine.specs.Machine.{State, hands, handed_of, handed}
use Rattle.machine.specs.Laws.{HandsOver}
use Rattle.machine.proofs.Basics.{bool_cases, in_both}

-- a piece of message j among those of message k in some places that pass a test
passed : (P : ℕ → Bool) (k a n j i : ℕ) → has_piece (map (λ x. (k, x)) (filter P (range_with_len a n))) j i
    ≡ true
    → (k ≡ j) × (a ≤ i) × (i < a + n) × (P i ≡ true)
passed P k a zero j i h = cc
passed P k a (suc n) j i h =
    elim (bool_cases (P a)) [
      | inl on ↦ elim (bool_cases (k == j && a == i)) [
        | inl here ↦
            (let is : a ≡ i =
            grind (arith, nat_tests) in
            (grind (arith, nat_tests), omega (arith, is), omega (arith, is), ap P (sym is) ∙ on))
        | inr past ↦
            (let t =
            passed P k (a + 1) n j i (rw (on, past) at h) in (t.0, omega (arith, t), omega (arith, t), t.3))
      ]
      | inr off ↦ let t =
          passed P k (a + 1) n j i (rw off at h) in (t.0, omega (arith, t), omega (arith, t), t.3)
    ]

passes : (P : ℕ → Bool) (k a n i : ℕ) → a ≤ i → i < a + n → P i ≡ true
    → has_piece (map (λ x. (k, x)) (filter P (range_with_len a n))) k i ≡ true
passes P k a zero i le lt is = absurd (omega arith)
passes P k a (suc n) i le lt is =
    elim (bool_cases (a == i)) [
      | inl here ↦ (let same : a ≡ i = grind (arith, nat_tests) in rw (same, is) (grind (arith, nat_tests)))
      | inr on ↦
          let more = passes P k (a + 1) n i (grind (arith, nat_tests)) (omega arith) is in
          elim (bool_cases (P a)) [
            | inl first ↦ rw first (grind (arith, nat_tests))
            | inr not_first ↦
                rw not_first more
          ]
    ]

-- the pieces of message k that an event hands over
abbrev own : Setup → Event → Party → Party → ℕ → List ℕ → List (ℕ × ℕ)
own m e s u k body = map (λ x. (k, x)) (filter (hands m e s u k body) (range_with_len 0 (pieces body)))

-- of messages numbered from k, an event hands over piece i of message j
record Handed (m : Setup) (e : Event) (s u : Party) (k : ℕ) (messages : List (List ℕ)) (j i : ℕ) : Type 0 where
  place : ℕ
  body : List ℕ
  number : j ≡ k + place
  there : slice_get messages place ≡ Some body
  piece : i < pieces body
  on : hands m e s u j body i ≡ true

at_first : (m : Setup) (e : Event) (s u : Party) (k : ℕ) (body : List ℕ) (messages : List (List ℕ)) (j i : ℕ)
    → (k ≡ j) × (0 ≤ i) × (i < 0 + pieces body) × (hands m e s u k body i ≡ true)
    → Handed m e s u k (body ∷ messages) j i
at_first m e s u k body messages j i t =
    record {
      place = 0;
      body = body;
      number = omega (arith, t);
      there = refl;
      piece = omega (arith, t);
      on = subst (λ n. hands m e s u n body i ≡ true) t.0 t.3;
    }

at_later : (m : Setup) (e : Event) (s u : Party) (k : ℕ) (body : List ℕ) (messages : List (List ℕ)) (j i : ℕ)
    → Handed m e s u (k + 1) messages j i → Handed m e s u k (body ∷ messages) j i
at_later m e s u k body messages j i t =
    record {
      place = suc t.place;
      body = t.body;
      number = omega arith;
      there = t.there;
      piece = t.piece;
      on = t.on;
    }

handed_is : (m : Setup) (e : Event) (s u : Party) (k : ℕ) (messages : List (List ℕ)) (j i : ℕ)
    → has_piece (handed_of m e s u k messages) j i ≡ true
    → Handed m e s u k messages j i
handed_is m e s u k [] j i h = cc
handed_is m e s u k (body ∷ messages) j i h =
    let both : (has_piece (own m e s u k body) j i || has_piece (handed_of m e s u (k + 1) messages) j i)
    ≡ true = sym (in_both (own m e s u k body) (handed_of m e s u (k + 1) messages) j i) ∙ h in
    elim (bool_cases (has_piece (own m e s u k body) j i)) [
      | inl here ↦
          at_first m e s u k body messages j i (passed (hands m e s u k body) k 0 (pieces body) j i here)
      | inr there ↦
          at_later m e s u k body messages j i (handed_is m e s u (k + 1) messages j i (rw there at both))
    ]

own_held : (m : Setup) (e : Event) (s u : Party) (k : ℕ) (body : List ℕ) (j i : ℕ) → j ≡ k → i < pieces body
    → hands m e s u j body i ≡ true
    → has_piece (own m e s u k body) j i ≡ true
own_held m e s u k body j i same piece on =
    subst (λ n. has_piece (own m e s u k body) n i ≡ true) (sym same)
    (passes (hands m e s u k body) k 0 (pieces body) i (omega arith) (omega arith)
    (subst (λ n. hands m e s u n body i ≡ true) same on))

is_handed : (m : Setup) (e : Event) (s u : Party) (k : ℕ) (messages : List (List ℕ)) (d j i : ℕ) (body : List ℕ)
    → j ≡ k + d → slice_get messages d ≡ Some body
    → i < pieces body → hands m e s u j body i ≡ true → has_piece (handed_of m e s u k messages) j i ≡ true
is_handed m e s u k [] d j i body number there piece on = cc
is_handed m e s u k (first ∷ messages) zero j i body number there piece on =
    let same : body ≡ first = cc in
    let held : has_piece (own m e s u k first) j i ≡ true =
    own_held m e s u k first j i (omega arith) (subst (λ b. i < pieces b) same piece)
    (subst (λ b. hands m e s u j b i ≡ true) same on) in
    in_both (own m e s u k first) (handed_of m e s u (k + 1) messages) j i
    ∙ or_left (has_piece (own m e s u k first) j i) (has_piece (handed_of m e s u (k + 1) messages) j i) held
is_handed m e s u k (first ∷ messages) (suc d) j i body number there piece on =
    let held : has_piece (handed_of m e s u (k + 1) messages) j i ≡ true =
    is_handed m e s u (k + 1) messages d j i body (omega arith) there piece on in
    in_both (own m e s u k first) (handed_of m e s u (k + 1) messages) j i
    ∙ or_right (has_piece (own m e s u k first) j i) (has_piece (handed_of m e s u (k + 1) messages) j i) held

-- an event adds to the set just what it hands over
pub hands_over : (m : Setup) (x : State) (e : Event) (s u : Party) (j i : ℕ)
    → has_piece (handed m x e s u) j i ≡ true → HandsOver m x e s u j i
hands_over m x e s u j i h =
    let t : Handed m e s u 0 (x.sent s u) j i = handed_is m e s u 0 (x.sent s u) j i h in
    let same : j ≡ t.place = omega arith in
    record { body = t.body; sent = ap (slice_get (x.sent s u)) same ∙ t.there; piece = t.piece; hands = t.on }

pub handed_over : (m : Setup) (x : State) (e : Event) (s u : Party) (j i : ℕ) → HandsOver m x e s u j i
    → has_piece (handed m x e s u) j i ≡ true
handed_over m x e s u j i h = is_handed m e s u 0 (x.sent s u) j j i h.body (omega arith) h.sent h.piece h.hands
