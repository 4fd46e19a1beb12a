-- What an event hands over to a party, and gives it; what it makes a party send.
use Rattle.std.proofs.Common.{◌≡◌, ℕ, ◌+◌, zero, suc, ◌<◌, ◌≤◌, ◌⊎◌, List, [], ◌∷◌, ◌++◌, length, length-append, map, Bool, true, false, Some, refl, sym, ap, ap₂, subst, ◌∙◌, inl, inr, arith, append-nil}
use Rattle.std.specs.Prelude.{filter, slice_get, if◌then◌else◌, unwrap_or}
use Rattle.std.specs.List.{flat_map, range_with_len, AllByRecursion}
use Rattle.std.proofs.lemmas.List.{length-map}
use Rattle.std.proofs.lemmas.Option.{slice_get_within, same_Some}
use Rattle.levels.specs.declared.level.Party.{Party}
use Rattle.levels.specs.Kept.{IsRoster}
use Rattle.levels.specs.Rosters.{is_same_party, is_partner}
use Rattle.events.specs.declared.event.Event.{Event}
use Rattle.events.specs.Scripts.{is_known}
use Rattle.frame.specs.Pieces.{pieces}
use Rattle.machine.specs.Setup.{Setup}
use Rattle.machine.specs.Machine.{State, hands, handed_of, handed, gives, numbers_given, Message, message_of, given_from, given_to, parties, sent_by, state}
use Rattle.machine.specs.Wire.{frames_of, frames_from}
use Rattle.machine.specs.Laws.{HandsOver, HandsNothing, HandsOne, given_if}
use Rattle.machine.proofs.Basics.{bool_cases, own_party, none_passes, all_joined}
use Rattle.machine.proofs.FramesApart.{partners_of_sent}
use Rattle.machine.proofs.Giving.{gives_what_it_hands}
use Rattle.machine.proofs.OneMessage.{GivesAlone, filter_one, given_none, alone}
use Rattle.machine.proofs.Named.{by_one}
use Rattle.machine.proofs.PartiesApart.{parties_apart, known_there}

-- nothing is handed over of messages of which no piece is
none_of : (m : Setup) (e : Event) (s u : Party) (k : ℕ) (messages : List (List ℕ))
    → ((p : ℕ) (body : List ℕ) (i : ℕ) → slice_get messages p ≡ Some body → i < pieces body
    → hands m e s u (k + p) body i ≡ false)
    → handed_of m e s u k messages ≡ []
none_of m e s u k [] none = refl
none_of m e s u k (body ∷ messages) none =
    rw (none_within (hands m e s u k body) 0 (pieces body)
    (λ i le lt. subst (λ n. hands m e s u n body i ≡ false) (let z : k + 0 ≡ k = omega arith in z)
    (none 0 body i refl (omega (arith, lt)))))
    (none_of m e s u (k + 1) messages (λ p b i is lt.
    subst (λ n. hands m e s u n b i ≡ false) (let z : k + suc p ≡ k + 1 + p = omega arith in z)
    (none (suc p) b i is lt)))
  where
    none_within : (P : ℕ → Bool) (a n : ℕ) → ((i : ℕ) → a ≤ i → i < a + n → P i ≡ false)
        → filter P (range_with_len a n) ≡ []
    none_within P a zero off = refl
    none_within P a (suc n) off =
        rw (off a (omega arith) (omega arith))
        (none_within P (a + 1) n (λ i le lt. off i (omega (arith, le)) (omega (arith, lt))))

-- of messages of which one alone is handed over, its pieces are
one_of : (m : Setup) (e : Event) (s u : Party) (k p : ℕ) (body : List ℕ) (messages : List (List ℕ))
    → slice_get messages p ≡ Some body
    → ((q : ℕ) (b : List ℕ) (i : ℕ) → slice_get messages q ≡ Some b → i < pieces b
    → hands m e s u (k + q) b i ≡ true → q ≡ p)
    → handed_of m e s u k messages
    ≡ map (λ i. (k + p, i)) (filter (hands m e s u (k + p) body) (range_with_len 0 (pieces body)))
one_of m e s u k p body [] is only = cc
one_of m e s u k zero body (b ∷ messages) is only =
    let same : b ≡ body = same_Some b body is in
    let start : k + 0 ≡ k = omega arith in
    let rest : handed_of m e s u (k + 1) messages ≡ [] =
    none_of m e s u (k + 1) messages
    (λ q c i there lt. off q c i there lt (bool_cases (hands m e s u (k + 1 + q) c i))) in
    ap (λ more. map (λ i. (k, i)) (filter (hands m e s u k b) (range_with_len 0 (pieces b))) ++ more) rest
    ∙ append-nil (map (λ i. (k, i)) (filter (hands m e s u k b) (range_with_len 0 (pieces b))))
    ∙ ap₂ (λ (n : ℕ) (c : List ℕ). map (λ i. (n, i)) (filter (hands m e s u n c) (range_with_len 0 (pieces c))))
    (sym start) same
  where
    off : (q : ℕ) (c : List ℕ) (i : ℕ) → slice_get messages q ≡ Some c → i < pieces c
        → (hands m e s u (k + 1 + q) c i ≡ true) ⊎ (hands m e s u (k + 1 + q) c i ≡ false)
        → hands m e s u (k + 1 + q) c i ≡ false
    off q c i there lt (inr none) = none
    off q c i there lt (inl on) =
        let at : k + suc q ≡ k + 1 + q = omega arith in
        let bad : suc q ≡ 0 =
        only (suc q) c i there lt (ap (λ n. hands m e s u n c i) at ∙ on) in
        absurd (omega (arith, bad))
one_of m e s u k (suc p) body (b ∷ messages) is only =
    let at : k + 1 + p ≡ k + suc p = omega arith in
    let first : handed_of m e s u k (b ∷ []) ≡ [] =
    none_of m e s u k (b ∷ []) (λ q c i there lt. off q c i there lt (bool_cases (hands m e s u (k + q) c i))) in
    ap (λ more. more ++ handed_of m e s u (k + 1) messages)
    (sym (append-nil (map (λ i. (k, i)) (filter (hands m e s u k b) (range_with_len 0 (pieces b))))) ∙ first)
    ∙ one_of m e s u (k + 1) p body messages is (λ q c i there lt on.
    (let here : k + suc q ≡ k + 1 + q = omega arith in
    let t : suc q ≡ suc p = only (suc q) c i there lt (ap (λ n. hands m e s u n c i) here ∙ on) in
    omega (arith, t)))
    ∙ ap (λ n. map (λ i. (n, i)) (filter (hands m e s u n body) (range_with_len 0 (pieces body)))) at
  where
    off : (q : ℕ) (c : List ℕ) (i : ℕ) → slice_get (b ∷ []) q ≡ Some c → i < pieces c
        → (hands m e s u (k + q) c i ≡ true) ⊎ (hands m e s u (k + q) c i ≡ false)
        → hands m e s u (k + q) c i ≡ false
    off q c i there lt (inr none) = none
    off (suc q) c i there lt (inl on) = cc
    off zero c i there lt (inl on) =
        let bad : 0 ≡ suc p = only 0 c i there lt on in absurd (omega (arith, bad))

-- ---- what an event gives

none_handed : (m : Setup) (x : State) (e : Event) (s u : Party)
    → ((j i : ℕ) → ¬ HandsOver m x e s u j i) → handed m x e s u ≡ []
none_handed m x e s u none =
    none_of m e s u 0 (x.sent s u) (λ p body i is lt. off p body i is lt (bool_cases (hands m e s u (0 + p) body i)))
  where
    off : (p : ℕ) (body : List ℕ) (i : ℕ) → slice_get (x.sent s u) p ≡ Some body → i < pieces body
        → (hands m e s u (0 + p) body i ≡ true) ⊎ (hands m e s u (0 + p) body i ≡ false)
        → hands m e s u (0 + p) body i ≡ false
    off p body i is lt (inr stays) = stays
    off p body i is lt (inl on) = absurd (none p i (record {
      body = body;
      sent = is;
      piece = lt;
      hands = subst (λ n. hands m e s u n body i ≡ true) (let z : 0 + p ≡ p = omega arith in z) on;
    }))

not_given : (m : Setup) (x : State) (e : Event) (s u : Party) (j : ℕ)
    → ((i : ℕ) → ¬ HandsOver m x e s u j i) → gives m x e s u j ≡ false
not_given m x e s u j none = elim (bool_cases (gives m x e s u j)) [
  | inl on ↦ (let t = gives_what_it_hands m x e s u j on in absurd (none t.0 t.1))
  | inr off ↦ off
]

no_numbers : (m : Setup) (x : State) (e : Event) (s u : Party)
    → ((j i : ℕ) → ¬ HandsOver m x e s u j i) → numbers_given m x e s u ≡ []
no_numbers m x e s u none =
    none_passes (gives m x e s u) (range_with_len 0 (length (x.sent s u)))
    (λ j. not_given m x e s u j (none j))

-- ---- counts over all parties

both_counted : {A : Type 0} (f g : Party → List A) (ts : List Party)
    → length (flat_map (λ t. f t ++ g t) ts) ≡ length (flat_map f ts) + length (flat_map g ts)
both_counted f g [] = omega arith
both_counted f g (t ∷ ts) =
    let rest = both_counted f g ts in
    let own = length-append (f t) (g t) in
    let all = length-append (f t ++ g t) (flat_map (λ t. f t ++ g t) ts) in
    let left = length-append (f t) (flat_map f ts) in
    let right = length-append (g t) (flat_map g ts) in
    omega (arith, rest, own, all, left, right)

nothing_for : {A : Type 0} (f : Party → List A) (ts : List Party) → ((t : Party) → f t ≡ [])
    → flat_map f ts ≡ []
nothing_for f [] none = refl
nothing_for f (t ∷ ts) none = rw (none t) (nothing_for f ts none)

pub hands_nothing : (m : Setup) (x : State) (e : Event) (u : Party)
    → ((s : Party) (j i : ℕ) → ¬ HandsOver m x e s u j i) → HandsNothing m x e u
hands_nothing m x e u none = record {
  none = λ s. none_handed m x e s u (none s);
  numbers = λ s. no_numbers m x e s u (none s);
  given = given_none m x e u (λ s j. not_given m x e s u j (none s j));
  arrivals =
      let all = both_counted (λ s. handed m x e s u) (λ s. x.arrived s u) (parties m.roster) in
      let none_there : length (flat_map (λ s. handed m x e s u) (parties m.roster)) ≡ 0 =
      ap length (nothing_for (λ s. handed m x e s u) (parties m.roster) (λ s. none_handed m x e s u (none s))) in
      omega (arith, all, none_there);
  count =
      let all = both_counted (λ s. x.given s u) (λ s. numbers_given m x e s u) (parties m.roster) in
      let none_there : length (flat_map (λ s. numbers_given m x e s u) (parties m.roster)) ≡ 0 =
      ap length (nothing_for (λ s. numbers_given m x e s u) (parties m.roster) (λ s. no_numbers m x e s u (none s))) in
      omega (arith, all, none_there);
}

-- the one message of which an event hands over pieces
abbrev Alone : Setup → State → Event → Party → Party → ℕ → Type 0
Alone m x e s u j = (s' : Party) (j' i : ℕ) → HandsOver m x e s' u j' i → (s' ≡ s) × (j' ≡ j)

alone_given : (m : Setup) (x : State) (e : Event) (s u : Party) (j : ℕ) → Alone m x e s u j
    → GivesAlone m x e s u j
alone_given m x e s u j only = λ s' j' on.
    (let t = gives_what_it_hands m x e s' u j' on in only s' j' t.0 t.1)

one_number : (m : Setup) (x : State) (e : Event) (s u : Party) (j : ℕ) (body : List ℕ)
    → slice_get (x.sent s u) j ≡ Some body → Alone m x e s u j
    → numbers_given m x e s u ≡ (if gives m x e s u j then j ∷ [] else [])
one_number m x e s u j body is only = elim (bool_cases (gives m x e s u j)) [
  | inl on ↦ rw on (filter_one (gives m x e s u) j 0 (length (x.sent s u)) on
      (λ k given. (alone_given m x e s u j only s k given).1) (omega arith)
      (omega (arith, slice_get_within (x.sent s u) j body is)))
  | inr off ↦ rw off (none_passes (gives m x e s u) (range_with_len 0 (length (x.sent s u)))
      (λ k. not_any k (bool_cases (gives m x e s u k)) off))
]
  where
    not_any : (k : ℕ) → (gives m x e s u k ≡ true) ⊎ (gives m x e s u k ≡ false)
        → gives m x e s u j ≡ false → gives m x e s u k ≡ false
    not_any k (inr stays) off = stays
    not_any k (inl on) off =
        let same = (alone_given m x e s u j only s k on).1 in
        absurd (let t : gives m x e s u j ≡ true = ap (gives m x e s u) (sym same) ∙ on in cc)

other_none : (m : Setup) (x : State) (e : Event) (s s' u : Party) (j : ℕ) → Alone m x e s u j
    → is_same_party s' s ≡ false → (j' i : ℕ) → ¬ HandsOver m x e s' u j' i
other_none m x e s s' u j only differ j' i h =
    let same : is_same_party s' s ≡ true = ap (λ t. is_same_party t s) (only s' j' i h).0 ∙ own_party s in cc

own_pieces : (m : Setup) (x : State) (e : Event) (s u : Party) (j : ℕ) (body : List ℕ)
    → slice_get (x.sent s u) j ≡ Some body → Alone m x e s u j
    → handed m x e s u
    ≡ map (λ i. (j, i)) (filter (hands m e s u j body) (range_with_len 0 (pieces body)))
own_pieces m x e s u j body is only =
    one_of m e s u 0 j body (x.sent s u) is (λ q b i there lt on.
    (only s q i (record {
      body = b;
      sent = there;
      piece = lt;
      hands = subst (λ n. hands m e s u n b i ≡ true) (let z : 0 + q ≡ q = omega arith in z) on;
    })).1)
    ∙ ap (λ n. map (λ i. (n, i)) (filter (hands m e s u n body) (range_with_len 0 (pieces body))))
    (let z : 0 + j ≡ j = omega arith in z)

one_length : (b : Bool) (j : ℕ) → length (if b then j ∷ [] else []) ≡ (if b then 1 else 0)
one_length true j = refl
one_length false j = refl

pub hands_one : (m : Setup) (x : State) (e : Event) (s u : Party) (j : ℕ) (body : List ℕ)
    → IsRoster m.roster → is_known m.roster s ≡ true → slice_get (x.sent s u) j ≡ Some body
    → Alone m x e s u j → HandsOne m x e s u j body
hands_one m x e s u j body roster known is only =
    let apart = parties_apart m.roster roster in
    let there = known_there m.roster s known in
    let own_handed = own_pieces m x e s u j body is only in
    let own_number = one_number m x e s u j body is only in record {
      own = own_handed;
      arrivals =
          let all = both_counted (λ t. handed m x e t u) (λ t. x.arrived t u) (parties m.roster) in
          let its = ap length (alone (λ t. handed m x e t u) s (parties m.roster) apart there
          (λ t differ. none_handed m x e t u (other_none m x e s t u j only differ)) ∙ own_handed) in
          let count = length-map {B = ℕ × ℕ}
          (filter (hands m e s u j body) (range_with_len 0 (pieces body))) (λ (i : ℕ). (j, i)) in
          omega (arith, all, its, count);
      count =
          let all = both_counted (λ t. x.given t u) (λ t. numbers_given m x e t u) (parties m.roster) in
          let its = ap length (alone (λ t. numbers_given m x e t u) s (parties m.roster) apart there
          (λ t differ. no_numbers m x e t u (other_none m x e s t u j only differ)) ∙ own_number) in
          let one = one_length (gives m x e s u j) j in
          omega (arith, all, its, one);
      numbers = own_number;
      given = by_one m x e s u j (parties_apart m.roster roster) (known_there m.roster s known)
          (alone_given m x e s u j only)
          ∙ ap (λ (b : List ℕ). given_if (gives m x e s u j) (record { from = s; body = b }))
          (ap (λ o. unwrap_or o []) is);
      others = λ s' differ. none_handed m x e s' u (other_none m x e s s' u j only differ);
      silent = λ s' differ. no_numbers m x e s' u (other_none m x e s s' u j only differ);
    }

-- ---- what an event makes a party send

nothing_from : (m : Setup) (x : State) (e : Event) (s : Party) (rs : List Party)
    → ((r : Party) → sent_by m x e s r ≡ [])
    → flat_map (λ r. flat_map (frames_of m s r (length (x.sent s r))) (sent_by m x e s r)) rs ≡ []
nothing_from m x e s [] none = refl
nothing_from m x e s (r ∷ rs) none = rw (none r) (nothing_from m x e s rs none)

pub sends_nothing : (m : Setup) (x : State) (e : Event) (s : Party)
    → ((r : Party) → sent_by m x e s r ≡ []) → frames_from m x e s ≡ []
sends_nothing m x e s none = nothing_from m x e s (parties m.roster) none

pub sends_one : (m : Setup) (x : State) (e : Event) (s r : Party) (body : List ℕ)
    → IsRoster m.roster → is_known m.roster r ≡ true → sent_by m x e s r ≡ body ∷ []
    → ((r' : Party) → is_same_party r' r ≡ false → sent_by m x e s r' ≡ [])
    → frames_from m x e s ≡ frames_of m s r (length (x.sent s r)) body
sends_one m x e s r body roster known one others =
    alone (λ r. flat_map (frames_of m s r (length (x.sent s r))) (sent_by m x e s r)) r (parties m.roster)
    (parties_apart m.roster roster) (known_there m.roster r known)
    (λ t differ. ap (flat_map (frames_of m s t (length (x.sent s t)))) (others t differ))
    ∙ ap (flat_map (frames_of m s r (length (x.sent s r)))) one
    ∙ append-nil (frames_of m s r (length (x.sent s r)) body)

-- ---- who is given to

passed_all : (Q : Message → Type 0) (f : ℕ → Message) (P : ℕ → Bool) (xs : List ℕ)
    → ((k : ℕ) → P k ≡ true → Q (f k)) → AllByRecursion Q (map f (filter P xs))
passed_all Q f P [] each = tt
passed_all Q f P (x ∷ xs) each = elim (bool_cases (P x)) [
  | inl on ↦ rw on (each x on, passed_all Q f P xs each)
  | inr off ↦ rw off (passed_all Q f P xs each)
]

from_partners : (m : Setup) (past : List Event) (e : Event) (u : Party) (ts : List Party)
    → AllByRecursion (λ l. is_partner m.roster l.from u ≡ true)
    (flat_map (given_from m (state m past) e u) ts)
from_partners m past e u [] = tt
from_partners m past e u (t ∷ ts) =
    let x = state m past in
    all_joined (λ (l : Message). is_partner m.roster l.from u ≡ true) (given_from m x e u t)
    (flat_map (given_from m x e u) ts)
    (passed_all (λ (l : Message). is_partner m.roster l.from u ≡ true) (message_of t (x.sent t u))
    (gives m x e t u) (range_with_len 0 (length (x.sent t u)))
    (λ k on. (let h = gives_what_it_hands m x e t u k on in
    partners_of_sent m past t u k h.1.body h.1.sent)))
    (from_partners m past e u ts)

pub given_by_partners : (m : Setup) (past : List Event) (e : Event) (u : Party)
    → AllByRecursion (λ l. is_partner m.roster l.from u ≡ true) (given_to m (state m past) e u)
given_by_partners m past e u = from_partners m past e u (parties m.roster)
