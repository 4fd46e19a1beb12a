-- What a party is told of another, in order.
use Rattle.std.proofs.Common.{◌≡◌, ℕ, List, [], ◌∷◌, ◌++◌, ◌&&◌, length, map, reverse, Bool, true, false, Option, Some, None, refl, sym, ap, ap₂, ◌∙◌, inl, inr}
use Rattle.std.specs.Prelude.{slice_get, nat_le, filter, unwrap_or, if◌then◌else◌}
use Rattle.std.specs.List.{flat_map, range_with_len, AllByRecursion}
use Rattle.levels.specs.declared.level.Party.{Party}
use Rattle.levels.specs.declared.level.Party.TheVariants.{Manager}
use Rattle.levels.specs.Kept.{IsRoster}
use Rattle.levels.specs.Rosters.{RosterView, is_same_party, is_partner}
use Rattle.machine.specs.declared.line.OutLine.{OutLine}
use Rattle.machine.specs.declared.line.OutLine.TheVariants.{Sent, Refused, From}
use Rattle.events.specs.declared.event.Event.{Event}
use Rattle.events.specs.ScriptView.{ScriptView}
use Rattle.machine.specs.Setup.{Setup, setup_of}
use Rattle.machine.specs.Sends.{Sending, sending_of, sent_on, answer_to, answers}
use Rattle.machine.specs.Given.{has_all}
use Rattle.machine.specs.Machine.{State, Message, parties, handed, gives, numbers_given, message_of, given_from, given_to, calls_by, is_answered_on, sent_by, lines_by, after, state, end_of}
use Rattle.machine.specs.Files.{CallRow}
use Rattle.machine.specs.Laws.{bodies_from, AreInOrder}
use Rattle.machine.proofs.Basics.{bool_cases, found_still, same_party}
use Rattle.machine.proofs.PartiesApart.{is_in, Apart, only_one, none_there, parties_apart}
use Rattle.machine.proofs.Order.{increasing, parts, Given, given_is}

bodies-append : (s : Party) (xs ys : List OutLine)
    → bodies_from s (xs ++ ys) ≡ bodies_from s xs ++ bodies_from s ys
bodies-append s [] ys = refl
bodies-append s (From r body ∷ xs) ys =
    elim (bool_cases (is_same_party r s)) [
      | inl here ↦
          rw here (ap (λ (t : List (List ℕ)). body ∷ t) (bodies-append s xs ys))
      | inr other ↦
          rw other (bodies-append s xs ys)
    ]
bodies-append s (Sent to number ∷ xs) ys = bodies-append s xs ys
bodies-append s (Refused to why ∷ xs) ys = bodies-append s xs ys

-- an answer says no body
one_answer : (roster : RosterView) (x : Sending) (messages : List (List ℕ)) (s : Party)
    → bodies_from s (answer_to roster x messages ∷ []) ≡ []
one_answer roster x messages s = elim (bool_cases (is_partner roster x.from x.to)) [
  | inl partners ↦
      (elim (bool_cases (nat_le (length x.message) 5632)) [
        | inl short ↦ rw (partners, short)
        | inr long ↦
            rw (partners, long)
      ])
  | inr apart ↦ rw apart
]

no_body : (roster : RosterView) (sent : Party → Party → List (List ℕ)) (o : Option Sending) (s r : Party)
    → bodies_from s (answers roster sent o r) ≡ []
no_body roster sent None s r = refl
no_body roster sent (Some x) s r =
    elim (bool_cases (is_same_party x.from r)) [
      | inl here ↦
          rw here (one_answer roster x (sent x.from x.to) s)
      | inr other ↦ rw other
    ]

-- the lines of messages with their senders
abbrev lines_of : List Message → List OutLine
lines_of ls = map (λ l. From l.from l.body) ls

lines-append : (xs ys : List Message) → lines_of (xs ++ ys) ≡ lines_of xs ++ lines_of ys
lines-append [] ys = refl
lines-append (l ∷ xs) ys = ap (λ (t : List OutLine). From l.from l.body ∷ t) (lines-append xs ys)

-- the messages of these numbers
abbrev bodies_at : State → Party → Party → List ℕ → List (List ℕ)
bodies_at x t r js = map (λ j. unwrap_or (slice_get (x.sent t r) j) []) js

from_one : (x : State) (s t r : Party) (js : List ℕ)
    → bodies_from s (lines_of (map (λ j. message_of t (x.sent t r) j) js))
    ≡ (if is_same_party t s then bodies_at x t r js else [])
from_one x s t r [] = elim (bool_cases (is_same_party t s)) [ inl here ↦ rw here | inr other ↦ rw other ]
from_one x s t r (j ∷ js) =
    let more = from_one x s t r js in
    elim (bool_cases (is_same_party t s)) [
      | inl here ↦ (let m = rw here at more in rw (here, m))
      | inr other ↦ (let m = rw other at more in rw (other, m))
    ]

from_all : (m : Setup) (x : State) (e : Event) (s r : Party) (ts : List Party)
    → bodies_from s (lines_of (flat_map (given_from m x e r) ts))
    ≡ flat_map (λ t. if is_same_party t s then bodies_at x t r (numbers_given m x e t r) else []) ts
from_all m x e s r [] = refl
from_all m x e s r (t ∷ ts) =
    ap (bodies_from s) (lines-append (given_from m x e r t) (flat_map (given_from m x e r) ts))
    ∙ bodies-append s (lines_of (given_from m x e r t)) (lines_of (flat_map (given_from m x e r) ts))
    ∙ ap₂ (λ (a b : List (List ℕ)). a ++ b) (from_one x s t r (numbers_given m x e t r)) (from_all m x e s r ts)

-- what an event tells r of s
told_now : (m : Setup) (x : State) (e : Event) (s r : Party)
    → bodies_from s (lines_by m x e r)
    ≡ flat_map (λ t. if is_same_party t s then bodies_at x t r (numbers_given m x e t r) else [])
    (parties m.roster)
told_now m x e s r =
    bodies-append s (answers m.roster x.sent (sending_of m.roster e) r) (lines_of (given_to m x e r))
    ∙ ap (λ (t : List (List ℕ)). t
    ++ bodies_from s (lines_of (given_to m x e r))) (no_body m.roster x.sent (sending_of m.roster e) s r)
    ∙ from_all m x e s r (parties m.roster)

one : (before added : List (List ℕ)) (j : ℕ) (o : Option (List ℕ)) (arrived : List (ℕ × ℕ))
    → slice_get before j ≡ o → has_all o arrived j ≡ true → o ≡ slice_get (before ++ added) j
one before added j None arrived is h = cc
one before added j (Some m) arrived is h = sym (found_still before added j m is)

body_is : (before added : List (List ℕ)) (j : ℕ) (o : Option (List ℕ)) (arrived : List (ℕ × ℕ))
    → slice_get before j ≡ o → has_all o arrived j ≡ true
    → Some (unwrap_or o []) ≡ slice_get (before ++ added) j
body_is before added j None arrived is h = cc
body_is before added j (Some m) arrived is h = sym (found_still before added j m is)

-- numbers of messages that were sent keep them
same_still : (before added : List (List ℕ)) (js : List ℕ) (arrived : List (ℕ × ℕ))
    → AllByRecursion (λ j. has_all (slice_get before j) arrived j ≡ true) js
    → map (slice_get before) js ≡ map (slice_get (before ++ added)) js
same_still before added [] arrived all = refl
same_still before added (j ∷ js) arrived all =
    ap₂ (λ (a : Option (List ℕ)) (b : List (Option (List ℕ))). a
    ∷ b) (one before added j (slice_get before j) arrived refl all.0) (same_still before added js arrived all.1)

-- of the messages that are given the bodies are those that were sent
bodies_are : (m : Setup) (x : State) (e : Event) (s r : Party) (added : List (List ℕ)) (xs : List ℕ)
    → map Some (bodies_at x s r (filter (gives m x e s r) xs))
    ≡ map (slice_get (x.sent s r ++ added)) (filter (gives m x e s r) xs)
bodies_are m x e s r added [] = refl
bodies_are m x e s r added (j ∷ xs) = elim (bool_cases (gives m x e s r j)) [
  | inl on ↦ rw on (ap₂ (λ (a : Option (List ℕ)) (b : List (Option (List ℕ))). a ∷ b)
      (body_is (x.sent s r) added j (slice_get (x.sent s r) j) (handed m x e s r
      ++ x.arrived s r) refl (parts m x e s r j on).0) (bodies_are m x e s r added xs))
  | inr off ↦ rw off (bodies_are m x e s r added xs)
]

abbrev IsTold : State → Party → Party → Type 0
IsTold x s r = map Some (bodies_from s (x.told r)) ≡ map (slice_get (x.sent s r)) (x.given s r)

map-append : {A B : Type 0} (f : A → B) (xs ys : List A) → map f (xs ++ ys) ≡ map f xs ++ map f ys
map-append f [] ys = refl
map-append f (x ∷ xs) ys = ap (λ t. f x ∷ t) (map-append f xs ys)

told_more : (m : Setup) (e : Event) (x : State) (s r : Party) → Apart (parties m.roster)
    → is_in s (parties m.roster) ≡ true → Given x s r → IsTold x s r → IsTold (after m e x) s r
told_more m e x s r apart some given before =
    let now : bodies_from s (lines_by m x e r) ≡ bodies_at x s r (numbers_given m x e s r) =
    told_now m x e s r
    ∙ only_one s (λ t. bodies_at x t r (numbers_given m x e t r)) (parties m.roster) apart some in
    ap (map Some) (bodies-append s (x.told r) (lines_by m x e r))
    ∙ map-append Some (bodies_from s (x.told r)) (bodies_from s (lines_by m x e r))
    ∙ ap₂ (λ (a b : List (Option (List ℕ))). a ++ b)
    (before ∙ same_still (x.sent s r) (sent_by m x e s r) (x.given s r) (x.arrived s r) given.whole)
    (ap (map Some) now ∙ bodies_are m x e s r (sent_by m x e s r) (range_with_len 0 (length (x.sent s r))))
    ∙ sym (map-append (slice_get (x.sent s r ++ sent_by m x e s r)) (x.given s r) (numbers_given m x e s r))

told_is : (m : Setup) (past : List Event) (s r : Party) → Apart (parties m.roster)
    → is_in s (parties m.roster) ≡ true → IsTold (state m past) s r
told_is m [] s r apart some = refl
told_is m (e ∷ past) s r apart some =
    told_more m e (state m past) s r apart some (given_is m past s r) (told_is m past s r apart some)

none_told : (m : Setup) (past : List Event) (s r : Party) → is_in s (parties m.roster) ≡ false
    → bodies_from s ((state m past).told r) ≡ []
none_told m [] s r none = refl
none_told m (e ∷ past) s r none =
    bodies-append s ((state m past).told r) (lines_by m (state m past) e r)
    ∙ ap₂ (λ (a b : List (List ℕ)). a ++ b) (none_told m past s r none)
    (told_now m (state m past) e s r
    ∙ none_there s (λ t. bodies_at (state m past) t r (numbers_given m (state m past) e t r)) (parties m.roster)
    none)

-- between parties that are no partners nothing is sent and nothing is given
no_message : (roster : RosterView) (o : Option Sending) (s r : Party) → is_partner roster s r ≡ false
    → sent_on roster o s r ≡ []
no_message roster None s r apart = refl
no_message roster (Some x) s r apart = elim (bool_cases (is_same_party x.from s)) [
  | inl from ↦ (elim (bool_cases (is_same_party x.to r)) [
    | inl to ↦
        (let a : is_partner roster x.from x.to ≡ false =
        ap₂ (is_partner roster) (same_party x.from s from) (same_party x.to r to) ∙ apart in rw (from, to, a))
    | inr other ↦ rw (from, other)
  ])
  | inr other ↦ rw other
]

never : (a b : Bool) → (a && b && false) ≡ false
never true true = refl
never true false = refl
never false b = refl

not_from : (roster : RosterView) (s r : Party) (c : CallRow) → is_partner roster s r ≡ false
    → is_answered_on roster s r c ≡ false
not_from roster s r c apart =
    rw apart (never (is_same_party (Manager (record { 0 = c.level })) s) (is_same_party c.caller r))

no_caller : (roster : RosterView) (s r : Party) (cs : List CallRow) → is_partner roster s r ≡ false
    → filter (is_answered_on roster s r) cs ≡ []
no_caller roster s r [] apart = refl
no_caller roster s r (c ∷ cs) apart = rw (not_from roster s r c apart) (no_caller roster s r cs apart)

pub nothing_by : (m : Setup) (x : State) (e : Event) (s r : Party) → is_partner m.roster s r ≡ false
    → sent_by m x e s r ≡ []
nothing_by m x e s r apart =
    rw (no_message m.roster (sending_of m.roster e) s r apart, no_caller m.roster s r (calls_by m x e) apart)

pub nothing_sent : (m : Setup) (past : List Event) (s r : Party) → is_partner m.roster s r ≡ false
    → (state m past).sent s r ≡ []
nothing_sent m [] s r apart = refl
nothing_sent m (e ∷ past) s r apart =
    rw (nothing_sent m past s r apart, nothing_by m (state m past) e s r apart)

nothing_given : (m : Setup) (past : List Event) (s r : Party) → is_partner m.roster s r ≡ false
    → (state m past).given s r ≡ []
nothing_given m [] s r apart = refl
nothing_given m (e ∷ past) s r apart = ap₂ (λ (a b : List ℕ). a ++ b) (nothing_given m past s r apart)
    (ap (λ (ms : List (List ℕ)). filter (gives m (state m past) e s r) (range_with_len 0 (length ms)))
    (nothing_sent m past s r apart))

pub in_order : (script : ScriptView) (s r : Party) → IsRoster script.roster → AreInOrder script s r
in_order script s r is =
    let m : Setup = setup_of script in
    let past : List Event = reverse script.events in
    elim (bool_cases (is_in s (parties script.roster))) [
      | inl some ↦ record {
        numbers = (state (setup_of script) (reverse script.events)).given s r;
        rising =
            increasing ((end_of script).given s r)
            (given_is (setup_of script) (reverse script.events) s r).rising;
        messages = told_is (setup_of script) (reverse script.events) s r (parties_apart script.roster is) some;
        partners = nothing_given (setup_of script) (reverse script.events) s r;
      }
      | inr none ↦
          record {
            numbers = [];
            rising = increasing [] tt;
            messages = ap (map Some) (none_told (setup_of script) (reverse script.events) s r none);
            partners = λ apart. refl;
          }
    ]
