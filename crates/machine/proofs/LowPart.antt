-- The state on the low part agrees with the state on the whole for all that is at or below the level.
use Rattle.std.proofs.Common.{◌≡◌, ℕ, List, [], ◌∷◌, ◌++◌, length, map, reverse, Bool, true, false, Option, Some, None, refl, sym, ap, ap₂, ◌∙◌, inl, inr, append-nil}
use Rattle.std.specs.Prelude.{filter}
use Rattle.std.specs.List.{flat_map, range_with_len}
use Rattle.std.proofs.lemmas.List.{reverse-append}
use Rattle.std.proofs.lemmas.List.Elements.{filter-append}
use Rattle.levels.specs.declared.level.Level.{Level}
use Rattle.levels.specs.declared.level.Party.{Party}
use Rattle.levels.specs.declared.level.Party.TheVariants.{Host, Manager}
use Rattle.levels.specs.Rosters.{RosterView, level_of, is_same_party, is_partner}
use Rattle.file_calls.specs.Spelling.{reply_text}
use Rattle.machine.specs.declared.line.OutLine.{OutLine}
use Rattle.machine.specs.declared.line.OutLine.TheVariants.{From}
use Rattle.events.specs.declared.event.Event.{Event}
use Rattle.events.specs.ScriptView.{ScriptView}
use Rattle.machine.specs.Setup.{Setup, setup_of}
use Rattle.machine.specs.Low.{place_of, is_within, is_low, low_events, low}
use Rattle.machine.specs.Sends.{Sending, sending_of, sent_on, answers}
use Rattle.machine.specs.Files.{CallRow}
use Rattle.machine.specs.Plan.{reply}
use Rattle.machine.specs.Machine.{call_row, State, Message, parties, handed_of, gives, numbers_given, message_of, given_from, given_to, calls_to, calls_by, is_answered_on, replies, sent_by, after, state, told}
use Rattle.machine.proofs.Basics.{bool_cases, same_party}
use Rattle.machine.proofs.InOrder.{nothing_by}
use Rattle.machine.proofs.Elsewhere.{none_sent, stays_at}
use Rattle.machine.proofs.Levels.{partner_low, partner_level, at_most_self}
use Rattle.machine.proofs.LowReplies.{is_low_call, low_calls, low_setup, reply_low}

-- x, on the low part, agrees with y, on the whole
pub record Agrees (roster : RosterView) (level : Level) (x y : State) : Type 0 where
  pub sent : (s r : Party) → is_low roster level r ≡ true → x.sent s r ≡ y.sent s r
  pub arrived : (s r : Party) → is_low roster level r ≡ true → x.arrived s r ≡ y.arrived s r
  pub given : (s r : Party) → is_low roster level r ≡ true → x.given s r ≡ y.given s r
  pub calls : x.calls ≡ low_calls roster level y.calls
  pub told : (r : Party) → is_low roster level r ≡ true → x.told r ≡ y.told r

-- ---- an event that isn't low does nothing to what is low

clash : (b : Bool) → b ≡ true → b ≡ false → ⊥
clash b t f = cc

elsewhere : (roster : RosterView) (level : Level) (a u : Party) → is_low roster level u ≡ true
    → is_low roster level a ≡ false → is_same_party a u ≡ false
elsewhere roster level a u low high = elim (bool_cases (is_same_party a u)) [
  | inl here ↦
      absurd (clash (is_low roster level a) (ap (is_low roster level) (same_party a u here) ∙ low) high)
  | inr other ↦ other
]

-- to what is low nothing is sent from what isn't
none_down : (m : Setup) (level : Level) (x : State) (e : Event) (s r : Party) → is_low m.roster level r ≡ true
    → is_low m.roster level (place_of e) ≡ false → sent_by m x e s r ≡ []
none_down m level x e s r low high = elim (bool_cases (is_partner m.roster s r)) [
  | inl partners ↦
      none_sent m x e s r (elsewhere m.roster level (place_of e) s (partner_low m.roster level s r partners low)
      high)
  | inr apart ↦ nothing_by m x e s r apart
]

no_call_at : (roster : RosterView) (level : Level) (a : Party) (ls : List Message)
    → is_low roster level a ≡ false → low_calls roster level (calls_to a ls) ≡ []
no_call_at roster level (Host address) ls high = refl
no_call_at roster level (Manager p) [] high = refl
no_call_at roster level (Manager p) (l ∷ ls) high = rw high (no_call_at roster level (Manager p) ls high)

-- ---- an event that is low does the same

call_kept_at : (roster : RosterView) (level : Level) (a : Party) (ls : List Message)
    → is_low roster level a ≡ true → low_calls roster level (calls_to a ls) ≡ calls_to a ls
call_kept_at roster level (Host address) ls low = refl
call_kept_at roster level (Manager p) [] low = refl
call_kept_at roster level (Manager p) (l ∷ ls) low =
    rw low (ap (λ (cs : List CallRow). call_row p.0 l ∷ cs) (call_kept_at roster level (Manager p) ls low))

gives_same : (m : Setup) (level : Level) (x y : State) (e : Event) (s u : Party) (j : ℕ)
    → x.sent s u ≡ y.sent s u → x.arrived s u ≡ y.arrived s u → x.given s u ≡ y.given s u
    → gives (low_setup level m) x e s u j ≡ gives m y e s u j
unfolding gives
gives_same m level x y e s u j sent arrived given = rw (sent, arrived, given)

filter_same : (P Q : ℕ → Bool) (xs : List ℕ) → ((j : ℕ) → P j ≡ Q j) → filter P xs ≡ filter Q xs
filter_same P Q [] same = refl
filter_same P Q (x ∷ xs) same = rw (same x, filter_same P Q xs same)

given_same : (m : Setup) (level : Level) (x y : State) (e : Event) (s u : Party)
    → is_low m.roster level u ≡ true → Agrees m.roster level x y
    → numbers_given (low_setup level m) x e s u ≡ numbers_given m y e s u
given_same m level x y e s u low agrees =
    filter_same (gives (low_setup level m) x e s u) (gives m y e s u) (range_with_len 0 (length (x.sent s u)))
    (λ j. gives_same m level x y e s u j (agrees.sent s u low) (agrees.arrived s u low) (agrees.given s u low))
    ∙ ap (λ (ms : List (List ℕ)). filter (gives m y e s u) (range_with_len 0 (length ms))) (agrees.sent s u low)

given_to_same_from : (m : Setup) (level : Level) (x y : State) (e : Event) (u : Party) (ts : List Party)
    → is_low m.roster level u ≡ true → Agrees m.roster level x y
    → flat_map (given_from (low_setup level m) x e u) ts ≡ flat_map (given_from m y e u) ts
given_to_same_from m level x y e u [] low agrees = refl
given_to_same_from m level x y e u (t ∷ ts) low agrees =
    ap₂ (λ (a b : List Message). a ++ b)
    (ap₂ (λ (ms : List (List ℕ)) (js : List ℕ). map (λ j. message_of t ms j) js) (agrees.sent t u low)
    (given_same m level x y e t u low agrees))
    (given_to_same_from m level x y e u ts low agrees)

given_to_same : (m : Setup) (level : Level) (x y : State) (e : Event) (u : Party)
    → is_low m.roster level u ≡ true → Agrees m.roster level x y
    → given_to (low_setup level m) x e u ≡ given_to m y e u
given_to_same m level x y e u low agrees = given_to_same_from m level x y e u (parties m.roster) low agrees

replies_same_at : (m : Setup) (level : Level) (cs : List CallRow) (a : Party) (ls : List Message) (s r : Party)
    → is_low m.roster level a ≡ true
    → map (λ c. reply_text (reply (low_setup level m) (low_calls m.roster level cs) c))
    (filter (is_answered_on m.roster s r) (calls_to a ls))
    ≡ map (λ c. reply_text (reply m cs c)) (filter (is_answered_on m.roster s r) (calls_to a ls))
replies_same_at m level cs (Host address) ls s r low = refl
replies_same_at m level cs (Manager p) [] s r low = refl
replies_same_at m level cs (Manager p) (l ∷ ls) s r low =
    let more = replies_same_at m level cs (Manager p) ls s r low in
    elim (bool_cases (is_answered_on m.roster s r (call_row p.0 l))) [
      | inl on ↦
          rw (on, reply_low m level cs (call_row p.0 l) low)
          (ap (λ (ts : List (List ℕ)). reply_text (reply m cs (call_row p.0 l)) ∷ ts) more)
      | inr off ↦ rw off more
    ]

replies_same : (m : Setup) (level : Level) (x y : State) (e : Event) (s r : Party)
    → is_low m.roster level (place_of e) ≡ true → Agrees m.roster level x y
    → replies (low_setup level m) x e s r ≡ replies m y e s r
replies_same m level x y e s r low agrees =
    ap₂ (λ (cs : List CallRow) (ls : List Message). map (λ c. reply_text (reply (low_setup level m) cs c))
    (filter (is_answered_on m.roster s r) (calls_to (place_of e) ls)))
    agrees.calls (given_to_same m level x y e (place_of e) low agrees)
    ∙ replies_same_at m level y.calls (place_of e) (given_to m y e (place_of e)) s r low

answer_same : (roster : RosterView) (level : Level) (o : Option Sending) (f g : Party → Party
    → List (List ℕ)) (r : Party) → is_low roster level r ≡ true
    → ((s t : Party) → is_low roster level t ≡ true → f s t ≡ g s t)
    → answers roster f o r ≡ answers roster g o r
answer_same roster level None f g r low same = refl
answer_same roster level (Some x) f g r low same = elim (bool_cases (is_same_party x.from r)) [
  | inl here ↦ (elim (bool_cases (is_partner roster x.from x.to)) [
    | inl partners ↦
        (let to_low : is_low roster level x.to ≡ true =
        ap (λ o. is_within o level) (sym (partner_level roster x.from x.to partners))
        ∙ ap (is_low roster level) (same_party x.from r here) ∙ low in
        rw (here, same x.from x.to to_low))
    | inr apart ↦ rw (here, apart)
  ])
  | inr other ↦ rw other
]

low_event : (m : Setup) (level : Level) (e : Event) (x y : State) → is_low m.roster level (place_of e) ≡ true
    → Agrees m.roster level x y → Agrees m.roster level (after (low_setup level m) e x) (after m e y)
low_event m level e x y here agrees = record {
  sent = λ s r low. ap₂ (λ (a b : List (List ℕ)). a ++ b) (agrees.sent s r low)
      (ap (λ (t : List (List ℕ)). sent_on m.roster (sending_of m.roster e) s r
      ++ t) (replies_same m level x y e s r here agrees));
  arrived =
      λ s r low. ap₂ (λ (a b : List (ℕ × ℕ)). a
      ++ b) (ap (handed_of m e s r 0) (agrees.sent s r low)) (agrees.arrived s r low);
  given =
      λ s r low. ap₂ (λ (a b : List ℕ). a
      ++ b) (agrees.given s r low) (given_same m level x y e s r low agrees);
  calls =
      ap₂ (λ (a b : List CallRow). a
      ++ b) (ap (calls_to (place_of e)) (given_to_same m level x y e (place_of e) here agrees)) agrees.calls
      ∙ ap (λ (t : List CallRow). t
      ++ low_calls m.roster level y.calls)
      (sym (call_kept_at m.roster level (place_of e) (given_to m y e (place_of e)) here))
      ∙ sym (filter-append (is_low_call m.roster level) (calls_by m y e) y.calls);
  told = λ r low. ap₂ (λ (a b : List OutLine). a ++ b) (agrees.told r low)
      (ap₂ (λ (a : List OutLine) (ls : List Message). a ++ map (λ l. From l.from l.body) ls)
      (answer_same m.roster level (sending_of m.roster e) x.sent y.sent r low agrees.sent)
      (given_to_same m level x y e r low agrees));
}

high_event : (m : Setup) (level : Level) (e : Event) (x y : State) → is_low m.roster level (place_of e) ≡ false
    → Agrees m.roster level x y → Agrees m.roster level x (after m e y)
high_event m level e x y high agrees = record {
  sent = λ s r low. agrees.sent s r low
      ∙ sym (ap (λ (t : List (List ℕ)). y.sent s r ++ t) (none_down m level y e s r low high)
      ∙ append-nil (y.sent s r));
  arrived =
      λ s r low. agrees.arrived s r low
      ∙ sym ((stays_at m e y r (elsewhere m.roster level (place_of e) r low high)).arrived s);
  given =
      λ s r low. agrees.given s r low
      ∙ sym ((stays_at m e y r (elsewhere m.roster level (place_of e) r low high)).given s);
  calls = agrees.calls ∙ sym (filter-append (is_low_call m.roster level) (calls_by m y e) y.calls
      ∙ ap (λ (t : List CallRow). t
      ++ low_calls m.roster level y.calls)
      (no_call_at m.roster level (place_of e) (given_to m y e (place_of e)) high));
  told = λ r low. agrees.told r low
      ∙ sym (stays_at m e y r (elsewhere m.roster level (place_of e) r low high)).told;
}

-- the state on the low events agrees with the state on all events
pub agrees : (m : Setup) (level : Level) (past : List Event)
    → Agrees m.roster level (state (low_setup level m) (low_events m.roster level past)) (state m past)
agrees m level [] = record {
  sent = λ s r low. refl;
  arrived = λ s r low. refl;
  given = λ s r low. refl;
  calls = refl;
  told = λ r low. refl;
}
agrees m level (e ∷ past) = elim (bool_cases (is_low m.roster level (place_of e))) [
  | inl kept ↦
      rw kept (low_event m level e (state (low_setup level m) (low_events m.roster level past)) (state m past)
      kept (agrees m level past))
  | inr lost ↦
      rw lost (high_event m level e (state (low_setup level m) (low_events m.roster level past)) (state m past)
      lost (agrees m level past))
]

reverse-cons : (e : Event) (events : List Event) → reverse (e ∷ events) ≡ reverse events ++ e ∷ []
reverse-cons e events = reverse-append (e ∷ []) events

reverse-low : (roster : RosterView) (level : Level) (events : List Event)
    → reverse (low_events roster level events) ≡ low_events roster level (reverse events)
reverse-low roster level [] = refl
reverse-low roster level (e ∷ events) =
    let kept_at = λ (a : Event). is_low roster level (place_of a) in
    elim (bool_cases (is_low roster level (place_of e))) [
      | inl kept ↦
          rw (
            reverse-cons e events,
            filter-append,
            kept,
            reverse-cons e (low_events roster level events),
            reverse-low roster level events,
          )
      | inr lost ↦ rw (reverse-cons e events, filter-append, lost, append-nil, reverse-low roster level events)
    ]

-- what a party at or below a level is told depends on the low part alone
pub told_low : (script : ScriptView) (level : Level) (r : Party) → is_low script.roster level r ≡ true
    → told (low level script) r ≡ told script r
told_low script level r within =
    ap (λ (past : List Event). (state (low_setup level (setup_of script)) past).told r)
    (reverse-low script.roster level script.events)
    ∙ (agrees (setup_of script) level (reverse script.events)).told r within

pub own_low : (roster : RosterView) (level : Level) (r : Party) → level_of roster r ≡ Some level
    → is_low roster level r ≡ true
own_low roster level r is = rw is (at_most_self level)
