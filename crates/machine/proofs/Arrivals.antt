-- What has arrived, by the event that handed it over.
use Rattle.std.proofs.Common.{◌≡◌, ◌≢◌, ℕ, zero, suc, ◌+◌, ◌≤◌, List, [], ◌∷◌, ◌||◌, length, take, reverse, true, Some, sym, ◌∙◌, ap, subst, ◌⊎◌, inl, inr, arith}
use Rattle.std.specs.Prelude.{slice_get}
use Rattle.std.proofs.lemmas.Bool.{or_left, or_right}
use Rattle.std.proofs.lemmas.List.{take_more, reverse-append}
use Rattle.std.proofs.lemmas.Option.{slice_get_within, get_or_from_slice_get, same_Some}
use Rattle.levels.specs.declared.level.Party.{Party}
use Rattle.events.specs.declared.event.Event.{Event}
use Rattle.events.specs.ScriptView.{ScriptView}
use Rattle.machine.specs.Setup.{setup_of}
use Rattle.machine.specs.Given.{has_piece}
use Rattle.machine.specs.Machine.{State, handed, after, state, state_at}
use Rattle.machine.specs.Laws.{HandsOver, HasArrived}
use Rattle.machine.proofs.Basics.{bool_cases, in_both, there_at}
use Rattle.machine.proofs.Handing.{hands_over, handed_over}

nat_cases : (i k : ℕ) → (i ≡ k) ⊎ (i ≢ k)
nat_cases i k = grind arith

-- one more event is the newest
pub past_more : (events : List Event) (n : ℕ) (e : Event) → slice_get events n ≡ Some e
    → reverse (take (n + 1) events) ≡ e ∷ reverse (take n events)
past_more events n e is = ap reverse (take_more events n e (slice_get_within events n e is))
    ∙ rw (get_or_from_slice_get events n e e is) (reverse-append (take n events) (e ∷ []))

-- the state after one more event
pub state_more : (script : ScriptView) (n : ℕ) (e : Event) → slice_get script.events n ≡ Some e
    → state_at script (suc n) ≡ after (setup_of script) e (state_at script n)
state_more script n e is =
    let step : suc n ≡ n + 1 = omega arith in
    ap (λ k. state_at script k) step ∙ ap (state (setup_of script)) (past_more script.events n e is)

one_more : (script : ScriptView) (n : ℕ) (e : Event) (s u : Party) (j i : ℕ)
    → slice_get script.events n ≡ Some e
    → has_piece ((state_at script (suc n)).arrived s u) j i
    ≡ (has_piece (handed (setup_of script) (state_at script n) e s u) j i
    || has_piece ((state_at script n).arrived s u) j i)
one_more script n e s u j i is =
    ap (λ (x : State). has_piece (x.arrived s u) j i) (state_more script n e is)
    ∙ in_both (handed (setup_of script) (state_at script n) e s u) ((state_at script n).arrived s u) j i

pub in_set : (script : ScriptView) (n : ℕ) (s u : Party) (j i : ℕ) → n ≤ length script.events
    → HasArrived script n s u j i → has_piece ((state_at script n).arrived s u) j i ≡ true
in_set script zero s u j i le h = let none = h.earlier in absurd (omega arith)
in_set script (suc n) s u j i le h =
    let there : (e : Event) × (slice_get script.events n ≡ Some e) =
    there_at script.events n (omega arith) in
    let before = has_piece ((state_at script n).arrived s u) j i in
    let now = has_piece (handed (setup_of script) (state_at script n) there.0 s u) j i in
    one_more script n there.0 s u j i there.1 ∙ elim (nat_cases h.k n) [
      | inl last ↦
          let same : h.event ≡ there.0 =
          same_Some h.event there.0 (sym h.there ∙ ap (slice_get script.events) last ∙ there.1) in
          let moved : HandsOver (setup_of script) (state_at script n) h.event s u j i =
          subst (λ k. HandsOver (setup_of script) (state_at script k) h.event s u j i) last h.hands in
          or_left now before
          (handed_over (setup_of script) (state_at script n) there.0 s u j i
          (subst (λ e. HandsOver (setup_of script) (state_at script n) e s u j i) same moved))
      | inr earlier ↦
          or_right now before (in_set script n s u j i (omega arith) (record {
            k = h.k;
            event = h.event;
            earlier = (let lt = h.earlier in omega arith);
            there = h.there;
            hands = h.hands;
          }))
    ]

pub of_set : (script : ScriptView) (n : ℕ) (s u : Party) (j i : ℕ) → n ≤ length script.events
    → has_piece ((state_at script n).arrived s u) j i ≡ true → HasArrived script n s u j i
of_set script zero s u j i le h = cc
of_set script (suc n) s u j i le h =
    let there : (e : Event) × (slice_get script.events n ≡ Some e) =
    there_at script.events n (omega arith) in
    let both : (has_piece (handed (setup_of script) (state_at script n) there.0 s u) j i
    || has_piece ((state_at script n).arrived s u) j i) ≡ true =
    sym (one_more script n there.0 s u j i there.1) ∙ h in
    elim (bool_cases (has_piece (handed (setup_of script) (state_at script n) there.0 s u) j i)) [
      | inl now ↦
          record {
            k = n;
            event = there.0;
            earlier = omega arith;
            there = there.1;
            hands = hands_over (setup_of script) (state_at script n) there.0 s u j i now;
          }
      | inr before ↦
          (let r : HasArrived script n s u j i = of_set script n s u j i (omega arith) (rw before at both) in
          record {
            k = r.k;
            event = r.event;
            earlier = (let lt = r.earlier in omega arith);
            there = r.there;
            hands = r.hands;
          })
    ]
