-- The messages that events made parties send, row by row.
use Rattle.std.proofs.Common.{◌≡◌, ℕ, ◌+◌, List, [], ◌∷◌, ◌++◌, ◌&&◌, length, map, true, Option, refl, sym, ap, ap₂, ◌∙◌, inl, inr, arith, append-nil, length-append}
use Rattle.std.specs.Prelude.{if◌then◌else◌}
use Rattle.std.specs.List.{range_with_len}
use Rattle.std.proofs.lemmas.List.{map-append}
use Rattle.levels.specs.declared.level.Party.{Party}
use Rattle.levels.specs.Rosters.{is_same_party}
use Rattle.frame.specs.Pieces.{pieces}
use Rattle.events.specs.declared.event.Event.{Event}
use Rattle.events.specs.Scripts.{is_known}
use Rattle.machine.specs.Setup.{Setup}
use Rattle.machine.specs.Low.{place_of}
use Rattle.machine.specs.Machine.{sent_by, state}
use Rattle.machine.specs.Wire.{frame_row, frames_of, frames_from, wire}
use Rattle.desk.specs.Wires.{WireView}
use Rattle.engine.specs.declared.merging.SentRow.{SentRow}
use Rattle.engine.specs.Slots.{slot_of}
use Rattle.engine.specs.States.{frames_by}
use Rattle.engine.specs.inside.Merging.{Key, key, key_of, count_of, message_keys, sealed_at, AreFramesOf, SentIs}
use Rattle.engine.proofs.Cases.{bool_cases}
use Rattle.engine.proofs.Lists.{all_more, all_and_last}
use Rattle.engine.proofs.Merged.{keys_more, count_same, count_other}

-- one message more, from s to r
abbrev pub sent_row : Party → Party → List ℕ → SentRow
sent_row s r body = record { stream = record { from = s; to = r }; pieces = pieces body }

-- a message that one party sends to another, and no other message
abbrev pub sends_one : Party → Party → List ℕ → Party → Party → List (List ℕ)
sends_one s r body s' r' =
    if is_same_party s s' && is_same_party r r' then body ∷ [] else []

frame_keys : (m : Setup) (s r : Party) (j : ℕ) (body : List ℕ)
    → map key_of (frames_of m s r j body)
    ≡ message_keys (record { from = s; to = r }) j (pieces body)
frame_keys m s r j body = of (range_with_len 0 (pieces body))
  where
    of : (places : List ℕ)
        → map key_of (map (frame_row m s r j body) places)
        ≡ map (key (record { from = s; to = r }) j) places
    of [] = refl
    of (i ∷ places) = ap (λ ks. key (record { from = s; to = r }) j i ∷ ks) (of places)

-- before the first event
pub sent_none : (m : Setup) → SentIs m [] []
sent_none m = record {
  keys = refl;
  counts = λ s r. refl;
  known = tt;
  few = omega arith;
}

-- an event that makes no party send
pub sent_stays : (m : Setup) (past : List Event) (e : Event) (rows : List SentRow)
    → frames_from m (state m past) e (place_of e) ≡ []
    → ((s r : Party) → sent_by m (state m past) e s r ≡ [])
    → SentIs m past rows → SentIs m (e ∷ past) rows
sent_stays m past e rows no_frames none is = record {
  keys = ap (λ more. map key_of (wire m past ++ more)) no_frames
      ∙ ap (map key_of) (append-nil (wire m past)) ∙ is.keys;
  counts = λ s r. is.counts s r
      ∙ ap length (sym (append-nil ((state m past).sent s r)))
      ∙ ap (λ more. length ((state m past).sent s r ++ more)) (sym (none s r));
  known = is.known;
  few = omega (arith, is.few);
}

-- an event that makes a party send one message
pub sent_more : (m : Setup) (past : List Event) (e : Event) (rows : List SentRow) (s r : Party)
    (body : List ℕ) → place_of e ≡ s → is_known m.roster s ≡ true
    → frames_from m (state m past) e s
    ≡ frames_of m s r (length ((state m past).sent s r)) body
    → ((s' r' : Party) → sent_by m (state m past) e s' r' ≡ sends_one s r body s' r')
    → SentIs m past rows → SentIs m (e ∷ past) (rows ++ sent_row s r body ∷ [])
sent_more m past e rows s r body place known frames one is = record {
  keys = ap (λ p. map key_of (wire m past ++ frames_from m (state m past) e p)) place
      ∙ ap (λ more. map key_of (wire m past ++ more)) frames
      ∙ map-append key_of (wire m past) (frames_of m s r (length ((state m past).sent s r)) body)
      ∙ ap₂ (λ (a b : List Key). a ++ b) is.keys
      (frame_keys m s r (length ((state m past).sent s r)) body
      ∙ ap (λ j. message_keys (record { from = s; to = r }) j (pieces body)) (sym (is.counts s r)))
      ∙ sym (keys_more rows (sent_row s r body));
  counts = λ s' r'. counts s' r';
  known = all_and_last (λ row. is_known m.roster row.stream.from ≡ true) rows (sent_row s r body)
      is.known known;
  few = omega (arith, is.few, length-append rows (sent_row s r body ∷ []));
}
  where
    counts : (s' r' : Party)
        → count_of (record { from = s'; to = r' }) (rows ++ sent_row s r body ∷ [])
        ≡ length ((state m past).sent s' r' ++ sent_by m (state m past) e s' r')
    counts s' r' = elim (bool_cases (is_same_party s s' && is_same_party r r')) [
      | inl same ↦
          count_same (record { from = s'; to = r' }) rows (sent_row s r body) same
          ∙ ap (λ n. n + 1) (is.counts s' r')
          ∙ sym (ap (λ more. length ((state m past).sent s' r' ++ more))
          (one s' r' ∙ rw same refl)
          ∙ length-append ((state m past).sent s' r') (body ∷ []))
      | inr differ ↦
          count_other (record { from = s'; to = r' }) rows (sent_row s r body) differ
          ∙ is.counts s' r'
          ∙ sym (ap (λ more. length ((state m past).sent s' r' ++ more))
          (one s' r' ∙ rw differ refl)
          ∙ ap length (append-nil ((state m past).sent s' r')))
    ]

-- the frames of a past are those of what was sent, where each unit has sealed its own
pub are_frames : (m : Setup) (past : List Event) (rows : List SentRow)
    (wires : List (Option WireView)) → SentIs m past rows
    → ((u : Party) → is_known m.roster u ≡ true
    → sealed_at wires (slot_of u) ≡ frames_by u (wire m past))
    → AreFramesOf rows wires (wire m past)
are_frames m past rows wires is own = record {
  keys = is.keys;
  sealed = all_more (λ row. is_known m.roster row.stream.from ≡ true)
      (λ row. sealed_at wires (slot_of row.stream.from)
      ≡ frames_by row.stream.from (wire m past)) rows (λ row known. own row.stream.from known)
      is.known;
}
