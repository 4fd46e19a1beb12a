-- Forged bytes and changed frames are turns of their own, and no false frames.
use Rattle.std.proofs.Common.{◌≡◌, ℕ, List, [], ◌∷◌, ◌++◌, map, true, false, Option, Some, None, refl, sym, ap, subst, ◌∙◌, ◌⊎◌, inl, inr}
use Rattle.std.specs.Prelude.{slice_get, option_to_list}
use Rattle.std.proofs.lemmas.Option.{same_Some}
use Rattle.levels.specs.declared.level.Party.{Party}
use Rattle.events.specs.declared.event.Event.{Event}
use Rattle.events.specs.declared.event.Event.TheVariants.{Forge, Tamper}
use Rattle.events.specs.declared.event.Stream.{Stream}
use Rattle.net_side.specs.NetView.{NetView}
use Rattle.net_side.specs.declared.inbound.Inbound.{Inbound}
use Rattle.unit_core.specs.Hearing.{AreInbound}
use Rattle.machine.specs.Setup.{Setup}
use Rattle.machine.specs.Machine.{State, state}
use Rattle.machine.specs.FalseBytes.{OpensIn, edited, IsFalseChange}
use Rattle.engine.specs.Handed.{message_sent, piece_sent}
use Rattle.engine.specs.States.{NetIs}
use Rattle.engine.specs.Turns.{partition_number}
use Rattle.engine.specs.inside.Alone.{IsHarmless}
use Rattle.engine.specs.inside.Events.{WasSent, IsShut, AllShut, IsAlone}
use Rattle.engine.specs.inside.Facts.{Laws}
use Rattle.engine.specs.inside.Judging.{FirstOpens, IsJudged}
use Rattle.engine.proofs.FalseFrames.{shut_frames}
use Rattle.engine.proofs.Lookups.{found_sent, sent_found}

-- ---- forged bytes

pub forge_alone : (m : Setup) (x : State) (at : Party) (bytes : List ℕ)
    → IsAlone m x (Forge at bytes)
forge_alone m x at bytes = record { sending = refl; alone = λ u b. refl }

pub forge_harmless : Laws → (m : Setup) (past : List Event) (at : Party) (bytes : List ℕ)
    → IsJudged m past at bytes false → IsHarmless m past (Forge at bytes)
forge_harmless laws m past at bytes judged = λ net ws is are. by net ws is are judged.0
  where
    by : (net : NetView) (ws : List Inbound) → NetIs m at net
        → AreInbound m.sealed net (bytes ∷ []) ws
        → WasSent m (state m past) bytes ⊎ IsShut m at bytes
        → WasSent m (state m past) bytes ⊎ AllShut ws
    by net ws is are (inl sent) = inl sent
    by net ws is are (inr shut) = inr (shut_frames laws m at net bytes ws is shut are)

-- what is handed over once all else was cleared
pub handed_alone : (before after : List (List ℕ)) (bytes : List ℕ) → before ≡ []
    → after ≡ before ++ bytes ∷ [] → after ≡ bytes ∷ []
handed_alone before after bytes none pushed = pushed ∙ ap (λ fs. fs ++ bytes ∷ []) none

-- ---- a changed frame

pub tamper_alone : (m : Setup) (x : State) (stream : Stream) (j i : ℕ) (at : Party)
    (edits : List (ℕ × ℕ)) → IsAlone m x (Tamper stream j i at edits)
tamper_alone m x stream j i at edits = record { sending = refl; alone = λ u b. refl }

-- the frame that is changed, if there is one
abbrev pub changed : List (ℕ × ℕ) → Option (List ℕ) → List (List ℕ)
changed edits found = map (edited edits) (option_to_list found)

-- it is what is handed over once it was found, kept alone and changed
pub changed_is : (m : Setup) (x : State) (stream : Stream) (j i : ℕ) (edits pairs : List (ℕ × ℕ))
    (found kept handed : List (List ℕ)) → found ≡ message_sent m x stream j
    → kept ≡ option_to_list (slice_get found i) → pairs ≡ edits → handed ≡ map (edited pairs) kept
    → handed ≡ map (edited edits) (piece_sent m x stream j i)
changed_is m x stream j i edits pairs found kept handed all one same changed =
    changed ∙ ap (λ es. map (edited es) kept) same
    ∙ ap (map (edited edits)) (one ∙ ap (λ fs. option_to_list (slice_get fs i)) all)

changed_shut : Laws → (m : Setup) (at : Party) (edits : List (ℕ × ℕ)) (found : Option (List ℕ))
    (net : NetView) (ws : List Inbound) → FirstOpens m at (changed edits found) false
    → NetIs m at net → AreInbound m.sealed net (changed edits found) ws → AllShut ws
changed_shut laws m at edits None net [] first is are = tt
changed_shut laws m at edits None net (w ∷ ws) first is are = absurd are
changed_shut laws m at edits (Some bytes) net ws shut is are =
    shut_frames laws m at net (edited edits bytes) ws is shut are

-- the frame that is changed, where it was sent
abbrev sent_frame : Setup → List Event → Stream → ℕ → ℕ → Option (List ℕ)
sent_frame m past stream j i = slice_get (message_sent m (state m past) stream j) i

pub tamper_harmless : Laws → (m : Setup) (past : List Event) (stream : Stream) (j i : ℕ)
    (at : Party) (edits : List (ℕ × ℕ))
    → FirstOpens m at (map (edited edits) (piece_sent m (state m past) stream j i)) false
    → IsHarmless m past (Tamper stream j i at edits)
tamper_harmless laws m past stream j i at edits shut = λ net ws is are. changed_shut laws m at edits
    (sent_frame m past stream j i) net ws shut is are

-- where it doesn't open, it is no false one
pub shut_change : (m : Setup) (past : List Event) (stream : Stream) (j i : ℕ) (at : Party)
    (edits : List (ℕ × ℕ))
    → FirstOpens m at (map (edited edits) (piece_sent m (state m past) stream j i)) false
    → ¬ IsFalseChange m (state m past) at stream.from stream.to j i edits
shut_change m past stream j i at edits shut = λ bad. by bad (sent_frame m past stream j i)
    (sent_found m (state m past) stream.from stream.to j i bad.bytes bad.sent) shut
  where
    by : (bad : IsFalseChange m (state m past) at stream.from stream.to j i edits)
        (o : Option (List ℕ)) → o ≡ Some bad.bytes → FirstOpens m at (changed edits o) false → ⊥
    by bad None is first = cc
    by bad (Some bytes) is first =
        first (subst (λ b. OpensIn m (partition_number m at) (edited edits b))
        (sym (same_Some bytes bad.bytes is)) bad.opens)

-- where it opens, it is one
pub open_change : (m : Setup) (past : List Event) (stream : Stream) (j i : ℕ) (at : Party)
    (edits : List (ℕ × ℕ))
    → FirstOpens m at (map (edited edits) (piece_sent m (state m past) stream j i)) true
    → IsFalseChange m (state m past) at stream.from stream.to j i edits
open_change m past stream j i at edits opens = by (sent_frame m past stream j i) refl opens
  where
    by : (o : Option (List ℕ)) → sent_frame m past stream j i ≡ o
        → FirstOpens m at (changed edits o) true
        → IsFalseChange m (state m past) at stream.from stream.to j i edits
    by None is first = absurd cc
    by (Some bytes) is first = record {
      bytes = bytes;
      sent = found_sent m (state m past) stream.from stream.to j i bytes
          (slice_get ((state m past).sent stream.from stream.to) j) refl is;
      opens = first;
    }
