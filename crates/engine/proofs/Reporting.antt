-- What is reported once all desks are closed.
use Rattle.std.proofs.Common.{◌≡◌, ℕ, ◌<◌, List, [], ◌∷◌, length, map, take, get_or, Bool, true, false, Option, Some, None, refl, sym, ap, subst, ◌∙◌, ◌⊎◌, inl, inr, arith}
use Rattle.std.specs.Prelude.{is_some, reverse, ◌==◌, if◌then◌else◌}
use Rattle.std.specs.List.{find, AllByRecursion}
use Rattle.std.specs.Option.{option_map}
use Rattle.std.proofs.Math.ListN.{get_or-map}
use Rattle.std.proofs.lemmas.List.{get_or-take, length-map, length-take, take_all}
use Rattle.std.proofs.lemmas.Option.{slice_get-get_or}
use Rattle.levels.specs.declared.level.Level.{Level}
use Rattle.levels.specs.declared.level.Partition.{Partition}
use Rattle.levels.specs.declared.level.Party.{Party}
use Rattle.levels.specs.declared.level.Party.TheVariants.{Host, Manager}
use Rattle.levels.specs.declared.rows.HostRow.{HostRow}
use Rattle.levels.specs.declared.rows.LevelRow.{LevelRow}
use Rattle.levels.specs.Kept.{IsRoster, IsHostRow}
use Rattle.levels.specs.Rosters.{RosterView, host_row, partition_of, level_at, level_of}
use Rattle.seal_core.specs.Sealing.{Sealer, IsSealing}
use Rattle.events.specs.declared.event.Event.{Event}
use Rattle.events.specs.ScriptView.{ScriptView}
use Rattle.events.specs.Scripts.{is_known, IsScript}
use Rattle.unit_core.specs.Views.{TallyView}
use Rattle.unit_core.specs.Tallies.{nothing_counted}
use Rattle.planned_files.specs.FilesView.{FilesView}
use Rattle.machine.specs.declared.line.OutLine.{OutLine}
use Rattle.machine.specs.Setup.{Setup, setup_of}
use Rattle.machine.specs.Machine.{state}
use Rattle.machine.specs.FalseBytes.{NoneFalse}
use Rattle.machine.specs.Text.{due_lines}
use Rattle.machine.specs.Wire.{wire, frames}
use Rattle.desk.specs.Batches.{flush, Batches}
use Rattle.desk.specs.Deeds.{DeskState, Deed, says, hears, does}
use Rattle.desk.specs.Desks.{At, order_in, tally_at}
use Rattle.desk.specs.Views.{BatchView, DeskView, no_batch}
use Rattle.desk.specs.Wires.{WireView}
use Rattle.engine.specs.declared.merging.SentRow.{SentRow}
use Rattle.engine.specs.Slots.{slot_of, HasSlot}
use Rattle.engine.specs.States.{Stands, frames_by}
use Rattle.engine.specs.Turns.{batches, tally}
use Rattle.engine.specs.inside.Alone.{lines_in}
use Rattle.engine.specs.inside.Closed.{WasCounted, IsClosed, wire_left, tally_left, lines_left}
use Rattle.engine.specs.inside.Facts.{Laws, Fits}
use Rattle.engine.specs.inside.Kept.{counted_by, IsKept}
use Rattle.engine.specs.inside.Merging.{sealed_at, AreFramesOf, SentIs}
use Rattle.engine.specs.inside.Scripted.{ScriptLaws, HasRun}
use Rattle.engine.specs.inside.Standing.{desk_at, SlotAt, SlotOpen, Flushed, NetworkStands}
use Rattle.engine.proofs.Bounds.{counted_are}
use Rattle.engine.proofs.Cases.{bool_cases}
use Rattle.engine.proofs.Lists.{all_more}

-- ---- slots

pub known_slot : Laws → (roster : RosterView) (u : Party) → IsRoster roster
    → is_known roster u ≡ true → HasSlot u
known_slot laws roster (Host a) is known = omega (arith, (laws.host roster a is known).1)
known_slot laws roster (Manager p) is known =
    omega (arith, laws.partition roster (Manager p) is known, laws.manager roster p known)

slot_below : (u : Party) → HasSlot u → slot_of u < 512
slot_below (Host a) has = omega (arith, has)
slot_below (Manager p) has = omega (arith, has)

-- ---- a desk whose batch is flushed

no_deeds : (deeds : List Deed) → order_in deeds ≡ [] → deeds ≡ []
no_deeds [] none = refl
no_deeds (says to message ∷ deeds) none = cc
no_deeds (hears frame inbound ∷ deeds) none = cc

start_is : (sealed : Sealer) (desk : DeskView) (st : DeskState) (b : Batches)
    → desk.batch ≡ no_batch → (at : At sealed desk st b) → at.start ≡ st
start_is sealed desk st b idle at =
    ap (does at.start) (sym (no_deeds at.deeds (sym at.order ∙ ap (λ (c : BatchView). c.order) idle)))
    ∙ at.is

host_left : (m : Setup) (past : List Event) (a : ℕ) (slot : Option DeskView)
    → is_known m.roster (Host a) ≡ true → SlotOpen slot
    → SlotAt m (Host a) (flush (batches m past (Host a))) (Stands m past (state m past) (Host a)) slot
    → lines_in slot ≡ (state m past).told (Host a)
host_left m past a None known idle at = absurd cc
host_left m past a (Some desk) known idle at =
    at.at.now.told ∙ ap (λ (st : DeskState). st.lines)
    (start_is m.sealed desk at.st (flush (batches m past (Host a))) idle at.at) ∙ at.is.told

nobody_left : (m : Setup) (past : List Event) (u : Party) (slot : Option DeskView)
    → is_known m.roster u ≡ false
    → SlotAt m u (flush (batches m past u)) (Stands m past (state m past) u) slot
    → lines_in slot ≡ []
nobody_left m past u None unknown at = refl
nobody_left m past u (Some desk) unknown at =
    let known = at.known in absurd cc

abbrev frames_left : Option WireView → List (List ℕ)
frames_left wire = sealed_at (wire ∷ []) 0

unit_left : (m : Setup) (past : List Event) (u : Party) (slot : Option DeskView)
    → is_known m.roster u ≡ true → SlotOpen slot
    → SlotAt m u (flush (batches m past u)) (Stands m past (state m past) u) slot
    → (frames_left (wire_left slot) ≡ frames_by u (wire m past)) × WasCounted m past u (tally_left slot)
unit_left m past u None known idle at = absurd cc
unit_left m past u (Some desk) known idle at =
    let b = flush (batches m past u) in
    let same = start_is m.sealed desk at.st b idle at.at in (
      ap (λ (w : WireView). w.frames) (at.at.now.wires ∙ ap (λ (st : DeskState). st.wire) same)
          ∙ at.is.wires.frames,
      record {
        st = at.st;
        stands = at.is;
        is = ap Some (at.at.tally ∙ ap (λ st. tally_at st (length b.made)) same);
      },
    )

pub closed_is : (m : Setup) (past : List Event) (desks : List (Option DeskView))
    → Flushed m past desks
    → IsClosed m past (lines_left desks) (map wire_left desks) (map tally_left desks)
closed_is m past desks flushed = record {
  told = λ a lt known. line_at a lt
      ∙ host_left m past a (desk_at desks a) known (flushed.opened (Host a) lt) (flushed.at (Host a) lt);
  untold = λ a lt unknown. line_at a lt
      ∙ nobody_left m past (Host a) (desk_at desks a) unknown (flushed.at (Host a) lt);
  sealed = λ u has known.
      ap frames_left (get_or-map wire_left desks (slot_of u) None)
      ∙ (unit_left m past u (desk_at desks (slot_of u)) known (flushed.opened u has)
      (flushed.at u has)).0;
  counted = λ u has known.
      subst (WasCounted m past u) (sym (get_or-map tally_left desks (slot_of u) None))
      (unit_left m past u (desk_at desks (slot_of u)) known (flushed.opened u has)
      (flushed.at u has)).1;
}
  where
    line_at : (a : ℕ) → a < 256 → get_or (lines_left desks) a [] ≡ lines_in (desk_at desks a)
    line_at a lt =
        get_or-map lines_in (take 256 desks) a None ∙ ap lines_in (get_or-take 256 desks a None lt)

-- ---- the script

past_whole : (events : List Event) → reverse (take (length events) events) ≡ reverse events
past_whole events = ap reverse (take_all (length events) events (omega arith))

pub fits_whole : ScriptLaws → (script : ScriptView) → IsScript script
    → IsSealing (setup_of script).sealed → Fits (setup_of script) (reverse script.events)
fits_whole laws script is sealing =
    subst (Fits (setup_of script)) (past_whole script.events)
    (laws.fits script (length script.events) is sealing)

-- all events have happened
pub record RanAll (script : ScriptView) (desks : List (Option DeskView)) (files : FilesView)
    (sent : List SentRow) : Type 0 where
  pub stands : NetworkStands (setup_of script) (reverse script.events) desks files
  pub rows : SentIs (setup_of script) (reverse script.events) sent
  pub clean : NoneFalse script (length script.events)

pub ran_all : (script : ScriptView) (desks : List (Option DeskView)) (files : FilesView)
    (sent : List SentRow) → HasRun script (length script.events) desks files sent
    → RanAll script desks files sent
ran_all script desks files sent run = record {
  stands = subst (λ past. NetworkStands (setup_of script) past desks files)
      (past_whole script.events) run.stands;
  rows = subst (λ past. SentIs (setup_of script) past sent) (past_whole script.events) run.rows;
  clean = run.clean;
}

-- ---- frames

pub frames_are : Laws → (script : ScriptView) (sent : List SentRow)
    (lines : List (List OutLine)) (wires : List (Option WireView))
    (tallies : List (Option TallyView)) → IsScript script
    → SentIs (setup_of script) (reverse script.events) sent
    → IsClosed (setup_of script) (reverse script.events) lines wires tallies
    → AreFramesOf sent wires (frames script)
frames_are laws script sent lines wires tallies is rows closed = record {
  keys = rows.keys;
  sealed = all_more (λ row. is_known script.roster row.stream.from ≡ true)
      (λ row. sealed_at wires (slot_of row.stream.from) ≡ frames_by row.stream.from (frames script)) sent
      (λ row known. closed.sealed row.stream.from
      (known_slot laws script.roster row.stream.from is.roster known) known) rows.known;
}

-- ---- the report

some_there : {A : Type 0} (o : Option A) (x : A) → o ≡ Some x → is_some o ≡ true
some_there o x is = ap is_some is

pub is_kept : Laws → (m : Setup) (past : List Event) (lines : List (List OutLine))
    (wires : List (Option WireView)) (tallies : List (Option TallyView)) → IsRoster m.roster
    → length tallies ≡ 512 → IsClosed m past lines wires tallies → IsKept m.roster tallies
is_kept laws m past lines wires tallies is count closed = record {
  count = count;
  there = λ u known.
      (let counted = closed.counted u (known_slot laws m.roster u is known) known in
      some_there (get_or tallies (slot_of u) None) _ counted.is);
}

found_here : {A : Type 0} (Q : A → Type 0) (b : Bool) (y x : A) (rest : Option A)
    → (if b then Some y else rest) ≡ Some x → Q y → (rest ≡ Some x → Q x) → Q x
found_here Q true y x rest found here later = subst Q (let e : y ≡ x = cc in e) here
found_here Q false y x rest found here later = later found

found_holds : {A : Type 0} (P : A → Bool) (Q : A → Type 0) (xs : List A) (x : A)
    → find P xs ≡ Some x → AllByRecursion Q xs → Q x
found_holds P Q [] x found all = cc
found_holds P Q (y ∷ xs) x found all =
    found_here Q (P y) y x (find P xs) found all.0
    (λ later. found_holds P Q xs x later all.1)

-- a host of the roster has a level
host_level : (roster : RosterView) (a : ℕ) (o : Option HostRow) → IsRoster roster
    → host_row roster a ≡ o → is_some (option_map (λ (row : HostRow). row.partition) o) ≡ true
    → (level : Level) × (level_at roster (option_map (λ row. row.partition) o) ≡ Some level)
host_level roster a None is found known = absurd cc
host_level roster a (Some row) is found known =
    let within = (found_holds (λ r. r.address == a) (IsHostRow (length roster.levels)) roster.hosts row
    found is.hosts).partition in
    let default : LevelRow = record { name = []; level = record { rank = 0; cats = 0 } } in (
      (get_or roster.levels row.partition.0 default).level,
      ap (option_map (λ (r : LevelRow). r.level))
          (slice_get-get_or roster.levels row.partition.0 default within),
    )

pub lines_are : ScriptLaws → (script : ScriptView) (lines : List (List OutLine))
    (wires : List (Option WireView)) (tallies : List (Option TallyView)) → IsScript script
    → IsClosed (setup_of script) (reverse script.events) lines wires tallies
    → (a : ℕ) → a < 256 → get_or lines a [] ≡ due_lines script a (level_of script.roster (Host a))
lines_are laws script lines wires tallies is closed a lt =
    by (bool_cases (is_known script.roster (Host a)))
  where
    by : (is_known script.roster (Host a) ≡ true) ⊎ (is_known script.roster (Host a) ≡ false)
        → get_or lines a [] ≡ due_lines script a (level_of script.roster (Host a))
    by (inl known) =
        let has = host_level script.roster a (host_row script.roster a) is.roster refl known in
        closed.told a lt known ∙ laws.own_lines script has.0 (Host a) has.1
        ∙ ap (due_lines script a) (sym has.1)
    by (inr unknown) =
        closed.untold a lt unknown
        ∙ ap (λ o. due_lines script a (level_at script.roster o))
        (sym (none (partition_of script.roster (Host a)) unknown))
      where
        none : (o : Option Partition) → is_some o ≡ false → o ≡ None
        none None is = refl
        none (Some p) is = cc

pub tallies_are : Laws → (script : ScriptView) (lines : List (List OutLine))
    (wires : List (Option WireView)) (tallies : List (Option TallyView)) → IsScript script
    → Fits (setup_of script) (reverse script.events)
    → IsClosed (setup_of script) (reverse script.events) lines wires tallies
    → (u : Party) → is_known script.roster u ≡ true
    → get_or (map counted_by tallies) (slot_of u) nothing_counted ≡ tally script u
tallies_are laws script lines wires tallies is fits closed u known =
    let counted = closed.counted u (known_slot laws script.roster u is.roster known) known in
    get_or-map counted_by tallies (slot_of u) None ∙ ap counted_by counted.is
    ∙ counted_are script u counted.st is fits counted.stands

-- there are lines for each address
pub kept_lines_count : (desks : List (Option DeskView)) → length desks ≡ 512
    → length (lines_left desks) ≡ 256
kept_lines_count desks count =
    length-map (take 256 desks) lines_in ∙ length-take 256 desks ∙ omega (arith, count)
