-- Names and what they stand for, both ways.
use Rattle.std.proofs.Common.{zero, suc, ◌≡◌, ℕ, ◌<◌, true, List, [], ◌∷◌, length, get_or, Option, Some, None, refl, sym, ap, ◌∙◌, arith}
use Rattle.std.specs.Prelude.{slice_get, is_some, unwrap_or, position}
use Rattle.std.specs.Option.{option_map}
use Rattle.std.specs.Str.{bytes_eq}
use Rattle.std.proofs.lemmas.List.Quantifiers.{position-Some}
use Rattle.std.proofs.lemmas.Slice.Eq.{bytes_eq-Decides}
use Rattle.levels.specs.declared.level.Partition.{Partition}
use Rattle.levels.specs.declared.level.Party.{Party}
use Rattle.levels.specs.declared.level.Party.TheVariants.{Host, Manager}
use Rattle.levels.specs.declared.rows.LevelRow.{LevelRow}
use Rattle.levels.specs.Rosters.{RosterView, level_named}
use Rattle.file_calls.specs.declared.call.Call.{Call}
use Rattle.file_calls.specs.declared.call.Call.TheVariants as call
use Rattle.untrusted_store.specs.declared.plan.PlanRow.{PlanRow}
use Rattle.untrusted_store.specs.declared.plan.StoreAction.{StoreAction}
use Rattle.untrusted_store.specs.declared.plan.StoreAction.TheVariants.{Honest, Of, Flip, Gone}
use Rattle.events.specs.declared.event.Event.{Event}
use Rattle.events.specs.declared.event.Event.TheVariants.{Send, Ask, Arrive, Carry, Forge, Tamper}
use Rattle.events.specs.declared.event.Stream.{Stream}
use Rattle.script.specs.declared.line.PartyWord.{PartyWord}
use Rattle.script.specs.declared.line.PartyWord.TheVariants.{Address, Name}
use Rattle.script.specs.declared.line.StreamWord.{StreamWord}
use Rattle.script.specs.Lines.{CallWords, EventWords, StoreWords}
use Rattle.script.specs.Lines as line
use Rattle.script.specs.Naming.{◌>>=◌}
use Rattle.script.specs.Naming.{party_named, stream_named, call_named, event_named, action_named, row_named}
use Rattle.script.specs.Text.{name_or_none, party_said, stream_said, call_said, event_said, action_said, line_of_row}
use Rattle.script.proofs.Tools.{bind_some, some_same}

pub some_of : {A : Type 0} (o : Option A) → is_some o ≡ true → (x : A) × (o ≡ Some x)
some_of None h = absurd cc
some_of (Some x) h = (x, refl)

get_is : {A : Type 0} (xs : List A) (i : ℕ) (d : A) → i < length xs
    → slice_get xs i ≡ Some (get_or xs i d)
get_is [] i d lt = absurd (omega arith)
get_is (x ∷ xs) zero d lt = refl
get_is (x ∷ xs) (suc i) d lt = get_is xs i d (omega arith)

mapped_some : {A B : Type 0} (f : A → B) (o : Option A) (y : B) → option_map f o ≡ Some y → (x : A)
    × (o ≡ Some x) × (f x ≡ y)
mapped_some f None y e = absurd cc
mapped_some f (Some x) y e = (x, refl, some_same (f x) y e)

-- the partition that a name stands for is that of a row with the name
pub row_at_name : (roster : RosterView) (name : List ℕ) (partition : Partition)
    → level_named roster name ≡ Some partition
    → (row : LevelRow) × (slice_get roster.levels partition.0 ≡ Some row) × (row.name ≡ name)
row_at_name roster name partition e =
    let none : LevelRow = record { name = []; level = record { rank = 0; cats = 0 } } in
    let test = λ (row : LevelRow). bytes_eq row.name name in
    let m = mapped_some (λ place. record { 0 = place }) (position test roster.levels) partition e in
    let p = position-Some test roster.levels m.0 none m.1 in
    let row = get_or roster.levels m.0 none in
    let place : partition.0 ≡ m.0 = ap (λ (q : Partition). q.0) (sym m.2) in (
      row,
      ap (slice_get roster.levels) place ∙ get_is roster.levels m.0 none p.0,
      (bytes_eq-Decides row.name name).0 p.1,
    )

-- and has that name
pub named_at : (roster : RosterView) (name : List ℕ) (partition : Partition)
    → level_named roster name ≡ Some partition → name_or_none roster partition.0 ≡ name
named_at roster name partition e =
    let row = row_at_name roster name partition e in
    ap (λ (o : Option LevelRow). unwrap_or (option_map (λ row. row.name) o) []) row.1 ∙ row.2

party_back : (roster : RosterView) (word : PartyWord) (party : Party)
    → party_named roster word ≡ Some party → party_said roster party ≡ word
party_back roster (Address address) party e =
    ap (party_said roster) (sym (some_same (Host address) party e))
party_back roster (Name level) party e =
    let p = bind_some (level_named roster level) (λ partition. Some (Manager partition)) party e in
    ap (party_said roster) (sym (some_same (Manager p.0) party p.2))
    ∙ ap Name (named_at roster level p.0 p.1)

stream_back : (roster : RosterView) (words : StreamWord) (stream : Stream)
    → stream_named roster words ≡ Some stream → stream_said roster stream ≡ words
stream_back roster words stream e =
    let from = bind_some (party_named roster words.from)
    (λ from. party_named roster words.to >>= λ to. Some (record { from = from; to = to }))
    stream e in
    let to = bind_some (party_named roster words.to)
    (λ to. Some (record { from = from.0; to = to })) stream from.2 in
    let same = some_same (record { from = from.0; to = to.0 }) stream to.2 in
    ap (stream_said roster) (sym same)
    ∙ ap (λ (a : PartyWord). record { from = a; to = party_said roster to.0 })
    (party_back roster words.from from.0 from.1)
    ∙ ap (λ (b : PartyWord). record { from = words.from; to = b })
    (party_back roster words.to to.0 to.1)

call_back : (roster : RosterView) (words : CallWords) (asked : Call)
    → call_named roster words ≡ Some asked → call_said roster asked ≡ words
call_back roster (line.Put name content) asked e =
    ap (call_said roster) (sym (some_same (call.Put name content) asked e))
call_back roster (line.Get level name) asked e =
    let p = bind_some (level_named roster level) (λ partition. Some (call.Get partition.0 name))
    asked e in
    ap (call_said roster) (sym (some_same (call.Get p.0.0 name) asked p.2))
    ∙ ap (λ (l : List ℕ). line.Get l name) (named_at roster level p.0 p.1)
call_back roster (line.ListNames level) asked e =
    let p = bind_some (level_named roster level) (λ partition. Some (call.List partition.0))
    asked e in
    ap (call_said roster) (sym (some_same (call.List p.0.0) asked p.2))
    ∙ ap (λ (l : List ℕ). line.ListNames l) (named_at roster level p.0 p.1)
call_back roster (line.Remove name) asked e =
    ap (call_said roster) (sym (some_same (call.Remove name) asked e))
call_back roster (line.Append name content) asked e =
    ap (call_said roster) (sym (some_same (call.Append name content) asked e))
call_back roster (line.Block level name block) asked e =
    let p = bind_some (level_named roster level)
    (λ partition. Some (call.GetBlock partition.0 name block)) asked e in
    ap (call_said roster) (sym (some_same (call.GetBlock p.0.0 name block) asked p.2))
    ∙ ap (λ (l : List ℕ). line.Block l name block) (named_at roster level p.0 p.1)

-- the words of the event that words stand for are those words
pub event_back : (roster : RosterView) (words : EventWords) (event : Event)
    → event_named roster words ≡ Some event → event_said roster event ≡ words
event_back roster (line.Send from to message) event e =
    let party = bind_some (party_named roster to) (λ party. Some (Send from party message)) event
    e in
    ap (event_said roster) (sym (some_same (Send from party.0 message) event party.2))
    ∙ ap (λ (p : PartyWord). line.Send from p message) (party_back roster to party.0 party.1)
event_back roster (line.Ask from words) event e =
    let asked = bind_some (call_named roster words) (λ asked. Some (Ask from asked)) event e in
    ap (event_said roster) (sym (some_same (Ask from asked.0) event asked.2))
    ∙ ap (λ (w : CallWords). line.Ask from w) (call_back roster words asked.0 asked.1)
event_back roster (line.Deliver stream message piece at) event e =
    let parties = bind_some (stream_named roster stream)
    (λ parties. party_named roster at >>= λ party. Some (Arrive parties message piece party))
    event e in
    let party = bind_some (party_named roster at)
    (λ party. Some (Arrive parties.0 message piece party)) event parties.2 in
    ap (event_said roster) (sym (some_same (Arrive parties.0 message piece party.0) event party.2))
    ∙ ap (λ (s : StreamWord). line.Deliver s message piece (party_said roster party.0))
    (stream_back roster stream parties.0 parties.1)
    ∙ ap (λ (p : PartyWord). line.Deliver stream message piece p)
    (party_back roster at party.0 party.1)
event_back roster (line.Carry stream message at) event e =
    let parties = bind_some (stream_named roster stream)
    (λ parties. party_named roster at >>= λ party. Some (Carry parties message party)) event
    e in
    let party = bind_some (party_named roster at) (λ party. Some (Carry parties.0 message party))
    event parties.2 in
    ap (event_said roster) (sym (some_same (Carry parties.0 message party.0) event party.2))
    ∙ ap (λ (s : StreamWord). line.Carry s message (party_said roster party.0))
    (stream_back roster stream parties.0 parties.1)
    ∙ ap (λ (p : PartyWord). line.Carry stream message p) (party_back roster at party.0 party.1)
event_back roster (line.Forge at bytes) event e =
    let party = bind_some (party_named roster at) (λ party. Some (Forge party bytes)) event e in
    ap (event_said roster) (sym (some_same (Forge party.0 bytes) event party.2))
    ∙ ap (λ (p : PartyWord). line.Forge p bytes) (party_back roster at party.0 party.1)
event_back roster (line.Tamper stream message piece at edits) event e =
    let parties = bind_some (stream_named roster stream)
    (λ parties. party_named roster at >>= λ party. Some (Tamper parties message piece party edits))
    event e in
    let party = bind_some (party_named roster at)
    (λ party. Some (Tamper parties.0 message piece party edits)) event parties.2 in
    ap (event_said roster)
    (sym (some_same (Tamper parties.0 message piece party.0 edits) event party.2))
    ∙ ap (λ (s : StreamWord). line.Tamper s message piece (party_said roster party.0) edits)
    (stream_back roster stream parties.0 parties.1)
    ∙ ap (λ (p : PartyWord). line.Tamper stream message piece p edits)
    (party_back roster at party.0 party.1)

action_back : (roster : RosterView) (words : StoreWords) (action : StoreAction)
    → action_named roster words ≡ Some action → action_said roster action ≡ words
action_back roster line.Honest action e =
    ap (action_said roster) (sym (some_same Honest action e))
action_back roster (line.Of level version) action e =
    let p = bind_some (level_named roster level) (λ partition. Some (Of partition.0 version))
    action e in
    ap (action_said roster) (sym (some_same (Of p.0.0 version) action p.2))
    ∙ ap (λ (l : List ℕ). line.Of l version) (named_at roster level p.0 p.1)
action_back roster (line.Flip offset xor) action e =
    ap (action_said roster) (sym (some_same (Flip offset xor) action e))
action_back roster line.Gone action e =
    ap (action_said roster) (sym (some_same Gone action e))

-- the line of the row that a reader's name and words stand for is theirs
pub row_back : (roster : RosterView) (reader : List ℕ) (words : StoreWords) (row : PlanRow)
    → row_named roster reader words ≡ Some row
    → line_of_row roster row ≡ line.Store reader words
row_back roster reader words row e =
    let p = bind_some (level_named roster reader) (λ partition. action_named roster words
    >>= λ action. Some (record { reader = partition; action = action })) row e in
    let a = bind_some (action_named roster words)
    (λ action. Some (record { reader = p.0; action = action })) row p.2 in
    let made : PlanRow = record { reader = p.0; action = a.0 } in
    ap (line_of_row roster) (sym (some_same made row a.2))
    ∙ ap (λ (n : List ℕ). line.Store n (action_said roster a.0)) (named_at roster reader p.0 p.1)
    ∙ ap (λ (w : StoreWords). line.Store reader w) (action_back roster words a.0 a.1)
