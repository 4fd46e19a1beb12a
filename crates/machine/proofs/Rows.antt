-- Worked rows: what small scripts over one roster tell, put on the wire and have as their text.
use Rattle.std.proofs.Common.{◌≡◌, ℕ, List, [], ◌∷◌, ◌++◌, None, refl, replicate, take, length, arith}
use Rattle.std.specs.Prelude.{codes, map, ◌+◌, ◌-◌, ◌/◌, ◌%◌}
use Rattle.std.specs.List.{range_with_len}
use Rattle.file_calls.specs.ByteLaws.{are_bytes}
use Rattle.file_calls.specs.declared.call.Call.{Call}
use Rattle.file_calls.specs.declared.call.Reply.TheVariants.{Full}
use Rattle.std.specs.Fmt.{digits}
use Rattle.hex.specs.Hex.{encode_with}
use Rattle.levels.specs.declared.level.Partition.{Partition}
use Rattle.levels.specs.declared.level.Party.{Party}
use Rattle.levels.specs.declared.level.Party.TheVariants.{Host, Manager}
use Rattle.levels.specs.declared.level.Sealing.TheVariants.{Clear}
use Rattle.levels.specs.Rosters.{RosterView}
use Rattle.levels.specs.Keys.{clear_pair}
use Rattle.seal_core.specs.Clear.{clear_text, clear_check}
use Rattle.seal_core.specs.Blocks.{blocks, first_blocks}
use Rattle.frame.specs.Pieces.{piece_count, piece_bytes, padded}
use Rattle.frame.specs.declared.refused.SendRefused.TheVariants.{NoPartner, TooLong}
use Rattle.events.specs.declared.event.Stream.{Stream}
use Rattle.machine.specs.declared.line.OutLine.TheVariants.{Sent, Refused, From}
use Rattle.file_calls.specs.declared.call.Call.TheVariants.{Put, Append, Get, GetBlock, List as ListNames, Remove}
use Rattle.file_calls.specs.Spelling.{call_text, call_of, reply_text}
use Rattle.untrusted_store.specs.declared.plan.StoreAction.{StoreAction}
use Rattle.untrusted_store.specs.declared.plan.StoreAction.TheVariants.{Of, Gone}
use Rattle.untrusted_store.specs.declared.plan.PlanRow.{PlanRow}
use Rattle.guarantor.specs.Records.{record_nonce, record_plain, record_of}
use Rattle.frame.specs.Frames.{frame_of, plain_of, nonce_of, header}
use Rattle.events.specs.declared.event.Event.{Event}
use Rattle.events.specs.declared.event.Event.TheVariants.{Send, Ask, Arrive, Carry, Forge, Tamper}
use Rattle.events.specs.ScriptView.{ScriptView}
use Rattle.machine.specs.Setup.{sealer, setup_of}
use Rattle.machine.specs.FalseBytes.{IsFalse}
use Rattle.machine.specs.Low.{low}
use Rattle.machine.specs.Files.{CallRow, writing}
use Rattle.machine.specs.Replies.{question_by, reply_with}
use Rattle.machine.specs.Plan.{next_action, reply}
use Rattle.machine.specs.Machine.{gives, state_at, told}
use Rattle.machine.specs.Wire.{frames}
use Rattle.machine.specs.Text.{hosts_in_order, text, text_below, wire_text}

abbrev partition : ℕ → Partition
partition p = record { 0 = p }

-- levels U and S, hosts 1 and 2 at U, hosts 5 and 6 at S
abbrev roster_a : RosterView
roster_a = record {
  sealing = Clear;
  levels = record { name = codes "U"; level = record { rank = 0; cats = 0 } }
      ∷ record { name = codes "S"; level = record { rank = 2; cats = 1 } } ∷ [];
  keys = [];
  guard = None;
  hosts = record { address = 1; partition = partition 0 }
      ∷ record { address = 2; partition = partition 0 }
      ∷ record { address = 5; partition = partition 1 }
      ∷ record { address = 6; partition = partition 1 } ∷ [];
}

abbrev script_of : List PlanRow → List Event → ScriptView
script_of rows events = record {
  roster = roster_a;
  rows = rows;
  events = events;
}

abbrev stream : ℕ → ℕ → Stream
stream s r = record { from = Host s; to = Host r }

-- ---- sends and arrivals

abbrev hi : List ℕ
hi = 104 ∷ 105 ∷ []

abbrev piece : ℕ → ℕ → Event
piece j i = Arrive (stream 1 2) j i (Host 2)

abbrev row_1_events : List Event
row_1_events = Send 1 (Host 2) hi ∷ piece 0 0 ∷ []

row_1_sender : told (script_of [] row_1_events) (Host 1) ≡ Sent (Host 2) 0 ∷ []
unfolding gives piece_count
row_1_sender = refl

row_1 : told (script_of [] row_1_events) (Host 2) ≡ From (Host 1) hi ∷ []
unfolding gives piece_count
row_1 = refl

row_1_text : text (script_of [] row_1_events)
    ≡ codes "host 1 U\nsent 2 0\nhost 2 U\nfrom 1 6869\nhost 5 S\nhost 6 S\n"
unfolding gives piece_count hosts_in_order digits encode_with
row_1_text = refl

row_2 : text (script_of [] []) ≡ codes "host 1 U\nhost 2 U\nhost 5 S\nhost 6 S\n"
unfolding hosts_in_order digits encode_with
row_2 = refl

row_3 : told (script_of [] (Send 1 (Host 5) (0 ∷ []) ∷ Send 1 (Host 1) (0 ∷ [])
    ∷ Send 1 (Manager (partition 1)) (0 ∷ []) ∷ [])) (Host 1)
    ≡ Refused (Host 5) NoPartner ∷ Refused (Host 1) NoPartner
    ∷ Refused (Manager (partition 1)) NoPartner ∷ []
unfolding gives piece_count
row_3 = refl

row_3_wire : frames (script_of [] (Send 1 (Host 5) (0 ∷ []) ∷ Send 1 (Host 1) (0 ∷ [])
    ∷ Send 1 (Manager (partition 1)) (0 ∷ []) ∷ [])) ≡ []
unfolding gives piece_count
row_3_wire = refl

row_4 : told (script_of [] (Send 1 (Host 2) [] ∷ Carry (stream 1 2) 0 (Host 2) ∷ [])) (Host 2)
    ≡ From (Host 1) [] ∷ []
unfolding gives piece_count
row_4 = refl

abbrev long_and_short : List Event
long_and_short = Send 1 (Host 2) (replicate 5633 0) ∷ Send 1 (Host 2) (replicate 5632 0) ∷ []

row_4_long : told (script_of [] long_and_short) (Host 1)
    ≡ Refused (Host 2) TooLong ∷ Sent (Host 2) 0 ∷ []
unfolding gives piece_count
row_4_long = refl

row_4_pieces : length (frames (script_of [] long_and_short)) ≡ 64
unfolding gives piece_count
row_4_pieces = refl

row_4_carried : told (script_of [] (long_and_short ++ Carry (stream 1 2) 0 (Host 2) ∷ [])) (Host 2)
    ≡ From (Host 1) (replicate 5632 0) ∷ []
unfolding gives piece_count
row_4_carried = refl

row_5 : told (script_of [] (row_1_events ++ piece 0 0 ∷ piece 0 0 ∷ [])) (Host 2)
    ≡ From (Host 1) hi ∷ []
unfolding gives piece_count
row_5 = refl

abbrev two_pieces : ℕ → Event
two_pieces b = Send 1 (Host 2) (replicate 89 b)

row_6 : told (script_of [] (two_pieces 170 ∷ piece 0 1 ∷ piece 0 0 ∷ [])) (Host 2)
    ≡ From (Host 1) (replicate 89 170) ∷ []
unfolding gives piece_count
row_6 = refl

row_6_one : told (script_of [] (two_pieces 170 ∷ piece 0 1 ∷ [])) (Host 2) ≡ []
unfolding gives piece_count
row_6_one = refl

row_6_none_behind :
    told (script_of [] (Send 1 (Host 2) (replicate 176 170) ∷ piece 0 2 ∷ piece 0 1 ∷ [])) (Host 2)
    ≡ []
unfolding gives piece_count
row_6_none_behind = refl

row_6_at_last : told (script_of []
    (Send 1 (Host 2) (replicate 176 170) ∷ piece 0 2 ∷ piece 0 1 ∷ piece 0 0 ∷ [])) (Host 2)
    ≡ From (Host 1) (replicate 176 170) ∷ []
unfolding gives piece_count
row_6_at_last = refl

row_9 : told (script_of [] (Send 5 (Host 6) (153 ∷ [])
    ∷ Arrive (stream 5 6) 0 0 (Host 2) ∷ Arrive (stream 5 6) 0 0 (Host 5) ∷ [])) (Host 6) ≡ []
unfolding gives piece_count
row_9 = refl

row_9_elsewhere : told (script_of [] (Send 5 (Host 6) (153 ∷ [])
    ∷ Arrive (stream 5 6) 0 0 (Host 2) ∷ Arrive (stream 5 6) 0 0 (Host 5) ∷ [])) (Host 2) ≡ []
unfolding gives piece_count
row_9_elsewhere = refl

row_10 : told (script_of [] (piece 0 0 ∷ Send 1 (Host 2) (0 ∷ []) ∷ piece 7 0 ∷ [])) (Host 2) ≡ []
unfolding gives piece_count
row_10 = refl

-- ---- messages out of order

abbrev newest_first : List Event
newest_first = Send 1 (Host 2) (1 ∷ []) ∷ Send 1 (Host 2) (2 ∷ []) ∷ piece 1 0 ∷ piece 0 0 ∷ []

row_7 : told (script_of [] newest_first) (Host 2) ≡ From (Host 1) (2 ∷ []) ∷ []
unfolding gives piece_count
row_7 = refl

abbrev newer_between : List Event
newer_between =
    two_pieces 1 ∷ Send 1 (Host 2) (2 ∷ []) ∷ piece 0 0 ∷ piece 1 0 ∷ piece 0 1 ∷ []

row_8 : told (script_of [] newer_between) (Host 2) ≡ From (Host 1) (2 ∷ []) ∷ []
unfolding gives piece_count
row_8 = refl

abbrev five : List Event → List Event
five events =
    two_pieces 0 ∷ two_pieces 1 ∷ two_pieces 2 ∷ two_pieces 3 ∷ two_pieces 4 ∷ events

abbrev mixed : List Event
mixed = five (piece 0 0 ∷ piece 1 0 ∷ piece 0 1 ∷ piece 1 1 ∷ [])

both_mixed : told (script_of [] mixed) (Host 2)
    ≡ From (Host 1) (replicate 89 0) ∷ From (Host 1) (replicate 89 1) ∷ []
unfolding gives piece_count
both_mixed = refl

three_behind : told (script_of [] (five (piece 0 0 ∷ piece 3 0 ∷ piece 0 1 ∷ []))) (Host 2)
    ≡ From (Host 1) (replicate 89 0) ∷ []
unfolding gives piece_count
three_behind = refl

four_behind : told (script_of [] (five (piece 0 0 ∷ piece 4 0 ∷ piece 0 1 ∷ []))) (Host 2) ≡ []
unfolding gives piece_count
four_behind = refl

given_behind : told (script_of [] (five (piece 0 0 ∷ piece 1 0 ∷ piece 1 1 ∷ piece 0 1 ∷ []))) (Host 2)
    ≡ From (Host 1) (replicate 89 1) ∷ []
unfolding gives piece_count
given_behind = refl

-- ---- frames under clear sealing

abbrev frame : List ℕ
frame = 68 ∷ 83 ∷ 1 ∷ 0 ∷ 0 ∷ 0 ∷ 0 ∷ 0
    ∷ 1 ∷ 2 ∷ 0 ∷ 0 ∷ 0 ∷ 0 ∷ 0 ∷ 0
    ∷ 1 ∷ 2 ∷ 0 ∷ 0 ∷ 0 ∷ 0 ∷ 0 ∷ 0
    ∷ 2 ∷ 0 ∷ 0 ∷ 0 ∷ 0 ∷ 0 ∷ 0 ∷ 0
    ∷ 104 ∷ 105 ∷ 0 ∷ 0 ∷ 0 ∷ 0 ∷ 0 ∷ 0
    ∷ (replicate 80 0 ++ 107 ∷ 104 ∷ 1 ∷ 1 ∷ 1 ∷ 1 ∷ 1 ∷ 1 ∷ [])

row_12_frame : frames (script_of [] row_1_events)
    ≡ record { stream = stream 1 2; message = 0; piece = 0; bytes = frame } ∷ []
unfolding gives piece_count piece_bytes padded frame_of plain_of nonce_of header sealer clear_text clear_check blocks
    first_blocks
row_12_frame = refl

row_12_wire : take 40 (wire_text (script_of [] row_1_events))
    ≡ codes "1>2#0.0 44530100000000000102000000000000"
unfolding digits encode_with gives piece_count piece_bytes padded frame_of plain_of nonce_of header sealer clear_text
    clear_check blocks first_blocks
row_12_wire = refl

row_12_forged : told (script_of [] (Send 1 (Host 2) hi ∷ Forge (Host 2) frame ∷ [])) (Host 2)
    ≡ From (Host 1) hi ∷ []
unfolding gives piece_count piece_bytes padded frame_of plain_of nonce_of header sealer clear_text clear_check blocks
    first_blocks
row_12_forged = refl

row_12_early : told (script_of [] (Forge (Host 2) frame ∷ Send 1 (Host 2) hi ∷ [])) (Host 2) ≡ []
unfolding gives piece_count piece_bytes padded frame_of plain_of nonce_of header sealer clear_text clear_check blocks
    first_blocks
row_12_early = refl

row_12_elsewhere : told (script_of [] (Send 1 (Host 2) hi ∷ Forge (Host 5) frame ∷ [])) (Host 5) ≡ []
unfolding gives piece_count piece_bytes padded frame_of plain_of nonce_of header sealer clear_text clear_check blocks
    first_blocks
row_12_elsewhere = refl

row_12_not_here : told (script_of [] (Send 1 (Host 2) hi ∷ Forge (Host 5) frame ∷ [])) (Host 2) ≡ []
unfolding gives piece_count piece_bytes padded frame_of plain_of nonce_of header sealer clear_text clear_check blocks
    first_blocks
row_12_not_here = refl

row_11 : told (script_of []
    (Send 1 (Host 2) hi ∷ Tamper (stream 1 2) 0 0 (Host 2) ((32, 1) ∷ []) ∷ [])) (Host 2) ≡ []
unfolding gives piece_count
row_11 = refl

-- the same change at 32 and at 40 cancels in the check block
abbrev changed : List ℕ
changed = 1 ∷ 2 ∷ 0 ∷ 0 ∷ 0 ∷ 0 ∷ 0 ∷ 0
    ∷ 2 ∷ 0 ∷ 0 ∷ 0 ∷ 0 ∷ 0 ∷ 0 ∷ 0
    ∷ 105 ∷ 105 ∷ 0 ∷ 0 ∷ 0 ∷ 0 ∷ 0 ∷ 0
    ∷ 1 ∷ replicate 79 0

row_11_false : IsFalse (setup_of (script_of [] [])) (state_at (script_of [] (Send 1 (Host 2) hi ∷ [])) 1)
    (Tamper (stream 1 2) 0 0 (Host 2) ((32, 1) ∷ (40, 1) ∷ []))
unfolding gives piece_count piece_bytes padded frame_of plain_of nonce_of header sealer clear_text clear_check blocks
    first_blocks
row_11_false = record {
  bytes = frame;
  sent = record { body = hi; sent = refl; piece = omega arith; same = refl };
  opens = record {
    header = refl;
    opens = record {
      nonce = 1 ∷ 2 ∷ replicate 6 0;
      plain = changed;
      opens = record {
        block = record { len = refl; bytes = are_bytes (1 ∷ 2 ∷ replicate 6 0) refl };
        blocks = record { some = omega arith; whole = refl; bytes = are_bytes changed refl };
        same = refl;
      };
    };
  };
}

-- ---- files

abbrev U : Party
U = Manager (partition 0)

abbrev S : Party
S = Manager (partition 1)

-- a call is carried to its manager unit
abbrev asks : ℕ → Party → ℕ → Event
asks host unit j = Carry (record { from = Host host; to = unit }) j unit

-- a reply is carried to its host
abbrev answers : Party → ℕ → ℕ → Event
answers unit host j = Carry (record { from = unit; to = Host host }) j (Host host)

abbrev note : List ℕ
note = codes "note"

-- eight bytes of a version below 256
abbrev version : ℕ → List ℕ
version v = 0 ∷ 0 ∷ 0 ∷ 0 ∷ 0 ∷ 0 ∷ 0 ∷ v ∷ []

abbrev store : ℕ → StoreAction → List PlanRow
store p action = record { reader = partition p; action = action } ∷ []

abbrev row_13_events : List Event
row_13_events = Ask 1 (Put note (97 ∷ 98 ∷ [])) ∷ asks 1 U 0 ∷ answers U 1 0
    ∷ Ask 5 (Get 0 note) ∷ asks 5 S 0 ∷ answers S 5 0
    ∷ Ask 1 (Get 1 (codes "plan")) ∷ asks 1 U 1 ∷ answers U 1 1 ∷ []

row_13 : told (script_of [] row_13_events) (Host 5)
    ≡ Sent S 0 ∷ From S (2 ∷ (version 1 ++ 0 ∷ 2 ∷ 97 ∷ 98 ∷ [])) ∷ []
unfolding gives piece_count call_text call_of reply_text question_by reply_with writing next_action reply
row_13 = refl

row_13_host_1 : told (script_of [] row_13_events) (Host 1)
    ≡ Sent U 0 ∷ From U (1 ∷ version 1) ∷ Sent U 1 ∷ From U (3 ∷ []) ∷ []
unfolding gives piece_count call_text call_of reply_text question_by reply_with writing next_action reply
row_13_host_1 = refl

row_13_high_plan : told (script_of [] (Ask 5 (Put (codes "plan") (97 ∷ [])) ∷ asks 5 S 0
    ∷ row_13_events)) (Host 1)
    ≡ Sent U 0 ∷ From U (1 ∷ version 1) ∷ Sent U 1 ∷ From U (3 ∷ []) ∷ []
unfolding gives piece_count call_text call_of reply_text question_by reply_with writing next_action reply
row_13_high_plan = refl

abbrev twice_put : List Event
twice_put = Ask 1 (Put note (97 ∷ [])) ∷ asks 1 U 0 ∷ Ask 1 (Put note (98 ∷ [])) ∷ asks 1 U 1
    ∷ Ask 1 (Get 0 note) ∷ asks 1 U 2 ∷ answers U 1 2 ∷ []

abbrev once_put : List Event
once_put = Ask 1 (Put note (97 ∷ [])) ∷ asks 1 U 0 ∷ Ask 1 (Get 0 note) ∷ asks 1 U 1 ∷ answers U 1 1 ∷ []

row_14 : told (script_of (store 0 (Of 0 1)) twice_put) (Host 1)
    ≡ Sent U 0 ∷ Sent U 1 ∷ Sent U 2 ∷ From U (5 ∷ version 2) ∷ []
unfolding gives piece_count call_text call_of reply_text question_by reply_with writing next_action reply
row_14 = refl

row_14_intact : told (script_of (store 0 (Of 0 1)) once_put) (Host 1)
    ≡ Sent U 0 ∷ Sent U 1 ∷ From U (2 ∷ (version 1 ++ 0 ∷ 1 ∷ 97 ∷ [])) ∷ []
unfolding gives piece_count call_text call_of reply_text question_by reply_with writing next_action reply
row_14_intact = refl

row_14_gone : told (script_of (store 0 Gone) once_put) (Host 1)
    ≡ Sent U 0 ∷ Sent U 1 ∷ From U (5 ∷ version 1) ∷ []
unfolding gives piece_count call_text call_of reply_text question_by reply_with writing next_action reply
row_14_gone = refl

abbrev two_files : List Event → List Event
two_files events = Ask 1 (Put note (97 ∷ [])) ∷ asks 1 U 0
    ∷ Ask 1 (Put (codes "a.txt") (98 ∷ [])) ∷ asks 1 U 1 ∷ events

row_16_names :
    told (script_of [] (two_files (Ask 1 (ListNames 0) ∷ asks 1 U 2 ∷ answers U 1 2 ∷ []))) (Host 1)
    ≡ Sent U 0 ∷ Sent U 1 ∷ Sent U 2
    ∷ From U (8 ∷ 2 ∷ 5 ∷ (codes "a.txt" ++ 4 ∷ codes "note")) ∷ []
unfolding gives piece_count call_text call_of reply_text question_by reply_with writing next_action reply
row_16_names = refl

row_16_others : told (script_of [] (two_files (
    Ask 1 (Remove note) ∷ asks 1 U 2 ∷ answers U 1 2
    ∷ Ask 1 (Remove note) ∷ asks 1 U 3 ∷ answers U 1 3
    ∷ Send 1 U (255 ∷ []) ∷ asks 1 U 4 ∷ answers U 1 4
    ∷ Ask 1 (ListNames 1) ∷ asks 1 U 5 ∷ answers U 1 5 ∷ []))) (Host 1)
    ≡ Sent U 0 ∷ Sent U 1 ∷ Sent U 2 ∷ From U (7 ∷ []) ∷ Sent U 3 ∷ From U (4 ∷ [])
    ∷ Sent U 4 ∷ From U (9 ∷ []) ∷ Sent U 5 ∷ From U (3 ∷ []) ∷ []
unfolding gives piece_count call_text call_of reply_text question_by reply_with writing next_action reply
row_16_others = refl

abbrev big : List ℕ
big = codes "big"

abbrev of_two_blocks : List Event → List Event
of_two_blocks events = Ask 1 (Put big (97 ∷ [])) ∷ asks 1 U 0
    ∷ Ask 1 (Append big (98 ∷ [])) ∷ asks 1 U 1 ∷ events

abbrev second_block : List Event
second_block = of_two_blocks (Ask 5 (GetBlock 0 big 1) ∷ asks 5 S 0 ∷ answers S 5 0 ∷ [])

blocks_1 : told (script_of [] second_block) (Host 5)
    ≡ Sent S 0 ∷ From S (10 ∷ (version 2 ++ 2 ∷ 0 ∷ 1 ∷ 98 ∷ [])) ∷ []
unfolding gives piece_count call_text call_of reply_text question_by reply_with writing next_action reply
blocks_1 = refl

blocks_1_damaged : told (script_of (store 1 (Of 0 1)) second_block) (Host 5)
    ≡ Sent S 0 ∷ From S (5 ∷ version 2) ∷ []
unfolding gives piece_count call_text call_of reply_text question_by reply_with writing next_action reply
blocks_1_damaged = refl

blocks_1_past : told (script_of []
    (of_two_blocks (Ask 5 (GetBlock 0 big 2) ∷ asks 5 S 0 ∷ answers S 5 0 ∷ []))) (Host 5)
    ≡ Sent S 0 ∷ From S (11 ∷ 2 ∷ []) ∷ []
unfolding gives piece_count call_text call_of reply_text question_by reply_with writing next_action reply
blocks_1_past = refl

blocks_2 : told (script_of [] (
    Ask 1 (Append (codes "none") (0 ∷ [])) ∷ asks 1 U 0 ∷ answers U 1 0
    ∷ Ask 1 (GetBlock 1 big 0) ∷ asks 1 U 1 ∷ answers U 1 1 ∷ [])) (Host 1)
    ≡ Sent U 0 ∷ From U (4 ∷ []) ∷ Sent U 1 ∷ From U (3 ∷ []) ∷ []
unfolding gives piece_count call_text call_of reply_text question_by reply_with writing next_action reply
blocks_2 = refl

-- a name of four bytes: `n`, and a number in three digits
abbrev numbered : ℕ → List ℕ
numbered k = 110 ∷ (48 + k / 100) ∷ (48 + k / 10 % 10) ∷ (48 + k % 10) ∷ []

abbrev call_at : ℕ → Call → CallRow
call_at level call = record { caller = Host 1; level = level; message = call_text call }

abbrev put_numbered : ℕ → CallRow
put_numbered k = call_at 0 (Put (numbered k) (97 ∷ []))

-- 128 names, the newest first
abbrev all_names : List CallRow
all_names = map (λ k. put_numbered (127 - k)) (range_with_len 0 128)

row_15_full : reply (setup_of (script_of [] [])) all_names (put_numbered 128) ≡ Full
unfolding call_text call_of question_by reply_with writing next_action reply
row_15_full = refl

row_15_again : reply_text (reply (setup_of (script_of [] [])) all_names (put_numbered 0)) ≡ 1 ∷ version 129
unfolding call_text call_of reply_text question_by reply_with writing next_action reply
row_15_again = refl

row_15_other_level :
    reply_text (reply (setup_of (script_of [] [])) all_names (call_at 1 (Put (numbered 0) (97 ∷ []))))
    ≡ 1 ∷ version 1
unfolding call_text call_of reply_text question_by reply_with writing next_action reply
row_15_other_level = refl

-- a file of 64 blocks, the newest first
abbrev all_blocks : List CallRow
all_blocks = replicate 63 (call_at 0 (Append big (98 ∷ []))) ++ call_at 0 (Put big (97 ∷ [])) ∷ []

blocks_2_full : reply (setup_of (script_of [] [])) all_blocks (call_at 0 (Append big (98 ∷ []))) ≡ Full
unfolding call_text call_of question_by reply_with writing next_action reply
blocks_2_full = refl

-- ---- a day at three levels

abbrev roster_of_three : RosterView
roster_of_three = record {
  sealing = Clear;
  levels = record { name = codes "U"; level = record { rank = 0; cats = 0 } }
      ∷ record { name = codes "C"; level = record { rank = 1; cats = 1 } }
      ∷ record { name = codes "S"; level = record { rank = 2; cats = 3 } } ∷ [];
  keys = [];
  guard = None;
  hosts = record { address = 1; partition = partition 0 }
      ∷ record { address = 2; partition = partition 0 }
      ∷ record { address = 3; partition = partition 1 }
      ∷ record { address = 4; partition = partition 1 }
      ∷ record { address = 5; partition = partition 2 }
      ∷ record { address = 6; partition = partition 2 } ∷ [];
}

abbrev day : List Event
day = Ask 1 (Put (codes "rota") (codes "mon")) ∷ asks 1 (Manager (partition 0)) 0
    ∷ answers (Manager (partition 0)) 1 0
    ∷ Send 3 (Host 4) (codes "hello") ∷ Carry (stream 3 4) 0 (Host 4) ∷ Carry (stream 3 4) 0 (Host 4)
    ∷ Send 3 (Host 4) (codes "lost") ∷ Send 3 (Host 4) (codes "bye") ∷ Carry (stream 3 4) 2 (Host 4)
    ∷ Ask 5 (Put (codes "plan") (codes "v1")) ∷ asks 5 (Manager (partition 2)) 0
    ∷ Ask 6 (Get 0 (codes "rota")) ∷ asks 6 (Manager (partition 2)) 0
    ∷ answers (Manager (partition 2)) 6 0
    ∷ Ask 3 (Get 2 (codes "plan")) ∷ asks 3 (Manager (partition 1)) 0
    ∷ answers (Manager (partition 1)) 3 0 ∷ []

row_23 : text (record { roster = roster_of_three; rows = []; events = day })
    ≡ codes "host 1 U\nsent U 0\nfrom U 010000000000000001\nhost 2 U\n"
    ++ codes "host 3 C\nsent 4 0\nsent 4 1\nsent 4 2\nsent C 0\nfrom C 03\n"
    ++ codes "host 4 C\nfrom 3 68656c6c6f\nfrom 3 627965\nhost 5 S\nsent S 0\n"
    ++ codes "host 6 S\nsent S 0\nfrom S 02000000000000000100036d6f6e\n"
unfolding gives piece_count hosts_in_order digits encode_with call_text call_of reply_text question_by reply_with
    writing next_action reply
row_23 = refl

-- ---- the record of a file

-- of a Put of `note` with two bytes, as the first version of the lowest level
record_row : take 64 (record_of clear_text (clear_pair 255) 0 note 0 1 (97 ∷ 98 ∷ []))
    ≡ version 1 ++ (0 ∷ 4 ∷ 0 ∷ 2 ∷ replicate 4 0) ++ version 1
    ++ note ++ replicate 28 0 ++ 97 ∷ 98 ∷ replicate 6 0
unfolding record_of record_nonce record_plain clear_text clear_check blocks first_blocks
record_row = refl

record_length : length (record_of clear_text (clear_pair 255) 0 note 0 1 (97 ∷ 98 ∷ [])) ≡ 72
unfolding record_of record_nonce record_plain clear_text clear_check blocks first_blocks
record_length = refl

-- ---- the low part of a script, and twins

row_17_low : low (record { rank = 0; cats = 0 }) (script_of (store 1 Gone)
    (Send 1 (Host 2) hi ∷ Send 5 (Host 6) (119 ∷ []) ∷ Ask 5 (Get 0 note) ∷ asks 5 S 0 ∷ piece 0 0 ∷ []))
    ≡ script_of [] row_1_events
row_17_low = refl

row_17_twin : text_below (record { rank = 0; cats = 0 }) (script_of []
    (row_1_events ++ Send 5 (Host 6) (119 ∷ []) ∷ []))
    ≡ codes "host 1 U\nsent 2 0\nhost 2 U\nfrom 1 6869\n"
unfolding gives piece_count hosts_in_order digits encode_with
row_17_twin = refl
