use Rattle.std.proofs.Common.{◌≡◌, ◌-◌, ◌≤◌, length, take}
use Rattle.script.specs.inside.Readers.{edits_read, words}
use Rattle.script.proofs.EditWords.{onto}
use Rattle.script.proofs.edits.edit_words.Given as goal

-- the words that are left say what all words say behind the edits so far
abbrev pub invariant-loop-i : goal.invariant-loop-i
invariant-loop-i l = record {
  said : edits_read 8 0 (words l.text)
      ≡ onto (take l.i l.pairs) (edits_read (8 - l.i) l.least (words l.rest));
  low : l.least ≤ 128;
  wide : length l.pairs ≡ 8;
}
