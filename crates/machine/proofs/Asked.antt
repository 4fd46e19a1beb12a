-- What a question asks for was written.
use Rattle.std.proofs.Common.{◌≡◌, ℕ, ◌<◌, ◌≤◌, List, true, Option, Some, None, refl, subst, arith}
use Rattle.std.specs.Prelude.{◌^◌}
use Rattle.std.specs.Option.{option_map}
use Rattle.std.proofs.lemmas.Bool.Decides.{nat_tests}
use Rattle.levels.specs.Rosters.{RosterView}
use Rattle.file_calls.specs.declared.call.Call.{Call}
use Rattle.file_calls.specs.declared.call.Call.TheVariants.{Put, Append, Get, GetBlock, List as ListNames, Remove}
use Rattle.file_calls.specs.Names.{is_byte, is_name}
use Rattle.file_calls.specs.Spelling.{call_of}
use Rattle.file_calls.specs.SpellingLaws.{call_text-call_of}
use Rattle.machine.specs.Files.{CallRow, Directory, Write, versions_of, files}
use Rattle.machine.specs.Replies.{Question, Sight, sight, block_version, question_for, question_in, question_by}
use Rattle.machine.specs.Plan.{question_of}
use Rattle.machine.specs.Laws.{AsksForWritten}
use Rattle.machine.proofs.Basics.{both}
use Rattle.machine.proofs.Questions.{asked_current}
use Rattle.machine.proofs.Written.{stands_written}
use Rattle.machine.proofs.FilesRange.{in_range}
use Rattle.machine.proofs.ReplyRange.{written_content}

record InFields (question : Question) : Type 0 where
  level : question.level < 2 ^ 8
  name : is_name question.name ≡ true
  block : question.block ≤ 63

fields_by : (level : ℕ) (name : List ℕ) (block : ℕ) (o : Option ℕ) (q : Question)
    → is_byte level ≡ true → is_name name ≡ true → block ≤ 63
    → option_map (question_for level name block) o ≡ Some q → InFields q
fields_by level name block None q byte named low is = cc
fields_by level name block (Some version) q byte named low is =
    let same : question_for level name block version ≡ q = cc in
    let here : InFields (question_for level name block version) = record {
      level = grind (arith, nat_tests);
      name = named;
      block = low;
    } in
    subst InFields same here

fields_in : (level : ℕ) (name : List ℕ) (block : ℕ) (o : Option Directory) (q : Question)
    → is_byte level ≡ true → is_name name ≡ true → block ≤ 63
    → question_in level name block o ≡ Some q → InFields q
fields_in level name block None q byte named low is = cc
fields_in level name block (Some names) q byte named low is =
    fields_by level name block (block_version (versions_of name names) block) q byte named low is

fields_of : (s : Sight) (bytes : List ℕ) (o : Option Call) (q : Question) → call_of bytes ≡ o
    → question_by s o ≡ Some q → InFields q
unfolding question_by
fields_of s bytes None q is h = cc
fields_of s bytes (Some (Get level name)) q is h =
    let fits = both _ _ (call_text-call_of bytes (Get level name) is).0 in
    fields_in level name 0 (s.below level) q fits.0 fits.1 (omega arith) h
fields_of s bytes (Some (GetBlock level name block)) q is h =
    let fits = both _ _ (call_text-call_of bytes (GetBlock level name block) is).0 in
    let front = both _ _ fits.0 in
    fields_in level name block (s.below level) q front.0 front.1 (let low = fits.1 in grind (arith, nat_tests)) h
fields_of s bytes (Some (Put name content)) q is h = cc
fields_of s bytes (Some (Append name content)) q is h = cc
fields_of s bytes (Some (ListNames level)) q is h = cc
fields_of s bytes (Some (Remove name)) q is h = cc

-- the version that stands as a block is that of what was written for it
written_for : (before : List CallRow) (q : Question) (o : Option (List ℕ)) → InFields q
    → versions_of q.name (files q.level before).names ≡ o → block_version o q.block ≡ Some q.version
    → AsksForWritten before q
written_for before q None fields there current = cc
written_for before q (Some versions) fields there current =
    let t = stands_written q.level before q.name versions there q.block q.version current in
    let write : Write = record { name = q.name; block = q.block; content = t.0 } in
    record {
      level = fields.level;
      name = fields.name;
      block = fields.block;
      content = t.0;
      held = written_content (files q.level before).writes q.version (Some write) t.0
          (in_range q.level before).contents t.1 refl;
      written = t.1;
    }

pub asks_for_written : (roster : RosterView) (before : List CallRow) (c : CallRow) (q : Question)
    → question_of roster before c ≡ Some q → AsksForWritten before q
asks_for_written roster before c q h =
    written_for before q (versions_of q.name (files q.level before).names)
    (fields_of (sight roster c.level before) c.message (call_of c.message) q refl h) refl
    (asked_current roster before c q h)
