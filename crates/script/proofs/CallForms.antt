-- What the store does, and what hosts ask: the words both ways.
use Rattle.std.proofs.Common.{◌≡◌, ℕ, List, ◌∷◌, Some, refl, lit<}
use Rattle.std.specs.Prelude.{codes}
use Rattle.std.specs.List.{AllByRecursion}
use Rattle.std.specs.Fmt.{decimal}
use Rattle.file_calls.specs.Names.{is_name, name_of}
use Rattle.script.specs.Lines.{CallWords, StoreWords, Line}
use Rattle.script.specs.Lines as line
use Rattle.script.specs.Spelling.{action_words, line_words}
use Rattle.script.specs.Ranges.{InRange, IsFileName, HasActionRanges, HasRanges}
use Rattle.script.specs.inside.Readers.{number_read, nothing, asked, of_form, flip_form, actions, action_read, put_form, get_form, list_form, remove_form, append_form, block_form, call_forms, call_read, nowhere, FormReader}
use Rattle.script.proofs.Tools.{guard_some}
use Rattle.script.proofs.Inks.{file_ink}
use Rattle.script.proofs.Spellings.{IsWord, itself, numbers, names}
use Rattle.script.proofs.EditWords.{contents, changes}
use Rattle.script.proofs.Combining.{IsSpelledBy, IsForm, ReadsOn, nothing_takes, two_takes, three_takes, four_takes, nowhere_takes, read_by_takes}

-- ---- what the store does

abbrev versions : IsWord decimal (InRange 1 72057594037927935) (number_read 1 72057594037927935)
versions = numbers 1 72057594037927935 (lit< tt)

abbrev places : IsWord decimal (InRange 0 4294967295) (number_read 0 4294967295)
places = numbers 0 4294967295 (lit< tt)

abbrev IsActionForm : List ℕ × FormReader StoreWords → Type 0
IsActionForm = IsForm action_words HasActionRanges

honests_take : IsActionForm (codes "true", nothing line.Honest)
honests_take = nothing_takes action_words HasActionRanges (codes "true") line.Honest
    (record { spelled = refl; fits = tt })

ofs_take : IsActionForm (codes "of", of_form)
ofs_take = two_takes action_words HasActionRanges (codes "of") names versions
    (λ level version. line.Of level version)
    (λ x y p q. record { spelled = refl; fits = (p, q) })

flips_take : IsActionForm (codes "flip", flip_form)
flips_take = two_takes action_words HasActionRanges (codes "flip") places changes
    (λ offset xor. line.Flip offset xor)
    (λ x y p q. record { spelled = refl; fits = (p, q) })

gones_take : IsActionForm (codes "gone", nothing line.Gone)
gones_take = nothing_takes action_words HasActionRanges (codes "gone") line.Gone
    (record { spelled = refl; fits = tt })

actions_form : AllByRecursion IsActionForm actions
actions_form = (honests_take, (ofs_take, (flips_take, (gones_take, tt))))

pub actions_take : (first : List ℕ) (args : List (List ℕ)) (made : StoreWords)
    → action_read (first ∷ args) ≡ Some made
    → IsSpelledBy action_words HasActionRanges first args made
unfolding action_read
actions_take first args made e =
    read_by_takes action_words HasActionRanges actions nowhere actions_form
    (nowhere_takes action_words HasActionRanges) first args made e

pub action_again : (made : StoreWords) → HasActionRanges made
    → action_read (action_words made) ≡ Some made
unfolding action_read
action_again line.Honest fits = refl
action_again (line.Of level version) fits =
    rw (names.again level fits.0, versions.again version fits.1) refl
action_again (line.Flip offset xor) fits =
    rw (places.again offset fits.0, changes.again xor fits.1) refl
action_again line.Gone fits = refl

-- ---- what hosts ask

pub files : IsWord itself IsFileName name_of
files = record {
  takes = λ word name e. (let g = guard_some (is_name word) word name e in
      (g.1, rw g.1 at g.0));
  again = λ name fits. rw fits refl;
  ink = λ name fits. file_ink name fits;
}

abbrev pub addresses : IsWord decimal (InRange 1 250) (number_read 1 250)
addresses = numbers 1 250 (lit< tt)

abbrev pub blocks : IsWord decimal (InRange 0 63) (number_read 0 63)
blocks = numbers 0 63 (lit< tt)

abbrev IsLineForm : List ℕ × FormReader Line → Type 0
IsLineForm = IsForm line_words HasRanges

puts_take : IsLineForm (codes "put", put_form)
unfolding put_form
puts_take = three_takes line_words HasRanges (codes "put") addresses files contents
    (λ from name content. asked from (line.Put name content))
    (λ x y z p q r. record { spelled = refl; fits = (p, (q, r)) })

gets_take : IsLineForm (codes "get", get_form)
unfolding get_form
gets_take = three_takes line_words HasRanges (codes "get") addresses names files
    (λ from level name. asked from (line.Get level name))
    (λ x y z p q r. record { spelled = refl; fits = (p, (q, r)) })

lists_take : IsLineForm (codes "list", list_form)
unfolding list_form
lists_take = two_takes line_words HasRanges (codes "list") addresses names
    (λ from level. asked from (line.ListNames level))
    (λ x y p q. record { spelled = refl; fits = (p, q) })

removes_take : IsLineForm (codes "remove", remove_form)
unfolding remove_form
removes_take = two_takes line_words HasRanges (codes "remove") addresses files
    (λ from name. asked from (line.Remove name))
    (λ x y p q. record { spelled = refl; fits = (p, q) })

appends_take : IsLineForm (codes "append", append_form)
unfolding append_form
appends_take = three_takes line_words HasRanges (codes "append") addresses files contents
    (λ from name content. asked from (line.Append name content))
    (λ x y z p q r. record { spelled = refl; fits = (p, (q, r)) })

blocks_take : IsLineForm (codes "block", block_form)
unfolding block_form
blocks_take = four_takes line_words HasRanges (codes "block") addresses names files blocks
    (λ from level name block. asked from (line.Block level name block))
    (λ x y z u p q r w. record { spelled = refl; fits = (p, (q, r, w)) })

calls_form : AllByRecursion IsLineForm call_forms
calls_form =
    (puts_take, (gets_take, (lists_take, (removes_take, (appends_take, (blocks_take, tt))))))

pub calls_take : ReadsOn line_words HasRanges call_read
unfolding call_read
calls_take = read_by_takes line_words HasRanges call_forms nowhere calls_form
    (nowhere_takes line_words HasRanges)
