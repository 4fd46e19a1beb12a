-- What is written, line after line.
use Rattle.std.proofs.Common.{zero, suc, ◌≡◌, ℕ, ◌+◌, ◌-◌, ◌/◌, ◌%◌, ◌<◌, ◌≤◌, cond, eqb, List, [], ◌∷◌, ◌++◌, length, map, take, Option, Some, None, refl, sym, ap, ◌∙◌, arith, append_assoc}
use Rattle.std.specs.Prelude.{slice_get, codes}
use Rattle.std.specs.List.{flat_map, join_with_byte, zip}
use Rattle.std.proofs.lemmas.List.{append-nil, map_push, take_all}
use Rattle.std.proofs.lemmas.List.Concat.{flat_map-append}
use Rattle.script.specs.Lines.{Line}
use Rattle.script.specs.Lines as line
use Rattle.script.specs.Text.{lines_of_sealing, line_of_level, line_of_key, lines_of_keys, line_of_host, line_of_row, line_of_event, text_of}
use Rattle.events.specs.ScriptView.{ScriptView}
use Rattle.script.proofs.Order.{no_pairs}
use Rattle.seal_core.specs.declared.KeyPair.{KeyPair}
use Rattle.levels.specs.declared.level.Sealing.TheVariants.{Clear, Des}
use Rattle.levels.specs.Keys.{keys_at, listed}
use Rattle.levels.specs.Kept.{IsRoster}
use Rattle.std.proofs.lemmas.Slice.Zip.{length-zip}
use Rattle.std.specs.Option.{option_map}
use Rattle.levels.specs.declared.level.Level.{Level}
use Rattle.levels.specs.declared.rows.LevelRow.{LevelRow}
use Rattle.levels.specs.Rosters.{RosterView, name_at, level_at}
use Rattle.script.specs.Spelling.{letters, edit_text, ended_text}

take_one_more : {X : Type 0} (xs : List X) (i : ℕ) (x : X) → slice_get xs i ≡ Some x
    → take (suc i) xs ≡ take i xs ++ x ∷ []
take_one_more [] i x e = absurd cc
take_one_more (y ∷ xs) zero x e = let same : y ≡ x = cc in ap (λ (z : _). z ∷ []) same
take_one_more {X = X} (y ∷ xs) (suc i) x e = ap (λ (zs : List X). y ∷ zs) (take_one_more xs i x e)

-- the text of one more line
pub texts_step : {X : Type 0} (f : X → Line) (xs : List X) (i : ℕ) (x : X) → slice_get xs i ≡ Some x
    → (before text now : List ℕ)
    → text ≡ before ++ flat_map ended_text (map f (take i xs)) → now ≡ text ++ ended_text (f x)
    → now ≡ before ++ flat_map ended_text (map f (take (i + 1) xs))
texts_step {X = X} f xs i x e before text now so_far written =
    let longer : take (i + 1) xs ≡ take i xs ++ x ∷ [] = let s : i + 1 ≡ suc i = omega arith in
    rw s (take_one_more xs i x e) in
    let all : flat_map ended_text (map f (take (i + 1) xs))
    ≡ flat_map ended_text (map f (take i xs)) ++ ended_text (f x) =
    ap (λ (ys : List X). flat_map ended_text (map f ys)) longer
    ∙ ap (flat_map ended_text) (map_push f (take i xs) x)
    ∙ flat_map-append ended_text (map f (take i xs)) (f x ∷ [])
    ∙ ap (λ (t : List ℕ). flat_map ended_text (map f (take i xs)) ++ t)
    (append-nil (ended_text (f x))) in
    written ∙ ap (λ (t : List ℕ). t ++ ended_text (f x)) so_far
    ∙ append_assoc before (flat_map ended_text (map f (take i xs))) (ended_text (f x))
    ∙ ap (λ (t : List ℕ). before ++ t) (sym all)

pub letters_step : (i letter cats : ℕ) → i < 16
    → letters (16 - i) letter cats ≡ (cond (eqb (cats % 2) 1) (letter ∷ []) [])
    ++ letters (16 - (i + 1)) (letter + 1) (cats / 2)
unfolding letters
letters_step i letter cats lt = let s : 16 - i ≡ suc (16 - (i + 1)) = omega arith in rw s refl

-- a category's letter, or none, goes over to what is written
pub letters_on : (i letter above cats : ℕ) (mark : List ℕ) (text now all : List ℕ) → i < 16
    → above ≡ letter + 1 → cond (eqb (cats % 2) 1) (letter ∷ []) [] ≡ mark
    → text ++ letters (16 - i) letter cats ≡ all → now ≡ text ++ mark
    → now ++ letters (16 - (i + 1)) above (cats / 2) ≡ all
letters_on i letter above cats mark text now all lt next is so_far written =
    let rest = letters (16 - (i + 1)) (letter + 1) (cats / 2) in
    ap (λ (n : ℕ). now ++ letters (16 - (i + 1)) n (cats / 2)) next
    ∙ ap (λ (t : List ℕ). t ++ rest) written ∙ append_assoc text mark rest
    ∙ ap (λ (m : List ℕ). text ++ (m ++ rest)) (sym is)
    ∙ ap (λ (t : List ℕ). text ++ t) (sym (letters_step i letter cats lt)) ∙ so_far

pub letters_done : (i letter cats : ℕ) (text all : List ℕ) → 16 ≤ i
    → text ++ letters (16 - i) letter cats ≡ all → text ≡ all
unfolding letters
letters_done i letter cats text all past so_far =
    let none : 16 - i ≡ 0 = omega arith in
    sym (append-nil text) ∙ ap (λ (n : ℕ). text ++ letters n letter cats) (sym none) ∙ so_far

pub row_at : (roster : RosterView) (place : ℕ) (name : List ℕ) (level : Level)
    → name_at roster (record { 0 = place }) ≡ Some name
    → level_at roster (Some (record { 0 = place })) ≡ Some level
    → slice_get roster.levels place ≡ Some (record { name = name; level = level })
row_at roster place name level n l = by_row (slice_get roster.levels place) n l
  where
    by_row : (o : Option LevelRow) → option_map (λ row. row.name) o ≡ Some name
        → option_map (λ row. row.level) o ≡ Some level
        → o ≡ Some (record { name = name; level = level })
    by_row None n l = absurd cc
    by_row (Some row) n l =
        let a : row.name ≡ name = cc in
        let b : row.level ≡ level = cc in
        ap (λ (x : List ℕ). Some (record { name = x; level = row.level })) a
        ∙ ap (λ (y : Level). Some (record { name = name; level = y })) b

-- ---- key pairs

zip_get : {X Y : Type 0} (xs : List X) (ys : List Y) (i : ℕ) (x : X) (y : Y)
    → slice_get xs i ≡ Some x → slice_get ys i ≡ Some y
    → slice_get (zip xs ys) i ≡ Some (x, y)
zip_get [] ys i x y e f = absurd cc
zip_get (a ∷ xs) [] i x y e f = absurd cc
zip_get (a ∷ xs) (b ∷ ys) zero x y e f =
    let first : a ≡ x = cc in
    let second : b ≡ y = cc in
    rw (first, second) refl
zip_get (a ∷ xs) (b ∷ ys) (suc i) x y e f = zip_get xs ys i x y e f

named_row : (o : Option LevelRow) (name : List ℕ)
    → option_map (λ (row : LevelRow). row.name) o ≡ Some name
    → (row : LevelRow) × (o ≡ Some row) × (row.name ≡ name)
named_row None name e = absurd cc
named_row (Some row) name e = (row, refl, cc)

-- the text of one more key pair
pub pairs_step : (roster : RosterView) (place : ℕ) (name : List ℕ) (pair : KeyPair)
    → roster.sealing ≡ Des
    → name_at roster (record { 0 = place }) ≡ Some name
    → keys_at roster (record { 0 = place }) ≡ Some pair → (before text now : List ℕ)
    → text ≡ before ++ flat_map ended_text
    (map line_of_key (take place (zip roster.levels roster.keys)))
    → now ≡ text ++ ended_text (line.Key name pair)
    → now ≡ before ++ flat_map ended_text
    (map line_of_key (take (place + 1) (zip roster.levels roster.keys)))
pairs_step roster place name pair des named keyed before text now so_far written =
    let row = named_row (slice_get roster.levels place) name named in
    let key : slice_get roster.keys place ≡ Some pair = rw des at keyed in
    let here = zip_get roster.levels roster.keys place row.0 pair row.1 key in
    texts_step line_of_key (zip roster.levels roster.keys) place (row.0, pair) here before text now
    so_far
    (written ∙ ap (λ (n : List ℕ). text ++ ended_text (line.Key n pair)) (sym row.2))

-- all key pairs were written
pub pairs_done : (roster : RosterView) (n : ℕ) (before text : List ℕ) → length roster.keys ≤ n
    → text ≡ before ++ flat_map ended_text
    (map line_of_key (take n (zip roster.levels roster.keys)))
    → text ≡ before ++ flat_map ended_text (map line_of_key (zip roster.levels roster.keys))
pairs_done roster n before text le so_far =
    let all = zip roster.levels roster.keys in
    let short : length all ≤ n = omega (arith, length-zip roster.levels roster.keys) in
    rw (take_all n all short) at so_far

-- ---- edits

-- words behind a first one, joined by spaces
pub edits_joined : (word : List ℕ) (edits : List (ℕ × ℕ))
    → join_with_byte 32 (word ∷ map edit_text edits) ≡ word
    ++ flat_map (λ (e : ℕ × ℕ). 32 ∷ edit_text e) edits
edits_joined word [] = sym (append-nil word)
edits_joined word (e ∷ edits) = ap (λ (t : List ℕ). word ++ 32 ∷ t)
    (edits_joined (edit_text e) edits)

-- under clear sealing there are no key pairs to write
pub no_keys_text : (roster : RosterView) (text : List ℕ) → IsRoster roster → roster.sealing ≡ Clear
    → text ≡ text ++ flat_map ended_text (lines_of_keys roster)
no_keys_text roster text good clear =
    let none = good.clear clear in
    let guard : listed roster.guard ≡ [] = ap listed none.guard in
    let keys : zip roster.levels roster.keys ≡ [] = ap (zip roster.levels) none.keys
    ∙ no_pairs roster.levels in
    let lines : lines_of_keys roster ≡ [] = rw (keys, guard) refl in
    rw lines (sym (append-nil text))

-- ---- whole scripts

-- the text of a script, part for part
pub script_text : (script : ScriptView)
    → text_of script ≡ codes "dss 1\n"
    ++ flat_map ended_text (lines_of_sealing script.roster.sealing)
    ++ flat_map ended_text (map line_of_level script.roster.levels)
    ++ flat_map ended_text (lines_of_keys script.roster)
    ++ flat_map ended_text (map (line_of_host script.roster) script.roster.hosts)
    ++ flat_map ended_text (map (line_of_row script.roster) script.rows) ++ codes "begin\n"
    ++ flat_map ended_text (map (line_of_event script.roster) script.events) ++ codes "end\n"
unfolding text_of
script_text script =
    let v = line.Version ∷ [] in
    let s = lines_of_sealing script.roster.sealing in
    let l = map line_of_level script.roster.levels in
    let k = lines_of_keys script.roster in
    let h = map (line_of_host script.roster) script.roster.hosts in
    let r = map (line_of_row script.roster) script.rows in
    let b = line.Begin ∷ [] in
    let e = map (line_of_event script.roster) script.events in
    let text = λ (ls : List Line). flat_map ended_text ls in
    let cut = λ (xs ys : List Line). flat_map-append ended_text xs ys in
    let begin = codes "begin\n" in
    let end = codes "end\n" in
    cut (v ++ s ++ l ++ k ++ h ++ r ++ b ++ e) (line.End ∷ [])
    ∙ ap (λ (t : List ℕ). t ++ end) (cut (v ++ s ++ l ++ k ++ h ++ r ++ b) e)
    ∙ ap (λ (t : List ℕ). t ++ text e ++ end) (cut (v ++ s ++ l ++ k ++ h ++ r) b)
    ∙ ap (λ (t : List ℕ). t ++ begin ++ text e ++ end) (cut (v ++ s ++ l ++ k ++ h) r)
    ∙ ap (λ (t : List ℕ). t ++ text r ++ begin ++ text e ++ end) (cut (v ++ s ++ l ++ k) h)
    ∙ ap (λ (t : List ℕ). t ++ text h ++ text r ++ begin ++ text e ++ end) (cut (v ++ s ++ l) k)
    ∙ ap (λ (t : List ℕ). t ++ text k ++ text h ++ text r ++ begin ++ text e ++ end)
    (cut (v ++ s) l)
    ∙ ap (λ (t : List ℕ). t ++ text l ++ text k ++ text h ++ text r ++ begin ++ text e ++ end)
    (cut v s)
