-- A list of names read one by one.
use Rattle.std.proofs.Common.{◌≡◌, ℕ, zero, suc, List, [], ◌∷◌, ◌++◌, ◌&&◌, length, true, Some, refl, sym, ap, ap₂, ◌∙◌, arith, append_assoc, append-nil}
use Rattle.std.specs.Prelude.{◌==◌, nat_le, nat_lt}
use Rattle.std.specs.List.{list_all, flat_map}
use Rattle.std.proofs.lemmas.Bool.{and_parts, and_from, lt-ltb, eqb-true}
use Rattle.std.proofs.lemmas.Option.{cond_some, option_and_then_some}
use Rattle.std.proofs.lemmas.List.Folds.{list_all-append}
use Rattle.file_calls.specs.Names.{is_name, is_name_list, name_of, are_rising}
use Rattle.file_calls.specs.Spelling.{name_text}
use Rattle.file_calls.specs.inside.Reading.{name_parts, names_behind, names_in}
use Rattle.file_calls.proofs.Options.{cond_some_of, nothing}
use Rattle.file_calls.proofs.FieldLemmas.{name_parts_are, name_parts-text, name_of_is, name_of-name}
use Rattle.file_calls.proofs.Rising.{are_rising-front, names_behind-more}

-- the names that a text spells behind those that were read
record IsBehind (count : ℕ) (names : List (List ℕ)) (bytes : List ℕ) (all : List (List ℕ)) : Type 0 where
  more : List (List ℕ)
  joined : all ≡ names ++ more
  text : bytes ≡ flat_map name_text more
  counted : length more ≡ count
  named : list_all is_name all ≡ true
  rising : are_rising all ≡ true

names_behind_is : (count : ℕ) (names : List (List ℕ)) (bytes : List ℕ) (all : List (List ℕ))
    → list_all is_name names ≡ true → are_rising names ≡ true
    → names_behind count names bytes ≡ Some all → IsBehind count names bytes all
names_behind_is zero names bytes all named rising e =
    let both = cond_some (length bytes == 0) names all e in
    record {
      more = [];
      joined = sym both.1 ∙ sym (append-nil names);
      text = nothing bytes (eqb-true (length bytes) 0 both.0);
      counted = refl;
      named = rw (← both.1) named;
      rising = rw (← both.1) rising;
    }
names_behind_is (suc count) names bytes all named rising e =
    option_and_then_some _ (name_parts bytes) all e (λ parts parted e1.
    option_and_then_some _ (name_of parts.0) all e1 (λ name is e2.
    let both = cond_some_of (are_rising (names ++ name ∷ [])) _ all e2 in
    let own = name_of_is parts.0 name is in
    let one : list_all is_name (name ∷ []) ≡ true = and_from (is_name name) true own.0 refl in
    let all_named : list_all is_name (names ++ name ∷ []) ≡ true = list_all-append is_name names (name ∷ [])
    ∙ and_from _ _ named one in
    let rest = names_behind_is count (names ++ name ∷ []) parts.1 all all_named both.0 both.1 in
    record {
      more = name ∷ rest.more;
      joined = rest.joined ∙ append_assoc names (name ∷ []) rest.more;
      text = name_parts_are bytes parts parted ∙ ap₂ (λ (n r : List ℕ). name_text n ++ r) own.1 rest.text;
      counted = ap suc rest.counted;
      named = rest.named;
      rising = rest.rising;
    }))

pub names_in_is : (bytes : List ℕ) (names : List (List ℕ)) → names_in bytes ≡ Some names
    → (is_name_list names ≡ true) × (bytes ≡ length names ∷ flat_map name_text names)
names_in_is [] names e = absurd cc
names_in_is (count ∷ bytes) names e =
    let both = cond_some_of (nat_lt 0 (length (count ∷ bytes)) && nat_le count 128) _ names e in
    let few = (and_parts (nat_lt 0 (length (count ∷ bytes))) (nat_le count 128) both.0).1 in
    let rest = names_behind_is count [] bytes names refl refl both.1 in
    let counted : length names ≡ count = ap length rest.joined ∙ rest.counted in (
      and_from _ _ (and_from _ _ (rw counted few) rest.named) rest.rising,
      ap₂ (λ (n : ℕ) (r : List ℕ). n ∷ r) (sym counted) (rest.text ∙ ap (flat_map name_text) (sym rest.joined)),
    )

names_behind-text : (more names : List (List ℕ)) → list_all is_name more ≡ true → are_rising (names ++ more) ≡ true
    → names_behind (length more) names (flat_map name_text more) ≡ Some (names ++ more)
names_behind-text [] names named rising = rw append-nil refl
names_behind-text (name ∷ more) names named rising =
    let both = and_parts (is_name name) (list_all is_name more) named in
    let behind = flat_map name_text more in
    let joined : (names ++ name ∷ []) ++ more ≡ names ++ name ∷ more = append_assoc names (name ∷ []) more in
    let rises : are_rising ((names ++ name ∷ []) ++ more) ≡ true = rw joined rising in
    names_behind-more (suc (length more)) (length more) names (name_text name ++ behind) name (name, behind) refl
    (name_parts-text name behind)
    (name_of-name name both.0) (are_rising-front (names ++ name ∷ []) more rises)
    ∙ names_behind-text more (names ++ name ∷ []) both.1 rises ∙ ap (λ (ns : List (List ℕ)). Some ns) joined

pub names_in-text : (names : List (List ℕ)) → is_name_list names ≡ true
    → names_in (length names ∷ flat_map name_text names) ≡ Some names
names_in-text names is =
    let outer = and_parts (nat_le (length names) 128 && list_all is_name names) (are_rising names) is in
    let both = and_parts (nat_le (length names) 128) (list_all is_name names) outer.0 in
    rw (lt-ltb 0 (length (length names ∷ flat_map name_text names)) (omega arith), both.0)
    (names_behind-text names [] both.1 outer.1)
