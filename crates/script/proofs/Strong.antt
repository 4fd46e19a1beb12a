-- Keys of which none is weak and no two are the same are not refused.
use Rattle.std.proofs.Common.{suc, ◌≡◌, ℕ, ◌+◌, List, [], ◌∷◌, ◌++◌, length, Bool, false, Some, Decides, refl, sym, subst, ◌∙◌, inl, inr, arith, append_assoc}
use Rattle.std.specs.Prelude.{slice_get}
use Rattle.std.specs.List.{list_any}
use Rattle.std.specs.Cmp.{booleans_Decides}
use Rattle.std.proofs.lemmas.Bool.{cases_Bool}
use Rattle.std.proofs.lemmas.Grind.{flat_map-append}
use Rattle.std.proofs.lemmas.List.Folds.{Any-from_list_any}
use Rattle.std.proofs.lemmas.Slice.Eq.{slice_eq-Decides}
use Rattle.seal_core.specs.declared.KeyPair.{KeyPair}
use Rattle.des_cbc.specs.Bits.{block_bits}
use Rattle.des_cbc.specs.Parity.{SameKey, IsWeak, without_parity, weak_keys}
use Rattle.levels.specs.Kept.{AreApart, AreKeys}
use Rattle.levels.specs.Keys.{is_same_key, is_key_refused, is_pair_refused, keys_of}
use Rattle.script.proofs.Tools.{all_right}
use Rattle.script.proofs.Found.{get_left, get_right, get_next, key_fresh, any_none}

same_keys : (a b : List ℕ) → Decides (is_same_key a b) (SameKey a b)
same_keys a b = slice_eq-Decides booleans_Decides _ _ (is_same_key a b) refl

other_keys : (a b : List ℕ) → (SameKey a b → ⊥) → is_same_key a b ≡ false
other_keys a b ne =
    elim (cases_Bool (is_same_key a b)) [
      | inl is ↦ absurd (ne ((same_keys a b).0 is))
      | inr not ↦ not
    ]

not_weak : (key : List ℕ) → (IsWeak key → ⊥) → list_any (is_same_key key) weak_keys ≡ false
not_weak key strong =
    elim (cases_Bool (list_any (is_same_key key) weak_keys)) [
      | inl is ↦
          let any = Any-from_list_any (is_same_key key) weak_keys is in
          absurd (strong (any.0, any.1, any.2, any.3, (same_keys key any.1).0 any.4))
      | inr not ↦ not
    ]

-- a key that is neither weak nor one of some
not_refused : (others : List (List ℕ)) (key : List ℕ) → (IsWeak key → ⊥)
    → ((i : ℕ) (a : List ℕ) → slice_get others i ≡ Some a → SameKey a key → ⊥)
    → is_key_refused others key ≡ false
not_refused others key strong new =
    rw (
      not_weak key strong,
      any_none (is_same_key key) others
          (λ i a here. other_keys key a (λ same. new i a here (sym same))),
    ) refl

abbrev bits : List ℕ → List Bool
bits key = without_parity (block_bits key)

pairs_split : (above : List KeyPair) (pair : KeyPair) (below : List KeyPair)
    → keys_of (above ++ pair ∷ below) ≡ keys_of above ++ pair.main ∷ pair.check ∷ keys_of below
pairs_split above pair below =
    flat_map-append (λ (p : KeyPair). p.main ∷ p.check ∷ []) above (pair ∷ below)

-- a pair behind others
pub behind_others : (above : List KeyPair) (pair : KeyPair) (below : List KeyPair)
    → AreKeys (keys_of (above ++ pair ∷ below)) → is_pair_refused (keys_of above) pair ≡ false
behind_others above pair below are =
    let K = keys_of above in
    let B = keys_of below in
    let all : AreKeys (K ++ pair.main ∷ pair.check ∷ B) =
    subst AreKeys (pairs_split above pair below) are in
    let strong = all_right (λ key. ¬ IsWeak key) K (pair.main ∷ pair.check ∷ B) all.strong in
    let group : (K ++ pair.main ∷ []) ++ pair.check ∷ B ≡ K ++ pair.main ∷ pair.check ∷ B =
    append_assoc K (pair.main ∷ []) (pair.check ∷ B) in
    let grouped : AreApart bits ((K ++ pair.main ∷ []) ++ pair.check ∷ B) =
    subst (AreApart bits) (sym group) all.apart in
    let main_new = key_fresh bits K pair.main (pair.check ∷ B) all.apart in
    let check_new = key_fresh bits (K ++ pair.main ∷ []) pair.check B grouped in
    let two : SameKey pair.main pair.check → ⊥ =
    check_new (length K) pair.main (get_next K pair.main []) in
    rw (
      not_refused K pair.main strong.0 main_new,
      not_refused K pair.check strong.1.0
          (λ i a here. check_new i a (get_left K (pair.main ∷ []) i a here)),
      other_keys pair.main pair.check two,
    ) refl

-- a pair in front of others
pub before_others : (pair : KeyPair) (below : List KeyPair) → AreKeys (keys_of (pair ∷ below))
    → is_pair_refused (keys_of below) pair ≡ false
before_others pair below are =
    let B = keys_of below in
    let two : SameKey pair.main pair.check → ⊥ =
    λ same. absurd (omega (arith, are.apart 0 1 pair.main pair.check refl refl same)) in
    rw (
      not_refused B pair.main are.strong.0
          (λ i a here same. absurd (omega (
            arith,
            are.apart (suc (suc i)) 0 a pair.main here refl
                same,
          ))),
      not_refused B pair.check are.strong.1.0
          (λ i a here same. absurd (omega (
            arith,
            are.apart (suc (suc i)) 1 a pair.check here refl
                same,
          ))),
      other_keys pair.main pair.check two,
    ) refl

-- some of the keys, behind others
pub keys_right : (above below : List KeyPair) → AreKeys (keys_of (above ++ below))
    → AreKeys (keys_of below)
keys_right above below are =
    let K = keys_of above in
    let B = keys_of below in
    let all : AreKeys (K ++ B) =
    subst AreKeys (flat_map-append (λ (p : KeyPair). p.main ∷ p.check ∷ []) above below) are in
    record {
      strong = all_right (λ key. ¬ IsWeak key) K B all.strong;
      apart = λ i j a b here there same.
          omega (
            arith,
            all.apart (length K + i) (length K + j) a b (get_right K B i ∙ here)
                (get_right K B j ∙ there) same,
          );
    }
