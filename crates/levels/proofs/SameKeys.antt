-- Tests of keys, and lists of keys of which none is weak and no two are the same.
use Rattle.std.proofs.Common.{◌≡◌, ◌≢◌, ℕ, zero, suc, List, [], ◌∷◌, ◌++◌, Bool, true, false, Some, Decides, refl, sym, ◌∙◌, ap, subst, arith, append_assoc}
use Rattle.std.specs.Prelude.{slice_get, ◌||◌, Any}
use Rattle.std.specs.List.{list_any}
use Rattle.std.specs.Cmp.{booleans_Decides}
use Rattle.std.proofs.lemmas.Bool.Decides.{nat_tests, not_from_Decides}
use Rattle.std.proofs.lemmas.Grind.{flat_map-append}
use Rattle.std.proofs.lemmas.Option.{same_Some}
use Rattle.std.proofs.lemmas.List.Folds.{Any-from_list_any, list_any-from_Any}
use Rattle.std.proofs.lemmas.Slice.Eq.{slice_eq-Decides}
use Rattle.seal_core.specs.declared.KeyPair.{KeyPair}
use Rattle.des_cbc.specs.Bits.{block_bits}
use Rattle.des_cbc.specs.Parity.{SameKey, IsWeak, without_parity, weak_keys}
use Rattle.levels.specs.Kept.{AreKeys}
use Rattle.levels.specs.Keys.{is_same_key, is_key_refused, is_pair_refused, keys_of}
use Rattle.levels.proofs.Apart.{get_push, apart_push, apart_cons, none_at, all_push}

pub is_same_key-Decides : (a b : List ℕ) → Decides (is_same_key a b) (SameKey a b)
is_same_key-Decides a b = slice_eq-Decides booleans_Decides _ _ (is_same_key a b) refl

any_other : {X : Type 0} (P Q : X → Type 0) (xs : List X) → ((x : X) → P x → Q x) → Any P xs → Any Q xs
any_other P Q xs f h = (h.0, h.1, h.2, h.3, f h.1 h.4)

-- a key is weak exactly where the test finds it among the weak keys
pub is_weak-Decides : (key : List ℕ) → Decides (list_any (is_same_key key) weak_keys) (IsWeak key)
is_weak-Decides key = (
  λ t. any_other _ _ weak_keys (λ w. (is_same_key-Decides key w).0) (Any-from_list_any (is_same_key key) weak_keys t),
  λ w. list_any-from_Any (is_same_key key) weak_keys (any_other _ _ weak_keys (λ w. (is_same_key-Decides key w).1) w),
)

-- a key that may stand behind others
pub record IsFresh (earlier : List (List ℕ)) (key : List ℕ) : Type 0 where
  pub strong : ¬ IsWeak key
  pub new : (i : ℕ) (a : List ℕ) → slice_get earlier i ≡ Some a
      → without_parity (block_bits a) ≢ without_parity (block_bits key)

first_false : (a b : Bool) → (a || b) ≡ false → a ≡ false
first_false true b h = cc
first_false false b h = refl

last_false : (a b : Bool) → (a || b) ≡ false → b ≡ false
last_false true b h = cc
last_false false b h = h

fresh : (earlier : List (List ℕ)) (key : List ℕ) → is_key_refused earlier key ≡ false → IsFresh earlier key
fresh earlier key h =
    let weak = first_false (list_any (is_same_key key) weak_keys) (list_any (is_same_key key) earlier) h in
    let others = last_false (list_any (is_same_key key) weak_keys) (list_any (is_same_key key) earlier) h in
    record {
      strong = not_from_Decides _ (is_weak-Decides key) weak;
      new = λ i a here same. not_from_Decides _ (is_same_key-Decides key a)
          (none_at (is_same_key key) earlier i a others here) (sym same);
    }

-- two keys that may stand behind others
pub record AreFresh (earlier : List (List ℕ)) (pair : KeyPair) : Type 0 where
  pub main : IsFresh earlier pair.main
  pub check : IsFresh earlier pair.check
  pub two : ¬ SameKey pair.main pair.check

pub both_fresh : (earlier : List (List ℕ)) (pair : KeyPair) → is_pair_refused earlier pair ≡ false
    → AreFresh earlier pair
both_fresh earlier pair h =
    let a = is_key_refused earlier pair.main in
    let b = is_key_refused earlier pair.check in
    let c = is_same_key pair.main pair.check in
    let alone = first_false (a || b) c h in
    record {
      main = fresh earlier pair.main (first_false a b alone);
      check = fresh earlier pair.check (last_false a b alone);
      two = not_from_Decides _ (is_same_key-Decides pair.main pair.check) (last_false (a || b) c h);
    }

key_push : (keys : List (List ℕ)) (key : List ℕ) → AreKeys keys → IsFresh keys key → AreKeys (keys ++ key ∷ [])
key_push keys key h new = record {
  strong = all_push (λ k. ¬ IsWeak k) keys key h.strong new.strong;
  apart = apart_push (λ k. without_parity (block_bits k)) keys key h.apart new.new;
}

key_cons : (keys : List (List ℕ)) (key : List ℕ) → AreKeys keys → IsFresh keys key → AreKeys (key ∷ keys)
key_cons keys key h new = record {
  strong = (new.strong, h.strong);
  apart = apart_cons (λ k. without_parity (block_bits k)) keys key h.apart new.new;
}

-- a key that is new behind others and is not one more key is new behind that too
fresh_push : (keys : List (List ℕ)) (a b : List ℕ) → IsFresh keys b → ¬ SameKey a b → IsFresh (keys ++ a ∷ []) b
fresh_push keys a b h two = record {
  strong = h.strong;
  new = λ i x here same. let e = sym (get_push keys a i) ∙ here in grind (arith, nat_tests, e, h.new i x, two);
}

new_cons : (keys : List (List ℕ)) (a b : List ℕ) → IsFresh keys a → ¬ SameKey a b
    → (i : ℕ) (x : List ℕ) → slice_get (b ∷ keys) i ≡ Some x
    → without_parity (block_bits x) ≢ without_parity (block_bits a)
new_cons keys a b h two zero x here same =
    two (sym same ∙ ap (λ k. without_parity (block_bits k)) (sym (same_Some b x here)))
new_cons keys a b h two (suc i) x here same = h.new i x here same

fresh_cons : (keys : List (List ℕ)) (a b : List ℕ) → IsFresh keys a → ¬ SameKey a b → IsFresh (b ∷ keys) a
fresh_cons keys a b h two = record { strong = h.strong; new = new_cons keys a b h two }

pub pair_push : (pairs : List KeyPair) (pair : KeyPair) → AreKeys (keys_of pairs) → AreFresh (keys_of pairs) pair
    → AreKeys (keys_of (pairs ++ pair ∷ []))
pair_push pairs pair h new =
    let first = key_push (keys_of pairs) pair.main h new.main in
    let second = key_push (keys_of pairs ++ pair.main ∷ []) pair.check first
    (fresh_push (keys_of pairs) pair.main pair.check new.check new.two) in
    let e : keys_of (pairs ++ pair ∷ []) ≡ (keys_of pairs ++ pair.main ∷ []) ++ pair.check ∷ [] =
    flat_map-append (λ (p : KeyPair). p.main ∷ p.check ∷ []) pairs (pair ∷ [])
    ∙ sym (append_assoc (keys_of pairs) (pair.main ∷ []) (pair.check ∷ [])) in
    subst AreKeys (sym e) second

pub pair_cons : (pairs : List KeyPair) (pair : KeyPair) → AreKeys (keys_of pairs) → AreFresh (keys_of pairs) pair
    → AreKeys (keys_of (pair ∷ pairs))
pair_cons pairs pair h new =
    key_cons (pair.check ∷ keys_of pairs) pair.main (key_cons (keys_of pairs) pair.check h new.check)
    (fresh_cons (keys_of pairs) pair.main pair.check new.main new.two)
