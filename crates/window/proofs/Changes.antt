-- What the calls make of a partner's messages and of the pool.
use Rattle.std.proofs.Common.{◌≡◌, ◌≢◌, ℕ, ◌+◌, ◌-◌, ◌*◌, ◌<◌, ◌≤◌, List, [], ◌++◌, length, take, drop, get_or, set, replicate, Bool, true, false, Option, Some, None, is_some, refl, sym, ◌∙◌, ap, subst, inl, inr, arith, get_or-set_same, get_or-set_other, length-append, length-drop}
use Rattle.std.specs.Prelude.{◌==◌, ◌%◌, not, unwrap_or, ◌&&◌, if◌then◌else◌}
use Rattle.std.specs.List.{range_with_len, list_all, flat_map}
use Rattle.std.proofs.lemmas.Bool.Decides.{nat_tests}
use Rattle.std.proofs.lemmas.Nat.{mod_below}
use Rattle.std.proofs.lemmas.List.{length-map, length-take-le, length-set}
use Rattle.std.proofs.lemmas.List.Folds.{list_all-map, flat_map-map}
use Rattle.frame.specs.Pieces.{PieceView, IsPiece}
use Rattle.frame_pool.specs.PoolView.{PoolView}
use Rattle.frame_pool.specs.Pools.{chain_of, blocks_of, denoted, block_in, without, joined}
use Rattle.window.specs.inside.Places.{nothing_held, has_room_for, put_in, or_new, is_full, full_length}
use Rattle.window.specs.inside.Quarters.{size_at, place_in, places_in, is_of, held_in, quarter_of, held_by, held, Fits, FitsIn, FitIn, Keeps, Turns, begun, put_piece}
use Rattle.window.specs.inside.Standing.{answer_with, answer_of}
use Rattle.window.specs.Windows.{IsShort}
use Rattle.window.specs.declared.heads.Head.{Head}
use Rattle.window.specs.declared.heads.Heads.{Heads}
use Rattle.window.proofs.Filling.{none_empty, all_fails}
use Rattle.window.proofs.Rule.{bool_cases, full_some}
use Rattle.window.proofs.Quarters.{quarter_cleared, quarter_kept, quarter_set, SameBut, replaced_fit, replaced_held, fresh_fits, Putting, has_room, places_put, put_fits, not_held, own_held, get_place, some_cut, length_places, length-nones}
use Rattle.window.proofs.Cut.{bytes_in, AreBlocks, length_cut, joined_cut}

pub turns_twice : (a b c : Heads) (p q r : PoolView) → Turns a b p q → Turns b c q r → Turns a c p r
turns_twice a b c p q r first second =
    let owner = first.owner in
    record {
      owner = second.owner ∙ first.owner;
      others = λ (o : ℕ) ne.
          let one = first.others o ne in
          let two = second.others o (λ same. ne (same ∙ owner)) in
          (two.0 ∙ one.0, two.1 ∙ one.1, two.2 ∙ one.2);
      quotas = second.quotas ∙ first.quotas;
      room = second.room ∙ first.room;
    }

-- a head is in place of another
abbrev pub with_head : Heads → ℕ → Option Head → Heads
with_head a i o = record { owner = a.owner; heads = set a.heads i o }

-- one quarter changed
pub record Changes (a : Heads) (pool after : PoolView) (k : ℕ) (o : Option Head) : Type 0 where
  pub keeps : Keeps a pool
  pub small : k < 4
  pub long : length (blocks_of after a.owner) ≡ 256
  pub quotas : after.quotas ≡ pool.quotas
  pub same : SameBut k (blocks_of pool a.owner) (blocks_of after a.owner)
  pub fits : FitsIn k o (quarter_of (blocks_of after a.owner) k)

length_blocks : (pool : PoolView) (owner : ℕ) → length (blocks_of pool owner) ≡ length (chain_of pool owner)
length_blocks pool owner = length-map (chain_of pool owner) (block_in pool.slots)

pub kept_after : (a : Heads) (pool after : PoolView) (k i : ℕ) (o : Option Head) → i ≡ k → Changes a pool after k o
    → Keeps (with_head a i o) after
kept_after a pool after k i o is c =
    let quotas = c.quotas in
    let keeps = c.keeps in
    record {
      owner = subst (λ (n : ℕ). a.owner < n) (sym (ap length quotas)) keeps.owner;
      quota = ap (λ (qs : List ℕ). get_or qs a.owner 0) quotas ∙ keeps.quota;
      places = sym (length_blocks after a.owner) ∙ c.long;
      heads = length-set a.heads i o ∙ keeps.heads;
      fit = subst (λ (n : ℕ). FitIn (set a.heads n o) (blocks_of after a.owner)) (sym is)
          (replaced_fit a.heads (blocks_of pool a.owner)
          (blocks_of after a.owner) k o keeps.heads c.small c.same c.fits
          keeps.fit);
    }

pub held_after : (a : Heads) (pool after : PoolView) (k i : ℕ) (o : Option Head) → i ≡ k → Changes a pool after k o
    → (j : ℕ)
    → held (with_head a i o) after j
    ≡ (if j % 4 == k then held_in o (quarter_of (blocks_of after a.owner) k) j else held a pool j)
held_after a pool after k i o is c j =
    ap (λ n. held_by (set a.heads n o) (blocks_of after a.owner) j) is
    ∙ replaced_held a.heads (blocks_of pool a.owner) (blocks_of after a.owner) k o c.keeps.heads c.small c.same
    c.keeps.fit j

-- ---- a quarter that is given back

length_without : (blocks : List (Option (List ℕ))) (k : ℕ) → length blocks ≡ 256 → k < 4
    → length (without blocks (64 * k) 64) ≡ 256
length_without blocks k long small =
    omega (
      arith,
      length-append (take (64 * k) blocks) (replicate 64 None ++ drop (64 * k + 64) blocks),
      length-append (replicate 64 None) (drop (64 * k + 64) blocks),
      length-nones 64,
      length-take-le (64 * k) blocks (omega (arith, long, small)),
      length-drop (64 * k + 64) blocks,
    )

pub changes_cleared : (a : Heads) (pool after : PoolView) (k n : ℕ) → n ≡ 64 → Keeps a pool → k < 4
    → blocks_of after a.owner ≡ without (blocks_of pool a.owner) (64 * k) n → after.quotas ≡ pool.quotas
    → Changes a pool after k None
changes_cleared a pool after k n count keeps small given quotas =
    let blocks = blocks_of pool a.owner in
    let long : length blocks ≡ 256 = length_blocks pool a.owner ∙ keeps.places in
    let is : blocks_of after a.owner ≡ without blocks (64 * k) 64 = given ∙ ap
    (λ m. without blocks (64 * k) m) count in
    record {
      keeps = keeps;
      small = small;
      long = ap length is ∙ length_without blocks k long small;
      quotas = quotas;
      same = λ (other i : ℕ) ne lt. ap (λ bs. quarter_of bs other i) is
          ∙ quarter_kept blocks k other i long small ne lt;
      fits = λ (i : ℕ) lt. ap (λ bs. quarter_of bs k i) is ∙ quarter_cleared blocks k i long small lt;
    }

pub held_none : (b : Bool) (f : ℕ → Option (List ℕ)) (j : ℕ) (rest : List (Option (List ℕ)))
    → (if b then held_in None f j else rest) ≡ (if b then [] else rest)
held_none true f j rest = refl
held_none false f j rest = refl

-- ---- a message that begins

pub changes_begun : (a : Heads) (pool : PoolView) (k : ℕ) (head : Head) → Keeps a pool → k < 4
    → get_or a.heads k None ≡ None → head.message % 4 ≡ k → head.last ≤ 63 → head.tail ≤ 88
    → head.missing ≡ head.last + 1 → Changes a pool pool k (Some head)
changes_begun a pool k head keeps small none own last tail missing =
    let f = quarter_of (blocks_of pool a.owner) k in
    let empty : FitsIn k None f = subst (λ (o : Option Head). FitsIn k o f) none (keeps.fit k small) in
    record {
      keeps = keeps;
      small = small;
      long = length_blocks pool a.owner ∙ keeps.places;
      quotas = refl;
      same = λ (other i : ℕ) ne lt. refl;
      fits = subst (λ (n : ℕ). Fits n head f) own (fresh_fits head f last tail missing empty);
    }

-- where a message has no head nothing of it is held
pub held_not : (a : Heads) (pool : PoolView) (j k : ℕ) → k ≡ j % 4 → is_of j (get_or a.heads k None) ≡ false
    → held a pool j ≡ []
held_not a pool j k is other =
    not_held (get_or a.heads (j % 4) None) (quarter_of (blocks_of pool a.owner) (j % 4)) j
    (ap (λ n. is_of j (get_or a.heads n None)) (sym is) ∙ other)

-- what is held once a quarter was given back and a message began in it
pub begun_is : (was cleared now : ℕ → List (Option (List ℕ))) (x : PieceView) (k : ℕ) (head : Head)
    (f : ℕ → Option (List ℕ)) → k ≡ x.message % 4 → head.message ≡ x.message
    → places_in head f ≡ nothing_held x.last → was x.message ≡ []
    → ((j : ℕ) → cleared j ≡ (if j % 4 == k then [] else was j))
    → ((j : ℕ) → now j ≡ (if j % 4 == k then held_in (Some head) f j else cleared j))
    → (j : ℕ) → now j ≡ begun was x j
begun_is was cleared now x k head f quarter own fresh none cleared_is now_is j =
    elim (bool_cases (j == x.message)) [
      | inl is ↦
          let same : j ≡ x.message = grind (arith, nat_tests, is) in
          let here : (j % 4 == k) ≡ true = grind (arith, nat_tests, ap (λ n. n % 4) same, quarter) in
          now_is j ∙ ap (λ (b : Bool). if b then held_in (Some head) f j else cleared j) here
          ∙ own_held head f j (own ∙ sym same) ∙ fresh
          ∙ sym (rw is (ap (λ ps. or_new ps x.last) (ap was same ∙ none)))
      | inr other ↦
          let apart : (head.message == j) ≡ false = grind (arith, nat_tests, other, own) in
          elim (bool_cases (j % 4 == k)) [
            | inl here ↦
                let there : (j % 4 == x.message % 4) ≡ true = ap (λ n. j % 4 == n) (sym quarter) ∙ here in
                now_is j ∙ ap (λ (b : Bool). if b then held_in (Some head) f j else cleared j) here
                ∙ not_held (Some head) f j apart ∙ sym (rw (other, there) refl)
            | inr beside ↦
                let there : (j % 4 == x.message % 4) ≡ false = ap (λ n. j % 4 == n) (sym quarter) ∙ beside in
                now_is j ∙ ap (λ (b : Bool). if b then held_in (Some head) f j else cleared j) beside
                ∙ cleared_is j ∙ ap (λ (b : Bool). if b then [] else was j) beside
                ∙ sym (rw (other, there) refl)
          ]
    ]

-- the head of a message that has begun
pub head_is : (a : Heads) (k j : ℕ) (head : Head) → k ≡ j % 4 → is_of j (get_or a.heads (j % 4) None) ≡ true
    → get_or a.heads k None ≡ Some head → head.message ≡ j
head_is a k j head quarter begun at =
    let own : (head.message == j) ≡ true =
    sym (ap (is_of j) (ap (λ n. get_or a.heads n None) (sym quarter) ∙ at)) ∙ begun in
    grind (arith, nat_tests, own)

-- its places
pub held_at : (a : Heads) (pool : PoolView) (k j : ℕ) (head : Head) → k ≡ j % 4 → get_or a.heads k None ≡ Some head
    → held a pool j ≡ held_in (Some head) (quarter_of (blocks_of pool a.owner) k) j
held_at a pool k j head quarter at =
    ap (λ n. held_in (get_or a.heads n None) (quarter_of (blocks_of pool a.owner) n) j) (sym quarter)
    ∙ ap (λ (o : Option Head). held_in o (quarter_of (blocks_of pool a.owner) k) j) at

pub places_at : (a : Heads) (pool : PoolView) (k j : ℕ) (head : Head) → k ≡ j % 4 → get_or a.heads k None ≡ Some head
    → head.message ≡ j → held a pool j ≡ places_in head (quarter_of (blocks_of pool a.owner) k)
places_at a pool k j head quarter at own =
    held_at a pool k j head quarter at ∙ own_held head (quarter_of (blocks_of pool a.owner) k) j own

pub fits_at : (a : Heads) (pool : PoolView) (k : ℕ) (head : Head) → Keeps a pool → k < 4
    → get_or a.heads k None ≡ Some head → Fits k head (quarter_of (blocks_of pool a.owner) k)
fits_at a pool k head keeps small at =
    subst (λ (o : Option Head). FitsIn k o (quarter_of (blocks_of pool a.owner) k)) at (keeps.fit k small)

-- ---- a piece that is put

pub putting : (a : Heads) (pool after : PoolView) (k place : ℕ) (head now : Head) (x : PieceView) (block : List ℕ)
    → Keeps a pool → k < 4 → IsPiece x → head.last ≡ x.last → place ≡ 64 * k + x.piece → block ≡ x.payload
    → is_some (get_or (blocks_of pool a.owner) place None) ≡ false
    → blocks_of after a.owner ≡ set (blocks_of pool a.owner) place (Some block)
    → now.message ≡ head.message → now.last ≡ head.last
    → now.tail ≡ (if x.piece == head.last then x.used else head.tail) → now.missing ≡ head.missing - 1
    → Putting head now (quarter_of (blocks_of pool a.owner) k) (quarter_of (blocks_of after a.owner) k) x
putting a pool after k place head now x block keeps small ok ending at payload free written message last tail missing =
    let blocks = blocks_of pool a.owner in
    let long : length blocks ≡ 256 = length_blocks pool a.owner ∙ keeps.places in
    let put : blocks_of after a.owner ≡ set blocks (64 * k + x.piece) (Some x.payload) =
    written ∙ ap (λ n. set blocks n (Some block)) at
    ∙ ap (λ (b : List ℕ). set blocks (64 * k + x.piece) (Some b)) payload in
    record {
      is_piece = ok;
      ending = ending;
      free = ap (λ n. is_some (get_or blocks n None)) (sym at) ∙ free;
      message = message;
      same_last = last;
      last_size = tail;
      fewer = missing;
      here = ap (λ bs. get_or bs (64 * k + x.piece) None) put
          ∙ get_or-set_same blocks (64 * k + x.piece) (Some x.payload) None
          (omega (arith, long, small, ok.within, ok.last));
      others = λ i ne lt. ap (λ bs. get_or bs (64 * k + i) None) put
          ∙ get_or-set_other blocks (64 * k + x.piece) (64 * k + i) (Some x.payload) None
          (λ same. ne (omega (arith, same)));
    }

pub changes_put : (a : Heads) (pool after : PoolView) (k place : ℕ) (head now : Head) (x : PieceView) (block : List ℕ)
    → Keeps a pool → k < 4 → get_or a.heads k None ≡ Some head
    → Putting head now (quarter_of (blocks_of pool a.owner) k) (quarter_of (blocks_of after a.owner) k) x
    → place ≡ 64 * k + x.piece → blocks_of after a.owner ≡ set (blocks_of pool a.owner) place (Some block)
    → after.quotas ≡ pool.quotas → Changes a pool after k (Some now)
changes_put a pool after k place head now x block keeps small at p is written quotas =
    let blocks = blocks_of pool a.owner in
    let put : blocks_of after a.owner ≡ set blocks (64 * k + x.piece) (Some block) =
    written ∙ ap (λ n. set blocks n (Some block)) is in
    record {
      keeps = keeps;
      small = small;
      long = ap length put ∙ length-set blocks (64 * k + x.piece) (Some block) ∙ length_blocks pool a.owner
          ∙ keeps.places;
      quotas = quotas;
      same = λ (other i : ℕ) ne lt. ap (λ bs. quarter_of bs other i) put
          ∙ quarter_set blocks k x.piece other i (Some block)
          (omega (arith, p.is_piece.within, p.is_piece.last)) lt ne;
      fits = put_fits k head now (quarter_of blocks k) (quarter_of (blocks_of after a.owner) k) x p
          (fits_at a pool k head keeps small at);
    }

pub put_is : (was now : ℕ → List (Option (List ℕ))) (x : PieceView) (k : ℕ) (head after : Head)
    (f g : ℕ → Option (List ℕ)) → k ≡ x.message % 4 → head.message ≡ x.message → Putting head after f g x
    → ((j : ℕ) → k ≡ j % 4 → was j ≡ held_in (Some head) f j)
    → ((j : ℕ) → now j ≡ (if j % 4 == k then held_in (Some after) g j else was j))
    → (j : ℕ) → now j ≡ put_piece was x j
put_is was now x k head after f g quarter own p was_is now_is j =
    elim (bool_cases (j == x.message)) [
      | inl is ↦
          let same : j ≡ x.message = grind (arith, nat_tests, is) in
          let at : k ≡ j % 4 = quarter ∙ sym (ap (λ n. n % 4) same) in
          let here : (j % 4 == k) ≡ true = grind (arith, nat_tests, at) in
          let before : was j ≡ places_in head f = was_is j at ∙ own_held head f j (own ∙ sym same) in
          let room = has_room head after f g x p in
          now_is j ∙ ap (λ (b : Bool). if b then held_in (Some after) g j else was j) here
          ∙ own_held after g j (p.message ∙ own ∙ sym same) ∙ places_put head after f g x p
          ∙ sym (rw is (ap (λ ps. put_in ps x) before ∙ rw room refl))
      | inr other ↦
          let apart : (head.message == j) ≡ false = grind (arith, nat_tests, other, own) in
          let apart' : (after.message == j) ≡ false = ap (λ n. n == j) p.message ∙ apart in
          elim (bool_cases (j % 4 == k)) [
            | inl here ↦
                let at : k ≡ j % 4 = grind (arith, nat_tests, here) in
                now_is j ∙ ap (λ (b : Bool). if b then held_in (Some after) g j else was j) here
                ∙ not_held (Some after) g j apart' ∙ sym (rw other (was_is j at ∙ not_held (Some head) f j apart))
            | inr beside ↦
                now_is j ∙ ap (λ (b : Bool). if b then held_in (Some after) g j else was j) beside
                ∙ sym (rw other refl)
          ]
    ]

-- a piece that has no room changes nothing
pub put_none : (was : ℕ → List (Option (List ℕ))) (x : PieceView) → has_room_for (was x.message) x ≡ false
    → (j : ℕ) → was j ≡ put_piece was x j
put_none was x none j =
    elim (bool_cases (j == x.message)) [
      | inl is ↦
          let same : j ≡ x.message = grind (arith, nat_tests, is) in
          let full : has_room_for (was j) x ≡ false = ap (λ n. has_room_for (was n) x) same ∙ none in
          rw (is, full) refl
      | inr other ↦ rw other refl
    ]

-- it has another last place, or its place is held
pub other_last : (head : Head) (f : ℕ → Option (List ℕ)) (x : PieceView) → head.last ≢ x.last
    → has_room_for (places_in head f) x ≡ false
other_last head f x ne =
    let n = length_places head f in
    let other : (x.last + 1 == length (places_in head f)) ≡ false = grind (arith, nat_tests, n, ne) in
    rw other refl

pub place_taken : (head : Head) (f : ℕ → Option (List ℕ)) (x : PieceView) → IsPiece x → head.last ≡ x.last
    → is_some (f x.piece) ≡ true → has_room_for (places_in head f) x ≡ false
place_taken head f x ok ending taken =
    let place : is_some (get_or (places_in head f) x.piece None) ≡ true =
    ap is_some (get_place head f x.piece (omega (arith, ok.within, ending)))
    ∙ some_cut (size_at head x.piece) (f x.piece) ∙ taken in
    rw place (and_not (x.last + 1 == length (places_in head f)))
  where
    and_not : (b : Bool) → (b && not true) ≡ false
    and_not true = refl
    and_not false = refl

-- ---- a message that is whole

-- no place is empty where none is counted
pub full_count : (k : ℕ) (head : Head) (f : ℕ → Option (List ℕ)) → Fits k head f
    → is_full (places_in head f) ≡ (head.missing == 0)
full_count k head f fit =
    let n = length_places head f in
    full_some (places_in head f) (omega (arith, n)) ∙ sym (none_empty (places_in head f))
    ∙ ap (λ m. m == 0) (sym fit.missing)

pub are_blocks : (k : ℕ) (head : Head) (f : ℕ → Option (List ℕ)) → Fits k head f → is_full (places_in head f) ≡ true
    → AreBlocks f 0 head.last
are_blocks k head f fit full i lo hi =
    let n = length_places head f in
    let all : list_all (λ j. is_some (place_in head f j)) (range_with_len 0 (head.last + 1)) ≡ true =
    sym (list_all-map is_some (place_in head f) (range_with_len 0 (head.last + 1)))
    ∙ sym (full_some (places_in head f) (omega (arith, n))) ∙ full in (
      elim (bool_cases (is_some (f i))) [
        | inl some ↦ some
        | inr none ↦
            let fails = all_fails (λ j. is_some (place_in head f j)) 0 (head.last + 1) i lo (omega (arith, hi))
            (some_cut (size_at head i) (f i) ∙ none) in
            cc
      ],
      fit.wide i hi,
    )

pub joined_bytes : (head : Head) (f : ℕ → Option (List ℕ))
    → joined (places_in head f) ≡ flat_map (bytes_in f head.last head.tail) (range_with_len 0 (head.last + 1))
joined_bytes head f =
    flat_map-map (λ (bytes : Option (List ℕ)). unwrap_or bytes []) (place_in head f) (range_with_len 0 (head.last + 1))

pub length_joined : (k : ℕ) (head : Head) (f : ℕ → Option (List ℕ)) → Fits k head f
    → is_full (places_in head f) ≡ true → length (joined (places_in head f)) ≡ 88 * head.last + head.tail
length_joined k head f fit full =
    ap length (joined_bytes head f)
    ∙ length_cut f head.last head.tail 0 head.last (omega arith) fit.tail (are_blocks k head f fit full)

-- the length of a message that is whole
pub full_is : (k : ℕ) (head : Head) (f : ℕ → Option (List ℕ)) → Fits k head f → head.missing ≡ 0
    → Some (88 * head.last + head.tail) ≡ full_length (places_in head f)
full_is k head f fit none =
    let full : is_full (places_in head f) ≡ true = full_count k head f fit ∙ grind (arith, nat_tests, none) in
    rw full (ap Some (sym (length_joined k head f fit full)))

pub not_full : (k : ℕ) (head : Head) (f : ℕ → Option (List ℕ)) → Fits k head f → head.missing ≢ 0
    → None ≡ full_length (places_in head f)
not_full k head f fit some =
    let part : is_full (places_in head f) ≡ false = full_count k head f fit ∙ grind (arith, nat_tests, some) in
    rw part refl

-- a message of which all is held has a head
pub head_of_full : (a : Heads) (pool : PoolView) (j : ℕ) → is_full (held a pool j) ≡ true
    → (head : Head) × (get_or a.heads (j % 4) None ≡ Some head) × (head.message ≡ j)
head_of_full a pool j = by_head (get_or a.heads (j % 4) None) refl where
  by_head : (o : Option Head) → get_or a.heads (j % 4) None ≡ o
      → is_full (held_in o (quarter_of (blocks_of pool a.owner) (j % 4)) j) ≡ true
      → (head : Head) × (get_or a.heads (j % 4) None ≡ Some head) × (head.message ≡ j)
  by_head None is full = cc
  by_head (Some head) is full =
      elim (bool_cases (head.message == j)) [
        | inl own ↦ (head, is, grind (arith, nat_tests, own))
        | inr other ↦
            (let none = sym (ap is_full
            (not_held (Some head) (quarter_of (blocks_of pool a.owner) (j % 4)) j other)) ∙ full in cc)
      ]

short_by : (places : List (Option (List ℕ))) (b : Bool) → is_full places ≡ b
    → (b ≡ true → length (joined places) ≤ 5632) → IsShort (answer_of places)
short_by places true full short =
    subst IsShort (sym (ap
    (λ (b : Bool). answer_with (if b then Some (length (joined places)) else None)) full)) (short refl)
short_by places false part short =
    subst IsShort (sym (ap (λ (b : Bool). answer_with (if b then Some (length (joined places)) else None)) part)) tt

-- no message is longer than its places
pub short_answer : (a : Heads) (pool : PoolView) (j : ℕ) → Keeps a pool → IsShort (answer_of (held a pool j))
short_answer a pool j keeps =
    short_by (held a pool j) (is_full (held a pool j)) refl (λ full.
    let h = head_of_full a pool j full in
    let places = places_at a pool (j % 4) j h.0 refl h.1 h.2 in
    let fit = fits_at a pool (j % 4) h.0 keeps (mod_below j 4 (omega arith)) h.1 in
    let long = length_joined (j % 4) h.0 (quarter_of (blocks_of pool a.owner) (j % 4)) fit
    (sym (ap is_full places) ∙ full) in
    omega (arith, ap (λ ps. length (joined ps)) places, long, fit.last, fit.tail))

-- the bytes that are handed out
pub record IsWhole (a : Heads) (pool : PoolView) (j k n : ℕ) : Type 0 where
  pub keeps : Keeps a pool
  pub full : is_full (held a pool j) ≡ true
  pub long : n ≡ length (joined (held a pool j))
  pub quarter : k ≡ j % 4
  pub small : k < 4

pub holds_all : (a : Heads) (pool : PoolView) (j k n : ℕ) (chain : List (Option ℕ)) → IsWhole a pool j k n
    → chain ≡ chain_of pool a.owner
    → (i : ℕ) → 88 * i < n → is_some (get_or (denoted pool chain) (64 * k + i) None) ≡ true
holds_all a pool j k n chain w own i lt =
    let f = quarter_of (blocks_of pool a.owner) k in
    let h = head_of_full a pool j w.full in
    let at : get_or a.heads k None ≡ Some h.0 = ap (λ m. get_or a.heads m None) w.quarter ∙ h.1 in
    let places = places_at a pool k j h.0 w.quarter at h.2 in
    let fit = fits_at a pool k h.0 w.keeps w.small at in
    let full : is_full (places_in h.0 f) ≡ true = sym (ap is_full places) ∙ w.full in
    let long : n ≡ 88 * h.0.last + h.0.tail =
    w.long ∙ ap (λ ps. length (joined ps)) places ∙ length_joined k h.0 f fit full in
    ap (λ (c : List (Option ℕ)). is_some (get_or (denoted pool c) (64 * k + i) None)) own
    ∙ (are_blocks k h.0 f fit full i (omega arith) (within i h.0.last h.0.tail lt long fit.tail)).0
  where
    within : (i last tail : ℕ) → 88 * i < n → n ≡ 88 * last + tail → tail ≤ 88 → i ≤ last
    within i last tail lt long short = omega (arith, lt, long, short)

pub out_is : (a : Heads) (pool : PoolView) (j k n : ℕ) (chain : List (Option ℕ)) → IsWhole a pool j k n
    → chain ≡ chain_of pool a.owner → take n (joined (drop (64 * k) (denoted pool chain))) ≡ joined (held a pool j)
out_is a pool j k n chain w own =
    let blocks = blocks_of pool a.owner in
    let f = quarter_of blocks k in
    let h = head_of_full a pool j w.full in
    let at : get_or a.heads k None ≡ Some h.0 = ap (λ m. get_or a.heads m None) w.quarter ∙ h.1 in
    let places = places_at a pool k j h.0 w.quarter at h.2 in
    let fit = fits_at a pool k h.0 w.keeps w.small at in
    let full : is_full (places_in h.0 f) ≡ true = sym (ap is_full places) ∙ w.full in
    let long : n ≡ 88 * h.0.last + h.0.tail =
    w.long ∙ ap (λ ps. length (joined ps)) places ∙ length_joined k h.0 f fit full in
    let rows = length_blocks pool a.owner ∙ w.keeps.places in
    let e : 64 * k + 0 ≡ 64 * k = omega arith in
    ap (λ (c : List (Option ℕ)). take n (joined (drop (64 * k) (denoted pool c)))) own
    ∙ ap (λ m. take m (joined (drop (64 * k) blocks))) long
    ∙ ap (λ m. take (88 * h.0.last + h.0.tail) (joined (drop m blocks))) (sym e)
    ∙ sym (joined_cut blocks k h.0.last h.0.tail 0 h.0.last (omega arith) fit.tail
    (omega (arith, rows, w.small, fit.last)) (are_blocks k h.0 f fit full))
    ∙ sym (joined_bytes h.0 f)
    ∙ sym (ap joined places)

-- of the other messages in its quarter nothing is held
pub out_held : (a : Heads) (pool : PoolView) (m k : ℕ) → k ≡ m % 4 → is_full (held a pool m) ≡ true → (j : ℕ)
    → (if j % 4 == k then [] else held a pool j) ≡ (if j == m then [] else held a pool j)
out_held a pool m k quarter full j =
    let h = head_of_full a pool m full in
    let at : get_or a.heads k None ≡ Some h.0 = ap (λ n. get_or a.heads n None) quarter ∙ h.1 in
    let own = h.2 in
    elim (bool_cases (j == m)) [
      | inl is ↦
          let same : j ≡ m = grind (arith, nat_tests, is) in
          let here : (j % 4 == k) ≡ true = grind (arith, nat_tests, ap (λ n. n % 4) same, quarter) in
          rw (is, here) refl
      | inr other ↦
          elim (bool_cases (j % 4 == k)) [
            | inl here ↦
                let same : k ≡ j % 4 = grind (arith, nat_tests, here) in
                let apart : (h.0.message == j) ≡ false = grind (arith, nat_tests, other, own) in
                rw (other, here) (sym (held_at a pool k j h.0 same at
                ∙ not_held (Some h.0) (quarter_of (blocks_of pool a.owner) k) j apart))
            | inr beside ↦ rw (other, beside) refl
          ]
    ]
