-- What contracts see of a window, from what is kept of each address.
use Rattle.std.proofs.Common.{◌≡◌, ◌≢◌, ℕ, ◌+◌, ◌-◌, ◌*◌, ◌<◌, ◌≤◌, List, [], ◌∷◌, length, map, get_or, set, replicate, cond, ltb, true, false, Option, Some, None, is_some, refl, sym, ◌∙◌, ap, subst, ◌⊎◌, inl, inr, get_or-set_same, get_or-set_other, arith}
use Rattle.std.specs.Prelude.{◌==◌, ◌%◌, nat_lt, slice_index}
use Rattle.std.proofs.lemmas.Bool.Decides.{nat_tests}
use Rattle.std.specs.List.{list_any, position_or_len}
use Rattle.std.proofs.lemmas.Grind.{common_steps}
use Rattle.std.proofs.lemmas.Nat.{mod_below}
use Rattle.std.proofs.lemmas.List.{get_or_default, get_or_past, get_or-replicate, length-replicate}
use Rattle.std.proofs.Math.ListN.{get_or-map}
use Rattle.frame.specs.Pieces.{PieceView}
use Rattle.frame_pool.specs.PoolView.{PoolView}
use Rattle.frame_pool.specs.Pools.{chain_of, blocks_of, block_in}
use Rattle.window.specs.WindowView.{Whole, PartnerView, WindowView}
use Rattle.window.specs.Windows as windows
use Rattle.window.specs.Windows.{is_among, partner_at, is_sender, waiting_of, waiting, Left, LeftIn, StandsFor, SameElsewhere}
use Rattle.window.specs.inside.Quarters.{quarter_of, held_in, held_by, held, messages_from, FitsIn, FitIn, Keeps, Turns}
use Rattle.window.specs.inside.Standing.{whole_of, IsReady, KeepsAll, Holds, Stood, partner_of}
use Rattle.window.specs.inside.Receptions.{partner_in, KeptIn, IsAt, AreApart, IsFresh, Opened}
use Rattle.window.specs.declared.heads.Head.{Head}
use Rattle.window.specs.declared.heads.Heads.{Heads}
use Rattle.window.specs.declared.reception.Reception.{Reception}
use Rattle.window.proofs.Rule.{bool_cases}
use Rattle.window.proofs.Taking.{holds_along}
use Rattle.window.proofs.Quarters.{AreOwn, places_messages}

-- ---- one partner

own_heads : (a : Heads) (pool : PoolView) → Keeps a pool → AreOwn 0 a.heads
own_heads a pool keeps i head is = elim (side i) [
  | inl below ↦ (subst (λ (o : Option Head). FitsIn i o (quarter_of (blocks_of pool a.owner) i)) is
      (keeps.fit i below)).own
      ∙ omega arith
  | inr past ↦ (let none = sym (get_or_past a.heads i None (omega (arith, past, keeps.heads))) ∙ is in cc)
] where
  side : (i : ℕ) → (i < 4) ⊎ (4 ≤ i)
  side i = grind arith

-- the places that contracts see
seen_places : (a : Heads) (pool : PoolView) (j : ℕ) → Keeps a pool
    → windows.places_of (messages_from 0 a.heads (blocks_of pool a.owner)) j ≡ held a pool j
seen_places a pool j keeps =
    let none : nat_lt (j % 4) 0 ≡ false = grind (arith, nat_tests) in
    let same : j % 4 - 0 ≡ j % 4 = omega arith in
    places_messages a.heads (blocks_of pool a.owner) 0 j (own_heads a pool keeps)
    ∙ rw none (ap (λ (n : ℕ). held_in (get_or a.heads n None) (quarter_of (blocks_of pool a.owner) (j % 4)) j) same)

pub stood_left : (pool : PoolView) (a : Reception) (h : List PieceView) → KeepsAll a pool → Stood a pool h
    → Left h (partner_of pool a)
stood_left pool a h keeps s = record {
  newest = s.newest;
  given = s.given;
  held = λ j. seen_places a.heads pool j keeps.heads ∙ s.held j;
  waiting = s.waiting;
}

pub left_stood : (pool : PoolView) (a : Reception) (h : List PieceView) → KeepsAll a pool → Left h (partner_of pool a)
    → Stood a pool h
left_stood pool a h keeps l = record {
  newest = l.newest;
  given = l.given;
  held = λ j. sym (seen_places a.heads pool j keeps.heads) ∙ l.held j;
  waiting = l.waiting;
}

-- ---- the other partners

-- what is kept of a partner is in the pool that another one changed
keeps_beside : (old new : Heads) (pool after : PoolView) (a : Reception) → Turns old new pool after
    → a.heads.owner ≢ old.owner → KeepsAll a pool → KeepsAll a after
keeps_beside old new pool after a turns ne keeps =
    let other = turns.others a.heads.owner ne in
    let quotas = turns.quotas in
    let heads = keeps.heads in
    record {
      heads = record {
        owner = subst (λ (n : ℕ). a.heads.owner < n) (sym (ap length quotas)) heads.owner;
        quota = ap (λ (qs : List ℕ). get_or qs a.heads.owner 0) quotas ∙ heads.quota;
        places = ap length other.0 ∙ heads.places;
        heads = heads.heads;
        fit = subst (FitIn a.heads.heads) (sym other.1) heads.fit;
      };
      waiting = subst (λ (bs : List (Option (List ℕ))). IsReady (whole_of a.waiting) (held_by a.heads.heads bs))
          (sym other.1) keeps.waiting;
    }

same_beside : (old new : Heads) (pool after : PoolView) (a : Reception) → Turns old new pool after
    → a.heads.owner ≢ old.owner → partner_of after a ≡ partner_of pool a
same_beside old new pool after a turns ne =
    let other = turns.others a.heads.owner ne in
    ap (λ (bs : List (Option (List ℕ))). seen a bs) other.1
  where
    seen : Reception → List (Option (List ℕ)) → PartnerView
    seen a blocks = record {
      newest = a.newest;
      given = a.given;
      held = messages_from 0 a.heads.heads blocks;
      waiting = whole_of a.waiting;
    }

-- ---- one address of a window

-- what contracts see of these receptions and this pool
abbrev pub seen_of : List (Option Reception) → PoolView → ℕ → WindowView
seen_of xs pool capacity = record { partners = map (partner_in pool) xs; room = capacity ∷ pool.room }

-- at address a one reception is in place of another, and the pool was changed by its owner
pub record Replaces (xs : List (Option Reception)) (pool after : PoolView) (a : ℕ)
    (before now : Reception) : Type 0 where
  pub long : length xs ≡ 256
  pub small : a < 256
  pub is : IsAt xs a before
  pub turns : Turns before.heads now.heads pool after
  pub kept : (b : ℕ) → KeptIn pool (get_or xs b None)
  pub apart : AreApart xs
  pub keeps : KeepsAll now after

here : (xs : List (Option Reception)) (pool after : PoolView) (a : ℕ) (before now : Reception)
    → Replaces xs pool after a before now → get_or (set xs a (Some now)) a None ≡ Some now
here xs pool after a before now r = get_or-set_same xs a (Some now) None (omega (arith, r.long, r.small))

-- the owner of another address is another one
other_owner : (xs : List (Option Reception)) (pool after : PoolView) (a b : ℕ) (before now other : Reception)
    → Replaces xs pool after a before now → b ≢ a → IsAt xs b other → other.heads.owner ≢ before.heads.owner
other_owner xs pool after a b before now other r ne is same = ne (r.apart b a other before is r.is same)

number_cases : (n m : ℕ) → (n ≡ m) ⊎ (n ≢ m)
number_cases n m = grind arith

kept_at : (xs : List (Option Reception)) (pool after : PoolView) (a b : ℕ) (before now : Reception)
    → Replaces xs pool after a before now → b ≢ a → (o : Option Reception) → get_or xs b None ≡ o
    → KeptIn pool o → KeptIn after o
kept_at xs pool after a b before now r ne None is kept = tt
kept_at xs pool after a b before now r ne (Some other) is kept =
    keeps_beside before.heads now.heads pool after other r.turns
    (other_owner xs pool after a b before now other r ne is) kept

pub kept_after : (xs : List (Option Reception)) (pool after : PoolView) (a : ℕ) (before now : Reception)
    → Replaces xs pool after a before now → (b : ℕ) → KeptIn after (get_or (set xs a (Some now)) b None)
kept_after xs pool after a before now r b =
    elim (number_cases b a) [
      | inl same ↦
          subst (KeptIn after)
          (sym (ap (λ (n : ℕ). get_or (set xs a (Some now)) n None) same ∙ here xs pool after a before now r)) r.keeps
      | inr ne ↦
          subst (KeptIn after) (sym (get_or-set_other xs a b (Some now) None ne))
          (kept_at xs pool after a b before now r ne (get_or xs b None) refl (r.kept b))
    ]

-- each reception had its owner before
was_at : (xs : List (Option Reception)) (pool after : PoolView) (a b : ℕ) (before now other : Reception)
    → Replaces xs pool after a before now → IsAt (set xs a (Some now)) b other
    → (was : Reception) × IsAt xs b was × (was.heads.owner ≡ other.heads.owner)
was_at xs pool after a b before now other r is =
    elim (number_cases b a) [
      | inl same ↦
          let at : Some now ≡ Some other =
          sym (ap (λ (n : ℕ). get_or (set xs a (Some now)) n None) same ∙ here xs pool after a before now r) ∙ is in (
            before,
            ap (λ (n : ℕ). get_or xs n None) same ∙ r.is,
            sym r.turns.owner ∙ ap owner_in at,
          )
      | inr ne ↦ (other, sym (get_or-set_other xs a b (Some now) None ne) ∙ is, refl)
    ]
  where
    owner_in : Option Reception → ℕ
    owner_in None = 0
    owner_in (Some r) = r.heads.owner

pub apart_after : (xs : List (Option Reception)) (pool after : PoolView) (a : ℕ) (before now : Reception)
    → Replaces xs pool after a before now → AreApart (set xs a (Some now))
apart_after xs pool after a before now r b c left right at_left at_right same =
    let one = was_at xs pool after a b before now left r at_left in
    let two = was_at xs pool after a c before now right r at_right in
    r.apart b c one.0 two.0 one.1 two.1 (one.2 ∙ same ∙ sym two.2)

at_view : (xs : List (Option Reception)) (pool : PoolView) (capacity b : ℕ)
    → partner_at (seen_of xs pool capacity) b ≡ partner_in pool (get_or xs b None)
at_view xs pool capacity b = get_or-map (partner_in pool) xs b None

pub was_view : (xs : List (Option Reception)) (pool after : PoolView) (capacity a : ℕ) (before now : Reception)
    → Replaces xs pool after a before now → partner_at (seen_of xs pool capacity) a ≡ Some (partner_of pool before)
was_view xs pool after capacity a before now r = at_view xs pool capacity a ∙ ap (partner_in pool) r.is

pub now_view : (xs : List (Option Reception)) (pool after : PoolView) (capacity a : ℕ) (before now : Reception)
    → Replaces xs pool after a before now
    → partner_at (seen_of (set xs a (Some now)) after capacity) a ≡ Some (partner_of after now)
now_view xs pool after capacity a before now r =
    at_view (set xs a (Some now)) after capacity a ∙ ap (partner_in after) (here xs pool after a before now r)

same_at : (xs : List (Option Reception)) (pool after : PoolView) (a b : ℕ) (before now : Reception)
    → Replaces xs pool after a before now → b ≢ a → (o : Option Reception) → get_or xs b None ≡ o
    → partner_in after o ≡ partner_in pool o
same_at xs pool after a b before now r ne None is = refl
same_at xs pool after a b before now r ne (Some other) is =
    ap Some (same_beside before.heads now.heads pool after other r.turns
    (other_owner xs pool after a b before now other r ne is))

pub others_view : (xs : List (Option Reception)) (pool after : PoolView) (capacity a : ℕ) (before now : Reception)
    → Replaces xs pool after a before now
    → SameElsewhere (seen_of xs pool capacity) (seen_of (set xs a (Some now)) after capacity) a
others_view xs pool after capacity a before now r b ne =
    at_view (set xs a (Some now)) after capacity b
    ∙ ap (partner_in after) (get_or-set_other xs a b (Some now) None ne)
    ∙ same_at xs pool after a b before now r ne (get_or xs b None) refl
    ∙ sym (at_view xs pool capacity b)

keeps_before : (xs : List (Option Reception)) (pool after : PoolView) (a : ℕ) (before now : Reception)
    → Replaces xs pool after a before now → KeepsAll before pool
keeps_before xs pool after a before now r = subst (KeptIn pool) r.is (r.kept a)

pub stood_before : (xs : List (Option Reception)) (pool after : PoolView) (capacity a : ℕ) (before now : Reception)
    (h : List PieceView) → Replaces xs pool after a before now → StandsFor (seen_of xs pool capacity) a h
    → Stood before pool h
stood_before xs pool after capacity a before now h r stands =
    left_stood pool before h (keeps_before xs pool after a before now r)
    (subst (LeftIn h) (was_view xs pool after capacity a before now r) stands)

pub stands_after : (xs : List (Option Reception)) (pool after : PoolView) (capacity a : ℕ) (before now : Reception)
    (h : List PieceView) → Replaces xs pool after a before now → Stood now after h
    → StandsFor (seen_of (set xs a (Some now)) after capacity) a h
stands_after xs pool after capacity a before now h r stood =
    subst (LeftIn h) (sym (now_view xs pool after capacity a before now r)) (stood_left after now h r.keeps stood)

-- ---- a window that was opened

-- nothing is held in an empty chain
empty_block : (pool : PoolView) (owner p : ℕ) → chain_of pool owner ≡ replicate 256 None → p < 256
    → get_or (blocks_of pool owner) p None ≡ None
empty_block pool owner p chain lt =
    let none : Option ℕ = None in
    get_or-map (block_in pool.slots) (chain_of pool owner) p None
    ∙ ap (λ (c : List (Option ℕ)). block_in pool.slots (get_or c p None)) chain
    ∙ ap (block_in pool.slots) (get_or-replicate 256 p none None lt)

no_head : (heads : List (Option Head)) (k : ℕ) → heads ≡ replicate 4 None → k < 4 → get_or heads k None ≡ None
no_head heads k is lt =
    let none : Option Head = None in
    ap (λ (hs : List (Option Head)). get_or hs k None) is ∙ get_or-replicate 4 k none None lt

fresh_keeps : (a : Reception) (pool : PoolView) (n : ℕ) → IsFresh a → a.heads.owner < n → length pool.quotas ≡ n
    → get_or pool.quotas a.heads.owner 0 ≡ 256 → chain_of pool a.heads.owner ≡ replicate 256 None → KeepsAll a pool
fresh_keeps a pool n fresh lt owners quota chain =
    let none : Option ℕ = None in
    let no : Option Head = None in
    record {
      heads = record {
        owner = omega (arith, lt, owners);
        quota = quota;
        places = ap length chain ∙ length-replicate 256 none;
        heads = ap length fresh.heads ∙ length-replicate 4 no;
        fit = λ k small. subst (λ (o : Option Head). FitsIn k o (quarter_of (blocks_of pool a.heads.owner) k))
            (sym (no_head a.heads.heads k fresh.heads small))
            (λ (i : ℕ) le. empty_block pool a.heads.owner (64 * k + i) chain (omega (arith, small, le)));
      };
      waiting = subst (λ (w : Option Whole). IsReady w (held a.heads pool)) (sym (ap whole_of fresh.waiting)) tt;
    }

fresh_stood : (a : Reception) (pool : PoolView) → IsFresh a → Stood a pool []
fresh_stood a pool fresh =
    let s : Holds None None None (held a.heads pool) [] =
    record {
      newest = refl;
      given = refl;
      held = λ j. ap (λ (o : Option Head). held_in o (quarter_of (blocks_of pool a.heads.owner) (j % 4)) j)
          (no_head a.heads.heads (j % 4) fresh.heads (mod_below j 4 (omega arith)));
      waiting = tt;
    } in
    holds_along a.newest None a.given None (whole_of a.waiting) None (held a.heads pool) [] fresh.newest fresh.given
    (ap whole_of fresh.waiting) s

-- the receptions were opened over a new pool
pub record OpenedOver (partners : List ℕ) (xs : List (Option Reception)) (pool : PoolView) : Type 0 where
  pub long : length xs ≡ 256
  pub opened : (a : ℕ) → a < 256 → Opened partners a (get_or xs a None)
  pub owners : length pool.quotas ≡ length partners
  pub quotas : (owner : ℕ) → owner < length partners → get_or pool.quotas owner 0 ≡ 256
  pub chains : (owner : ℕ) → owner < length partners → chain_of pool owner ≡ replicate 256 None

address_cases : (a : ℕ) → (a < 256) ⊎ (256 ≤ a)
address_cases a = grind arith

kept_opened : (partners : List ℕ) (xs : List (Option Reception)) (pool : PoolView) (a : ℕ) (o : Option Reception)
    → OpenedOver partners xs pool → Opened partners a o → KeptIn pool o
kept_opened partners xs pool a None over opened = tt
kept_opened partners xs pool a (Some r) over opened =
    fresh_keeps r pool (length partners) opened.1 opened.2 over.owners (over.quotas r.heads.owner opened.2)
    (over.chains r.heads.owner opened.2)

pub opened_kept : (partners : List ℕ) (xs : List (Option Reception)) (pool : PoolView) → OpenedOver partners xs pool
    → (a : ℕ) → KeptIn pool (get_or xs a None)
opened_kept partners xs pool over a =
    elim (address_cases a) [
      | inl below ↦ kept_opened partners xs pool a (get_or xs a None) over (over.opened a below)
      | inr past ↦ subst (KeptIn pool) (sym (get_or_past xs a None (omega (arith, past, over.long)))) tt
    ]

owner_at : (partners : List ℕ) (xs : List (Option Reception)) (pool : PoolView) (a : ℕ) (r : Reception)
    → OpenedOver partners xs pool → IsAt xs a r → slice_index partners r.heads.owner ≡ a
owner_at partners xs pool a r over is =
    elim (address_cases a) [
      | inl below ↦ (subst (Opened partners a) is (over.opened a below)).3
      | inr past ↦ (let none = sym (get_or_past xs a None (omega (arith, past, over.long))) ∙ is in cc)
    ]

pub opened_apart : (partners : List ℕ) (xs : List (Option Reception)) (pool : PoolView) → OpenedOver partners xs pool
    → AreApart xs
opened_apart partners xs pool over a b left right at_left at_right same =
    sym (owner_at partners xs pool a left over at_left) ∙ ap (slice_index partners) same
    ∙ owner_at partners xs pool b right over at_right

left_none : (partners : List ℕ) (xs : List (Option Reception)) (pool : PoolView) (a : ℕ) (o : Option Reception)
    → OpenedOver partners xs pool → Opened partners a o → is_some (partner_in pool o) ≡ true
    → LeftIn [] (partner_in pool o)
left_none partners xs pool a None over opened some = cc
left_none partners xs pool a (Some r) over opened some =
    stood_left pool r [] (kept_opened partners xs pool a (Some r) over opened) (fresh_stood r pool opened.1)

pub opened_stands : (partners : List ℕ) (xs : List (Option Reception)) (pool : PoolView) (capacity : ℕ)
    → OpenedOver partners xs pool → (a : ℕ) → is_sender (seen_of xs pool capacity) a ≡ true
    → StandsFor (seen_of xs pool capacity) a []
opened_stands partners xs pool capacity over a some =
    let at = at_view xs pool capacity a in
    subst (LeftIn []) (sym at) (elim (address_cases a) [
      | inl below ↦
          left_none partners xs pool a (get_or xs a None) over (over.opened a below) (sym (ap is_some at) ∙ some)
      | inr past ↦
          (let none = ap (λ (o : Option Reception). is_some (partner_in pool o))
          (get_or_past xs a None (omega (arith, past, over.long))) in
          let has = sym (ap is_some at) ∙ some in cc)
    ])

waits_none : (partners : List ℕ) (pool : PoolView) (a : ℕ) (o : Option Reception) → Opened partners a o
    → waiting_of (partner_in pool o) ≡ None
waits_none partners pool a None opened = refl
waits_none partners pool a (Some r) opened = ap whole_of opened.1.waiting

pub opened_waits : (partners : List ℕ) (xs : List (Option Reception)) (pool : PoolView) (capacity : ℕ)
    → OpenedOver partners xs pool → (a : ℕ) → waiting (seen_of xs pool capacity) a ≡ None
opened_waits partners xs pool capacity over a =
    ap waiting_of (at_view xs pool capacity a) ∙ elim (address_cases a) [
      | inl below ↦ waits_none partners pool a (get_or xs a None) (over.opened a below)
      | inr past ↦ ap (λ (o : Option Reception). waiting_of (partner_in pool o))
          (get_or_past xs a None (omega (arith, past, over.long)))
    ]

opened_sender : (partners : List ℕ) (pool : PoolView) (a : ℕ) (o : Option Reception) → Opened partners a o
    → is_some (partner_in pool o) ≡ is_among partners a
opened_sender partners pool a None opened = sym opened
opened_sender partners pool a (Some r) opened = sym opened.0

pub opened_senders : (partners : List ℕ) (xs : List (Option Reception)) (pool : PoolView) (capacity : ℕ)
    → OpenedOver partners xs pool → (a : ℕ) → a < 256 → is_sender (seen_of xs pool capacity) a ≡ is_among partners a
opened_senders partners xs pool capacity over a below =
    ap is_some (at_view xs pool capacity a) ∙ opened_sender partners pool a (get_or xs a None) (over.opened a below)

-- ---- the place of a partner

-- where no place is found there is none
pub none_among : (partners : List ℕ) (a : ℕ)
    → cond (ltb (position_or_len (λ p. p == a) partners) (length partners))
    (Some (position_or_len (λ p. p == a) partners)) None ≡ None
    → is_among partners a ≡ false
none_among partners a none =
    elim (bool_cases (is_among partners a)) [
      | inl among ↦ (let lt = found partners a among in
          let some : ltb (position_or_len (λ p. p == a) partners) (length partners) ≡ true = grind
          (arith, nat_tests, lt) in
          let both = sym (ap (λ b. cond b (Some (position_or_len (λ p. p == a) partners)) None) some) ∙ none in cc)
      | inr not_among ↦ not_among
    ]
  where
    found : (xs : List ℕ) (a : ℕ) → list_any (λ p. p == a) xs ≡ true → position_or_len (λ p. p == a) xs < length xs
    found [] a among = cc
    found (x ∷ xs) a among = grind (arith, nat_tests, common_steps, among, found xs a)

-- the reception at an address
pub reception_at : (xs : List (Option Reception)) (a i : ℕ) (d : Option Reception) (r : Reception) → i ≡ a
    → a < length xs
    → get_or xs i d ≡ Some r → get_or xs a None ≡ Some r
reception_at xs a i d r same lt is =
    get_or_default xs a None d lt ∙ ap (λ (n : ℕ). get_or xs n d) (sym same) ∙ is
