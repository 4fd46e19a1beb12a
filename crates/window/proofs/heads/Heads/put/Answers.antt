use Rattle.std.proofs.Common.{◌≡◌, ◌+◌, ◌-◌, ◌*◌, None, Some, false, is_some, get_or, sym, ◌∙◌, ap, arith, refl}
use Rattle.std.specs.Prelude.{◌%◌}
use Rattle.frame_pool.specs.Pools.{blocks_of}
use Rattle.window.specs.inside.Places.{has_room_for}
use Rattle.window.specs.inside.Quarters.{held, quarter_of}
use Rattle.window.specs.declared.heads.Head.{Head}
use Rattle.window.proofs.Quarters.{Putting, missing_put}
use Rattle.window.proofs.Changes.{Changes, putting, changes_put, kept_after, held_after, held_at, places_at, head_is, fits_at, put_is, put_none, other_last, place_taken}
use Rattle.window.proofs.heads.Heads.put.Goals as goal
use Rattle.window.proofs.heads.Heads.put.Goals.{else-head-last-via-then-head-last+else-not-held, else-head-last-via-else-head-last}

pub put-requires-clause-free : goal.put-requires-clause-free
put-requires-clause-free c =
    c.an_empty_place_finds_a_slot.ensures c.args.pool.now c.args.self.now.owner
    (64 * c.quarter_of-quarter.result + c.piece.result) c.requires.keeps.quota c.requires.keeps.places
    (omega (
      arith,
      c.quarter_of-quarter.ensures.small,
      c.piece.ensures.piece,
      c.piece.ensures.kept.within,
      c.piece.ensures.kept.last,
    ))
    (sym c.held.ensures ∙ c.if-not-held.true)

-- the head that is written
abbrev after : goal.After-from-then-not-held → Head
after c = record {
  message = c.in-Some.head.message;
  last = c.in-Some.head.last;
  tail = c.tail_after.result;
  missing = c.in-Some.head.missing - 1;
}

quarter_is : (c : goal.After-from-then-not-held) → c.quarter_of-quarter.result ≡ c.args.piece.now.message % 4
quarter_is c = c.quarter_of-quarter.ensures.quarter ∙ ap (λ n. n % 4) c.message.ensures.message

place_is : (c : goal.After-from-then-not-held)
    → 64 * c.quarter_of-quarter.result + c.piece.result ≡ 64 * c.quarter_of-quarter.result + c.args.piece.now.piece
place_is c = ap (λ n. 64 * c.quarter_of-quarter.result + n) c.piece.ensures.piece

at : (c : goal.After-from-then-not-held)
    → get_or c.args.self.now.heads c.quarter_of-quarter.result None ≡ Some c.in-Some.head
at c = ap (λ n. get_or c.args.self.now.heads n None) (sym c.from.ensures) ∙ c.in-Some.is

put_here : (c : goal.After-from-then-not-held)
    → Putting c.in-Some.head (after c)
    (quarter_of (blocks_of c.args.pool.now c.args.self.now.owner) c.quarter_of-quarter.result)
    (quarter_of (blocks_of c.put.new.self c.args.self.now.owner) c.quarter_of-quarter.result) c.args.piece.now
put_here c =
    putting c.args.self.now c.args.pool.now c.put.new.self c.quarter_of-quarter.result
    (64 * c.quarter_of-quarter.result + c.piece.result) c.in-Some.head (after c) c.args.piece.now c.payload.result.now
    c.requires.keeps c.quarter_of-quarter.ensures.small c.piece.ensures.kept
    (c.if-head-last.true ∙ c.last.ensures.last) (place_is c) c.payload.ensures.payload
    (sym c.held.ensures ∙ c.if-not-held.true) c.put.ensures.block refl refl c.tail_after.ensures refl

changed : (c : goal.After-from-then-not-held)
    → Changes c.args.self.now c.args.pool.now c.put.new.self c.quarter_of-quarter.result (Some (after c))
changed c =
    changes_put c.args.self.now c.args.pool.now c.put.new.self c.quarter_of-quarter.result
    (64 * c.quarter_of-quarter.result + c.piece.result) c.in-Some.head (after c) c.args.piece.now c.payload.result.now
    c.requires.keeps c.quarter_of-quarter.ensures.small (at c) (put_here c) (place_is c) c.put.ensures.block
    c.put.ensures.quotas

pub overflow_sub-self : goal.overflow_sub-self
overflow_sub-self c =
    let a = c.args.self.now in
    let k = c.quarter_of-quarter.result in
    let head = c.in-Some.head in
    let now : Head = record
    { message = head.message; last = head.last; tail = c.tail_after.result; missing = head.missing - 1 } in
    let there = ap (λ n. get_or a.heads n None) (sym c.from.ensures) ∙ c.in-Some.is in
    let p = putting a c.args.pool.now c.put.new.self k
    (64 * k + c.piece.result) head now c.args.piece.now c.payload.result.now
    c.requires.keeps c.quarter_of-quarter.ensures.small c.piece.ensures.kept
    (c.if-head-last.true ∙ c.last.ensures.last) (ap (λ n. 64 * k + n) c.piece.ensures.piece) c.payload.ensures.payload
    (sym c.held.ensures ∙ c.if-not-held.true) c.put.ensures.block refl refl c.tail_after.ensures refl in
    let less = missing_put k head now (quarter_of (blocks_of c.args.pool.now a.owner) k)
    (quarter_of (blocks_of c.put.new.self a.owner) k) c.args.piece.now p
    (fits_at a c.args.pool.now k head c.requires.keeps c.quarter_of-quarter.ensures.small there) in
    omega (arith, less)

pub returns-then-not-held-clause-keeps : goal.returns-then-not-held-clause-keeps
returns-then-not-held-clause-keeps c =
    kept_after c.args.self.now c.args.pool.now c.put.new.self c.quarter_of-quarter.result c.from-then-not-held.result
    (Some (after c)) c.from-then-not-held.ensures (changed c)

pub returns-then-not-held-clause-held : goal.returns-then-not-held-clause-held
returns-then-not-held-clause-held c =
    let a = c.args.self.now in
    let k = c.quarter_of-quarter.result in
    let own = head_is a k c.args.piece.now.message c.in-Some.head (quarter_is c) c.requires.begun (at c) in
    put_is (held a c.args.pool.now) _ c.args.piece.now k c.in-Some.head (after c)
    (quarter_of (blocks_of c.args.pool.now a.owner) k) (quarter_of (blocks_of c.put.new.self a.owner) k) (quarter_is c)
    own (put_here c) (λ j is. held_at a c.args.pool.now k j c.in-Some.head is (at c))
    (held_after a c.args.pool.now c.put.new.self k c.from-then-not-held.result (Some (after c))
    c.from-then-not-held.ensures (changed c))

pub returns-else-head-last-clause-held : goal.returns-else-head-last-clause-held
returns-else-head-last-clause-held c =
    let a = c.args.self.now in
    let pool = c.args.pool.now in
    let x = c.args.piece.now in
    let k = c.quarter_of-quarter.result in
    let head = c.in-Some.head in
    let quarter : k ≡ x.message % 4 =
    c.quarter_of-quarter.ensures.quarter ∙ ap (λ n. n % 4) c.message.ensures.message in
    let there : get_or a.heads k None ≡ Some head =
    ap (λ n. get_or a.heads n None) (sym c.from.ensures) ∙ c.in-Some.is in
    let own = head_is a k x.message head quarter c.requires.begun there in
    let places = places_at a pool k x.message head quarter there own in
    let f = quarter_of (blocks_of pool a.owner) k in
    let none : has_room_for (held a pool x.message) x ≡ false =
    ap (λ ps. has_room_for ps x) places
    ∙ elim c.else-head-last.branch [
      | else-head-last-via-then-head-last+else-not-held w ↦
          place_taken head f x c.piece.ensures.kept (w.if-head-last.true ∙ c.last.ensures.last)
          (ap (λ n. is_some (get_or (blocks_of pool a.owner) (64 * k + n) None)) (sym c.piece.ensures.piece)
          ∙ sym w.held.ensures ∙ w.if-not-held.false)
      | else-head-last-via-else-head-last w ↦
          other_last head f x (λ same. w.if-head-last.false (same ∙ sym c.last.ensures.last))
    ] in
    put_none (held a pool) x none
