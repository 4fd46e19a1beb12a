-- A desk hears pieces of one message.
use Rattle.std.proofs.Common.{◌≡◌, ◌≢◌, ℕ, ◌+◌, ◌<◌, List, [], ◌∷◌, ◌++◌, ◌&&◌, ◌||◌, length, map, Bool, true, false, Some, refl, sym, ◌∙◌, ap, ap₂, subst, append-nil, append_assoc, length-append, arith}
use Rattle.std.specs.Prelude.{slice_get, ◌==◌, not, nat_lt, if◌then◌else◌}
use Rattle.std.specs.List.{list_any, list_all, range_with_len, AllByRecursion}
use Rattle.std.proofs.lemmas.Bool.Decides.{nat_tests}
use Rattle.levels.specs.declared.level.Party.{Party}
use Rattle.frame.specs.Pieces.{PieceView, pieces, piece_of}
use Rattle.frame.specs.Ahead.{messages_ahead}
use Rattle.window.specs.ListRule.{completes, body}
use Rattle.net_side.specs.declared.inbound.Inbound.TheVariants.{Ours}
use Rattle.unit_core.specs.Hearing.{with_piece}
use Rattle.machine.specs.declared.line.OutLine.{OutLine}
use Rattle.machine.specs.declared.line.OutLine.TheVariants.{From}
use Rattle.machine.specs.Given.{has_piece, has_all, has_later}
use Rattle.desk.specs.Deeds.{DeskState, party_at, lines_of_piece, heard, does, hearings}
use Rattle.engine.specs.Genuine.{IsPieceOf, HaveArrived, AreGenuine}
use Rattle.engine.proofs.Cases.{yes, no}
use Rattle.engine.specs.inside.Facts.{PiecesHold, EachCarries}
use Rattle.engine.proofs.Giving.{is_new, completes_when, body_if, one_more, same_arrived, number_if, one_genuine, swapped, all_alike}

-- pieces of message j, in these places
abbrev pub in_places : ℕ → List ℕ → List (ℕ × ℕ)
in_places j places = map (λ i. (j, i)) places

abbrev pub line_if : Bool → Party → List ℕ → List OutLine
line_if given s m = if given then From s m ∷ [] else []

abbrev pub one_if : Bool → ℕ
one_if given = if given then 1 else 0

-- a desk has heard pieces of message j, which is m, in these places from address a
pub record HeardSome (messages : List (List ℕ)) (a j : ℕ) (m places : List ℕ)
    (arrived : List (ℕ × ℕ)) (numbers : List ℕ) (old new : DeskState) : Type 0 where
  pub address : new.address ≡ old.address
  pub partition : new.partition ≡ old.partition
  pub frame : new.frame ≡ old.frame
  pub streams : new.streams ≡ old.streams
  pub wire : new.wire ≡ old.wire
  pub lines : new.lines ≡ old.lines
      ++ line_if (is_new m arrived (in_places j places ++ arrived) numbers j)
      (party_at old.partition a) m
  pub ours : new.ours ≡ old.ours + length places
  pub given : new.given ≡ old.given
      + one_if (is_new m arrived (in_places j places ++ arrived) numbers j)
  pub genuine : AreGenuine messages (new.heard a) (in_places j places ++ arrived)
      (numbers ++ number_if (is_new m arrived (in_places j places ++ arrived) numbers j) j)
  pub others : (b : ℕ) → b ≢ a → new.heard b ≡ old.heard b

-- ---- sets of arrivals

all_more : (P Q : ℕ → Bool) (xs : List ℕ) → ((i : ℕ) → P i ≡ true → Q i ≡ true)
    → list_all P xs ≡ true → list_all Q xs ≡ true
all_more P Q [] more all = refl
all_more P Q (x ∷ xs) more all = grind (arith, nat_tests, more x, all_more P Q xs more)

-- where a piece stands in a set makes no difference
any_moved : (f : ℕ × ℕ → Bool) (xs : List (ℕ × ℕ)) (p : ℕ × ℕ) (ys : List (ℕ × ℕ))
    → list_any f (xs ++ p ∷ ys) ≡ list_any f (p ∷ xs ++ ys)
any_moved f [] p ys = refl
any_moved f (x ∷ xs) p ys =
    ap (λ b. f x || b) (any_moved f xs p ys) ∙ swapped (f x) (f p) (list_any f (xs ++ ys))

or_right : (a b : Bool) → b ≡ true → (a || b) ≡ true
or_right true b h = refl
or_right false b h = h

still : (f : ℕ × ℕ → Bool) (xs ys : List (ℕ × ℕ)) → list_any f ys ≡ true
    → list_any f (xs ++ ys) ≡ true
still f [] ys h = h
still f (x ∷ xs) ys h = or_right (f x) (list_any f (xs ++ ys)) (still f xs ys h)

all_still : (m : List ℕ) (new before : List (ℕ × ℕ)) (j : ℕ) → has_all (Some m) before j ≡ true
    → has_all (Some m) (new ++ before) j ≡ true
all_still m new before j all =
    all_more (has_piece before j) (has_piece (new ++ before) j) (range_with_len 0 (pieces m))
    (λ i. still (λ p. p.0 == j && p.1 == i) new before) all

-- no piece of a message is later than it
later_same : (j i ahead : ℕ) (arrived : List (ℕ × ℕ))
    → has_later ((j, i) ∷ arrived) (j + ahead) ≡ has_later arrived (j + ahead)
later_same j i ahead arrived =
    let own : nat_lt (j + ahead) j ≡ false = grind (arith, nat_tests) in rw own refl

-- no message is greater than itself
none_greater : (j : ℕ) (numbers : List ℕ) (b : Bool)
    → list_any (nat_lt j) (numbers ++ number_if b j) ≡ list_any (nat_lt j) numbers
none_greater j [] true = let own : nat_lt j j ≡ false = grind (arith, nat_tests) in rw own refl
none_greater j [] false = refl
none_greater j (k ∷ numbers) b = ap (λ c. nat_lt j k || c) (none_greater j numbers b)

-- ---- lines

-- a message is new at one of two steps, or at neither
parts_join : {A : Type 0} (xs : List A) (was mid now early first : Bool)
    → (was ≡ true → mid ≡ true) → (mid ≡ true → now ≡ true)
    → (if mid && not was && early && first then xs else [])
    ++ (if now && not mid && early && first then xs else [])
    ≡ (if now && not was && early && first then xs else [])
parts_join xs true mid now early first keeps grows =
    let t = keeps refl in let u = grows t in rw (t, u) refl
parts_join xs false true now early first keeps grows =
    let u = grows refl in rw u (append-nil (if early && first then xs else []))
parts_join xs false false now early first keeps grows = refl

length_when : {A : Type 0} (b : Bool) (x : A) → length (if b then x ∷ [] else []) ≡ one_if b
length_when true x = refl
length_when false x = refl

ones_join : (was mid now early first : Bool) → (was ≡ true → mid ≡ true)
    → (mid ≡ true → now ≡ true)
    → one_if (mid && not was && early && first) + one_if (now && not mid && early && first)
    ≡ one_if (now && not was && early && first)
ones_join was mid now early first keeps grows =
    let one : List ℕ = 0 ∷ [] in
    omega (
      arith,
      ap length (parts_join one was mid now early first keeps grows),
      length-append (if mid && not was && early && first then one else [])
          (if now && not mid && early && first then one else []),
      length_when {A = ℕ} (mid && not was && early && first) 0,
      length_when {A = ℕ} (now && not mid && early && first) 0,
      length_when {A = ℕ} (now && not was && early && first) 0,
    )

not_twice : (a b c : Bool) → (a && not a && b && c) ≡ false
not_twice true b c = refl
not_twice false b c = refl

line_when : (b : Bool) (s : Party) (own m : List ℕ) → (b ≡ true → own ≡ m)
    → (if b then From s own ∷ [] else []) ≡ line_if b s m
line_when true s own m same = ap (λ (t : List ℕ). From s t ∷ []) (same refl)
line_when false s own m same = refl

-- ---- one piece, and more

of_piece : (messages : List (List ℕ)) (a to p j : ℕ) (m : List ℕ) (i : ℕ) → EachCarries
    → slice_get messages j ≡ Some m → i < pieces m → IsPieceOf messages (piece_of a to p j m i)
of_piece messages a to p j m i carries there lt = record {
  message = m;
  there = there;
  within = lt;
  last = refl;
  bytes = carries a to p j m i;
}

own_list : (h : ℕ → List PieceView) (x : PieceView) (a : ℕ) → x.from ≡ a
    → with_piece h x a ≡ x ∷ h a
own_list h x a same = rw (yes x.from a same) refl

other_list : (h : ℕ → List PieceView) (x : PieceView) (a b : ℕ) → x.from ≡ a → b ≢ a
    → with_piece h x b ≡ h b
other_list h x a b same differ =
    rw (no x.from b (λ e. differ (sym e ∙ same))) refl

piece_lines : (messages : List (List ℕ)) (partition : ℕ) (h : List PieceView)
    (arrived : List (ℕ × ℕ)) (numbers : List ℕ) (x : PieceView) (m : List ℕ) → PiecesHold
    → AreGenuine messages h arrived numbers → IsPieceOf messages x
    → slice_get messages x.message ≡ Some m
    → lines_of_piece partition h x
    ≡ line_if (is_new m arrived ((x.message, x.piece) ∷ arrived) numbers x.message)
    (party_at partition x.from) m
piece_lines messages partition h arrived numbers x m hold g p is =
    let now = (x.message, x.piece) ∷ arrived in
    let come : HaveArrived messages (x ∷ h) now = one_more messages h arrived x g.come p in
    line_when (completes h x) (party_at partition x.from) (body (x ∷ h) x.message) m
    (body_if messages h now x m hold come is)
    ∙ ap (λ b. line_if b (party_at partition x.from) m)
    (completes_when messages h arrived now numbers x m g come is)

-- the desk hears pieces, whatever frames they came in
abbrev pub heard_pieces : ℕ → ℕ → ℕ → ℕ → List ℕ → DeskState → List ℕ → DeskState
heard_pieces a to p j m st [] = st
heard_pieces a to p j m st (i ∷ places) =
    heard_pieces a to p j m (heard st (Ours (piece_of a to p j m i))) places

pub hears_pieces : (a to p j : ℕ) (m : List ℕ) (g : ℕ → List ℕ) (places : List ℕ) (st : DeskState)
    → does st (hearings (map g places) (map (λ i. Ours (piece_of a to p j m i)) places))
    ≡ heard_pieces a to p j m st places
hears_pieces a to p j m g [] st = refl
hears_pieces a to p j m g (i ∷ places) st =
    hears_pieces a to p j m g places (heard st (Ours (piece_of a to p j m i)))

pub heard_some : (messages : List (List ℕ)) (a to p j : ℕ) (m places : List ℕ)
    (arrived : List (ℕ × ℕ)) (numbers : List ℕ) (st : DeskState) → EachCarries → PiecesHold
    → slice_get messages j ≡ Some m → AllByRecursion (λ i. i < pieces m) places
    → AreGenuine messages (st.heard a) arrived numbers
    → HeardSome messages a j m places arrived numbers st (heard_pieces a to p j m st places)
heard_some messages a to p j m [] arrived numbers st carries hold there within g =
    let none : is_new m arrived arrived numbers j ≡ false = not_twice (has_all (Some m) arrived j)
    (not (has_later arrived (j + messages_ahead))) (not (list_any (nat_lt j) numbers)) in
    record {
      address = refl;
      partition = refl;
      frame = refl;
      streams = refl;
      wire = refl;
      lines = sym (ap (λ b. st.lines ++ line_if b (party_at st.partition a) m) none
          ∙ append-nil st.lines);
      ours = omega arith;
      given =
          let e : one_if (is_new m arrived arrived numbers j) ≡ 0 = ap one_if none in
          omega (arith, e);
      genuine = subst (AreGenuine messages (st.heard a) arrived)
          (sym (ap (λ b. numbers ++ number_if b j) none ∙ append-nil numbers)) g;
      others = λ b differ. refl;
    }
heard_some messages a to p j m (i ∷ places) arrived numbers st carries hold there within g =
    let x = piece_of a to p j m i in
    let piece = of_piece messages a to p j m i carries there within.0 in
    let next = heard st (Ours x) in
    let mid = (j, i) ∷ arrived in
    let given = is_new m arrived mid numbers j in
    let numbers' = numbers ++ number_if given j in
    let g' : AreGenuine messages (next.heard a) mid numbers' =
    subst (λ h. AreGenuine messages h mid numbers') (sym (own_list st.heard x a refl))
    (one_genuine messages (st.heard a) arrived numbers x m g piece there) in
    let more = heard_some messages a to p j m places mid numbers' next carries hold there within.1
    g' in
    let s = party_at st.partition a in
    let now = in_places j (i ∷ places) ++ arrived in
    let was_all = has_all (Some m) arrived j in
    let mid_all = has_all (Some m) mid j in
    let now_all = has_all (Some m) now j in
    let early = not (has_later arrived (j + messages_ahead)) in
    let first = not (list_any (nat_lt j) numbers) in
    let moved : has_all (Some m) (in_places j places ++ mid) j ≡ now_all =
    all_alike (has_piece (in_places j places ++ mid) j) (has_piece now j)
    (range_with_len 0 (pieces m))
    (λ k. any_moved (λ q. q.0 == j && q.1 == k) (in_places j places) (j, i) arrived) in
    let mid_later : has_later mid (j + messages_ahead) ≡ has_later arrived (j + messages_ahead) =
    later_same j i messages_ahead arrived in
    let mid_given : list_any (nat_lt j) numbers' ≡ list_any (nat_lt j) numbers =
    none_greater j numbers given in
    let second : is_new m mid (in_places j places ++ mid) numbers' j
    ≡ (now_all && not mid_all && early && first) =
    ap (λ b. b && not mid_all && not (has_later mid (j + messages_ahead))
    && not (list_any (nat_lt j) numbers')) moved
    ∙ ap (λ b. now_all && not mid_all && not b && not (list_any (nat_lt j) numbers')) mid_later
    ∙ ap (λ b. now_all && not mid_all && not (has_later arrived (j + messages_ahead)) && not b)
    mid_given in
    let keeps : was_all ≡ true → mid_all ≡ true = all_still m ((j, i) ∷ []) arrived j in
    let grows : mid_all ≡ true → now_all ≡ true =
    λ h. sym moved ∙ all_still m (in_places j places) mid j h in
    let own_line : lines_of_piece st.partition (st.heard a) x ≡ line_if given s m =
    piece_lines messages st.partition (st.heard a) arrived numbers x m hold g piece there in
    let all_numbers : numbers' ++ number_if (is_new m mid (in_places j places ++ mid) numbers' j) j
    ≡ numbers ++ number_if (is_new m arrived now numbers j) j =
    ap (λ b. numbers' ++ number_if b j) second
    ∙ append_assoc numbers (number_if given j)
    (number_if (now_all && not mid_all && early && first) j)
    ∙ ap (λ l. numbers ++ l)
    (parts_join (j ∷ []) was_all mid_all now_all early first keeps grows) in
    record {
      address = more.address;
      partition = more.partition;
      frame = more.frame;
      streams = more.streams;
      wire = more.wire;
      lines = more.lines
          ∙ ap₂ (λ (l : List OutLine) (b : Bool). (st.lines ++ l) ++ line_if b s m) own_line second
          ∙ append_assoc st.lines (line_if given s m)
          (line_if (now_all && not mid_all && early && first) s m)
          ∙ ap (λ l. st.lines ++ l)
          (parts_join (From s m ∷ []) was_all mid_all now_all early first keeps grows);
      ours = let e = more.ours in omega (arith, e);
      given =
          let e = more.given in
          let step : length (lines_of_piece st.partition (st.heard a) x) ≡ one_if given =
          ap length own_line ∙ length_when given (From s m) in
          let last : one_if (is_new m mid (in_places j places ++ mid) numbers' j)
          ≡ one_if (now_all && not mid_all && early && first) = ap one_if second in
          omega (arith, e, step, last, ones_join was_all mid_all now_all early first keeps grows);
      genuine = record {
        come = same_arrived messages (more_heard more) (in_places j places ++ mid) now
            more.genuine.come
            (λ k l. sym (any_moved (λ q. q.0 == k && q.1 == l) (in_places j places) (j, i) arrived))
            (λ k. sym (any_moved (λ q. nat_lt k q.0) (in_places j places) (j, i) arrived));
        given = λ k. ap (list_any (nat_lt k)) (sym all_numbers) ∙ more.genuine.given k;
      };
      others = λ b differ. more.others b differ ∙ other_list st.heard x a b refl differ;
    }
  where
    more_heard : {messages' : List (List ℕ)} {a' j' : ℕ} {m' places' : List ℕ}
        {arrived' : List (ℕ × ℕ)} {numbers' : List ℕ} {old new : DeskState}
        → HeardSome messages' a' j' m' places' arrived' numbers' old new → List PieceView
    more_heard {a' = a'} {new = new} r = new.heard a'
