-- What a wire keeps of each message.
use Rattle.std.proofs.Common.{◌≡◌, ℕ, ◌+◌, ◌<◌, ◌≤◌, zero, suc, List, [], ◌∷◌, ◌++◌, length, take, drop, map, replicate, Some, None, true, false, refl, sym, ◌∙◌, ap, subst, inl, inr, arith, get_or-set_same, get_or-set_other}
use Rattle.std.specs.Prelude.{slice_get, nat_lt, unwrap_or, Option}
use Rattle.std.specs.Option.{option_map}
use Rattle.std.specs.Global.{Vec}
use Rattle.std.proofs.Math.ListN.{get_or, set}
use Rattle.std.proofs.lemmas.Bool.Decides.{nat_tests}
use Rattle.std.proofs.lemmas.List.{map-set, length-set, length-map, length-replicate, get_or-map, map-append, drop-append-le, take-append-le, length-drop, drop_at, take_all}
use Rattle.std.proofs.lemmas.Option.{slice_get-get_or, slice_get-map, slice_get_past}
use Rattle.desk.specs.Wires.{no_wire, messages_to, message_frames, with_message}
use Rattle.desk.specs.declared.wire.Run.{Run}
use Rattle.desk.specs.inside.Kept.{Kept, items_of, runs_to, part_of, shown, IsKept}
use Rattle.desk.proofs.Cases.{nat_cases}

pub runs_read : (runs : List (Vec Run)) (to : ℕ) (r : Vec Run) → to < length runs → r ≡ get_or runs to r
    → get_or (map items_of runs) to [] ≡ r.items
runs_read runs to r within is = get_or-map items_of runs to r [] within ∙ ap items_of (sym is)

pub at_run : (rs : List Run) (j : ℕ) (run : Run) → true ≡ nat_lt j (length rs) → run ≡ get_or rs j run
    → slice_get rs j ≡ Some run
at_run rs j run within is =
    let lt : j < length rs = grind (arith, nat_tests, within) in
    slice_get-get_or rs j run lt ∙ ap (λ (r : Run). Some r) (sym is)

pub at_none : (rs : List Run) (j : ℕ) → false ≡ nat_lt j (length rs) → slice_get rs j ≡ None
at_none rs j past = slice_get_past rs j (grind (arith, nat_tests, past))

-- a list of runs lies within so many frames
abbrev pub AreWithin : List Run → ℕ → Type 0
AreWithin rs n = (j : ℕ) (run : Run) → slice_get rs j ≡ Some run → run.first + run.count ≤ n

pub one_more : (rs : List Run) (r : Run) (n : ℕ) → AreWithin rs n → r.first + r.count ≤ n → AreWithin (rs ++ r ∷ []) n
one_more [] r n all last zero run is = let same : r ≡ run = cc in subst (λ (x : Run). x.first + x.count ≤ n) same last
one_more [] r n all last (suc j) run is = cc
one_more (x ∷ rs) r n all last zero run is = all zero run is
one_more (x ∷ rs) r n all last (suc j) run is = one_more rs r n (λ i y e. all (suc i) y e) last j run is

pub later : (rs : List Run) (n m : ℕ) → n ≤ m → AreWithin rs n → AreWithin rs m
later rs n m le all j run is = let within = all j run is in omega (arith, within, le)

at_other : (runs : List (List Run)) (to a : ℕ) (rs : List Run) (n : ℕ) → to < length runs → AreWithin rs n
    → AreWithin (get_or runs a []) n → AreWithin (get_or (set runs to rs) a []) n
at_other runs to a rs n within new old = elim (nat_cases to a) [
  | inl same ↦ subst (λ b. AreWithin (get_or (set runs to rs) b []) n) same
      (subst (λ l. AreWithin l n) (sym (get_or-set_same runs to rs [] within)) new)
  | inr apart ↦ subst (λ l. AreWithin l n) (sym (get_or-set_other runs to a rs [] (λ e. apart (sym e)))) old
]

pub still : (k : Kept) (frames : List (List ℕ)) (to : ℕ) (rs : List Run) → IsKept k → to < 256
    → length k.frames ≤ length frames → AreWithin rs (length frames)
    → IsKept (record { frames = frames; runs = set k.runs to rs })
still k frames to rs is lt longer new = record {
  addresses = length-set k.runs to rs ∙ is.addresses;
  within = λ a. at_other k.runs to a rs (length frames) (omega (arith, is.addresses)) new
      (later (runs_to k a) (length k.frames) (length frames) longer (is.within a));
}

-- one list of runs is written
pub put : (runs : List (Vec Run)) (to : ℕ) (p : Vec Run) (rs : List Run) → p.items ≡ rs
    → map items_of (set runs to p) ≡ set (map items_of runs) to rs
put runs to p rs is = map-set items_of runs to p ∙ ap (set (map items_of runs) to) is

pub in_runs : (runs : List (Vec Run)) (to : ℕ) → length (map items_of runs) ≡ 256 → to < 256 → to < length runs
in_runs runs to all lt = omega (arith, all, lt, length-map runs items_of)

none_at : (n a : ℕ) → get_or (replicate n (let none : List Run = [] in none)) a [] ≡ []
none_at zero a = refl
none_at (suc n) zero = refl
none_at (suc n) (suc a) = none_at n a

no_run : (j : ℕ) (run : Run) (rs : List Run) → rs ≡ [] → slice_get rs j ≡ Some run → ⊥
no_run j run [] e is = cc
no_run j run (r ∷ rs) e is = cc

pub nothing_sealed : (k : Kept) → k.runs ≡ replicate 256 [] → IsKept k
nothing_sealed k is = record {
  addresses = ap length is ∙ length-replicate 256 (let none : List Run = [] in none);
  within = λ to j run at. absurd (no_run j run (runs_to k to) (ap (λ rs. get_or rs to []) is ∙ none_at 256 to) at);
}

-- ---- the messages

part_stays : (frames more : List (List ℕ)) (run : Run) → run.first + run.count ≤ length frames
    → part_of (frames ++ more) run ≡ part_of frames run
part_stays frames more run within =
    ap (take run.count) (drop-append-le run.first frames more (omega (arith, within)))
    ∙ take-append-le run.count (drop run.first frames) more (omega (arith, within, length-drop run.first frames))

parts_stay : (frames more : List (List ℕ)) (rs : List Run) → AreWithin rs (length frames)
    → map (part_of (frames ++ more)) rs ≡ map (part_of frames) rs
parts_stay frames more [] all = refl
parts_stay frames more (run ∷ rs) all =
    ap (λ part. part ∷ map (part_of (frames ++ more)) rs) (part_stays frames more run (all zero run refl))
    ∙ ap (λ parts. part_of frames run ∷ parts) (parts_stay frames more rs (λ j r is. all (suc j) r is))

all_stay : (frames more : List (List ℕ)) (runs : List (List Run))
    → ((a : ℕ) → AreWithin (get_or runs a []) (length frames))
    → map (map (part_of (frames ++ more))) runs ≡ map (map (part_of frames)) runs
all_stay frames more [] all = refl
all_stay frames more (rs ∷ runs) all =
    ap (λ parts. parts ∷ map (map (part_of (frames ++ more))) runs) (parts_stay frames more rs (all zero))
    ∙ ap (λ rest. map (part_of frames) rs ∷ rest) (all_stay frames more runs (λ a. all (suc a)))

last_part : (frames more : List (List ℕ))
    → part_of (frames ++ more) (record { first = length frames; count = length more }) ≡ more
last_part frames more = ap (take (length more)) (drop_at frames more (length frames) refl)
    ∙ take_all (length more) more (omega arith)

messages_are : (k : Kept) (to : ℕ) → IsKept k → to < 256 → map (part_of k.frames) (runs_to k to)
    ≡ messages_to (shown k) to
messages_are k to is lt = sym (get_or-map (map (part_of k.frames)) k.runs to [] [] (omega (arith, is.addresses, lt)))

-- a message joins
pub one_message : (k : Kept) (to : ℕ) (more : List (List ℕ)) → IsKept k → to < 256
    → shown (record {
      frames = k.frames ++ more;
      runs = set k.runs to (runs_to k to ++ record { first = length k.frames; count = length more } ∷ []);
    }) ≡ with_message (shown k) to more
one_message k to more is lt =
    let run : Run = record { first = length k.frames; count = length more } in
    let rs = runs_to k to in
    let part = part_of (k.frames ++ more) in
    let old : map part rs ≡ messages_to (shown k) to = parts_stay k.frames more rs (is.within to)
    ∙ messages_are k to is lt in
    let all : map part (rs ++ run ∷ []) ≡ messages_to (shown k) to ++ more ∷ [] = map-append part rs (run ∷ [])
    ∙ ap (λ parts. parts ++ part run ∷ []) old
    ∙ ap (λ last. messages_to (shown k) to ++ last ∷ []) (last_part k.frames more) in
    ap (λ messages. record { frames = k.frames ++ more; messages = messages })
    (map-set (map part) k.runs to (rs ++ run ∷ [])
    ∙ ap (λ ms. set ms to (map part (rs ++ run ∷ []))) (all_stay k.frames more k.runs is.within)
    ∙ ap (set (map (map (part_of k.frames)) k.runs) to) all)

-- a message is found where its run is
pub found : (k : Kept) (to j : ℕ) (run : Option Run) → IsKept k → to < 256 → slice_get (runs_to k to) j ≡ run
    → unwrap_or (option_map (part_of k.frames) run) [] ≡ message_frames (shown k) to j
found k to j run is lt at =
    ap (λ o. unwrap_or (option_map (part_of k.frames) o) []) (sym at)
    ∙ ap (λ o. unwrap_or o []) (sym (slice_get-map (part_of k.frames) (runs_to k to) j))
    ∙ ap (λ ms. unwrap_or (slice_get ms j) []) (messages_are k to is lt)

-- before the first message
pub none_shown : (k : Kept) → k.frames ≡ [] → k.runs ≡ replicate 256 [] → shown k ≡ no_wire
none_shown k none is =
    ap (λ rs. shown (record { frames = k.frames; runs = rs })) is
    ∙ ap (λ fs. record { frames = fs; messages = replicate 256 [] }) none
