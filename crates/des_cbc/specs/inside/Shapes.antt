-- The shape of the tables: which places they hold.
use Rattle.std.specs.Prelude.{ℕ, ◌*◌, ◌%◌, Bool, not, ◌==◌, ◌&&◌, List, [], ◌∷◌, length, take, drop, filter, count_by}
use Rattle.std.specs.List.{list_all, list_any, range_with_len}
use Rattle.des_cbc.specs.Tables.{initial, primitive, choice_1, choice_2}
use Rattle.des_cbc.specs.Selections.{selections}

-- a table holds each of these numbers once, and nothing else
unfoldable pub holds_each_once : List ℕ → List ℕ → Bool
holds_each_once numbers table =
    list_all (λ n. count_by (λ m. m == n) table == 1) numbers && (length table == length numbers)

-- the numbers from 1 to n
abbrev pub places : ℕ → List ℕ
places n = range_with_len 1 n

-- the initial permutation and P move each place once
unfoldable pub initial_has_shape : Bool
initial_has_shape = holds_each_once (places 64) initial

unfoldable pub primitive_has_shape : Bool
primitive_has_shape = holds_each_once (places 32) primitive

-- permuted choice 1 takes each bit of a key but the parity bits
unfoldable pub choice_1_has_shape : Bool
choice_1_has_shape = holds_each_once (filter (λ p. not (p % 8 == 0)) (places 64)) choice_1

-- permuted choice 2 leaves out eight places
unfoldable pub choice_2_has_shape : Bool
choice_2_has_shape =
    let left_out = 9 ∷ 18 ∷ 22 ∷ 25 ∷ 35 ∷ 38 ∷ 43 ∷ 54 ∷ [] in
    holds_each_once (filter (λ p. not (list_any (λ q. q == p) left_out)) (places 56)) choice_2

-- each row of a selection function holds each number of four bits
unfoldable pub selections_have_shape : Bool
selections_have_shape =
    list_all (λ table. list_all (λ row. holds_each_once (range_with_len 0 16)
    (take 16 (drop (16 * row) table))) (range_with_len 0 4)) selections
