-- What the lines of a host add up to.
use Rattle.std.proofs.Common.{◌≡◌, cond, ℕ, ◌+◌, ◌*◌, ◌^◌, ◌<◌, ◌≤◌, List, [], ◌∷◌, ◌++◌, length, length-append, take, get_or, refl, sym, ◌∙◌, ap, arith}
use Rattle.std.specs.Prelude.{map, sum}
use Rattle.std.specs.List.{count_by}
use Rattle.std.proofs.lemmas.List.{take_more}
use Rattle.std.proofs.lemmas.List.Sums.{sum_by-append, sum-map, count_by-le-length}
use Rattle.std.proofs.lemmas.List.Elements.{filter_map-append}
use Rattle.machine.specs.declared.line.OutLine.{OutLine}
use Rattle.machine.specs.declared.line.OutLine.TheVariants.{Sent, Refused, From}
use Rattle.replay.specs.Summary.{is_sent, body_in, bodies}

-- what some lines add up to; each gives fewer than 2 ^ 64 bytes
pub record Counted (lines : List OutLine) (count sent given bytes : ℕ) : Type 0 where
  pub sent_is : sent ≡ count_by is_sent lines
  pub given_is : given ≡ length (bodies lines)
  pub bytes_is : bytes ≡ sum (map length (bodies lines))
  pub sent_most : sent ≤ count
  pub given_most : given ≤ count
  pub bytes_most : bytes ≤ 18446744073709551616 * count

bodies_more : (lines : List OutLine) (line : OutLine)
    → bodies (lines ++ line ∷ []) ≡ bodies lines ++ bodies (line ∷ [])
bodies_more lines line = filter_map-append body_in lines (line ∷ [])

total_append : (xs ys : List (List ℕ)) → sum (map length (xs ++ ys)) ≡ sum (map length xs) + sum (map length ys)
total_append xs ys = omega (
  arith,
  sum-map length (xs ++ ys),
  sum_by-append length xs ys,
  sum-map length xs,
  sum-map length ys,
)

one_sent : (line : OutLine) → count_by is_sent (line ∷ []) ≤ 1
one_sent line = count_by-le-length is_sent (line ∷ [])

one_body : (line : OutLine) → length (bodies (line ∷ [])) ≤ 1
one_body (Sent to message) = omega arith
one_body (Refused to why) = omega arith
one_body (From from body) = omega arith

-- one line more
pub counted_more : (lines : List OutLine) (i : ℕ) (line : OutLine) (sent given bytes sent' given' bytes' : ℕ)
    → i < length lines → line ≡ get_or lines i line → Counted (take i lines) i sent given bytes
    → sent' ≡ sent + count_by is_sent (line ∷ []) → given' ≡ given + length (bodies (line ∷ []))
    → bytes' ≡ bytes + sum (map length (bodies (line ∷ []))) → bytes' < bytes + 2 ^ 64
    → Counted (take (i + 1) lines) (i + 1) sent' given' bytes'
counted_more lines i line sent given bytes sent' given' bytes' less is so_far s g b most =
    let more : take (i + 1) lines ≡ take i lines ++ line ∷ [] = take_more lines i line less
    ∙ ap (λ (l : OutLine). take i lines ++ l ∷ []) (sym is) in
    let all = bodies_more (take i lines) line in
    record {
      sent_is = rw more (s ∙ ap (λ n. n + count_by is_sent (line ∷ [])) so_far.sent_is
          ∙ sym (sum_by-append (λ l. cond (is_sent l) 1 0) (take i lines) (line ∷ [])));
      given_is = rw more (g ∙ ap (λ n. n + length (bodies (line ∷ []))) so_far.given_is
          ∙ sym (length-append (bodies (take i lines)) (bodies (line ∷ []))) ∙ ap length (sym all));
      bytes_is = rw more (b ∙ ap (λ n. n + sum (map length (bodies (line ∷ [])))) so_far.bytes_is
          ∙ sym (total_append (bodies (take i lines)) (bodies (line ∷ [])))
          ∙ ap (λ (bs : List (List ℕ)). sum (map length bs)) (sym all));
      sent_most = omega (arith, s, so_far.sent_most, one_sent line);
      given_most = omega (arith, g, so_far.given_most, one_body line);
      bytes_most = omega (arith, most, so_far.bytes_most);
    }

pub counted_none : (lines : List OutLine) → Counted (take 0 lines) 0 0 0 0
counted_none lines = record {
  sent_is = refl;
  given_is = refl;
  bytes_is = refl;
  sent_most = omega arith;
  given_most = omega arith;
  bytes_most = omega arith;
}
