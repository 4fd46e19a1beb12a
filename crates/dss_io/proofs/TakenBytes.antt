-- Bytes that a reading takes from the front of what was left.
use Rattle.std.proofs.Common.{◌≡◌, ℕ, ◌+◌, ◌-◌, ◌≤◌, List, [], ◌++◌, length, take, drop, Option, length-drop, arith, sym, ap, ◌∙◌, subst}
use Rattle.std.proofs.lemmas.Grind.{common_steps}
use Rattle.std.proofs.lemmas.List.{length-take-le, take-append-drop, drop-drop}
use Rattle.std.proofs.Math.Seq.{take-append_seam}
use Rattle.std.specs.Io.KnownBytes.{Consumes}
use Rattle.std.proofs.KnownBytes.{Consumes-trans}
use Rattle.dss_io.specs.Reading.{Takes}

-- after the front, the first n bytes of a piece
pub Takes-more : (a b c : Option (List ℕ)) (front piece : List ℕ) (n most : ℕ) → Consumes a b front
    → Consumes b c (take n piece) → n ≤ length piece → length front + n ≡ most → Takes a c most
Takes-more a b c front piece n most first second within total =
    (front ++ take n piece, grind (arith, common_steps), Consumes-trans a b c front (take n piece) first second)

-- n bytes from a place on, handed over at the front of a buffer
pub given_front : (bytes : List ℕ) (next n : ℕ) (given behind : List ℕ) → next + n ≤ length bytes → given
    ≡ take ((next + n) - next) (drop next bytes)
    → drop next bytes ≡ take n (given ++ behind) ++ drop (next + n) bytes
given_front bytes next n given behind within same =
    let count : (next + n) - next ≡ n = omega arith in
    let same' : given ≡ take n (drop next bytes) = same ∙ ap (λ k. take k (drop next bytes)) count in
    let size : length given ≡ n = ap length same'
    ∙ length-take-le n (drop next bytes) (omega (arith, length-drop next bytes)) in
    let front : take n (given ++ behind) ≡ given =
    subst (λ k. take k (given ++ behind) ≡ given) size (take-append_seam given behind) in
    sym (ap (λ t. t ++ drop (next + n) bytes) (front ∙ same')
    ∙ ap (λ t. take n (drop next bytes) ++ t) (sym (drop-drop n next bytes))
    ∙ take-append-drop n (drop next bytes))

-- past the end nothing is left
pub none_left : (bytes : List ℕ) (next : ℕ) → length bytes ≤ next → drop next bytes ≡ []
none_left bytes next end = grind (arith, common_steps)
