-- The front of a text that was written, and the rest of it.
use Rattle.std.proofs.Common.{◌≡◌, ℕ, ◌-◌, ◌<◌, List, ◌++◌, length, take, drop, Option, arith}
use Rattle.std.proofs.lemmas.Grind.{common_steps}
use Rattle.std.specs.Io.KnownBytes.{Appends}
use Rattle.dss_io.specs.Writing.{AppendsProperPrefix}

-- n bytes of the rest join the front
pub front_more : (text front rest : List ℕ) (n : ℕ) → text ≡ front ++ rest → text ≡ (front ++ take n rest)
    ++ take (length rest - n) (drop n rest)
front_more text front rest n split = grind (arith, common_steps)

-- while there is a rest, the front is no more than a proper prefix
pub AppendsProperPrefix-from_front : (a b : Option (List ℕ)) (text front rest : List ℕ) → text ≡ front ++ rest
    → 0 < length rest → Appends a b front → AppendsProperPrefix a b text
AppendsProperPrefix-from_front a b text front rest split more written =
    let same : take (length front) text ≡ front = grind (arith, common_steps) in
    (length front, grind (arith, common_steps), rw same written)
