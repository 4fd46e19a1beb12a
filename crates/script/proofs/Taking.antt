-- Lines that are taken one after the other.
use Rattle.std.proofs.Common.{◌≡◌, List, [], ◌∷◌, ◌++◌, None, refl, sym, ap, subst, ◌∙◌, append_assoc}
use Rattle.std.proofs.lemmas.List.{append-nil}
use Rattle.script.specs.Lines.{Line}
use Rattle.script.specs.Facts.{Facts, facts}
use Rattle.script.specs.Reasons.{against, AreFree}
use Rattle.script.specs.inside.Stages.{after}
use Rattle.script.proofs.Order.{Stand, stand_first, stand_push}
use Rattle.script.proofs.Free.{allowed, free_none, free_push}

abbrev Taken : Facts → List Line → Type 0
Taken said [] = Unit {0}
Taken said (next ∷ more) = (against said next ≡ None) × Taken (after said next) more

abbrev after_all : Facts → List Line → Facts
after_all said [] = said
after_all said (next ∷ more) = after_all (after said next) more

-- what lines say and that nothing is against them, read on behind others
record Read (lines : List Line) (said : Facts) : Type 0 where
  stand : Stand lines said
  free : AreFree lines

taken_read : (above : List Line) (said : Facts) (more : List Line) → Read above said
    → Taken said more → Read (above ++ more) (after_all said more)
taken_read above said [] read t = rw (append-nil above) read
taken_read above said (next ∷ more) read t =
    let allows = allowed said next t.0 in
    let free : against (facts above) next ≡ None = rw read.stand.says t.0 in
    let on : Read (above ++ next ∷ []) (after said next) =
    record {
      stand = stand_push above said next read.stand allows.0 allows.1;
      free =
          free_push above next read.free free;
    } in
    let group : (above ++ next ∷ []) ++ more ≡ above ++ next ∷ more =
    append_assoc above (next ∷ []) more in
    rw (← group) (taken_read (above ++ next ∷ []) (after said next) more on t.1)

-- lines are taken, and lead from what was said to what is said then
pub record Goes (said : Facts) (lines : List Line) (then : Facts) : Type 0 where
  pub taken : Taken said lines
  pub leads : after_all said lines ≡ then

pub goes_none : (said : Facts) → Goes said [] said
goes_none said = record { taken = tt; leads = refl }

pub goes_cons : (said : Facts) (next : Line) (mid : Facts) (more : List Line) (then : Facts)
    → against said next ≡ None → after said next ≡ mid → Goes mid more then
    → Goes said (next ∷ more) then
goes_cons said next mid more then free same rest = record {
  taken = (free, subst (λ (f : Facts). Taken f more) (sym same) rest.taken);
  leads = ap (λ (f : Facts). after_all f more) same ∙ rest.leads;
}

pub goes_append : (said : Facts) (xs : List Line) (mid : Facts) (ys : List Line) (then : Facts)
    → Goes said xs mid → Goes mid ys then → Goes said (xs ++ ys) then
goes_append said [] mid ys then a b =
    subst (λ (f : Facts). Goes f ys then) (sym a.leads) b
goes_append said (x ∷ xs) mid ys then a b =
    goes_cons said x (after said x) (xs ++ ys) then a.taken.0 refl
    (goes_append (after said x) xs mid ys then
    (record { taken = a.taken.1; leads = a.leads }) b)

-- lines that are taken from the start
pub record IsRead (lines : List Line) (said : Facts) : Type 0 where
  pub says : facts lines ≡ said
  pub free : AreFree lines

pub goes_read : (lines : List Line) (said : Facts) → Goes (facts []) lines said → IsRead lines said
goes_read lines said goes =
    let first : Read [] (facts []) = record { stand = stand_first; free = free_none } in
    let all = taken_read [] (facts []) lines first goes.taken in
    record { says = all.stand.says ∙ goes.leads; free = all.free }
