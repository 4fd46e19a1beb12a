-- Slots that compare alike are one.
use Rattle.std.proofs.Common.{◌≡◌, ℕ, ◌&&◌, refl, sym, ap, ◌∙◌}
use Rattle.std.specs.Prelude.{◌==◌, cond, List, Option, Some}
use Rattle.std.specs.Map.{lookup}
use Rattle.std.specs.Ordering.{is_eq, nat_cmp, ordering_then}
use Rattle.std.specs.declared.cmp.Ordering.{Ordering}
use Rattle.std.specs.declared.cmp.Ordering.TheVariants.{Less, Equal, Greater}
use Rattle.std.specs.Cmp.{unsigned_ties}
use Rattle.std.specs.BTreeMap.{is_at}
use Rattle.untrusted_store.specs.declared.slot.Slot.{Slot}
use Rattle.untrusted_store.specs.Planned.{slot_cmp}
use Rattle.untrusted_store.specs.Telling.{is_same_slot, with_put}

is_eq-then : (o p : Ordering) → is_eq (ordering_then o p) ≡ is_eq o && is_eq p
is_eq-then Less p = refl
is_eq-then Equal p = refl
is_eq-then Greater p = refl

same_slot : (a b : Slot) → is_at (slot_cmp a) b ≡ is_same_slot a b
same_slot a b =
    is_eq-then (nat_cmp a.level b.level) (nat_cmp a.version b.version)
    ∙ ap (λ x. x && is_eq (nat_cmp a.version b.version)) (sym (unsigned_ties a.level b.level))
    ∙ ap (λ x. (a.level == b.level) && x) (sym (unsigned_ties a.version b.version))

-- a look-up in records that differ at one slot
pub lookup-put : (old new : List (Slot × List ℕ)) (slot : Slot) (bytes : List ℕ)
    → ((q : Slot) → lookup (is_at (slot_cmp q)) new
    ≡ cond (is_at (slot_cmp slot) q) (Some bytes) (lookup (is_at (slot_cmp q)) old))
    → ◌≡◌ {A = Slot → Option (List ℕ)} (λ q. lookup (is_at (slot_cmp q)) new)
    (with_put slot bytes (λ q. lookup (is_at (slot_cmp q)) old))
lookup-put old new slot bytes updates =
    λ i q. (updates q ∙ ap (λ b. cond b (Some bytes) (lookup (is_at (slot_cmp q)) old)) (same_slot slot q)) i
