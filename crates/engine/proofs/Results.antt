-- Facts that hold where a call gave no error.
use Rattle.std.specs.Prelude.{◌≡◌, Result, Ok, Err, OnOk, is_ok, if◌then◌else◌}

-- two facts together give a third
pub on_ok_two : {T E P Q R : Type 0} (r : Result T E) → (P → Q → R) → OnOk r P → OnOk r Q → OnOk r R
on_ok_two (Ok x) joined p q = joined p q
on_ok_two (Err e) joined p q = tt

-- what is known of a value that a call changes only where it gives no error
pub on_ok_changed : {T E A P : Type 0} (r : Result T E) (x new old : A)
    → x ≡ (if is_ok r then new else old) → (x ≡ new → P) → OnOk r P
on_ok_changed (Ok v) x new old is gives = gives is
on_ok_changed (Err e) x new old is gives = tt
