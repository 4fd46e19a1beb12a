-- What a piece that is taken makes of a host's side and of the bytes.
use Rattle.std.proofs.Common.{◌≡◌, ℕ, List, ◌∷◌, ◌++◌, length, drop, Bool, true, false, Option, Some, refl, sym, ap, ap₂, subst, ◌∙◌, ◌⊎◌, inl, inr}
use Rattle.std.specs.Prelude.{IfSome}
use Rattle.frame.specs.Pieces.{PieceView}
use Rattle.window.specs.WindowView.{Whole, WindowView}
use Rattle.window.specs.ListRule.{completes, body}
use Rattle.window.specs.Windows as windows
use Rattle.window.specs.declared.reception.Taken.{Taken}
use Rattle.window.specs.declared.reception.Taken.TheVariants.{Nothing, Complete}
use Rattle.host_side.specs.HostView.{HostView}
use Rattle.host_side.specs.Hosts.{StandsFor, out_after}

pub stood : (host : HostView) (window : WindowView) (a b : ℕ) (h : List PieceView) → window ≡ host.window → b ≡ a
    → StandsFor host a h → windows.StandsFor window b h
stood host window a b h same_window same stands = rw (same_window, same) stands

pub stands_on : (window : WindowView) (a b : ℕ) (h : List PieceView) → b ≡ a → windows.StandsFor window b h
    → windows.StandsFor window a h
stands_on window a b h same stands = subst (λ (c : ℕ). windows.StandsFor window c h) same stands

bool_cases : (b : Bool) → (b ≡ true) ⊎ (b ≡ false)
bool_cases true = inl refl
bool_cases false = inr refl

-- the message that waits is the one that the piece completed
pub handed_body : (x : PieceView) (h : List PieceView) (answer : Taken) (n : ℕ) (waits : Option Whole) (part : List ℕ)
    → answer ≡ Complete n → waits ≡ windows.waiting_after x answer
    → IfSome waits (λ whole. part ≡ body h whole.message)
    → part ≡ body h x.message
handed_body x h answer n waits part is waiting handed =
    let whole : waits ≡ Some (record { message = x.message; length = n }) =
    waiting ∙ ap (windows.waiting_after x) is in
    subst (λ (o : Option Whole). IfSome o (λ w. part ≡ body h w.message)) whole handed

-- a message that was handed out stands in front of the bytes
pub written : (h : List PieceView) (x : PieceView) (answer : Taken) (n : ℕ) (out part rest : List ℕ)
    → answer ≡ Complete n
    → answer ≡ windows.taken h x → part ≡ body (x ∷ h) x.message → rest ≡ drop n out → part ++ rest ≡ out_after out h x
written h x answer n out part rest is taken same behind =
    elim (bool_cases (completes h x)) [
      | inl now ↦
          let complete : Complete n ≡ Complete (length (body (x ∷ h) x.message)) = rw now at (sym is ∙ taken) in
          let long : n ≡ length (body (x ∷ h) x.message) = cc in
          rw now (ap₂ (λ (a b : List ℕ). a ++ b) same (behind ∙ ap (λ (k : ℕ). drop k out) long))
      | inr never ↦ (let none : Complete n ≡ Nothing = rw never at (sym is ∙ taken) in cc)
    ]
