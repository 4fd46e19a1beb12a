-- A window, by the address of a partner.
use Rattle.std.specs.Prelude.{◌≡◌, ◌≢◌, ℕ, ◌<◌, ◌+◌, ◌≤◌, List, [], ◌∷◌, length, Bool, true, false, ◌==◌, nat_lt, nat_le, ◌&&◌, ◌||◌, Option, Some, None, is_some, slice_index, if◌then◌else◌}
use Rattle.std.specs.List.{list_any}
use Rattle.std.proofs.Math.ListN.{get_or}
use Rattle.frame.specs.Pieces.{PieceView}
use Rattle.frame.specs.Ahead.{messages_ahead}
use Rattle.window.specs.WindowView.{Whole, HeldMessage, PartnerView, WindowView}
use Rattle.window.specs.ListRule.{last_of, has_newer, given_in, completes, places_held, body}
use Rattle.window.specs.declared.reception.Taken.{Taken}
use Rattle.window.specs.declared.reception.Taken.TheVariants.{Nothing, Complete}

abbrev pub is_among : List ℕ → ℕ → Bool
is_among partners a = list_any (λ p. p == a) partners

-- no two partners have one address
abbrev pub AreDifferent : List ℕ → Type 0
AreDifferent partners = (i j : ℕ) → i < length partners → j < length partners
    → slice_index partners i ≡ slice_index partners j → i ≡ j

-- what is held of the partner with this address
abbrev pub partner_at : WindowView → ℕ → Option PartnerView
partner_at window a = get_or window.partners a None

-- whether the window takes pieces from this address
abbrev pub is_sender : WindowView → ℕ → Bool
is_sender window a = is_some (partner_at window a)

abbrev pub waiting_of : Option PartnerView → Option Whole
waiting_of None = None
waiting_of (Some partner) = partner.waiting

-- the message of a partner that waits to be handed out
abbrev pub waiting : WindowView → ℕ → Option Whole
waiting window a = waiting_of (partner_at window a)

-- the greatest number of a message of which there is a piece, or none where there is no piece
abbrev pub IsNewest : Option ℕ → List PieceView → Type 0
IsNewest None h = h ≡ []
IsNewest (Some j) h = (is_some (last_of h j) ≡ true) × (has_newer h j ≡ false)

-- the places of a message, each with its bytes or none; no places where nothing of it is held
abbrev pub places_of : List HeldMessage → ℕ → List (Option (List ℕ))
places_of [] j = []
places_of (x ∷ held) j = if x.message == j then x.places else places_of held j

-- the greatest of these numbers, or none where there is none
abbrev pub IsGreatest : Option ℕ → List ℕ → Type 0
IsGreatest None numbers = numbers ≡ []
IsGreatest (Some j) numbers =
    (list_any (λ k. k == j) numbers ≡ true) × (list_any (nat_lt j) numbers ≡ false)

-- whether j is at most three numbers behind the newest message
abbrev pub is_recent : Option ℕ → ℕ → Bool
is_recent None j = false
is_recent (Some newest) j = nat_le newest (j + messages_ahead)

-- whether j is greater than each number that was given
abbrev pub is_above : Option ℕ → ℕ → Bool
is_above None j = true
is_above (Some given) j = nat_lt given j

-- whether message j waits to be handed out
abbrev pub is_waiting : Option Whole → ℕ → Bool
is_waiting None j = false
is_waiting (Some whole) j = whole.message == j

-- Pieces are held of the messages that may still be given, and of the one that waits.
abbrev pub is_kept : PartnerView → ℕ → Bool
is_kept partner j = (is_recent partner.newest j && is_above partner.given j)
    || is_waiting partner.waiting j

-- what waits is the last message that was given, with its length
abbrev pub Waits : Option Whole → Option ℕ → List PieceView → Type 0
Waits None given h = Unit {0}
Waits (Some whole) given h =
    (given ≡ Some whole.message) × (whole.length ≡ length (body h whole.message))

-- what is held of a partner is what this list of its pieces left
pub record Left (h : List PieceView) (partner : PartnerView) : Type 0 where
  pub newest : IsNewest partner.newest h
  pub given : IsGreatest partner.given (given_in h)
  pub held : (j : ℕ)
      → places_of partner.held j ≡ (if is_kept partner j then places_held h j else [])
  pub waiting : Waits partner.waiting partner.given h

abbrev pub LeftIn : List PieceView → Option PartnerView → Type 0
LeftIn h None = ⊥
LeftIn h (Some partner) = Left h partner

-- The window stands for this list of pieces from a partner, the newest first.
abbrev pub StandsFor : WindowView → ℕ → List PieceView → Type 0
StandsFor window a h = LeftIn h (partner_at window a)

-- what is held of every other partner is as it was
abbrev pub SameElsewhere : WindowView → WindowView → ℕ → Type 0
SameElsewhere old new a = (b : ℕ) → b ≢ a → partner_at new b ≡ partner_at old b

-- what the next piece does after these
abbrev pub taken : List PieceView → PieceView → Taken
taken h x = if completes h x then Complete (length (body (x ∷ h) x.message)) else Nothing

-- what waits after this piece was taken with this answer
abbrev pub waiting_after : PieceView → Taken → Option Whole
waiting_after x Nothing = None
waiting_after x (Complete n) = Some (record { message = x.message; length = n })

-- no message is longer than 5,632 bytes
abbrev pub IsShort : Taken → Type 0
IsShort Nothing = Unit {0}
IsShort (Complete n) = n ≤ 5632
