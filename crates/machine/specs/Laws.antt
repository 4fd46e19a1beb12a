-- What the laws of the machine say.
use Rattle.std.specs.Prelude.{◌≡◌, ◌⊎◌, ℕ, ◌+◌, ◌<◌, ◌≤◌, ◌^◌, List, [], ◌∷◌, ◌++◌, length, map, filter, Bool, true, false, Option, Some, None, if◌then◌else◌, slice_get}
use Rattle.std.specs.List.{range_with_len}
use Rattle.std.specs.List.Sorted.{IsStrictlyIncreasing}
use Rattle.levels.specs.declared.level.Party.{Party}
use Rattle.levels.specs.Rosters.{RosterView, is_same_party, is_partner}
use Rattle.frame.specs.Pieces.{pieces}
use Rattle.seal_core.specs.Blocks.{AreBytes}
use Rattle.file_calls.specs.Names.{is_name, is_content}
use Rattle.file_calls.specs.declared.call.Reply.{Reply}
use Rattle.file_calls.specs.declared.call.Reply.TheVariants.{Bytes, Block}
use Rattle.file_calls.specs.Spelling.{reply_text}
use Rattle.machine.specs.declared.line.OutLine.{OutLine}
use Rattle.machine.specs.declared.line.OutLine.TheVariants.{Sent, Refused, From}
use Rattle.events.specs.declared.event.Event.{Event}
use Rattle.events.specs.declared.event.Event.TheVariants.{Forge}
use Rattle.events.specs.ScriptView.{ScriptView}
use Rattle.machine.specs.Setup.{Setup, setup_of}
use Rattle.machine.specs.Files.{CallRow, versions_of, written, files}
use Rattle.machine.specs.Replies.{Question, is_below, block_version}
use Rattle.machine.specs.Plan.{question_of, reply}
use Rattle.machine.specs.Machine.{State, Message, hands, handed, gives, numbers_given, given_to, is_answered_on, after, arrivals_at, given_at, end_of, told, state_at}
use Rattle.machine.specs.FalseBytes.{IsSentFrame}

-- an event hands over piece i of message j from s to u, which was sent before
pub record HandsOver (m : Setup) (x : State) (e : Event) (s u : Party) (j i : ℕ) : Type 0 where
  pub body : List ℕ
  pub sent : slice_get (x.sent s u) j ≡ Some body
  pub piece : i < pieces body
  pub hands : hands m e s u j body i ≡ true

-- one of the first n events hands over piece i of message j from s to u, which was sent before it
pub record HasArrived (script : ScriptView) (n : ℕ) (s u : Party) (j i : ℕ) : Type 0 where
  pub k : ℕ
  pub event : Event
  pub earlier : k < n
  pub there : slice_get script.events k ≡ Some event
  pub hands : HandsOver (setup_of script) (state_at script k) event s u j i

-- what some lines say that s sent
abbrev pub bodies_from : Party → List OutLine → List (List ℕ)
bodies_from s [] = []
bodies_from s (From r body ∷ lines) =
    if is_same_party r s then body ∷ bodies_from s lines else bodies_from s lines
bodies_from s (Sent to number ∷ lines) = bodies_from s lines
bodies_from s (Refused to why ∷ lines) = bodies_from s lines

-- what r is told of s are, in order, the messages of these rising numbers that s sent to r; the two
-- are partners, or there are none
pub record AreInOrder (script : ScriptView) (s r : Party) : Type 0 where
  pub numbers : List ℕ
  pub rising : IsStrictlyIncreasing numbers
  pub messages :
      map Some (bodies_from s (told script r)) ≡ map (slice_get ((end_of script).sent s r)) numbers
  pub partners : is_partner script.roster s r ≡ false → numbers ≡ []

-- the version and the content of a file's block that a reply has, if it has them
abbrev pub content_in : Reply → Option (ℕ × List ℕ)
content_in (Bytes version content) = Some (version, content)
content_in (Block version count content) = Some (version, content)
content_in reply = None

-- a call is a question for a block of a level at or below its own; this version stands there, and
-- this content was written under it, for that name and block
pub record ReadsDown
    (roster : RosterView) (before : List CallRow) (c : CallRow) (version : ℕ) (content : List ℕ) :
    Type 0 where
  pub question : Question
  pub asks : question_of roster before c ≡ Some question
  pub below : is_below roster question.level c.level ≡ true
  pub current :
      block_version (versions_of question.name (files question.level before).names) question.block
      ≡ Some version
  pub written : written (files question.level before).writes version
      ≡ Some (record { name = question.name; block = question.block; content = content })

-- what a question asks for was written: this content, under the question's version, for its name
-- and as its block; each is in its range
pub record AsksForWritten (before : List CallRow) (question : Question) : Type 0 where
  pub level : question.level < 2 ^ 8
  pub name : is_name question.name ≡ true
  pub block : question.block ≤ 63
  pub content : List ℕ
  pub held : is_content content ≡ true
  pub written : written (files question.level before).writes question.version
      ≡ Some (record { name = question.name; block = question.block; content = content })

-- a list is empty, or has one element
abbrev pub IsOneAtMost : {A : Type 0} → List A → Type 0
IsOneAtMost {A = A} xs = (xs ≡ []) ⊎ ((x : A) × (xs ≡ x ∷ []))

-- the message, if it is given
abbrev pub given_if : Bool → Message → List Message
given_if given message = if given then message ∷ [] else []

-- an event hands nothing over to u, and gives it nothing
pub record HandsNothing (m : Setup) (x : State) (e : Event) (u : Party) : Type 0 where
  pub none : (s : Party) → handed m x e s u ≡ []
  pub numbers : (s : Party) → numbers_given m x e s u ≡ []
  pub given : given_to m x e u ≡ []
  pub arrivals : length (arrivals_at m.roster (after m e x) u)
      ≡ length (arrivals_at m.roster x u)
  pub count : length (given_at m.roster (after m e x) u) ≡ length (given_at m.roster x u)

-- all that an event hands over to u are pieces of message j of s, which is this body; it gives that
-- message or none
pub record HandsOne (m : Setup) (x : State) (e : Event) (s u : Party) (j : ℕ) (body : List ℕ) :
    Type 0 where
  pub own : handed m x e s u
      ≡ map (λ i. (j, i)) (filter (hands m e s u j body) (range_with_len 0 (pieces body)))
  pub numbers : numbers_given m x e s u ≡ (if gives m x e s u j then j ∷ [] else [])
  pub given : given_to m x e u
      ≡ given_if (gives m x e s u j) (record { from = s; body = body })
  pub others : (s' : Party) → is_same_party s' s ≡ false → handed m x e s' u ≡ []
  pub silent : (s' : Party) → is_same_party s' s ≡ false → numbers_given m x e s' u ≡ []
  pub arrivals : length (arrivals_at m.roster (after m e x) u)
      ≡ length (arrivals_at m.roster x u)
      + length (filter (hands m e s u j body) (range_with_len 0 (pieces body)))
  pub count : length (given_at m.roster (after m e x) u)
      ≡ length (given_at m.roster x u) + (if gives m x e s u j then 1 else 0)

-- the bytes of a forged frame are the frame of pieces of one message to that unit at most
abbrev pub OneFrame : Setup → State → Event → Type 0
OneFrame m x (Forge at bytes) = (s s' : Party) (j j' i i' : ℕ)
    → IsSentFrame m x s at j i bytes → IsSentFrame m x s' at j' i' bytes → (s ≡ s') × (j ≡ j')
OneFrame m x e = Unit {0}

-- different pieces to one unit have different frames
abbrev pub FramesApart : Setup → State → Type 0
FramesApart m x = (s s' u : Party) (j j' i i' : ℕ) (bytes : List ℕ)
    → IsSentFrame m x s u j i bytes → IsSentFrame m x s' u j' i' bytes
    → (s ≡ s') × (j ≡ j') × (i ≡ i')

-- the replies of a manager unit s to r, for calls that stand newest first
abbrev pub replies_to : Setup → Party → Party → List CallRow → List (List ℕ)
replies_to m s r [] = []
replies_to m s r (c ∷ before) =
    replies_to m s r before
    ++ (if is_answered_on m.roster s r c then reply_text (reply m before c) ∷ [] else [])

-- what a party has sent, was given and was told, and what has arrived there, is the same in both
pub record StaysAt (r : Party) (x y : State) : Type 0 where
  pub sent : (s : Party) → y.sent r s ≡ x.sent r s
  pub arrived : (s : Party) → y.arrived s r ≡ x.arrived s r
  pub given : (s : Party) → y.given s r ≡ x.given s r
  pub told : y.told r ≡ x.told r

-- each message that was sent fits frames: its number has four bytes, and it is at most 5,632 bytes
pub record IsSmallMessage (j : ℕ) (body : List ℕ) : Type 0 where
  pub number : j < 2 ^ 32
  pub bytes : AreBytes body
  pub short : length body ≤ 5632

abbrev pub AreSmall : State → Type 0
AreSmall x = (s r : Party) (j : ℕ) (body : List ℕ) → slice_get (x.sent s r) j ≡ Some body
    → IsSmallMessage j body
