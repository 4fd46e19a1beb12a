-- What looking at a text for a record answers.
use Rattle.std.specs.Prelude.{◌≡◌, ℕ, ◌%◌, ◌≤◌, List, length, true, Result, Ok, Err}
use Rattle.seal_core.specs.declared.KeyPair.{KeyPair}
use Rattle.seal_core.specs.Sealing.{Sealer, OpensTo}
use Rattle.file_calls.specs.Names.{is_content}
use Rattle.guarantor.specs.declared.guarantor.Damage.TheVariants.{Closed, Other}
use Rattle.guarantor.specs.declared.guarantor.CheckStop.{CheckStop}
use Rattle.guarantor.specs.declared.guarantor.CheckStop.TheVariants as stop
use Rattle.guarantor.specs.Records.{record_of}

-- a text of a record's length opens to this nonce and this plain text
pub record OpensAs (sealed : Sealer) (keys : KeyPair) (text nonce plain : List ℕ) : Type 0 where
  pub least : 64 ≤ length text
  pub most : length text ≤ 4160
  pub whole : length text % 8 ≡ 0
  pub opens : OpensTo sealed keys text nonce plain

-- a text of a record's length opens
pub record IsOpen (sealed : Sealer) (keys : KeyPair) (text : List ℕ) : Type 0 where
  pub nonce : List ℕ
  pub plain : List ℕ
  pub opened : OpensAs sealed keys text nonce plain

-- a text is the record of a block with this content
pub record IsRecord (sealed : Sealer) (keys : KeyPair) (level : ℕ) (name : List ℕ)
    (block version : ℕ) (text content : List ℕ) : Type 0 where
  pub short : is_content content ≡ true
  pub same : text ≡ record_of sealed keys level name block version content

-- the content of the record, or why the text is none
abbrev pub Checks : Sealer → KeyPair → ℕ → List ℕ → ℕ → ℕ → List ℕ
    → Result (List ℕ) CheckStop → Type 0
Checks sealed keys level name block version text (Ok content) =
    IsRecord sealed keys level name block version text content
Checks sealed keys level name block version text (Err (stop.Damage Closed)) =
    ¬ IsOpen sealed keys text
Checks sealed keys level name block version text (Err (stop.Damage Other)) =
    IsOpen sealed keys text
    × ((content : List ℕ) → ¬ IsRecord sealed keys level name block version text content)
Checks sealed keys level name block version text (Err stop.OutOfMemory) = Unit {0}
