-- The lines of a script. Levels stand there by their names.
use Rattle.std.specs.Prelude.{ℕ, List}
use Rattle.seal_core.specs.declared.KeyPair.{KeyPair}
use Rattle.levels.specs.declared.level.Level.{Level as LevelValue}
use Rattle.script.specs.declared.line.PartyWord.{PartyWord}
use Rattle.script.specs.declared.line.StreamWord.{StreamWord}

-- what a host asks of the manager unit of its level
pub data CallWords : Type 0 where
  Put : (name content : List ℕ) → CallWords
  Get : (level name : List ℕ) → CallWords
  ListNames : (level : List ℕ) → CallWords
  Remove : (name : List ℕ) → CallWords
  Append : (name content : List ℕ) → CallWords
  Block : (level name : List ℕ) (block : ℕ) → CallWords

-- what happens
pub data EventWords : Type 0 where
  Send : (from : ℕ) (to : PartyWord) (message : List ℕ) → EventWords
  Ask : (from : ℕ) (call : CallWords) → EventWords
  Deliver : (stream : StreamWord) (message piece : ℕ) (at : PartyWord) → EventWords
  Carry : (stream : StreamWord) (message : ℕ) (at : PartyWord) → EventWords
  Forge : (at : PartyWord) (bytes : List ℕ) → EventWords
  Tamper : (stream : StreamWord) (message piece : ℕ) (at : PartyWord) (edits : List (ℕ × ℕ))
      → EventWords

-- what the store does with a question
pub data StoreWords : Type 0 where
  Honest : StoreWords
  Of : (level : List ℕ) (version : ℕ) → StoreWords
  Flip : (offset xor : ℕ) → StoreWords
  Gone : StoreWords

pub data Line : Type 0 where
  Version : Line
  Seal : Line
  Level : (name : List ℕ) (level : LevelValue) → Line
  Key : (level : List ℕ) (pair : KeyPair) → Line
  Guard : (pair : KeyPair) → Line
  Host : (address : ℕ) (level : List ℕ) → Line
  Store : (reader : List ℕ) (action : StoreWords) → Line
  Begin : Line
  Event : (words : EventWords) → Line
  End : Line
