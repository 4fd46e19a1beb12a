-- What stands before the first event: the roster with its keys, the sealing, what the store will
-- answer, and how far a receiver looks ahead.
use Rattle.std.specs.Prelude.{ℕ, List, replicate, unwrap_or}
use Rattle.levels.specs.declared.level.Sealing.{Sealing}
use Rattle.levels.specs.declared.level.Sealing.TheVariants.{Clear, Des}
use Rattle.levels.specs.Rosters.{RosterView}
use Rattle.levels.specs.Keys.{keys_at, guard_of}
use Rattle.frame.specs.Ahead.{messages_ahead}
use Rattle.seal_core.specs.declared.KeyPair.{KeyPair}
use Rattle.seal_core.specs.Sealing.{Sealer}
use Rattle.seal_core.specs.Clear.{clear_text}
use Rattle.des_cbc.specs.Sealing.{des_text}
use Rattle.untrusted_store.specs.declared.plan.PlanRow.{PlanRow}
use Rattle.events.specs.ScriptView.{ScriptView}

pub record Setup : Type 0 where
  pub roster : RosterView
  -- the key pair of each partition, and the guarantor's
  pub keys : ℕ → KeyPair
  pub guard : KeyPair
  -- the sealed text of a nonce and a plain text under a key pair
  pub sealed : Sealer
  -- what the store will answer
  pub rows : List PlanRow
  -- how many messages behind the newest one that has arrived a message may still be given
  pub ahead : ℕ

unfoldable pub sealer : Sealing → Sealer
sealer Clear = clear_text
sealer Des = des_text

-- in the place of keys that a roster doesn't have; the roster of a script has all
abbrev pub no_keys : KeyPair
no_keys = record { main = replicate 8 0; check = replicate 8 0 }

abbrev pub setup_of : ScriptView → Setup
setup_of script = record {
  roster = script.roster;
  keys = λ partition. unwrap_or (keys_at script.roster (record { 0 = partition })) no_keys;
  guard = unwrap_or (guard_of script.roster) no_keys;
  sealed = sealer script.roster.sealing;
  rows = script.rows;
  ahead = messages_ahead;
}
