use Rattle.net_side.proofs.Opened.{opens_where, opened_where}
use Rattle.net_side.proofs.laws.open_bytes_hold_more.Goals as goal

pub returns-clause-opens : goal.returns-clause-opens
returns-clause-opens c = opens_where

pub returns-clause-opened : goal.returns-clause-opened
returns-clause-opened c = opened_where
