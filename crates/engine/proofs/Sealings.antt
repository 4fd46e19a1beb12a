-- How a script seals.
use Rattle.std.proofs.Common.{◌≡◌, refl}
use Rattle.levels.specs.declared.level.Sealing.{Sealing}
use Rattle.levels.specs.declared.level.Sealing.TheVariants.{Clear, Des}
use Rattle.seal_core.specs.Clear.{clear_text}
use Rattle.des_cbc.specs.Sealing.{des_text}
use Rattle.machine.specs.Setup.{sealer}

pub seals_clear : (sealing : Sealing) → Clear ≡ sealing → sealer sealing ≡ clear_text
unfolding sealer
seals_clear Clear is = refl
seals_clear Des is = cc

pub seals_des : (sealing : Sealing) → Des ≡ sealing → sealer sealing ≡ des_text
unfolding sealer
seals_des Des is = refl
seals_des Clear is = cc
