-- Only serves the code's own contracts: a record that can be moved on.
use Rattle.std.specs.Prelude.{◌≡◌, ◌<◌}
use Rattle.parity.specs.Claims.{most_steps}
use Rattle.cycle.specs.declared.Cycle.{Cycle}
use Rattle.cycle.specs.declared.Phase.TheVariants.{Open}

-- open, with fewer steps than the longest cycle has
pub record Movable (cycle : Cycle) : Type 0 where
  pub open-phase : cycle.phase ≡ Open
  pub below : cycle.count < most_steps
