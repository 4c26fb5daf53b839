-- `ranges::speeds_fit` meets its contract.
use native.Mathlib.Omega.{arith}
use mathlib.Core.Path.{◌≡◌}
use mathlib.Core.Bool.{true, ◌&&◌}
use Rattle.ranges.specs.Ranges.{one_to, speeds_fit}
use Rattle.ranges.proofs.Speeds.{speeds_small}
use Rattle.ranges.proofs.speeds_fit.Goals.{Then-one_to-3}
use Rattle.ranges.proofs.speeds_fit.Goals as goal

-- What was tested before the top speed.
in_range : (c : Then-one_to-3) → (one_to 32 c.args.levels && one_to 256 c.args.lowest && one_to 255 c.args.step) ≡ true
in_range c = grind arith

pub overflow_sub-result : goal.overflow_sub-result
overflow_sub-result c = (speeds_small _ _ _ (in_range c)).0

pub overflow_mul-result : goal.overflow_mul-result
overflow_mul-result c = omega (arith, (speeds_small _ _ _ (in_range c)).1)

pub overflow_add-result : goal.overflow_add-result
overflow_add-result c =
    let small = speeds_small _ _ _ (in_range c) in
    omega (arith, small.1, small.2)

pub returns-then-one_to-3 : goal.returns-then-one_to-3
unfolding speeds_fit
returns-then-one_to-3 c = grind arith

pub returns-else-one_to-3 : goal.returns-else-one_to-3
unfolding speeds_fit
returns-else-one_to-3 c = grind arith
