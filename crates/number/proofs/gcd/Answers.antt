-- `number::gcd` meets its contract: a step keeps the gcd of the two numbers.
use mathlib.Core.Path.{sym, ap, ◌∙◌}
use Rattle.number.specs.Divisors.{gcd}
use Rattle.number.proofs.Laws.{gcd_zero_right, gcd_step}
use Rattle.number.proofs.gcd.Goals as goal

pub loop-y-preserved : goal.loop-y-preserved
loop-y-preserved c = gcd_step _ _ ∙ c.loop-y.invariant

pub returns : goal.returns
returns c = sym (gcd_zero_right _) ∙ ap (gcd c.loop-y.x) (sym c.loop-y-test.false) ∙ c.loop-y.invariant
