-- One number after the other: `Stepping` is the loop's invariant.
use native.Mathlib.Omega.{arith}
use mathlib.Core.Path.{sym, ◌∙◌}
use Rattle.clocks.proofs.Stepping.{stops, more, ended}
use Rattle.clocks.proofs.in_steps.Goals as goal

pub returns-then-from-expected : goal.returns-then-from-expected
returns-then-from-expected c = stops _ _ _ _ _ c.loop-number.invariant (omega arith) (λ e. c.if-from-expected.true (c.from.ensures ∙ e))

pub loop-number-preserved : goal.loop-number-preserved
loop-number-preserved c =
    more _ _ _ _ _ c.loop-number.invariant (omega arith) (sym c.from.ensures ∙ c.if-from-expected.false) (omega arith) _ _ (omega (arith, c.from-expected-in-loop-number.ensures)) (omega arith)

pub returns : goal.returns
returns c = ended _ _ _ _ _ c.loop-number.invariant (omega arith)
