-- `slack::slack_of` meets its contract.
use native.Mathlib.Omega.{arith}
use Rattle.slack.specs.Slack.{slack_of}
use Rattle.slack.proofs.Signed.{slack_parts}
use Rattle.slack.proofs.slack_of.Goals as goal

pub returns-then-top-eq0 : goal.returns-then-top-eq0
unfolding slack_of
returns-then-top-eq0 c = rw c.if-top-eq0.true

pub returns : goal.returns
returns c =
    slack_parts c.args.difference c.args.top _ _ (omega (arith, c.if-top-eq0.false)) (omega arith) c.ranges.difference
    (record { sfits = c.div_euclid.type_inv })
    c.div_euclid.ensures
    (record { sfits = c.rem_euclid.type_inv })
    c.rem_euclid.ensures.value
