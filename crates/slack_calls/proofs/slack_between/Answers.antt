-- `slack_calls::slack_between` meets its contract.
use mathlib.Core.Path.{ap, ◌∙◌}
use lib.IntN.{ℤ}
use Rattle.slack.specs.Slack.{slack_of}
use Rattle.slack_calls.proofs.Between.{less_fits, less_is}
use Rattle.slack_calls.proofs.slack_between.Goals as goal

pub overflow_sub-supply : goal.overflow_sub-supply
overflow_sub-supply c = less_fits _ _ c.requires.0 c.requires.1

pub returns : goal.returns
returns c =
    c.slack_of.ensures ∙ ap (λ (d : ℤ). slack_of d c.args.top) (less_is c.args.supply c.args.need c.requires.0 c.requires.1)
