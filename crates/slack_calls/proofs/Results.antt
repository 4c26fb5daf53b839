-- The claims of the slack calls, proved.
use Rattle.slack_calls.specs.Claims.{SlackCalls}
use Rattle.slack_calls.proofs.AcceptanceTrials.{trials}
use Rattle.slack_calls.proofs.Rules.{slack_closed, slack_rule, reply_rule}
use Rattle.slack_calls.proofs.With.{with_rule}

pub slack_calls : SlackCalls
slack_calls = record {
  slack_closed = slack_closed;
  reply_rule = reply_rule;
  slack_rule = slack_rule;
  with_rule = λ model kept id cost period deadline. with_rule id cost period deadline model kept;
  trials = trials;
}
