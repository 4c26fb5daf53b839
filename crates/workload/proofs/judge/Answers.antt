-- `workload::judge` meets its contract.
use Rattle.std.proofs.Common.{arith, rules}
use Rattle.workload.specs.Load.{judged}
use Rattle.workload.proofs.Verdicts.{judged_some, judged_none}
use Rattle.workload.proofs.judge.Goals as goal

pub returns-in_err-totals : goal.returns-in_err-totals
unfolding judged
returns-in_err-totals c = search rules

pub returns-then-totals-room : goal.returns-then-totals-room
returns-then-totals-room c =
    judged_some c.args.processors c.args.load c.in_ok-totals.totals (grind arith) c.if-totals.true c.if-totals-room.true

pub returns : goal.returns
returns c = judged_none c.args.processors c.args.load c.in_ok-totals.totals (grind arith) c.else-totals.either
