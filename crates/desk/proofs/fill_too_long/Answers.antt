-- `desk::fill_too_long` meets its contract.
use Rattle.refusals.proofs.Results.{number_rule}
use Rattle.desk.proofs.Filling.{too_long_past, too_long_small, too_long_put}
use Rattle.desk.proofs.fill_too_long.Goals.{then-size-desk-via-then-size-desk, then-size-desk-via-else-size-desk+then-page-lt-LONGEST_FRAME}
use Rattle.desk.proofs.fill_too_long.Goals as goal

pub returns-then-size-desk : goal.returns-then-size-desk
returns-then-size-desk c =
    elim c.then-size-desk.branch [
      | then-size-desk-via-then-size-desk w ↦ too_long_past c.args.desk c.args.size c.args.page.now w.if-size-desk.true
      | then-size-desk-via-else-size-desk+then-page-lt-LONGEST_FRAME w ↦
          too_long_small c.args.desk c.args.size c.args.page.now w.if-size-desk.false w.if-page-lt-LONGEST_FRAME.true
    ]

pub returns : goal.returns
returns c =
    too_long_put c.args.desk c.args.size c.args.page.now c.if-size-desk.false c.if-page-lt-LONGEST_FRAME.false _ number_rule.malformed _ _
    c.put_refusal-end.ensures.0 c.put_refusal-end.ensures.1
