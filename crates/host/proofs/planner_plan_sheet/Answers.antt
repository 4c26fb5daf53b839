-- `host::planner_plan_sheet` meets its contract.
use Rattle.host.proofs.Ending.{refused_reply, plan_reply_law}
use Rattle.host.proofs.planner_plan_sheet.Goals as goal

pub returns-in-Ok : goal.returns-in-Ok
returns-in-Ok c =
    plan_reply_law c.args.sheet.now c.args.page.now c.args.place c.in-Ok.roster c.in-Ok.ensures.0 c.in-Ok.ensures.2 _ _ c.file_plan.ensures _ c.number_of.ensures

pub returns-in-Err : goal.returns-in-Err
returns-in-Err c =
    refused_reply c.args.sheet.now c.args.page.now c.args.place c.in-Err.refused.refusal c.in-Err.ensures.0 _ c.number.ensures
