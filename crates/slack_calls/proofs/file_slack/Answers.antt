-- `slack_calls::file_slack` meets its contract.
use mathlib.Core.Path.{refl, sym, ap, ap₂, ◌∙◌}
use Rattle.std.specs.Prelude.{is_some, is_err}
use Rattle.std.proofs.lemmas.Result.{err_from_is_err_and}
use Rattle.gmf.specs.declared.Machine.{Machine}
use Rattle.growing.specs.Plan.{planned}
use Rattle.planner.specs.Claims.{IsSound}
use Rattle.planner.proofs.Replies.{share_open, totalled}
use Rattle.filing.proofs.Replies.{reply_untotalled, reply_open}
use Rattle.filing.proofs.Sound.{some_plan}
use Rattle.filing.proofs.Written.{put_at, put_written, put_none}
use Rattle.slack_calls.specs.Slacks.{slack_filed, slack_reply}
use Rattle.slack_calls.specs.Claims.{slack_length}
use Rattle.slack_calls.proofs.Filed.{slack_size, line_is, filed_is}
use Rattle.slack_calls.proofs.file_slack.Goals as goal

pub returns-in_err-share : goal.returns-in_err-share
unfolding slack_reply slack_filed
returns-in_err-share c =
    let p = err_from_is_err_and c.from_residual.result c.from_residual.ensures.1 in
    rw (p.1, p.2) (reply_untotalled slack_filed c.args.roster.now c.args.page.now c.args.place refl _ c.in_err-share.ensures)

pub unwrap-plan-requires : goal.unwrap-plan-requires
unwrap-plan-requires c =
    let sound : IsSound c.args.roster.now = (share_open _ _ c.in_ok-share.ensures).0 in
    ap is_some (c.grow.ensures ∙ ap₂ planned c.in_ok-share.ensures.machine c.in_ok-share.ensures.jobs) ∙ some_plan c.args.roster.now sound

pub returns-in-Err : goal.returns-in-Err
unfolding slack_reply slack_filed
returns-in-Err c =
    let s = c.in_ok-share.ensures in
    let sound : IsSound c.args.roster.now = (share_open _ _ s).0 in
    let grown = sym c.unwrap-plan.ensures ∙ c.grow.ensures ∙ ap₂ planned s.machine s.jobs in
    put_none c.args.page.now c.args.place _ _ _
    (put_at c.args.page.now c.args.place _ c.write_slack.ensures refl refl (line_is c.args.roster.now sound c.unwrap-plan.result grown c.in_ok-share.share s.machine s.jobs _ c.slack_under-slacks.ensures))
    (ap is_err c.in-Err.is)
    ∙ filed_is c.args.roster.now sound c.args.page.now c.args.place
    ∙ reply_open slack_filed c.args.roster.now s.entries s.places c.args.page.now c.args.place _ (totalled _ _ s.totals)

pub returns-in-Ok : goal.returns-in-Ok
unfolding slack_reply slack_filed
returns-in-Ok c =
    let s = c.in_ok-share.ensures in
    let sound : IsSound c.args.roster.now = (share_open _ _ s).0 in
    let grown = sym c.unwrap-plan.ensures ∙ c.grow.ensures ∙ ap₂ planned s.machine s.jobs in
    put_written c.args.page.now c.args.place _ _ _ _
    (put_at c.args.page.now c.args.place _ c.write_slack.ensures refl refl (line_is c.args.roster.now sound c.unwrap-plan.result grown c.in_ok-share.share s.machine s.jobs _ c.slack_under-slacks.ensures))
    (ap is_err c.in-Ok.is)
    (ap (λ (M : Machine). slack_length M.processors) s.machine ∙ sym (slack_size _ _ _))
    ∙ filed_is c.args.roster.now sound c.args.page.now c.args.place
    ∙ reply_open slack_filed c.args.roster.now s.entries s.places c.args.page.now c.args.place _ (totalled _ _ s.totals)
