-- `filing::file_plan` meets its contract.
use mathlib.Core.Path.{refl, sym, ap, ap₂, ◌∙◌}
use lib.ListN.{take}
use Rattle.std.specs.Prelude.{is_some, is_err}
use Rattle.std.proofs.lemmas.Result.{err_from_is_err_and}
use Rattle.gmf.specs.declared.Machine.{Machine}
use Rattle.gmf.specs.Power.{total}
use Rattle.growing.specs.Plan.{planned}
use Rattle.planner.specs.Claims.{IsSound}
use Rattle.planner.proofs.Replies.{share_open, totalled}
use Rattle.filing.specs.Plans.{filed, plan_reply}
use Rattle.filing.specs.Claims.{frame_length}
use Rattle.filing.proofs.Replies.{reply_untotalled, reply_open}
use Rattle.filing.proofs.Written.{put_at, put_written, put_none, line_size}
use Rattle.filing.proofs.Sound.{some_plan, level_range, power_range, line_is, filed_is, size_is, found}
use Rattle.filing.proofs.file_plan.Goals as goal

pub returns-in_err-share : goal.returns-in_err-share
unfolding plan_reply filed
returns-in_err-share c =
    let p = err_from_is_err_and c.from_residual.result c.from_residual.ensures.1 in
    rw (p.1, p.2) (reply_untotalled filed c.args.roster.now c.args.page.now c.args.place refl _ c.in_err-share.ensures)

pub unwrap-plan-requires : goal.unwrap-plan-requires
unwrap-plan-requires c =
    let sound : IsSound c.args.roster.now = (share_open _ _ c.in_ok-share.ensures).0 in
    ap is_some (c.grow.ensures ∙ ap₂ planned c.in_ok-share.ensures.machine c.in_ok-share.ensures.jobs) ∙ some_plan c.args.roster.now sound

pub total_power-power-requires-clause-levels_bound : goal.total_power-power-requires-clause-levels_bound
total_power-power-requires-clause-levels_bound c =
    let sound : IsSound c.args.roster.now = (share_open _ _ c.in_ok-share.ensures).0 in
    let grown = sym c.unwrap-plan.ensures ∙ c.grow.ensures ∙ ap₂ planned c.in_ok-share.ensures.machine c.in_ok-share.ensures.jobs in
    level_range c.args.roster.now sound c.unwrap-plan.result grown _ (ap (λ (M : Machine). take M.processors c.unwrap-plan.result.levels) c.in_ok-share.ensures.machine)

pub total_power-power-requires-clause-powers_bound : goal.total_power-power-requires-clause-powers_bound
total_power-power-requires-clause-powers_bound c =
    let sound : IsSound c.args.roster.now = (share_open _ _ c.in_ok-share.ensures).0 in
    let grown = sym c.unwrap-plan.ensures ∙ c.grow.ensures ∙ ap₂ planned c.in_ok-share.ensures.machine c.in_ok-share.ensures.jobs in
    power_range c.args.roster.now sound c.unwrap-plan.result grown

pub returns-in-Err : goal.returns-in-Err
unfolding plan_reply filed
returns-in-Err c =
    let sound : IsSound c.args.roster.now = (share_open _ _ c.in_ok-share.ensures).0 in
    let grown = sym c.unwrap-plan.ensures ∙ c.grow.ensures ∙ ap₂ planned c.in_ok-share.ensures.machine c.in_ok-share.ensures.jobs in
    let levels = ap (λ (M : Machine). take M.processors c.unwrap-plan.result.levels) c.in_ok-share.ensures.machine in
    put_none c.args.page.now c.args.place _ _ _
    (put_at c.args.page.now c.args.place _ c.write_plan-written.ensures refl refl
    (line_is c.args.roster.now sound c.unwrap-plan.result grown c.in_ok-share.ensures.places _ _ _ _ _ refl refl (c.total_power-power.ensures ∙ ap (total c.args.roster.now.table) levels) refl
    levels))
    (ap is_err c.in-Err.is)
    ∙ filed_is c.args.roster.now sound c.unwrap-plan.result grown c.args.page.now c.args.place
    ∙ reply_open filed c.args.roster.now c.in_ok-share.ensures.entries c.in_ok-share.ensures.places c.args.page.now c.args.place _ (totalled _ _ c.in_ok-share.ensures.totals)

pub returns-in-Ok : goal.returns-in-Ok
unfolding plan_reply filed
returns-in-Ok c =
    let sound : IsSound c.args.roster.now = (share_open _ _ c.in_ok-share.ensures).0 in
    let grown = sym c.unwrap-plan.ensures ∙ c.grow.ensures ∙ ap₂ planned c.in_ok-share.ensures.machine c.in_ok-share.ensures.jobs in
    let levels = ap (λ (M : Machine). take M.processors c.unwrap-plan.result.levels) c.in_ok-share.ensures.machine in
    let f = found c.args.roster.now sound in
    put_written c.args.page.now c.args.place _ _ _ _
    (put_at c.args.page.now c.args.place _ c.write_plan-written.ensures refl refl
    (line_is c.args.roster.now sound c.unwrap-plan.result grown c.in_ok-share.ensures.places _ _ _ _ _ refl refl (c.total_power-power.ensures ∙ ap (total c.args.roster.now.table) levels) refl
    levels))
    (ap is_err c.in-Ok.is)
    (ap (λ (M : Machine). frame_length M.processors) c.in_ok-share.ensures.machine
    ∙ ap frame_length (sym (size_is c.args.roster.now sound c.unwrap-plan.result grown))
    ∙ sym (line_size _ _ f.0 f.1))
    ∙ filed_is c.args.roster.now sound c.unwrap-plan.result grown c.args.page.now c.args.place
    ∙ reply_open filed c.args.roster.now c.in_ok-share.ensures.entries c.in_ok-share.ensures.places c.args.page.now c.args.place _ (totalled _ _ c.in_ok-share.ensures.totals)
