-- `calls::call_frame` meets its contract.
use mathlib.Core.Path.{sym, ap, ◌∙◌}
use Rattle.std.specs.Prelude.{Option, Some}
use Rattle.frame_kinds.specs.declared.Frame.{Frame}
use Rattle.calls.specs.Lines.{asked_as, reply_as}
use Rattle.calls.proofs.Asking.{as_malformed, as_change, as_filed}
use Rattle.calls.proofs.call_frame.Goals as goal

pub returns-in_default : goal.returns-in_default
unfolding asked_as
returns-in_default c = as_malformed c.args.roster _ c.args.page.now c.args.place _ c.malformed.ensures (ap asked_as c.in_default.is)

pub returns-in-Machine : goal.returns-in-Machine
unfolding asked_as
returns-in-Machine c =
    as_change c.args.roster _ c.args.page.now c.args.place _ _ _ c.changed.ensures c.open_machine.ensures (ap asked_as c.in-Some.is ∙ ap (λ (q : Frame). asked_as (Some q)) c.in-Machine.is)

pub returns-in-Power : goal.returns-in-Power
unfolding asked_as
returns-in-Power c =
    c.replace_table.ensures c.args.page.now c.args.place
    ∙ ap (λ (q : Option Frame). reply_as c.args.roster (asked_as q) c.args.page.now c.args.place) (sym (c.in-Some.is ∙ ap (λ (q : Frame). Some q) c.in-Power.is))

pub returns-in-Admit : goal.returns-in-Admit
unfolding asked_as
returns-in-Admit c =
    c.admit.ensures c.args.page.now c.args.place
    ∙ ap (λ (q : Option Frame). reply_as c.args.roster (asked_as q) c.args.page.now c.args.place) (sym (c.in-Some.is ∙ ap (λ (q : Frame). Some q) c.in-Admit.is))

pub returns-in-Retire : goal.returns-in-Retire
unfolding asked_as
returns-in-Retire c =
    as_change c.args.roster _ c.args.page.now c.args.place _ _ _ c.changed-in-Retire.ensures c.retire.ensures (ap asked_as c.in-Some.is ∙ ap (λ (q : Frame). asked_as (Some q)) c.in-Retire.is)

pub returns-in-PlanWanted : goal.returns-in-PlanWanted
unfolding asked_as reply_as
returns-in-PlanWanted c =
    as_filed c.args.roster (asked_as c.args.frame) c.args.page.now c.args.place _ _ _ c.file_plan.ensures
    (ap (λ (q : Option Frame). reply_as c.args.roster (asked_as q) c.args.page.now c.args.place) (c.in-Some.is ∙ ap (λ (q : Frame). Some q) c.in-PlanWanted.is))

pub returns-in-SlackWanted : goal.returns-in-SlackWanted
unfolding asked_as reply_as
returns-in-SlackWanted c =
    as_filed c.args.roster (asked_as c.args.frame) c.args.page.now c.args.place _ _ _ c.file_slack.ensures
    (ap (λ (q : Option Frame). reply_as c.args.roster (asked_as q) c.args.page.now c.args.place) (c.in-Some.is ∙ ap (λ (q : Frame). Some q) c.in-SlackWanted.is))

pub returns-in-AdmitDue : goal.returns-in-AdmitDue
unfolding asked_as
returns-in-AdmitDue c =
    c.admit-in-AdmitDue.ensures c.args.page.now c.args.place
    ∙ ap (λ (q : Option Frame). reply_as c.args.roster (asked_as q) c.args.page.now c.args.place) (sym (c.in-Some.is ∙ ap (λ (q : Frame). Some q) c.in-AdmitDue.is))
