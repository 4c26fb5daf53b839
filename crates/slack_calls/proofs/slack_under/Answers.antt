-- `slack_calls::slack_under` meets its contract.
use Prim.Native.Nat.{ℕ, suc, ◌+◌, ◌*◌, ◌≤◌, ◌<◌, min}
use native.Mathlib.Numerals.{add-one}
use native.Mathlib.Omega.{arith}
use mathlib.Core.Path.{◌≡◌, refl, sym, ap, ap₂, subst, ◌∙◌}
use borrow.Author.Rules.{rules}
use lib.IntN.{sub_ℕ}
use mir.Syntax.{w64}
use mir.ValLaws.{to_z-of_z}
use lib.ListN.{length, get_or}
use Rattle.gmf.specs.declared.Job.{Job}
use Rattle.gmf.specs.Machine.{speed, top}
use Rattle.gmf.specs.Jobs.{hyperperiod, work}
use Rattle.growing.proofs.Shares.{given, ticks_are, ticks_most, work_is}
use Rattle.slack.specs.declared.Slack.{Slack}
use Rattle.slack.proofs.Tests.{top_some}
use Rattle.slack.proofs.Results.{slacks}
use Rattle.slack_calls.proofs.Walk.{Walked, Weighed, walk_begin, weigh_all, sum_most, weigh_next, need_few, slack_is, walk_on, walk_end}
use Rattle.slack_calls.proofs.slack_under.Goals.{After-speed_of, Joined-i-steps, then-i-steps, else-i-steps}
use Rattle.slack_calls.proofs.slack_under.Goals as goal

pub loop-i-init : goal.loop-i-init
loop-i-init c = walk_begin _ _ (given c.args.share) _ _ c.none_taken-job.ensures

supply_few : (c : After-speed_of) → c.loop-i.supply + c.args.share.totals.hyperperiod * c.speed_of.result < 9223372036854775808
supply_few c =
    let done = ticks_most c.args.share c.speed_of.result 4294967296 (omega arith) in
    omega (arith, done, c.loop-i.invariant.bounded, c.requires, c.args.share.machine_in_range.processors.1, c.loop-i-test.true)

pub overflow_add-supply : goal.overflow_add-supply
overflow_add-supply c = omega (arith, supply_few c)

pub overflow_add-taken : goal.overflow_add-taken
overflow_add-taken c =
    let s = c.args.share in
    let i = c.loop-i.i in
    let more : suc i < min s.machine.processors (length s.jobs.now) = omega (arith, c.if-i-steps.true, c.steps_of-steps.ensures) in
    let e = c.work_of-taken.ensures ∙ ap (λ (h : ℕ). work h c.next_job-job.result) (ticks_are s) in
    omega (arith, sum_most _ _ (given s) c.args.levels.now i _ _ _ _ more (c.loop-i.invariant.told (omega arith)) c.next_job-job.ensures e)

ready : (c : Joined-i-steps) → Weighed c.args.share.machine c.args.share.jobs.now c.if-i-steps.taken c.if-i-steps.job c.if-i-steps.demand c.loop-i.i
ready c =
    let s = c.args.share in
    let g = c.loop-i in
    let plan = c.args.levels.now in
    elim c.if-i-steps.branch [
      | then-i-steps w ↦
          let more : suc g.i < min s.machine.processors (length s.jobs.now) = omega (arith, w.if-i-steps.true, c.steps_of-steps.ensures) in
          let e = w.work_of-taken.ensures ∙ ap (λ (h : ℕ). work h w.next_job-job.result) (ticks_are s) in
          subst (λ (job : Job). Weighed s.machine s.jobs.now c.if-i-steps.taken job c.if-i-steps.demand g.i) (sym w.job-is)
          (weigh_next _ _ (given s) plan g.i _ _ _ _ more (g.invariant.told (omega arith)) w.next_job-job.ensures e _ _ w.taken-is (w.demand-is ∙ sym w.taken-is))
      | else-i-steps w ↦
          let last : min s.machine.processors (length s.jobs.now) ≤ suc g.i = omega (arith, w.if-i-steps.false, c.steps_of-steps.ensures) in
          weigh_all _ _ (given s) plan g.i _ _ _ last (omega (arith, w.taken-is, g.invariant.most)) (w.demand-is ∙ work_is s)
    ]

need_is : (c : Joined-i-steps) → c.top_speed-top.result * c.if-i-steps.demand ≡ top c.args.share.machine * c.if-i-steps.demand
need_is c = ap (λ (q : ℕ). q * c.if-i-steps.demand) c.top_speed-top.ensures

need_small : (c : Joined-i-steps) → c.top_speed-top.result * c.if-i-steps.demand < 9223372036854775808
need_small c =
    let s = c.args.share in
    omega (arith, need_is c, need_few _ _ (given s) c.args.levels.now _ _ _ _ (ready c) s.machine_in_range.top_speed)

pub overflow_mul-top : goal.overflow_mul-top
overflow_mul-top c = omega (arith, need_small ((goal.at.overflow_mul-top c).Joined-i-steps))

pub slack_between-slack-requires : goal.slack_between-slack-requires
slack_between-slack-requires c =
    (supply_few ((goal.at.slack_between-slack-requires c).After-speed_of), need_small ((goal.at.slack_between-slack-requires c).Joined-i-steps))

pub overflow_cast-remainders : goal.overflow_cast-remainders
overflow_cast-remainders c =
    let s = c.args.share in
    let some : 0 < c.top_speed-top.result = omega (arith, c.top_speed-top.ensures, top_some s.machine s.machine_in_range) in
    let r = (slacks.divides (sub_ℕ (c.loop-i.supply + s.totals.hyperperiod * c.speed_of.result) (c.top_speed-top.result * c.if-i-steps.demand)) c.top_speed-top.result some).below in
    omega (arith, r, ap (λ (q : Slack). q.remainder) c.slack_between-slack.ensures, c.top_speed-top.ensures, s.machine_in_range.top_speed)

pub loop-i-preserved : goal.loop-i-preserved
loop-i-preserved c =
    let s = c.args.share in
    let g = c.loop-i in
    let plan = c.args.levels.now in
    let joined = (goal.at.loop-i-preserved c).Joined-i-steps in
    let inside : g.i < s.machine.processors = omega (arith, c.requires, c.loop-i-test.true) in
    let few : speed s.machine (get_or plan g.i 0) ≤ 4294967296 = omega (arith, c.speed_of.ensures) in
    let supplied : g.supply + s.totals.hyperperiod * c.speed_of.result ≡ g.supply + hyperperiod s.jobs.now * speed s.machine (get_or plan g.i 0)
    = ap₂ (λ (h v : ℕ). g.supply + h * v) (ticks_are s) c.speed_of.ensures in
    let is = slack_is _ _ (given s) plan _ _ _ _ _ _ g.invariant inside c.requires _ _ _ (ready joined) _ _ refl few supplied
    _ _ c.slack_between-slack.result c.top_speed-top.ensures (need_is joined) c.slack_between-slack.ensures in
    subst (Walked s.machine s.jobs.now plan _ _ _ _ _) (sym (add-one g.i))
    (walk_on _ _ (given s) plan _ _ _ _ _ _ g.invariant inside c.requires _ _ _ (ready joined) _ _ refl few supplied
    c.slack_between-slack.result is _ _ (to_z-of_z w64 c.slack_between-slack.result.ticks (search rules)) refl)

pub returns : goal.returns
returns c = walk_end _ _ (given c.args.share) c.args.levels.now _ _ _ _ _ _ c.loop-i.invariant (omega (arith, c.requires, c.loop-i-test.false, c.loop-i.auto))
