-- The slack that is filed: of a plan that passes, and each number with room in its field.
use Prim.Native.Nat.{ℕ, zero, suc, ◌+◌, ◌-◌, ◌*◌, ◌≤◌, ◌<◌}
use native.Mathlib.Nat.{mul-le-mul, div-le_self, min-eq_left}
use native.Mathlib.Decide.{dec_le}
use native.Mathlib.Omega.{arith}
use mathlib.Core.Path.{◌≡◌, refl, sym, ap, subst, ◌∙◌}
use mathlib.Core.List.{List, ◌++◌}
use lib.IntN.{ℤ, pos, sub_ℕ}
use lib.ListN.{length, take, drop, replicate, length-replicate}
use lib.Signed.{◌≤ℤ◌}
use Rattle.gmf.specs.declared.Machine.{Machine}
use Rattle.gmf.specs.declared.Job.{Job}
use Rattle.gmf.specs.Machine.{top}
use Rattle.gmf.specs.Jobs.{hyperperiod, works}
use Rattle.gmf.specs.Capacity.{capacity}
use Rattle.gmf.specs.Growing.{Growth, Grown, NoPlan, demand, plan_of}
use Rattle.gmf.specs.Claims.{Least}
use Rattle.gmf.proofs.Sums.{first_at_most, first_replicate}
use Rattle.gmf.proofs.Capacity.{capacity_under, capacity_level, holds_le}
use Rattle.gmf.proofs.Growing.{plan_within}
use Rattle.gmf.proofs.Results.{method}
use Rattle.slack.specs.Slack.{slack_of, difference, slack_at}
use Rattle.slack.proofs.Division.{sub_more}
use Rattle.slack.proofs.Tests.{top_some}
use Rattle.slack.proofs.Results.{slacks}
use Rattle.slack_writer.specs.Claims.{Signed64}
use Rattle.planner.specs.declared.Roster.{Roster}
use Rattle.planner.specs.Model.{Model, Closed, Opened}
use Rattle.planner.specs.Claims.{Kept}
use Rattle.refusals.specs.declared.Refusal.TheVariants as refusal
use Rattle.refusals.proofs.Results.{number_rule}
use Rattle.filing.specs.Plans.{Filed, put_on}
use Rattle.filing.specs.Claims.{ReplyRule}
use Rattle.filing.proofs.Written.{put_room, put_no_room, put_rule}
use Rattle.filing.proofs.Sound.{grown}
use Rattle.filing.proofs.Replies.{unwritten_rule, any_reply, reply_kept}
use Rattle.slack_calls.specs.Slacks.{slack_line, slack_as, slack_filed_on, slack_filed, slack_reply}
use Rattle.slack_calls.specs.Claims.{slack_length, FiledSlack, SlackRule, SlackClosed}
use Rattle.slack_calls.proofs.Filed.{slack_size}

-- Ticks that are not below zero are at most what the test has.
ticks_few : (a b q : ℕ) → b ≤ a → a < 9223372036854775808 → Signed64 (slack_of (sub_ℕ a b) (suc q)).ticks
unfolding slack_of Signed64
ticks_few a b q h few = subst (λ (d : ℤ). Signed64 (slack_of d (suc q)).ticks) (sym (sub_more a b h)) (omega (arith, div-le_self (a - b) (suc q)))

module _ (M : Machine) (table : List ℕ) (jobs : List Job) (kept : Kept (Opened M table jobs)) (plan : List ℕ) (raises : ℕ) (e : plan_of M jobs ≡ Grown plan raises) where
  abbrev H : ℕ
  H = hyperperiod jobs

  abbrev ws : List ℕ
  ws = works jobs

  least : Least M H ws plan raises
  least = (method.plans_jobs M kept.0.machine_range.processors.0 kept.0.machine_range.levels.0 jobs).found plan raises e

  fast : 0 < top M
  fast = top_some M kept.0.machine_range

  enough : (i : ℕ) → 1 ≤ i → i ≤ M.processors → pos 0 ≤ℤ (slack_at M H ws plan i).ticks
  enough = ((slacks.tests M fast H ws plan).enough kept.0.machine_range.processors.0).0 least.passing

  -- No plan has more than every core at top speed.
  capacity_most : (i : ℕ) → i ≤ M.processors → capacity M i plan ≤ i * top M
  unfolding top
  capacity_most i h =
      let most = first_at_most (M.levels - 1) plan (plan_within M plan least.is_plan) i in
      subst (λ (n : ℕ). capacity M i plan ≤ n) (capacity_level M (M.levels - 1) i h)
      (capacity_under M i plan (replicate M.processors (M.levels - 1)) (least.is_plan.size ∙ sym (length-replicate M.processors (M.levels - 1)))
      (rw (first_replicate M.processors (M.levels - 1) i, min-eq_left h) most))

  has_few : (i : ℕ) → i ≤ M.processors → H * capacity M i plan < 9223372036854775808
  has_few i h =
      let m : i ≤ 32 = omega (arith, kept.0.machine_range.processors.1) in
      let c : capacity M i plan ≤ 32 * 256 = omega (arith, capacity_most i h, mul-le-mul m kept.0.machine_range.top_speed) in
      omega (arith, mul-le-mul kept.0.within_limit c)

  ticks_fit : (i : ℕ) → 1 ≤ i → i ≤ M.processors → Signed64 (slack_at M H ws plan i).ticks
  unfolding slack_at difference
  ticks_fit i o h = go (top M) fast
    where
      passes : top M * demand M H ws i ≤ H * capacity M i plan
      passes = holds_le M H ws i plan ((method.same_tests M kept.0.machine_range.processors.0 H ws plan).0 least.passing i o h)

      go : (Q : ℕ) → 0 < Q → Signed64 (slack_of (sub_ℕ (H * capacity M i plan) (top M * demand M H ws i)) Q).ticks
      go zero n = absurd (omega arith)
      go (suc q) n = ticks_few (H * capacity M i plan) (top M * demand M H ws i) q passes (has_few i h)

  remainders_fit : (i : ℕ) → 1 ≤ i → i ≤ M.processors → (slack_at M H ws plan i).remainder < 256
  unfolding slack_at
  remainders_fit i o h = omega (arith, (slacks.divides (difference M H ws plan i) (top M) fast).below, kept.0.machine_range.top_speed)

  is_filed : (page : List ℕ) (place : ℕ) → slack_filed (Opened M table jobs) page place ≡ put_on page place (slack_line M jobs plan)
  unfolding slack_filed slack_filed_on slack_as
  is_filed page place = ap (λ (g : Growth). slack_as M jobs g page place) e

  filed_slack : FiledSlack M table jobs plan raises
  filed_slack =
      let line = slack_line M jobs plan in
      let size = slack_size M jobs plan in
      record {
        grown = e;
        enough = enough;
        ticks_fit = ticks_fit;
        remainders_fit = remainders_fit;
        frame = unfold slack_line in refl;
        size = size;
        written = λ page place h.
            is_filed page place
            ∙ put_room page place line (subst (λ (n : ℕ). place + n ≤ length page) (sym size) h)
            ∙ ap (λ (n : ℕ). record { number = 0; page = take place page ++ (line ++ drop (place + n) page); count = n }) size;
        no_room = λ page place n.
            is_filed page place ∙ put_no_room page place line (λ h. n (subst (λ (k : ℕ). place + k ≤ length page) size h));
      }

-- ---- On every model that calls can make

pub slack_closed : SlackClosed
unfolding slack_filed
slack_closed page place = ap (λ (n : ℕ). record { number = n; page = page; count = 0 }) number_rule.no_machine

found : (M : Machine) (table : List ℕ) (jobs : List Job) → Kept (Opened M table jobs) → (plan : List ℕ) × (raises : ℕ) × FiledSlack M table jobs plan raises
found M table jobs kept =
    let g = grown M kept.0.machine_range jobs kept.0.some_plan in
    (g.0, g.1, filed_slack M table jobs kept g.0 g.1 g.2)

not_7 : (model : Model) → Kept model → (page : List ℕ) (place : ℕ) → (slack_filed model page place).number ≡ 7 → ⊥
not_7 Closed kept page place e = omega (arith, ap (λ (f : Filed). f.number) (slack_closed page place))
not_7 (Opened M table jobs) kept page place e = go (dec_le (place + slack_length M.processors) (length page))
  where
    go : Dec (place + slack_length M.processors ≤ length page) → ⊥
    go (yes h) = omega (arith, ap (λ (f : Filed). f.number) ((found M table jobs kept).2.written page place h))
    go (no n) = omega (arith, ap (λ (f : Filed). f.number) ((found M table jobs kept).2.no_room page place n))

pub slack_rule : (model : Model) → Kept model → SlackRule model
unfolding slack_reply
slack_rule model kept = record {
  follows = reply_kept slack_filed model kept;
  never_7 = not_7 model kept;
  slack = λ M table jobs e. found M table jobs (subst Kept e kept);
}

rule_as : (M : Machine) (jobs : List Job) (g : Growth) (page : List ℕ) (place : ℕ) → ReplyRule (slack_as M jobs g page place) page place
unfolding slack_as
rule_as M jobs (Grown plan raises) page place = put_rule page place (slack_line M jobs plan)
rule_as M jobs NoPlan page place = unwritten_rule refusal.NoPlan page place

rule_on : (model : Model) (page : List ℕ) (place : ℕ) → ReplyRule (slack_filed model page place) page place
unfolding slack_filed slack_filed_on
rule_on Closed page place = unwritten_rule refusal.NoMachine page place
rule_on (Opened M table jobs) page place = rule_as M jobs (plan_of M jobs) page place

pub reply_rule : (r : Roster) (page : List ℕ) (place : ℕ) → ReplyRule (slack_reply r page place) page place
unfolding slack_reply
reply_rule = any_reply slack_filed rule_on
