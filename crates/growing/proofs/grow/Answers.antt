-- `growing::grow` meets its contract.
use Prim.Native.Nat.{ℕ, suc, ◌+◌, ◌*◌, ◌-◌, ◌<◌, ◌≤◌, min}
use native.Mathlib.Nat.{mul-le-mul, le_trans}
use native.Mathlib.Numerals.{add-one}
use native.Mathlib.Omega.{arith}
use mathlib.Core.Path.{◌≡◌, refl, sym, ap, ap₂, subst, ◌∙◌}
use mathlib.Core.List.{List}
use lib.Dec.{leb}
use lib.ListN.{length, set}
use Rattle.gmf.specs.declared.Job.{Job}
use Rattle.gmf.specs.declared.Machine.{Machine}
use Rattle.gmf.specs.Jobs.{hyperperiod, hyperperiod_limit, work, works}
use Rattle.gmf.specs.Capacity.{sum}
use Rattle.workload.specs.declared.Share.{Share}
use Rattle.growing.specs.Plan.{plan_from}
use Rattle.growing.proofs.Raises.{Grows}
use Rattle.growing.proofs.Shares.{given, ticks_are, work_is}
use Rattle.growing.proofs.Works.{Asks, Ready, ready_same, work_most, work_more_most, ready_taken, ready_small, ready_last}
use Rattle.growing.proofs.Loops.{Outer, Inner, outer_begin, inner_begin, supply_bound, raises_bound, outer_next, step_none, grown_more, inner_next, inner_up, finished}
use Rattle.growing.proofs.grow.Goals.{After-work_of-work, Joined-joined-steps, then-joined-steps+then-not-small, then-joined-steps+else-not-small, else-joined-steps}
use Rattle.growing.proofs.grow.Goals as goal

-- ---- What a share says

module _ (s : Share) where
  abbrev M : Machine
  M = s.machine

  abbrev jobs : List Job
  jobs = s.jobs.now

  -- What a number of the machine, times the hyperperiod, add to the supply.
  supply_is : (supply n : ℕ) → supply + s.totals.hyperperiod * n ≡ supply + hyperperiod jobs * n
  supply_is supply n = ap (λ (h : ℕ). supply + h * n) (ticks_are s)

  demand_most : (d : ℕ) → d ≤ sum (works jobs) → d ≤ 64 * 65535 * hyperperiod_limit
  demand_most d h = le_trans h (work_most M jobs (given s))

  -- ---- A raise of a level below the top
  module _ (levels above : List ℕ) (raises supply i v p need : ℕ) (inner : Inner M jobs need levels above raises supply i v p) (inside : i < M.processors)
      (short : supply < need) (low : v < M.levels - 1) where
    grown : Grows M (hyperperiod jobs) (suc i) (set levels p (v + 1)) (set above v (p + 1)) (raises + 1) (supply + s.totals.hyperperiod * M.step)
    grown = grown_more M jobs (given s) _ _ _ _ _ _ _ _ inner inside short low _ _ _ _ refl refl refl (supply_is supply M.step)

    count : raises + 1 ≤ suc i * (M.levels - 1)
    count = raises_bound M jobs (given s) _ _ _ _ _ grown inside

    raises_few : raises + 1 ≤ 32 * 32
    raises_few =
        let i≤ : suc i ≤ 32 = omega (arith, inside, s.machine_in_range.processors.1) in
        let t≤ : M.levels - 1 ≤ 32 = omega (arith, s.machine_in_range.levels.1) in
        le_trans count (mul-le-mul i≤ t≤)

    supply_few : supply + s.totals.hyperperiod * M.step ≤ hyperperiod_limit * (32 * 256)
    supply_few = supply_bound M jobs (given s) _ _ _ _ _ grown inside

-- ---- A step before its raises

ready : (c : Joined-joined-steps) →
    Ready c.args.share.machine c.args.share.jobs.now c.if-joined-steps.demand c.if-joined-steps.taken c.if-joined-steps.job c.if-joined-steps.small
    (c.joining.supply + c.args.share.totals.hyperperiod * c.args.share.machine.lowest) c.joining.i
ready c =
    let s = c.args.share in
    let g = c.joining in
    let now : g.i < min s.machine.processors (length s.jobs.now) = omega arith in
    elim c.if-joined-steps.branch [
      | then-joined-steps+then-not-small w ↦
          let more : suc g.i < min s.machine.processors (length s.jobs.now) = omega arith in
          let e = w.work_of-work.ensures ∙ ap (λ (h : ℕ). work h w.next_job-job.result) (ticks_are s) in
          let small = ap₂ (λ (q n : ℕ). leb (q * w.work_of-work.result) n) c.top_speed-top_speed.ensures (ap (λ (h : ℕ). h * s.machine.lowest) (ticks_are s)) in
          ready_same refl refl w.job-is refl
          (ready_taken _ _ (given s) g.i _ _ _ _ (g.invariant.1.told now) more w.if-not-small.true w.next_job-job.result w.work_of-work.result w.next_job-job.ensures e
          c.if-joined-steps.demand c.if-joined-steps.taken c.if-joined-steps.small w.taken-is (w.demand-is ∙ sym w.taken-is) (w.small-is ∙ small))
      | then-joined-steps+else-not-small w ↦
          let more : suc g.i < min s.machine.processors (length s.jobs.now) = omega arith in
          ready_same refl w.taken-is w.job-is w.small-is
          (ready_small _ _ (given s) g.i g.supply _ _ _ (g.invariant.1.told now) more w.if-not-small.false (g.invariant.1.weighed now) (g.invariant.1.tested now)
          _ c.if-joined-steps.demand (supply_is s g.supply s.machine.lowest) w.demand-is)
      | else-joined-steps w ↦
          let end : suc g.i ≡ min s.machine.processors (length s.jobs.now) = omega arith in
          ready_last _ _ (given s) _ _ _ _ _ _ end (w.demand-is ∙ work_is s)
    ]

pub joining-init : goal.joining-init
joining-init c = (omega arith, outer_begin _ _ (given c.args.share) c.none_taken-job.result c.none_taken-job.ensures)

-- Where another job is taken.
sums : (c : After-work_of-work) → c.joining.taken + c.work_of-work.result ≤ 64 * 65535 * hyperperiod_limit
sums c =
    let s = c.args.share in
    let g = c.joining in
    let now : g.i < min s.machine.processors (length s.jobs.now) = omega arith in
    let more : suc g.i < min s.machine.processors (length s.jobs.now) = omega arith in
    let e = c.work_of-work.ensures ∙ ap (λ (h : ℕ). work h c.next_job-job.result) (ticks_are s) in
    work_more_most _ _ (given s) _ 0 _ _ _ (g.invariant.1.told now) more c.if-not-small.true c.next_job-job.result c.work_of-work.result c.next_job-job.ensures e

pub overflow_add-taken : goal.overflow_add-taken
overflow_add-taken c = omega (arith, sums c)

pub overflow_mul-small : goal.overflow_mul-small
overflow_mul-small c =
    let q : c.top_speed-top_speed.result ≤ 256 = omega (arith, c.args.share.machine_in_range.top_speed) in
    let w : c.work_of-work.result ≤ 64 * 65535 * hyperperiod_limit = omega (arith, sums c) in
    omega (arith, mul-le-mul q w)

pub overflow_mul-need : goal.overflow_mul-need
overflow_mul-need c =
    let s = c.args.share in
    let q : c.top_speed-top_speed.result ≤ 256 = omega (arith, s.machine_in_range.top_speed) in
    omega (arith, mul-le-mul q (demand_most s _ (ready ((goal.at.overflow_mul-need c).Joined-joined-steps)).most))

pub raising-init : goal.raising-init
raising-init c =
    let s = c.args.share in
    let g = c.joining in
    let r = ready ((goal.at.raising-init c).Joined-joined-steps) in
    inner_begin _ _ (given s) _ _ _ _ _ _ _ _ g.invariant.1 (omega arith) _ _ _ _ (supply_is s g.supply s.machine.lowest) (omega arith) refl
    (subst (λ (q : ℕ). Asks s.machine s.jobs.now (q * c.if-joined-steps.demand) (g.supply + s.totals.hyperperiod * s.machine.lowest) g.i)
    (sym c.top_speed-top_speed.ensures) r.asks)

pub overflow_add-raises : goal.overflow_add-raises
overflow_add-raises c =
    omega (arith, raises_few c.args.share _ _ _ _ _ _ _ _ c.raising.invariant (omega arith) c.raising-test.true (omega arith))

pub overflow_add-supply-in-raising : goal.overflow_add-supply-in-raising
overflow_add-supply-in-raising c =
    omega (arith, supply_few c.args.share _ _ _ _ _ _ _ _ c.raising.invariant (omega arith) c.raising-test.true (omega arith))

pub raising-smaller-then-p-joined : goal.raising-smaller-then-p-joined
raising-smaller-then-p-joined c =
    omega (arith, count c.args.share _ _ _ _ _ _ _ _ c.raising.invariant (omega arith) c.raising-test.true (omega arith))

pub raising-preserved-then-p-joined : goal.raising-preserved-then-p-joined
raising-preserved-then-p-joined c =
    let s = c.args.share in
    inner_up _ _ (given s) _ _ _ _ _ _ _ _ c.raising.invariant (omega arith) c.raising-test.true (omega arith) _ _ _ _
    refl refl (omega arith) (supply_is s c.raising.supply s.machine.step) _ _ (omega arith) refl (omega (arith, c.if-p-joined.true))

pub raising-smaller : goal.raising-smaller
raising-smaller c =
    omega (arith, count c.args.share _ _ _ _ _ _ _ _ c.raising.invariant (omega arith) c.raising-test.true (omega arith))

pub raising-preserved : goal.raising-preserved
raising-preserved c =
    let s = c.args.share in
    inner_next _ _ (given s) _ _ _ _ _ _ _ _ c.raising.invariant (omega arith) c.raising-test.true (omega arith) _ _ _ _
    refl refl (omega arith) (supply_is s c.raising.supply s.machine.step) _ (omega arith) (omega (arith, c.if-p-joined.false, c.raising.invariant.slowest.inside))

pub joining-preserved : goal.joining-preserved
joining-preserved c =
    let s = c.args.share in
    let r = ready ((goal.at.joining-preserved c).Joined-joined-steps) in
    let need = ap (λ (q : ℕ). q * c.if-joined-steps.demand) c.top_speed-top_speed.ensures in
    let next = outer_next _ _ (given s) _ _ _ _ _ _ _ _ c.raising.invariant (omega arith) _ _ _ _ _ r need c.raising-test.false in
    (omega arith, rw add-one next)

pub returns-then-v-top_level : goal.returns-then-v-top_level
unfolding plan_from
returns-then-v-top_level c =
    let s = c.args.share in
    ap (plan_from (hyperperiod s.jobs.now))
    (sym (step_none _ _ (given s) _ _ _ _ _ _ _ _ c.raising.invariant (omega arith) c.raising-test.true c.if-v-top_level.true))

pub returns-after-joining : goal.returns-after-joining
returns-after-joining c =
    let s = c.args.share in
    let g = c.joining in
    let last : g.i ≡ min s.machine.processors (length s.jobs.now) = omega arith in
    finished _ _ (given s) _ _ _ _ _ _ _ (subst (Outer s.machine s.jobs.now g.levels g.above g.raises g.supply g.taken g.job g.small) last g.invariant.1)
    _ (ticks_are s)
