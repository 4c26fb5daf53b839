-- `workload::Totals::with` meets its contract.
use Prim.Native.Nat.{ℕ, ◌*◌, ◌/◌, ◌≤◌, ◌<◌}
use native.Mathlib.Nat.{div-le_self, mul-le-mul, mul-le-mul_right}
use native.Mathlib.Omega.{arith}
use mathlib.Core.Path.{◌≡◌, ap, sym, ◌∙◌}
use mathlib.Core.Bool.{◌&&◌}
use lib.Dec.{leb}
use Rattle.gmf.specs.Jobs.{window, hyperperiod_limit}
use Rattle.workload.proofs.Loads.{window_pos, common_pos, with_same, with_longer, with_too_long, share_bound, factor_bound}
use Rattle.workload.proofs.Totals.with.Goals.{After-gcd-common, Else-longer-gt-HYPERPERIOD_LIMIT, Joined-self, then-self, else-self}
use Rattle.workload.proofs.Totals.with.Goals as goal

window-is : (c : Joined-self) → c.window-window.result ≡ window c.args.job
window-is c = c.window-window.ensures

fit_is : (c : Joined-self) → c.if-self.fit ≡ (c.args.self.fit && leb c.args.job.cost (window c.args.job))
fit_is c =
    let m = leb c.args.job.cost (window c.args.job) in
    elim c.if-self.branch [
      | then-self w ↦ w.fit-is ∙ ap (leb c.args.job.cost) (window-is c) ∙ sym (ap (λ b. b && m) w.if-self.true)
      | else-self w ↦ w.fit-is ∙ w.if-self.false ∙ sym (ap (λ b. b && m) w.if-self.false)
    ]

positive : (c : Joined-self) → 0 < c.window-window.result
positive c = let s = c.before.before in window_pos s.args.self s.args.job s.requires.job_in_range s.requires.hyperperiod_nonzero.0 _ (window-is c)

share : (c : Joined-self) (d : ℕ) → c.args.job.cost * (c.args.self.hyperperiod / d) ≤ 65535 * c.args.self.hyperperiod
share c = let s = c.before.before in share_bound s.args.self s.args.job s.requires.job_in_range s.requires.hyperperiod_nonzero.0 _ (window-is c)

pub nonzero_rem-rest : goal.nonzero_rem-rest
nonzero_rem-rest c = positive c.before

-- ---- The window divides the hyperperiod
pub nonzero_div-work : goal.nonzero_div-work
nonzero_div-work c = positive c.before.before

pub overflow_cast-work : goal.overflow_cast-work
overflow_cast-work c = omega (arith, div-le_self c.args.self.hyperperiod c.window-window.result)

pub overflow_mul-work : goal.overflow_mul-work
overflow_mul-work c = omega (arith, share c.before.before c.window-window.result)

pub overflow_add-work : goal.overflow_add-work
overflow_add-work c = let j = c.before.before.before in omega (arith, share j j.window-window.result)

pub returns-then-rest-eq0 : goal.returns-then-rest-eq0
returns-then-rest-eq0 c =
    let j = c.before.before.before in
    let s = j.before.before in
    with_same s.args.self s.args.job s.requires.job_in_range s.requires.hyperperiod_nonzero.0 _ (window-is j) _ (fit_is j) c.if-rest-eq0.true s.requires.hyperperiod_nonzero.1

pub nonzero_div-factor : goal.nonzero_div-factor
nonzero_div-factor c =
    let s = c.before.before.before.before.before in
    common_pos s.args.self s.args.job s.requires.job_in_range s.requires.hyperperiod_nonzero.0 _ (window-is c.before.before.before) _ c.gcd-common.ensures

factor : (c : After-gcd-common) → c.window-window.result / c.gcd-common.result ≤ 65535
factor c =
    let s = c.before.before.before.before.before in
    factor_bound s.args.self s.args.job s.requires.job_in_range s.requires.hyperperiod_nonzero.0 _ (window-is c.before.before.before) _ c.gcd-common.ensures

pub overflow_cast-factor : goal.overflow_cast-factor
overflow_cast-factor c = omega (arith, factor c)

pub overflow_mul-longer : goal.overflow_mul-longer
overflow_mul-longer c = omega (arith, mul-le-mul c.requires.hyperperiod_nonzero.1 (factor c))

pub returns-then-longer-gt-HYPERPERIOD_LIMIT : goal.returns-then-longer-gt-HYPERPERIOD_LIMIT
returns-then-longer-gt-HYPERPERIOD_LIMIT c =
    let j = c.before.before.before.before in
    let s = j.before.before in
    with_too_long s.args.self s.args.job s.requires.job_in_range s.requires.hyperperiod_nonzero.0 _ (window-is j) _ c.gcd-common.ensures c.if-longer-gt-HYPERPERIOD_LIMIT.true

-- The earlier jobs' works stay within their bound: it grows by the same factor.
scaled : (c : Else-longer-gt-HYPERPERIOD_LIMIT) → c.args.self.work * (c.window-window.result / c.gcd-common.result) ≤ 63 * 65535 * hyperperiod_limit
scaled c =
    let s = c.before.before.before.before.before.before in
    let f = c.window-window.result / c.gcd-common.result in
    omega (arith, mul-le-mul_right f s.requires.hyperperiod_nonzero.2, c.if-longer-gt-HYPERPERIOD_LIMIT.false)

pub overflow_mul-work-2 : goal.overflow_mul-work-2
overflow_mul-work-2 c = omega (arith, scaled c.before)

-- Of the hyperperiod's parts, by the common divisor and by the window.
parts : (c : After-gcd-common) →
    let h = c.args.self.hyperperiod in
    let w = c.window-window.result in
    (h / c.gcd-common.result ≤ h) × (h / w ≤ h)
parts c = (div-le_self _ c.gcd-common.result, div-le_self _ c.window-window.result)

shares : (c : After-gcd-common) →
    let s = c.before.before.before.before.before in
    let h = s.args.self.hyperperiod in
    let w = c.window-window.result in
    (s.args.job.cost * (h / c.gcd-common.result) ≤ 65535 * h) × (s.args.job.cost * (h / w) ≤ 65535 * h)
shares c = (share c.before.before.before c.gcd-common.result, share c.before.before.before c.window-window.result)

pub nonzero_div-work-2 : goal.nonzero_div-work-2
nonzero_div-work-2 c = omega (arith, nonzero_div-factor c.before.before, positive c.before.before.before.before.before)

pub overflow_cast-work-2 : goal.overflow_cast-work-2
overflow_cast-work-2 c = omega (arith, parts c.before.before)

pub overflow_mul-work-3 : goal.overflow_mul-work-3
overflow_mul-work-3 c = omega (arith, shares c.before.before)

pub overflow_add-work-2 : goal.overflow_add-work-2
overflow_add-work-2 c = omega (arith, scaled c.before, shares c.before.before)

pub returns : goal.returns
returns c =
    let g = c.before.before in
    let s = g.before.before.before.before.before in
    with_longer s.args.self s.args.job s.requires.job_in_range s.requires.hyperperiod_nonzero.0 _ (window-is g.before.before.before) _ g.gcd-common.ensures _ (fit_is g.before.before.before) c.if-longer-gt-HYPERPERIOD_LIMIT.false
