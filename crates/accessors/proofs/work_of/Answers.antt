-- `accessors::work_of` meets its contract.
use Prim.Native.Nat.{ℕ, ◌*◌, ◌/◌, ◌≤◌, ◌<◌}
use native.Mathlib.Nat.{mul-le-mul, div-le_self, div-zero}
use native.Mathlib.Omega.{arith}
use mathlib.Core.Path.{◌≡◌, sym, ap, ◌∙◌}
use borrow.Author.Rules.{rules}
use Rattle.gmf.specs.Jobs.{window, work}
use Rattle.accessors.proofs.work_of.Goals as goal

pub returns-then-ticks-eq0 : goal.returns-then-ticks-eq0
unfolding work
returns-then-ticks-eq0 c =
    let a = c.args in
    let none : window a.job ≡ 0 = sym c.window-ticks.ensures ∙ c.if-ticks-eq0.true in
    sym (ap (λ (w : ℕ). a.job.cost * (a.hyperperiod / w)) none ∙ ap (λ (n : ℕ). a.job.cost * n) (div-zero a.hyperperiod) ∙ omega arith)

share : (c : goal.After-struct_known-1) → c.args.hyperperiod / c.window-ticks.result ≤ 4294967295
share c =
    let h : c.args.hyperperiod < 4294967296 = search rules in
    omega (arith, div-le_self c.args.hyperperiod c.window-ticks.result)

pub overflow_cast-result-2 : goal.overflow_cast-result-2
overflow_cast-result-2 c = omega (arith, share c)

pub overflow_mul-result : goal.overflow_mul-result
overflow_mul-result c =
    let job = c.args.job in
    let cost : job.cost < 65536 = search rules in
    let deadline : job.deadline < 65536 = search rules in
    let cost' : job.cost ≤ 65535 = omega arith in
    let deadline' : job.deadline ≤ 65535 = omega arith in
    omega (arith, mul-le-mul cost' (share c), mul-le-mul deadline' (share c))

pub returns : goal.returns
unfolding work
returns c = ap (λ (w : ℕ). c.args.job.cost * (c.args.hyperperiod / w)) c.window-ticks.ensures
