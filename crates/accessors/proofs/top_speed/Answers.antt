-- `accessors::top_speed` meets its contract.
use Prim.Native.Nat.{ℕ, ◌-◌, ◌*◌}
use native.Mathlib.Omega.{arith}
use mathlib.Core.Path.{◌≡◌, ap}
use Rattle.gmf.specs.Machine.{speed, top}
use Rattle.accessors.proofs.top_speed.Goals as goal

pub returns-then-machine-eq0 : goal.returns-then-machine-eq0
unfolding top speed
returns-then-machine-eq0 c =
    let M = c.args.machine in
    let none : M.levels - 1 ≡ 0 = omega (arith, c.if-machine-eq0.true) in
    omega (arith, ap (λ (n : ℕ). n * M.step) none)

pub returns : goal.returns
unfolding top
returns c = c.speed_of.ensures
