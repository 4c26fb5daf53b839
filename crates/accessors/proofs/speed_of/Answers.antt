-- `accessors::speed_of` meets its contract.
use Prim.Native.Nat.{◌*◌, ◌≤◌, ◌<◌}
use native.Mathlib.Nat.{mul-le-mul}
use native.Mathlib.Omega.{arith}
use mathlib.Core.Path.{refl}
use borrow.Author.Rules.{rules}
use Rattle.gmf.specs.Machine.{speed}
use Rattle.accessors.proofs.speed_of.Goals.{Start}
use Rattle.accessors.proofs.speed_of.Goals as goal

-- Whichever of the machine's numbers are multiplied, the product fits.
products : (c : Start) →
    let M = c.args.machine in (c.args.level * M.step ≤ 255 * 255) × (c.args.level * M.levels ≤ 255 * 255) × (M.lowest < 65536)
products c =
    let M = c.args.machine in
    let l : c.args.level < 256 = search rules in
    let n : M.levels < 256 = search rules in
    let d : M.step < 256 = search rules in
    let b : M.lowest < 65536 = search rules in
    let l' : c.args.level ≤ 255 = omega arith in
    let n' : M.levels ≤ 255 = omega arith in
    let d' : M.step ≤ 255 = omega arith in
    (mul-le-mul l' d', mul-le-mul l' n', b)

pub overflow_mul-result : goal.overflow_mul-result
overflow_mul-result c = omega (arith, products c.before.before)

pub overflow_add-result : goal.overflow_add-result
overflow_add-result c = omega (arith, products c.before.before)

pub returns : goal.returns
unfolding speed
returns c = refl
