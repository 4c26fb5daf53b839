-- `number::lcm` meets its contract: the product of two 32-bit numbers fits 64 bits.
use Prim.Native.Nat.{◌≤◌, ◌/◌}
use mathlib.Core.Path.{sym}
use native.Mathlib.Omega.{arith}
use native.Mathlib.Nat.{div-le_self, mul-le-mul, pos_of_ne-zero}
use Rattle.number.specs.Divisors.{lcm}
use Rattle.number.proofs.Laws.{gcd_pos, lcm_zero_left}
use Rattle.number.proofs.lcm.Goals as goal

pub returns-then-a-eq0 : goal.returns-then-a-eq0
returns-then-a-eq0 c = sym (rw c.if-a-eq0.true (lcm_zero_left c.args.b))

pub nonzero_div-result : goal.nonzero_div-result
nonzero_div-result c = rw c.gcd.ensures (gcd_pos _ _ (pos_of_ne-zero c.if-a-eq0.false))

pub overflow_mul-result : goal.overflow_mul-result
overflow_mul-result c =
    let a = c.args.a in
    let b = c.args.b in
    let most : b ≤ 4294967295 = omega arith in
    let part : a / c.gcd.result ≤ 4294967295 = omega (arith, div-le_self a c.gcd.result) in
    omega (arith, mul-le-mul part most)

pub returns : goal.returns
unfolding lcm
returns c = rw c.gcd.ensures
