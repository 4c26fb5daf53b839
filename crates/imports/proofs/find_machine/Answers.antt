-- `imports::find_machine` meets its contract.
use native.Mathlib.Omega.{arith}
use mathlib.Core.Path.{◌≡◌, sym, ap, ◌∙◌}
use Rattle.std.proofs.Common.{true, Err}
use Rattle.gmf.specs.Machine.{InRange, machine}
use Rattle.ranges.specs.Ranges.{speeds_fit}
use Rattle.ranges.proofs.Rules.{machine_range}
use Rattle.planner.specs.Model.{opened}
use Rattle.planner.specs.Roster.{roster_of}
use Rattle.imports.specs.Imports.{found_in}
use Rattle.imports.proofs.Outcomes.{imported_1, imported_18, imported_19, imported_2, imported_0}
use Rattle.imports.proofs.find_machine.Goals as goal

pub returns-then-not-one_to : goal.returns-then-not-one_to
unfolding found_in
returns-then-not-one_to c = ap found_in (sym (imported_1 _ _ (sym c.if-not-one_to.ensures)))

pub returns-in-Err-NoList : goal.returns-in-Err-NoList
unfolding found_in
returns-in-Err-NoList c = ap found_in (sym (imported_18 _ _ (sym c.if-not-one_to.ensures) (ap Err (sym c.in-Err-NoList.field-0-is) ∙ c.in-Err-NoList.ensures)))

pub returns-in-Err-Uneven : goal.returns-in-Err-Uneven
unfolding found_in
returns-in-Err-Uneven c = ap found_in (sym (imported_19 _ _ (sym c.if-not-one_to.ensures) (ap Err (sym c.in-Err-Uneven.field-0-is) ∙ c.in-Err-Uneven.ensures)))

pub returns-then-not-speeds_fit : goal.returns-then-not-speeds_fit
unfolding found_in
returns-then-not-speeds_fit c =
    let speeds = sym (rw (c.from.ensures, c.from-2.ensures) at c.speeds_fit.ensures) ∙ c.if-not-speeds_fit.true in
    ap found_in (sym (imported_2 _ _ (sym c.if-not-one_to.ensures) c.in-Ok.clock c.in-Ok.ensures speeds))

-- The speeds are looked at as the clock has them.
speeds : (c : goal.Else-not-speeds_fit) → speeds_fit c.in-Ok.clock.levels c.in-Ok.clock.lowest c.in-Ok.clock.step ≡ true
speeds c = sym (rw (c.from.ensures, c.from-2.ensures) at c.speeds_fit.ensures) ∙ c.if-not-speeds_fit.false

-- The numbers of the machine have room in their fields.
in_range : (c : goal.Else-not-speeds_fit) → InRange (machine c.args.processors c.in-Ok.clock.levels c.in-Ok.clock.lowest c.in-Ok.clock.step)
in_range c = machine_range _ _ _ _ (sym c.if-not-one_to.ensures) (speeds c)

pub overflow_cast-result : goal.overflow_cast-result
unfolding machine
overflow_cast-result c = omega (arith, in_range c)

pub overflow_cast-result-2 : goal.overflow_cast-result-2
unfolding machine
overflow_cast-result-2 c = omega (arith, in_range c)

pub overflow_cast-result-3 : goal.overflow_cast-result-3
unfolding machine
overflow_cast-result-3 c = omega (arith, in_range c)

pub overflow_cast-result-4 : goal.overflow_cast-result-4
unfolding machine
overflow_cast-result-4 c = omega (arith, in_range c)

pub returns : goal.returns
unfolding found_in roster_of opened machine
returns c = ap found_in (sym (imported_0 _ _ (sym c.if-not-one_to.ensures) c.in-Ok.clock c.in-Ok.ensures (speeds c)))
