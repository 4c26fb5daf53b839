-- `roster_shape::in_shape` meets its contract: what is looked at one test after another is what all the tests say together.
use Prim.Native.Nat.{ℕ, ◌-◌}
use native.Mathlib.Omega.{arith}
use mathlib.Core.Path.{◌≡◌, sym, ap, ◌∙◌}
use mathlib.Core.Bool.{Bool, true, false, ◌&&◌}
use mathlib.Core.List.{List}
use lib.Dec.{leb}
use lib.ListN.{length, take, drop, length-drop}
use lib.Seq.{take_all}
use Rattle.ranges.specs.Ranges.{one_to, speeds_fit}
use Rattle.ranges.proofs.Rules.{speeds_levels}
use Rattle.places.specs.Places.{unused, listed}
use Rattle.power_tables.specs.Entries.{zeros}
use Rattle.power_tables.specs.Tables.{is_table}
use Rattle.roster_shape.specs.Shape.{in_shape}
use Rattle.roster_shape.proofs.in_shape.Goals.{Joined-one_to, Joined-speeds_fit, Joined-accepts, Joined-all_zero, Joined-count-le64}
use Rattle.roster_shape.proofs.in_shape.Goals.{then-one_to, else-one_to, then-speeds_fit, else-speeds_fit, then-accepts, else-accepts}
use Rattle.roster_shape.proofs.in_shape.Goals.{then-all_zero, else-all_zero, then-count-le64, else-count-le64}
use Rattle.roster_shape.proofs.in_shape.Goals as goal

-- The answer v is b's where a holds, and a's where it does not.
both_then : {v a b : Bool} → a ≡ true → v ≡ b → v ≡ (a && b)
both_then holds same = rw holds same

both_else : {v a : Bool} (b : Bool) → a ≡ false → v ≡ a → v ≡ (a && b)
both_else b fails same = rw (same, fails)

-- The part from a place to the end is what stands from there on.
to_the_end : {A : Type 0} (list : List A) (size start : ℕ) → length list ≡ size → take (size - start) (drop start list) ≡ drop start list
to_the_end list size start long = take_all (size - start) (drop start list) (omega (arith, length-drop start list))

-- ---- Each test, with those before it

machine : (c : Joined-one_to)
    → c.if-one_to.value ≡ (one_to 32 c.args.machine.processors && speeds_fit c.args.machine.levels c.args.machine.lowest c.args.machine.step)
machine c = elim c.if-one_to.branch [
  | then-one_to w ↦ both_then (sym c.one_to.ensures ∙ w.if-one_to.true) (w.value-is ∙ w.speeds_fit.ensures)
  | else-one_to w ↦ both_else _ (sym c.one_to.ensures ∙ w.if-one_to.false) (w.value-is ∙ c.one_to.ensures)
]

numbers : (c : Joined-speeds_fit) {before : Bool} → c.if-one_to.value ≡ before
    → c.if-speeds_fit.value ≡ (before && is_table c.args.machine (take c.args.machine.levels c.args.table.now))
numbers c so_far = elim c.if-speeds_fit.branch [
  | then-speeds_fit w ↦ both_then (sym so_far ∙ w.if-speeds_fit.true) (w.value-is ∙ w.accepts.ensures)
  | else-speeds_fit w ↦ both_else _ (sym so_far ∙ w.if-speeds_fit.false) (w.value-is ∙ so_far)
]

rest : (c : Joined-accepts) {before : Bool} → c.if-speeds_fit.value ≡ before
    → c.if-accepts.value ≡ (before && zeros (drop c.args.machine.levels c.args.table.now))
rest c so_far = elim c.if-accepts.branch [
  | then-accepts w ↦ both_then (sym so_far ∙ w.if-accepts.true)
      (w.value-is ∙ w.all_zero.ensures ∙ ap zeros (to_the_end c.args.table.now 32 c.args.machine.levels c.told-table))
  | else-accepts w ↦ both_else _ (sym so_far ∙ w.if-accepts.false) (w.value-is ∙ so_far)
]

count : (c : Joined-all_zero) {before : Bool} → c.if-accepts.value ≡ before → c.if-all_zero.value ≡ (before && leb c.args.held 64)
count c so_far = elim c.if-all_zero.branch [
  | then-all_zero w ↦ both_then (sym so_far ∙ w.if-all_zero.true) w.value-is
  | else-all_zero w ↦ both_else _ (sym so_far ∙ w.if-all_zero.false) (w.value-is ∙ so_far)
]

jobs : (c : Joined-count-le64) {before : Bool} → c.if-all_zero.value ≡ before
    → c.if-count-le64.value ≡ (before && listed (take c.args.held c.args.jobs.now))
jobs c so_far = elim c.if-count-le64.branch [
  | then-count-le64 w ↦ both_then (sym so_far ∙ w.if-count-le64.true) (w.value-is ∙ w.listed.ensures)
  | else-count-le64 w ↦ both_else _ (sym so_far ∙ w.if-count-le64.false) (w.value-is ∙ so_far)
]

-- ---- The goals

pub shared_ref_as_front-accepts : goal.shared_ref_as_front-accepts
shared_ref_as_front-accepts c =
    let M = c.args.machine in
    let fitting : speeds_fit M.levels M.lowest M.step ≡ true = grind arith in
    speeds_levels M.levels M.lowest M.step fitting

pub returns-then-listed : goal.returns-then-listed
unfolding in_shape
returns-then-listed c =
    let at = goal.at.returns-then-listed c in
    let so_far = jobs at.Joined-count-le64 (count at.Joined-all_zero (rest at.Joined-accepts (numbers at.Joined-speeds_fit (machine at.Joined-one_to)))) in
    both_then (sym so_far ∙ c.if-listed.true) (c.unused.ensures ∙ ap unused (to_the_end c.args.jobs.now 64 c.args.held c.told-jobs))

pub returns-else-listed : goal.returns-else-listed
unfolding in_shape
returns-else-listed c =
    let at = goal.at.returns-else-listed c in
    let so_far = jobs at.Joined-count-le64 (count at.Joined-all_zero (rest at.Joined-accepts (numbers at.Joined-speeds_fit (machine at.Joined-one_to)))) in
    both_else _ (sym so_far ∙ c.if-listed.false) so_far
