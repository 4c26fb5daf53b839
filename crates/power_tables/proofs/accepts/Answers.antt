-- `power_tables::accepts` meets its contract: at each turn the numbers before place j never fall, and no rise among them shrinks.
use native.Mathlib.Omega.{arith}
use mathlib.Core.Path.{◌≡◌, refl}
use mathlib.Core.Logic.{◌↔◌}
use mathlib.Core.Bool.{true, false, false≢true}
use borrow.Author.Tests.{le-leb, leb-true}
use Rattle.gmf.specs.Power.{power_limit}
use Rattle.power_tables.proofs.LentTable.{first_of, behind, checked_none, checked_begin, checked_more}
use Rattle.power_tables.proofs.LentTable.{checked_falls, checked_shrinks, checked_table, checked_limit}
use Rattle.power_tables.proofs.Testing.{decided}
use Rattle.power_tables.proofs.accepts.Goals as goal

-- The answer no, where yes would be wrong.
no_table : {A : Type 0} → (A → ⊥) → (false ≡ true) ↔ A
no_table f = (λ e. absurd (false≢true e), λ a. absurd (f a))

pub returns-then-table-machine : goal.returns-then-table-machine
returns-then-table-machine c = decided _ _ _ (no_table (λ t. omega (arith, t.size)))

pub returns-in_default : goal.returns-in_default
returns-in_default c = decided _ _ _ (λ _. checked_none (omega arith) c.in_default.ensures.cases, λ _. refl)

pub loop-power-init : goal.loop-power-init
loop-power-init c = checked_begin (omega (arith, first_of c.in-Some.ensures.cases.0)) (omega arith) (omega arith)

pub returns-then-power-last : goal.returns-then-power-last
returns-then-power-last c =
    let number = behind c.in-Some.ensures.cases.0 c.loop-power.power-index in
    let size = c.in-Some.ensures.cases.1 in
    decided _ _ _ (no_table (λ t. checked_falls c.loop-power.invariant (omega arith) (omega arith) t.convex))

pub returns-then-next-rise : goal.returns-then-next-rise
returns-then-next-rise c =
    let number = behind c.in-Some.ensures.cases.0 c.loop-power.power-index in
    let size = c.in-Some.ensures.cases.1 in
    decided _ _ _ (no_table (λ t. checked_shrinks c.loop-power.invariant (omega arith) (omega arith) t.convex))

pub loop-power-preserved : goal.loop-power-preserved
loop-power-preserved c =
    let number = behind c.in-Some.ensures.cases.0 c.loop-power.power-index in
    checked_more c.loop-power.invariant (omega arith) (omega arith) (omega arith) (omega arith)

pub returns : goal.returns
returns c =
    let size = c.in-Some.ensures.cases.1 in
    decided _ _ _ (
      λ low. checked_table c.loop-power.invariant (omega arith) (omega arith) (omega (arith, leb-true)),
      λ t. le-leb c.loop-power.last power_limit (checked_limit c.loop-power.invariant (omega arith) t),
    )
