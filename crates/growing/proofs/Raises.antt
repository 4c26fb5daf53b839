-- The loops of growing: what they keep of levels, raises and supply, and how their turns follow the steps of the definition.
use Prim.Native.Nat.{ℕ, suc, ◌+◌, ◌-◌, ◌*◌, ◌≤◌, ◌<◌}
use native.Mathlib.Nat.{mul-le-mul_left, mul-le-mul_right}
use native.Mathlib.Numerals.{add-one}
use native.Mathlib.Omega.{arith}
use mathlib.Core.Path.{◌≡◌, refl, sym, ap, ap₂, ◌∙◌}
use mathlib.Core.Bool.{true, false}
use mathlib.Core.List.{List}
use lib.ListN.{take, set, replicate}
use lib.Seq.{take-set-lt}
use borrow.Author.Tests.{lt-leb}
use Rattle.gmf.specs.declared.Machine.{Machine}
use Rattle.gmf.specs.Machine.{InRange, speed, top}
use Rattle.gmf.specs.Capacity.{level, capacity}
use Rattle.gmf.specs.Growing.{Grown, NoPlan, demand, holds, step}
use Rattle.gmf.proofs.Sums.{falls, first, first_suc, first_past, first_at_most}
use Rattle.gmf.proofs.Capacity.{capacity_sum, le_holds}
use Rattle.gmf.proofs.Steps.{step_stops, step_fails, step_raises}
use Rattle.growing.proofs.Levels.{
  Levels,
  levels_begin,
  levels_join,
  levels_raise,
  level_none,
  Slowest,
  lowest,
  level_slowest,
  levels_fall,
  plan_length,
  plan_level,
  plan_falls,
  plan_within,
  raise_is,
}

-- After `raises` raises among the first i processors, which get `supply` done in H ticks.
pub record Grows (M : Machine) (H i : ℕ) (levels above : List ℕ) (raises supply : ℕ) : Type 0 where
  pub levels_are : Levels (M.levels - 1) i levels above
  pub count : raises ≡ first i (take M.processors levels)
  pub supplied : supply ≡ H * (i * M.lowest + raises * M.step)

module _ (M : Machine) (in_range_law : InRange M) (H : ℕ) where
  pub grows_begin : Grows M H 0 (replicate 32 0) (replicate 32 0) 0 0
  grows_begin = record { levels_are = levels_begin (M.levels - 1); count = refl; supplied = omega arith }

  module _ (i : ℕ) (levels above : List ℕ) (raises supply : ℕ) (g : Grows M H i levels above raises supply) where
    -- One processor more, at level 0.
    pub grows_join : i < M.processors → Grows M H (suc i) levels above raises (supply + H * M.lowest)
    grows_join h = record {
      levels_are = levels_join g.levels_are;
      count = omega (
        arith,
        g.count,
        first_suc i (take M.processors levels),
        plan_level M.processors in_range_law.processors.1 g.levels_are (omega arith) i,
        level_none g.levels_are i (omega arith),
      );
      supplied = omega (arith, g.supplied);
    }

    module _ (inside : i ≤ M.processors) where
      capacity_is : supply ≡ H * capacity M i (take M.processors levels)
      capacity_is =
          rw (capacity_sum M i (take M.processors levels) (omega (arith, plan_length M.processors in_range_law.processors.1 g.levels_are inside)))
          (rw g.count at g.supplied)

      pub raises_most : raises ≤ i * (M.levels - 1)
      raises_most =
          rw g.count (first_at_most (M.levels - 1) _ (plan_within M.processors in_range_law.processors.1 g.levels_are inside) i)

      pub supply_most : supply ≤ H * (i * top M)
      unfolding top speed
      supply_most = rw g.supplied (mul-le-mul_left H (omega (arith, mul-le-mul_right M.step raises_most)))

      module _ (v p : ℕ) (s : Slowest i v p above) (low : v < M.levels - 1) where
        pub grows_raise : Grows M H i (set levels p (v + 1)) (set above v (p + 1)) (raises + 1) (supply + H * M.step)
        grows_raise = record {
          levels_are = levels_raise g.levels_are s low (omega (arith, in_range_law.processors.1)) (omega (arith, in_range_law.levels.1));
          count = omega (arith, g.count, raised);
          supplied = omega (arith, g.supplied);
        }
          where
            raised : first i (take M.processors (set levels p (v + 1))) ≡ suc (first i (take M.processors levels))
            raised =
                let small = in_range_law.processors.1 in
                let l = g.levels_are in
                let plan = take M.processors levels in
                let e : v + 1 ≡ suc (level plan p) = omega (arith, plan_level M.processors small l inside p, level_slowest l s) in
                ap (first i) (take-set-lt M.processors levels p (v + 1) (omega (arith, s.inside)))
                ∙ ap (λ (x : ℕ). first i (set plan p x)) e
                ∙ first_past p i plan (omega (arith, plan_length M.processors small l inside, s.inside)) s.inside

  -- ---- The turns, with the works ws: `need` is what test i asks for

  module _ (ws : List ℕ) (i : ℕ) (levels above : List ℕ) (raises supply need : ℕ) (g : Grows M H (suc i) levels above raises supply) (inside : i < M.processors)
      (asked : need ≡ top M * demand M H ws (suc i)) where
    abbrev plan : List ℕ
    plan = take M.processors levels

    holds_when : need ≤ supply → holds M H ws (suc i) plan ≡ true
    holds_when h = le_holds M H ws (suc i) plan (omega (arith, capacity_is (suc i) levels above raises supply g inside))

    fails_when : supply < need → holds M H ws (suc i) plan ≡ false
    unfolding holds
    fails_when h = lt-leb (top M * demand M H ws (suc i)) (H * capacity M (suc i) plan) (omega (arith, capacity_is (suc i) levels above raises supply g inside))

    pub turn_stops : need ≤ supply → step M H ws (suc i) (Grown plan raises) ≡ Grown plan raises
    turn_stops h = step_stops M H ws (suc i) plan raises (holds_when h)

    module _ (v p : ℕ) (s : Slowest (suc i) v p above) (short : supply < need) where
      -- All are at the top.
      pub turn_fails : v ≡ M.levels - 1 → step M H ws (suc i) (Grown plan raises) ≡ NoPlan
      turn_fails e =
          step_fails M H ws (suc i) plan raises (fails_when short)
          (λ k h. omega (arith, plan_level M.processors in_range_law.processors.1 g.levels_are inside k, lowest g.levels_are s k h, g.levels_are.within k))

      pub turn_raises : v < M.levels - 1
          → step M H ws (suc i) (Grown plan raises) ≡ step M H ws (suc i) (Grown (take M.processors (set levels p (v + 1))) (raises + 1))
      turn_raises low =
          let small = in_range_law.processors.1 in
          let l = g.levels_are in
          step_raises M H ws i plan raises (omega (arith, plan_length M.processors small l inside)) (plan_falls M.processors small l inside)
          (plan_within M.processors small l inside) (fails_when short)
          (omega (arith, plan_level M.processors small l inside i, falls levels (levels_fall l) p i (omega (arith, s.inside)), level_slowest l s))
          ∙ ap₂ (λ (q : List ℕ) (r : ℕ). step M H ws (suc i) (Grown q r)) (raise_is M.processors small l inside s) (sym (add-one raises))
