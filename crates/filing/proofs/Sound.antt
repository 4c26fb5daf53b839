-- The plan of a sound roster: it is grown, and what the code makes of it is its frame.
use Prim.Native.Nat.{ℕ, zero, suc, ◌+◌, ◌-◌, ◌≤◌, ◌<◌}
use native.Mathlib.Decide.{dec_lt}
use native.Mathlib.Omega.{arith}
use mathlib.Core.Path.{◌≡◌, refl, sym, ap, ◌∙◌}
use mathlib.Core.Bool.{true}
use mathlib.Core.List.{List, ◌++◌}
use Rattle.std.specs.Prelude.{Option, Some, is_some}
use lib.ListN.{length, take, get_or, replicate, take-append-drop, length-append, length-replicate}
use lib.Seq.{length-take-le, take-append_seam, get_or-take, get_or-drop}
use Rattle.gmf.specs.declared.Machine.{Machine}
use Rattle.gmf.specs.declared.Job.{Job}
use Rattle.gmf.specs.Machine.{InRange}
use Rattle.gmf.specs.Jobs.{hyperperiod, works}
use Rattle.gmf.specs.Capacity.{level}
use Rattle.gmf.specs.Growing.{Growth, Grown, NoPlan, plan_of}
use Rattle.gmf.specs.Power.{power, power_limit, total}
use Rattle.gmf.specs.Claims.{Feasible, Least, Plans}
use Rattle.gmf.proofs.Results.{method}
use Rattle.hexadecimal.specs.Text.{line_of}
use Rattle.frame_writer.specs.Frames.{plan_bytes}
use Rattle.growing.specs.declared.Plan.{Plan}
use Rattle.growing.specs.Plan.{plan_from, planned}
use Rattle.planner.specs.declared.Roster.{Roster}
use Rattle.planner.specs.Claims.{IsSound}
use Rattle.filing.specs.Plans.{put_on, plan_line, filed_as, filed_on}

-- ---- Growing finds a plan where some plan passes

module _ (M : Machine) (in_range_law : InRange M) (jobs : List Job) where
  plans : Plans M jobs
  plans = method.plans_jobs M in_range_law.processors.0 in_range_law.levels.0 jobs

  pub grown : Feasible M jobs → (plan : List ℕ) × (raises : ℕ) × (plan_of M jobs ≡ Grown plan raises)
  grown (other, is, passes) = go (plan_of M jobs) refl
    where
      go : (g : Growth) → plan_of M jobs ≡ g → (plan : List ℕ) × (raises : ℕ) × (plan_of M jobs ≡ Grown plan raises)
      go (Grown plan raises) e = (plan, raises, e)
      go NoPlan e = absurd (plans.none.0 e other is passes)

-- ---- What the code has of it

pub all_alike : {A : Type 0} (z : A) (n k : ℕ) → get_or (replicate n z) k z ≡ z
all_alike z zero k = refl
all_alike z (suc n) zero = refl
all_alike z (suc n) (suc k) = all_alike z n k

same_line : (a b c d e f g h : ℕ) (u v : List ℕ) → a ≡ b → c ≡ d → e ≡ f → g ≡ h → u ≡ v
    → line_of (plan_bytes a c e g u) ≡ line_of (plan_bytes b d f h v)
same_line a b c d e f g h u v i j k l m = cc

module _ (r : Roster) (s : IsSound r) where
  abbrev M : Machine
  M = r.machine

  abbrev table : List ℕ
  table = take r.machine.levels r.table

  abbrev jobs : List Job
  jobs = take r.held r.jobs

  in_range_law : InRange M
  in_range_law = s.rules.machine_range

  pub found : (plan : List ℕ) × (raises : ℕ) × (plan_of M jobs ≡ Grown plan raises)
  found = grown M in_range_law jobs s.rules.some_plan

  -- So that what growing answers is no None.
  pub planned_is : planned M jobs ≡ plan_from (hyperperiod jobs) (Grown found.0 found.1)
  planned_is = ap (plan_from (hyperperiod jobs)) found.2

  pub some_plan : is_some (planned M jobs) ≡ true
  unfolding plan_from
  some_plan = ap is_some planned_is

  module _ (p : Plan) (p-is : Some p ≡ planned M jobs) where
    abbrev plan : List ℕ
    plan = found.0

    abbrev raises : ℕ
    raises = found.1

    least : Least M (hyperperiod jobs) (works jobs) plan raises
    least = (plans M in_range_law jobs).found plan raises found.2

    is_from : p ≡ record { hyperperiod = hyperperiod jobs; raises = raises; levels = plan ++ replicate (32 - length plan) 0 }
    unfolding plan_from
    is_from =
        let z : ◌≡◌ {A = Option Plan} (Some p) (Some (record { hyperperiod = hyperperiod jobs; raises = raises; levels = plan ++ replicate (32 - length plan) 0 }))
        = p-is ∙ planned_is in
        cc

    pub levels_are : take M.processors p.levels ≡ plan
    unfolding plan_from
    levels_are =
        ap (λ (q : Plan). take M.processors q.levels) is_from
        ∙ ap (λ (n : ℕ). take n (plan ++ replicate (32 - length plan) 0)) (sym least.is_plan.size)
        ∙ take-append_seam plan (replicate (32 - length plan) 0)

    pub levels_count : length p.levels ≡ 32
    unfolding plan_from
    levels_count =
        ap (λ (q : Plan). length q.levels) is_from
        ∙ simp (length-append, length-replicate) (omega (arith, least.is_plan.size, in_range_law.processors))

    pub level_range : (levels : List ℕ) → levels ≡ take M.processors p.levels → (k : ℕ) → k < length levels → level levels k < 32
    level_range levels l-is k h =
        let same : levels ≡ plan = l-is ∙ levels_are in
        let inside : k < M.processors = omega (arith, ap length same, least.is_plan.size) in
        rw same (omega (arith, least.is_plan.within k inside, in_range_law.levels))

    table_is : r.table ≡ table ++ replicate (32 - M.levels) 0
    table_is = sym (take-append-drop M.levels r.table) ∙ ap (λ (q : List ℕ). table ++ q) s.unused_entries

    pub power_range : (j : ℕ) → power r.table j ≤ power_limit
    power_range j = go (dec_lt j M.levels)
      where
        go : Dec (j < M.levels) → power r.table j ≤ power_limit
        go (yes h) = rw (get_or-take M.levels r.table j 0 h) at (s.rules.table_rules.range j h)
        go (no h) =
            let past : M.levels + (j - M.levels) ≡ j = omega arith in
            let none : power r.table j ≡ 0 =
            ap (λ (k : ℕ). power r.table k) (sym past)
            ∙ sym (get_or-drop M.levels r.table (j - M.levels) 0)
            ∙ ap (λ (q : List ℕ). get_or q (j - M.levels) 0) s.unused_entries
            ∙ all_alike 0 (32 - M.levels) (j - M.levels) in
            omega arith

    pub total_is : total r.table (take M.processors p.levels) ≡ total table plan
    total_is =
        ap (λ (q : List ℕ). total r.table q) levels_are
        ∙ ap (λ (q : List ℕ). total q plan) table_is
        ∙ method.total_padded table (32 - M.levels) plan

    -- The line that the code writes is the frame's.
    pub line_is : length r.jobs ≡ 64 → (n H power up : ℕ) (levels : List ℕ) → n ≡ r.held → H ≡ p.hyperperiod
        → power ≡ total r.table (take M.processors p.levels) → up ≡ p.raises → levels ≡ take M.processors p.levels
        → line_of (plan_bytes n H power up levels) ≡ plan_line table jobs plan raises
    unfolding plan_line plan_from
    line_is places n H power up levels n-is H-is power-is up_is l-is =
        let count : length jobs ≡ r.held = length-take-le r.held r.jobs (omega (arith, s.places)) in
        same_line _ _ _ _ _ _ _ _ _ _ (n-is ∙ sym count) (H-is ∙ ap (λ (q : Plan). q.hyperperiod) is_from) (power-is ∙ total_is)
        (up_is ∙ ap (λ (q : Plan). q.raises) is_from) (l-is ∙ levels_are)

    pub filed_is : (page : List ℕ) (place : ℕ) → put_on page place (plan_line table jobs plan raises) ≡ filed_on M table jobs page place
    unfolding filed_on filed_as
    filed_is page place = ap (λ (g : Growth). filed_as table jobs g page place) (sym found.2)

    pub size_is : length plan ≡ M.processors
    size_is = least.is_plan.size
