-- What a roster is found to be, by each way out of `inspect`, and what follows where it is open.
use Prim.Native.Nat.{◌<◌}
use native.Mathlib.Omega.{arith}
use mathlib.Core.Path.{◌≡◌, refl, sym, ap, subst, ◌∙◌}
use mathlib.Core.Bool.{true, false}
use mathlib.Core.List.{List}
use Rattle.std.specs.Prelude.{Option, Some, None, Ok, Err, is_err}
use borrow.Author.Tests.{lt-ltb}
use lib.ListN.{length, take}
use Rattle.gmf.specs.declared.Machine.{Machine}
use Rattle.gmf.specs.declared.Job.{Job}
use Rattle.gmf.specs.Machine.{InRange}
use Rattle.gmf.specs.Jobs.{JobInRange, Every, hyperperiod, hyperperiod_limit}
use Rattle.gmf.proofs.Hyperperiod.{in_range_positive}
use Rattle.workload.specs.declared.Totals.{Totals}
use Rattle.workload.specs.declared.Unplanned.TheVariants as unplanned
use Rattle.workload.specs.Load.{Verdict, load_of, judged}
use Rattle.workload.specs.Claims.{Tells}
use Rattle.workload.proofs.Loads.{says_within, says_too_long}
use Rattle.workload.proofs.Results.{workload}
use Rattle.planner.specs.declared.Roster.{Roster}
use Rattle.planner.specs.declared.Condition.TheVariants as condition
use Rattle.planner.specs.Tests.{cycle_too_long}
use Rattle.planner.specs.Roster.{model_of, in_shape, sound, all_zero, well_formed, condition_of, inspected}
use Rattle.planner.proofs.TestRules.{passes_none}
use Rattle.planner.proofs.Passing.{long_not, passes_plan}
use Rattle.planner.proofs.Forms.{model_none, model_open, zero_none, Shape, shape_of}

-- ---- By the test of the form

damaged : (r : Roster) → well_formed r ≡ false → condition.Damaged ≡ inspected r
unfolding inspected
damaged r e = rw (e, inspected)

undamaged : (r : Roster) → well_formed r ≡ true → condition_of (model_of r) ≡ inspected r
unfolding inspected
undamaged r e = rw (e, inspected)

-- What a load tells of its jobs.
pub load_tells : (M : Machine) → InRange M → (jobs : List Job) → Every JobInRange jobs → (l : Option Totals) → l ≡ load_of jobs
    → (v : Verdict) → judged M.processors l ≡ v → Tells M jobs v
load_tells M in_range_law jobs ranges l l-is v e =
    let judges = workload.judges M in_range_law jobs (in_range_positive jobs ranges) in
    subst (Tells M jobs) (sym judges.by_load ∙ ap (judged M.processors) (sym l-is) ∙ e) judges.tells

-- ---- Each way out

pub inspect_closed : (r : Roster) → all_zero r ≡ true → condition.Closed ≡ inspected r
unfolding condition_of well_formed
inspect_closed r e = ap condition_of (sym (model_none r (zero_none r e))) ∙ undamaged r (rw e)

-- A roster that is not all zeros.
module _ (r : Roster) (not_zero : all_zero r ≡ false) where
  abbrev jobs : List Job
  jobs = take r.held r.jobs

  not_empty : well_formed r ≡ sound r
  unfolding well_formed
  not_empty = rw not_zero

  pub inspect_shapeless : in_shape r ≡ false → condition.Damaged ≡ inspected r
  unfolding sound
  inspect_shapeless e = damaged r (not_empty ∙ rw e)

  module _ (entries : length r.table ≡ 32) (places : length r.jobs ≡ 64) (shape : in_shape r ≡ true)
      (l : Option Totals) (l-is : l ≡ load_of jobs) where
    parts : Shape r entries places
    parts = shape_of r entries places shape

    in_range_law : InRange r.machine
    in_range_law = parts.machine_range

    some : r.machine.processors ≡ 0 → ⊥
    some e = omega (arith, in_range_law.processors)

    tells : (v : Verdict) → judged r.machine.processors l ≡ v → Tells r.machine jobs v
    tells = load_tells r.machine in_range_law jobs parts.job_ranges l l-is

    pub inspect_open : (t : Totals) → Some t ≡ l → is_err (judged r.machine.processors (Some t)) ≡ false → condition.Open t ≡ inspected r
    unfolding sound condition_of Tells
    inspect_open t e n = go (judged r.machine.processors (Some t)) refl
      where
        go : (v : Verdict) → judged r.machine.processors (Some t) ≡ v → condition.Open t ≡ inspected r
        go (Ok u) v =
            let told = tells (Ok u) (ap (judged r.machine.processors) (sym e) ∙ v) in
            ap condition.Open (says_within jobs t (sym (e ∙ l-is))).0
            ∙ ap condition_of (sym (model_open r some))
            ∙ undamaged r (not_empty ∙ rw (shape, long_not jobs told.0, passes_plan r.machine in_range_law jobs told.1))
        go (Err why) v = let z : true ≡ false = sym (ap is_err v) ∙ n in cc

    too_long : hyperperiod_limit < hyperperiod jobs → condition.Damaged ≡ inspected r
    unfolding sound cycle_too_long
    too_long h = damaged r (not_empty ∙ rw (shape, lt-ltb hyperperiod_limit (hyperperiod jobs) h))

    pub inspect_unplanned : (t : Totals) → Some t ≡ l → is_err (judged r.machine.processors (Some t)) ≡ true → condition.Damaged ≡ inspected r
    unfolding sound Tells
    inspect_unplanned t e n = go (judged r.machine.processors (Some t)) refl
      where
        go : (v : Verdict) → judged r.machine.processors (Some t) ≡ v → condition.Damaged ≡ inspected r
        go (Ok u) v = let z : false ≡ true = sym (ap is_err v) ∙ n in cc
        go (Err unplanned.NoPlan) v =
            let told = tells (Err unplanned.NoPlan) (ap (judged r.machine.processors) (sym e) ∙ v) in
            damaged r (not_empty ∙ rw (shape, long_not jobs told.0, passes_none r.machine in_range_law jobs told.1))
        go (Err unplanned.TooLong) v = too_long (tells (Err unplanned.TooLong) (ap (judged r.machine.processors) (sym e) ∙ v))

    pub inspect_long : l ≡ None → condition.Damaged ≡ inspected r
    inspect_long e = too_long (says_too_long jobs (sym l-is ∙ e))
