-- What a share says of its machine and jobs.
use Prim.Native.Nat.{ℕ, ◌*◌, ◌≤◌}
use native.Mathlib.Nat.{mul-le-mul}
use mathlib.Core.Path.{◌≡◌, ap}
use Rattle.gmf.specs.Jobs.{hyperperiod, hyperperiod_limit, works}
use Rattle.gmf.specs.Capacity.{sum}
use Rattle.workload.specs.declared.Share.{Share}
use Rattle.workload.specs.Load.{totals}
use Rattle.growing.proofs.Works.{Given}

module _ (s : Share) where
  pub given : Given s.machine s.jobs.now
  given = record { machine = s.machine_in_range; few = s.few; in_range_law = s.jobs_in_range; rising = s.by_rising_id; limited = s.within }

  pub ticks_are : s.totals.hyperperiod ≡ hyperperiod s.jobs.now
  unfolding totals
  ticks_are = ap (λ t. t.hyperperiod) s.found

  -- What some number, at most b, comes to in it.
  pub ticks_most : (n b : ℕ) → n ≤ b → s.totals.hyperperiod * n ≤ hyperperiod_limit * b
  ticks_most n b h = mul-le-mul (rw ticks_are s.within) h

  pub work_is : s.totals.work ≡ sum (works s.jobs.now)
  unfolding totals
  work_is = ap (λ t. t.work) s.found
