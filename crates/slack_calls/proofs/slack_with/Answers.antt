-- `slack_calls::slack_with` meets its contract.
use native.Mathlib.Omega.{arith}
use mathlib.Core.Path.{sym}
use lib.Seq.{length-take-le}
use Rattle.std.proofs.lemmas.Result.{err_from_is_err_and}
use Rattle.planner.proofs.Offers.{taken}
use Rattle.slack_calls.proofs.Offered.{with_refused, in_places, with_it}
use Rattle.slack_calls.proofs.slack_with.Goals as goal

pub returns-in_err-offer : goal.returns-in_err-offer
returns-in_err-offer c =
    let p = err_from_is_err_and c.from_residual.result c.from_residual.ensures.1 in
    rw (p.1, p.2) (with_refused _ _ _ _ _ _ c.in_err-offer.ensures)

pub shared_ref_as_front-share : goal.shared_ref_as_front-share
shared_ref_as_front-share c =
    let more = (taken _ _ _ _ _ _ c.in_ok-offer.ensures).with_one_more in
    omega (arith, more.size, more.few)

pub overflow_sub-highest : goal.overflow_sub-highest
overflow_sub-highest c = omega (arith, (taken _ _ _ _ _ _ c.in_ok-offer.ensures).with_one_more.machine_range.levels)

pub slice_bounds-highest-end : goal.slice_bounds-highest-end
slice_bounds-highest-end c = omega (arith, (taken _ _ _ _ _ _ c.in_ok-offer.ensures).with_one_more.machine_range.processors)

pub slice_bounds-slack_under-end : goal.slice_bounds-slack_under-end
slice_bounds-slack_under-end c =
    sym (length-take-le _ _ (omega (arith, (taken _ _ _ _ _ _ c.in_ok-offer.ensures).with_one_more.machine_range.processors)))

pub invariant_of-share : goal.invariant_of-share
invariant_of-share c =
    let t = taken _ _ _ _ _ _ c.in_ok-offer.ensures in
    let more = t.with_one_more in
    let same = in_places _ _ _ _ _ _ c.in_ok-offer.ensures in
    record {
      machine_in_range = more.machine_range;
      few = rw same more.few;
      jobs_in_range = rw same more.job_ranges;
      by_rising_id = rw same more.by_id;
      within = rw same more.within_limit;
      found = rw same t.totals_are;
    }

pub returns : goal.returns
returns c = with_it _ _ _ _ _ _ c.in_ok-offer.ensures _ _ c.slack_under.ensures (omega arith)
