-- `workload::load_of` meets its contract: the totals are those of the jobs that were gone through, from the last on.
use Rattle.std.proofs.Common.{ap, ◌∙◌}
use Rattle.std.specs.Iterator.Adapters.{rev_source}
use Rattle.std.specs.Slice.Iter.{iter_rest}
use Rattle.workload.proofs.Loads.{going_begin, next_in_range, going_more, gone_too_long, going_end}
use Rattle.workload.proofs.load_of.Goals as goal

pub loop-job-init : goal.loop-job-init
loop-job-init c =
    going_begin _ _ (ap (λ i. iter_rest (rev_source i)) c.into_iter-job-iterator.ensures.into_iter_gives ∙ ap iter_rest c.rev-job-items.ensures.source ∙ c.iter.ensures.rest)

pub with-requires : goal.with-requires
with-requires c =
    let r = next_in_range _ _ _ _ c.loop-job.invariant c.in-Some.job.now c.in-Some.ensures.steps c.requires.1 c.requires.0 in
    record { job_in_range = r.0; hyperperiod_nonzero = (r.1, r.2, r.3) }

pub loop-job-preserved : goal.loop-job-preserved
loop-job-preserved c =
    going_more _ _ _ _ c.loop-job.invariant c.in-Some.job.now c.in-Some.ensures.steps c.requires.1 c.with.result c.with.ensures c.in_ok-totals.totals c.in_ok-totals.was

pub returns-in_err-totals : goal.returns-in_err-totals
returns-in_err-totals c =
    let e = gone_too_long _ _ _ _ c.loop-job.invariant c.in-Some.job.now c.in-Some.ensures.steps c.requires.1 c.with.result c.with.ensures c.in_err-totals.was in
    cc (c.from_residual.ensures, e)

pub returns : goal.returns
returns c = going_end _ _ _ c.loop-job.invariant c.in-None.ensures.steps.0
