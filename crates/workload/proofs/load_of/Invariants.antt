-- `workload::load_of` meets its contract: the totals are those of the jobs that were gone through, from the last on.
use Rattle.std.specs.Iterator.Adapters.{rev_source}
use Rattle.std.specs.Slice.Iter.{iter_rest}
use Rattle.workload.proofs.Loads.{Going}
use Rattle.workload.proofs.load_of.Given as goal

abbrev pub invariant-loop-job : goal.invariant-loop-job
invariant-loop-job l = Going l.jobs (iter_rest (rev_source l.job-iterator)) l.totals
