-- `planner::find` meets its contract.
use borrow.Author.Rules.{rules}
use Rattle.std.proofs.lemmas.Fn.{always_returns_same}
use Rattle.gmf.specs.declared.Job.{Job}
use Rattle.planner.proofs.Looking.{searched}
use Rattle.planner.proofs.find.Goals as goal

pub returns : goal.returns
returns c =
    searched c.args.jobs.now c.args.id c.requires _ c.binary_search_by_key.ensures.bound
    (c.binary_search_by_key.ensures.position (λ (job : Job). job.id) (always_returns_same _ _ _ (λ a r f k. search rules)))
