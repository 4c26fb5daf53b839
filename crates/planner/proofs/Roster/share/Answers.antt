-- `planner::Roster::share` meets its contract.
use native.Mathlib.Omega.{arith}
use mathlib.Core.Path.{◌≡◌, refl, sym, ap}
use borrow.Author.Rules.{rules}
use lib.ListN.{length}
use lib.Seq.{length-take-le}
use Rattle.planner.specs.Roster.{totals_found}
use Rattle.planner.proofs.Replies.{is_open}
use Rattle.planner.proofs.Roster.share.Goals as goal

pub shared_ref_as_front-result : goal.shared_ref_as_front-result
shared_ref_as_front-result c =
    let entries : length c.args.self.now.table ≡ 32 = search rules in
    let places : length c.args.self.now.jobs ≡ 64 = search rules in
    omega (arith, (is_open _ _ entries places (sym c.in-Open.ensures)).0.places)

pub invariant_of-result : goal.invariant_of-result
invariant_of-result c =
    let entries : length c.args.self.now.table ≡ 32 = search rules in
    let places : length c.args.self.now.jobs ≡ 64 = search rules in
    let open_at = is_open _ _ entries places (sym c.in-Open.ensures) in
    let rules = open_at.0.rules in
    record {
      machine_in_range = rules.machine_range;
      few = omega (arith, length-take-le c.args.self.now.held c.args.self.now.jobs (omega (arith, open_at.0.places)), open_at.0.places);
      jobs_in_range = rules.job_ranges;
      by_rising_id = rules.by_id;
      within = rules.within_limit;
      found = open_at.1;
    }

pub returns-in-Damaged : goal.returns-in-Damaged
unfolding totals_found
returns-in-Damaged c = ap totals_found c.in-Damaged.ensures

pub returns-in-Closed : goal.returns-in-Closed
unfolding totals_found
returns-in-Closed c = ap totals_found c.in-Closed.ensures

pub returns-in-Open : goal.returns-in-Open
unfolding totals_found
returns-in-Open c = record { entries = search rules; places = search rules; totals = ap totals_found c.in-Open.ensures; machine = refl; jobs = refl }
