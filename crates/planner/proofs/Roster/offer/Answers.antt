-- `planner::Roster::offer` meets its contract.
use Prim.Native.Nat.{ℕ, suc, ◌+◌, ◌<◌}
use native.Mathlib.Omega.{arith}
use mathlib.Core.Path.{◌≡◌, sym, ap, subst, ◌∙◌}
use Rattle.places.specs.Places.{listed}
use borrow.Author.Rules.{rules}
use mathlib.Core.List.{List, ◌∷◌, ◌++◌}
use lib.ListN.{length, take, drop}
use Rattle.gmf.specs.declared.Job.{Job}
use Rattle.places.proofs.Parts.{put_in_part}
use Rattle.std.proofs.lemmas.Result.{err_from_is_err_and}
use Rattle.gmf.specs.Jobs.{JobInRange}
use Rattle.ranges.proofs.Results.{ranging}
use Rattle.planner.proofs.Looking.{found_there, found_none}
use Rattle.planner.proofs.Replies.{share_open, share_count, held_listed, with_range}
use Rattle.planner.proofs.Offers.{job_there, no_job_there, offer_untotalled, offer_4, offer_held, offer_full, offer_long, offer_more}
use Rattle.planner.proofs.Roster.offer.Goals as goal

pub returns-in_err-share : goal.returns-in_err-share
returns-in_err-share c =
    let p = err_from_is_err_and c.from_residual.result c.from_residual.ensures.1 in
    rw (p.1, p.2) (offer_untotalled _ _ _ _ _ _ c.in_err-share.ensures)

pub returns-in_err-job : goal.returns-in_err-job
returns-in_err-job c =
    let entries : length c.args.self.now.table ≡ 32 = search rules in
    let places : length c.args.self.now.jobs ≡ 64 = search rules in
    let open_at = share_open _ _ c.in_ok-share.ensures in
    let p = err_from_is_err_and c.from_residual-in_err-job.result c.from_residual-in_err-job.ensures.1 in
    let none = no_job_there _ _ _ _ _ c.in_err-job.ensures in
    rw (p.1, p.2, none.1) (offer_4 _ entries places open_at.0 _ _ _ _ none.0)

pub find-requires : goal.find-requires
find-requires c =
    let entries : length c.args.self.now.table ≡ 32 = search rules in
    let places : length c.args.self.now.jobs ≡ 64 = search rules in
    let open_at = share_open _ _ c.in_ok-share.ensures in
    ap listed c.in_ok-share.ensures.jobs ∙ held_listed _ entries places open_at.0

pub returns-in_default : goal.returns-in_default
returns-in_default c =
    let entries : length c.args.self.now.table ≡ 32 = search rules in
    let places : length c.args.self.now.jobs ≡ 64 = search rules in
    let open_at = share_open _ _ c.in_ok-share.ensures in
    let new = job_there _ _ _ _ _ c.in_ok-job.ensures in
    offer_held _ entries places open_at.0 _ _ _ _ new.0 _ new.1 (found_there _ _ c.in_ok-share.ensures.jobs _ _ c.in_default.ensures).0

pub returns-then-held-ge-PLACES : goal.returns-then-held-ge-PLACES
returns-then-held-ge-PLACES c =
    let entries : length c.args.self.now.table ≡ 32 = search rules in
    let places : length c.args.self.now.jobs ≡ 64 = search rules in
    let held = share_count c.args.self.now c.in_ok-share.share c.in_ok-share.ensures in
    let open_at = share_open _ _ c.in_ok-share.ensures in
    let new = job_there _ _ _ _ _ c.in_ok-job.ensures in
    offer_full _ entries places open_at.0 _ _ _ _ new.0 _ new.1 (found_none _ _ c.in_ok-share.ensures.jobs _ _ c.in-Err.ensures).0 (omega (arith, held, c.if-held-ge-PLACES.true))

pub with-requires-clause-job_in_range : goal.with-requires-clause-job_in_range
with-requires-clause-job_in_range c =
    let new = job_there _ _ _ _ _ c.in_ok-job.ensures in
    subst JobInRange (sym new.1) ((ranging.rule.one_job _ _ _ _).0 new.0)

pub with-requires-clause-hyperperiod_nonzero : goal.with-requires-clause-hyperperiod_nonzero
with-requires-clause-hyperperiod_nonzero c =
    let entries : length c.args.self.now.table ≡ 32 = search rules in
    let places : length c.args.self.now.jobs ≡ 64 = search rules in
    let held = share_count c.args.self.now c.in_ok-share.share c.in_ok-share.ensures in
    let open_at = share_open _ _ c.in_ok-share.ensures in
    let new = job_there _ _ _ _ _ c.in_ok-job.ensures in
    with_range _ entries places open_at.0 _ (found_none _ _ c.in_ok-share.ensures.jobs _ _ c.in-Err.ensures).0 (omega (arith, held, c.if-held-ge-PLACES.false))
    (subst JobInRange (sym new.1) ((ranging.rule.one_job _ _ _ _).0 new.0)) _ open_at.1

pub returns-in_default-with : goal.returns-in_default-with
returns-in_default-with c =
    let entries : length c.args.self.now.table ≡ 32 = search rules in
    let places : length c.args.self.now.jobs ≡ 64 = search rules in
    let held = share_count c.args.self.now c.in_ok-share.share c.in_ok-share.ensures in
    let open_at = share_open _ _ c.in_ok-share.ensures in
    let new = job_there _ _ _ _ _ c.in_ok-job.ensures in
    offer_long _ entries places open_at.0 _ _ _ _ new.0 _ new.1 (found_none _ _ c.in_ok-share.ensures.jobs _ _ c.in-Err.ensures).0 (omega (arith, held, c.if-held-ge-PLACES.false)) _ open_at.1 _
    c.with.ensures c.in_default-with.is

-- What is put in among as many as the share has.
put_in_held : (jobs : List Job) → length jobs ≡ 64 → (held at n : ℕ) → n ≡ held → held < 64 → (job : Job) (part : List Job)
    → part ≡ take (length (take (n + 1) jobs)) (take at (take (n + 1) jobs) ++ job ∷ drop at (take (n + 1) jobs))
    → part ++ drop (n + 1) jobs ≡ take 64 (take (suc held) (take at jobs ++ job ∷ drop at jobs) ++ drop (suc held) jobs)
put_in_held jobs long held at n same room job part put = rw same (put_in_part jobs long held at job room (rw same at put))

pub returns : goal.returns
returns c =
    let entries : length c.args.self.now.table ≡ 32 = search rules in
    let places : length c.args.self.now.jobs ≡ 64 = search rules in
    let held = share_count c.args.self.now c.in_ok-share.share c.in_ok-share.ensures in
    let open_at = share_open _ _ c.in_ok-share.ensures in
    let new = job_there _ _ _ _ _ c.in_ok-job.ensures in
    let none = found_none _ _ c.in_ok-share.ensures.jobs _ _ c.in-Err.ensures in
    let answer =
    offer_more _ entries places open_at.0 _ _ _ _ new.0 _ new.1 none.0 (omega (arith, held, c.if-held-ge-PLACES.false)) _ open_at.1 _ c.with.ensures _
    c.in-Some.is _ _ none.1
    (put_in_held _ places _ _ _ held (omega (arith, held, c.if-held-ge-PLACES.false)) _ _ c.put_in.ensures) in
    record { entries = entries; places = places; answer = answer }
