-- `planner::Roster::leave` meets its contract.
use native.Mathlib.Omega.{arith}
use mathlib.Core.Path.{◌≡◌, sym, ap, ◌∙◌}
use Rattle.places.specs.Places.{listed}
use borrow.Author.Rules.{rules}
use lib.ListN.{length}
use Rattle.std.proofs.lemmas.Result.{err_from_is_err_and}
use Rattle.ranges.proofs.Results.{ranging}
use Rattle.places.proofs.Parts.{taken_out_part}
use Rattle.planner.specs.Claims.{IsSound}
use Rattle.planner.proofs.Looking.{found_there, found_none}
use Rattle.planner.proofs.Outcomes.{retire_11, retire_4}
use Rattle.planner.proofs.Replies.{refused_by, share_open, untotalled, reply_open, held_listed, leave_missing, leave_some, leave_out}
use Rattle.planner.proofs.Roster.leave.Goals as goal

pub returns-in_err-share : goal.returns-in_err-share
returns-in_err-share c =
    let p = err_from_is_err_and c.from_residual.result c.from_residual.ensures.1 in
    rw (p.1, p.2) (untotalled _ _ _ c.in_err-share.ensures (retire_11 _))

pub returns-then-not-one_to : goal.returns-then-not-one_to
returns-then-not-one_to c =
    let entries : length c.args.self.now.table ≡ 32 = search rules in
    let places : length c.args.self.now.jobs ≡ 64 = search rules in
    let sound : IsSound c.args.self.now = (share_open _ _ c.in_ok-share.ensures).0 in
    refused_by (reply_open _ entries places sound _ _ (retire_4 _ _ _ _ (sym c.if-not-one_to.ensures)))

pub overflow_cast-id : goal.overflow_cast-id
overflow_cast-id c = omega (arith, (ranging.rule.number 65535 _).0 (sym c.if-not-one_to.ensures))

pub find-requires : goal.find-requires
find-requires c =
    let entries : length c.args.self.now.table ≡ 32 = search rules in
    let places : length c.args.self.now.jobs ≡ 64 = search rules in
    let sound : IsSound c.args.self.now = (share_open _ _ c.in_ok-share.ensures).0 in
    ap listed c.in_ok-share.ensures.jobs ∙ held_listed _ entries places sound

pub returns-in_default : goal.returns-in_default
returns-in_default c =
    let entries : length c.args.self.now.table ≡ 32 = search rules in
    let places : length c.args.self.now.jobs ≡ 64 = search rules in
    let sound : IsSound c.args.self.now = (share_open _ _ c.in_ok-share.ensures).0 in
    refused_by (leave_missing _ entries places sound _ (sym c.if-not-one_to.ensures) (found_none _ _ c.in_ok-share.ensures.jobs _ _ c.in_default.ensures).0)

pub overflow_sub-self : goal.overflow_sub-self
overflow_sub-self c =
    let entries : length c.args.self.now.table ≡ 32 = search rules in
    let places : length c.args.self.now.jobs ≡ 64 = search rules in
    let sound : IsSound c.args.self.now = (share_open _ _ c.in_ok-share.ensures).0 in
    omega (arith, leave_some _ entries places sound _ (sym c.if-not-one_to.ensures) (found_there _ _ c.in_ok-share.ensures.jobs _ _ c.in-Ok.ensures).0)

pub slice_bounds-take_out-end : goal.slice_bounds-take_out-end
slice_bounds-take_out-end c =
    let entries : length c.args.self.now.table ≡ 32 = search rules in
    let places : length c.args.self.now.jobs ≡ 64 = search rules in
    let sound : IsSound c.args.self.now = (share_open _ _ c.in_ok-share.ensures).0 in
    omega (arith, sound.places)

pub returns : goal.returns
returns c =
    let entries : length c.args.self.now.table ≡ 32 = search rules in
    let places : length c.args.self.now.jobs ≡ 64 = search rules in
    let sound : IsSound c.args.self.now = (share_open _ _ c.in_ok-share.ensures).0 in
    let there = found_there _ _ c.in_ok-share.ensures.jobs _ _ c.in-Ok.ensures in
    leave_out _ entries places sound _ (sym c.if-not-one_to.ensures) there.0 _ _ there.1
    (taken_out_part c.args.self.now.jobs places c.args.self.now.held _ sound.places c.take_out.ensures)
