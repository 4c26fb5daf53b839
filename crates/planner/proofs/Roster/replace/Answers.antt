-- `planner::Roster::replace` meets its contract.
use mathlib.Core.Path.{◌≡◌, sym, ◌∙◌}
use borrow.Author.Rules.{rules}
use lib.ListN.{length}
use Rattle.std.proofs.lemmas.Result.{err_from_is_err_and}
use Rattle.power_tables.proofs.Results.{table_laws}
use Rattle.planner.specs.Claims.{IsSound}
use Rattle.planner.proofs.Outcomes.{table_11, table_3, table_0}
use Rattle.planner.proofs.Replies.{refused_by, share_open, untotalled, reply_open, reply_table}
use Rattle.planner.proofs.Roster.replace.Goals as goal

pub returns-in_err-share : goal.returns-in_err-share
returns-in_err-share c =
    let p = err_from_is_err_and c.from_residual.result c.from_residual.ensures.1 in
    rw (p.1, p.2) (untotalled _ _ _ c.in_err-share.ensures (table_11 _))

pub returns-then-not-accepts : goal.returns-then-not-accepts
returns-then-not-accepts c =
    let entries : length c.args.self.now.table ≡ 32 = search rules in
    let places : length c.args.self.now.jobs ≡ 64 = search rules in
    let sound : IsSound c.args.self.now = (share_open _ _ c.in_ok-share.ensures).0 in
    refused_by (reply_open _ entries places sound _ _ (table_3 _ _ _ _ (sym (c.if-not-accepts.ensures))))

pub returns : goal.returns
returns c =
    let entries : length c.args.self.now.table ≡ 32 = search rules in
    let places : length c.args.self.now.jobs ≡ 64 = search rules in
    let sound : IsSound c.args.self.now = (share_open _ _ c.in_ok-share.ensures).0 in
    let ok = sym (c.if-not-accepts.ensures) in
    reply_table _ entries places sound _ _ ok ((table_laws.tests _ _).0 ok).size c.entries_of-table.ensures
    ∙ reply_open _ entries places sound _ _ (table_0 _ _ _ _ ok)
