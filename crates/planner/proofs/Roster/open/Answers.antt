-- `planner::Roster::open` meets its contract.
use native.Mathlib.Omega.{arith}
use mathlib.Core.Path.{◌≡◌, sym, ◌∙◌}
use borrow.Author.Rules.{rules}
use lib.ListN.{length}
use Rattle.gmf.specs.Machine.{InRange, machine}
use Rattle.ranges.proofs.Rules.{machine_range}
use Rattle.planner.proofs.Outcomes.{open_1, open_2, open_0}
use Rattle.planner.proofs.Replies.{refused_by, is_open, reply_damaged, reply_closed, reply_opened, open_12}
use Rattle.planner.proofs.Roster.open.Goals as goal

pub returns-in-Damaged : goal.returns-in-Damaged
returns-in-Damaged c = refused_by (reply_damaged _ _ (sym (c.in-Damaged.ensures)))

pub returns-in-Open : goal.returns-in-Open
returns-in-Open c =
    let entries : length c.args.self.now.table ≡ 32 = search rules in
    let places : length c.args.self.now.jobs ≡ 64 = search rules in
    refused_by (open_12 _ entries places (is_open _ _ entries places (sym (c.in-Open.ensures))).0 _ _ _ _)

pub returns-then-not-one_to : goal.returns-then-not-one_to
returns-then-not-one_to c = refused_by (reply_closed _ (sym (c.in-Closed.ensures)) _ _ (open_1 _ _ _ _ (sym (c.if-not-one_to.ensures))))

pub returns-then-not-speeds_fit : goal.returns-then-not-speeds_fit
returns-then-not-speeds_fit c =
    refused_by (reply_closed _ (sym (c.in-Closed.ensures)) _ _
    (open_2 _ _ _ _ (sym (c.if-not-one_to.ensures)) (sym (c.if-not-speeds_fit.ensures))))

in_range : (c : goal.Else-not-speeds_fit) → InRange (machine c.args.processors c.args.levels c.args.lowest c.args.step)
in_range c = machine_range _ _ _ _ (sym (c.if-not-one_to.ensures)) (sym (c.if-not-speeds_fit.ensures))

pub overflow_cast-machine : goal.overflow_cast-machine
unfolding machine
overflow_cast-machine c = omega (arith, (in_range c).processors)

pub overflow_cast-machine-2 : goal.overflow_cast-machine-2
unfolding machine
overflow_cast-machine-2 c = omega (arith, (in_range c).levels)

pub overflow_cast-machine-3 : goal.overflow_cast-machine-3
unfolding machine
overflow_cast-machine-3 c = omega (arith, (in_range c).lowest)

pub overflow_cast-machine-4 : goal.overflow_cast-machine-4
unfolding machine
overflow_cast-machine-4 c = omega (arith, (in_range c).step)

pub default_table-table-requires : goal.default_table-table-requires
unfolding machine
default_table-table-requires c = in_range c

pub returns : goal.returns
unfolding machine
returns c =
    let entries : length c.args.self.now.table ≡ 32 = search rules in
    let places : length c.args.self.now.jobs ≡ 64 = search rules in
    let closed = sym (c.in-Closed.ensures) in
    reply_opened _ entries places closed _ _ c.default_table-table.ensures
    ∙ reply_closed _ closed _ _ (open_0 _ _ _ _ (sym (c.if-not-one_to.ensures)) (sym (c.if-not-speeds_fit.ensures)))
