-- `planner::Roster::inspect` meets its contract.
use mathlib.Core.Path.{◌≡◌, sym, ap, ◌∙◌}
use Rattle.std.specs.Prelude.{is_err}
use mathlib.Core.Bool.{true, false}
use borrow.Author.Rules.{rules}
use native.Mathlib.Omega.{arith}
use lib.ListN.{length}
use lib.Seq.{length-take-le}
use Rattle.planner.specs.Roster.{all_zero, in_shape}
use Rattle.planner.proofs.Forms.{shape_of}
use Rattle.planner.proofs.Conditions.{inspect_closed, inspect_shapeless, inspect_open, inspect_unplanned, inspect_long}
use Rattle.planner.proofs.Roster.inspect.Goals as goal

pub returns-then-is_zero : goal.returns-then-is_zero
returns-then-is_zero c = inspect_closed _ (sym c.is_zero.ensures ∙ c.if-is_zero.true)

pub returns-then-not-in_shape : goal.returns-then-not-in_shape
returns-then-not-in_shape c =
    let not_zero : all_zero c.args.self.now ≡ false = sym c.is_zero.ensures ∙ c.if-is_zero.false in
    inspect_shapeless _ not_zero (sym c.in_shape.ensures ∙ c.if-not-in_shape.true)

pub shared_ref_as_front-load_of : goal.shared_ref_as_front-load_of
shared_ref_as_front-load_of c =
    let entries : length c.args.self.now.table ≡ 32 = search rules in
    let places : length c.args.self.now.jobs ≡ 64 = search rules in
    let shaped : in_shape c.args.self.now ≡ true = sym c.if-not-in_shape.ensures in
    (shape_of _ entries places shaped).few

pub load_of-requires : goal.load_of-requires
load_of-requires c =
    let entries : length c.args.self.now.table ≡ 32 = search rules in
    let places : length c.args.self.now.jobs ≡ 64 = search rules in
    let shaped : in_shape c.args.self.now ≡ true = sym c.if-not-in_shape.ensures in
    let s = shape_of _ entries places shaped in
    (omega (arith, length-take-le c.args.self.now.held c.args.self.now.jobs (omega (arith, s.few)), s.few), s.job_ranges)

pub returns-in_default : goal.returns-in_default
returns-in_default c =
    let entries : length c.args.self.now.table ≡ 32 = search rules in
    let places : length c.args.self.now.jobs ≡ 64 = search rules in
    inspect_long _ (sym c.if-is_zero.ensures) entries places (sym c.if-not-in_shape.ensures) _ c.load_of.ensures c.in_default.is

pub returns-then-is_err : goal.returns-then-is_err
returns-then-is_err c =
    let entries : length c.args.self.now.table ≡ 32 = search rules in
    let places : length c.args.self.now.jobs ≡ 64 = search rules in
    inspect_unplanned _ (sym c.if-is_zero.ensures) entries places (sym c.if-not-in_shape.ensures) _ c.load_of.ensures _ (sym c.in-Some.is)
    (ap is_err (sym c.judge.ensures) ∙ sym c.is_err.ensures.value ∙ c.if-is_err.true)

pub returns : goal.returns
returns c =
    let entries : length c.args.self.now.table ≡ 32 = search rules in
    let places : length c.args.self.now.jobs ≡ 64 = search rules in
    inspect_open _ (sym c.if-is_zero.ensures) entries places (sym c.if-not-in_shape.ensures) _ c.load_of.ensures _ (sym c.in-Some.is)
    (ap is_err (sym c.judge.ensures) ∙ sym c.is_err.ensures.value ∙ c.if-is_err.false)
