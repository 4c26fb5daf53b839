-- `planner::Roster::enter` meets its contract.
use native.Mathlib.Omega.{arith}
use mathlib.Core.Path.{sym, ap, ◌∙◌}
use Rattle.std.specs.Prelude.{is_err}
use Rattle.std.proofs.lemmas.Result.{err_from_is_err_and}
use Rattle.planner.proofs.Offers.{admit_refused, taken, admit_none, admit_some}
use Rattle.planner.proofs.Roster.enter.Goals as goal

pub returns-in_err-offer : goal.returns-in_err-offer
returns-in_err-offer c =
    let p = err_from_is_err_and c.from_residual.result c.from_residual.ensures.1 in
    rw (p.1, p.2) (admit_refused _ _ _ _ _ _ c.in_err-offer.ensures)

pub returns-then-is_err : goal.returns-then-is_err
returns-then-is_err c =
    admit_none _ _ _ _ _ _ c.in_ok-offer.ensures (ap is_err (sym c.judge.ensures) ∙ sym c.is_err.ensures.value ∙ c.if-is_err.true)

pub overflow_add-self : goal.overflow_add-self
overflow_add-self c =
    let more = (taken _ _ _ _ _ _ c.in_ok-offer.ensures).with_one_more in
    omega (arith, more.size, more.few)

pub returns : goal.returns
returns c =
    admit_some _ _ _ _ _ _ c.in_ok-offer.ensures (ap is_err (sym c.judge.ensures) ∙ sym c.is_err.ensures.value ∙ c.if-is_err.false)
