-- `calls::admit` meets its contract.
use mathlib.Core.Path.{refl}
use Rattle.planner.specs.Model.{Admit}
use Rattle.calls.proofs.Asking.{as_change}
use Rattle.calls.proofs.admit.Goals as goal

pub returns : goal.returns
returns c =
    λ page place.
    as_change c.args.roster _ page place (Admit c.args.id c.args.cost c.args.period c.args.deadline) _ _
    c.changed.ensures
    c.admit.ensures
    refl
