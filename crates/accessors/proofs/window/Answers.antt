-- `accessors::window` meets its contract.
use mathlib.Core.Path.{refl}
use Rattle.gmf.specs.Jobs.{window}
use Rattle.accessors.proofs.window.Goals as goal

pub returns : goal.returns
unfolding window
returns c = refl
