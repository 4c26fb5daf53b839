-- `calls::malformed` meets its contract.
use mathlib.Core.Path.{refl, sym, ◌∙◌}
use Rattle.planner.proofs.Replies.{is_damaged, is_well}
use Rattle.calls.proofs.Asking.{number_damaged, number_well}
use Rattle.calls.proofs.malformed.Goals as goal

pub returns-in-Damaged : goal.returns-in-Damaged
returns-in-Damaged c = number_damaged _ (is_damaged _ (sym c.in-Damaged.ensures)) refl

pub returns-in_default : goal.returns-in_default
returns-in_default c = number_well _ (is_well _ (λ e. c.in_default.not-Damaged (c.inspect.ensures ∙ e))) refl
