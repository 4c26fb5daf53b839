-- `imports::import_machine` meets its contract.
use mathlib.Core.Path.{sym}
use Rattle.imports.proofs.Rules.{not_opened, opened_so}
use Rattle.imports.proofs.import_machine.Goals as goal

pub returns-in-Err : goal.returns-in-Err
returns-in-Err c = not_opened _ _ _ (sym c.in-Err.ensures) _ c.empty-roster.ensures

pub returns-in-Ok : goal.returns-in-Ok
returns-in-Ok c = opened_so _ _ _ (sym c.in-Ok.ensures) _ c.empty-roster.ensures _ c.open_machine.ensures
