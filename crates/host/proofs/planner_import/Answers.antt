-- By what is found: the import's refusal, or a machine and what was written of it.
use Rattle.host.proofs.Importing.{import_refused, import_written}
use Rattle.host.proofs.planner_import.Goals as goal

pub returns-in-Ok : goal.returns-in-Ok
returns-in-Ok c = import_written _ _ _ _ c.in-Ok.machine c.in-Ok.ensures _ _ c.write_machine.ensures _ c.writing_number.ensures

pub returns-in-Err : goal.returns-in-Err
returns-in-Err c = import_refused _ _ _ _ c.in-Err.refusal c.in-Err.ensures _ c.number.ensures
