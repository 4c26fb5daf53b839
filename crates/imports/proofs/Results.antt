-- The claims of imports, proved.
use Rattle.imports.specs.Claims.{Importing}
use Rattle.imports.proofs.AcceptanceTrials.{import_trials}
use Rattle.imports.proofs.Rules.{order_rule, follow_rule}

pub importing : Importing
importing = record { order_rule = order_rule; follow_rule = follow_rule; import_trials = import_trials }
