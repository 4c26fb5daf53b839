-- The claims of the host's sheets, proved.
use Rattle.host.specs.Claims.{Hosting}
use Rattle.host.proofs.AcceptanceTrials.{sheet_trials}
use Rattle.host.proofs.Hosting.{host_rule}
use Rattle.host.proofs.Importing.{import_rule}

pub hosting : Hosting
hosting = record { host_rule = host_rule; import_rule = import_rule; sheet_trials = sheet_trials }
