-- The claims of the desk's sheets, proved.
use Rattle.desk.specs.Claims.{Desks}
use Rattle.desk.proofs.Pages.{page_rule}
use Rattle.desk.proofs.Pieces.{desk_rule}

pub desks : Desks
desks = record { page_rule = page_rule; desk_rule = desk_rule }
