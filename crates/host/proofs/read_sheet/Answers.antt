-- `host::read_sheet` meets its contract.
use Rattle.refusals.proofs.Results.{number_rule}
use Rattle.host.proofs.Walking.{too_long}
use Rattle.host.proofs.read_sheet.Goals as goal

pub returns-then-sheet-gt-LONGEST_SHEET : goal.returns-then-sheet-gt-LONGEST_SHEET
returns-then-sheet-gt-LONGEST_SHEET c = too_long c.args.sheet.now c.if-sheet-gt-LONGEST_SHEET.true _ number_rule.malformed
