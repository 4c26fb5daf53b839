-- `desk::Desk::fill` meets its contract.
use Rattle.std.proofs.Common.{sym, ◌∙◌}
use Rattle.desk.proofs.Pages.{page_allowed, page_too_long}
use Rattle.desk.proofs.Desk.fill.Goals as goal

pub returns-then-sheet-gt-LONGEST_SHEET : goal.returns-then-sheet-gt-LONGEST_SHEET
returns-then-sheet-gt-LONGEST_SHEET c =
    c.fill_too_long.ensures ∙ sym (page_too_long c.args.self c.args.sheet.now c.args.page.now c.if-sheet-gt-LONGEST_SHEET.true)

pub returns : goal.returns
returns c =
    c.fill_lines.ensures ∙ sym (page_allowed c.args.self c.args.sheet.now c.args.page.now c.if-sheet-gt-LONGEST_SHEET.false)
