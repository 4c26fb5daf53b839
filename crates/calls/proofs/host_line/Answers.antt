-- `calls::host_line` meets its contract.
use mathlib.Core.Path.{refl, sym, ap, ◌∙◌}
use Rattle.std.specs.Prelude.{Option}
use Rattle.frame_kinds.specs.declared.Frame.{Frame}
use Rattle.calls.specs.Lines.{asked_as, asked, wants_frame, reply_as}
use Rattle.calls.proofs.Asking.{line_passed, line_called}
use Rattle.calls.proofs.host_line.Goals as goal

pub returns-then-wants_frame : goal.returns-then-wants_frame
unfolding asked
returns-then-wants_frame c =
    line_passed c.args.roster _
    (ap (λ (q : Option Frame). wants_frame (asked_as q)) (sym c.read_line-frame.ensures.0) ∙ sym c.if-wants_frame.ensures)

pub returns : goal.returns
unfolding asked
returns c =
    line_called c.args.roster _
    (ap (λ (q : Option Frame). wants_frame (asked_as q)) (sym c.read_line-frame.ensures.0) ∙ sym c.if-wants_frame.ensures) _ _ _
    (c.call_frame.ensures ∙ ap (λ (q : Option Frame). reply_as c.args.roster (asked_as q) _ 0) c.read_line-frame.ensures.0)
    refl c.call_frame.auto.page
