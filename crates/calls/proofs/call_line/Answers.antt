-- `calls::call_line` meets its contract.
use mathlib.Core.Path.{ap, ◌∙◌}
use Rattle.std.specs.Prelude.{Option}
use Rattle.frame_kinds.specs.declared.Frame.{Frame}
use Rattle.calls.specs.Lines.{asked_as, asked, reply_as, line_reply}
use Rattle.calls.proofs.call_line.Goals as goal

pub returns : goal.returns
unfolding line_reply asked
returns c =
    c.call_frame.ensures
    ∙ ap (λ (q : Option Frame). reply_as c.args.roster (asked_as q) c.args.page.now c.args.place) c.read_line.ensures.0
