-- `desk::settle` meets its contract.
use Rattle.std.proofs.Common.{⊎_elim, arith}
use Rattle.hexadecimal.specs.Text.{line_of}
use Rattle.frame_writer.specs.Frames.{refusal_bytes}
use Rattle.refusals.specs.Numbers.{refusal_number}
use Rattle.filing.proofs.Written.{put_rule}
use Rattle.desk.proofs.Filling.{settled_accepted, settled_refused}
use Rattle.desk.proofs.settle.Goals as goal

pub overflow_add-result-in-Err : goal.overflow_add-result-in-Err
overflow_add-result-in-Err c =
    ⊎_elim (λ e. omega (arith, c.put_refusal.ensures.0)) (λ h. omega (arith, c.put_refusal.ensures.0))
    (put_rule c.args.page.now c.args.place (line_of (refusal_bytes c.args.line (refusal_number c.in-Err.refusal)))).fits

pub returns-in-Ok : goal.returns-in-Ok
returns-in-Ok c = settled_accepted c.args.line c.args.place c.args.page.now c.args.answer _ c.in-Ok.is

pub returns-in-Err : goal.returns-in-Err
returns-in-Err c =
    settled_refused c.args.line c.args.place c.args.page.now c.args.answer _ c.in-Err.is _ _
    c.put_refusal.ensures.0 c.put_refusal.ensures.1
