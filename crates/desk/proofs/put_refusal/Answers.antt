-- `desk::put_refusal` meets its contract.
use Rattle.std.proofs.Common.{◌≡◌, ℕ, List, ap, ◌∙◌, arith, is_err}
use Rattle.hexadecimal.specs.Text.{line_of}
use Rattle.hexadecimal.proofs.Results.{hexadecimal}
use Rattle.frame_writer.specs.Frames.{refusal_bytes}
use Rattle.line_writer.specs.Page.{written}
use Rattle.refusals.specs.Numbers.{refusal_number}
use Rattle.filing.specs.Plans.{Filed}
use Rattle.filing.proofs.Written.{put_written, put_none}
use Rattle.desk.proofs.put_refusal.Goals as goal

numbered : (page : List ℕ) (place line number wanted : ℕ) → number ≡ wanted
    → written page place (line_of (refusal_bytes line number)) ≡ written page place (line_of (refusal_bytes line wanted))
numbered page place line number wanted e = ap (λ (n : ℕ). written page place (line_of (refusal_bytes line n))) e

pub returns-in-Ok : goal.returns-in-Ok
returns-in-Ok c =
    let l = refusal_bytes c.args.line (refusal_number c.args.refusal) in
    let put = put_written c.args.page.now c.args.place (line_of l) _ _ 13 (c.write_refusal.ensures ∙ numbered c.args.page.now c.args.place c.args.line _ _ c.number-number.ensures) (ap is_err c.in-Ok.is)
    (omega (arith, hexadecimal.line_length l)) in
    (ap (λ (f : Filed). f.count) put, ap (λ (f : Filed). f.page) put)

pub returns-in-Err : goal.returns-in-Err
returns-in-Err c =
    let l = refusal_bytes c.args.line (refusal_number c.args.refusal) in
    let put = put_none c.args.page.now c.args.place (line_of l) _ _ (c.write_refusal.ensures ∙ numbered c.args.page.now c.args.place c.args.line _ _ c.number-number.ensures) (ap is_err c.in-Err.is) in
    (ap (λ (f : Filed). f.count) put, ap (λ (f : Filed). f.page) put)
