-- `frame_reader::read_line` meets its contract: by what was decoded.
use mathlib.Core.Path.{sym, ap, ◌∙◌}
use native.Mathlib.Omega.{arith}
use Rattle.frame_kinds.specs.Frames.{reading_of}
use Rattle.frame_reader.proofs.Readings.{as_said, long_line, wrong_text, right_text}
use Rattle.frame_reader.proofs.read_line.Goals as goal

pub returns-then-line-gt-LONGEST_LINE : goal.returns-then-line-gt-LONGEST_LINE
unfolding reading_of
returns-then-line-gt-LONGEST_LINE c = as_said _ _ (ap reading_of (long_line _ (omega arith)))

pub returns-in_err-decode : goal.returns-in_err-decode
unfolding reading_of
returns-in_err-decode c = as_said _ _ (c.from_residual.ensures ∙ ap reading_of (wrong_text _ (sym c.in_err-decode.ensures)))

pub returns : goal.returns
returns c = as_said _ _ (c.read_bytes.ensures ∙ ap reading_of (right_text _ _ (sym c.in_ok-decode.ensures)))
