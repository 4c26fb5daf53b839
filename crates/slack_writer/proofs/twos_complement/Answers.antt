-- `slack_writer::twos_complement` meets its contract: the library's bits are the definition's.
use mathlib.Core.Path.{◌∙◌}
use Rattle.slack_writer.proofs.Signed.{complement_passed}
use Rattle.slack_writer.proofs.twos_complement.Goals as goal

pub returns : goal.returns
returns c = c.cast_unsigned.ensures ∙ complement_passed _ c.ranges.x
