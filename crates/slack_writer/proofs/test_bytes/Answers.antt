-- `slack_writer::test_bytes` meets its contract: eight bytes of the number's bits, and the remainder.
use mathlib.Core.Path.{ap, ◌∙◌}
use mir.Syntax.{w64}
use Rattle.std.specs.Int.{to_be_bytes}
use Rattle.slack_writer.proofs.Signed.{complement_passed}
use Rattle.slack_writer.proofs.test_bytes.Goals as goal

pub returns : goal.returns
returns c = let bytes = c.to_be_bytes.ensures ∙ ap (to_be_bytes w64) (complement_passed _ c.ranges.ticks) in rw bytes
