-- `slack_writer::put_tests` meets its contract: each turn puts the bytes of a test in their place.
use mathlib.Core.Path.{refl, ◌∙◌}
use native.Mathlib.Omega.{arith}
use lib.IntN.{pos}
use lib.ListN.{get_or}
use mir.Syntax.{w64}
use mir.ValLaws.{to_z-of_z}
use borrow.Author.Rules.{rules}
use Rattle.slack_writer.proofs.Bodies.{put_begin, put_more}
use Rattle.slack_writer.proofs.put_tests.Goals as goal

pub loop-i-init : goal.loop-i-init
loop-i-init c = put_begin _ _ _

pub loop-i-preserved : goal.loop-i-preserved
loop-i-preserved c =
    put_more (pos 0) _ _ _ _ c.loop-i.invariant (omega arith) (omega arith) (omega arith) (c.copy_from_slice.ensures.after ∙ c.test_bytes.ensures) (to_z-of_z w64 (get_or c.args.ticks.now c.loop-i.i (pos 0)) (search rules)) refl (omega arith)
