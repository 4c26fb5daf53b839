-- Each turn stores the two digits of a byte: `Digits` is the loop's invariant.
use native.Mathlib.Omega.{arith}
use Rattle.line_writer.proofs.Stores.{digits_begin, digits_more}
use Rattle.line_writer.proofs.put_digits.Goals as goal

pub loop-i-init : goal.loop-i-init
loop-i-init c = digits_begin _ _

pub loop-i-preserved : goal.loop-i-preserved
loop-i-preserved c =
    digits_more c.digit_of.result c.digit_of-in-loop-i.result c.loop-i.invariant (omega arith) (omega arith)
    (c.type_inv.bytes c.loop-i.i).fits c.digit_of.ensures c.digit_of-in-loop-i.ensures
