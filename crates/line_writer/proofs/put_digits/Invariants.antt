-- Each turn stores the two digits of a byte: `Digits` is the loop's invariant.
use Rattle.line_writer.proofs.Stores.{Digits}
use Rattle.line_writer.proofs.put_digits.Given as goal

abbrev pub invariant-loop-i : goal.invariant-loop-i
invariant-loop-i l = Digits l.bytes l.initial.part l.part l.i
