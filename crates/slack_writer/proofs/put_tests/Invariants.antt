-- `slack_writer::put_tests` meets its contract: the bytes of the tests before the i-th stand at the start of the body.
use Rattle.slack_writer.proofs.Bodies.{Put}
use Rattle.slack_writer.proofs.put_tests.Given as goal

abbrev pub invariant-loop-i : goal.invariant-loop-i
invariant-loop-i l = Put l.ticks l.remainders l.initial.body l.body l.i
