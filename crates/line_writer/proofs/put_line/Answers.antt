-- A line that does not fit is refused before a byte changes. One that fits: the digits of the head, those of the body after them, and 0A.
use native.Mathlib.Omega.{arith}
use Rattle.line_writer.specs.Page.{number_of}
use Rattle.line_writer.proofs.Page.{no_room, answers_line}
use Rattle.line_writer.proofs.put_line.Goals as goal

pub returns-then-room-head : goal.returns-then-room-head
unfolding number_of
returns-then-room-head c = no_room c.args.head.now c.args.body.now _ 0 (omega arith)

pub returns-then-room-start : goal.returns-then-room-start
unfolding number_of
returns-then-room-start c = no_room c.args.head.now c.args.body.now _ 0 (omega arith)

pub returns-then-room-start-2 : goal.returns-then-room-start-2
unfolding number_of
returns-then-room-start-2 c = no_room c.args.head.now c.args.body.now _ 0 (omega arith)

pub returns : goal.returns
unfolding number_of
returns c =
    let a = c.args in
    answers_line a.head.now a.body.now a.part.now _ _ _ (omega arith) (omega arith)
    c.put_digits.ensures c.put_digits-2.ensures
