-- A place beyond the end is refused. Otherwise what is answered of the part from the place on is answered of the page.
use native.Mathlib.Omega.{arith}
use Rattle.line_writer.specs.Page.{number_of}
use Rattle.line_writer.proofs.Page.{no_room, answers_part}
use Rattle.line_writer.proofs.write_line.Goals as goal

pub returns-then-page-place : goal.returns-then-page-place
unfolding number_of
returns-then-page-place c = no_room c.args.head.now c.args.body.now _ c.args.place (omega arith)

pub returns : goal.returns
returns c = answers_part _ _ c.args.place _ _ (omega arith) c.put_line.ensures
