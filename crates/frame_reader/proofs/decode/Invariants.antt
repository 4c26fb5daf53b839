-- `frame_reader::decode` meets its contract: the text is what stands in the buffer and then the text of the rest of the line.
use Rattle.frame_reader.proofs.Decoding.{Progress}
use Rattle.frame_reader.proofs.decode.Given as goal

abbrev pub invariant-loop-i : goal.invariant-loop-i
invariant-loop-i l = Progress l.line l.buffer l.i
