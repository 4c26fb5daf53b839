-- `host::read_lines` meets its contract.
use Rattle.std.specs.Iterator.Adapters.{enumerate_source, enumerate_count}
use Rattle.std.specs.Slice.Iter.{split_inclusive_rest}
use Rattle.host.proofs.Walking.{Walking}
use Rattle.host.proofs.read_lines.Given as goal

abbrev pub invariant-loop-before : goal.invariant-loop-before
invariant-loop-before l = Walking l.sheet l.roster (split_inclusive_rest (enumerate_source l.before-iterator)) (enumerate_count l.before-iterator)
