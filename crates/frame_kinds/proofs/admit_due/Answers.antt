-- `frame_kinds::admit_due` meets its contract: the numbers are those of its fields' widths.
use mathlib.Core.Path.{◌∙◌}
use native.Mathlib.Omega.{arith}
use Rattle.frame_kinds.proofs.Numbers.{pair_number}
use Rattle.frame_kinds.proofs.Readings.{admit_due_right, admit_due_wrong}
use Rattle.frame_kinds.proofs.admit_due.Goals as goal

pub returns-in_err-id : goal.returns-in_err-id
returns-in_err-id c = c.from_residual.ensures ∙ admit_due_wrong _ c.in_err-id.ensures

pub returns : goal.returns
returns c =
    let pairs = c.in_ok-id.ensures in
    admit_due_right _ _ _ _ _ pairs.0
    (pair_number _ 4 0 _ (omega arith) _ pairs.1 c.from_be_bytes.ensures)
    (pair_number _ 4 1 _ (omega arith) _ pairs.1 c.from_be_bytes-2.ensures)
    (pair_number _ 4 2 _ (omega arith) _ pairs.1 c.from_be_bytes-3.ensures)
    (pair_number _ 4 3 _ (omega arith) _ pairs.1 c.from_be_bytes-4.ensures)
