-- `frame_kinds::retire` meets its contract: the number is that of its field's width.
use mathlib.Core.Path.{◌∙◌}
use native.Mathlib.Omega.{arith}
use Rattle.frame_kinds.proofs.Numbers.{pair_number}
use Rattle.frame_kinds.proofs.Readings.{retire_right, retire_wrong}
use Rattle.frame_kinds.proofs.retire.Goals as goal

pub returns-in_err-id : goal.returns-in_err-id
returns-in_err-id c = c.from_residual.ensures ∙ retire_wrong _ c.in_err-id.ensures

pub returns : goal.returns
returns c =
    let pairs = c.in_ok-id.ensures in
    retire_right _ _ pairs.0
    (pair_number _ 1 0 _ (omega arith) _ pairs.1 c.from_be_bytes.ensures)
