-- `frame_kinds::machine` meets its contract: the numbers are those of its fields' widths.
use mathlib.Core.Path.{refl, ◌∙◌}
use native.Mathlib.Omega.{arith}
use Rattle.frame_kinds.proofs.Numbers.{pair_number}
use Rattle.frame_kinds.proofs.Readings.{speeds_length, machine_right, machine_wrong}
use Rattle.frame_kinds.proofs.machine.Goals as goal

pub returns-in_default : goal.returns-in_default
returns-in_default c = machine_wrong _ (λ e. omega arith)

pub returns-in_err-lowest : goal.returns-in_err-lowest
returns-in_err-lowest c =
    c.from_residual.ensures
    ∙ machine_wrong _ (λ e. c.in_err-lowest.ensures (omega (arith, speeds_length c.args.rest.now _ refl (omega arith))))

pub returns : goal.returns
returns c =
    let pairs = c.in_ok-lowest.ensures in
    machine_right _ _ refl _ _ _ _ (omega arith) pairs.0 refl refl
    (pair_number _ 2 0 _ (omega arith) _ pairs.1 c.from_be_bytes.ensures)
    (pair_number _ 2 1 _ (omega arith) _ pairs.1 c.from_be_bytes-2.ensures)
