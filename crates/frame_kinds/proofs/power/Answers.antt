-- `frame_kinds::power` meets its contract: 4 to 128 bytes in fours.
use mathlib.Core.Path.{◌≡◌, refl}
use mathlib.Core.Logic.{⊎_elim}
use lib.ListN.{length, length-set}
use native.Mathlib.Omega.{arith}
use Rattle.frame_kinds.specs.Frames.{numbers_from}
use Rattle.frame_kinds.proofs.Numbers.{four_number, filled_more}
use Rattle.frame_kinds.proofs.Readings.{power_wrong, power_right}
use Rattle.frame_kinds.proofs.power.Goals as goal

pub returns-in_default : goal.returns-in_default
returns-in_default c = power_wrong _ (λ p. omega (arith, p.2))

pub returns-then-count-eq0 : goal.returns-then-count-eq0
returns-then-count-eq0 c =
    power_wrong _ (λ p. ⊎_elim (λ none. omega (arith, p.0)) (λ many. omega (arith, p.1, many.1)) c.then-count-eq0.either)

pub loop-i-init : goal.loop-i-init
unfolding numbers_from
loop-i-init c = (refl, refl)

pub loop-i-preserved : goal.loop-i-preserved
loop-i-preserved c =
    let l = c.loop-i in (
      simp length-set (omega arith),
      filled_more _ 4 l.values l.i _ (omega arith) l.invariant.1
          (four_number _ _ l.i _ (omega arith) _ c.as_chunks.ensures.front c.from_be_bytes.ensures),
    )

pub returns : goal.returns
returns c =
    let all : length c.as_chunks.result.0.now ≡ c.loop-i.i = omega arith in
    power_right _ _ _ (omega arith) (omega arith) (omega arith) (omega arith) (rw all c.loop-i.invariant.1)
