-- `frame_reader::decode` meets its contract: the text is what stands in the buffer and then the text of the rest of the line.
use mathlib.Core.Path.{◌≡◌, refl, sym, ap, ◌∙◌}
use lib.ListN.{length}
use Prim.Native.Nat.{◌+◌, ◌*◌}
use native.Mathlib.Omega.{arith}
use borrow.Author.Rules.{rules}
use Rattle.hexadecimal.specs.Text.{value_of}
use Rattle.frame_reader.proofs.Decoding.{none_right, cut_length, open_wrong, odd_wrong, digit_at, digit_wrong, begin, more, closed, last_at}
use Rattle.frame_reader.proofs.decode.Goals as goal

pub returns-in_err-last : goal.returns-in_err-last
returns-in_err-last c = rw c.from_residual.ensures (sym (none_right _ (λ frame r. omega (arith, r.size, c.in_err-last.ensures.cases))))

pub returns-then-last-ne10 : goal.returns-then-last-ne10
returns-then-last-ne10 c = sym (open_wrong _ _ _ c.in_ok-last.ensures.cases.0 c.if-last-ne10.true)

pub returns-in_default : goal.returns-in_default
returns-in_default c = sym (odd_wrong _ _ _ c.in_ok-last.ensures.cases.0 (omega (arith, c.as_chunks.ensures.back_len)))

pub loop-i-init : goal.loop-i-init
loop-i-init c = begin _ _ (search rules)

pub returns-in_err-high : goal.returns-in_err-high
returns-in_err-high c =
    rw c.from_residual-in_err-high.ensures
    (sym (digit_wrong _ _ _ c.in_ok-last.ensures.cases.0 _ c.loop-i.i c.as_chunks.ensures.front (omega arith) 0 (omega arith) (sym c.in_err-high.ensures.value)))

pub returns-in_err-low : goal.returns-in_err-low
returns-in_err-low c =
    rw c.from_residual-in_err-low.ensures
    (sym (digit_wrong _ _ _ c.in_ok-last.ensures.cases.0 _ c.loop-i.i c.as_chunks.ensures.front (omega arith) 1 (omega arith) (sym c.in_err-low.ensures.value)))

pub loop-i-preserved : goal.loop-i-preserved
loop-i-preserved c =
    let l = c.loop-i in
    let cut = c.in_ok-last.ensures.cases.0 in
    let size = cut_length _ _ _ cut in
    let front = c.as_chunks.ensures.front in
    more _ _ l.i l.invariant c.in_ok-high.high c.in_ok-low.low _ (omega arith) (omega arith)
    (c.in_ok-high.ensures.value ∙ ap value_of (digit_at _ _ _ cut _ l.i front (omega arith) 0 (2 * l.i) (omega arith) (omega arith)))
    (c.in_ok-low.ensures.value ∙ ap value_of (digit_at _ _ _ cut _ l.i front (omega arith) 1 (2 * l.i + 1) (omega arith) refl))
    (omega arith)

pub returns : goal.returns
returns c =
    let cut = c.in_ok-last.ensures.cases.0 in
    let size = cut_length _ _ _ cut in
    let all : length c.as_chunks.result.0.now ≡ c.loop-i.i = omega arith in
    rw all (sym (closed _ _ c.loop-i.i c.loop-i.invariant (omega arith) (last_at _ _ _ cut _ (omega arith) ∙ c.if-last-ne10.false)))
