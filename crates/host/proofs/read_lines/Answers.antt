-- `host::read_lines` meets its contract.
use Prim.Native.Nat.{◌+◌}
use native.Mathlib.Omega.{arith}
use mathlib.Core.Path.{ap, ◌∙◌}
use Rattle.std.specs.Iterator.Adapters.{enumerate_source, enumerate_count}
use Rattle.std.specs.Slice.Iter.{split_inclusive_rest}
use Rattle.std.proofs.Common.{rules, tests}
use Rattle.std.proofs.lemmas.Fn.{always_returns_same}
use Rattle.frame_reader.proofs.Lines.{is_feed}
use Rattle.host.proofs.Cutting.{first_cut, cut_shorter}
use Rattle.host.proofs.Walking.{walk_begin, walk_ended, walk_next, walk_stop}
use Rattle.host.proofs.read_lines.Goals as goal

pub loop-before-init : goal.loop-before-init
loop-before-init c =
    let begins = c.into_iter-before-iterator.ensures.into_iter_gives in
    walk_begin _ _ _ _ c.empty-roster.ensures
    (ap (λ s. split_inclusive_rest (enumerate_source s)) begins ∙ ap (λ s. split_inclusive_rest s) c.enumerate-before-items.ensures.source ∙ c.split_inclusive.ensures.rest)
    (ap (λ s. enumerate_count s) begins ∙ c.enumerate-before-items.ensures.count)

pub overflow_cast-result : goal.overflow_cast-result
overflow_cast-result c =
    let s = c.in-Some.ensures.steps in
    omega (arith, c.loop-before.invariant.counted, s.1, c.requires)

pub overflow_add-result : goal.overflow_add-result
overflow_add-result c =
    let s = c.in-Some.ensures.steps in
    omega (arith, c.loop-before.invariant.counted, s.1, c.requires)

pub returns-in-Err : goal.returns-in-Err
returns-in-Err c =
    let s = c.in-Some.ensures.steps in
    let at = (s.0.1.2 is_feed (always_returns_same _ _ _ (λ a r q k. search (rules, tests)))).1 in
    walk_stop c.args.sheet.now c.requires c.loop-before.roster _ _ c.loop-before.invariant _ _
    (first_cut _ _ _ _ s.0.0 s.0.1.1 s.0.2 at) (cut_shorter _ _ _ _ s.0.0 s.0.1.1 s.0.2)
    c.host_line-made.result c.host_line-made.ensures c.in-Err.refusal c.in-Err.is _ (ap (λ n. n + 1) s.1)

pub loop-before-preserved : goal.loop-before-preserved
loop-before-preserved c =
    let s = c.in-Some.ensures.steps in
    let at = (s.0.1.2 is_feed (always_returns_same _ _ _ (λ a r q k. search (rules, tests)))).1 in
    walk_next c.args.sheet.now c.requires c.loop-before.roster _ _ c.loop-before.invariant _ _
    (first_cut _ _ _ _ s.0.0 s.0.1.1 s.0.2 at) (cut_shorter _ _ _ _ s.0.0 s.0.1.1 s.0.2)
    c.host_line-made.result c.host_line-made.ensures c.in_default.field-0 c.in_default.is _ s.2

pub returns : goal.returns
returns c = walk_ended c.args.sheet.now c.requires c.loop-before.roster _ _ c.loop-before.invariant c.in-None.ensures.steps.0.0
