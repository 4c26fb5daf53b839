-- `frame_kinds::read_bytes` meets its contract: one arm for each kind, and one for those that are none.
use mathlib.Core.Path.{refl, ap, ◌∙◌}
use borrow.Author.Rules.{rules}
use Rattle.frame_kinds.specs.Frames.{kind_of, reading_of}
use Rattle.frame_kinds.proofs.Readings.{no_bytes, some_bytes, unknown_bytes}
use Rattle.frame_kinds.proofs.read_bytes.Goals as goal

pub returns-in_err-kind : goal.returns-in_err-kind
returns-in_err-kind c = c.from_residual.ensures ∙ no_bytes _ c.in_err-kind.ensures.cases

pub returns-in-1 : goal.returns-in-1
returns-in-1 c = c.machine.ensures ∙ ap reading_of (some_bytes _ _ _ 1 c.in_ok-kind.ensures.cases.0 c.in-1.is)

pub returns-in-2 : goal.returns-in-2
returns-in-2 c = c.power.ensures ∙ ap reading_of (some_bytes _ _ _ 2 c.in_ok-kind.ensures.cases.0 c.in-2.is)

pub returns-in-3 : goal.returns-in-3
returns-in-3 c = c.admit.ensures ∙ ap reading_of (some_bytes _ _ _ 3 c.in_ok-kind.ensures.cases.0 c.in-3.is)

pub returns-in-4 : goal.returns-in-4
returns-in-4 c = c.retire.ensures ∙ ap reading_of (some_bytes _ _ _ 4 c.in_ok-kind.ensures.cases.0 c.in-4.is)

pub returns-in-5 : goal.returns-in-5
unfolding kind_of
returns-in-5 c = c.wanted.ensures 5 refl ∙ ap reading_of (some_bytes _ _ _ 5 c.in_ok-kind.ensures.cases.0 c.in-5.is)

pub returns-in-6 : goal.returns-in-6
returns-in-6 c = c.admit_due.ensures ∙ ap reading_of (some_bytes _ _ _ 6 c.in_ok-kind.ensures.cases.0 c.in-6.is)

pub returns-in-7 : goal.returns-in-7
unfolding kind_of
returns-in-7 c = c.wanted-in-7.ensures 7 refl ∙ ap reading_of (some_bytes _ _ _ 7 c.in_ok-kind.ensures.cases.0 c.in-7.is)

pub returns-in-0 : goal.returns-in-0
returns-in-0 c = unknown_bytes _ _ _ c.in_ok-kind.ensures.cases.0 (search rules)

pub returns-in-0-2 : goal.returns-in-0-2
returns-in-0-2 c = unknown_bytes _ _ _ c.in_ok-kind.ensures.cases.0 (search rules)
