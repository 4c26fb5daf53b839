-- By the numbers that are read, and whether they are in steps.
use mathlib.Core.Path.{◌≡◌, refl, sym, ap, ◌∙◌}
use Rattle.std.proofs.Common.{Some}
use Rattle.std.proofs.lemmas.Result.{err_from_is_err_and}
use Rattle.frequencies.specs.Lists.{frequencies_of}
use Rattle.clocks.proofs.Answers.{no_list, some, rises, divisor_some, uneven, even}
use Rattle.clocks.proofs.read_clock.Goals.{After-numbers-numbers}
use Rattle.clocks.proofs.read_clock.Goals as goal

pub returns-in_err-read : goal.returns-in_err-read
returns-in_err-read c =
    let none = c.in_err-read.ensures in
    let p = err_from_is_err_and c.from_residual.result c.from_residual.ensures.1 in
    rw (p.1, p.2) (no_list _ _ c.read_list.ensures none.ok_part _ none.value)

-- The numbers are those of the list.
numbers_are : (c : After-numbers-numbers) → frequencies_of c.args.list.now ≡ Some c.numbers-numbers.result.now
numbers_are c = sym c.read_list.ensures ∙ c.in_ok-read.ensures.ok_part ∙ ap Some (sym c.numbers-numbers.ensures.value)

pub bounds-numbers-0 : goal.bounds-numbers-0
bounds-numbers-0 c = some _ _ (numbers_are (goal.at.bounds-numbers-0 c).After-numbers-numbers)

pub first_gap-gap-requires : goal.first_gap-gap-requires
first_gap-gap-requires c = rises _ _ (numbers_are (goal.at.first_gap-gap-requires c).After-numbers-numbers)

pub returns-then-not-in_steps : goal.returns-then-not-in_steps
returns-then-not-in_steps c =
    uneven _ _ (numbers_are (goal.at.returns-then-not-in_steps c).After-numbers-numbers) _ _ refl c.first_gap-gap.ensures _ c.in_steps.ensures c.if-not-in_steps.true

pub nonzero_div-result : goal.nonzero_div-result
nonzero_div-result c =
    divisor_some _ _ (numbers_are (goal.at.nonzero_div-result c).After-numbers-numbers) _ _ refl c.first_gap-gap.ensures _ c.gcd-divisor.ensures

pub nonzero_div-result-2 : goal.nonzero_div-result-2
nonzero_div-result-2 c =
    divisor_some _ _ (numbers_are (goal.at.nonzero_div-result-2 c).After-numbers-numbers) _ _ refl c.first_gap-gap.ensures _ c.gcd-divisor.ensures

pub returns : goal.returns
returns c =
    even _ _ (numbers_are (goal.at.returns c).After-numbers-numbers) _ _ refl c.first_gap-gap.ensures _ c.in_steps.ensures c.if-not-in_steps.false _ _ _ _ c.gcd-divisor.ensures refl refl refl
