-- `power_tables::all_zero` meets its contract.
use Rattle.std.proofs.Common.{rules, tests, eqb}
use mathlib.Core.Path.{◌∙◌}
use Rattle.std.proofs.lemmas.Iterator.{YieldsList-from_slice}
use Rattle.std.proofs.lemmas.Iterator.Search.{all_from_yields_List}
use Rattle.power_tables.proofs.Entries.{zeros_each}
use Rattle.power_tables.proofs.all_zero.Goals as goal

pub returns : goal.returns
returns c =
    all_from_yields_List (λ x. eqb x 0) _ _ c.all.result c.all.ensures.ran (YieldsList-from_slice c.args.numbers.now cc) (λ x b q k. search (rules, tests))
    ∙ zeros_each c.args.numbers.now
