-- `frame_reader::line_end` meets its contract: the first 0A from the position on ends the line.
use mathlib.Core.Path.{sym, ◌∙◌}
use mathlib.Core.Logic.{⊎_elim}
use native.Mathlib.Omega.{arith}
use Rattle.std.proofs.Common.{rules, tests}
use Rattle.std.proofs.lemmas.Iterator.{YieldsList-from_slice}
use Rattle.std.proofs.lemmas.Iterator.Search.{position_from_yields_List}
use Rattle.frame_reader.proofs.Lines.{is_feed, first_feed, end_none, end_by_feed, end_by_length}
use Rattle.frame_reader.proofs.line_end.Goals as goal

pub returns-in_default : goal.returns-in_default
returns-in_default c = ⊎_elim (λ past. sym (end_none _ _ (omega arith))) (λ no. absurd (omega arith)) c.in_default.ensures.lookup.0

pub returns-in-Some-position : goal.returns-in-Some-position
returns-in-Some-position c =
    let rest = c.in-Some.rest.now in
    let found = position_from_yields_List is_feed _ _ c.position.result c.position.ensures.ran (YieldsList-from_slice rest cc) (λ x b q k. search (rules, tests)) in
    end_by_feed _ _ rest c.in-Some.ensures.lookup.0.2 _ (first_feed rest _ (sym c.in-Some-position.is ∙ found))

pub returns-in-None : goal.returns-in-None
returns-in-None c =
    let rest = c.in-Some.rest.now in
    let found = position_from_yields_List is_feed _ _ c.position.result c.position.ensures.ran (YieldsList-from_slice rest cc) (λ x b q k. search (rules, tests)) in
    end_by_length _ _ rest c.in-Some.ensures.lookup.0.2 (omega (arith, c.in-Some.ensures.lookup.0.0)) (first_feed rest _ (sym c.in-None.is ∙ found))
