-- By what number a malformed line is refused on a roster stays the same from line to line.
use Prim.Native.Nat.{ℕ}
use mathlib.Core.Path.{◌≡◌, refl, sym, ap, ◌∙◌}
use mathlib.Core.Bool.{Bool, true, false}
use mathlib.Core.List.{List}
use lib.ListN.{length}
use Rattle.planner.specs.declared.Roster.{Roster}
use Rattle.planner.specs.Model.{Model, Call, step}
use Rattle.planner.specs.Roster.{model_of, roster_of, well_formed, reply_to}
use Rattle.planner.specs.Calls.{after}
use Rattle.planner.specs.Claims.{Kept}
use Rattle.planner.proofs.Results.{planner}
use Rattle.calls.specs.Lines.{Asked, malformed, change, plan, slack, malformed_number, reply_as}

-- A roster is damaged, or it is that of a model as calls make it.
pub data Stands (r : Roster) : Type 0 where
  damaged : well_formed r ≡ false → Stands r
  carries : (model : Model) → Kept model → r ≡ roster_of model → Stands r

pub stands : (r : Roster) → length r.table ≡ 32 → length r.jobs ≡ 64 → Stands r
stands r entries places = go (well_formed r) refl
  where
    go : (b : Bool) → well_formed r ≡ b → Stands r
    go true e = carries (model_of r) (planner.any_roster.formed r entries places e) (sym ((planner.forms r entries places).carries e))
    go false e = damaged e

-- After a call it still stands so, and is as well formed as before.
pub after_call : (r : Roster) → Stands r → (call : Call) → Stands (reply_to r call).roster × (well_formed (reply_to r call).roster ≡ well_formed r)
after_call r (damaged e) call =
    let same = planner.any_roster.damaged r e call in
    (damaged (ap well_formed same ∙ e), ap well_formed same)
after_call r (carries model kept is) call =
    let rule = planner.one_call model kept in
    let next = after model (step model call) in
    let becomes : (reply_to r call).roster ≡ roster_of next = ap (λ (q : Roster). (reply_to q call).roster) is ∙ rule.roster call in (
      carries next (rule.kept call) becomes,
      ap well_formed becomes ∙ (planner.one_call next (rule.kept call)).well_formed_law ∙ sym (ap well_formed is ∙ rule.well_formed_law),
    )

same_number : (r q : Roster) → well_formed r ≡ well_formed q → malformed_number r ≡ malformed_number q
unfolding malformed_number
same_number r q e = rw (e, malformed_number)

pub after_line : (r : Roster) → Stands r → (ask : Asked) (page : List ℕ) (place : ℕ)
    → Stands (reply_as r ask page place).roster × (malformed_number (reply_as r ask page place).roster ≡ malformed_number r)
unfolding reply_as
after_line r so malformed page place = (so, refl)
after_line r so (change call) page place = let next = after_call r so call in (next.0, same_number _ r next.1)
after_line r so plan page place = (so, refl)
after_line r so slack page place = (so, refl)
