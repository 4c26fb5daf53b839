-- What an import comes to, one law for each way out, and what is found and replied of that.
use Prim.Native.Nat.{ℕ}
use mathlib.Core.Path.{◌≡◌, refl, sym, ap, ◌∙◌}
use mathlib.Core.Bool.{true, false}
use mathlib.Core.List.{List}
use Rattle.gmf.specs.declared.Machine.{Machine}
use Rattle.gmf.specs.Machine.{machine}
use Rattle.std.proofs.Common.{Result, Ok, Err}
use Rattle.ranges.specs.Ranges.{one_to, speeds_fit}
use Rattle.clocks.specs.declared.Clock.{Clock}
use Rattle.clocks.specs.declared.ListError.{ListError}
use Rattle.clocks.specs.declared.ListError.TheVariants.{NoList, Uneven}
use Rattle.clocks.specs.Clocks.{clock_of}
use Rattle.refusals.specs.declared.Refusal.{Refusal}
use Rattle.refusals.specs.declared.Refusal.TheVariants.{Processors, Speeds, FrequencyList, UnevenGaps}
use Rattle.planner.specs.Model.{Model, Closed, Call, Outcome, refused, accepted, refuse_if, opened, step}
use Rattle.planner.specs.Roster.{empty_roster, model_of, well_formed, replied, reply_to}
use Rattle.planner.specs.Calls.{outcome_number}
use Rattle.planner.proofs.Outcomes.{open_2, open_0}
use Rattle.planner.proofs.Results.{planner}
use Rattle.imports.specs.Imports.{by_clock, imported, found_in}

-- ---- The empty roster

empty_formed : well_formed empty_roster ≡ true
empty_formed = ap well_formed (sym planner.begins) ∙ (planner.one_call Closed tt).well_formed_law

empty_model : model_of empty_roster ≡ Closed
empty_model = ap model_of (sym planner.begins) ∙ (planner.one_call Closed tt).carried

-- A call on it replies what it does to the empty model.
pub on_empty : (call : Call) → reply_to empty_roster call ≡ replied empty_roster (step Closed call)
unfolding reply_to
on_empty call = rw (empty_formed, reply_to) (ap (λ (model : Model). replied empty_roster (step model call)) empty_model)

-- ---- By the processors, the clock, and the ranges of its speeds

module _ (m : ℕ) (list : List ℕ) where
  pub imported_1 : one_to 32 m ≡ false → imported m list ≡ refused Processors
  unfolding imported refuse_if
  imported_1 e = rw (e, imported, refuse_if)

  module _ (fits : one_to 32 m ≡ true) where
    pub at_clock : (clock : Result Clock ListError) → clock ≡ clock_of list → imported m list ≡ by_clock m clock
    unfolding imported refuse_if
    at_clock clock e = rw (fits, imported, refuse_if) (ap (by_clock m) (sym e))

    pub imported_18 : Err NoList ≡ clock_of list → imported m list ≡ refused FrequencyList
    unfolding by_clock
    imported_18 e = at_clock (Err NoList) e

    pub imported_19 : Err Uneven ≡ clock_of list → imported m list ≡ refused UnevenGaps
    unfolding by_clock
    imported_19 e = at_clock (Err Uneven) e

    module _ (clock : Clock) (e : Ok clock ≡ clock_of list) where
      pub imported_2 : speeds_fit clock.levels clock.lowest clock.step ≡ false → imported m list ≡ refused Speeds
      unfolding by_clock
      imported_2 f = at_clock (Ok clock) e ∙ open_2 m clock.levels clock.lowest clock.step fits f

      pub imported_0 : speeds_fit clock.levels clock.lowest clock.step ≡ true
          → imported m list ≡ accepted (opened (machine m clock.levels clock.lowest clock.step))
      unfolding by_clock
      imported_0 f = at_clock (Ok clock) e ∙ open_0 m clock.levels clock.lowest clock.step fits f

-- ---- What is found

pub found_refusal : (o : Outcome) (refusal : Refusal) → found_in o ≡ Err refusal → o ≡ refused refusal
unfolding found_in
found_refusal (refused other) refusal e = ap refused (let z : other ≡ refusal = cc in z)
found_refusal (accepted model) refusal e = cc

pub found_0 : (o : Outcome) (M : Machine) → found_in o ≡ Ok M → outcome_number o ≡ 0
unfolding found_in outcome_number
found_0 (refused other) M e = cc
found_0 (accepted model) M e = refl

pub found_opened : (o : Outcome) (M : Machine) → found_in o ≡ Ok M → (replied empty_roster o).roster.machine ≡ M
unfolding found_in replied
found_opened (refused other) M e = cc
found_opened (accepted model) M e = cc

pub found_ok : (o : Outcome) (M : Machine) → found_in o ≡ Ok M → (replied empty_roster o).answer ≡ Ok (tt {0})
unfolding found_in replied
found_ok (refused other) M e = cc
found_ok (accepted model) M e = refl
