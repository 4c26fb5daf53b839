-- A job that is offered without being admitted (02, 2026-01): "For a job not yet held, a library call refused as 03 is, but never by 17 …".
use Rattle.std.specs.Prelude.{ℕ, ◌≡◌, true, false, not, List, Result, Ok, Err, leb, length}
use Rattle.gmf.specs.declared.Machine.{Machine}
use Rattle.gmf.specs.declared.Job.{Job}
use Rattle.gmf.specs.Jobs.{job_due}
use Rattle.ranges.specs.Ranges.{job_fits}
use Rattle.places.specs.Places.{has, insert}
use Rattle.workload.specs.declared.Totals.{Totals}
use Rattle.workload.specs.Load.{totals}
use Rattle.refusals.specs.declared.Refusal.{Refusal}
use Rattle.refusals.specs.declared.Refusal.TheVariants.{JobNumbers, Damaged, IdHeld, PlacesFull, HyperperiodTooLong}
use Rattle.planner.specs.declared.Roster.{Roster}
use Rattle.planner.specs.declared.Offer.{Offer}
use Rattle.planner.specs.Tests.{cycle_too_long}
use Rattle.planner.specs.Model.{Model, Closed, Opened, Outcome, refused, accepted, refuse_if, on_machine}
use Rattle.planner.specs.Roster.{model_of, roster_of, well_formed}

-- "4. An id, C or T not 1 to 65,535", and a D not from 1 to T: the job of some numbers.
unfoldable pub job_in : ℕ → ℕ → ℕ → ℕ → Result Job Refusal
job_in id cost period deadline = elim (job_fits id cost period deadline) [ true ↦ Ok (job_due id cost period deadline) | false ↦ Err JobNumbers ]

-- "… with the job added …": 03's conditions 13, 15 and 16 in their order, and otherwise the jobs with it, whether or not a plan passes.
unfoldable pub offered : Job → Machine → List ℕ → List Job → Outcome
offered new M table jobs =
    refuse_if (has new.id jobs) IdHeld
    (refuse_if (leb 64 (length jobs)) PlacesFull
    (refuse_if (cycle_too_long (insert new jobs)) HyperperiodTooLong
    (accepted (Opened M table (insert new jobs)))))

-- The model with the job added; the model that it is offered to stays. "03: 5, 11, 4, 13, 15, 16, 17." (5 is a line's.)
unfoldable pub offer : Model → ℕ → ℕ → ℕ → ℕ → Outcome
offer model id cost period deadline =
    on_machine model (λ M table jobs. refuse_if (not (job_fits id cost period deadline)) JobNumbers (offered (job_due id cost period deadline) M table jobs))

-- On a roster: 7 "is looked at before everything else".
unfoldable pub offer_on : Roster → ℕ → ℕ → ℕ → ℕ → Outcome
offer_on r id cost period deadline = elim (well_formed r) [ true ↦ offer (model_of r) id cost period deadline | false ↦ refused Damaged ]

-- The totals of a model's jobs. Without a machine there are none.
unfoldable pub totals_in : Model → Totals
totals_in Closed = record { hyperperiod = 0; work = 0; fit = false }
totals_in (Opened M table jobs) = totals jobs

-- The refusal, or the places and the totals that an offer comes to.
unfoldable pub offering_as : Outcome → Result Offer Refusal
offering_as (refused refusal) = Err refusal
offering_as (accepted model) = Ok (record { jobs = (roster_of model).jobs; totals = totals_in model })

unfoldable pub offering_to : Roster → ℕ → ℕ → ℕ → ℕ → Result Offer Refusal
offering_to r id cost period deadline = offering_as (offer_on r id cost period deadline)

-- An offer that is not refused, on such a roster, which has 32 entries and 64 places.
pub record IsOfferOn (r : Roster) (id cost period deadline : ℕ) (offer : Offer) : Type 0 where
  pub entries : length r.table ≡ 32
  pub places : length r.jobs ≡ 64
  pub answer : Ok offer ≡ offering_to r id cost period deadline
