-- What the slack with a job is, as the code finds it of the offer.
use Prim.Native.Nat.{ℕ, ◌+◌, ◌-◌, ◌≤◌}
use mathlib.Core.Path.{◌≡◌, refl, sym, ap, ap₂, ◌∙◌}
use mathlib.Core.List.{List}
use Rattle.std.specs.Prelude.{Result, Ok, Err}
use Rattle.std.proofs.lemmas.List.{take-replicate}
use lib.ListN.{take, replicate}
use Rattle.gmf.specs.declared.Job.{Job}
use Rattle.refusals.specs.declared.Refusal.{Refusal}
use Rattle.gmf.specs.Jobs.{job_due}
use Rattle.places.specs.Places.{insert}
use Rattle.planner.specs.declared.Roster.{Roster}
use Rattle.planner.specs.declared.Offer.{Offer}
use Rattle.planner.specs.Model.{Outcome, refused, accepted}
use Rattle.planner.specs.Offers.{offer_on, offering_as, offering_to, IsOfferOn}
use Rattle.planner.proofs.Forms.{holding}
use Rattle.planner.proofs.Offers.{Taken, taken}
use Rattle.slack.specs.Slack.{all_at_top}
use Rattle.slack_calls.specs.declared.Slacks.{Slacks}
use Rattle.slack_calls.specs.Slacks.{slack_under, slack_on, slack_to}

module _ (r : Roster) (id cost period deadline : ℕ) where
  -- A refusal.
  pub with_refused : (refusal : Refusal) → Err refusal ≡ offering_to r id cost period deadline → Err refusal ≡ slack_to r id cost period deadline
  unfolding slack_to slack_on offering_to offering_as
  with_refused refusal e = go (offer_on r id cost period deadline) refl
    where
      go : (o : Outcome) → offer_on r id cost period deadline ≡ o → Err refusal ≡ slack_to r id cost period deadline
      go (refused other) f =
          let z : ◌≡◌ {A = Result Offer Refusal} (Err refusal) (Err other) = e ∙ ap offering_as f in
          let same : refusal ≡ other = cc in
          ap (λ (x : Refusal). slack_on (refused x)) same ∙ ap slack_on (sym f)
      go (accepted model) f = let z : Err refusal ≡ offering_as (accepted model) = e ∙ ap offering_as f in cc

  -- An offer that is not refused.
  module _ (o : Offer) (i : IsOfferOn r id cost period deadline o) where
    abbrev shows : Taken r id cost period deadline o i
    shows = taken r id cost period deadline o i

    abbrev joins : List Job
    joins = insert (job_due id cost period deadline) (take r.held r.jobs)

    pub in_places : take (r.held + 1) o.jobs ≡ joins
    in_places = ap₂ take (sym shows.with_one_more.size) shows.places_are ∙ holding joins

    pub with_it : (a : Slacks) (highest : ℕ) → a ≡ slack_under r.machine (take (r.held + 1) o.jobs) (take r.machine.processors (replicate 32 highest))
        → highest ≡ r.machine.levels - 1 → Ok a ≡ slack_to r id cost period deadline
    unfolding slack_to slack_on all_at_top
    with_it a highest e h =
        let few : r.machine.processors ≤ 32 = shows.with_one_more.machine_range.processors.1 in
        let levels = take-replicate r.machine.processors 32 highest few ∙ ap (replicate r.machine.processors) h in
        ap Ok (e ∙ ap₂ (slack_under r.machine) in_places levels) ∙ ap slack_on (sym shows.onto)
