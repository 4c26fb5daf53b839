-- The slack with a job that is not held yet, against its admission.
use Prim.Native.Nat.{ℕ, zero, suc, ◌+◌, ◌-◌, ◌*◌, ◌≤◌, ◌<◌}
use native.Mathlib.Decide.{dec_lt}
use native.Mathlib.Omega.{arith}
use mathlib.Core.Path.{◌≡◌, refl, sym, ap, subst, ◌∙◌}
use mathlib.Core.Logic.{◌↔◌}
use mathlib.Core.Bool.{Bool, true, false, true≢false}
use mathlib.Core.List.{List, ◌++◌}
use lib.IntN.{ℤ, pos, sub_ℕ}
use Rattle.std.specs.Prelude.{Result, Ok}
use lib.ListN.{length, get_or, replicate, length-append, length-replicate, get_or-append}
use lib.Seq.{ext_get_or, get_or-append-add}
use lib.Signed.{◌<ℤ◌, <ℤ_irrefl}
use Rattle.gmf.specs.declared.Machine.{Machine}
use Rattle.gmf.specs.declared.Job.{Job}
use Rattle.gmf.specs.Machine.{InRange}
use Rattle.gmf.specs.Jobs.{hyperperiod, works, job_due}
use Rattle.gmf.specs.Growing.{demand}
use Rattle.gmf.specs.Claims.{NonePasses}
use Rattle.slack.specs.Slack.{slack_at, ticks_of, remainders_of, all_at_top}
use Rattle.slack.specs.Claims.{TopRule}
use Rattle.slack.proofs.Tests.{top_some}
use Rattle.slack.proofs.Results.{slacks}
use Rattle.places.specs.Places.{insert}
use Rattle.planner.specs.Model.{Model, Closed, Opened, Admit, Outcome, refused, accepted, refuse_if, on_machine, step}
use Rattle.planner.specs.Tests.{no_plan}
use Rattle.planner.specs.Offers.{offer}
use Rattle.planner.specs.Calls.{outcome_number}
use Rattle.planner.specs.Claims.{Kept, admitted_of, OfferRule}
use Rattle.planner.proofs.Results.{planner}
use Rattle.refusals.specs.declared.Refusal.{Refusal}
use Rattle.refusals.specs.declared.Refusal.TheVariants as refusal
use Rattle.refusals.proofs.Results.{number_rule}
use Rattle.refusals.specs.Numbers.{refusal_number, number_of}
use Rattle.filing.proofs.Sound.{all_alike}
use Rattle.slack_calls.specs.declared.Slacks.{Slacks}
use Rattle.slack_calls.specs.Slacks.{slack_under, ticks_in, remainders_in, slack_on, slack_with, slack_to}
use Rattle.slack_calls.specs.Claims.{number_in, WithRule}

-- ---- Lists with one value after their end

module _ {A : Type 0} (z : A) where
  past_end : (l : List A) (n k : ℕ) → length l ≤ k → get_or (l ++ replicate n z) k z ≡ z
  past_end l n k h =
      let e : length l + (k - length l) ≡ k = omega arith in
      ap (λ (j : ℕ). get_or (l ++ replicate n z) j z) (sym e) ∙ get_or-append-add l (replicate n z) (k - length l) z ∙ all_alike z n (k - length l)

-- ---- Every core at top speed, with the jobs and one more

module _ (M : Machine) (in_range_law : InRange M) (jobs : List Job) where
  top_rule : TopRule M (hyperperiod jobs) (works jobs)
  top_rule = slacks.at_top M in_range_law.processors.0 in_range_law.levels.0 (top_some M in_range_law) (hyperperiod jobs) (works jobs)

  abbrev answer : Slacks
  answer = slack_under M jobs (all_at_top M)

  ticks_size : length answer.ticks ≡ 32
  unfolding slack_under
  ticks_size = simp (length-append, length-replicate) (omega (arith, (slacks.lists M jobs (all_at_top M)).ticks_size, in_range_law.processors.1))

  tick_is : (k : ℕ) → k < M.processors → get_or answer.ticks k (pos 0) ≡ (slack_at M (hyperperiod jobs) (works jobs) (all_at_top M) (suc k)).ticks
  unfolding slack_under
  tick_is k h =
      let lists = slacks.lists M jobs (all_at_top M) in
      get_or-append (ticks_of M jobs (all_at_top M)) _ (pos 0) k (omega (arith, lists.ticks_size)) ∙ lists.ticks_at_law k h

  tick_after : (k : ℕ) → M.processors ≤ k → get_or answer.ticks k (pos 0) ≡ pos 0
  unfolding slack_under
  tick_after k h = past_end (pos 0) (ticks_of M jobs (all_at_top M)) (32 - M.processors) k (omega (arith, (slacks.lists M jobs (all_at_top M)).ticks_size))

  abbrev remainders : List ℕ
  remainders = remainders_of M jobs (all_at_top M) ++ replicate (32 - M.processors) 0

  remainders_size : length remainders ≡ 32
  remainders_size = simp (length-append, length-replicate) (omega (arith, (slacks.lists M jobs (all_at_top M)).remainders_size, in_range_law.processors.1))

  remainder_at_law : (k : ℕ) → get_or remainders k 0 ≡ 0
  remainder_at_law k = go (dec_lt k M.processors)
    where
      go : Dec (k < M.processors) → get_or remainders k 0 ≡ 0
      go (yes h) =
          let lists = slacks.lists M jobs (all_at_top M) in
          get_or-append (remainders_of M jobs (all_at_top M)) (replicate (32 - M.processors) 0) 0 k (omega (arith, lists.remainders_size))
          ∙ lists.remainders_at k h
          ∙ top_rule.no_remainder (suc k) h
      go (no n) =
          past_end 0 (remainders_of M jobs (all_at_top M)) (32 - M.processors) k (omega (arith, (slacks.lists M jobs (all_at_top M)).remainders_size))

  none_left : answer.remainders ≡ replicate 32 0
  unfolding slack_under
  none_left =
      ext_get_or 0 remainders (replicate 32 0) remainders_size (λ k h. remainder_at_law k ∙ sym (all_alike 0 32 k))

  -- Some tick is below zero exactly when no plan passes.
  tick_short : (k : ℕ) → get_or answer.ticks k (pos 0) <ℤ pos 0 → no_plan M jobs ≡ true
  tick_short k n = (planner.tests.plans M in_range_law jobs).1 (go (dec_lt k M.processors))
    where
      go : Dec (k < M.processors) → NonePasses M (hyperperiod jobs) (works jobs)
      go (yes h) = top_rule.some_short.0 (suc k, omega arith, h, subst (λ (t : ℤ). t <ℤ pos 0) (tick_is k h) n)
      go (no f) = absurd (<ℤ_irrefl (subst (λ (t : ℤ). t <ℤ pos 0) (tick_after k (omega arith)) n))

  short_tick : no_plan M jobs ≡ true → (k : ℕ) × (get_or answer.ticks k (pos 0) <ℤ pos 0)
  short_tick e = go (top_rule.some_short.1 ((planner.tests.plans M in_range_law jobs).0 e))
    where
      go : (i : ℕ) × (1 ≤ i) × (i ≤ M.processors) × ((slack_at M (hyperperiod jobs) (works jobs) (all_at_top M) i).ticks <ℤ pos 0)
          → (k : ℕ) × (get_or answer.ticks k (pos 0) <ℤ pos 0)
      go (zero, o, h, n) = absurd (omega arith)
      go (suc k, o, h, n) = (k, subst (λ (t : ℤ). t <ℤ pos 0) (sym (tick_is k h)) n)

-- ---- A model that calls can make

-- What the rule says, by what the offer and the admission come to.
pub record Given (o admitted : Outcome) : Type 0 where
  pub as_admission : (outcome_number admitted ≡ 17 → ⊥) → number_in (slack_on o) ≡ outcome_number admitted
  pub not_for_17 : outcome_number admitted ≡ 17 → number_in (slack_on o) ≡ 0
  pub number : number_in (slack_on o) ≡ outcome_number o
  pub ticks_size : length (ticks_in (slack_on o)) ≡ 32
  pub zeros : (number_in (slack_on o) ≡ 0 → ⊥) → ticks_in (slack_on o) ≡ replicate 32 (pos 0)
  pub no_remainder : remainders_in (slack_on o) ≡ replicate 32 0
  pub short : ((k : ℕ) × (get_or (ticks_in (slack_on o)) k (pos 0) <ℤ pos 0)) ↔ (outcome_number admitted ≡ 17)

given_refused : (reason : Refusal) → (outcome_number (refused reason) ≡ 17 → ⊥) → Given (refused reason) (refused reason)
unfolding slack_on outcome_number number_of
given_refused reason other = record {
  as_admission = λ n. refl;
  not_for_17 = λ e. absurd (other e);
  number = refl;
  ticks_size = refl;
  zeros = λ n. refl;
  no_remainder = refl;
  short = (
    (λ (k, n). absurd (<ℤ_irrefl (subst (λ (t : ℤ). t <ℤ pos 0) (all_alike (pos 0) 32 k) n))),
    λ e. absurd (other e),
  );
}

module _ (M : Machine) (in_range_law : InRange M) (table : List ℕ) (jobs : List Job) where
  abbrev weighing : Bool → Outcome
  weighing b = refuse_if b refusal.NoPlan (accepted (Opened M table jobs))

  given_weighed : (b : Bool) → no_plan M jobs ≡ b → Given (accepted (Opened M table jobs)) (weighing b)
  unfolding slack_on outcome_number refuse_if refusal_number slack_under number_of
  given_weighed true e = record {
    as_admission = λ n. absurd (n refl);
    not_for_17 = λ _. refl;
    number = refl;
    ticks_size = ticks_size M in_range_law jobs;
    zeros = λ n. absurd (n refl);
    no_remainder = none_left M in_range_law jobs;
    short = ((λ _. refl), λ _. short_tick M in_range_law jobs e);
  }
  given_weighed false e = record {
    as_admission = λ n. refl;
    not_for_17 = λ z. absurd (omega arith);
    number = refl;
    ticks_size = ticks_size M in_range_law jobs;
    zeros = λ n. absurd (n refl);
    no_remainder = none_left M in_range_law jobs;
    short = ((λ (k, n). absurd (true≢false (sym (tick_short M in_range_law jobs k n) ∙ e))), λ z. absurd (omega arith));
  }

module _ (id cost period deadline : ℕ) where
  abbrev offers : OfferRule id cost period deadline
  offers = planner.offers id cost period deadline

  -- With no machine the offer is refused.
  never_added : (next : Model) → offer Closed id cost period deadline ≡ accepted next → ⊥
  unfolding offer on_machine outcome_number refusal_number
  never_added next e = let z : ◌≡◌ {A = ℕ} 11 0 = ap outcome_number e in omega arith

  -- On an open machine it has the job added.
  added : (M : Machine) (table : List ℕ) (jobs : List Job) (next : Model) → offer (Opened M table jobs) id cost period deadline ≡ accepted next
      → offer (Opened M table jobs) id cost period deadline ≡ accepted (Opened M table (insert (job_due id cost period deadline) jobs))
  added M table jobs next e = e ∙ ap accepted (offers.adds M table jobs next e)

  given : (model : Model) → Kept model → Given (offer model id cost period deadline) (step model (Admit id cost period deadline))
  given model kept = subst (Given (offer model id cost period deadline)) (sym (offers.as_admitted model)) (go model kept (offer model id cost period deadline) refl)
    where
      go : (model : Model) → Kept model → (o : Outcome) → offer model id cost period deadline ≡ o → Given (offer model id cost period deadline) (admitted_of (offer model id cost period deadline))
      go model kept (refused reason) e =
          subst (λ (o : Outcome). Given o (admitted_of o)) (sym e)
          (unfold admitted_of in given_refused reason (λ f. offers.never_17 model (ap outcome_number e ∙ f)))
      go Closed kept (accepted next) e = absurd (never_added next e)
      go (Opened M table jobs) kept (accepted next) e =
          let more = insert (job_due id cost period deadline) jobs in
          subst (λ (o : Outcome). Given o (admitted_of o)) (sym (added M table jobs next e))
          (unfold admitted_of in given_weighed M kept.0.machine_range table more (no_plan M more) refl)

  -- The slack where the number is 0, and where a tick is not of a test.
  module _ (M : Machine) (table : List ℕ) (jobs : List Job) (kept : Kept (Opened M table jobs)) where
    abbrev more : List Job
    more = insert (job_due id cost period deadline) jobs

    given_ticks : (o : Outcome) → offer (Opened M table jobs) id cost period deadline ≡ o → number_in (slack_on o) ≡ 0
        → slack_on (offer (Opened M table jobs) id cost period deadline) ≡ Ok (slack_under M more (all_at_top M))
    unfolding slack_on
    given_ticks (refused reason) e z = absurd (number_rule.never_0 reason (sym (number_rule.refused Slacks reason) ∙ z))
    given_ticks (accepted next) e z = ap slack_on (added M table jobs next e)

    ticks_at_law : number_in (slack_with (Opened M table jobs) id cost period deadline) ≡ 0 → (k : ℕ) → k < M.processors
        → get_or (ticks_in (slack_with (Opened M table jobs) id cost period deadline)) k (pos 0)
        ≡ sub_ℕ (suc k * hyperperiod more) (demand M (hyperperiod more) (works more) (suc k))
    unfolding slack_with
    ticks_at_law z k h =
        ap (λ (a : Result Slacks Refusal). get_or (ticks_in a) k (pos 0)) (given_ticks (offer (Opened M table jobs) id cost period deadline) refl z)
        ∙ tick_is M kept.0.machine_range more k h
        ∙ (top_rule M kept.0.machine_range more).ticks (suc k) h

    zeros_after : (o : Outcome) → offer (Opened M table jobs) id cost period deadline ≡ o → (k : ℕ) → M.processors ≤ k
        → get_or (ticks_in (slack_on (offer (Opened M table jobs) id cost period deadline))) k (pos 0) ≡ pos 0
    unfolding slack_on
    zeros_after (refused reason) e k h =
        ap (λ (o : Outcome). get_or (ticks_in (slack_on o)) k (pos 0)) e ∙ all_alike (pos 0) 32 k
    zeros_after (accepted next) e k h =
        ap (λ (o : Outcome). get_or (ticks_in (slack_on o)) k (pos 0)) (added M table jobs next e) ∙ tick_after M kept.0.machine_range more k h

  abbrev TicksAt : Machine → List Job → Result Slacks Refusal → Type 0
  TicksAt M jobs a =
      let more = insert (job_due id cost period deadline) jobs in
      number_in a ≡ 0 → (k : ℕ) → k < M.processors
      → get_or (ticks_in a) k (pos 0) ≡ sub_ℕ (suc k * hyperperiod more) (demand M (hyperperiod more) (works more) (suc k))

  pub with_rule : (model : Model) → Kept model → WithRule model id cost period deadline
  unfolding slack_with slack_to
  with_rule model kept =
      let g = given model kept in
      record {
        follows = ap slack_on (offers.follows model kept);
        as_admission = g.as_admission;
        not_for_17 = g.not_for_17;
        never_17 = λ e. offers.never_17 model (sym g.number ∙ e);
        never_7 = λ e. offers.never_7 model kept (sym g.number ∙ e);
        ticks_size = g.ticks_size;
        zeros = g.zeros;
        no_remainder = g.no_remainder;
        ticks_at_law = λ M table jobs e.
            subst (λ (m : Model). TicksAt M jobs (slack_on (offer m id cost period deadline))) (sym e) (ticks_at_law M table jobs (subst Kept e kept));
        zeros_after = λ M table jobs e k h.
            subst (λ (m : Model). get_or (ticks_in (slack_on (offer m id cost period deadline))) k (pos 0) ≡ pos 0) (sym e)
            (zeros_after M table jobs (subst Kept e kept) (offer (Opened M table jobs) id cost period deadline) refl k h);
        short = g.short;
      }
