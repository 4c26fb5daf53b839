-- A job that is offered: what comes of it on a model and on a roster, as the code finds it; and against an admission.
use Prim.Native.Nat.{ℕ, suc, ◌+◌, ◌≤◌, ◌<◌}
use native.Mathlib.Omega.{arith}
use mathlib.Core.Path.{◌≡◌, refl, sym, ap, ap₂, subst, ◌∙◌}
use mathlib.Core.Bool.{Bool, true, false, false≢true}
use Rattle.std.specs.Prelude.{Option, Some, None, Result, Ok, Err, is_err}
use mathlib.Core.List.{List, ◌∷◌, ◌++◌}
use borrow.Author.Tests.{le-leb, lt-leb, lt-ltb, leb-false, not-false}
use lib.ListN.{length, take, drop}
use Rattle.gmf.specs.declared.Machine.{Machine}
use Rattle.gmf.specs.declared.Job.{Job}
use Rattle.gmf.specs.Jobs.{JobInRange, hyperperiod, hyperperiod_limit, job_due}
use Rattle.places.specs.Places.{places_of, has, before, insert}
use Rattle.places.proofs.Results.{placing}
use Rattle.ranges.specs.Ranges.{job_fits}
use Rattle.ranges.proofs.Results.{ranging}
use Rattle.workload.specs.declared.Totals.{Totals}
use Rattle.workload.specs.declared.Unplanned.TheVariants as unplanned
use Rattle.workload.specs.Load.{Verdict, totals, load_of, with_job, judged}
use Rattle.workload.specs.Claims.{Tells}
use Rattle.workload.proofs.Loads.{says_within, says_too_long, load_within}
use Rattle.refusals.specs.declared.Refusal.{Refusal}
use Rattle.refusals.specs.declared.Refusal.TheVariants.{JobNumbers, Damaged, NoMachine, IdHeld, PlacesFull, HyperperiodTooLong, NoPlan}
use Rattle.refusals.specs.Numbers.{refusal_number}
use Rattle.planner.specs.declared.Roster.{Roster}
use Rattle.planner.specs.declared.Offer.{Offer}
use Rattle.planner.specs.declared.Condition.{Condition}
use Rattle.planner.specs.declared.Condition.TheVariants as condition
use Rattle.planner.specs.Tests.{cycle_too_long, no_plan}
use Rattle.planner.specs.Model.{Model, Closed, Opened, Admit, Outcome, refused, accepted, refuse_if, is_opened, on_machine, weighed, admitted, step}
use Rattle.planner.specs.Roster.{model_of, roster_of, well_formed, inspected, totals_found, replied, reply_to}
use Rattle.planner.specs.Offers.{job_in, offered, offer, offer_on, totals_in, offering_as, offering_to, IsOfferOn}
use Rattle.planner.specs.Calls.{outcome_number}
use Rattle.planner.specs.Claims.{IsSound, WithOneMore, admitted_of, Offers}
use Rattle.planner.proofs.Passing.{not_long, long_not, passes_plan}
use Rattle.planner.proofs.Forms.{rules_listed, sound_form, form_sound, model_none, kept_form, kept_model}
use Rattle.planner.proofs.Conditions.{load_tells}
use Rattle.planner.proofs.TestRules.{passes_none}
use Rattle.planner.proofs.Replies.{is_damaged, is_closed, refused_by, reply_unformed, reply_well, same_fields, is_opened_law, held_count, entries_carried, places_carried, load_is}

-- ---- By the numbers

module _ (id cost period deadline : ℕ) where
  pub job_there : (new : Job) → Ok new ≡ job_in id cost period deadline → (job_fits id cost period deadline ≡ true) × (new ≡ job_due id cost period deadline)
  unfolding job_in
  job_there new e = go (job_fits id cost period deadline) refl
    where
      go : (b : Bool) → job_fits id cost period deadline ≡ b → (job_fits id cost period deadline ≡ true) × (new ≡ job_due id cost period deadline)
      go true f = let z : ◌≡◌ {A = Result Job Refusal} (Ok new) (Ok (job_due id cost period deadline)) = e ∙ rw (f, job_in) in (f, cc)
      go false f = let z : ◌≡◌ {A = Result Job Refusal} (Ok new) (Err JobNumbers) = e ∙ rw (f, job_in) in cc

  pub no_job_there : (refusal : Refusal) → Err refusal ≡ job_in id cost period deadline → (job_fits id cost period deadline ≡ false) × (refusal ≡ JobNumbers)
  unfolding job_in
  no_job_there refusal e = go (job_fits id cost period deadline) refl
    where
      go : (b : Bool) → job_fits id cost period deadline ≡ b → (job_fits id cost period deadline ≡ false) × (refusal ≡ JobNumbers)
      go true f = let z : ◌≡◌ {A = Result Job Refusal} (Err refusal) (Ok (job_due id cost period deadline)) = e ∙ rw (f, job_in) in cc
      go false f = let z : ◌≡◌ {A = Result Job Refusal} (Err refusal) (Err JobNumbers) = e ∙ rw (f, job_in) in (f, cc)

-- ---- By what the roster was found to be

module _ (r : Roster) (id cost period deadline : ℕ) where
  offer_unformed : well_formed r ≡ false → offer_on r id cost period deadline ≡ refused Damaged
  unfolding offer_on
  offer_unformed e = rw (e, offer_on)

  offer_well : well_formed r ≡ true → offer_on r id cost period deadline ≡ offer (model_of r) id cost period deadline
  unfolding offer_on
  offer_well e = rw (e, offer_on)

  as_offered : (o : Outcome) → offer_on r id cost period deadline ≡ o → offering_as o ≡ offering_to r id cost period deadline
  unfolding offering_to
  as_offered o e = ap offering_as (sym e)

  pub offer_damaged : inspected r ≡ condition.Damaged → Err Damaged ≡ offering_to r id cost period deadline
  unfolding offering_as
  offer_damaged e = as_offered (refused Damaged) (offer_unformed (is_damaged r e))

  pub offer_11 : inspected r ≡ condition.Closed → Err NoMachine ≡ offering_to r id cost period deadline
  unfolding offer on_machine offering_as
  offer_11 e = as_offered (refused NoMachine) (offer_well (is_closed r e).0 ∙ ap (λ m. offer m id cost period deadline) (is_closed r e).1)

  pub offer_untotalled : (refusal : Refusal) → Err refusal ≡ totals_found (inspected r) → Err refusal ≡ offering_to r id cost period deadline
  unfolding totals_found offering_as
  offer_untotalled refusal e = go (inspected r) refl
    where
      go : (c : Condition) → inspected r ≡ c → Err refusal ≡ offering_to r id cost period deadline
      go condition.Damaged f =
          let z : ◌≡◌ {A = Result Totals Refusal} (Err refusal) (Err Damaged) = e ∙ ap totals_found f in
          let same : refusal ≡ Damaged = cc in
          rw same (offer_damaged f)
      go condition.Closed f =
          let z : ◌≡◌ {A = Result Totals Refusal} (Err refusal) (Err NoMachine) = e ∙ ap totals_found f in
          let same : refusal ≡ NoMachine = cc in
          rw same (offer_11 f)
      go (condition.Open u) f = let z : Err refusal ≡ Ok u = e ∙ ap totals_found f in cc

module _ (r : Roster) (entries : length r.table ≡ 32) (places : length r.jobs ≡ 64) (s : IsSound r) where
  abbrev M : Machine
  M = r.machine

  abbrev numbers : List ℕ
  numbers = take r.machine.levels r.table

  abbrev jobs : List Job
  jobs = take r.held r.jobs

  module _ (id cost period deadline : ℕ) where
    on_sound : offer_on r id cost period deadline ≡ offer (Opened M numbers jobs) id cost period deadline
    on_sound = offer_well r id cost period deadline (sound_form r entries places s) ∙ ap (λ m. offer m id cost period deadline) (is_opened_law r entries places s)

    pub offer_4 : job_fits id cost period deadline ≡ false → Err JobNumbers ≡ offering_to r id cost period deadline
    unfolding offer on_machine refuse_if offering_as
    offer_4 e = as_offered r id cost period deadline (refused JobNumbers) (on_sound ∙ rw e)

  -- With a job in range.
  module _ (id cost period deadline : ℕ) (fits : job_fits id cost period deadline ≡ true) (new : Job) (new-is : new ≡ job_due id cost period deadline) where
    abbrev more : List Job
    more = insert new jobs

    abbrev asked : Result Offer Refusal
    asked = offering_to r id cost period deadline

    in_range_law : JobInRange new
    in_range_law = subst JobInRange (sym new-is) ((ranging.rule.one_job id cost period deadline).0 fits)

    settled : (o : Outcome) → offered new M numbers jobs ≡ o → offering_as o ≡ asked
    unfolding offer on_machine refuse_if
    settled o e =
        as_offered r id cost period deadline o
        (on_sound id cost period deadline ∙ rw fits (ap (λ (job : Job). offered job M numbers jobs) (sym new-is) ∙ e))

    pub offer_held : has new.id jobs ≡ true → Err IdHeld ≡ asked
    unfolding offered refuse_if offering_as
    offer_held e = settled (refused IdHeld) (rw e)

    module _ (fresh : has new.id jobs ≡ false) where
      pub offer_full : 64 ≤ r.held → Err PlacesFull ≡ asked
      unfolding offered refuse_if offering_as
      offer_full h = settled (refused PlacesFull) (rw (fresh, le-leb 64 (length jobs) (omega (arith, held_count r entries places s))))

      module _ (free : r.held < 64) (t : Totals) (t-is : t ≡ totals jobs) (l : Option Totals) (l-is : l ≡ with_job t new) where
        room : length jobs < 64
        room = omega (arith, held_count r entries places s)

        load_more : load_of more ≡ l
        load_more = load_is r entries places s new fresh free in_range_law t t-is ∙ sym l-is

        pub offer_long : l ≡ None → Err HyperperiodTooLong ≡ asked
        unfolding offered refuse_if cycle_too_long offering_as
        offer_long e =
            settled (refused HyperperiodTooLong)
            (rw (fresh, lt-leb 64 (length jobs) room, lt-ltb hyperperiod_limit (hyperperiod more) (says_too_long more (load_more ∙ e))))

        pub offer_more : (t' : Totals) → l ≡ Some t' → (at : ℕ) (new-places : List Job) → at ≡ before new.id jobs
            → new-places ≡ take 64 (take (suc r.held) (take at r.jobs ++ new ∷ drop at r.jobs) ++ drop (suc r.held) r.jobs)
            → Ok (record { jobs = new-places; totals = t' }) ≡ asked
        unfolding offered refuse_if offering_as totals_in roster_of
        offer_more t' e at new-places here p =
            let said = says_within more t' (load_more ∙ e) in
            ap₂ (λ (q : List Job) (u : Totals). let o : Result Offer Refusal = Ok (record { jobs = q; totals = u }) in o)
            (p
            ∙ ap (λ (q : List Job). take 64 (take (suc r.held) (take at q ++ new ∷ drop at q) ++ drop (suc r.held) q)) (places_carried r entries places s)
            ∙ (placing.inserts new jobs).in_places r.held at (sym (held_count r entries places s)) here room)
            said.0
            ∙ settled (accepted (Opened M numbers more)) (rw (fresh, lt-leb 64 (length jobs) room, long_not more said.1))

-- ---- Against an admission

-- What is refused before 17 is refused so by both.
later : (b : Bool) (refusal : Refusal) (o : Outcome) → admitted_of (refuse_if b refusal o) ≡ refuse_if b refusal (admitted_of o)
unfolding admitted_of refuse_if
later true refusal o = refl
later false refusal o = refl

as_admitted : (id cost period deadline : ℕ) (model : Model) → step model (Admit id cost period deadline) ≡ admitted_of (offer model id cost period deadline)
unfolding step offer on_machine admitted weighed offered admitted_of
as_admitted id cost period deadline Closed = refl
as_admitted id cost period deadline (Opened M table jobs) = sym (simp later)

-- Refused neither by 7 nor by 17.
abbrev Plain : ℕ → Type 0
Plain n = (n ≡ 7 → ⊥) × (n ≡ 17 → ⊥)

plain_if : (b : Bool) (refusal : Refusal) (o : Outcome) → Plain (refusal_number refusal) → Plain (outcome_number o) → Plain (outcome_number (refuse_if b refusal o))
unfolding refuse_if outcome_number
plain_if true refusal o p q = p
plain_if false refusal o p q = q

plain : (id cost period deadline : ℕ) (model : Model) → Plain (outcome_number (offer model id cost period deadline))
unfolding offer on_machine offered outcome_number refusal_number
plain id cost period deadline Closed = (λ e. omega arith, λ e. omega arith)
plain id cost period deadline (Opened M table jobs) =
    plain_if _ JobNumbers _ (λ e. omega arith, λ e. omega arith)
    (plain_if _ IdHeld _ (λ e. omega arith, λ e. omega arith)
    (plain_if _ PlacesFull _ (λ e. omega arith, λ e. omega arith)
    (plain_if _ HyperperiodTooLong _ (λ e. omega arith, λ e. omega arith) (λ e. omega arith, λ e. omega arith))))

-- ---- An accepted offer

is_accepted : Outcome → Bool
is_accepted (refused refusal) = false
is_accepted (accepted model) = true

is_open_outcome : Outcome → Bool
is_open_outcome (refused refusal) = false
is_open_outcome (accepted model) = is_opened model

never_refused : {A : Type 0} (refusal : Refusal) (model : Model) → refused refusal ≡ accepted model → A
unfolding is_accepted
never_refused refusal model e = absurd (false≢true (ap is_accepted e))

passed : {model : Model} (b : Bool) (refusal : Refusal) (o : Outcome) → refuse_if b refusal o ≡ accepted model → (b ≡ false) × (o ≡ accepted model)
unfolding refuse_if
passed {model} true refusal o e = never_refused refusal model e
passed false refusal o e = (refl, e)

-- What such an offer shows of the job and of the jobs that it joins.
record Joined (M₀ : Machine) (jobs₀ : List Job) (id cost period deadline : ℕ) (M : Machine) (jobs : List Job) : Type 0 where
  same_machine : M ≡ M₀
  with_it : jobs ≡ insert (job_due id cost period deadline) jobs₀
  in_range_law : JobInRange (job_due id cost period deadline)
  fresh : has id jobs₀ ≡ false
  free : length jobs₀ < 64
  within_limit : hyperperiod (insert (job_due id cost period deadline) jobs₀) ≤ hyperperiod_limit

module _ (id cost period deadline : ℕ) where
  joined : (M₀ : Machine) (table₀ : List ℕ) (jobs₀ : List Job) (M : Machine) (table : List ℕ) (jobs : List Job)
      → offer (Opened M₀ table₀ jobs₀) id cost period deadline ≡ accepted (Opened M table jobs) → Joined M₀ jobs₀ id cost period deadline M jobs
  unfolding offer on_machine offered
  joined M₀ table₀ jobs₀ M table jobs e =
      let fits = passed _ JobNumbers _ e in
      let new = passed _ IdHeld _ fits.1 in
      let room = passed _ PlacesFull _ new.1 in
      let short = passed _ HyperperiodTooLong _ room.1 in
      record {
        same_machine = cc short.1;
        with_it = cc short.1;
        in_range_law = (ranging.rule.one_job id cost period deadline).0 (not-false _ fits.0);
        fresh = new.0;
        free = leb-false 64 (length jobs₀) room.0;
        within_limit = not_long (insert (job_due id cost period deadline) jobs₀) short.0;
      }

  adds : (M : Machine) (table : List ℕ) (jobs : List Job) (next : Model) → offer (Opened M table jobs) id cost period deadline ≡ accepted next
      → next ≡ Opened M table (insert (job_due id cost period deadline) jobs)
  unfolding offer on_machine offered
  adds M table jobs next e =
      let short = passed _ HyperperiodTooLong _ (passed _ PlacesFull _ (passed _ IdHeld _ (passed _ JobNumbers _ e).1).1).1 in
      cc short.1

  -- On a roster: it is sound.
  module _ (r : Roster) (entries : length r.table ≡ 32) (places : length r.jobs ≡ 64) where
    accepted_formed : (model : Model) → offer_on r id cost period deadline ≡ accepted model → well_formed r ≡ true
    accepted_formed model e = go (well_formed r) refl
      where
        go : (b : Bool) → well_formed r ≡ b → well_formed r ≡ true
        go true f = f
        go false f = never_refused Damaged model (sym (offer_unformed r id cost period deadline f) ∙ e)

    accepted_open : (model : Model) → offer_on r id cost period deadline ≡ accepted model → r.machine.processors ≡ 0 → ⊥
    unfolding offer on_machine
    accepted_open model e none =
        never_refused NoMachine model
        (sym (offer_well r id cost period deadline (accepted_formed model e) ∙ ap (λ m. offer m id cost period deadline) (model_none r none)) ∙ e)

    one_more : (M : Machine) (table : List ℕ) (jobs : List Job) → offer_on r id cost period deadline ≡ accepted (Opened M table jobs)
        → (M ≡ r.machine) × WithOneMore r jobs
    one_more M table jobs e =
        let sound = form_sound r entries places (accepted_open (Opened M table jobs) e) (accepted_formed (Opened M table jobs) e) in
        let held = take r.held r.jobs in
        let j = joined r.machine (take r.machine.levels r.table) held M table jobs (sym (on_sound r entries places sound id cost period deadline) ∙ e) in
        let by = (placing.tests.jobs (insert (job_due id cost period deadline) held)).0
        ((placing.inserts (job_due id cost period deadline) held).listed_again j.in_range_law (rules_listed r.machine (take r.machine.levels r.table) held sound.rules) j.fresh) in
        let size = (placing.inserts (job_due id cost period deadline) held).size in (
          j.same_machine,
          rw j.with_it (record {
            machine_range = sound.rules.machine_range;
            size = omega (arith, size, held_count r entries places sound);
            few = omega (arith, size, j.free);
            job_ranges = by.0;
            by_id = by.1;
            within_limit = j.within_limit;
          }),
        )

  offer_opened : (model : Model) → offer model id cost period deadline ≡ accepted Closed → ⊥
  unfolding offer on_machine offered is_open_outcome is_opened
  offer_opened Closed e = never_refused NoMachine Closed e
  offer_opened (Opened M table _) e =
      let short = passed _ HyperperiodTooLong _ (passed _ PlacesFull _ (passed _ IdHeld _ (passed _ JobNumbers _ e).1).1).1 in
      false≢true (sym (ap is_open_outcome short.1))

  some_machine : (r : Roster) → offer_on r id cost period deadline ≡ accepted Closed → ⊥
  some_machine r e = go (well_formed r) refl
    where
      go : (b : Bool) → well_formed r ≡ b → ⊥
      go true f = offer_opened (model_of r) (sym (offer_well r id cost period deadline f) ∙ e)
      go false f = never_refused Damaged Closed (sym (offer_unformed r id cost period deadline f) ∙ e)

-- ---- An admission, by what is offered

module _ (r : Roster) (id cost period deadline : ℕ) where
  by_offer : reply_to r (Admit id cost period deadline) ≡ replied r (admitted_of (offer_on r id cost period deadline))
  unfolding admitted_of
  by_offer = go (well_formed r) refl
    where
      go : (b : Bool) → well_formed r ≡ b → reply_to r (Admit id cost period deadline) ≡ replied r (admitted_of (offer_on r id cost period deadline))
      go true f =
          reply_well r (Admit id cost period deadline) f
          ∙ ap (replied r) (as_admitted id cost period deadline (model_of r) ∙ ap admitted_of (sym (offer_well r id cost period deadline f)))
      go false f =
          reply_unformed r (Admit id cost period deadline) f ∙ ap (λ o. replied r (admitted_of o)) (sym (offer_unformed r id cost period deadline f))

  pub admit_refused : (refusal : Refusal) → Err refusal ≡ offering_to r id cost period deadline
      → record { answer = Err refusal; roster = r } ≡ reply_to r (Admit id cost period deadline)
  unfolding offering_to offering_as admitted_of
  admit_refused refusal e = go (offer_on r id cost period deadline) refl
    where
      go : (o : Outcome) → offer_on r id cost period deadline ≡ o → record { answer = Err refusal; roster = r } ≡ reply_to r (Admit id cost period deadline)
      go (refused other) f =
          let z : ◌≡◌ {A = Result Offer Refusal} (Err refusal) (Err other) = e ∙ ap offering_as f in
          let same : refusal ≡ other = cc in
          refused_by (ap (λ (x : Refusal). replied r (refused x)) same ∙ ap (λ o. replied r (admitted_of o)) (sym f) ∙ sym by_offer)
      go (accepted model) f =
          let z : Err refusal ≡ offering_as (accepted model) = e ∙ ap offering_as f in
          cc

  -- An offer that is not refused.
  module _ (o : Offer) (i : IsOfferOn r id cost period deadline o) where
    abbrev joins : List Job
    joins = insert (job_due id cost period deadline) (take r.held r.jobs)

    -- What it shows.
    pub record Taken : Type 0 where
      pub sound : IsSound r
      pub onto : offer_on r id cost period deadline ≡ accepted (Opened r.machine (take r.machine.levels r.table) joins)
      pub places_are : o.jobs ≡ places_of joins
      pub totals_are : o.totals ≡ totals joins
      pub with_one_more : WithOneMore r joins

    pub taken : Taken
    unfolding offering_to offering_as totals_in roster_of
    taken = go (offer_on r id cost period deadline) refl
      where
        go : (out : Outcome) → offer_on r id cost period deadline ≡ out → Taken
        go (refused other) f = let z : Ok o ≡ Err other = i.answer ∙ ap offering_as f in cc
        go (accepted Closed) f = absurd (some_machine id cost period deadline r f)
        go (accepted (Opened M table jobs)) f =
            let s : IsSound r
            = form_sound r i.entries i.places (accepted_open id cost period deadline r i.entries i.places (Opened M table jobs) f)
            (accepted_formed id cost period deadline r i.entries i.places (Opened M table jobs) f) in
            let whole : Opened M table jobs ≡ Opened r.machine (take r.machine.levels r.table) joins
            = adds id cost period deadline r.machine (take r.machine.levels r.table) (take r.held r.jobs) (Opened M table jobs)
            (sym (on_sound r i.entries i.places s id cost period deadline) ∙ f) in
            let onto : offer_on r id cost period deadline ≡ accepted (Opened r.machine (take r.machine.levels r.table) joins) = f ∙ ap accepted whole in
            let z : ◌≡◌ {A = Result Offer Refusal} (Ok o) (Ok (record { jobs = places_of joins; totals = totals joins })) = i.answer ∙ ap offering_as onto in
            let same : ◌≡◌ {A = Offer} o (record { jobs = places_of joins; totals = totals joins }) = cc in
            record {
              sound = s;
              onto = onto;
              places_are = ap (λ (q : Offer). q.jobs) same;
              totals_are = ap (λ (q : Offer). q.totals) same;
              with_one_more = (one_more id cost period deadline r i.entries i.places r.machine (take r.machine.levels r.table) joins onto).1;
            }

    load_is_within : Some o.totals ≡ load_of joins
    load_is_within = ap Some taken.totals_are ∙ sym (load_within joins taken.with_one_more.within_limit)

    tells : (v : Verdict) → judged r.machine.processors (Some o.totals) ≡ v → Tells r.machine joins v
    tells v e = load_tells r.machine taken.with_one_more.machine_range joins taken.with_one_more.job_ranges (Some o.totals) load_is_within v e

    weighed_by : (b : Bool) → no_plan r.machine joins ≡ b
        → replied r (refuse_if b NoPlan (accepted (Opened r.machine (take r.machine.levels r.table) joins))) ≡ reply_to r (Admit id cost period deadline)
    unfolding admitted_of
    weighed_by b f = sym (by_offer ∙ ap (λ o. replied r (admitted_of o)) taken.onto ∙ ap (λ (c : Bool). replied r (refuse_if c NoPlan (accepted (Opened r.machine (take r.machine.levels r.table) joins)))) f)

    pub admit_none : is_err (judged r.machine.processors (Some o.totals)) ≡ true
        → record { answer = Err NoPlan; roster = r } ≡ reply_to r (Admit id cost period deadline)
    unfolding Tells refuse_if
    admit_none n = go (judged r.machine.processors (Some o.totals)) refl
      where
        go : (v : Verdict) → judged r.machine.processors (Some o.totals) ≡ v → record { answer = Err NoPlan; roster = r } ≡ reply_to r (Admit id cost period deadline)
        go (Ok u) f = let z : false ≡ true = sym (ap is_err f) ∙ n in cc
        go (Err unplanned.NoPlan) f =
            refused_by (weighed_by true (passes_none r.machine taken.with_one_more.machine_range joins (tells (Err unplanned.NoPlan) f).1))
        go (Err unplanned.TooLong) f = let long = tells (Err unplanned.TooLong) f in absurd (omega (arith, taken.with_one_more.within_limit))

    pub admit_some : is_err (judged r.machine.processors (Some o.totals)) ≡ false
        → record { answer = Ok (tt {0}); roster = record { machine = r.machine; table = r.table; held = r.held + 1; jobs = o.jobs } }
        ≡ reply_to r (Admit id cost period deadline)
    unfolding Tells refuse_if replied roster_of
    admit_some n = go (judged r.machine.processors (Some o.totals)) refl
      where
        go : (v : Verdict) → judged r.machine.processors (Some o.totals) ≡ v
            → record { answer = Ok (tt {0}); roster = record { machine = r.machine; table = r.table; held = r.held + 1; jobs = o.jobs } }
            ≡ reply_to r (Admit id cost period deadline)
        go (Ok u) f =
            same_fields r.machine r.table _ (r.held + 1) (length joins) o.jobs (places_of joins) (entries_carried r i.entries i.places taken.sound)
            (sym taken.with_one_more.size) taken.places_are
            ∙ weighed_by false (passes_plan r.machine taken.with_one_more.machine_range joins (tells (Ok u) f).1)
        go (Err why) f = let z : true ≡ false = sym (ap is_err f) ∙ n in cc

pub offers : Offers
offers id cost period deadline = record {
  as_admitted = as_admitted id cost period deadline;
  never_17 = λ model. (plain id cost period deadline model).1;
  follows = λ model kept.
      offer_well (roster_of model) id cost period deadline (kept_form model kept) ∙ ap (λ m. offer m id cost period deadline) (kept_model model kept);
  never_7 = λ model kept. (plain id cost period deadline model).0;
  adds = adds id cost period deadline;
  one_more = one_more id cost period deadline;
  some_machine = some_machine id cost period deadline;
}
