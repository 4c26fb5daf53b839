-- A call on the roster of a model that keeps the rules follows the model.
use Prim.Native.Nat.{ℕ, ◌≤◌}
use native.Mathlib.Omega.{arith}
use mathlib.Core.Path.{◌≡◌, refl, sym, ap, subst, ◌∙◌}
use mathlib.Core.Logic.{⊎_elim}
use mathlib.Core.Bool.{Bool, true, false, false≢true}
use mathlib.Core.List.{List}
use borrow.Author.Tests.{eq-eqb, lt-leb}
use lib.ListN.{length}
use lib.Seq.{length-take-le}
use Rattle.gmf.specs.declared.Machine.{Machine}
use Rattle.gmf.specs.declared.Job.{Job}
use Rattle.gmf.specs.Jobs.{hyperperiod, works}
use Rattle.gmf.specs.Claims.{Feasible, NonePasses}
use Rattle.places.specs.Places.{insert}
use Rattle.ranges.proofs.Results.{ranging}
use Rattle.planner.specs.declared.Roster.{Roster}
use Rattle.refusals.specs.declared.Refusal.TheVariants.{NoPlan, Damaged}
use Rattle.planner.specs.Tests.{no_plan}
use Rattle.planner.specs.Model.{
  Model,
  Closed,
  Opened,
  Call,
  Admit,
  Outcome,
  refused,
  accepted,
  refuse_if,
  on_machine,
  weighed,
  admitted,
  step,
}
use Rattle.planner.specs.Roster.{empty_roster, model_of, roster_of, well_formed, replied, reply_to}
use Rattle.refusals.specs.Numbers.{refusal_number, number_of}
use Rattle.planner.specs.Calls.{outcome_number, after}
use Rattle.planner.specs.Claims.{IsSound, Rules, Kept, OneCall, AnyRoster, Offered, answer_to, TurnedDown, TurnsDown}
use Rattle.planner.proofs.TestRules.{none_passes, passes_none}
use Rattle.planner.proofs.Passing.{long_not, plan_passes, passes_plan}
use Rattle.planner.proofs.Forms.{model_open, closed_roster, forms, kept_form, kept_model}
use Rattle.planner.proofs.Replies.{reply_unformed, reply_well}
use Rattle.planner.proofs.Steps.{Fair, stays, turns, fair_after, fair_step}

-- ---- One call

-- On the roster of a model that keeps the rules, too.
reply_kept : (model : Model) (call : Call) → Kept model → reply_to (roster_of model) call ≡ replied (roster_of model) (step model call)
reply_kept model call kept =
    reply_well (roster_of model) call (kept_form model kept)
    ∙ ap (λ m. replied (roster_of model) (step m call)) (kept_model model kept)

replied_number : (r : Roster) (o : Outcome) → number_of (replied r o).answer ≡ outcome_number o
unfolding replied number_of outcome_number
replied_number r (refused refusal) = refl
replied_number r (accepted model) = refl

replied_roster : (model : Model) (o : Outcome) → (replied (roster_of model) o).roster ≡ roster_of (after model o)
unfolding replied after
replied_roster model (refused refusal) = refl
replied_roster model (accepted next) = refl

module _ (model : Model) (call : Call) (kept : Kept model) where
  next_kept : Kept (after model (step model call))
  next_kept = fair_after model (step model call) kept (fair_step model call kept)

  reply_number : number_of (reply_to (roster_of model) call).answer ≡ outcome_number (step model call)
  reply_number = ap (λ r. number_of r.answer) (reply_kept model call kept) ∙ replied_number (roster_of model) (step model call)

  reply_roster : (reply_to (roster_of model) call).roster ≡ roster_of (after model (step model call))
  reply_roster = ap (λ r. r.roster) (reply_kept model call kept) ∙ replied_roster model (step model call)

-- No refusal by 7.
never : (o : Outcome) → Fair o → outcome_number o ≡ 7 → ⊥
unfolding outcome_number
never (refused refusal) (stays n) e = false≢true (sym n ∙ eq-eqb (refusal_number refusal) 7 e)
never (accepted model) (turns kept) e = omega arith

pub one_call : OneCall
one_call model kept = record {
  well_formed_law = kept_form model kept;
  carried = kept_model model kept;
  number = λ call. reply_number model call kept;
  roster = λ call. reply_roster model call kept;
  kept = λ call. next_kept model call kept;
  never_7 = λ call. never (step model call) (fair_step model call kept);
}

-- ---- Any roster

formed_kept : (r : Roster) → length r.table ≡ 32 → length r.jobs ≡ 64 → well_formed r ≡ true → Kept (model_of r)
formed_kept r entries places e = ⊎_elim empty sound ((forms r entries places).form.0 e)
  where
    empty : r ≡ empty_roster → Kept (model_of r)
    empty same = subst Kept (sym (ap model_of (same ∙ sym closed_roster) ∙ kept_model Closed tt)) tt

    sound : IsSound r → Kept (model_of r)
    sound is = subst Kept (sym (model_open r (λ none. omega (arith, is.rules.machine_range.processors)))) (
      is.rules,
      omega (arith, length-take-le r.held r.jobs (omega (arith, is.places))),
    )

replied_back : (r : Roster) → (replied r (refused Damaged)).roster ≡ r
unfolding replied
replied_back r = refl

pub any_roster : AnyRoster
any_roster = record {
  formed = formed_kept;
  damaged = λ r e call. ap (λ q. q.roster) (reply_unformed r call e) ∙ replied_back r;
}

-- ---- A job that only 17 could refuse

module _ (M : Machine) (table : List ℕ) (jobs : List Job) (rules : Rules M table jobs) (few : length jobs ≤ 64) (new : Job) (offered : Offered jobs new) where
  abbrev call : Call
  call = Admit new.id new.cost new.period new.deadline

  abbrev more : List Job
  more = insert new jobs

  abbrev roster : Roster
  roster = roster_of (Opened M table jobs)

  abbrev weighing : Bool → Outcome
  weighing b = refuse_if b NoPlan (accepted (Opened M table more))

  only_17 : step (Opened M table jobs) call ≡ weighing (no_plan M more)
  unfolding step on_machine admitted weighed refuse_if
  only_17 =
      rw (
        (ranging.rule.one_job new.id new.cost new.period new.deadline).1 offered.in_range_law,
        offered.new_id,
        lt-leb 64 (length jobs) offered.place_free,
        long_not more offered.within_limit,
      )

  -- The number by the test.
  weight : Bool → ℕ
  weight true = 17
  weight false = 0

  weighed_as : (b : Bool) → outcome_number (weighing b) ≡ weight b
  unfolding outcome_number refuse_if refusal_number weight
  weighed_as true = refl
  weighed_as false = refl

  answered : answer_to roster new ≡ weight (no_plan M more)
  answered = reply_number (Opened M table jobs) call (rules, few) ∙ ap outcome_number only_17 ∙ weighed_as (no_plan M more)

  is_17 : (b : Bool) → weight b ≡ 17 → b ≡ true
  unfolding weight
  is_17 true e = refl
  is_17 false e = absurd (omega arith)

  is_0 : (b : Bool) → weight b ≡ 0 → b ≡ false
  unfolding weight
  is_0 true e = absurd (omega arith)
  is_0 false e = refl

  is_not_0 : (b : Bool) → (weight b ≡ 0 → ⊥) → b ≡ true
  unfolding weight
  is_not_0 true n = refl
  is_not_0 false n = absurd (n refl)

  number_17 : NonePasses M (hyperperiod more) (works more) → answer_to roster new ≡ 17
  unfolding weight
  number_17 none = answered ∙ ap weight (passes_none M rules.machine_range more none)

  number_0 : Feasible M more → answer_to roster new ≡ 0
  unfolding weight
  number_0 some = answered ∙ ap weight (passes_plan M rules.machine_range more some)

  pub turned_down : TurnedDown (answer_to roster new) M jobs new
  turned_down = record {
    turned_down = (
      (λ n. none_passes M rules.machine_range more (is_not_0 (no_plan M more) (λ e. n (answered ∙ e)))),
      λ none e. omega (arith, number_17 none),
    );
    by_17 = ((λ e. none_passes M rules.machine_range more (is_17 (no_plan M more) (sym answered ∙ e))), number_17);
    or_accepted = ((λ e. plan_passes M rules.machine_range more (is_0 (no_plan M more) (sym answered ∙ e))), number_0);
  }

pub turns_down : TurnsDown
turns_down M table jobs kept = turned_down M table jobs kept.0 kept.1
