-- Demand 3, from what holds of one call.
use Prim.Native.Nat.{ℕ, ◌-◌}
use Rattle.std.specs.Prelude.{Result}
use Rattle.refusals.specs.declared.Refusal.{Refusal}
use mathlib.Core.Path.{◌≡◌, refl, sym, ap, ap₂, subst, ◌∙◌}
use mathlib.Core.List.{List, [], ◌∷◌, ◌++◌}
use lib.ListN.{length, replicate}
use lib.Seq.{take-append_seam}
use Rattle.gmf.specs.declared.Machine.{Machine}
use Rattle.gmf.specs.declared.Job.{Job}
use Rattle.frame_kinds.specs.Frames.{Said, says, refused, kind_of, reading_of}
use Rattle.frame_reader.specs.Frames.{said_by}
use Rattle.planner.specs.declared.Roster.{Roster}
use Rattle.planner.specs.Model.{Model, Opened}
use Rattle.planner.specs.Model as planner
use Rattle.planner.specs.Roster.{model_of, roster_of, well_formed}
use Rattle.planner.specs.Claims.{Kept, Offered, answer_to, TurnedDown}
use Rattle.planner.proofs.Results.{planner}
use Rattle.imports.proofs.Results.{importing}
use Rattle.filing.specs.Plans.{Filed, plan_reply}
use Rattle.filing.proofs.Results.{files}
use Rattle.slack_calls.specs.declared.Slacks.{Slacks}
use Rattle.slack_calls.specs.Slacks.{slack_reply, slack_to}
use Rattle.slack_calls.proofs.Results.{slack_calls}
use Rattle.calls.specs.Lines.{Asked, change, plan, slack, asked_as, asked, reply_as, line_reply}
use Rattle.calls.specs.Calls.{
  Call,
  SlackWith,
  Line,
  Done,
  done,
  gave,
  wrote,
  on_roster,
  replies,
  end,
  Beginning,
  Empty,
  Import,
  begun_model,
  begun_roster,
  model_replies,
  roster_replies,
  model_after,
  roster_after,
}
use Rattle.calls.specs.Claims.{AskRule, SameAtPeriod, WantsPlan, WantsSlack, Offers, FiledNext, SlackNext, Demand3}
use Rattle.calls.specs.Claims as claims
use Rattle.calls.proofs.Following.{never_7, list_replies, list_end, list_kept}

-- ---- What a line asks for

module _ (line : List ℕ) where
  asked_by : (s : Said) → said_by line ≡ s → asked line ≡ asked_as (reading_of s)
  unfolding asked
  asked_by s e = ap (λ (q : Said). asked_as (reading_of q)) e

  pub ask_rule : AskRule line
  unfolding asked_as reading_of kind_of
  ask_rule = record {
    unread = λ e. asked_by (refused 5) e;
    machine = λ m L b d e. asked_by (says 1 (m ∷ L ∷ b ∷ d ∷ [])) e;
    power = λ values e.
        asked_by (says 2 values) e
        ∙ ap (λ (l : List ℕ). change (planner.ReplaceTable l)) (take-append_seam values (replicate (32 - length values) 0));
    admit = λ id cost period e. asked_by (says 3 (id ∷ cost ∷ period ∷ [])) e;
    admit_due_law = λ id cost period deadline e. asked_by (says 6 (id ∷ cost ∷ period ∷ deadline ∷ [])) e;
    retire = λ id e. asked_by (says 4 (id ∷ [])) e;
    plan_wanted_law = λ e. asked_by (says 5 []) e;
    slack_wanted_law = λ e. asked_by (says 7 []) e;
  }

-- ---- The plan filed next, and the slack of its tests

-- What a line gets is what the call with numbers does.
line_gets : (r : Roster) (line page : List ℕ) (place : ℕ) (ask : Asked) → asked line ≡ ask
    → on_roster r (Line line page place) ≡ done (reply_as r ask page place).number (reply_as r ask page place).page (reply_as r ask page place).roster
unfolding on_roster line_reply
line_gets r line page place ask e =
    ap (λ (a : Asked). done (reply_as r a page place).number (reply_as r a page place).page (reply_as r a page place).roster) e

pub same_at_period : SameAtPeriod
same_at_period line due id cost period e f r page place =
    line_gets r due page place (change (planner.Admit id cost period period)) ((ask_rule due).admit_due_law id cost period period f)
    ∙ sym (line_gets r line page place (change (planner.Admit id cost period period)) ((ask_rule line).admit id cost period e))

plan_wanted_law : (r : Roster) (call : Call) (page : List ℕ) (place : ℕ) → WantsPlan call page place → on_roster r call ≡ wrote (plan_reply r page place) r
unfolding on_roster reply_as
plan_wanted_law r call page place (claims.with_numbers p q) = refl
plan_wanted_law r call page place (claims.as_line line p q e) = line_gets r line page place plan ((ask_rule line).plan_wanted_law e)

slack_wanted_law : (r : Roster) (call : Call) (page : List ℕ) (place : ℕ) → WantsSlack call page place → on_roster r call ≡ wrote (slack_reply r page place) r
unfolding on_roster reply_as
slack_wanted_law r call page place (claims.with_numbers p q) = refl
slack_wanted_law r call page place (claims.as_line line p q e) = line_gets r line page place slack ((ask_rule line).slack_wanted_law e)

module _ (M : Machine) (table : List ℕ) (jobs : List Job) (kept : Kept (Opened M table jobs)) where
  abbrev roster : Roster
  roster = roster_of (Opened M table jobs)

  abbrev on_roster_law : Filed → Done Roster
  on_roster_law f = wrote f roster

  pub filed_next : FiledNext roster M table jobs
  filed_next =
      let rule = files.file_rule (Opened M table jobs) kept in
      let found = rule.plan M table jobs refl in
      let p = found.2 in
      record {
        levels = found.0;
        raises = found.1;
        plan = p;
        written = λ call page place w h. plan_wanted_law roster call page place w ∙ ap on_roster_law (rule.follows page place ∙ p.written page place h);
        no_room = λ call page place w n. plan_wanted_law roster call page place w ∙ ap on_roster_law (rule.follows page place ∙ p.no_room page place n);
      }

  pub slack_next : SlackNext roster M table jobs
  slack_next =
      let rule = slack_calls.slack_rule (Opened M table jobs) kept in
      let found = rule.slack M table jobs refl in
      let p = found.2 in
      record {
        levels = found.0;
        raises = found.1;
        slack = p;
        written = λ call page place w h. slack_wanted_law roster call page place w ∙ ap on_roster_law (rule.follows page place ∙ p.written page place h);
        no_room = λ call page place w n. slack_wanted_law roster call page place w ∙ ap on_roster_law (rule.follows page place ∙ p.no_room page place n);
      }

  -- ---- A job offered

  offered_number : (call : Call) (new : Job) → Offers call new → (on_roster roster call).reply.number ≡ answer_to roster new
  unfolding on_roster line_reply reply_as
  offered_number call new (claims.with_numbers n) = refl
  offered_number call new (claims.as_line line page place n e) =
      ap (λ (a : Asked). (reply_as roster a page place).number) ((ask_rule line).admit_due_law new.id new.cost new.period new.deadline e)
  offered_number call new (claims.at_period line page place n same e) =
      ap (λ (a : Asked). (reply_as roster a page place).number)
      ((ask_rule line).admit new.id new.cost new.period e
      ∙ ap (λ (d : ℕ). change (planner.Admit new.id new.cost new.period d)) (sym same))

  pub turned_down : (new : Job) → Offered jobs new → (call : Call) → Offers call new → TurnedDown (on_roster roster call).reply.number M jobs new
  turned_down new offered call offers =
      subst (λ (n : ℕ). TurnedDown n M jobs new) (sym (offered_number call new offers)) ((planner).turns_down M table jobs kept new offered)

-- What the slack call with numbers gives is what its contract says.
gives : (id cost period deadline : ℕ) (r : Roster) → on_roster r (SlackWith id cost period deadline) ≡ gave (slack_to r id cost period deadline) r
unfolding on_roster
gives id cost period deadline r = refl

-- ---- How a list begins

-- The roster that the first call gets is that of the model, which keeps the rules; and the import's replies are the same.
record Begins (begins : Beginning) : Type 0 where
  replies : (begun_roster begins).replies ≡ (begun_model begins).replies
  first : (begun_roster begins).first ≡ roster_of (begun_model begins).first
  kept : Kept (begun_model begins).first

begins_so : (begins : Beginning) → Begins begins
unfolding begun_roster begun_model
begins_so Empty = record { replies = refl; first = sym (planner).begins; kept = tt }
begins_so (Import m list) =
    let rule = importing.follow_rule m list in
    record {
      replies = ap (λ (n : ℕ). record { number = n; page = []; ticks = []; remainders = [] } ∷ []) rule.number;
      first = rule.roster;
      kept = rule.kept;
    }

-- ---- All of it

module _ (begins : Beginning) (calls : List Call) where
  abbrev book : Model
  book = model_after begins calls

  abbrev left : Roster
  left = roster_after begins calls

  book_kept : Kept book
  unfolding model_after
  book_kept = list_kept (begun_model begins).first calls (begins_so begins).kept

  ends : left ≡ roster_of book
  unfolding roster_after model_after
  ends =
      ap (λ (r : Roster). end on_roster r calls) (begins_so begins).first ∙ list_end (begun_model begins).first calls (begins_so begins).kept

  same_replies : roster_replies begins calls ≡ model_replies begins calls
  unfolding roster_replies model_replies
  same_replies =
      let so = begins_so begins in
      ap₂ ◌++◌ so.replies (ap (λ (r : Roster). replies on_roster r calls) so.first ∙ list_replies (begun_model begins).first calls so.kept)

  module _ (M : Machine) (table : List ℕ) (jobs : List Job) (e : book ≡ Opened M table jobs) where
    open_kept : Kept (Opened M table jobs)
    open_kept = subst Kept e book_kept

    at_end : roster_of (Opened M table jobs) ≡ left
    at_end = ap roster_of (sym e) ∙ sym ends

  pub demand_3 : Demand3 begins calls
  demand_3 = record {
    same_replies = same_replies;
    same_roster = ends;
    carries = ap model_of ends ∙ ((planner).one_call book book_kept).carried;
    kept = book_kept;
    well_formed_law = ap well_formed ends ∙ ((planner).one_call book book_kept).well_formed_law;
    never_7 = λ call e. never_7 book book_kept call (ap (λ (r : Roster). (on_roster r call).reply.number) (sym ends) ∙ e);
    filed_next = λ M table jobs e.
        subst (λ (r : Roster). FiledNext r M table jobs) (at_end M table jobs e) (filed_next M table jobs (open_kept M table jobs e));
    turned_down = λ M table jobs e new offered call offers.
        subst (λ (r : Roster). TurnedDown (on_roster r call).reply.number M jobs new) (at_end M table jobs e)
        (turned_down M table jobs (open_kept M table jobs e) new offered call offers);
    slack_next = λ M table jobs e.
        subst (λ (r : Roster). SlackNext r M table jobs) (at_end M table jobs e) (slack_next M table jobs (open_kept M table jobs e));
    slack_with_law = slack_calls.with_rule book book_kept;
    given = λ id cost period deadline. gives id cost period deadline left ∙ ap (λ (a : Result Slacks Refusal). gave a left)
        (ap (λ (r : Roster). slack_to r id cost period deadline) ends ∙ (slack_calls.with_rule book book_kept id cost period deadline).follows);
    imports = λ processors list e. (importing.order_rule processors list, importing.follow_rule processors list);
  }
