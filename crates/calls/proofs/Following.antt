-- A call on the roster of a model that keeps the rules follows the model; so does every list of calls.
use Prim.Native.Nat.{ℕ}
use native.Mathlib.Omega.{arith}
use Rattle.std.specs.Prelude.{Result}
use Rattle.refusals.specs.declared.Refusal.{Refusal}
use mathlib.Core.Path.{◌≡◌, refl, sym, ap, ap₂, ◌∙◌}
use mathlib.Core.List.{List, [], ◌∷◌}
use Rattle.planner.specs.declared.Roster.{Roster}
use Rattle.planner.specs.Model.{Model}
use Rattle.planner.specs.Model as planner
use Rattle.planner.specs.Roster.{roster_of, reply_to}
use Rattle.planner.specs.Claims.{Kept}
use Rattle.refusals.specs.Numbers.{number_of}
use Rattle.refusals.proofs.Results.{number_rule}
use Rattle.planner.proofs.Results.{planner}
use Rattle.filing.specs.Plans.{Filed, filed, plan_reply}
use Rattle.filing.proofs.Results.{files}
use Rattle.slack_calls.specs.declared.Slacks.{Slacks}
use Rattle.slack_calls.specs.Slacks.{slack_filed, slack_reply}
use Rattle.slack_calls.proofs.Results.{slack_calls}
use Rattle.calls.specs.Lines.{Asked, malformed, change, plan, slack, asked, LineReply, reply_as, line_reply}
use Rattle.calls.specs.Calls.{Call, Change, Plan, Slack, SlackWith, Line, Reply, Done, done, gave, changed, wrote, read_as, on_model, on_roster, replies, end}
use Rattle.calls.proofs.Asking.{number_well}

-- The roster's answer is the model's, and the next model keeps the rules again.
pub record Follows (ours : Done Roster) (book : Done Model) : Type 0 where
  pub reply : ours.reply ≡ book.reply
  pub next : ours.next ≡ roster_of book.next
  pub kept : Kept book.next

-- A reply without values.
abbrev plainly : ℕ → List ℕ → Reply
plainly number page = record { number = number; page = page; ticks = []; remainders = [] }

module _ (model : Model) (kept : Kept model) where
  -- What a line's reply says of a call.
  abbrev done_by : LineReply → Done Roster
  done_by reply = done reply.number reply.page reply.roster

  changes : (call : planner.Call) (page : List ℕ)
      → Follows (done (number_of (reply_to (roster_of model) call).answer) page (reply_to (roster_of model) call).roster) (changed model call page)
  unfolding changed
  changes call page =
      let rule = (planner).one_call model kept in
      record { reply = ap (λ (n : ℕ). plainly n page) (rule.number call); next = rule.roster call; kept = rule.kept call }

  -- A call that files a frame.
  files_as : (ours book : Filed) → ours ≡ book → Follows (wrote ours (roster_of model)) (wrote book model)
  files_as ours book e = record { reply = ap (λ (f : Filed). plainly f.number f.page) e; next = refl; kept = kept }

  plans : (page : List ℕ) (place : ℕ) → Follows (wrote (plan_reply (roster_of model) page place) (roster_of model)) (wrote (filed model page place) model)
  plans page place = files_as _ _ ((files.file_rule model kept).follows page place)

  slacks : (page : List ℕ) (place : ℕ) → Follows (wrote (slack_reply (roster_of model) page place) (roster_of model)) (wrote (slack_filed model page place) model)
  slacks page place = files_as _ _ ((slack_calls.slack_rule model kept).follows page place)

  pub line_follows : (ask : Asked) (page : List ℕ) (place : ℕ) → Follows (done_by (reply_as (roster_of model) ask page place)) (read_as model ask page place)
  unfolding reply_as read_as
  line_follows malformed page place =
      record {
        reply = ap (λ (n : ℕ). plainly n page) (sym (number_well (roster_of model) ((planner).one_call model kept).well_formed_law refl));
        next = refl;
        kept = kept;
      }
  line_follows (change call) page place = changes call page
  line_follows plan page place = plans page place
  line_follows slack page place = slacks page place

  pub call_follows : (call : Call) → Follows (on_roster (roster_of model) call) (on_model model call)
  unfolding on_roster on_model line_reply
  call_follows (Change call) = changes call []
  call_follows (Plan page place) = plans page place
  call_follows (Slack page place) = slacks page place
  call_follows (SlackWith id cost period deadline) =
      record {
        reply = ap (λ (given : Result Slacks Refusal). (gave given model).reply) (slack_calls.with_rule model kept id cost period deadline).follows;
        next = refl;
        kept = kept;
      }
  call_follows (Line line page place) = line_follows (asked line) page place

-- ---- No refusal by 7

read_not_7 : (model : Model) → Kept model → (ask : Asked) (page : List ℕ) (place : ℕ) → (read_as model ask page place).reply.number ≡ 7 → ⊥
unfolding read_as changed
read_not_7 model kept malformed page place e = omega (arith, number_rule.malformed)
read_not_7 model kept (change call) page place e = ((planner).one_call model kept).never_7 call e
read_not_7 model kept plan page place e = (files.file_rule model kept).never_7 page place e
read_not_7 model kept slack page place e = (slack_calls.slack_rule model kept).never_7 page place e

call_not_7 : (model : Model) → Kept model → (call : Call) → (on_model model call).reply.number ≡ 7 → ⊥
unfolding on_model changed
call_not_7 model kept (Change call) e = ((planner).one_call model kept).never_7 call e
call_not_7 model kept (Plan page place) e = (files.file_rule model kept).never_7 page place e
call_not_7 model kept (Slack page place) e = (slack_calls.slack_rule model kept).never_7 page place e
call_not_7 model kept (SlackWith id cost period deadline) e = (slack_calls.with_rule model kept id cost period deadline).never_7 e
call_not_7 model kept (Line line page place) e = read_not_7 model kept (asked line) page place e

pub never_7 : (model : Model) → Kept model → (call : Call) → (on_roster (roster_of model) call).reply.number ≡ 7 → ⊥
never_7 model kept call e = call_not_7 model kept call (ap (λ (reply : Reply). reply.number) (sym (call_follows model kept call).reply) ∙ e)

-- ---- A list of calls

pub list_replies : (model : Model) (calls : List Call) → Kept model → replies on_roster (roster_of model) calls ≡ replies on_model model calls
unfolding replies
list_replies model [] kept = refl
list_replies model (call ∷ calls) kept =
    let follows = call_follows model kept call in
    ap₂ ◌∷◌
    follows.reply
    (ap (λ (r : Roster). replies on_roster r calls) follows.next ∙ list_replies (on_model model call).next calls follows.kept)

pub list_end : (model : Model) (calls : List Call) → Kept model → end on_roster (roster_of model) calls ≡ roster_of (end on_model model calls)
unfolding end
list_end model [] kept = refl
list_end model (call ∷ calls) kept =
    let follows = call_follows model kept call in
    ap (λ (r : Roster). end on_roster r calls) follows.next ∙ list_end (on_model model call).next calls follows.kept

pub list_kept : (model : Model) (calls : List Call) → Kept model → Kept (end on_model model calls)
unfolding end
list_kept model [] kept = kept
list_kept model (call ∷ calls) kept = list_kept (on_model model call).next calls (call_follows model kept call).kept
