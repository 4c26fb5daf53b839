-- What is proved of lines and of lists of calls: `Calling` is all of it. Its proof is proofs/Results.antt.
use Rattle.std.specs.Prelude.{ℕ, ◌+◌, ◌≤◌, ◌≡◌, true, List, [], ◌∷◌, ◌++◌, length, take, drop}
use Rattle.gmf.specs.declared.Machine.{Machine}
use Rattle.gmf.specs.declared.Job.{Job}
use Rattle.frame_kinds.specs.Frames.{says, refused}
use Rattle.frame_reader.specs.Frames.{said_by}
use Rattle.planner.specs.declared.Roster.{Roster}
use Rattle.planner.specs.Model.{Opened, OpenMachine, ReplaceTable, Admit, Retire}
use Rattle.planner.specs.Roster.{model_of, roster_of, well_formed}
use Rattle.selection.specs.Claims.{InTurn}
use Rattle.planner.specs.Claims.{IsSound, WithOneMore, Kept, Offered, TurnedDown}
use Rattle.imports.specs.Claims.{OrderRule, FollowRule}
use Rattle.filing.specs.Plans.{plan_line}
use Rattle.filing.specs.Claims.{frame_length, FiledPlan}
use Rattle.slack_calls.specs.Slacks.{slack_line, slack_with}
use Rattle.slack_calls.specs.Claims.{slack_length, FiledSlack, WithRule}
use Rattle.calls.specs.Lines.{malformed, change, plan, slack, asked}
use Rattle.calls.specs.Calls.{Call, Change, Plan, Slack, SlackWith, Line, done, gave, on_roster, Beginning, Import, model_replies, roster_replies, model_after, roster_after}

-- ---- Lines

-- What a line asks for, by the kind and the numbers that it says: the call with those numbers.
pub record AskRule (line : List ℕ) : Type 0 where
  pub unread : said_by line ≡ refused 5 → asked line ≡ malformed
  pub machine : (m L b d : ℕ) → said_by line ≡ says 1 (m ∷ L ∷ b ∷ d ∷ []) → asked line ≡ change (OpenMachine m L b d)
  pub power : (values : List ℕ) → said_by line ≡ says 2 values → asked line ≡ change (ReplaceTable values)
  -- "Frame 03 means D = T." (02, 2026-04)
  pub admit : (id cost period : ℕ) → said_by line ≡ says 3 (id ∷ cost ∷ period ∷ []) → asked line ≡ change (Admit id cost period period)
  pub admit_due_law : (id cost period deadline : ℕ) → said_by line ≡ says 6 (id ∷ cost ∷ period ∷ deadline ∷ [])
      → asked line ≡ change (Admit id cost period deadline)
  pub retire : (id : ℕ) → said_by line ≡ says 4 (id ∷ []) → asked line ≡ change (Retire id)
  pub plan_wanted_law : said_by line ≡ says 5 [] → asked line ≡ plan
  pub slack_wanted_law : said_by line ≡ says 7 [] → asked line ≡ slack

-- 02, 2026-04: "Frame 03 means D = T." On every roster and page a line 03 and a line 06 of the same numbers with D = T do the same.
abbrev pub SameAtPeriod : Type 0
SameAtPeriod = (line due : List ℕ) (id cost period : ℕ)
    → said_by line ≡ says 3 (id ∷ cost ∷ period ∷ []) → said_by due ≡ says 6 (id ∷ cost ∷ period ∷ period ∷ [])
    → (r : Roster) (page : List ℕ) (place : ℕ) → on_roster r (Line due page place) ≡ on_roster r (Line line page place)

-- ---- Demand 3

-- The calls that want a plan on a page from a place: the call with numbers, and every line that reads as it. The same for the slack of its tests.
pub data WantsPlan : Call → List ℕ → ℕ → Type 0 where
  with_numbers : (page : List ℕ) (place : ℕ) → WantsPlan (Plan page place) page place
  as_line : (line page : List ℕ) (place : ℕ) → said_by line ≡ says 5 [] → WantsPlan (Line line page place) page place

pub data WantsSlack : Call → List ℕ → ℕ → Type 0 where
  with_numbers : (page : List ℕ) (place : ℕ) → WantsSlack (Slack page place) page place
  as_line : (line page : List ℕ) (place : ℕ) → said_by line ≡ says 7 [] → WantsSlack (Line line page place) page place

-- The calls that offer a job: the call with numbers, every line 06 that reads as it and, where D = T, every line 03.
pub data Offers : Call → Job → Type 0 where
  with_numbers : (new : Job) → Offers (Change (Admit new.id new.cost new.period new.deadline)) new
  as_line : (line page : List ℕ) (place : ℕ) (new : Job) → said_by line ≡ says 6 (new.id ∷ new.cost ∷ new.period ∷ new.deadline ∷ [])
      → Offers (Line line page place) new
  at_period : (line page : List ℕ) (place : ℕ) (new : Job) → new.deadline ≡ new.period → said_by line ≡ says 3 (new.id ∷ new.cost ∷ new.period ∷ [])
      → Offers (Line line page place) new

-- "The plan filed next is what a plan call straight after the list writes where its page has room." `FiledPlan` says of the levels and raises that
-- they are growing's, pass every capacity test, and that "no plan from the same speeds that passes them draws less total power, under any power
-- table that never falls and whose rises never shrink".
pub record FiledNext (r : Roster) (M : Machine) (table : List ℕ) (jobs : List Job) : Type 0 where
  pub levels : List ℕ
  pub raises : ℕ
  pub plan : FiledPlan M table jobs levels raises
  pub written : (call : Call) (page : List ℕ) (place : ℕ) → WantsPlan call page place → place + frame_length M.processors ≤ length page
      → on_roster r call ≡ done 0 (take place page ++ (plan_line table jobs levels raises ++ drop (place + frame_length M.processors) page)) r
  pub no_room : (call : Call) (page : List ℕ) (place : ℕ) → WantsPlan call page place → (place + frame_length M.processors ≤ length page → ⊥)
      → on_roster r call ≡ done 6 page r

-- What a slack call straight after the list writes where its page has room: the slack of each test under the plan filed next.
pub record SlackNext (r : Roster) (M : Machine) (table : List ℕ) (jobs : List Job) : Type 0 where
  pub levels : List ℕ
  pub raises : ℕ
  pub slack : FiledSlack M table jobs levels raises
  pub written : (call : Call) (page : List ℕ) (place : ℕ) → WantsSlack call page place → place + slack_length M.processors ≤ length page
      → on_roster r call ≡ done 0 (take place page ++ (slack_line M jobs levels ++ drop (place + slack_length M.processors) page)) r
  pub no_room : (call : Call) (page : List ℕ) (place : ℕ) → WantsSlack call page place → (place + slack_length M.processors ≤ length page → ⊥)
      → on_roster r call ≡ done 6 page r

-- "For every list of machine, power, admit, retire and plan calls from the empty roster, refused ones included", and of slack calls, made with
-- numbers or as lines; and for every such list that begins with an import.
pub record Demand3 (begins : Beginning) (calls : List Call) : Type 0 where
  -- "… the replies and the roster after it are those of document 01's book of the same calls": each number, the import's too, every byte of each
  -- lent page and all values given, and the roster at the end.
  pub same_replies : roster_replies begins calls ≡ model_replies begins calls
  pub same_roster : roster_after begins calls ≡ roster_of (model_after begins calls)
  -- "The roster carries exactly the book's machine, table and jobs", keeps 01's rules, and never meets 7.
  pub carries : model_of (roster_after begins calls) ≡ model_after begins calls
  pub kept : Kept (model_after begins calls)
  pub well_formed_law : well_formed (roster_after begins calls) ≡ true
  pub never_7 : (call : Call) → (on_roster (roster_after begins calls) call).reply.number ≡ 7 → ⊥
  -- "After every such list, on an open machine, the plan filed next …"
  pub filed_next : (M : Machine) (table : List ℕ) (jobs : List Job) → model_after begins calls ≡ Opened M table jobs
      → FiledNext (roster_after begins calls) M table jobs
  -- "After every such list, on an open machine, a job in range, under a new id, with a place free and the cycle within its limit …"
  pub turned_down : (M : Machine) (table : List ℕ) (jobs : List Job) → model_after begins calls ≡ Opened M table jobs
      → (new : Job) → Offered jobs new → (call : Call) → Offers call new → TurnedDown (on_roster (roster_after begins calls) call).reply.number M jobs new
  -- The slack filed next is that of the plan filed next; and a job offered gets the slack that `WithRule` says of the model: below zero somewhere
  -- exactly when its admission is refused by 17.
  pub slack_next : (M : Machine) (table : List ℕ) (jobs : List Job) → model_after begins calls ≡ Opened M table jobs
      → SlackNext (roster_after begins calls) M table jobs
  pub slack_with_law : (id cost period deadline : ℕ) → WithRule (model_after begins calls) id cost period deadline
  pub given : (id cost period deadline : ℕ)
      → on_roster (roster_after begins calls) (SlackWith id cost period deadline)
      ≡ gave (slack_with (model_after begins calls) id cost period deadline) (roster_after begins calls)
  -- An import is refused by 1, 18, 19 and 2 in this order, by their conditions, and leaves book and roster empty then; otherwise both are those of
  -- the machine call.
  pub imports : (processors : ℕ) (list : List ℕ) → begins ≡ Import processors list → OrderRule processors list × FollowRule processors list

-- ---- The jobs of a roster, one after the other

-- 02, 2026-03: "… it finds the next largest work on the roster itself, from the job taken before. Show that this takes each job exactly once, works
-- never rising, the lower id first among equals." `InTurn` says so of a list of jobs: here of the jobs of every roster with a machine that keeps the
-- rules (each call looks at those first), so of those held after every list of calls; and of those with one more, as an offer that is accepted has them
-- (`OfferRule`, field `one_more`), for which slack is asked.
pub record HeldInTurn : Type 0 where
  pub held : (r : Roster) → IsSound r → InTurn (take r.held r.jobs)
  pub after_calls : (begins : Beginning) (calls : List Call) (M : Machine) (table : List ℕ) (jobs : List Job)
      → model_after begins calls ≡ Opened M table jobs → InTurn jobs
  pub with_one_more : (r : Roster) (jobs : List Job) → WithOneMore r jobs → InTurn jobs

-- ---- All of it

pub record Calling : Type 0 where
  pub ask_rule : (line : List ℕ) → AskRule line
  pub same_at_period : SameAtPeriod
  pub demand_3 : (begins : Beginning) (calls : List Call) → Demand3 begins calls
  pub held_in_turn : HeldInTurn
