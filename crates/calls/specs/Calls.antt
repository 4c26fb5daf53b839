-- The list of calls and its book (01): every call with its arguments, what comes of it on the model, and what comes of making it on a roster.
use Rattle.std.specs.Prelude.{ℕ, List, [], ◌∷◌, ◌++◌, ℤ, Result}
use Rattle.planner.specs.declared.Roster.{Roster}
use Rattle.refusals.specs.declared.Refusal.{Refusal}
use Rattle.refusals.specs.declared.Refusal.TheVariants.{Malformed}
use Rattle.planner.specs.Model.{Model, Closed, step}
use Rattle.planner.specs.Model as planner
use Rattle.planner.specs.Roster.{empty_roster, reply_to}
use Rattle.refusals.specs.Numbers.{refusal_number, number_of}
use Rattle.planner.specs.Calls.{outcome_number, after}
use Rattle.imports.specs.Imports.{imported, import_reply}
use Rattle.filing.specs.Plans.{Filed, filed, plan_reply}
use Rattle.slack_calls.specs.declared.Slacks.{Slacks}
use Rattle.slack_calls.specs.Slacks.{slack_filed, slack_reply, ticks_in, remainders_in, slack_with, slack_to}
use Rattle.calls.specs.Lines.{Asked, malformed, change, plan, slack, asked, line_reply}

-- "Each call, made with numbers or as a line … Every other argument stands in the list by its value, the bytes of lent lines, tables and pages
-- included."
pub data Call : Type 0 where
  -- Machine, power, admit (with a deadline) and retire with numbers; no page is lent to these.
  Change : planner.Call → Call
  Plan : (page : List ℕ) (place : ℕ) → Call
  -- The slack of every test, as frame 83 (02, 2026-01: "It joins demand 3's calls, and the book stays at it").
  Slack : (page : List ℕ) (place : ℕ) → Call
  -- The slack with a job that is not held yet, as numbers; no page is lent to it, and the book stays.
  SlackWith : (id cost period deadline : ℕ) → Call
  -- Any call of a frame 01 to 07 as a line.
  Line : (line page : List ℕ) (place : ℕ) → Call

-- What is compared of a call: its number, 0 or the refusal's; the page lent to it, after it; and the values that it gives, ticks and remainders.
pub record Reply : Type 0 where
  pub number : ℕ
  pub page : List ℕ
  pub ticks : List ℤ
  pub remainders : List ℕ

-- What comes of a call: that, and what the next call gets, a model or a roster.
pub record Done (S : Type 0) : Type 0 where
  pub reply : Reply
  pub next : S

-- A call that gives no values.
abbrev pub done : {S : Type 0} → ℕ → List ℕ → S → Done S
done number page next = record { reply = record { number = number; page = page; ticks = []; remainders = [] }; next = next }

-- A call that gives values, and is lent no page.
abbrev pub gave : {S : Type 0} → Result Slacks Refusal → S → Done S
gave given next = record { reply = record { number = number_of given; page = []; ticks = ticks_in given; remainders = remainders_in given }; next = next }

-- ---- On the model: "The book is fed these arguments alone, never a reply or the roster."

unfoldable pub changed : Model → planner.Call → List ℕ → Done Model
changed model call page = done (outcome_number (step model call)) page (after model (step model call))

-- "Plan: the book stays." So at the slack of its tests.
abbrev pub wrote : {S : Type 0} → Filed → S → Done S
wrote filed next = done filed.number filed.page next

-- "… and any malformed line by 5; the book and the page stay."
unfoldable pub read_as : Model → Asked → List ℕ → ℕ → Done Model
read_as model malformed page place = done (refusal_number Malformed) page model
read_as model (change call) page place = changed model call page
read_as model plan page place = wrote (filed model page place) model
read_as model slack page place = wrote (slack_filed model page place) model

unfoldable pub on_model : Model → Call → Done Model
on_model model (Change call) = changed model call []
on_model model (Plan page place) = wrote (filed model page place) model
on_model model (Slack page place) = wrote (slack_filed model page place) model
on_model model (SlackWith id cost period deadline) = gave (slack_with model id cost period deadline) model
on_model model (Line line page place) = read_as model (asked line) page place

-- ---- On a roster: what the functions' contracts say

unfoldable pub on_roster : Roster → Call → Done Roster
on_roster r (Change call) = done (number_of (reply_to r call).answer) [] (reply_to r call).roster
on_roster r (Plan page place) = wrote (plan_reply r page place) r
on_roster r (Slack page place) = wrote (slack_reply r page place) r
on_roster r (SlackWith id cost period deadline) = gave (slack_to r id cost period deadline) r
on_roster r (Line line page place) =
    let reply = line_reply r line page place in
    done reply.number reply.page reply.roster

-- ---- A list of calls, one after the other

module _ {S : Type 0} (on : S → Call → Done S) where
  -- "Compared are each call's acceptance or refusal number, every byte of a page lent to it …"
  unfoldable pub replies : S → List Call → List Reply
  replies state [] = []
  replies state (call ∷ calls) = (on state call).reply ∷ replies (on state call).next calls

  -- "… and the roster at the end."
  unfoldable pub end : S → List Call → S
  end state [] = state
  end state (call ∷ calls) = end (on state call).next calls

-- ---- How a list begins

-- "A list starts from the roster of all zeros", and the book "begins with none of them". "A list of demand 3 may also begin with an import" (02,
-- 2026-02): a processor count and the bytes of a list of frequencies.
pub data Beginning : Type 0 where
  Empty : Beginning
  Import : (processors : ℕ) (list : List ℕ) → Beginning

-- What comes of it: the replies that are compared, none or the import's, and what the first call gets.
pub record Begun (S : Type 0) : Type 0 where
  pub replies : List Reply
  pub first : S

-- An import, by its number and what it gives. It is lent no page.
abbrev pub with_reply : {S : Type 0} → ℕ → S → Begun S
with_reply number first = record { replies = (done number [] first).reply ∷ []; first = first }

-- "… the book reads it as a machine call with that processor count and those speeds, and a refused one leaves book and roster empty."
unfoldable pub begun_model : Beginning → Begun Model
begun_model Empty = record { replies = []; first = Closed }
begun_model (Import m list) = with_reply (outcome_number (imported m list)) (after Closed (imported m list))

-- On a roster: what the import's contract says.
unfoldable pub begun_roster : Beginning → Begun Roster
begun_roster Empty = record { replies = []; first = empty_roster }
begun_roster (Import m list) = with_reply (number_of (import_reply m list).answer) (import_reply m list).roster

-- ---- A whole list: its beginning and then its calls

-- All that is compared, the import's number first.
unfoldable pub model_replies : Beginning → List Call → List Reply
model_replies begins calls = (begun_model begins).replies ++ replies on_model (begun_model begins).first calls

unfoldable pub roster_replies : Beginning → List Call → List Reply
roster_replies begins calls = (begun_roster begins).replies ++ replies on_roster (begun_roster begins).first calls

-- What is left at the end.
unfoldable pub model_after : Beginning → List Call → Model
model_after begins calls = end on_model (begun_model begins).first calls

unfoldable pub roster_after : Beginning → List Call → Roster
roster_after begins calls = end on_roster (begun_roster begins).first calls
