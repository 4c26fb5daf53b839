-- A call made as a line: what the line asks for, and what the call on a roster replies.
use Rattle.std.specs.Prelude.{ℕ, Bool, true, false, List, [], Option, Some, None, Result, Ok, Err, take}
use Rattle.frame_kinds.specs.declared.Frame.{Frame}
use Rattle.frame_kinds.specs.declared.Frame.TheVariants as frame
use Rattle.frame_kinds.specs.Frames.{reading_of}
use Rattle.frame_reader.specs.Frames.{said_by}
use Rattle.planner.specs.declared.Roster.{Roster}
use Rattle.refusals.specs.declared.Refusal.{Refusal}
use Rattle.refusals.specs.declared.Refusal.TheVariants.{Malformed, Damaged}
use Rattle.planner.specs.Model.{OpenMachine, ReplaceTable, Admit, Retire}
use Rattle.planner.specs.Model as planner
use Rattle.planner.specs.Roster.{well_formed, reply_to}
use Rattle.refusals.specs.Numbers.{refusal_number, number_of}
use Rattle.filing.specs.Plans.{Filed, plan_reply}
use Rattle.slack_calls.specs.Slacks.{slack_reply}
use Rattle.calls.specs.declared.LineAnswer.{LineAnswer}

-- What a line asks for: a call with numbers, a plan, the slack of its tests, or nothing that can be read.
pub data Asked : Type 0 where
  malformed : Asked
  change : planner.Call → Asked
  plan : Asked
  slack : Asked

-- The kinds 01 to 07 with their numbers.
unfoldable pub asked_as : Option Frame → Asked
asked_as None = malformed
asked_as (Some (frame.Machine m L b d)) = change (OpenMachine m L b d)
asked_as (Some (frame.Power count values)) = change (ReplaceTable (take count values))
-- "Frame 03 means D = T." (02, 2026-04)
asked_as (Some (frame.Admit id cost period)) = change (Admit id cost period period)
asked_as (Some (frame.Retire id)) = change (Retire id)
asked_as (Some frame.PlanWanted) = plan
asked_as (Some frame.SlackWanted) = slack
asked_as (Some (frame.AdmitDue id cost period deadline)) = change (Admit id cost period deadline)

-- A line, its 0A with it.
unfoldable pub asked : List ℕ → Asked
asked line = asked_as (reading_of (said_by line))

-- A frame 05 or 07: it wants a frame on a page.
unfoldable pub wants_frame : Asked → Bool
wants_frame malformed = false
wants_frame (change call) = false
wants_frame plan = true
wants_frame slack = true

-- A reply by its number, the roster that comes back, the whole page, and how many bytes of it were written.
pub record LineReply : Type 0 where
  pub number : ℕ
  pub roster : Roster
  pub page : List ℕ
  pub count : ℕ

-- How many bytes an answer says were written; none where it is a refusal.
abbrev pub count_in : Result ℕ Refusal → ℕ
count_in (Ok count) = count
count_in (Err refusal) = 0

-- What the code's answer and the page after it say.
abbrev pub answered_on : LineAnswer → List ℕ → LineReply
answered_on given page = record { number = number_of given.answer; roster = given.roster; page = page; count = count_in given.answer }

-- The answer of a call that writes on no page.
abbrev pub nothing_written : Result (Unit {0}) Refusal → Result ℕ Refusal
nothing_written (Ok accepted) = Ok 0
nothing_written (Err refusal) = Err refusal

-- "… any malformed line by 5; the book and the page stay." But 7 "is looked at before everything else".
unfoldable pub malformed_number : Roster → ℕ
malformed_number r = elim (well_formed r) [ true ↦ refusal_number Malformed | false ↦ refusal_number Damaged ]

-- A call that files a frame leaves the roster.
abbrev pub filed_as : Roster → Filed → LineReply
filed_as r filed = record { number = filed.number; roster = r; page = filed.page; count = filed.count }

-- The reply is that of the call with numbers. "Accepted 01 to 04 write nothing", and no more does 06.
unfoldable pub reply_as : Roster → Asked → List ℕ → ℕ → LineReply
reply_as r malformed page place = record { number = malformed_number r; roster = r; page = page; count = 0 }
reply_as r (change call) page place = record { number = number_of (reply_to r call).answer; roster = (reply_to r call).roster; page = page; count = 0 }
reply_as r plan page place = filed_as r (plan_reply r page place)
reply_as r slack page place = filed_as r (slack_reply r page place)

-- What a call made as a line replies.
unfoldable pub line_reply : Roster → List ℕ → List ℕ → ℕ → LineReply
line_reply r line page place = reply_as r (asked line) page place

-- A line of the host's sheet: "… well-formed 05 lines are passed over and never refused", and frame 07 is "… passed over by the host's call as 05
-- is"; any other is a call, and lent no page, since none of them writes.
unfoldable pub passed_over : Roster → Asked → LineReply
passed_over r ask = elim (wants_frame ask) [ true ↦ record { number = 0; roster = r; page = []; count = 0 } | false ↦ reply_as r ask [] 0 ]
