-- The plan call (01, frames 05 and 81, and "Plan" in "The list of calls and its book"): what it replies, and what it writes on a page.
use Rattle.std.specs.Prelude.{ℕ, true, false, List, Result, Ok, Err, eqb, length}
use Rattle.gmf.specs.declared.Machine.{Machine}
use Rattle.gmf.specs.declared.Job.{Job}
use Rattle.gmf.specs.Jobs.{hyperperiod}
use Rattle.gmf.specs.Growing.{Growth, Grown, NoPlan, plan_of}
use Rattle.gmf.specs.Power.{total}
use Rattle.hexadecimal.specs.Text.{line_of}
use Rattle.frame_writer.specs.Frames.{plan_bytes}
use Rattle.line_writer.specs.Page.{written}
use Rattle.planner.specs.declared.Roster.{Roster}
use Rattle.refusals.specs.declared.Refusal.{Refusal}
use Rattle.refusals.specs.declared.Refusal.TheVariants as refusal
use Rattle.planner.specs.Model.{Model, Closed, Opened}
use Rattle.planner.specs.Roster.{model_of, well_formed}
use Rattle.refusals.specs.Numbers.{refusal_number}

-- A reply by its number, the whole page with it, and how many bytes of the page were written.
pub record Filed : Type 0 where
  pub number : ℕ
  pub page : List ℕ
  pub count : ℕ

-- "A refused frame writes nothing …".
abbrev pub unwritten : Refusal → List ℕ → Filed
unwritten refusal page = record { number = refusal_number refusal; page = page; count = 0 }

-- What the code's answer, how many bytes were written or a refusal, and the page after it say.
abbrev pub filed_by : Result ℕ Refusal → List ℕ → Filed
filed_by (Ok count) page = record { number = 0; page = page; count = count }
filed_by (Err refusal) page = unwritten refusal page

-- A line on a page from a place on, or 6.
unfoldable pub put_on : List ℕ → ℕ → List ℕ → Filed
put_on page place line =
    let reply = written page place line in
    record { number = reply.number; page = reply.page; count = elim (eqb reply.number 0) [ true ↦ length line | false ↦ 0 ] }

-- "… frame 81 …: n the number of jobs, H their cycle, the levels grown for them, the raises made in growing them, and the sum of those levels'
-- values in the book's table."
unfoldable pub plan_line : List ℕ → List Job → List ℕ → ℕ → List ℕ
plan_line table jobs plan raises = line_of (plan_bytes (length jobs) (hyperperiod jobs) (total table plan) raises plan)

-- "The page has frame 81 and its 0A from the stated place, all else as lent." Jobs that no plan passes are on no roster and in no model that
-- calls have made; 17 is their refusal.
unfoldable pub filed_as : List ℕ → List Job → Growth → List ℕ → ℕ → Filed
filed_as table jobs (Grown plan raises) page place = put_on page place (plan_line table jobs plan raises)
filed_as table jobs NoPlan page place = unwritten refusal.NoPlan page

-- The plan that the machine gives the jobs.
unfoldable pub filed_on : Machine → List ℕ → List Job → List ℕ → ℕ → Filed
filed_on M table jobs page place = filed_as table jobs (plan_of M jobs) page place

-- "Plan: the book stays." "05: 5, 11, 6." (5 is a line's.)
unfoldable pub filed : Model → List ℕ → ℕ → Filed
filed Closed page place = unwritten refusal.NoMachine page
filed (Opened M table jobs) page place = filed_on M table jobs page place

-- What a call that writes on a page replies on a roster, by what it does on a model. 7 "is looked at before everything else".
unfoldable pub reply_on : (Model → List ℕ → ℕ → Filed) → Roster → List ℕ → ℕ → Filed
reply_on on r page place = elim (well_formed r) [ true ↦ on (model_of r) page place | false ↦ unwritten refusal.Damaged page ]

-- What a plan call on a roster replies.
unfoldable pub plan_reply : Roster → List ℕ → ℕ → Filed
plan_reply = reply_on filed
