-- What is proved of the plan call: `Files` is all of it. Its proof is proofs/Results.antt.
use Rattle.std.specs.Prelude.{ℕ, ◌+◌, ◌*◌, ◌≤◌, ◌<◌, ◌≡◌, ◌⊎◌, List, [], ◌∷◌, ◌++◌, length, take, drop, replicate}
use Rattle.gmf.specs.declared.Machine.{Machine}
use Rattle.gmf.specs.declared.Job.{Job}
use Rattle.gmf.specs.Jobs.{hyperperiod, works}
use Rattle.gmf.specs.Capacity.{level, IsPlan, PassesFor}
use Rattle.gmf.specs.Growing.{Grown, plan_of}
use Rattle.gmf.specs.Power.{Convex, total}
use Rattle.gmf.specs.Claims.{Least}
use Rattle.hexadecimal.specs.Text.{line_of}
use Rattle.frame_writer.specs.Frames.{plan_bytes}
use Rattle.planner.specs.declared.Roster.{Roster}
use Rattle.planner.specs.Model.{Model, Closed, Opened}
use Rattle.planner.specs.Roster.{empty_roster, roster_of}
use Rattle.planner.specs.Claims.{Kept, example_model}
use Rattle.filing.specs.Plans.{Filed, plan_line, filed, plan_reply}

-- The frame of a plan, its 0A with it: 12 bytes and one for each level, two digits a byte.
abbrev pub frame_length : ℕ → ℕ
frame_length m = 2 * (12 + m) + 1

-- The plan of some jobs on a machine, and what is filed of it under a table.
pub record FiledPlan (M : Machine) (table : List ℕ) (jobs : List Job) (plan : List ℕ) (raises : ℕ) : Type 0 where
  -- It is growing's, …
  pub grown : plan_of M jobs ≡ Grown plan raises
  -- … a plan that passes every test, with its raises counted, the least in each sum of its first levels; …
  pub least : Least M (hyperperiod jobs) (works jobs) plan raises
  -- … and "no plan from the same speeds that passes them draws less total power, under any power table that never falls and whose rises never
  -- shrink".
  pub cheapest : (powers : List ℕ) → length powers ≡ M.levels → Convex powers
      → (other : List ℕ) → IsPlan M other → PassesFor M jobs other → total powers plan ≤ total powers other
  -- Its frame has the number of jobs, their hyperperiod, the power under the table, the raises and the levels, and each has room in its field: one
  -- byte, four, four, two, and one for each level.
  pub frame : plan_line table jobs plan raises ≡ line_of (plan_bytes (length jobs) (hyperperiod jobs) (total table plan) raises plan)
  pub in_fields : (length jobs < 256) × (hyperperiod jobs < 4294967296) × (total table plan < 4294967296) × (raises < 65536)
  pub in_bytes : (k : ℕ) → level plan k < 256
  pub size : length (plan_line table jobs plan raises) ≡ frame_length M.processors
  -- Where the page has room, the plan call writes its frame from the place on, all else as lent; …
  pub written : (page : List ℕ) (place : ℕ) → place + frame_length M.processors ≤ length page
      → filed (Opened M table jobs) page place
      ≡ record {
        number = 0;
        page = take place page ++ (plan_line table jobs plan raises ++ drop (place + frame_length M.processors) page);
        count = frame_length M.processors;
      }
  -- … and elsewhere it is refused by 6, the page as lent.
  pub no_room : (page : List ℕ) (place : ℕ) → (place + frame_length M.processors ≤ length page → ⊥)
      → filed (Opened M table jobs) page place ≡ record { number = 6; page = page; count = 0 }

-- What is written ends on the page, the page keeps its length, and a refusal leaves it as lent.
pub record ReplyRule (reply : Filed) (page : List ℕ) (place : ℕ) : Type 0 where
  pub fits : (reply.count ≡ 0) ⊎ (place + reply.count ≤ length page)
  pub same_length : length reply.page ≡ length page
  -- "A refused frame writes nothing …"
  pub as_lent : (reply.number ≡ 0 → ⊥) → reply.page ≡ page

-- For every model that calls can make.
pub record FileRule (model : Model) : Type 0 where
  -- The call on the model's roster replies what it does on the model.
  pub follows : (page : List ℕ) (place : ℕ) → plan_reply (roster_of model) page place ≡ filed model page place
  -- … and never by 7.
  pub never_7 : (page : List ℕ) (place : ℕ) → (filed model page place).number ≡ 7 → ⊥
  -- On an open machine the plan is such a one.
  pub plan : (M : Machine) (table : List ℕ) (jobs : List Job) → model ≡ Opened M table jobs
      → (levels : List ℕ) × (raises : ℕ) × FiledPlan M table jobs levels raises

-- 01's sheet, on a page of 40 bytes from place 3 on; its machine without jobs, where there is no room; and no machine.
pub record FileTrials : Type 0 where
  pub sheet : filed (example_model 5) (replicate 40 0) 3
      ≡ record {
        number = 0;
        page =
            0 ∷ 0 ∷ 0 ∷ 56 ∷ 49 ∷ 48 ∷ 53 ∷ 48 ∷ 48 ∷ 48 ∷ 48 ∷ 48 ∷ 48 ∷ 48 ∷ 65 ∷ 48 ∷ 48 ∷ 48 ∷ 48 ∷ 48 ∷ 48 ∷ 65 ∷ 51 ∷ 48 ∷ 48 ∷ 48 ∷ 57
            ∷ 48 ∷ 51 ∷ 48 ∷ 51 ∷ 48 ∷ 50 ∷ 48 ∷ 49 ∷ 10 ∷ 0 ∷ 0 ∷ 0 ∷ 0 ∷ [];
        count = 33;
      }
  -- On a blank page of 579 bytes.
  pub on_blank : filed (example_model 5) (replicate 579 0) 0
      ≡ record {
        number = 0;
        page =
            56 ∷ 49 ∷ 48 ∷ 53 ∷ 48 ∷ 48 ∷ 48 ∷ 48 ∷ 48 ∷ 48 ∷ 48 ∷ 65 ∷ 48 ∷ 48 ∷ 48 ∷ 48 ∷ 48 ∷ 48 ∷ 65 ∷ 51 ∷ 48 ∷ 48 ∷ 48 ∷ 57
            ∷ 48 ∷ 51 ∷ 48 ∷ 51 ∷ 48 ∷ 50 ∷ 48 ∷ 49 ∷ 10 ∷ replicate 546 0;
        count = 33;
      }
  pub no_room : filed (example_model 0) (replicate 35 7) 3 ≡ record { number = 6; page = replicate 35 7; count = 0 }
  -- 11 comes before 6.
  pub no_machine : plan_reply empty_roster [] 1 ≡ record { number = 11; page = []; count = 0 }

-- With no machine: 11, and the page as lent.
abbrev pub FilesClosed : Type 0
FilesClosed = (page : List ℕ) (place : ℕ) → filed Closed page place ≡ record { number = 11; page = page; count = 0 }

pub record Files : Type 0 where
  pub files_closed : FilesClosed
  -- Whatever the roster.
  pub reply_rule : (r : Roster) (page : List ℕ) (place : ℕ) → ReplyRule (plan_reply r page place) page place
  pub file_rule : (model : Model) → Kept model → FileRule model
  pub trials : FileTrials
