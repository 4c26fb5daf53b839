-- What is proved of the slack calls: `SlackCalls` is all of it. Its proof is proofs/Results.antt.
use Rattle.std.specs.Prelude.{ℕ, suc, ◌+◌, ◌*◌, ◌≤◌, ◌<◌, ◌≡◌, ◌↔◌, List, [], ◌∷◌, ◌++◌, Result, Ok, Err, pos, negsuc, length, take, drop, get_or, replicate, ◌≤ℤ◌, ◌<ℤ◌}
use Rattle.std.proofs.Math.IntN.{sub_ℕ}
use Rattle.gmf.specs.declared.Machine.{Machine}
use Rattle.gmf.specs.declared.Job.{Job}
use Rattle.gmf.specs.Machine.{machine}
use Rattle.gmf.specs.Jobs.{hyperperiod, works, job, job_due}
use Rattle.gmf.specs.Growing.{Grown, demand, plan_of}
use Rattle.hexadecimal.specs.Text.{line_of}
use Rattle.slack.specs.Slack.{slack_at, ticks_of, remainders_of}
use Rattle.slack_writer.specs.Frames.{slack_bytes}
use Rattle.slack_writer.specs.Claims.{Signed64}
use Rattle.places.specs.Places.{insert}
use Rattle.planner.specs.declared.Roster.{Roster}
use Rattle.planner.specs.Model.{Model, Closed, Opened, Admit, step}
use Rattle.planner.specs.Roster.{empty_roster, roster_of}
use Rattle.planner.specs.Calls.{outcome_number}
use Rattle.planner.specs.Claims.{Kept, roster_with, example_model}
use Rattle.refusals.specs.declared.Refusal.{Refusal}
use Rattle.refusals.specs.declared.Refusal.TheVariants.{Damaged, NoMachine, JobNumbers, IdHeld, PlacesFull, HyperperiodTooLong}
use Rattle.refusals.specs.Numbers.{number_of}
use Rattle.filing.specs.Claims.{ReplyRule}
use Rattle.slack_calls.specs.declared.Slacks.{Slacks}
use Rattle.slack_calls.specs.Slacks.{slack_line, slack_filed, slack_reply, ticks_in, remainders_in, slack_with, slack_to}

-- ---- Frame 83 on a page

-- The frame of m tests, its 0A with it: one byte and nine for each test, two digits a byte.
abbrev pub slack_length : ℕ → ℕ
slack_length m = 2 * (1 + 9 * m) + 1

-- The slack of every test under the plan of some jobs on a machine, and what is filed of it.
pub record FiledSlack (M : Machine) (table : List ℕ) (jobs : List Job) (plan : List ℕ) (raises : ℕ) : Type 0 where
  -- The plan is growing's, "… the plan that 05 writes …"; …
  pub grown : plan_of M jobs ≡ Grown plan raises
  -- … it passes every test, so that none lacks a tick; and ticks and remainder each have room in their field, eight bytes and one.
  pub enough : (i : ℕ) → 1 ≤ i → i ≤ M.processors → pos 0 ≤ℤ (slack_at M (hyperperiod jobs) (works jobs) plan i).ticks
  pub ticks_fit : (i : ℕ) → 1 ≤ i → i ≤ M.processors → Signed64 (slack_at M (hyperperiod jobs) (works jobs) plan i).ticks
  pub remainders_fit : (i : ℕ) → 1 ≤ i → i ≤ M.processors → (slack_at M (hyperperiod jobs) (works jobs) plan i).remainder < 256
  pub frame : slack_line M jobs plan ≡ line_of (slack_bytes (ticks_of M jobs plan) (remainders_of M jobs plan))
  pub size : length (slack_line M jobs plan) ≡ slack_length M.processors
  -- Where the page has room, the call writes its frame from the place on, all else as lent; …
  pub written : (page : List ℕ) (place : ℕ) → place + slack_length M.processors ≤ length page
      → slack_filed (Opened M table jobs) page place
      ≡ record {
        number = 0;
        page = take place page ++ (slack_line M jobs plan ++ drop (place + slack_length M.processors) page);
        count = slack_length M.processors;
      }
  -- … and elsewhere it is refused by 6, the page as lent.
  pub no_room : (page : List ℕ) (place : ℕ) → (place + slack_length M.processors ≤ length page → ⊥)
      → slack_filed (Opened M table jobs) page place ≡ record { number = 6; page = page; count = 0 }

-- For every model that calls can make.
pub record SlackRule (model : Model) : Type 0 where
  -- The call on the model's roster replies what it does on the model …
  pub follows : (page : List ℕ) (place : ℕ) → slack_reply (roster_of model) page place ≡ slack_filed model page place
  -- … and never by 7.
  pub never_7 : (page : List ℕ) (place : ℕ) → (slack_filed model page place).number ≡ 7 → ⊥
  -- On an open machine the slack is such a one.
  pub slack : (M : Machine) (table : List ℕ) (jobs : List Job) → model ≡ Opened M table jobs
      → (levels : List ℕ) × (raises : ℕ) × FiledSlack M table jobs levels raises

-- With no machine: 11, and the page as lent.
abbrev pub SlackClosed : Type 0
SlackClosed = (page : List ℕ) (place : ℕ) → slack_filed Closed page place ≡ record { number = 11; page = page; count = 0 }

-- ---- With a job not yet held, as numbers

-- The number of an answer.
abbrev pub number_in : Result Slacks Refusal → ℕ
number_in = number_of

-- The number that an admission of the job gets on a model.
abbrev pub admission : Model → ℕ → ℕ → ℕ → ℕ → ℕ
admission model id cost period deadline = outcome_number (step model (Admit id cost period deadline))

-- For every model that calls can make, and whatever numbers.
pub record WithRule (model : Model) (id cost period deadline : ℕ) : Type 0 where
  -- The call on the model's roster gives what it does on the model.
  pub follows : slack_to (roster_of model) id cost period deadline ≡ slack_with model id cost period deadline
  -- "… refused as 03 is, but never by 17 …", nor by 7: as the admission, and where that is refused by 17, not at all.
  pub as_admission : (admission model id cost period deadline ≡ 17 → ⊥)
      → number_in (slack_with model id cost period deadline) ≡ admission model id cost period deadline
  pub not_for_17 : admission model id cost period deadline ≡ 17 → number_in (slack_with model id cost period deadline) ≡ 0
  pub never_17 : number_in (slack_with model id cost period deadline) ≡ 17 → ⊥
  pub never_7 : number_in (slack_with model id cost period deadline) ≡ 7 → ⊥
  -- 32 entries each; on a refusal all are 0.
  pub ticks_size : length (ticks_in (slack_with model id cost period deadline)) ≡ 32
  pub zeros : (number_in (slack_with model id cost period deadline) ≡ 0 → ⊥) → ticks_in (slack_with model id cost period deadline) ≡ replicate 32 (pos 0)
  -- "… there the remainder is always 0."
  pub no_remainder : remainders_in (slack_with model id cost period deadline) ≡ replicate 32 0
  -- Otherwise those of test k + 1, which has (k + 1) × H ticks at top speed, for the jobs with the new one; and 0 from m on.
  pub ticks_at_law : (M : Machine) (table : List ℕ) (jobs : List Job) → model ≡ Opened M table jobs → number_in (slack_with model id cost period deadline) ≡ 0
      → (k : ℕ) → k < M.processors
      →
      let more = insert (job_due id cost period deadline) jobs in
      get_or (ticks_in (slack_with model id cost period deadline)) k (pos 0) ≡ sub_ℕ (suc k * hyperperiod more) (demand M (hyperperiod more) (works more) (suc k))
  pub zeros_after : (M : Machine) (table : List ℕ) (jobs : List Job) → model ≡ Opened M table jobs
      → (k : ℕ) → M.processors ≤ k → get_or (ticks_in (slack_with model id cost period deadline)) k (pos 0) ≡ pos 0
  -- Some tick is below zero exactly when the admission is refused by 17.
  pub short : ((k : ℕ) × (get_or (ticks_in (slack_with model id cost period deadline)) k (pos 0) <ℤ pos 0)) ↔ (admission model id cost period deadline ≡ 17)

-- ---- Known results

pub record SlackTrials : Type 0 where
  -- 02's job of cost 1 and period 3 on one core in quarters, on a page of 23 bytes from place 1 on: 83000000000000000002.
  pub third : slack_filed (Opened (machine 1 4 1 1) (1 ∷ 8 ∷ 27 ∷ 64 ∷ []) (job 1 1 3 ∷ [])) (replicate 23 7) 1
      ≡ record {
        number = 0;
        page = 7 ∷ 56 ∷ 51 ∷ 48 ∷ 48 ∷ 48 ∷ 48 ∷ 48 ∷ 48 ∷ 48 ∷ 48 ∷ 48 ∷ 48 ∷ 48 ∷ 48 ∷ 48 ∷ 48 ∷ 48 ∷ 48 ∷ 48 ∷ 50 ∷ 10 ∷ 7 ∷ [];
        count = 21;
      }
  -- 01's sheet, on a blank page of 579 bytes: 83, 0 and 0, 1 and 0, 2 and 2, 1 and 2.
  pub sheet : slack_filed (example_model 5) (replicate 579 0) 0
      ≡ record {
        number = 0;
        page =
            56 ∷ 51
            ∷ 48 ∷ 48 ∷ 48 ∷ 48 ∷ 48 ∷ 48 ∷ 48 ∷ 48 ∷ 48 ∷ 48 ∷ 48 ∷ 48 ∷ 48 ∷ 48 ∷ 48 ∷ 48 ∷ 48 ∷ 48
            ∷ 48 ∷ 48 ∷ 48 ∷ 48 ∷ 48 ∷ 48 ∷ 48 ∷ 48 ∷ 48 ∷ 48 ∷ 48 ∷ 48 ∷ 48 ∷ 48 ∷ 48 ∷ 49 ∷ 48 ∷ 48
            ∷ 48 ∷ 48 ∷ 48 ∷ 48 ∷ 48 ∷ 48 ∷ 48 ∷ 48 ∷ 48 ∷ 48 ∷ 48 ∷ 48 ∷ 48 ∷ 48 ∷ 48 ∷ 50 ∷ 48 ∷ 50
            ∷ 48 ∷ 48 ∷ 48 ∷ 48 ∷ 48 ∷ 48 ∷ 48 ∷ 48 ∷ 48 ∷ 48 ∷ 48 ∷ 48 ∷ 48 ∷ 48 ∷ 48 ∷ 49 ∷ 48 ∷ 50
            ∷ 10 ∷ replicate 504 0;
        count = 75;
      }
  -- One byte less: 6. No machine: 11 before 6.
  pub no_room : slack_filed (Opened (machine 1 4 1 1) (1 ∷ 8 ∷ 27 ∷ 64 ∷ []) (job 1 1 3 ∷ [])) (replicate 21 7) 1
      ≡ record { number = 6; page = replicate 21 7; count = 0 }
  pub no_machine : slack_reply empty_roster [] 1 ≡ record { number = 11; page = []; count = 0 }
  -- 01's sheet, offered the job 11/10 that it turns down: 10, 20, 30 and 40 ticks, works of 11, 21, 30 and, all, 42.
  pub offered : slack_with (example_model 5) 6 11 10 10
      ≡ Ok (record { ticks = negsuc 0 ∷ negsuc 0 ∷ pos 0 ∷ negsuc 1 ∷ replicate 28 (pos 0); remainders = replicate 32 0 })
  -- A job 9/10: works of 10, 19, 28 and, all, 40.
  pub fitting : slack_with (example_model 5) 6 9 10 10
      ≡ Ok (record { ticks = pos 0 ∷ pos 1 ∷ pos 2 ∷ pos 0 ∷ replicate 28 (pos 0); remainders = replicate 32 0 })
  -- A job of cost 4 and period 10 that is due after 5 ticks: works of 10, 19, 27 and, all, 39.
  pub due : slack_with (example_model 5) 6 4 10 5
      ≡ Ok (record { ticks = pos 0 ∷ pos 1 ∷ pos 3 ∷ pos 1 ∷ replicate 28 (pos 0); remainders = replicate 32 0 })
  -- Each refusal, with the next one in the order as well: 7, 11, 4, 13, 15; and 16 where 17 would come next.
  pub damaged : slack_to (roster_with (machine 1 1 1 1) (1 ∷ []) 1 []) 0 0 0 0 ≡ Err Damaged
  pub closed : slack_to empty_roster 0 0 0 0 ≡ Err NoMachine
  pub out_of_range : slack_with (example_model 5) 1 0 10 10 ≡ Err JobNumbers
  pub past_period : slack_with (example_model 5) 1 4 10 11 ≡ Err JobNumbers
  pub held : slack_with (example_model 5) 1 11 10 10 ≡ Err IdHeld
  pub full : slack_with (Opened (machine 1 1 1 1) (1 ∷ []) (replicate 64 (job 1 1 4096))) 65 9000 4097 4097 ≡ Err PlacesFull
  pub too_long : slack_with (Opened (machine 1 1 1 1) (1 ∷ []) (job 1 1 4096 ∷ [])) 2 9000 4097 4097 ≡ Err HyperperiodTooLong

-- ---- All of it

pub record SlackCalls : Type 0 where
  pub slack_closed : SlackClosed
  -- Whatever the roster.
  pub reply_rule : (r : Roster) (page : List ℕ) (place : ℕ) → ReplyRule (slack_reply r page place) page place
  pub slack_rule : (model : Model) → Kept model → SlackRule model
  pub with_rule : (model : Model) → Kept model → (id cost period deadline : ℕ) → WithRule model id cost period deadline
  pub trials : SlackTrials
