-- What is proved of the host's sheets: `Hosting` is all of it. Its proof is proofs/Results.antt.
use Rattle.std.specs.Prelude.{ℕ, suc, ◌+◌, ◌≤◌, ◌<◌, ◌≡◌, ◌↔◌, List, [], ◌∷◌, ◌++◌, map, length, take, drop, get_or, replicate}
use Rattle.gmf.specs.declared.Machine.{Machine}
use Rattle.gmf.specs.declared.Job.{Job}
use Rattle.frame_reader.specs.Lines.{longest_sheet, lines_of}
use Rattle.frame_reader.specs.Claims.{example_sheet}
use Rattle.frame_reader.specs.Frames.{said_by}
use Rattle.frame_kinds.specs.Frames.{says}
use Rattle.planner.specs.Model.{Closed, Opened}
use Rattle.planner.specs.Roster.{roster_of}
use Rattle.planner.specs.Calls.{outcome_number, after}
use Rattle.planner.specs.Claims.{Kept}
use Rattle.imports.specs.Imports.{imported, import_reply}
use Rattle.filing.specs.Plans.{plan_line}
use Rattle.filing.specs.Claims.{frame_length, FiledPlan}
use Rattle.calls.specs.Calls.{Call, Plan, Line, Reply as CallReply, on_model, replies, end}
use Rattle.host.specs.Host.{host_calls, last_number, end_number, refused_line, end_model, host_reply}
use Rattle.host.specs.Imports.{machine_line, imported_on}

-- The plan filed next on the host's page, from the place on, all else as lent.
pub record HostFiled (sheet page : List ℕ) (place : ℕ) : Type 0 where
  pub machine : Machine
  pub table : List ℕ
  pub jobs : List Job
  pub is_open : end_model sheet ≡ Opened machine table jobs
  pub levels : List ℕ
  pub raises : ℕ
  pub plan : FiledPlan machine table jobs levels raises
  pub room : place + frame_length machine.processors ≤ length page
  pub written : (host_reply sheet page place).page
      ≡ take place page ++ (plan_line table jobs levels raises ++ drop (place + frame_length machine.processors) page)

pub record HostRule (sheet : List ℕ) : Type 0 where
  -- "A sheet too long gets 5 first."
  pub too_long : longest_sheet < length sheet → (page : List ℕ) (place : ℕ) → host_reply sheet page place ≡ record { number = 5; page = page }
  -- Every call but the last is accepted.
  pub accepted : (k : ℕ) → suc k < length (replies on_model Closed (host_calls sheet))
      → get_or (map (λ (reply : CallReply). reply.number) (replies on_model Closed (host_calls sheet))) k 0 ≡ 0
  -- The last call's number where that is refused, with the page as lent; …
  pub refuses : length sheet ≤ longest_sheet → (last_number (replies on_model Closed (host_calls sheet)) ≡ 0 → ⊥) → (page : List ℕ) (place : ℕ)
      → host_reply sheet page place ≡ record { number = last_number (replies on_model Closed (host_calls sheet)); page = page }
  -- … otherwise what a plan call gets after these calls: 11, 6, or 0 with the plan filed next.
  pub plans : length sheet ≤ longest_sheet → last_number (replies on_model Closed (host_calls sheet)) ≡ 0 → (page : List ℕ) (place : ℕ)
      → host_reply sheet page place
      ≡ record {
        number = (on_model (end on_model Closed (host_calls sheet)) (Plan page place)).reply.number;
        page = (on_model (end on_model Closed (host_calls sheet)) (Plan page place)).reply.page;
      }
  -- "Success returns 0": then the page has exactly the plan filed next; …
  pub success : (page : List ℕ) (place : ℕ) → (host_reply sheet page place).number ≡ 0 → HostFiled sheet page place
  -- … and unless the reply is 0, it is as lent.
  pub as_lent : (page : List ℕ) (place : ℕ) → ((host_reply sheet page place).number ≡ 0 → ⊥) → (host_reply sheet page place).page ≡ page
  -- A line ends the call exactly when the last call was refused; and it is that call's line, counted from 1 among all lines.
  pub refused_line_law : length sheet ≤ longest_sheet → (refused_line sheet ≡ 0) ↔ (end_number sheet ≡ 0)
  pub last_line : length sheet ≤ longest_sheet → (k : ℕ) → refused_line sheet ≡ suc k
      → (before : List Call) × (host_calls sheet ≡ before ++ (Line (get_or (lines_of sheet) k []) [] 0 ∷ []))
  -- The model at the end is the one after these calls, and keeps 01's rules.
  pub at_end : length sheet ≤ longest_sheet → end_model sheet ≡ end on_model Closed (host_calls sheet)
  pub kept : Kept (end_model sheet)

-- ---- An import

-- The library's import on the host's page: its refusal, 6, or the line of its machine; and that line alone is a sheet which leaves the roster that the
-- library's import gives.
pub record ImportRule (processors : ℕ) (list : List ℕ) : Type 0 where
  pub line : List ℕ
  pub is_line : line ≡ machine_line (import_reply processors list).roster.machine
  pub size : length line ≡ 15
  pub refused : (outcome_number (imported processors list) ≡ 0 → ⊥) → (page : List ℕ) (place : ℕ)
      → imported_on processors list page place ≡ record { number = outcome_number (imported processors list); page = page }
  pub no_room : outcome_number (imported processors list) ≡ 0 → (page : List ℕ) (place : ℕ) → length page < place + 15
      → imported_on processors list page place ≡ record { number = 6; page = page }
  pub written : outcome_number (imported processors list) ≡ 0 → (page : List ℕ) (place : ℕ) → place + 15 ≤ length page
      → imported_on processors list page place ≡ record { number = 0; page = take place page ++ (line ++ drop (place + 15) page) }
  -- What the line says: kind 01 and the numbers of the machine.
  pub says_machine : outcome_number (imported processors list) ≡ 0
      → let M = (import_reply processors list).roster.machine in
      said_by line ≡ says 1 (M.processors ∷ M.levels ∷ M.lowest ∷ M.step ∷ [])
  pub one_line : outcome_number (imported processors list) ≡ 0 → lines_of line ≡ line ∷ []
  pub no_refusal : outcome_number (imported processors list) ≡ 0 → end_number line ≡ 0
  pub same_model : outcome_number (imported processors list) ≡ 0 → end_model line ≡ after Closed (imported processors list)
  pub same_roster : outcome_number (imported processors list) ≡ 0 → roster_of (end_model line) ≡ (import_reply processors list).roster

-- ---- Known results

pub record SheetTrials : Type 0 where
  -- 05 with no machine is passed over; the page has no room either, and 11 comes before 6. 05 with no 0A after it is malformed.
  pub no_machine : host_reply (48 ∷ 53 ∷ 10 ∷ []) [] 1 ≡ record { number = 11; page = [] }
  pub unclosed : host_reply (48 ∷ 53 ∷ []) [] 1 ≡ record { number = 5; page = [] }
  -- 01's sheet to its sixth line, on a page of 40 bytes from place 3 on; and all of it, whose seventh line is refused by 17.
  pub plan : host_reply (take 90 example_sheet) (replicate 40 0) 3
      ≡ record {
        number = 0;
        page =
            0 ∷ 0 ∷ 0 ∷ 56 ∷ 49 ∷ 48 ∷ 53 ∷ 48 ∷ 48 ∷ 48 ∷ 48 ∷ 48 ∷ 48 ∷ 48 ∷ 65 ∷ 48 ∷ 48 ∷ 48 ∷ 48 ∷ 48 ∷ 48 ∷ 65 ∷ 51 ∷ 48 ∷ 48 ∷ 48 ∷ 57
            ∷ 48 ∷ 51 ∷ 48 ∷ 51 ∷ 48 ∷ 50 ∷ 48 ∷ 49 ∷ 10 ∷ 0 ∷ 0 ∷ 0 ∷ 0 ∷ [];
      }
  pub refused : host_reply example_sheet (1 ∷ 2 ∷ []) 0 ≡ record { number = 17; page = 1 ∷ 2 ∷ [] }
  pub line : refused_line example_sheet ≡ 7
  -- 05 and an empty line: the line that is passed over counts.
  pub line_counted : refused_line (48 ∷ 53 ∷ 10 ∷ 10 ∷ []) ≡ 2
  -- 07 is passed over, and counts, as 05; 0700 is malformed.
  pub slack_passed : host_reply (48 ∷ 55 ∷ 10 ∷ []) [] 1 ≡ record { number = 11; page = [] }
  pub slack_counted : refused_line (48 ∷ 55 ∷ 10 ∷ 10 ∷ []) ≡ 2
  pub slack_longer : host_reply (48 ∷ 55 ∷ 48 ∷ 48 ∷ 10 ∷ []) [] 1 ≡ record { number = 5; page = [] }

-- ---- All of it

pub record Hosting : Type 0 where
  pub host_rule : (sheet : List ℕ) → HostRule sheet
  pub import_rule : (processors : ℕ) (list : List ℕ) → ImportRule processors list
  pub sheet_trials : SheetTrials
