-- What is proved of the desk's sheets: `Desks` is all of it. Its proof is proofs/Results.antt.
use Rattle.std.specs.Prelude.{◌≡◌, ℕ, ◌<◌, ◌≤◌, List, length}
use Rattle.hexadecimal.specs.Text.{line_of}
use Rattle.frame_reader.specs.Lines.{longest_sheet}
use Rattle.frame_writer.specs.Frames.{refusal_bytes}
use Rattle.planner.specs.Roster.{empty_roster}
use Rattle.calls.specs.Calls.{on_roster, replies}
use Rattle.desk.specs.declared.Desk.{Desk}
use Rattle.sheets.specs.Sheets.{longest_frame, desk_calls, outputs, desk_sheet}
use Rattle.desk.specs.Pages.{at_start, fill_page, pieces, desk_after}

-- A page that is filled: within it, and never without a step on where the longest frame has room.
pub record PageRule (desk : Desk) (sheet page : List ℕ) : Type 0 where
  pub within : (fill_page desk sheet page).end ≤ length page
  pub same_length : length (fill_page desk sheet page).page ≡ length page
  pub further : longest_frame ≤ length page → desk.at < length sheet → desk.at < (fill_page desk sheet page).desk.at

pub record DeskRule (sheet : List ℕ) : Type 0 where
  -- For a sheet of allowed length the replies may be those of the calls made on rosters, from the empty one.
  pub by_calls : length sheet ≤ longest_sheet → desk_sheet sheet ≡ outputs 1 (replies on_roster empty_roster (desk_calls sheet))
  pub too_long : longest_sheet < length sheet → desk_sheet sheet ≡ line_of (refusal_bytes 0 5)
  -- What stands on the pages that were filled, whatever was on them before, is all of it once the desk is at the sheet's end.
  pub joined : (pages : List (List ℕ)) → length sheet ≤ (desk_after at_start sheet pages).at → pieces at_start sheet pages ≡ desk_sheet sheet

-- ---- All of it

pub record Desks : Type 0 where
  pub page_rule : (desk : Desk) (sheet page : List ℕ) → PageRule desk sheet page
  pub desk_rule : (sheet : List ℕ) → DeskRule sheet
