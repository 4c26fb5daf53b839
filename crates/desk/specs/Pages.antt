-- A sheet page by page: a page is filled line by line while the longest frame still has room on it.
use Rattle.std.specs.Prelude.{ℕ, ◌+◌, ◌%◌, true, false, ◌&&◌, List, [], ◌∷◌, ◌++◌, length, take, drop, ◌==◌, nat_le, nat_lt}
use Rattle.hexadecimal.specs.Text.{line_of}
use Rattle.frame_reader.specs.Lines.{longest_sheet, lines_of}
use Rattle.frame_writer.specs.Frames.{refusal_bytes}
use Rattle.planner.specs.declared.Roster.{Roster}
use Rattle.planner.specs.Roster.{empty_roster}
use Rattle.filing.specs.Plans.{put_on}
use Rattle.desk.specs.declared.Desk.{Desk}
use Rattle.desk.specs.declared.Filled.{Filled}
use Rattle.calls.specs.Lines.{LineReply, line_reply}
use Rattle.sheets.specs.Sheets.{longest_frame}

-- Where a sheet begins: the roster of all zeros, position 0, line 1.
unfoldable pub at_start : Desk
at_start = record { roster = empty_roster; at = 0; line = 1 }

-- The number of the line after a line. It has four bytes in a frame; no sheet of allowed length has as many lines.
unfoldable pub next_line : ℕ → ℕ
next_line number = (number + 1) % 4294967296

-- A page and how far it is filled, and the roster after a line.
pub record Lined : Type 0 where
  pub roster : Roster
  pub page : List ℕ
  pub end : ℕ

-- A line by the reply to its call: what that wrote, or 8E from the place on, "written afterwards by a separate call".
abbrev pub settled : ℕ → ℕ → LineReply → Lined
settled number place reply =
    elim (reply.number == 0) [
      | true ↦ record { roster = reply.roster; page = reply.page; end = place + reply.count }
      | false ↦
          let put = put_on reply.page place (line_of (refusal_bytes number reply.number)) in
          record { roster = reply.roster; page = put.page; end = place + put.count }
    ]

-- A line from a place of the page on.
unfoldable pub desk_line : Roster → ℕ → List ℕ → List ℕ → ℕ → Lined
desk_line r number line page place = settled number place (line_reply r line page place)

-- Where the desk is after a page, the page, and how far it is filled.
pub record Filling : Type 0 where
  pub desk : Desk
  pub page : List ℕ
  pub end : ℕ

abbrev pub filled_on : Filled → List ℕ → Filling
filled_on filled page = record { desk = filled.desk; page = page; end = filled.end }

-- Line after line from a position on, while the longest frame has room.
unfoldable pub fill_lines : Desk → List (List ℕ) → List ℕ → ℕ → Filling
fill_lines desk [] page end = record { desk = desk; page = page; end = end }
fill_lines desk (line ∷ lines) page end =
    elim (nat_le (end + longest_frame) (length page)) [
      | true ↦
          let lined = desk_line desk.roster desk.line line page end in
          fill_lines record { roster = lined.roster; at = desk.at + length line; line = next_line desk.line } lines lined.page lined.end
      | false ↦ record { desk = desk; page = page; end = end }
    ]

-- A sheet too long, of some size: 8E0000000005 where it has room, and the desk is at the sheet's end.
unfoldable pub fill_too_long : Desk → ℕ → List ℕ → Filling
fill_too_long desk size page =
    elim (nat_lt desk.at size && nat_le longest_frame (length page)) [
      | true ↦
          let put = put_on page 0 (line_of (refusal_bytes 0 5)) in
          record { desk = record { roster = desk.roster; at = size; line = desk.line }; page = put.page; end = put.count }
      | false ↦ record { desk = desk; page = page; end = 0 }
    ]

unfoldable pub fill_page : Desk → List ℕ → List ℕ → Filling
fill_page desk sheet page =
    elim (nat_le (length sheet) longest_sheet) [
      | true ↦ fill_lines desk (lines_of (drop desk.at sheet)) page 0
      | false ↦ fill_too_long desk (length sheet) page
    ]

-- Page after page: what stands on them up to where they are filled, and where the desk is after the last.
unfoldable pub pieces : Desk → List ℕ → List (List ℕ) → List ℕ
pieces desk sheet [] = []
pieces desk sheet (page ∷ pages) =
    let filling = fill_page desk sheet page in
    take filling.end filling.page ++ pieces filling.desk sheet pages

unfoldable pub desk_after : Desk → List ℕ → List (List ℕ) → Desk
desk_after desk sheet [] = desk
desk_after desk sheet (page ∷ pages) = desk_after (fill_page desk sheet page).desk sheet pages
