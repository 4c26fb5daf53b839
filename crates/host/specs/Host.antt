-- The host's call (01, "Frames"): its list of calls, and what it replies.
use Rattle.std.specs.Prelude.{ℕ, suc, true, false, ◌≡◌, List, [], ◌∷◌, leb, eqb, length, Result, MatchResult}
use Rattle.frame_reader.specs.Lines.{longest_sheet, lines_of}
use Rattle.line_writer.specs.Page.{Reply}
use Rattle.planner.specs.Model.{Model, Closed}
use Rattle.planner.specs.Roster.{roster_of}
use Rattle.planner.specs.declared.Roster.{Roster}
use Rattle.refusals.specs.Numbers.{refusal_number}
use Rattle.filing.specs.Plans.{filed}
use Rattle.host.specs.declared.RefusedLine.{RefusedLine}
use Rattle.calls.specs.Lines.{asked, wants_frame}
use Rattle.calls.specs.Calls.{Call, Line, Reply as CallReply, Done, on_model, replies, end}

-- A line's call on the model, lent no page.
unfoldable pub line_on_model : Model → List ℕ → Done Model
line_on_model model line = on_model model (Line line [] 0)

-- "Lines are read as the desk reads them, well-formed 05 lines are passed over and never refused … The first refused line ends the call …": that
-- line is the last of the list. Frame 07 (02, 2026-01) is "… passed over by the host's call as 05 is".
unfoldable pub calls_from : Model → List (List ℕ) → List Call
calls_from model [] = []
calls_from model (line ∷ lines) =
    elim (wants_frame (asked line)) [
      | true ↦ calls_from model lines
      | false ↦ Line line [] 0 ∷ elim (eqb (line_on_model model line).reply.number 0) [ true ↦ calls_from (line_on_model model line).next lines | false ↦ [] ]
    ]

unfoldable pub host_calls : List ℕ → List Call
host_calls sheet = calls_from Closed (lines_of sheet)

-- The number of the last reply, 0 where there is none.
unfoldable pub last_number : List CallReply → ℕ
last_number [] = 0
last_number (reply ∷ []) = reply.number
last_number (reply ∷ next ∷ rest) = last_number (next ∷ rest)

-- The number of the line that ends the call, 0 where none does.
unfoldable pub refused_from : Model → ℕ → List (List ℕ) → ℕ
refused_from model number [] = 0
refused_from model number (line ∷ lines) =
    elim (wants_frame (asked line)) [
      | true ↦ refused_from model (suc number) lines
      | false ↦ elim (eqb (line_on_model model line).reply.number 0) [ true ↦ refused_from (line_on_model model line).next (suc number) lines | false ↦ number ]
    ]

-- How a sheet ends: the refusal's number or 0, the number of the refused line or 0, and the model. "A sheet too long gets 5 first."
unfoldable pub end_number : List ℕ → ℕ
end_number sheet = elim (leb (length sheet) longest_sheet) [ true ↦ last_number (replies on_model Closed (host_calls sheet)) | false ↦ 5 ]

unfoldable pub refused_line : List ℕ → ℕ
refused_line sheet = elim (leb (length sheet) longest_sheet) [ true ↦ refused_from Closed 1 (lines_of sheet) | false ↦ 0 ]

unfoldable pub end_model : List ℕ → Model
end_model sheet = elim (leb (length sheet) longest_sheet) [ true ↦ end on_model Closed (host_calls sheet) | false ↦ Closed ]

-- What the code says of it: the roster of that model, or the refusal with that number and that line.
abbrev pub EndsAs : List ℕ → Result Roster RefusedLine → Type 0
EndsAs sheet ending =
    MatchResult ending
    (λ roster. (end_number sheet ≡ 0) × (refused_line sheet ≡ 0) × (roster ≡ roster_of (end_model sheet)))
    (λ refused. (refusal_number refused.refusal ≡ end_number sheet) × (refused.line ≡ refused_line sheet))

-- "The first refused line ends the call with that line's refusal number; then come 11 and 6. … Success returns 0", and "the plan frame of the
-- roster at the end is written".
unfoldable pub host_reply : List ℕ → List ℕ → ℕ → Reply
host_reply sheet page place =
    elim (eqb (end_number sheet) 0) [
      | true ↦ record { number = (filed (end_model sheet) page place).number; page = (filed (end_model sheet) page place).page }
      | false ↦ record { number = end_number sheet; page = page }
    ]
