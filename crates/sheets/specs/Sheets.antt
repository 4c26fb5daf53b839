-- What the desk writes for a sheet (01, "Frames").
use Rattle.std.specs.Prelude.{ℕ, suc, true, false, List, [], ◌∷◌, ◌++◌, map, leb, eqb, length, replicate}
use Rattle.hexadecimal.specs.Text.{line_of}
use Rattle.frame_reader.specs.Lines.{longest_sheet, lines_of}
use Rattle.frame_writer.specs.Frames.{refusal_bytes}
use Rattle.planner.specs.Model.{Closed}
use Rattle.calls.specs.Calls.{Call, Line, Reply, on_model, replies}

-- The longest frame out with its 0A, frame 83 with 32 tests: two digits for each of its 289 bytes, and the 0A.
abbrev pub longest_frame : ℕ
longest_frame = 579

-- A page with nothing on it, on which the longest frame has room.
abbrev pub blank : List ℕ
blank = replicate longest_frame 0

-- "Each sheet of allowed length … is a list of its own": a call for each line, lent a blank page.
unfoldable pub desk_calls : List ℕ → List Call
desk_calls sheet = map (λ line. Line line blank 0) (lines_of sheet)

-- What was written on a blank page from its start on: the bytes before the first 0.
unfoldable pub written_on : List ℕ → List ℕ
written_on [] = []
written_on (byte ∷ page) = elim (eqb byte 0) [ true ↦ [] | false ↦ byte ∷ written_on page ]

-- What the desk writes for a line of some number, by the reply to its call: the frame on its page, if any, or 8E.
unfoldable pub output : ℕ → Reply → List ℕ
output number reply = elim (eqb reply.number 0) [ true ↦ written_on reply.page | false ↦ line_of (refusal_bytes number reply.number) ]

-- "The desk goes on after a refused line." "… line number from 1 …".
unfoldable pub outputs : ℕ → List Reply → List ℕ
outputs number [] = []
outputs number (reply ∷ rest) = output number reply ++ outputs (suc number) rest

-- All that the desk writes: what the model's replies to the sheet's calls give; "… a sheet over 65,536 bytes writes only 8E0000000005."
unfoldable pub desk_sheet : List ℕ → List ℕ
desk_sheet sheet =
    elim (leb (length sheet) longest_sheet) [
      | true ↦ outputs 1 (replies on_model Closed (desk_calls sheet))
      | false ↦ line_of (refusal_bytes 0 5)
    ]
