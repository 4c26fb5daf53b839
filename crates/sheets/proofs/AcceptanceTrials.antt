-- 01's sheet and some others, for the desk. What the calls do is the planner's to say (`ExampleCalls`); the rest is computed.
use Prim.Native.Nat.{ℕ, ◌≤◌}
use native.Mathlib.Omega.{arith}
use mathlib.Core.Path.{◌≡◌, refl, ap, ◌∙◌}
use mathlib.Core.List.{List, [], ◌∷◌, ◌++◌, map, append-nil}
use borrow.Author.Tests.{le-leb}
use lib.ListN.{length, take, drop}
use Rattle.hexadecimal.specs.Text.{digit_of, digits_of, line_of, value_of, byte_before, end_of, text_of}
use Rattle.frame_kinds.specs.Frames.{kind_of, right_length, widths_in, number_at, numbers_from, said_as, said_with, reading_of}
use Rattle.frame_reader.specs.Lines.{joined, lines_of}
use Rattle.frame_reader.specs.Frames.{said_in, said_by}
use Rattle.frame_reader.specs.Claims.{example_sheet}
use Rattle.frame_writer.specs.Frames.{refusal_bytes}
use Rattle.planner.specs.Model.{Model, Closed}
use Rattle.planner.specs.Model as planner
use Rattle.planner.specs.Claims.{Does, example_model}
use Rattle.refusals.proofs.Results.{number_rule}
use Rattle.planner.proofs.Results.{planner as laws}
use Rattle.filing.specs.Plans.{Filed, filed}
use Rattle.filing.proofs.Results.{files}
use Rattle.slack_calls.specs.Slacks.{slack_filed}
use Rattle.slack_calls.proofs.Results.{slack_calls}
use Rattle.calls.specs.Lines.{Asked, malformed, change, plan, slack, asked_as, asked}
use Rattle.calls.specs.Calls.{Call, Line, Reply, changed, read_as, on_model, replies}
use Rattle.sheets.specs.Sheets.{blank, desk_calls, written_on, output, outputs, desk_sheet}
use Rattle.sheets.specs.Claims.{slack_sheet, SheetTrials}

-- ---- A line's reply at the desk

-- A reply without values.
abbrev plainly : ℕ → List ℕ → Reply
plainly number page = record { number = number; page = page; ticks = []; remainders = [] }

module _ (model : Model) (line : List ℕ) (calls : List Call) where
  as_asked : (ask : Asked) → asked line ≡ ask
      → replies on_model model (Line line blank 0 ∷ calls) ≡ (read_as model ask blank 0).reply ∷ replies on_model (read_as model ask blank 0).next calls
  unfolding replies on_model
  as_asked ask = ap (λ (q : Asked). (read_as model q blank 0).reply ∷ replies on_model (read_as model q blank 0).next calls)

  by_change : (call : planner.Call) (number : ℕ) (next : Model) → asked line ≡ change call → Does model call number next
      → replies on_model model (Line line blank 0 ∷ calls) ≡ plainly number blank ∷ replies on_model next calls
  unfolding read_as changed
  by_change call number next a does =
      as_asked (change call) a
      ∙ ap (λ (n : ℕ). plainly n blank ∷ replies on_model (changed model call blank).next calls) does.0
      ∙ ap (λ (m : Model). plainly number blank ∷ replies on_model m calls) does.1

  -- A frame that is filed.
  by_filed : (f : Filed) → replies on_model model (Line line blank 0 ∷ calls) ≡ plainly f.number f.page ∷ replies on_model model calls
      → (g : Filed) → f ≡ g → replies on_model model (Line line blank 0 ∷ calls) ≡ plainly g.number g.page ∷ replies on_model model calls
  by_filed f r g e = r ∙ ap (λ (q : Filed). plainly q.number q.page ∷ replies on_model model calls) e

  by_plan : asked line ≡ plan → (f : Filed) → filed model blank 0 ≡ f
      → replies on_model model (Line line blank 0 ∷ calls) ≡ plainly f.number f.page ∷ replies on_model model calls
  unfolding read_as
  by_plan a = by_filed (filed model blank 0) (as_asked plan a)

  by_slack : asked line ≡ slack → (f : Filed) → slack_filed model blank 0 ≡ f
      → replies on_model model (Line line blank 0 ∷ calls) ≡ plainly f.number f.page ∷ replies on_model model calls
  unfolding read_as
  by_slack a = by_filed (slack_filed model blank 0) (as_asked slack a)

  by_none : asked line ≡ malformed → replies on_model model (Line line blank 0 ∷ calls) ≡ plainly 5 blank ∷ replies on_model model calls
  unfolding read_as
  by_none a =
      as_asked malformed a
      ∙ ap (λ (n : ℕ). plainly n blank ∷ replies on_model model calls) number_rule.malformed

unwritten : ℕ → Reply
unwritten n = plainly n blank

-- Nothing after a reply.
last : (model : Model) (calls : List Call) (reply : Reply) → calls ≡ [] → reply ∷ replies on_model model calls ≡ reply ∷ []
unfolding replies
last model calls reply e = ap (λ (l : List Call). reply ∷ replies on_model model l) e

-- 01's sheet to its sixth line, and what follows.
module _ (rest : List (List ℕ)) (rest-replies : List Reply) (e : replies on_model (example_model 5) (map (λ line. Line line blank 0) rest) ≡ rest-replies) where
  example_replies : replies on_model Closed (map (λ line. Line line blank 0) (take 6 (lines_of example_sheet) ++ rest))
      ≡ unwritten 0 ∷ unwritten 0 ∷ unwritten 0 ∷ unwritten 0 ∷ unwritten 0 ∷ unwritten 0 ∷ rest-replies
  unfolding example_sheet joined lines_of value_of byte_before end_of text_of kind_of right_length widths_in number_at numbers_from said_as said_with said_in said_by reading_of asked_as asked unwritten
  example_replies =
      let c = laws.example_calls in
      by_change _ _ _ _ _ _ refl c.opens
      ∙ ap (λ rs. unwritten 0 ∷ rs)
      (by_change _ _ _ _ _ _ refl c.admits_1
      ∙ ap (λ rs. unwritten 0 ∷ rs)
      (by_change _ _ _ _ _ _ refl c.admits_2
      ∙ ap (λ rs. unwritten 0 ∷ rs)
      (by_change _ _ _ _ _ _ refl c.admits_3
      ∙ ap (λ rs. unwritten 0 ∷ rs)
      (by_change _ _ _ _ _ _ refl c.admits_4
      ∙ ap (λ rs. unwritten 0 ∷ rs)
      (by_change _ _ _ _ _ _ refl c.admits_5 ∙ ap (λ rs. unwritten 0 ∷ rs) e)))))

-- Its seventh line and the wanted plan; and the wanted slack instead.
plan_replies : replies on_model (example_model 5) (map (λ line. Line line blank 0) (drop 6 (lines_of example_sheet)))
    ≡ unwritten 17 ∷ plainly (filed (example_model 5) blank 0).number (filed (example_model 5) blank 0).page ∷ []
unfolding example_sheet joined lines_of value_of byte_before end_of text_of kind_of right_length widths_in number_at numbers_from said_as said_with said_in said_by reading_of asked_as asked unwritten
plan_replies =
    by_change _ _ _ _ _ _ refl laws.example_calls.refuses_6
    ∙ ap (λ rs. unwritten 17 ∷ rs) (by_plan _ _ _ refl _ refl ∙ last (example_model 5) [] _ refl)

slack_replies : replies on_model (example_model 5) (Line (48 ∷ 55 ∷ 10 ∷ []) blank 0 ∷ [])
    ≡ plainly (slack_filed (example_model 5) blank 0).number (slack_filed (example_model 5) blank 0).page ∷ []
unfolding value_of byte_before end_of text_of kind_of right_length widths_in number_at numbers_from said_as said_with said_in said_by reading_of asked_as asked
slack_replies = by_slack _ _ _ refl _ refl ∙ last (example_model 5) [] _ refl

-- ---- All of it

example_output : desk_sheet example_sheet
    ≡ 56 ∷ 69 ∷ 48 ∷ 48 ∷ 48 ∷ 48 ∷ 48 ∷ 48 ∷ 48 ∷ 55 ∷ 49 ∷ 49 ∷ 10
    ∷ 56 ∷ 49 ∷ 48 ∷ 53 ∷ 48 ∷ 48 ∷ 48 ∷ 48 ∷ 48 ∷ 48 ∷ 48 ∷ 65 ∷ 48 ∷ 48 ∷ 48 ∷ 48 ∷ 48 ∷ 48 ∷ 65 ∷ 51 ∷ 48 ∷ 48 ∷ 48 ∷ 57
    ∷ 48 ∷ 51 ∷ 48 ∷ 51 ∷ 48 ∷ 50 ∷ 48 ∷ 49 ∷ 10 ∷ []
unfolding desk_sheet desk_calls example_sheet joined lines_of outputs output written_on digit_of digits_of line_of unwritten
example_output =
    ap (outputs 1) (example_replies (drop 6 (lines_of example_sheet)) _ plan_replies)
    ∙ ap (λ (f : Filed). outputs 1 (
    unwritten 0 ∷ unwritten 0 ∷ unwritten 0 ∷ unwritten 0 ∷ unwritten 0 ∷ unwritten 0 ∷ unwritten 17 ∷ plainly f.number f.page ∷ []
    )) files.trials.on_blank

slack_output : desk_sheet slack_sheet
    ≡ 56 ∷ 51
    ∷ 48 ∷ 48 ∷ 48 ∷ 48 ∷ 48 ∷ 48 ∷ 48 ∷ 48 ∷ 48 ∷ 48 ∷ 48 ∷ 48 ∷ 48 ∷ 48 ∷ 48 ∷ 48 ∷ 48 ∷ 48
    ∷ 48 ∷ 48 ∷ 48 ∷ 48 ∷ 48 ∷ 48 ∷ 48 ∷ 48 ∷ 48 ∷ 48 ∷ 48 ∷ 48 ∷ 48 ∷ 48 ∷ 48 ∷ 49 ∷ 48 ∷ 48
    ∷ 48 ∷ 48 ∷ 48 ∷ 48 ∷ 48 ∷ 48 ∷ 48 ∷ 48 ∷ 48 ∷ 48 ∷ 48 ∷ 48 ∷ 48 ∷ 48 ∷ 48 ∷ 50 ∷ 48 ∷ 50
    ∷ 48 ∷ 48 ∷ 48 ∷ 48 ∷ 48 ∷ 48 ∷ 48 ∷ 48 ∷ 48 ∷ 48 ∷ 48 ∷ 48 ∷ 48 ∷ 48 ∷ 48 ∷ 49 ∷ 48 ∷ 50
    ∷ 10 ∷ []
unfolding desk_sheet desk_calls slack_sheet example_sheet joined lines_of outputs output written_on unwritten
slack_output =
    ap (outputs 1) (example_replies ((48 ∷ 55 ∷ 10 ∷ []) ∷ []) _ slack_replies)
    ∙ ap (λ (f : Filed). outputs 1 (
    unwritten 0 ∷ unwritten 0 ∷ unwritten 0 ∷ unwritten 0 ∷ unwritten 0 ∷ unwritten 0 ∷ plainly f.number f.page ∷ []
    )) slack_calls.trials.sheet

nothing : desk_sheet [] ≡ []
unfolding desk_sheet desk_calls lines_of replies outputs
nothing = refl

-- A sheet of one line, by its reply.
one_line : (sheet line : List ℕ) (reply : Reply) → desk_calls sheet ≡ Line line blank 0 ∷ [] → length sheet ≤ 65536 → replies on_model Closed (Line line blank 0 ∷ []) ≡ reply ∷ []
    → desk_sheet sheet ≡ output 1 reply
unfolding desk_sheet outputs
one_line sheet line reply l h e =
    rw (le-leb (length sheet) 65536 h, desk_sheet)
    (ap (λ (calls : List Call). outputs 1 (replies on_model Closed calls)) l ∙ ap (outputs 1) e ∙ append-nil (output 1 reply))

alone : (line : List ℕ) (reply : Reply) → replies on_model Closed (Line line blank 0 ∷ []) ≡ reply ∷ replies on_model Closed []
    → replies on_model Closed (Line line blank 0 ∷ []) ≡ reply ∷ []
unfolding replies
alone line reply e = e

-- A malformed line, and 05 and 07 with no machine.
unread_output : (sheet line : List ℕ) → desk_calls sheet ≡ Line line blank 0 ∷ [] → length sheet ≤ 65536 → asked line ≡ malformed → desk_sheet sheet ≡ line_of (refusal_bytes 1 5)
unfolding output
unread_output sheet line l h a = one_line sheet line (plainly 5 blank) l h (alone line _ (by_none Closed line [] a))

closed_output : (sheet line : List ℕ) → desk_calls sheet ≡ Line line blank 0 ∷ [] → length sheet ≤ 65536 → asked line ≡ plan → desk_sheet sheet ≡ line_of (refusal_bytes 1 11)
unfolding output
closed_output sheet line l h a =
    one_line sheet line (plainly 11 blank) l h (alone line _ (by_plan Closed line [] a _ (files.files_closed blank 0)))

no_slack_output : (sheet line : List ℕ) → desk_calls sheet ≡ Line line blank 0 ∷ [] → length sheet ≤ 65536 → asked line ≡ slack → desk_sheet sheet ≡ line_of (refusal_bytes 1 11)
unfolding output
no_slack_output sheet line l h a =
    one_line sheet line (plainly 11 blank) l h (alone line _ (by_slack Closed line [] a _ (slack_calls.slack_closed blank 0)))

pub sheet_trials : SheetTrials
unfolding example_sheet joined lines_of desk_calls value_of byte_before end_of text_of kind_of right_length widths_in number_at numbers_from said_as said_with said_in said_by reading_of asked_as asked digit_of digits_of line_of
sheet_trials = record {
  example = example_output;
  empty = nothing;
  one_line_feed = unread_output (10 ∷ []) (10 ∷ []) refl (omega arith) refl;
  unclosed = unread_output (48 ∷ 53 ∷ []) (48 ∷ 53 ∷ []) refl (omega arith) refl;
  slack = slack_output;
  no_machine = closed_output (48 ∷ 53 ∷ 10 ∷ []) (48 ∷ 53 ∷ 10 ∷ []) refl (omega arith) refl;
  no_slack_law = no_slack_output (48 ∷ 55 ∷ 10 ∷ []) (48 ∷ 55 ∷ 10 ∷ []) refl (omega arith) refl;
}
