-- 01's sheet and some others, for the host. What the calls do is the planner's to say (`ExampleCalls`); the rest is computed.
use Prim.Native.Nat.{ℕ, ◌≤◌}
use native.Mathlib.Omega.{arith}
use mathlib.Core.Path.{◌≡◌, refl, sym, ap, ◌∙◌}
use mathlib.Core.Bool.{true}
use mathlib.Core.List.{List, [], ◌∷◌, ◌++◌}
use lib.ListN.{length, take, drop, replicate}
use Rattle.hexadecimal.specs.Text.{digit_of, digits_of, line_of, value_of, byte_before, end_of, text_of}
use Rattle.frame_kinds.specs.Frames.{kind_of, right_length, widths_in, number_at, numbers_from, said_as, said_with, reading_of}
use Rattle.frame_reader.specs.Lines.{joined, lines_of}
use Rattle.frame_reader.specs.Frames.{said_in, said_by}
use Rattle.frame_reader.specs.Claims.{example_sheet}
use Rattle.planner.specs.Model.{Closed}
use Rattle.planner.specs.Claims.{example_model}
use Rattle.planner.proofs.Results.{planner as laws}
use Rattle.filing.specs.Plans.{Filed, filed}
use Rattle.filing.proofs.Results.{files}
use Rattle.calls.specs.Lines.{asked_as, asked, wants_frame}
use Rattle.calls.specs.Calls.{on_model}
use Rattle.host.specs.Host.{host_calls, refused_line, host_reply}
use Rattle.host.specs.Claims.{SheetTrials}
use Rattle.host.proofs.Walking.{Walked, walked, walked_pass}
use Rattle.host.proofs.Turns.{goes_on, ends_by, ends_unread, ended}
use Rattle.host.proofs.Hosting.{line_allowed, host_rule}

-- Six lines of 01's sheet, and the lines after them.
six_lines : (lines : List (List ℕ)) → walked Closed 1 (take 6 (lines_of example_sheet) ++ lines) ≡ walked (example_model 5) 7 lines
unfolding example_sheet joined lines_of value_of byte_before end_of text_of kind_of right_length widths_in number_at numbers_from said_as said_with said_in said_by reading_of asked_as asked
six_lines lines =
    let e = laws.example_calls in
    goes_on _ _ _ _ _ _ refl e.opens
    ∙ goes_on _ _ _ _ _ _ refl e.admits_1
    ∙ goes_on _ _ _ _ _ _ refl e.admits_2
    ∙ goes_on _ _ _ _ _ _ refl e.admits_3
    ∙ goes_on _ _ _ _ _ _ refl e.admits_4
    ∙ goes_on _ _ _ _ _ _ refl e.admits_5

example_walked : walked Closed 1 (lines_of example_sheet) ≡ record { number = 17; line = 7; model = example_model 5 }
unfolding example_sheet joined lines_of value_of byte_before end_of text_of kind_of right_length widths_in number_at numbers_from said_as said_with said_in said_by reading_of asked_as asked
example_walked = six_lines (drop 6 (lines_of example_sheet)) ∙ ends_by _ _ _ _ _ _ _ refl laws.example_calls.refuses_6 (λ z. omega arith)

part_walked : walked Closed 1 (lines_of (take 90 example_sheet)) ≡ record { number = 0; line = 0; model = example_model 5 }
unfolding example_sheet joined lines_of value_of byte_before end_of text_of kind_of right_length widths_in number_at numbers_from said_as said_with said_in said_by reading_of asked_as asked
part_walked = six_lines [] ∙ ended (example_model 5) 7

-- How a sheet of allowed length is answered, by how its lines end.
module _ (sheet : List ℕ) (short : length sheet ≤ 65536) (w : Walked) (e : walked Closed 1 (lines_of sheet) ≡ w) where
  host_refuses : (w.number ≡ 0 → ⊥) → (page : List ℕ) (place : ℕ) → host_reply sheet page place ≡ record { number = w.number; page = page }
  unfolding walked host_calls
  host_refuses some page place =
      let is = ap (λ (v : Walked). v.number) e in
      (host_rule sheet).refuses short (λ z. some (sym is ∙ z)) page place ∙ ap (λ (n : ℕ). record { number = n; page = page }) is

  host_plans : w.number ≡ 0 → (page : List ℕ) (place : ℕ) (f : Filed) → filed w.model page place ≡ f
      → host_reply sheet page place ≡ record { number = f.number; page = f.page }
  unfolding walked host_calls on_model
  host_plans z page place f g =
      (host_rule sheet).plans short (ap (λ (v : Walked). v.number) e ∙ z) page place
      ∙ ap (λ (v : Walked). record { number = (filed v.model page place).number; page = (filed v.model page place).page }) e
      ∙ ap (λ (q : Filed). record { number = q.number; page = q.page }) g

  host_line : refused_line sheet ≡ w.line
  unfolding walked
  host_line = line_allowed sheet short ∙ ap (λ (v : Walked). v.line) e

-- A wanted frame alone, and with an empty line after it.
module _ (line : List ℕ) (wants : wants_frame (asked line) ≡ true) where
  passed : walked Closed 1 (line ∷ []) ≡ record { number = 0; line = 0; model = Closed }
  passed = walked_pass Closed 1 line [] wants ∙ ended Closed 2

  counted : walked Closed 1 (line ∷ (10 ∷ []) ∷ []) ≡ record { number = 5; line = 2; model = Closed }
  unfolding end_of text_of said_with said_in said_by reading_of asked_as asked
  counted = walked_pass Closed 1 line ((10 ∷ []) ∷ []) wants ∙ ends_unread Closed 2 (10 ∷ []) [] refl

-- ---- All of it

pub sheet_trials : SheetTrials
unfolding example_sheet joined lines_of value_of byte_before end_of text_of kind_of right_length widths_in number_at numbers_from said_as said_with said_in said_by reading_of asked_as asked wants_frame digit_of digits_of line_of
sheet_trials = record {
  no_machine = host_plans (48 ∷ 53 ∷ 10 ∷ []) (omega arith) _ (passed (48 ∷ 53 ∷ 10 ∷ []) refl) refl [] 1 _ (files.files_closed [] 1);
  unclosed = host_refuses (48 ∷ 53 ∷ []) (omega arith) _ (ends_unread Closed 1 (48 ∷ 53 ∷ []) [] refl) (λ z. omega arith) [] 1;
  plan = host_plans (take 90 example_sheet) (omega arith) _ part_walked refl (replicate 40 0) 3 _ files.trials.sheet;
  refused = host_refuses example_sheet (omega arith) _ example_walked (λ z. omega arith) (1 ∷ 2 ∷ []) 0;
  line = host_line example_sheet (omega arith) _ example_walked;
  line_counted = host_line (48 ∷ 53 ∷ 10 ∷ 10 ∷ []) (omega arith) _ (counted (48 ∷ 53 ∷ 10 ∷ []) refl);
  slack_passed = host_plans (48 ∷ 55 ∷ 10 ∷ []) (omega arith) _ (passed (48 ∷ 55 ∷ 10 ∷ []) refl) refl [] 1 _ (files.files_closed [] 1);
  slack_counted = host_line (48 ∷ 55 ∷ 10 ∷ 10 ∷ []) (omega arith) _ (counted (48 ∷ 55 ∷ 10 ∷ []) refl);
  slack_longer = host_refuses (48 ∷ 55 ∷ 48 ∷ 48 ∷ 10 ∷ []) (omega arith) _ (ends_unread Closed 1 (48 ∷ 55 ∷ 48 ∷ 48 ∷ 10 ∷ []) [] refl) (λ z. omega arith) [] 1;
}
