-- The import on the host's page, and the sheet that its line is.
use Prim.Native.Nat.{ℕ, zero, suc, ◌+◌, ◌*◌, ◌/◌, ◌%◌, ◌≤◌, ◌<◌}
use native.Mathlib.Nat.{mod-lt}
use native.Mathlib.Omega.{arith}
use mathlib.Core.Path.{◌≡◌, refl, sym, ap, ◌∙◌}
use mathlib.Core.List.{List, [], ◌∷◌, ◌++◌, append-nil}
use Rattle.std.specs.Prelude.{None, Result, Ok, Err}
use borrow.Author.Tests.{le-leb, lt-leb}
use lib.ListN.{length, take, drop}
use Rattle.gmf.specs.declared.Machine.{Machine}
use Rattle.gmf.specs.Machine.{InRange}
use Rattle.hexadecimal.specs.Text.{line_feed, line_of, value_of}
use Rattle.hexadecimal.specs.Claims.{Bytes}
use Rattle.hexadecimal.proofs.Results.{hexadecimal}
use Rattle.line_writer.specs.declared.NoRoom.{NoRoom}
use Rattle.line_writer.specs.Page.{answered, written}
use Rattle.line_writer.specs.Page as page-of
use Rattle.frame_writer.specs.Frames.{machine_bytes}
use Rattle.frame_kinds.specs.Frames.{Said, says, refused, kind_of, right_length, widths_in, number_at, numbers_from, said_as, said_with}
use Rattle.frame_reader.specs.Lines.{lines_of}
use Rattle.frame_reader.specs.Frames.{said_in, said_by}
use Rattle.frame_reader.specs.Claims.{IsMalformed, IsLine}
use Rattle.frame_reader.specs.Claims as reader
use Rattle.frame_reader.proofs.Results.{reads}
use Rattle.planner.specs.Model.{Closed, step}
use Rattle.planner.specs.Roster.{roster_of}
use Rattle.planner.specs.Calls.{outcome_number, after}
use Rattle.refusals.specs.declared.Refusal.{Refusal}
use Rattle.refusals.specs.Numbers.{refusal_number, number_of}
use Rattle.refusals.proofs.Results.{number_rule}
use Rattle.imports.specs.Imports.{imported, import_reply, found_in}
use Rattle.imports.specs.Claims.{call_of}
use Rattle.imports.proofs.Results.{importing}
use Rattle.calls.proofs.Results.{calling}
use Rattle.host.specs.Host.{host_calls, end_number, end_model}
use Rattle.host.specs.Replies.{replied_on}
use Rattle.host.specs.Imports.{machine_line, put_machine, imported_on}
use Rattle.host.specs.Claims.{ImportRule}
use Rattle.host.proofs.Walking.{Walked, walked}
use Rattle.host.proofs.Turns.{goes_on, ended}
use Rattle.host.proofs.Hosting.{host_rule, number_allowed}

-- ---- As the code finds it

-- An answer on a page, by its number.
module _ (M : Machine) (page : List ℕ) (place : ℕ) where
  put_refused : (answer : Result (Unit {0}) Refusal) → (number_of answer ≡ 0 → ⊥)
      → put_machine answer M page place ≡ record { number = number_of answer; page = page }
  unfolding put_machine
  put_refused (Ok accepted) n = absurd (n (number_rule.accepted accepted))
  put_refused (Err refusal) n = ap (λ (k : ℕ). record { number = k; page = page }) (sym (number_rule.refused _ refusal))

  put_accepted : (answer : Result (Unit {0}) Refusal) → number_of answer ≡ 0 → put_machine answer M page place ≡ written page place (machine_line M)
  unfolding put_machine
  put_accepted (Ok accepted) z = refl
  put_accepted (Err refusal) z = absurd (number_rule.never_0 refusal (sym (number_rule.refused _ refusal) ∙ z))

module _ (m : ℕ) (list page : List ℕ) (place : ℕ) where
  pub import_refused : (refusal : Refusal) → Err refusal ≡ found_in (imported m list)
      → (given : ℕ) → given ≡ refusal_number refusal → replied_on given page ≡ imported_on m list page place
  unfolding imported_on put_machine
  import_refused refusal found given g =
      ap (λ (k : ℕ). replied_on k page) g
      ∙ ap (λ (a : Result (Unit {0}) Refusal). put_machine a (import_reply m list).roster.machine page place)
      (sym ((importing.follow_rule m list).found_refused refusal (sym found)))

  pub import_written : (M : Machine) → Ok M ≡ found_in (imported m list) → (placing : Result (Unit {0}) NoRoom) (exit : List ℕ)
      → answered placing exit ≡ written page place (line_of (machine_bytes M.processors M.levels M.lowest M.step))
      → (given : ℕ) → given ≡ page-of.number_of placing → replied_on given exit ≡ imported_on m list page place
  unfolding imported_on put_machine machine_line
  import_written M found placing exit w given g =
      let follows = importing.follow_rule m list in
      ap (λ (k : ℕ). replied_on k exit) g
      ∙ w
      ∙ ap (λ (q : Machine). put_machine (Ok tt) q page place) (sym (follows.found_machine M (sym found)))
      ∙ ap (λ (a : Result (Unit {0}) Refusal). put_machine a (import_reply m list).roster.machine page place)
      (sym (follows.found_accepted M (sym found)))

-- ---- What the line of a machine says

module _ (M : Machine) (range : InRange M) where
  abbrev frame : List ℕ
  frame = machine_bytes M.processors M.levels M.lowest M.step

  frame_bytes : Bytes frame
  frame_bytes =
      let high : (n : ℕ) → n % 256 < 256 = λ n. mod-lt n (omega arith) in (
        omega arith,
        (
          omega (arith, range.processors.1),
          (omega (arith, range.levels.1), (high (M.lowest / 256), (high M.lowest, (high (M.step / 256), (high M.step, tt))))),
        ),
      )

  -- One byte, or two, make up a number again.
  one_byte : (n : ℕ) → 0 * 256 + n ≡ n
  one_byte n = omega arith

  two_bytes : (n : ℕ) → n < 65536 → (0 * 256 + n / 256 % 256) * 256 + n % 256 ≡ n
  two_bytes n h = omega arith

  four : (a b c d a' b' c' d' : ℕ) → a ≡ a' → b ≡ b' → c ≡ c' → d ≡ d' → says 1 (a ∷ b ∷ c ∷ d ∷ []) ≡ says 1 (a' ∷ b' ∷ c' ∷ d' ∷ [])
  four a b c d a' b' c' d' e f g h = cc

  said_frame : said_with frame ≡ says 1 (M.processors ∷ M.levels ∷ M.lowest ∷ M.step ∷ [])
  unfolding said_with said_as kind_of right_length widths_in numbers_from number_at
  said_frame =
      four _ _ _ _ _ _ _ _ (one_byte M.processors) (one_byte M.levels) (two_bytes M.lowest (omega (arith, range.lowest.1)))
      (two_bytes M.step (omega (arith, range.step.1)))

  line_says : said_by (machine_line M) ≡ says 1 (M.processors ∷ M.levels ∷ M.lowest ∷ M.step ∷ [])
  unfolding machine_line said_by said_in
  line_says = ap said_in (hexadecimal.reads_back frame frame_bytes) ∙ said_frame

line_length : (M : Machine) → length (machine_line M) ≡ 15
unfolding machine_line
line_length M = hexadecimal.line_length (machine_bytes M.processors M.levels M.lowest M.step)

-- ---- A sheet of one line that is read

module _ (line : List ℕ) (kind : ℕ) (numbers : List ℕ) (e : said_by line ≡ says kind numbers) where
  well_formed_law : IsMalformed line → ⊥
  well_formed_law bad = differ (sym e ∙ (reads.refusal_rule line).refuses bad)
    where
      -- A frame is no refusal.
      told : Said → ℕ
      told (says k ns) = 1
      told (refused n) = 0

      differ : says kind numbers ≡ refused 5 → ⊥
      differ same = omega (arith, ap told same)

  feed_is_none : value_of line_feed ≡ None
  unfolding value_of
  feed_is_none = refl

  is_line : IsLine line
  is_line = record {
    some = some_bytes (length line) refl;
    close_last = λ k h feed. well_formed_law (reader.wrong_digit k h (ap value_of feed ∙ feed_is_none));
  }
    where
      some_bytes : (n : ℕ) → length line ≡ n → 0 < length line
      some_bytes zero z = absurd (well_formed_law (reader.empty (omega arith)))
      some_bytes (suc n) z = omega arith

  pub lines_one : lines_of line ≡ line ∷ []
  lines_one = sym ((reads.line_rule line).only (line ∷ []) is_line (append-nil line))

-- ---- The line of an import

module _ (m : ℕ) (list : List ℕ) where
  abbrev M : Machine
  M = (import_reply m list).roster.machine

  abbrev line : List ℕ
  line = machine_line M

  number_is : number_of (import_reply m list).answer ≡ outcome_number (imported m list)
  number_is = (importing.follow_rule m list).number

  module _ (page : List ℕ) (place : ℕ) where
    as_refused : (outcome_number (imported m list) ≡ 0 → ⊥) → imported_on m list page place ≡ record { number = outcome_number (imported m list); page = page }
    unfolding imported_on
    as_refused n = put_refused M page place (import_reply m list).answer (λ z. n (sym number_is ∙ z)) ∙ ap (λ (k : ℕ). record { number = k; page = page }) number_is

    module _ (e : outcome_number (imported m list) ≡ 0) where
      placed_line : imported_on m list page place ≡ written page place line
      unfolding imported_on
      placed_line = put_accepted M page place (import_reply m list).answer (number_is ∙ e)

      as_short : length page < place + 15 → imported_on m list page place ≡ record { number = 6; page = page }
      unfolding written
      as_short h = placed_line ∙ rw (line_length M, lt-leb (place + 15) (length page) h, written)

      as_written : place + 15 ≤ length page → imported_on m list page place ≡ record { number = 0; page = take place page ++ (line ++ drop (place + 15) page) }
      unfolding written
      as_written h =
          placed_line
          ∙ rw (line_length M, le-leb (place + 15) (length page) h, written)
          (ap (λ (n : ℕ). record { number = 0; page = take place page ++ (line ++ drop (place + n) page) }) (line_length M))

  module _ (e : outcome_number (imported m list) ≡ 0) where
    rule_says : said_by line ≡ says 1 (M.processors ∷ M.levels ∷ M.lowest ∷ M.step ∷ [])
    rule_says = line_says M ((importing.follow_rule m list).in_range_law e)

    is_one : lines_of line ≡ line ∷ []
    is_one = lines_one line 1 _ rule_says

    -- The call of the line is the import.
    same_call : imported m list ≡ step Closed (call_of M)
    same_call = (importing.follow_rule m list).as_machine e

    ends_so : walked Closed 1 (lines_of line) ≡ record { number = 0; line = 0; model = after Closed (imported m list) }
    ends_so =
        ap (walked Closed 1) is_one
        ∙ goes_on Closed 1 line [] (call_of M) (after Closed (imported m list)) ((calling.ask_rule line).machine _ _ _ _ rule_says)
        (ap outcome_number (sym same_call) ∙ e, ap (after Closed) (sym same_call))
        ∙ ended (after Closed (imported m list)) 2

    short : length line ≤ 65536
    short = omega (arith, line_length M)

    number_0 : end_number line ≡ 0
    unfolding walked host_calls
    number_0 = number_allowed line short ∙ ap (λ (w : Walked). w.number) ends_so

    model_same : end_model line ≡ after Closed (imported m list)
    unfolding walked host_calls
    model_same = (host_rule line).at_end short ∙ ap (λ (w : Walked). w.model) ends_so

    roster_same : roster_of (end_model line) ≡ (import_reply m list).roster
    roster_same = ap roster_of model_same ∙ sym (importing.follow_rule m list).roster

  pub import_rule : ImportRule m list
  import_rule = record {
    line = line;
    is_line = refl;
    size = line_length M;
    refused = λ n page place. as_refused page place n;
    no_room = λ e page place. as_short page place e;
    written = λ e page place. as_written page place e;
    says_machine = rule_says;
    one_line = is_one;
    no_refusal = number_0;
    same_model = model_same;
    same_roster = roster_same;
  }
