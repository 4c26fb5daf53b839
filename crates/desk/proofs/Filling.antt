-- A page filled line by line, as the code fills it.
use Rattle.std.proofs.Common.{◌≡◌, ℕ, ◌+◌, ◌<◌, ◌≤◌, ◌⊎◌, List, Option, Some, None, is_some, Result, Ok, Err, length, sym, refl, ap, ◌∙◌, subst, ap₂, inl, le-ltb, lt-ltb, ne_eqb, le-leb}
use borrow.Author.Tests.{lt-leb}
use mathlib.Core.Bool.{false, false≢true}
use Rattle.hexadecimal.specs.Text.{line_of}
use Rattle.frame_kinds.specs.declared.Frame.{Frame}
use Rattle.frame_kinds.specs.Frames.{reading_of}
use Rattle.frame_reader.specs.Frames.{said_by}
use Rattle.frame_writer.specs.Frames.{refusal_bytes}
use Rattle.planner.specs.declared.Roster.{Roster}
use Rattle.refusals.specs.declared.Refusal.{Refusal}
use Rattle.refusals.specs.Numbers.{refusal_number, number_of}
use Rattle.refusals.proofs.Results.{number_rule}
use Rattle.filing.specs.Plans.{put_on}
use Rattle.filing.proofs.Results.{files}
use Rattle.slack_calls.proofs.Results.{slack_calls}
use Rattle.calls.specs.declared.LineAnswer.{LineAnswer}
use Rattle.desk.specs.declared.Desk.{Desk}
use Rattle.calls.proofs.Asking.{as_malformed}
use Rattle.calls.proofs.Standing.{Stands, after_line}
use Rattle.calls.specs.Lines.{Asked, malformed, change, plan, slack, asked_as, asked, LineReply, count_in, answered_on, malformed_number, reply_as, line_reply}
use Rattle.sheets.specs.Sheets.{longest_frame}
use Rattle.desk.specs.Pages.{settled, desk_line, filled_on, fill_too_long}

-- ---- A sheet too long

module _ (desk : Desk) (size : ℕ) (page : List ℕ) where
  pub too_long_past : size ≤ desk.at → filled_on record { desk = desk; end = 0 } page ≡ fill_too_long desk size page
  unfolding fill_too_long
  too_long_past h = rw (le-ltb desk.at size h, fill_too_long)

  pub too_long_small : desk.at < size → length page < longest_frame → filled_on record { desk = desk; end = 0 } page ≡ fill_too_long desk size page
  unfolding fill_too_long
  too_long_small h s = rw (lt-ltb desk.at size h, lt-leb longest_frame (length page) s, fill_too_long)

  pub too_long_put : desk.at < size → longest_frame ≤ length page → (number : ℕ) → number ≡ 5
      → (count : ℕ) (exit : List ℕ) → count ≡ (put_on page 0 (line_of (refusal_bytes 0 number))).count
      → exit ≡ (put_on page 0 (line_of (refusal_bytes 0 number))).page
      → filled_on record { desk = record { roster = desk.roster; at = size; line = desk.line }; end = count } exit ≡ fill_too_long desk size page
  unfolding fill_too_long
  too_long_put h s number n count exit e f =
      rw (lt-ltb desk.at size h, le-leb longest_frame (length page) s, fill_too_long)
      (ap₂ (λ (k : ℕ) (q : List ℕ). record { desk = record { roster = desk.roster; at = size; line = desk.line }; page = q; end = k }) e f
      ∙ ap (λ (k : ℕ). record {
        desk = record { roster = desk.roster; at = size; line = desk.line };
        page = (put_on page 0 (line_of (refusal_bytes 0 k))).page;
        end = (put_on page 0 (line_of (refusal_bytes 0 k))).count;
      }) n)

-- ---- One line

module _ (number place : ℕ) (page : List ℕ) where
  abbrev reply : Result ℕ Refusal → Roster → LineReply
  reply answer r = record { number = number_of answer; roster = r; page = page; count = count_in answer }

  pub settled_accepted : (answer : Result ℕ Refusal) (count : ℕ) → answer ≡ Ok count → (r : Roster)
      → record { roster = r; page = page; end = place + count } ≡ settled number place (reply answer r)
  settled_accepted answer count a r =
      ap (λ (n : ℕ). settled number place record { number = n; roster = r; page = page; count = count }) (sym (number_rule.accepted count))
      ∙ ap (λ (q : Result ℕ Refusal). settled number place (reply q r)) (sym a)

  refused_as : (n : ℕ) → (n ≡ 0 → ⊥) → (r : Roster)
      → record {
        roster = r;
        page = (put_on page place (line_of (refusal_bytes number n))).page;
        end = place + (put_on page place (line_of (refusal_bytes number n))).count;
      }
      ≡ settled number place record { number = n; roster = r; page = page; count = 0 }
  refused_as n h r = rw (ne_eqb n 0 h, settled)

  pub settled_refused : (answer : Result ℕ Refusal) (refusal : Refusal) → answer ≡ Err refusal → (written : ℕ) (exit : List ℕ)
      → written ≡ (put_on page place (line_of (refusal_bytes number (refusal_number refusal)))).count
      → exit ≡ (put_on page place (line_of (refusal_bytes number (refusal_number refusal)))).page
      → (r : Roster) → record { roster = r; page = exit; end = place + written } ≡ settled number place (reply answer r)
  settled_refused answer refusal a written exit n p r =
      ap₂ (λ (k : ℕ) (q : List ℕ). record { roster = r; page = q; end = place + k }) n p
      ∙ refused_as (refusal_number refusal) (number_rule.never_0 refusal) r
      ∙ ap (λ (k : ℕ). settled number place record { number = k; roster = r; page = page; count = 0 }) (sym (number_rule.refused ℕ refusal))
      ∙ ap (λ (q : Result ℕ Refusal). settled number place (reply q r)) (sym a)

-- What a line's call writes ends on the page.
pub reply_fits : (r : Roster) (ask : Asked) (page : List ℕ) (place : ℕ)
    → ((reply_as r ask page place).count ≡ 0) ⊎ (place + (reply_as r ask page place).count ≤ length page)
unfolding reply_as
reply_fits r malformed page place = inl refl
reply_fits r (change call) page place = inl refl
reply_fits r plan page place = (files.reply_rule r page place).fits
reply_fits r slack page place = (slack_calls.reply_rule r page place).fits

none_asked : (frame : Option Frame) → is_some frame ≡ false → asked_as frame ≡ malformed
unfolding asked_as
none_asked None e = refl
none_asked (Some frame) e = absurd (false≢true (sym e))

-- A line as it was read.
module _ (text : List ℕ) (frame : Option Frame) (read : frame ≡ reading_of (said_by text)) (r : Roster) (page : List ℕ) (place : ℕ) where
  asked_as_read : asked_as frame ≡ asked text
  unfolding asked
  asked_as_read = ap asked_as read

  -- A malformed line: the roster stays, and its refusal is the answer.
  pub replied_malformed : is_some frame ≡ false → (refusal : Refusal) → refusal_number refusal ≡ malformed_number r
      → answered_on record { answer = Err refusal; roster = r } page ≡ line_reply r text page place
  unfolding line_reply
  replied_malformed e refusal n = as_malformed r (asked text) page place refusal n (sym asked_as_read ∙ none_asked frame e)

  -- Any other: what its call replies.
  pub replied_called : (made : LineAnswer) (exit : List ℕ) → answered_on made exit ≡ reply_as r (asked_as frame) page place
      → answered_on made exit ≡ line_reply r text page place
  unfolding line_reply
  replied_called made exit e = e ∙ ap (λ (a : Asked). reply_as r a page place) asked_as_read

-- What comes of the answer to a line.
module _ (r : Roster) (text page : List ℕ) (place : ℕ) (made : LineAnswer) (exit : List ℕ) (same : answered_on made exit ≡ line_reply r text page place) where
  pub made_fits : length exit ≡ length page → (count_in made.answer ≡ 0) ⊎ (place + count_in made.answer ≤ length exit)
  unfolding line_reply
  made_fits size =
      subst (λ (n : ℕ). (count_in made.answer ≡ 0) ⊎ (place + count_in made.answer ≤ n)) (sym size)
      (subst (λ (q : LineReply). (q.count ≡ 0) ⊎ (place + q.count ≤ length page)) (sym same) (reply_fits r (asked text) page place))

  pub made_stands : Stands r → Stands made.roster × (malformed_number made.roster ≡ malformed_number r)
  unfolding line_reply
  made_stands so =
      subst (λ (q : LineReply). Stands q.roster × (malformed_number q.roster ≡ malformed_number r)) (sym same) (after_line r so (asked text) page place)

  pub lined_made : (line end : ℕ) (exit' : List ℕ)
      → record { roster = made.roster; page = exit'; end = end } ≡ settled line place (answered_on made exit)
      → record { roster = made.roster; page = exit'; end = end } ≡ desk_line r line text page place
  unfolding desk_line
  lined_made line end exit' e = e ∙ ap (settled line place) same
