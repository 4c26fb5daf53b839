-- The loop that fills a page: what comes of the lines that are left is what comes of all of them.
use Rattle.std.proofs.Common.{◌≡◌, ℕ, ◌+◌, ◌-◌, ◌%◌, ◌<◌, ◌≤◌, Bool, true, false, eqb, ◌⊎◌, List, [], ◌∷◌, length, take, drop, sym, refl, ap, ◌∙◌, subst, ap₂, ⊎_elim, arith, le-leb}
use native.Mathlib.Decide.{dec_le, dec_lt}
use borrow.Author.Tests.{lt-leb}
use Rattle.hexadecimal.specs.Text.{line_of}
use Rattle.frame_reader.specs.Lines.{lines_of, line_end}
use Rattle.frame_reader.proofs.Lines.{next_within, line_size}
use Rattle.frame_reader.proofs.Results.{reads}
use Rattle.frame_writer.specs.Frames.{refusal_bytes}
use Rattle.planner.specs.declared.Roster.{Roster}
use Rattle.filing.proofs.Written.{put_rule}
use Rattle.filing.proofs.Results.{files}
use Rattle.slack_calls.proofs.Results.{slack_calls}
use Rattle.desk.specs.declared.Desk.{Desk}
use Rattle.calls.specs.Lines.{Asked, malformed, change, plan, slack, asked, LineReply, reply_as, line_reply}
use Rattle.sheets.specs.Sheets.{longest_frame}
use Rattle.desk.specs.Pages.{next_line, Lined, settled, desk_line, Filling, filled_on, fill_lines, fill_too_long, fill_page}
use Rattle.desk.specs.Claims.{PageRule}
use Rattle.desk.proofs.Filling.{reply_fits, too_long_past, too_long_small, too_long_put}

-- ---- A line keeps to its page

reply_length : (r : Roster) (ask : Asked) (page : List ℕ) (place : ℕ) → length (reply_as r ask page place).page ≡ length page
unfolding reply_as
reply_length r malformed page place = refl
reply_length r (change call) page place = refl
reply_length r plan page place = (files.reply_rule r page place).same_length
reply_length r slack page place = (slack_calls.reply_rule r page place).same_length

-- Written or not, within the page.
within : (place count size total : ℕ) → size ≡ total → place ≤ total → (count ≡ 0) ⊎ (place + count ≤ size) → place + count ≤ total
within place count size total e h w = ⊎_elim (λ z. omega arith) (λ f. omega arith) w

module _ (number place : ℕ) (reply : LineReply) (page : List ℕ) (size : length reply.page ≡ length page) where
  settled_fits : place ≤ length page → (reply.count ≡ 0) ⊎ (place + reply.count ≤ length page) → (settled number place reply).end ≤ length page
  settled_fits h w = go (eqb reply.number 0) refl
    where
      go : (b : Bool) → eqb reply.number 0 ≡ b → (settled number place reply).end ≤ length page
      go true e = rw (e, settled) (within place reply.count (length page) (length page) refl h w)
      go false e =
          rw (e, settled)
          (within place _ (length reply.page) (length page) size h (put_rule reply.page place (line_of (refusal_bytes number reply.number))).fits)

  settled_length : length (settled number place reply).page ≡ length page
  settled_length = go (eqb reply.number 0) refl
    where
      go : (b : Bool) → eqb reply.number 0 ≡ b → length (settled number place reply).page ≡ length page
      go true e = rw (e, settled, length) size
      go false e = rw (e, settled, length) ((put_rule reply.page place (line_of (refusal_bytes number reply.number))).same_length ∙ size)

module _ (r : Roster) (number : ℕ) (line page : List ℕ) (place : ℕ) where
  pub lined_fits : place ≤ length page → (desk_line r number line page place).end ≤ length page
  unfolding desk_line line_reply
  lined_fits h = settled_fits number place (reply_as r (asked line) page place) page (reply_length r (asked line) page place) h (reply_fits r (asked line) page place)

  pub lined_length : length (desk_line r number line page place).page ≡ length page
  unfolding desk_line line_reply
  lined_length = settled_length number place (reply_as r (asked line) page place) page (reply_length r (asked line) page place)

-- ---- One line more, or no room for it

module _ (desk : Desk) (line : List ℕ) (lines : List (List ℕ)) (page : List ℕ) (end : ℕ) where
  abbrev lined : Lined
  lined = desk_line desk.roster desk.line line page end

  abbrev after : Desk
  after = record { roster = lined.roster; at = desk.at + length line; line = next_line desk.line }

  pub fill_line : end + longest_frame ≤ length page → fill_lines desk (line ∷ lines) page end ≡ fill_lines after lines lined.page lined.end
  unfolding fill_lines
  fill_line h = rw (le-leb (end + longest_frame) (length page) h, fill_lines)

  pub fill_stop : length page < end + longest_frame → fill_lines desk (line ∷ lines) page end ≡ record { desk = desk; page = page; end = end }
  unfolding fill_lines
  fill_stop h = rw (lt-leb (end + longest_frame) (length page) h, fill_lines)

-- What holds of a page that is filled from some place on.
pub record Keeps (desk : Desk) (page : List ℕ) (filling : Filling) : Type 0 where
  pub within : filling.end ≤ length page
  pub same_length : length filling.page ≡ length page
  pub forward : desk.at ≤ filling.desk.at

pub lines_keep : (desk : Desk) (lines : List (List ℕ)) (page : List ℕ) (end : ℕ) → end ≤ length page → Keeps desk page (fill_lines desk lines page end)
lines_keep desk [] page end h = unfold fill_lines in record { within = h; same_length = refl; forward = omega arith }
lines_keep desk (line ∷ lines) page end h =
    go (dec_le (end + longest_frame) (length page)) (lines_keep (after desk line lines page end) lines (lined desk line lines page end).page (lined desk line lines page end).end)
  where
    go : Dec (end + longest_frame ≤ length page)
        → ((lined desk line lines page end).end ≤ length (lined desk line lines page end).page
        → Keeps (after desk line lines page end) (lined desk line lines page end).page
        (fill_lines (after desk line lines page end) lines (lined desk line lines page end).page (lined desk line lines page end).end))
        → Keeps desk page (fill_lines desk (line ∷ lines) page end)
    go (yes room) keeps =
        let size = lined_length desk.roster desk.line line page end in
        let fits = lined_fits desk.roster desk.line line page end h in
        let rest = keeps (omega arith) in
        subst (Keeps desk page) (sym (fill_line desk line lines page end room))
        record {
          within = omega (arith, rest.within);
          same_length = rest.same_length ∙ size;
          forward = omega (arith, rest.forward);
        }
    go (no none) keeps =
        subst (Keeps desk page) (sym (fill_stop desk line lines page end (omega arith)))
        record { within = h; same_length = refl; forward = omega arith }

-- ---- The loop

numbered : (line : ℕ) → next_line line ≡ (line + 1) % 4294967296
unfolding next_line
numbered line = refl

module _ (desk : Desk) (sheet page₀ : List ℕ) where
  pub record FillingOn (page : List ℕ) (roster : Roster) (at line end : ℕ) : Type 0 where
    pub same : fill_lines desk (lines_of (drop desk.at sheet)) page₀ 0
        ≡ fill_lines record { roster = roster; at = at; line = line } (lines_of (drop at sheet)) page end
    pub room : end ≤ length page
    pub size : length page ≡ length page₀

  pub fill_begin : FillingOn page₀ desk.roster desk.at desk.line 0
  fill_begin = record { same = refl; room = omega arith; size = refl }

  module _ (page : List ℕ) (roster : Roster) (at line end : ℕ) (so_far : FillingOn page roster at line end) where
    pub fill_ended : length sheet ≤ at
        → filled_on record { desk = record { roster = roster; at = at; line = line }; end = end } page
        ≡ fill_lines desk (lines_of (drop desk.at sheet)) page₀ 0
    unfolding fill_lines
    fill_ended h =
        sym (so_far.same ∙ ap (λ ls. fill_lines record { roster = roster; at = at; line = line } ls page end) ((reads.line_rule sheet).none at h).0)

    module _ (inside : at < length sheet) where
      abbrev next : ℕ
      next = line_end sheet at

      abbrev first : List ℕ
      first = take (line_end sheet at - at) (drop at sheet)

      split : lines_of (drop at sheet) ≡ first ∷ lines_of (drop next sheet)
      split = (reads.line_rule sheet).next at inside

      pub fill_full : length page - end < longest_frame
          → filled_on record { desk = record { roster = roster; at = at; line = line }; end = end } page
          ≡ fill_lines desk (lines_of (drop desk.at sheet)) page₀ 0
      unfolding fill_lines
      fill_full h =
          sym (
          so_far.same
          ∙ ap (λ ls. fill_lines record { roster = roster; at = at; line = line } ls page end) split
          ∙ rw (lt-leb (end + longest_frame) (length page) (omega (arith, so_far.room)), fill_lines)
          )

      pub fill_more : longest_frame ≤ length page - end → (next' : ℕ) (roster' : Roster) (end' : ℕ) (page' : List ℕ) → next' ≡ next
          → record { roster = roster'; page = page'; end = end' } ≡ desk_line roster line (take (next' - at) (drop at sheet)) page end
          → length page' ≡ length page
          → FillingOn page' roster' next' ((line + 1) % 4294967296) end'
      fill_more h next' roster' end' page' n e p =
          let lined : record { roster = roster'; page = page'; end = end' } ≡ desk_line roster line first page end = e ∙ ap (λ (k : ℕ). desk_line roster line (take (k - at) (drop at sheet)) page end) n in
          record {
            same =
                so_far.same
                ∙ ap (λ ls. fill_lines record { roster = roster; at = at; line = line } ls page end) split
                ∙ fill_line record { roster = roster; at = at; line = line } first (lines_of (drop next sheet)) page end (omega (arith, so_far.room))
                ∙ ap (λ (q : Lined). fill_lines record { roster = q.roster; at = at + length first; line = next_line line } (lines_of (drop next sheet)) q.page q.end) (sym lined)
                ∙ ap₂ (λ (a k : ℕ). fill_lines record { roster = roster'; at = a; line = k } (lines_of (drop next sheet)) page' end') (line_size sheet at inside ∙ sym n) (numbered line)
                ∙ ap (λ (k : ℕ). fill_lines record { roster = roster'; at = next'; line = (line + 1) % 4294967296 } (lines_of (drop k sheet)) page' end') (sym n);
            room =
                let fits = lined_fits roster line first page end so_far.room in
                omega (arith, ap (λ (q : Lined). q.end) lined);
            size = p ∙ so_far.size;
          }

-- ---- A sheet of either length

too_long_keeps : (desk : Desk) (size : ℕ) (page : List ℕ) → Keeps desk page (fill_too_long desk size page)
too_long_keeps desk size page = go (dec_lt desk.at size) (dec_le longest_frame (length page))
  where
    go : Dec (desk.at < size) → Dec (longest_frame ≤ length page) → Keeps desk page (fill_too_long desk size page)
    go (no past) room =
        subst (Keeps desk page) (too_long_past desk size page (omega arith)) record { within = omega arith; same_length = refl; forward = omega arith }
    go (yes inside) (no small) =
        subst (Keeps desk page) (too_long_small desk size page inside (omega arith))
        record { within = omega arith; same_length = refl; forward = omega arith }
    go (yes inside) (yes room) =
        subst (Keeps desk page) (too_long_put desk size page inside room 5 refl _ _ refl refl)
        record {
          within = ⊎_elim (λ z. omega arith) (λ f. omega arith) (put_rule page 0 (line_of (refusal_bytes 0 5))).fits;
          same_length = (put_rule page 0 (line_of (refusal_bytes 0 5))).same_length;
          forward = omega arith;
        }

too_long_further : (desk : Desk) (size : ℕ) (page : List ℕ) → desk.at < size → longest_frame ≤ length page → {filling : Filling} → filling ≡ fill_too_long desk size page
    → desk.at < filling.desk.at
too_long_further desk size page inside room e =
    let at_end = too_long_put desk size page inside room 5 refl _ _ refl refl in
    omega (arith, ap (λ (f : Filling). f.desk.at) (e ∙ sym at_end))

module _ (desk : Desk) (sheet page : List ℕ) where
  pub page_allowed : length sheet ≤ 65536 → fill_page desk sheet page ≡ fill_lines desk (lines_of (drop desk.at sheet)) page 0
  unfolding fill_page
  page_allowed h = rw (le-leb (length sheet) 65536 h, fill_page)

  pub page_too_long : 65536 < length sheet → fill_page desk sheet page ≡ fill_too_long desk (length sheet) page
  unfolding fill_page
  page_too_long h = rw (lt-leb (length sheet) 65536 h, fill_page)

  keeps : Keeps desk page (fill_page desk sheet page)
  keeps = go (dec_le (length sheet) 65536)
    where
      go : Dec (length sheet ≤ 65536) → Keeps desk page (fill_page desk sheet page)
      go (yes h) = subst (Keeps desk page) (sym (page_allowed h)) (lines_keep desk (lines_of (drop desk.at sheet)) page 0 (omega arith))
      go (no h) = subst (Keeps desk page) (sym (page_too_long (omega arith))) (too_long_keeps desk (length sheet) page)

  further : longest_frame ≤ length page → desk.at < length sheet → desk.at < (fill_page desk sheet page).desk.at
  further room inside = go (dec_le (length sheet) 65536)
    where
      go : Dec (length sheet ≤ 65536) → desk.at < (fill_page desk sheet page).desk.at
      go (yes h) =
          let first = take (line_end sheet desk.at - desk.at) (drop desk.at sheet) in
          let rest = lines_of (drop (line_end sheet desk.at) sheet) in
          let same : fill_page desk sheet page ≡ fill_lines (after desk first rest page 0) rest (lined desk first rest page 0).page (lined desk first rest page 0).end
          = page_allowed h
          ∙ ap (λ ls. fill_lines desk ls page 0) ((reads.line_rule sheet).next desk.at inside)
          ∙ fill_line desk first rest page 0 (omega arith) in
          let on = (lines_keep (after desk first rest page 0) rest (lined desk first rest page 0).page (lined desk first rest page 0).end
          (omega (arith, lined_fits desk.roster desk.line first page 0 (omega arith), lined_length desk.roster desk.line first page 0))).forward in
          omega (arith, line_size sheet desk.at inside, (next_within sheet desk.at inside (line_end sheet desk.at) refl).0, ap (λ (f : Filling). f.desk.at) same)
      go (no h) = too_long_further desk (length sheet) page inside room (page_too_long (omega arith))

  pub page_rule : PageRule desk sheet page
  page_rule = record { within = keeps.within; same_length = keeps.same_length; further = further }
