-- The pages that the desk fills, joined, are what it writes for the sheet.
use Rattle.std.proofs.Common.{◌≡◌, ℕ, suc, ◌+◌, ◌-◌, ◌%◌, ◌<◌, ◌≤◌, Bool, true, false, eqb, List, [], ◌∷◌, ◌++◌, map, length, take, drop, sym, refl, ap, ◌∙◌, subst, ap₂, append_assoc, append-nil, mod-eq_of_lt, add-one, arith, length-append, length-take-le, eq-eqb, ne_eqb, eqb-true, le-leb}
use native.Mathlib.Decide.{dec_le, dec_lt}
use borrow.Author.Tests.{lt-leb, eqb-false}
use lib.Seq.{take-append_seam}
use Rattle.hexadecimal.specs.Text.{line_of}
use Rattle.hexadecimal.proofs.Results.{hexadecimal}
use Rattle.frame_reader.specs.Lines.{longest_sheet, joined, lines_of, line_end}
use Rattle.frame_reader.proofs.Lines.{line_size}
use Rattle.frame_reader.proofs.Results.{reads}
use Rattle.frame_writer.specs.Frames.{refusal_bytes}
use Rattle.planner.specs.declared.Roster.{Roster}
use Rattle.planner.specs.Model.{Model, Closed, Opened}
use Rattle.planner.specs.Roster.{empty_roster, roster_of}
use Rattle.planner.specs.Claims.{Kept}
use Rattle.planner.proofs.Results.{planner}
use Rattle.filing.specs.Plans.{Filed, filed}
use Rattle.filing.specs.Claims.{frame_length}
use Rattle.filing.proofs.Written.{put_room}
use Rattle.filing.proofs.Results.{files}
use Rattle.slack_calls.specs.Slacks.{slack_filed}
use Rattle.slack_calls.specs.Claims.{slack_length}
use Rattle.slack_calls.proofs.Results.{slack_calls}
use Rattle.desk.specs.declared.Desk.{Desk}
use Rattle.calls.specs.Lines.{Asked, malformed, change, plan, slack, asked, LineReply, filed_as, reply_as, line_reply}
use Rattle.calls.specs.Calls.{Line, read_as, on_model, on_roster, replies, Empty, begun_model, begun_roster, model_replies, roster_replies}
use Rattle.sheets.specs.Sheets.{longest_frame, blank, desk_calls, written_on, output, outputs, desk_sheet}
use Rattle.desk.specs.Pages.{at_start, next_line, Lined, settled, desk_line, Filling, fill_lines, fill_page, pieces, desk_after}
use Rattle.desk.specs.Claims.{DeskRule}
use Rattle.desk.proofs.Blank.{on_line}
use Rattle.desk.proofs.Filling.{too_long_past, too_long_small, too_long_put}
use Rattle.calls.proofs.Following.{line_follows}
use Rattle.desk.proofs.Pages.{fill_line, fill_stop, lined_fits, lined_length, page_allowed, page_too_long}
use Rattle.calls.proofs.Demand.{demand_3}

-- ---- One line

-- A line put after the first bytes of a page.
take_put : (page : List ℕ) (place : ℕ) (line rest : List ℕ) (n : ℕ) → place ≤ length page → n ≡ length line
    → take (place + n) (take place page ++ (line ++ rest)) ≡ take place page ++ line
take_put page place line rest n h e =
    let size : place + n ≡ length (take place page ++ line) = omega (arith, length-append (take place page) line, length-take-le place page h) in
    ap₂ (λ (k : ℕ) (l : List ℕ). take k l) size (sym (append_assoc (take place page) line rest))
    ∙ take-append_seam (take place page ++ line) rest

-- What the desk writes for a line by the reply on a blank page.
abbrev line_output : ℕ → LineReply → List ℕ
line_output number reply = output number record { number = reply.number; page = reply.page; ticks = []; remainders = [] }

-- What is filled up to its end is what was, and the output.
abbrev Adds : List ℕ → ℕ → Lined → List ℕ → Type 0
Adds page place lined out = take lined.end lined.page ≡ take place page ++ out

module _ (number : ℕ) (page : List ℕ) (place : ℕ) (room : place + longest_frame ≤ length page) where
  fits : place ≤ length page
  fits = omega arith

  -- A refused line adds its 8E.
  adds_refused : (n c d : ℕ) (r : Roster) (p : List ℕ) → (n ≡ 0 → ⊥)
      → Adds page place (settled number place record { number = n; roster = r; page = page; count = c })
      (line_output number record { number = n; roster = r; page = p; count = d })
  unfolding output
  adds_refused n c d r p z =
      let l = refusal_bytes number n in
      let size : length (line_of l) ≡ 13 = omega (arith, hexadecimal.line_length l) in
      let put = put_room page place (line_of l) (omega arith) in
      rw (ne_eqb n 0 z, settled, output)
      (ap₂ (λ (k : ℕ) (q : List ℕ). take (place + k) q) (ap (λ (f : Filed). f.count) put) (ap (λ (f : Filed). f.page) put)
      ∙ take_put page place (line_of l) (drop (place + length (line_of l)) page) (length (line_of l)) fits refl)

  -- An accepted line that writes nothing adds nothing.
  adds_none : (n : ℕ) (r : Roster) → n ≡ 0
      → Adds page place (settled number place record { number = n; roster = r; page = page; count = 0 })
      (line_output number record { number = n; roster = r; page = blank; count = 0 })
  unfolding output written_on
  adds_none n r z =
      let same : place + 0 ≡ place = omega arith in
      rw (eq-eqb n 0 z, settled, output) (ap (λ (k : ℕ). take k page) same ∙ sym (append-nil (take place page)))

  -- A frame that is filed is added.
  adds_frame : (r : Roster) (line bytes : List ℕ) (n : ℕ) → line ≡ line_of bytes → n ≡ length line → n ≤ longest_frame
      → Adds page place (settled number place record { number = 0; roster = r; page = take place page ++ (line ++ drop (place + n) page); count = n })
      (line_output number record { number = 0; roster = r; page = take 0 blank ++ (line ++ drop (0 + n) blank); count = n })
  unfolding output
  adds_frame r line bytes n l e small =
      take_put page place line (drop (place + n) page) n fits e
      ∙ ap (λ (q : List ℕ). take place page ++ q)
      (l ∙ sym (ap (λ (q : List ℕ). written_on (q ++ drop (0 + n) blank)) l ∙ on_line bytes (0 + n) longest_frame))

  module _ (model : Model) (kept : Kept model) where
    abbrev r : Roster
    r = roster_of model

    adds_number : (n : ℕ) (next : Roster)
        → Adds page place (settled number place record { number = n; roster = next; page = page; count = 0 })
        (line_output number record { number = n; roster = next; page = blank; count = 0 })
    adds_number n next = go (eqb n 0) refl
      where
        go : (b : Bool) → eqb n 0 ≡ b
            → Adds page place (settled number place record { number = n; roster = next; page = page; count = 0 })
            (line_output number record { number = n; roster = next; page = blank; count = 0 })
        go true e = adds_none n next (eqb-true n 0 e)
        go false e = adds_refused n 0 0 next blank (eqb-false n 0 e)

    -- A call that files a frame, by what is filed on the page and on a blank one.
    abbrev FiledAdds : Filed → Filed → Type 0
    FiledAdds f g = Adds page place (settled number place (filed_as r f)) (line_output number (filed_as r g))

    adds_by : (f g f' g' : Filed) → f ≡ f' → g ≡ g' → FiledAdds f' g' → FiledAdds f g
    adds_by f g f' g' e e' adds = subst (λ (q : Filed). FiledAdds q g) (sym e) (subst (λ (q : Filed). FiledAdds f' q) (sym e') adds)

    adds_plan : (m : Model) → m ≡ model → FiledAdds (filed m page place) (filed m blank 0)
    adds_plan Closed e = adds_by _ _ _ _ (files.files_closed page place) (files.files_closed blank 0) (adds_number 11 r)
    adds_plan (Opened M table jobs) e =
        let open_kept = subst Kept (sym e) kept in
        let found = (files.file_rule (Opened M table jobs) open_kept).plan M table jobs refl in
        let p = found.2 in
        let small : frame_length M.processors ≤ longest_frame = omega (arith, open_kept.0.machine_range.processors) in
        adds_by _ _ _ _ (p.written page place (omega arith)) (p.written blank 0 (omega arith)) (adds_frame r _ _ _ p.frame (sym p.size) small)

    adds_slack : (m : Model) → m ≡ model → FiledAdds (slack_filed m page place) (slack_filed m blank 0)
    adds_slack Closed e = adds_by _ _ _ _ (slack_calls.slack_closed page place) (slack_calls.slack_closed blank 0) (adds_number 11 r)
    adds_slack (Opened M table jobs) e =
        let open_kept = subst Kept (sym e) kept in
        let found = (slack_calls.slack_rule (Opened M table jobs) open_kept).slack M table jobs refl in
        let p = found.2 in
        let small : slack_length M.processors ≤ longest_frame = omega (arith, open_kept.0.machine_range.processors) in
        adds_by _ _ _ _ (p.written page place (omega arith)) (p.written blank 0 (omega arith)) (adds_frame r _ _ _ p.frame (sym p.size) small)

    -- Every way to ask.
    adds_asked : (ask : Asked) → Adds page place (settled number place (reply_as r ask page place)) (line_output number (reply_as r ask blank 0))
    unfolding reply_as
    adds_asked malformed = adds_number _ r
    adds_asked (change call) = adds_number _ _
    adds_asked plan =
        let follows = (files.file_rule model kept).follows in
        adds_by _ _ _ _ (follows page place) (follows blank 0) (adds_plan model refl)
    adds_asked slack =
        let follows = (slack_calls.slack_rule model kept).follows in
        adds_by _ _ _ _ (follows page place) (follows blank 0) (adds_slack model refl)

    -- The roster after a line does not depend on the page.
    same_next : (ask : Asked) → (reply_as r ask page place).roster ≡ (reply_as r ask blank 0).roster
    unfolding reply_as
    same_next malformed = refl
    same_next (change call) = refl
    same_next plan = refl
    same_next slack = refl

    roster_by : (reply : LineReply) → (settled number place reply).roster ≡ reply.roster
    roster_by reply = go (eqb reply.number 0) refl
      where
        go : (b : Bool) → eqb reply.number 0 ≡ b → (settled number place reply).roster ≡ reply.roster
        go true e = rw (e, settled)
        go false e = rw (e, settled)

    pub line_adds : (line : List ℕ) → Adds page place (desk_line r number line page place) (line_output number (line_reply r line blank 0))
    unfolding desk_line line_reply
    line_adds line = adds_asked (asked line)

    pub line_next : (line : List ℕ) → (desk_line r number line page place).roster ≡ (line_reply r line blank 0).roster
    unfolding desk_line line_reply
    line_next line = roster_by (reply_as r (asked line) page place) ∙ same_next (asked line)

-- ---- The lines that are left

-- What the desk writes for some lines from a roster and a number on.
rest : Roster → ℕ → List (List ℕ) → List ℕ
rest r number [] = []
rest r number (line ∷ lines) = line_output number (line_reply r line blank 0) ++ rest (line_reply r line blank 0).roster (next_line number) lines

nothing_left : (r : Roster) (number : ℕ) (lines : List (List ℕ)) → lines ≡ [] → rest r number lines ≡ []
unfolding rest
nothing_left r number lines e = ap (rest r number) e

module _ (sheet : List ℕ) where
  -- After a line stand the lines from its end on.
  line_tail : (at : ℕ) (line : List ℕ) (lines : List (List ℕ)) → lines_of (drop at sheet) ≡ line ∷ lines → lines_of (drop (at + length line) sheet) ≡ lines
  line_tail at line lines e = go (dec_lt at (length sheet))
    where
      go : Dec (at < length sheet) → lines_of (drop (at + length line) sheet) ≡ lines
      go (yes inside) =
          let next = line_end sheet at in
          let split = (reads.line_rule sheet).next at inside in
          let first : take (next - at) (drop at sheet) ≡ line = cc in
          let others : lines_of (drop next sheet) ≡ lines = cc in
          let size : at + length line ≡ next = ap (λ (l : List ℕ). at + length l) (sym first) ∙ line_size sheet at inside in
          ap (λ (k : ℕ). lines_of (drop k sheet)) size ∙ others
      go (no past) =
          let none = ((reads.line_rule sheet).none at (omega arith)).0 in
          let z : ◌≡◌ {A = ℕ} 0 1 = cc in
          absurd (omega arith)

  -- A page that was filled, and what is still to come.
  record Joins (F : Filling) (before : List ℕ) (all : List ℕ) : Type 0 where
    model : Model
    kept : Kept model
    carried : F.desk.roster ≡ roster_of model
    same : take F.end F.page ++ rest F.desk.roster F.desk.line (lines_of (drop F.desk.at sheet)) ≡ before ++ all

  abbrev desk_at : Model → ℕ → ℕ → Desk
  desk_at model at number = record { roster = roster_of model; at = at; line = number }

  joins_stop : (model : Model) → Kept model → (at number : ℕ) (lines : List (List ℕ)) → lines_of (drop at sheet) ≡ lines → (page : List ℕ) (end : ℕ)
      → Joins record { desk = desk_at model at number; page = page; end = end } (take end page) (rest (roster_of model) number lines)
  joins_stop model kept at number lines e page end = record {
    model = model;
    kept = kept;
    carried = refl;
    same = ap (λ ls. take end page ++ rest (roster_of model) number ls) e;
  }

  module _ (model : Model) (kept : Kept model) (at number : ℕ) (line : List ℕ) (lines : List (List ℕ)) (page : List ℕ) (end : ℕ) (room : end + longest_frame ≤ length page) where
    abbrev desk : Desk
    desk = desk_at model at number

    abbrev lined : Lined
    lined = desk_line (roster_of model) number line page end

    abbrev next : Model
    next = (read_as model (asked line) blank 0).next

    next_kept : Kept next
    next_kept = (line_follows model kept (asked line) blank 0).kept

    next_carried : (line_reply (roster_of model) line blank 0).roster ≡ roster_of next
    unfolding line_reply
    next_carried = (line_follows model kept (asked line) blank 0).next

    joins_line : Joins (fill_lines (desk_at next (at + length line) (next_line number)) lines lined.page lined.end) (take lined.end lined.page)
        (rest (roster_of next) (next_line number) lines)
        → Joins (fill_lines desk (line ∷ lines) page end) (take end page) (rest (roster_of model) number (line ∷ lines))
    unfolding rest
    joins_line later =
        let F = fill_lines (desk_at next (at + length line) (next_line number)) lines lined.page lined.end in
        let out = line_output number (line_reply (roster_of model) line blank 0) in
        let moved : fill_lines desk (line ∷ lines) page end ≡ F
        = fill_line desk line lines page end room
        ∙ ap (λ (r : Roster). fill_lines record { roster = r; at = at + length line; line = next_line number } lines lined.page lined.end)
        (line_next number page end room model kept line ∙ next_carried) in
        subst (λ (G : Filling). Joins G (take end page) (out ++ rest (line_reply (roster_of model) line blank 0).roster (next_line number) lines)) (sym moved)
        record {
          model = later.model;
          kept = later.kept;
          carried = later.carried;
          same =
              later.same
              ∙ ap₂ (λ (a : List ℕ) (r : Roster). a ++ rest r (next_line number) lines) (line_adds number page end room model kept line) (sym next_carried)
              ∙ append_assoc (take end page) out (rest (line_reply (roster_of model) line blank 0).roster (next_line number) lines);
        }

  joins : (lines : List (List ℕ)) (model : Model) → Kept model → (at number : ℕ) → lines_of (drop at sheet) ≡ lines → (page : List ℕ) (end : ℕ) → end ≤ length page
      → Joins (fill_lines (desk_at model at number) lines page end) (take end page) (rest (roster_of model) number lines)
  joins [] model kept at number e page end h = unfold fill_lines in joins_stop model kept at number [] e page end
  joins (line ∷ lines) model kept at number e page end h =
      go (dec_le (end + longest_frame) (length page))
      (λ room. joins lines (next model kept at number line lines page end room) (next_kept model kept at number line lines page end room) (at + length line) (next_line number)
      (line_tail at line lines e) (desk_line (roster_of model) number line page end).page (desk_line (roster_of model) number line page end).end
      (omega (arith, lined_fits (roster_of model) number line page end h, lined_length (roster_of model) number line page end)))
    where
      go : Dec (end + longest_frame ≤ length page)
          → ((room : end + longest_frame ≤ length page)
          → Joins (fill_lines (desk_at (next model kept at number line lines page end room) (at + length line) (next_line number)) lines (lined model kept at number line lines page end room).page (lined model kept at number line lines page end room).end)
          (take (lined model kept at number line lines page end room).end (lined model kept at number line lines page end room).page)
          (rest (roster_of (next model kept at number line lines page end room)) (next_line number) lines))
          → Joins (fill_lines (desk_at model at number) (line ∷ lines) page end) (take end page) (rest (roster_of model) number (line ∷ lines))
      go (yes room) later = joins_line model kept at number line lines page end room (later room)
      go (no none) later =
          subst (λ (G : Filling). Joins G (take end page) (rest (roster_of model) number (line ∷ lines)))
          (sym (fill_stop (desk_at model at number) line lines page end (omega arith))) (joins_stop model kept at number (line ∷ lines) e page end)

  -- Page after page.
  abbrev left : Desk → List ℕ
  left desk = rest desk.roster desk.line (lines_of (drop desk.at sheet))

  module _ (allowed : length sheet ≤ 65536) where
    pages_join : (pages : List (List ℕ)) (model : Model) → Kept model → (at number : ℕ)
        → pieces (desk_at model at number) sheet pages ++ left (desk_after (desk_at model at number) sheet pages) ≡ left (desk_at model at number)
    unfolding pieces desk_after
    pages_join [] model kept at number = refl
    pages_join (page ∷ pages) model kept at number =
        let F = fill_page (desk_at model at number) sheet page in
        let one = subst (λ (G : Filling). Joins G (take 0 page) (left (desk_at model at number))) (sym (page_allowed (desk_at model at number) sheet page allowed))
        (joins (lines_of (drop at sheet)) model kept at number refl page 0 (omega arith)) in
        let others = pages_join pages one.model one.kept F.desk.at F.desk.line in
        let same : F.desk ≡ desk_at one.model F.desk.at F.desk.line
        = ap (λ (r : Roster). record { roster = r; at = F.desk.at; line = F.desk.line }) one.carried in
        append_assoc (take F.end F.page) (pieces F.desk sheet pages) (left (desk_after F.desk sheet pages))
        ∙ ap (λ (l : List ℕ). take F.end F.page ++ l)
        (ap (λ (d : Desk). pieces d sheet pages ++ left (desk_after d sheet pages)) same ∙ others ∙ ap left (sym same))
        ∙ one.same

-- ---- By the replies to the sheet's calls

next_is : (k : ℕ) → suc k < 4294967296 → next_line k ≡ suc k
unfolding next_line
next_is k h = ap (λ (n : ℕ). n % 4294967296) (add-one k) ∙ mod-eq_of_lt h

-- Fewer lines than numbers in four bytes.
by_replies : (lines : List (List ℕ)) (r : Roster) (k : ℕ) → k + length lines < 4294967296
    → rest r k lines ≡ outputs k (replies on_roster r (map (λ line. Line line blank 0) lines))
unfolding rest replies outputs on_roster
by_replies [] r k h = refl
by_replies (line ∷ lines) r k h =
    let reply = line_reply r line blank 0 in
    ap (λ (l : List ℕ). line_output k reply ++ l)
    (ap (λ (n : ℕ). rest reply.roster n lines) (next_is k (omega arith)) ∙ by_replies lines reply.roster (suc k) (omega arith))

joined_few : (byte : ℕ) (lines : List (List ℕ)) → length (joined byte lines) ≤ suc (length lines)
joined_few byte [] = unfold joined in omega arith
joined_few byte (line ∷ lines) = go (eqb byte 10) refl
  where
    go : (b : Bool) → eqb byte 10 ≡ b → length (joined byte (line ∷ lines)) ≤ suc (length (line ∷ lines))
    go true e = unfold joined in rw (e, joined) (omega arith)
    go false e = unfold joined in rw (e, joined) (omega arith)

lines_few : (sheet : List ℕ) → length (lines_of sheet) ≤ length sheet
unfolding lines_of
lines_few [] = omega arith
lines_few (byte ∷ sheet) = let fewer = lines_few sheet in omega (arith, joined_few byte (lines_of sheet))

-- ---- A sheet too long

module _ (sheet : List ℕ) (long : 65536 < length sheet) where
  abbrev refusal : List ℕ
  refusal = line_of (refusal_bytes 0 5)

  -- Past its end nothing more is written.
  nothing_more : (pages : List (List ℕ)) (desk : Desk) → length sheet ≤ desk.at → pieces desk sheet pages ≡ []
  unfolding pieces
  nothing_more [] _ h = refl
  nothing_more (page ∷ pages) desk h =
      let same = page_too_long desk sheet page long ∙ sym (too_long_past desk (length sheet) page h) in
      ap (λ (F : Filling). take F.end F.page ++ pieces F.desk sheet pages) same ∙ nothing_more pages desk h

  refused_once : (pages : List (List ℕ)) (desk : Desk) → desk.at < length sheet → length sheet ≤ (desk_after desk sheet pages).at → pieces desk sheet pages ≡ refusal
  unfolding pieces desk_after
  refused_once [] desk inside h = absurd (omega arith)
  refused_once (page ∷ pages) desk inside h = go (dec_le longest_frame (length page)) (refused_once pages desk inside)
    where
      go : Dec (longest_frame ≤ length page) → (length sheet ≤ (desk_after desk sheet pages).at → pieces desk sheet pages ≡ refusal)
          → pieces desk sheet (page ∷ pages) ≡ refusal
      go (yes room) later =
          let size : length refusal ≡ 13 = omega (arith, hexadecimal.line_length (refusal_bytes 0 5)) in
          let put = put_room page 0 refusal (omega arith) in
          let from-0 : length refusal ≡ 0 + length refusal = omega arith in
          let same = page_too_long desk sheet page long ∙ sym (too_long_put desk (length sheet) page inside room 5 refl _ _ refl refl) in
          ap (λ (F : Filling). take F.end F.page ++ pieces F.desk sheet pages) same
          ∙ ap₂ ◌++◌
          (ap₂ (λ (k : ℕ) (q : List ℕ). take k q) (ap (λ (f : Filed). f.count) put ∙ from-0) (ap (λ (f : Filed). f.page) put)
          ∙ take_put page 0 refusal (drop (0 + length refusal) page) (length refusal) (omega arith) refl)
          (nothing_more pages record { roster = desk.roster; at = length sheet; line = desk.line } (omega arith))
          ∙ append-nil refusal
      go (no small) later =
          let same = page_too_long desk sheet page long ∙ sym (too_long_small desk (length sheet) page inside (omega arith)) in
          ap (λ (F : Filling). take F.end F.page ++ pieces F.desk sheet pages) same
          ∙ later (subst (λ (F : Filling). length sheet ≤ (desk_after F.desk sheet pages).at) same h)

-- ---- All of it

module _ (sheet : List ℕ) where
  sheet_allowed : length sheet ≤ longest_sheet → desk_sheet sheet ≡ outputs 1 (replies on_model Closed (desk_calls sheet))
  unfolding desk_sheet
  sheet_allowed h = rw (le-leb (length sheet) longest_sheet h, desk_sheet)

  sheet_too_long : longest_sheet < length sheet → desk_sheet sheet ≡ line_of (refusal_bytes 0 5)
  unfolding desk_sheet
  sheet_too_long h = rw (lt-leb (length sheet) longest_sheet h, desk_sheet)

  by_calls : length sheet ≤ longest_sheet → desk_sheet sheet ≡ outputs 1 (replies on_roster empty_roster (desk_calls sheet))
  unfolding roster_replies model_replies begun_roster begun_model
  by_calls h = sheet_allowed h ∙ ap (outputs 1) (sym (demand_3 Empty (desk_calls sheet)).same_replies)

  start_is : at_start ≡ record { roster = roster_of Closed; at = 0; line = 1 }
  unfolding at_start
  start_is = ap (λ (r : Roster). record { roster = r; at = 0; line = 1 }) (sym planner.begins)

  module _ (pages : List (List ℕ)) (ended : length sheet ≤ (desk_after at_start sheet pages).at) where
    abbrev start : Desk
    start = record { roster = roster_of Closed; at = 0; line = 1 }

    joined_allowed : length sheet ≤ longest_sheet → pieces at_start sheet pages ≡ desk_sheet sheet
    unfolding desk_calls
    joined_allowed h =
        let after = desk_after start sheet pages in
        let past : length sheet ≤ after.at = subst (λ (d : Desk). length sheet ≤ (desk_after d sheet pages).at) start_is ended in
        let none = nothing_left after.roster after.line _ ((reads.line_rule sheet).none after.at past).0 in
        ap (λ (d : Desk). pieces d sheet pages) start_is
        ∙ sym (append-nil (pieces start sheet pages))
        ∙ ap (λ (l : List ℕ). pieces start sheet pages ++ l) (sym none)
        ∙ pages_join sheet h pages Closed tt 0 1
        ∙ by_replies (lines_of sheet) (roster_of Closed) 1 (omega (arith, lines_few sheet))
        ∙ ap (λ (r : Roster). outputs 1 (replies on_roster r (map (λ line. Line line blank 0) (lines_of sheet)))) planner.begins
        ∙ sym (by_calls h)

    joined_too_long : longest_sheet < length sheet → pieces at_start sheet pages ≡ desk_sheet sheet
    joined_too_long h =
        ap (λ (d : Desk). pieces d sheet pages) start_is
        ∙ refused_once sheet h pages start (omega arith) (subst (λ (d : Desk). length sheet ≤ (desk_after d sheet pages).at) start_is ended)
        ∙ sym (sheet_too_long h)

    joined_pages : pieces at_start sheet pages ≡ desk_sheet sheet
    joined_pages = go (dec_le (length sheet) longest_sheet)
      where
        go : Dec (length sheet ≤ longest_sheet) → pieces at_start sheet pages ≡ desk_sheet sheet
        go (yes h) = joined_allowed h
        go (no h) = joined_too_long (omega arith)

  pub desk_rule : DeskRule sheet
  desk_rule = record { by_calls = by_calls; too_long = sheet_too_long; joined = joined_pages }
