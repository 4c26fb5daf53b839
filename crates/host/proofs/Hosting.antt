-- The host's call, by its list of calls.
use Prim.Native.Nat.{ℕ, zero, suc, ◌+◌, ◌<◌, ◌≤◌}
use native.Mathlib.Decide.{dec_le}
use native.Mathlib.Omega.{arith}
use mathlib.Core.Path.{◌≡◌, refl, sym, ap, subst, ◌∙◌}
use mathlib.Core.Bool.{Bool, true, false}
use mathlib.Core.Logic.{◌↔◌}
use mathlib.Core.List.{List, [], ◌∷◌, ◌++◌, map}
use borrow.Author.Tests.{le-leb, lt-leb, eq-eqb, ne_eqb, eqb-true, eqb-false}
use lib.Dec.{eqb}
use lib.ListN.{length, get_or}
use Rattle.frame_reader.specs.Lines.{longest_sheet, lines_of}
use Rattle.line_writer.specs.Page.{Reply}
use Rattle.planner.specs.Model.{Model, Closed, Opened}
use Rattle.planner.specs.Claims.{Kept}
use Rattle.filing.specs.Plans.{Filed, filed}
use Rattle.filing.specs.Claims.{frame_length, FiledPlan}
use Rattle.filing.proofs.Results.{files}
use Rattle.calls.specs.Lines.{asked, wants_frame}
use Rattle.calls.specs.Calls.{Call, Plan, Line, Reply as CallReply, Done, on_model, replies, end}
use Rattle.host.specs.Host.{line_on_model, calls_from, host_calls, last_number, refused_from, end_number, refused_line, end_model, host_reply}
use Rattle.host.specs.Claims.{HostFiled, HostRule}
use Rattle.calls.proofs.Following.{list_kept}
use Rattle.host.proofs.Walking.{Walked, walked, calls_pass, calls_next, calls_stop, none_refused, refused_pass, refused_next, refused_stop, walked_pass, walked_next, walked_stop}

-- ---- Every call but the last is accepted

abbrev Accepted : List CallReply → Type 0
Accepted rs = (k : ℕ) → suc k < length rs → get_or (map (λ (reply : CallReply). reply.number) rs) k 0 ≡ 0

accepted_more : (reply : CallReply) (rest : List CallReply) → reply.number ≡ 0 → Accepted rest → Accepted (reply ∷ rest)
accepted_more reply rest e all zero h = e
accepted_more reply rest e all (suc k) h = all k (omega arith)

accepted_last : (reply : CallReply) → Accepted (reply ∷ [])
accepted_last reply k h = absurd (omega arith)

abbrev From : Model → List (List ℕ) → List CallReply
From model lines = replies on_model model (calls_from model lines)

module _ (model : Model) (line : List ℕ) (lines : List (List ℕ)) where
  abbrev book : Done Model
  book = line_on_model model line

  accepted_first : book.reply.number ≡ 0 → Accepted (From book.next lines)
      → Accepted (replies on_model model (Line line [] 0 ∷ calls_from book.next lines))
  unfolding replies line_on_model
  accepted_first = accepted_more book.reply (From book.next lines)

  accepted_only : Accepted (replies on_model model (Line line [] 0 ∷ []))
  unfolding replies line_on_model
  accepted_only = accepted_last book.reply

  accepted_turn : (b : Bool) → wants_frame (asked line) ≡ b → Accepted (From model lines) → Accepted (From (line_on_model model line).next lines)
      → Accepted (From model (line ∷ lines))
  accepted_turn true w passed next = subst (λ (cs : List Call). Accepted (replies on_model model cs)) (sym (calls_pass model 0 line lines w)) passed
  accepted_turn false w passed next = go (eqb book.reply.number 0) refl
    where
      go : (c : Bool) → eqb book.reply.number 0 ≡ c → Accepted (From model (line ∷ lines))
      go true e =
          let z = eqb-true book.reply.number 0 e in
          subst (λ (cs : List Call). Accepted (replies on_model model cs)) (sym (calls_next model 0 line lines w z))
          (accepted_first z next)
      go false e =
          subst (λ (cs : List Call). Accepted (replies on_model model cs)) (sym (calls_stop model 0 line lines w (eqb-false book.reply.number 0 e)))
          accepted_only

-- ---- A refused line has a number, and its refusal too

abbrev Same : Walked → Type 0
Same w = (w.line ≡ 0) ↔ (w.number ≡ 0)

module _ (model : Model) (number : ℕ) (line : List ℕ) (lines : List (List ℕ)) where
  same_turn : (b : Bool) → wants_frame (asked line) ≡ b → Same (walked model (suc (suc number)) lines)
      → Same (walked (line_on_model model line).next (suc (suc number)) lines) → Same (walked model (suc number) (line ∷ lines))
  same_turn true w passed next = subst Same (sym (walked_pass model (suc number) line lines w)) passed
  same_turn false w passed next = go (eqb (line_on_model model line).reply.number 0) refl
    where
      go : (c : Bool) → eqb (line_on_model model line).reply.number 0 ≡ c → Same (walked model (suc number) (line ∷ lines))
      go true e = subst Same (sym (walked_next model (suc number) line lines w (eqb-true (line_on_model model line).reply.number 0 e))) next
      go false e =
          let n = eqb-false (line_on_model model line).reply.number 0 e in
          subst Same (sym (walked_stop model (suc number) line lines w n)) ((λ z. absurd (omega arith)), λ z. absurd (n z))

accepted_from : (model : Model) (lines : List (List ℕ)) → Accepted (From model lines)
accepted_from model [] = unfold calls_from replies in λ k h. absurd (omega arith)
accepted_from model (line ∷ lines) =
    accepted_turn model line lines (wants_frame (asked line)) refl (accepted_from model lines) (accepted_from (line_on_model model line).next lines)

same_from : (model : Model) (number : ℕ) (lines : List (List ℕ)) → Same (walked model (suc number) lines)
same_from model number [] = unfold walked calls_from refused_from replies last_number in ((λ e. refl), λ e. refl)
same_from model number (line ∷ lines) =
    same_turn model number line lines (wants_frame (asked line)) refl (same_from model (suc number) lines)
    (same_from (line_on_model model line).next (suc number) lines)

-- ---- The last call is the refused line's

-- With the lines from the number after `number` on, the list ends with the call of the line that was refused.
abbrev EndsWith : Model → ℕ → List (List ℕ) → Type 0
EndsWith model number lines =
    (k : ℕ) → refused_from model (suc number) lines ≡ suc k
    → (i : ℕ) × (k ≡ number + i) × (before : List Call) × (calls_from model lines ≡ before ++ (Line (get_or lines i []) [] 0 ∷ []))

module _ (model : Model) (number : ℕ) (line : List ℕ) (lines : List (List ℕ)) where
  ends_turn : (b : Bool) → wants_frame (asked line) ≡ b → EndsWith model (suc number) lines → EndsWith (line_on_model model line).next (suc number) lines
      → EndsWith model number (line ∷ lines)
  ends_turn true w passed next k e =
      let (i, at, before, same) = passed k (sym (refused_pass model (suc number) line lines w) ∙ e) in
      (suc i, omega arith, before, calls_pass model 0 line lines w ∙ same)
  ends_turn false w passed next k e = go (eqb (line_on_model model line).reply.number 0) refl
    where
      go : (c : Bool) → eqb (line_on_model model line).reply.number 0 ≡ c
          → (i : ℕ) × (k ≡ number + i) × (before : List Call) × (calls_from model (line ∷ lines) ≡ before ++ (Line (get_or (line ∷ lines) i []) [] 0 ∷ []))
      go true z =
          let zero_is = eqb-true (line_on_model model line).reply.number 0 z in
          let (i, at, before, same) = next k (sym (refused_next model (suc number) line lines w zero_is) ∙ e) in
          (suc i, omega arith, Line line [] 0 ∷ before, calls_next model 0 line lines w zero_is ∙ ap (λ (cs : List Call). Line line [] 0 ∷ cs) same)
      go false z =
          let some = eqb-false (line_on_model model line).reply.number 0 z in
          let here = sym (refused_stop model (suc number) line lines w some) ∙ e in
          (0, omega arith, [], calls_stop model 0 line lines w some)

ends_from : (model : Model) (number : ℕ) (lines : List (List ℕ)) → EndsWith model number lines
ends_from model number [] = λ k e. absurd (none_refused model (suc number) k e)
ends_from model number (line ∷ lines) =
    ends_turn model number line lines (wants_frame (asked line)) refl (ends_from model (suc number) lines)
    (ends_from (line_on_model model line).next (suc number) lines)

-- ---- All of it

module _ (sheet : List ℕ) where
  abbrev numbers : List CallReply
  numbers = replies on_model Closed (host_calls sheet)

  pub number_allowed : length sheet ≤ longest_sheet → end_number sheet ≡ last_number numbers
  unfolding end_number
  number_allowed h = rw (le-leb (length sheet) longest_sheet h, end_number)

  model_allowed : length sheet ≤ longest_sheet → end_model sheet ≡ end on_model Closed (host_calls sheet)
  unfolding end_model
  model_allowed h = rw (le-leb (length sheet) longest_sheet h, end_model)

  pub line_allowed : length sheet ≤ longest_sheet → refused_line sheet ≡ refused_from Closed 1 (lines_of sheet)
  unfolding refused_line
  line_allowed h = rw (le-leb (length sheet) longest_sheet h, refused_line)

  number_too_long : longest_sheet < length sheet → end_number sheet ≡ 5
  unfolding end_number
  number_too_long h = rw (lt-leb (length sheet) longest_sheet h, end_number)

  model_kept : Kept (end_model sheet)
  model_kept = go (dec_le (length sheet) longest_sheet)
    where
      go : Dec (length sheet ≤ longest_sheet) → Kept (end_model sheet)
      go (yes h) = subst Kept (sym (model_allowed h)) (list_kept Closed (host_calls sheet) tt)
      go (no h) = unfold end_model in rw (lt-leb (length sheet) longest_sheet (omega arith), end_model) tt

  module _ (page : List ℕ) (place : ℕ) where
    refused_with : (number : ℕ) → end_number sheet ≡ number → (number ≡ 0 → ⊥) → host_reply sheet page place ≡ record { number = number; page = page }
    unfolding host_reply
    refused_with number e n =
        rw (ne_eqb (end_number sheet) 0 (λ z. n (sym e ∙ z)), host_reply) (ap (λ (k : ℕ). record { number = k; page = page }) e)

    planned_with : end_number sheet ≡ 0
        → host_reply sheet page place ≡ record { number = (filed (end_model sheet) page place).number; page = (filed (end_model sheet) page place).page }
    unfolding host_reply
    planned_with z = rw (eq-eqb (end_number sheet) 0 z, host_reply)

    lent : ((host_reply sheet page place).number ≡ 0 → ⊥) → (host_reply sheet page place).page ≡ page
    lent n = go (eqb (end_number sheet) 0) refl
      where
        go : (b : Bool) → eqb (end_number sheet) 0 ≡ b → (host_reply sheet page place).page ≡ page
        go true e =
            let by = planned_with (eqb-true (end_number sheet) 0 e) in
            let follows = (files.file_rule (end_model sheet) model_kept).follows page place in
            ap (λ (r : Reply). r.page) by
            ∙ ap (λ (f : Filed). f.page) (sym follows)
            ∙ (files.reply_rule _ page place).as_lent (λ z. n (ap (λ (r : Reply). r.number) by ∙ ap (λ (f : Filed). f.number) (sym follows) ∙ z))
        go false e = ap (λ (r : Reply). r.page) (refused_with (end_number sheet) refl (eqb-false (end_number sheet) 0 e))

    -- Success is a plan that was filed.
    filed_0 : (m : Model) → end_model sheet ≡ m → (filed m page place).number ≡ 0
        → (host_reply sheet page place).page ≡ (filed m page place).page → HostFiled sheet page place
    filed_0 Closed e z same =
        let eleven : (filed Closed page place).number ≡ 11 = ap (λ (f : Filed). f.number) (files.files_closed page place) in
        absurd (omega arith)
    filed_0 (Opened M table jobs) e z same = go (dec_le (place + frame_length M.processors) (length page))
      where
        found : (levels : List ℕ) × (raises : ℕ) × FiledPlan M table jobs levels raises
        found = (files.file_rule (Opened M table jobs) (subst Kept e model_kept)).plan M table jobs refl

        go : Dec (place + frame_length M.processors ≤ length page) → HostFiled sheet page place
        go (yes h) = record {
          machine = M;
          table = table;
          jobs = jobs;
          is_open = e;
          levels = found.0;
          raises = found.1;
          plan = found.2;
          room = h;
          written = same ∙ ap (λ (f : Filed). f.page) (found.2.written page place h);
        }
        go (no n) =
            let six : (filed (Opened M table jobs) page place).number ≡ 6 = ap (λ (f : Filed). f.number) (found.2.no_room page place n) in
            absurd (omega arith)

    succeeded : (host_reply sheet page place).number ≡ 0 → HostFiled sheet page place
    succeeded z = go (eqb (end_number sheet) 0) refl
      where
        go : (b : Bool) → eqb (end_number sheet) 0 ≡ b → HostFiled sheet page place
        go true e =
            let by = planned_with (eqb-true (end_number sheet) 0 e) in
            filed_0 (end_model sheet) refl (ap (λ (r : Reply). r.number) (sym by) ∙ z) (ap (λ (r : Reply). r.page) by)
        go false e =
            let n = eqb-false (end_number sheet) 0 e in
            absurd (n (ap (λ (r : Reply). r.number) (sym (refused_with (end_number sheet) refl n)) ∙ z))

    planned_after : length sheet ≤ longest_sheet → last_number numbers ≡ 0
        → host_reply sheet page place
        ≡ record {
          number = (on_model (end on_model Closed (host_calls sheet)) (Plan page place)).reply.number;
          page = (on_model (end on_model Closed (host_calls sheet)) (Plan page place)).reply.page;
        }
    unfolding on_model
    planned_after h z =
        planned_with (number_allowed h ∙ z)
        ∙ ap (λ (m : Model). record { number = (filed m page place).number; page = (filed m page place).page }) (model_allowed h)

  same_line : length sheet ≤ longest_sheet → (refused_line sheet ≡ 0) ↔ (end_number sheet ≡ 0)
  unfolding walked
  same_line h =
      let both = same_from Closed 0 (lines_of sheet) in
      let same : last_number (From Closed (lines_of sheet)) ≡ end_number sheet = unfold host_calls in sym (number_allowed h) in
      ((λ e. sym same ∙ both.0 (sym (line_allowed h) ∙ e)), λ e. line_allowed h ∙ both.1 (same ∙ e))

  ends_with : length sheet ≤ longest_sheet → (k : ℕ) → refused_line sheet ≡ suc k
      → (before : List Call) × (host_calls sheet ≡ before ++ (Line (get_or (lines_of sheet) k []) [] 0 ∷ []))
  unfolding host_calls
  ends_with h k e =
      let (i, at, before, same) = ends_from Closed 0 (lines_of sheet) k (sym (line_allowed h) ∙ e) in
      let here : i ≡ k = omega arith in
      (before, same ∙ ap (λ (n : ℕ). before ++ (Line (get_or (lines_of sheet) n []) [] 0 ∷ [])) here)

  pub host_rule : HostRule sheet
  host_rule = record {
    too_long = λ h page place. refused_with page place 5 (number_too_long h) (λ z. omega arith);
    accepted = unfold host_calls in accepted_from Closed (lines_of sheet);
    refuses = λ h n page place. refused_with page place (last_number numbers) (number_allowed h) n;
    plans = λ h z page place. planned_after page place h z;
    success = succeeded;
    as_lent = lent;
    refused_line_law = same_line;
    last_line = λ h k e. ends_with h k e;
    at_end = model_allowed;
    kept = model_kept;
  }
