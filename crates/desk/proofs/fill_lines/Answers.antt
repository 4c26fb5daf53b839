-- `desk::fill_lines` meets its contract.
use Rattle.std.proofs.Common.{◌≡◌, ℕ, ◌-◌, ◌<◌, ◌≤◌, List, length, take, drop, sym, ◌∙◌, arith, rules}
use Rattle.frame_reader.proofs.Lines.{next_within}
use Rattle.calls.specs.declared.LineAnswer.{LineAnswer}
use Rattle.calls.specs.Lines.{answered_on, line_reply}
use Rattle.calls.proofs.Standing.{stands}
use Rattle.desk.proofs.Filling.{replied_malformed, replied_called, made_fits, made_stands, lined_made}
use Rattle.desk.proofs.Pages.{fill_begin, fill_ended, fill_full, fill_more}
use Rattle.desk.proofs.fill_lines.Goals.{After-line_end-next, Joined-is_some, then-is_some, else-is_some}
use Rattle.desk.proofs.fill_lines.Goals as goal

-- The next line is within the sheet.
further : (c : After-line_end-next)
    → (c.loop-at.at < c.line_end-next.result) × (c.line_end-next.result ≤ length c.args.sheet.now)
further c = next_within _ _ c.loop-at-test.true _ c.line_end-next.ensures

-- What the answer and the page say once the line was read.
abbrev made : Joined-is_some → LineAnswer
made j = record { answer = j.if-is_some.answer; roster = j.if-is_some.roster }

abbrev text : Joined-is_some → List ℕ
text j = take (j.line_end-next.result - j.loop-at.at) (drop j.loop-at.at j.args.sheet.now)

replied : (j : Joined-is_some) → answered_on (made j) j.if-is_some.page ≡ line_reply j.loop-at.roster (text j) j.loop-at.page j.loop-at.end
replied j =
    let read = j.read_line-frame.ensures.0 in
    elim j.if-is_some.branch [
      | then-is_some w ↦
          rw (w.answer-is, w.roster-is, w.page-is)
          (replied_called (text j) _ read j.loop-at.roster j.loop-at.page j.loop-at.end w.call_frame-made.result _ w.call_frame-made.ensures)
      | else-is_some w ↦
          rw (w.answer-is, w.roster-is, w.page-is)
          (replied_malformed (text j) _ read j.loop-at.roster j.loop-at.page j.loop-at.end (sym j.is_some.ensures ∙ w.if-is_some.false) _ j.loop-at.invariant.2)
    ]

pub loop-at-init : goal.loop-at-init
loop-at-init c = (
  fill_begin c.args.desk c.args.sheet.now c.args.page.now,
  stands c.args.desk.roster (search rules) (search rules),
  c.malformed-refusal.ensures,
)

pub returns-then-page-end-lt-LONGEST_FRAME : goal.returns-then-page-end-lt-LONGEST_FRAME
returns-then-page-end-lt-LONGEST_FRAME c =
    fill_full c.args.desk c.args.sheet.now c.args.page.now c.loop-at.page c.loop-at.roster c.loop-at.at c.loop-at.line c.loop-at.end
    c.loop-at.invariant.0 c.loop-at-test.true c.if-page-end-lt-LONGEST_FRAME.true

pub slice_bounds-read_line-count : goal.slice_bounds-read_line-count
slice_bounds-read_line-count c = omega (arith, (further c).0)

pub slice_bounds-read_line-start : goal.slice_bounds-read_line-start
slice_bounds-read_line-start c = omega (arith, (further c).0)

pub slice_bounds-read_line-end : goal.slice_bounds-read_line-end
slice_bounds-read_line-end c = omega (arith, (further c).1)

pub settle-end-requires : goal.settle-end-requires
settle-end-requires c =
    let j = (goal.at.settle-end-requires c).Joined-is_some in
    made_fits j.loop-at.roster (text j) j.loop-at.page j.loop-at.end (made j) j.if-is_some.page (replied j) j.if-is_some.auto.page

pub loop-at-smaller : goal.loop-at-smaller
loop-at-smaller c =
    let e = (goal.at.loop-at-smaller c).After-line_end-next in
    omega (arith, (further e).0, (further e).1)

pub loop-at-preserved : goal.loop-at-preserved
loop-at-preserved c =
    let j = (goal.at.loop-at-preserved c).Joined-is_some in
    let same = replied j in
    let next = made_stands j.loop-at.roster (text j) j.loop-at.page j.loop-at.end (made j) j.if-is_some.page same c.loop-at.invariant.1 in (
      fill_more c.args.desk c.args.sheet.now c.args.page.now c.loop-at.page c.loop-at.roster c.loop-at.at c.loop-at.line c.loop-at.end
          c.loop-at.invariant.0 c.loop-at-test.true c.if-page-end-lt-LONGEST_FRAME.false _ c.if-is_some.roster _ _ c.line_end-next.ensures
          (lined_made j.loop-at.roster (text j) j.loop-at.page j.loop-at.end (made j) j.if-is_some.page same c.loop-at.line _ _ (c.settle-end.ensures c.if-is_some.roster))
          (c.settle-end.auto.page ∙ c.if-is_some.auto.page),
      next.0,
      c.loop-at.invariant.2 ∙ sym next.1,
    )

pub returns-after-loop-at : goal.returns-after-loop-at
returns-after-loop-at c =
    fill_ended c.args.desk c.args.sheet.now c.args.page.now c.loop-at.page c.loop-at.roster c.loop-at.at c.loop-at.line c.loop-at.end
    c.loop-at.invariant.0 c.loop-at-test.false
