-- What is filled of a page lies in it, and the desk moves on.
use Rattle.std.proofs.Common.{ℕ, List, ◌≡◌, ◌<◌, ◌≤◌, length, arith, ap, sym}
use lib.Seq.{length-take-le}
use Rattle.desk.specs.declared.Desk.{Desk}
use Rattle.desk.specs.Pages.{Filling, fill_page}
use Rattle.desk.proofs.Results.{desks}
use Rattle.studio_desk.proofs.answer.Goals as goal

-- A filling that is the definition's ends within its page, which is as long as before.
ends : (desk : Desk) (sheet page : List ℕ) (f : Filling) → f ≡ fill_page desk sheet page → (n : ℕ) → n ≡ length page → f.end ≤ n
ends desk sheet page f same n long = omega (arith, ap (λ (q : Filling). q.end) same, (desks.page_rule desk sheet page).within, long)

-- On a page of 65,536 bytes it leaves less of the sheet.
moves : (desk : Desk) (sheet page : List ℕ) (f : Filling) → f ≡ fill_page desk sheet page → length page ≡ 65536 → desk.at < length sheet → desk.at < f.desk.at
moves desk sheet page f same long more =
    omega (arith, (desks.page_rule desk sheet page).further (omega (arith, long)) more, ap (λ (q : Filling). q.desk.at) same)

pub slice_bounds-page-end : goal.slice_bounds-page-end
slice_bounds-page-end g c = ends _ _ _ _ c.fill-filled.ensures _ c.fill-filled.auto.page

pub slice_bounds-write_all-end : goal.slice_bounds-write_all-end
slice_bounds-write_all-end g c = sym (length-take-le _ _ (ends _ _ _ _ c.fill-filled.ensures _ c.fill-filled.auto.page))

pub loop-desk-smaller : goal.loop-desk-smaller
loop-desk-smaller g c = omega (arith, moves _ _ _ _ c.fill-filled.ensures c.loop-desk.invariant c.loop-desk-test.true, c.loop-desk-test.true)
