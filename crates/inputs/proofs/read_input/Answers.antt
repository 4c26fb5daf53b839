-- What a read puts behind what stands in the room is read after it.
use Rattle.std.proofs.Common.{ℕ, List, ◌≡◌, ◌+◌, ◌≤◌, ◌++◌, length, take, rules, sym, ap, ◌∙◌, subst, le_refl, drop_at, length-take-le}
use Rattle.std.proofs.lemmas.List.{take-append-le}
use Rattle.std.proofs.lemmas.Slice.{take-put_mid_below}
use Rattle.std.proofs.Math.Seq.{take-add}
use Rattle.std.proofs.KnownBytes.{Consumes-trans}
use Rattle.std.specs.Io.KnownBytes.{Consumes}
use borrow.Rule.Slice.PartMut.{put_mid, post_of}
use Rattle.inputs.proofs.read_input.Goals as goal

-- The first bytes of the room, where its part from `done` on holds `more` bytes that a read gave.
joined : (done room more : ℕ) (sheet got : List ℕ) → done ≤ length sheet → more ≤ length got
    → take done sheet ++ take more got ≡ take (done + more) (put_mid done room sheet got)
joined done room more sheet got within fits =
    let after = got ++ post_of done room sheet in
    let front = take-put_mid_below done room sheet got done (le_refl _) within in
    let behind = ap (take more) (drop_at (take done sheet) after done (length-take-le done sheet within)) ∙ take-append-le more got _ fits in
    ap (λ xs. xs ++ take more got) (sym front) ∙ ap (λ xs. take done (put_mid done room sheet got) ++ xs) (sym behind) ∙ sym (take-add done more _)

pub loop-done-preserved : goal.loop-done-preserved
loop-done-preserved g c =
    let loop = c.loop-done.invariant in
    let read = c.in_ok-more.ensures in
    (search rules, search rules, subst (Consumes _ _) (joined _ _ _ _ _ loop.0 read.bound.0) (Consumes-trans _ _ _ _ _ loop.2 read.bytes.0))
