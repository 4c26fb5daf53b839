-- `calls::replace_table` meets its contract: where the count is above 32, all values are taken.
use Prim.Native.Nat.{ℕ, min, ◌≤◌}
use native.Mathlib.Decide.{dec_le}
use native.Mathlib.Omega.{arith}
use mathlib.Core.Path.{◌≡◌, refl, sym, ap, ◌∙◌}
use mathlib.Core.List.{List}
use borrow.Author.Rules.{rules}
use lib.ListN.{length, take}
use lib.Seq.{take_all}
use Rattle.planner.specs.Model.{ReplaceTable}
use Rattle.planner.specs.Roster.{reply_to}
use Rattle.calls.specs.Lines.{change, reply_as}
use Rattle.calls.proofs.Asking.{as_change}
use Rattle.calls.proofs.replace_table.Goals as goal

-- The values that are taken are those that the frame counts.
counted : (values : List ℕ) (count : ℕ) → length values ≡ 32 → take (min count 32) values ≡ take count values
counted values count all = go (dec_le count 32)
  where
    go : Dec (count ≤ 32) → take (min count 32) values ≡ take count values
    go (yes h) = let e : min count 32 ≡ count = omega arith in rw e
    go (no n) = take_all (min count 32) values (omega arith) ∙ sym (take_all count values (omega arith))

pub returns : goal.returns
returns c page place =
    as_change c.args.roster _ page place (ReplaceTable (take (min c.args.count 32) c.args.values.now)) _ _ c.changed.ensures
    (c.replace_table.ensures ∙ ap (λ (n : ℕ). reply_to c.args.roster (ReplaceTable (take n c.args.values.now))) c.min.ensures) refl
    ∙ ap (λ (l : List ℕ). reply_as c.args.roster (change (ReplaceTable l)) page place) (counted c.args.values.now c.args.count (search rules))
