-- A default table in the making: its first j entries, at the speeds from `lowest` on.
use Prim.Native.Nat.{ℕ, zero, suc, ◌+◌, ◌-◌, ◌*◌, ◌≤◌, ◌<◌}
use native.Mathlib.Numerals.{add-one}
use native.Mathlib.Omega.{arith}
use mathlib.Core.Path.{◌≡◌, refl, sym, ap, ap₂, ◌∙◌}
use mathlib.Core.List.{List, [], ◌∷◌, ◌++◌}
use lib.ListN.{length, take, drop, get_or, set, replicate, length-set}
use lib.Seq.{take-suc-set, take_all, length-take-le}
use Rattle.std.proofs.lemmas.List.{drop-replicate}
use Rattle.gmf.specs.declared.Machine.{Machine}
use Rattle.gmf.specs.Machine.{speed}
use Rattle.gmf.specs.Power.{tabulate, cubes, default_table}
use Rattle.gmf.proofs.Tables.{tabulate_length}
use Rattle.power_tables.specs.Entries.{entries_of}

pub record Filled (numbers : List ℕ) (M : Machine) (entries : List ℕ) (at j : ℕ) : Type 0 where
  pub long : length entries ≡ M.levels
  pub at_speed : at ≡ M.lowest + j * M.step
  pub holding : take j entries ≡ tabulate (λ i. get_or numbers (M.lowest + i * M.step) 0) j

tabulate_more : (f : ℕ → ℕ) (n : ℕ) → tabulate f (suc n) ≡ tabulate f n ++ (f n ∷ [])
unfolding tabulate
tabulate_more f zero = refl
tabulate_more f (suc n) = ap (λ (l : List ℕ). f 0 ∷ l) (tabulate_more (λ j. f (suc j)) n)

pub filled_begin : {numbers : List ℕ} {M : Machine} {at j : ℕ} → M.levels ≤ 32 → at ≡ M.lowest → j ≡ 0
    → Filled numbers M (take M.levels (replicate 32 0)) at j
filled_begin {numbers} {M} few first none = record {
  long = length-take-le M.levels (replicate {A = ℕ} 32 0) few;
  at_speed = rw none (omega arith);
  holding = rw none (unfold tabulate in refl);
}

pub filled_more : {numbers : List ℕ} {M : Machine} {entries : List ℕ} {at j : ℕ} → j < length entries → Filled numbers M entries at j
    → Filled numbers M (set entries j (get_or numbers at 0)) (at + M.step) (j + 1)
filled_more {numbers} {M} {entries} {at} {j} h f = record {
  long = length-set entries j (get_or numbers at 0) ∙ f.long;
  at_speed = omega (arith, f.at_speed);
  holding = rw (
    f.at_speed,
    add-one j,
    take-suc-set entries j (get_or numbers (M.lowest + j * M.step) 0) h,
    f.holding,
    tabulate_more (λ i. get_or numbers (M.lowest + i * M.step) 0) j,
  );
}

-- Every level has its entry, and zeros stand in the rest of 32.
pub filled_end : {M : Machine} {entries : List ℕ} {at j : ℕ} → j ≡ length entries → Filled cubes M entries at j
    → entries ++ drop M.levels (replicate 32 0) ≡ entries_of (default_table M)
unfolding default_table entries_of speed
filled_end {M} {entries} {at} {j} all f =
    let cube_at : ℕ → ℕ = λ i. get_or cubes (M.lowest + i * M.step) 0 in
    let every : j ≡ M.levels = all ∙ f.long in
    ap₂ (λ (l zeros : List ℕ). l ++ zeros)
    (sym (take_all j entries (omega arith)) ∙ f.holding ∙ ap (tabulate cube_at) every)
    (drop-replicate M.levels 32 0 ∙ ap (λ (n : ℕ). replicate (32 - n) 0) (sym (tabulate_length cube_at M.levels)))
