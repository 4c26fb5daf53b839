-- One number less another as a difference of signed ones, read back from their bits.
use Prim.Native.Nat.{ℕ, zero, suc, ◌≤◌, ◌<◌}
use native.Mathlib.Decide.{dec_le}
use native.Mathlib.Omega.{arith}
use mathlib.Core.Path.{◌≡◌, refl, sym, ap, ap₂, subst, ◌∙◌}
use lib.IntN.{pos, sub_ℕ, ◌-ℤ◌}
use mir.Syntax.{w64}
use mir.Val.{SFits, to_z, of_z}
use mir.ValLaws.{to_z-of_z, to_z_pos}
use Rattle.slack.proofs.Division.{sub_more, sub_less}

less : (a b : ℕ) → pos a -ℤ pos b ≡ sub_ℕ a b
less a zero = ap pos (omega arith) ∙ sym (sub_more a 0 (omega arith))
less a (suc b) = refl

module _ (a b : ℕ) (few : a < 9223372036854775808) (few' : b < 9223372036854775808) where
  fits_less : SFits w64 (sub_ℕ a b)
  fits_less = go (dec_le b a)
    where
      go : Dec (b ≤ a) → SFits w64 (sub_ℕ a b)
      go (yes h) = subst (SFits w64) (sym (sub_more a b h)) (record { sfits = omega arith })
      go (no n) = subst (SFits w64) (sym (sub_less a b (omega arith))) (record { sfits = omega arith })

  read_less : to_z w64 a -ℤ to_z w64 b ≡ sub_ℕ a b
  read_less = ap₂ ◌-ℤ◌ (to_z_pos w64 a (omega arith)) (to_z_pos w64 b (omega arith)) ∙ less a b

  pub less_fits : SFits w64 (to_z w64 a -ℤ to_z w64 b)
  less_fits = subst (SFits w64) (sym read_less) fits_less

  pub less_is : to_z w64 (of_z w64 (to_z w64 a -ℤ to_z w64 b)) ≡ sub_ℕ a b
  less_is = to_z-of_z w64 _ less_fits ∙ read_less
