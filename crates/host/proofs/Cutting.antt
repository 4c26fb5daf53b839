-- The first line of a sheet, as it is cut off behind the first 0A.
use Prim.Native.Nat.{ℕ, zero, suc, ◌+◌, ◌-◌, ◌<◌}
use native.Mathlib.Omega.{arith}
use mathlib.Core.Path.{◌≡◌, sym, ap, ap₂, ◌∙◌}
use mathlib.Core.Bool.{true≢false}
use mathlib.Core.List.{List, [], ◌∷◌, ◌++◌}
use borrow.Author.Tests.{eq-eqb, ne_eqb, eqb-true}
use lib.ListN.{length, take, drop, length-append}
use Rattle.std.specs.Prelude.{min}
use Rattle.std.proofs.Math.Seq.{take-append_seam, drop-append_seam}
use Rattle.std.specs.List.{IsFirstMatchOrLen}
use Rattle.hexadecimal.specs.Text.{line_feed}
use Rattle.frame_reader.specs.Lines.{lines_of, length_of_line, line_end}
use Rattle.frame_reader.proofs.Lines.{feed, is_feed}
use Rattle.frame_reader.proofs.Results.{reads}

-- Where the first 0A is, or at the end of the sheet, the first line ends.
abbrev LineIs : List ℕ → Type 0
LineIs rest = (i : ℕ) → IsFirstMatchOrLen is_feed rest i → length_of_line rest ≡ min (i + 1) (length rest)

module _ (byte : ℕ) (rest : List ℕ) where
  closed_length : byte ≡ line_feed → length_of_line (byte ∷ rest) ≡ 1
  unfolding length_of_line
  closed_length e = rw (eq-eqb byte line_feed e, length_of_line)

  more_length : (byte ≡ line_feed → ⊥) → length_of_line (byte ∷ rest) ≡ suc (length_of_line rest)
  unfolding length_of_line
  more_length n = rw (ne_eqb byte line_feed n, length_of_line)

  line_more : LineIs rest → Dec (byte ≡ line_feed) → LineIs (byte ∷ rest)
  line_more later (yes e) zero at = closed_length e ∙ omega arith
  line_more later (yes e) (suc i) at = absurd (true≢false (sym (eq-eqb byte line_feed e) ∙ at.0 0 0 (omega arith) (omega arith)))
  line_more later (no n) zero at = absurd (n (eqb-true byte line_feed (at.1 (omega arith) 0)))
  line_more later (no n) (suc i) at =
      let tail = later i ((λ k d low high. at.0 (suc k) d (omega arith) (omega arith)), λ h d. at.1 (omega arith) d) in
      more_length n ∙ omega (arith, tail)

line_is : (rest : List ℕ) → LineIs rest
line_is [] = unfold length_of_line in λ i at. omega arith
line_is (byte ∷ rest) = line_more byte rest (line_is rest) (feed byte)

module _ (rest front back : List ℕ) (i : ℕ) (e : rest ≡ front ++ back) (n : length front ≡ min (i + 1) (length rest)) (some : 0 < length rest) where
  pub first_cut : IsFirstMatchOrLen is_feed rest i → lines_of rest ≡ front ∷ lines_of back
  first_cut at =
      (reads.line_rule rest).next 0 some
      ∙ ap (λ (k : ℕ). take (k - 0) rest ∷ lines_of (drop k rest)) here
      ∙ ap (λ (k : ℕ). take k rest ∷ lines_of (drop (length front) rest)) less
      ∙ ap (λ (r : List ℕ). take (length front) r ∷ lines_of (drop (length front) r)) e
      ∙ ap₂ (λ (f b : List ℕ). f ∷ lines_of b) (take-append_seam front back) (drop-append_seam front back)
    where
      here : line_end rest 0 ≡ length front
      here = unfold line_end in omega (arith, line_is rest i at ∙ sym n)

      less : length front - 0 ≡ length front
      less = omega arith

  pub cut_shorter : length back < length rest
  cut_shorter = omega (arith, ap length e ∙ length-append front back, n, some)
