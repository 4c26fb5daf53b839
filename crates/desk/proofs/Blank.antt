-- What was written on a blank page is the line that was written.
use Rattle.std.proofs.Common.{◌≡◌, ℕ, zero, suc, ◌+◌, ◌/◌, ◌%◌, ◌<◌, List, [], ◌∷◌, ◌++◌, drop, replicate, refl, ap, ◌∙◌, append_assoc, arith, le-ltb, lt-ltb, ne_eqb}
use native.Mathlib.Decide.{dec_lt}
use Rattle.hexadecimal.specs.Text.{digit_of, digits_of, line_of}
use Rattle.sheets.specs.Sheets.{written_on}

-- A byte that is not 0 was written.
on_some : (byte : ℕ) (rest : List ℕ) → (byte ≡ 0 → ⊥) → written_on (byte ∷ rest) ≡ byte ∷ written_on rest
unfolding written_on
on_some byte rest n = rw (ne_eqb byte 0 n, written_on)

digit_some : (value : ℕ) → digit_of value ≡ 0 → ⊥
digit_some value e = go (dec_lt value 10)
  where
    go : Dec (value < 10) → ⊥
    go (yes h) = let is : digit_of value ≡ 48 + value = unfold digit_of in rw (lt-ltb value 10 h, digit_of) in omega arith
    go (no h) = let is : digit_of value ≡ 55 + value = unfold digit_of in rw (le-ltb value 10 (omega arith), digit_of) in omega arith

on_digits : (bytes rest : List ℕ) → written_on (digits_of bytes ++ rest) ≡ digits_of bytes ++ written_on rest
unfolding digits_of
on_digits [] rest = refl
on_digits (byte ∷ bytes) rest =
    on_some (digit_of (byte / 16)) (digit_of (byte % 16) ∷ (digits_of bytes ++ rest)) (digit_some (byte / 16))
    ∙ ap (λ l. digit_of (byte / 16) ∷ l)
    (on_some (digit_of (byte % 16)) (digits_of bytes ++ rest) (digit_some (byte % 16)) ∙ ap (λ l. digit_of (byte % 16) ∷ l) (on_digits bytes rest))

-- Past a line on a blank page there is nothing.
on_zeros : (n k : ℕ) → written_on (drop n (replicate k 0)) ≡ []
unfolding written_on
on_zeros zero zero = refl
on_zeros zero (suc k) = refl
on_zeros (suc n) zero = refl
on_zeros (suc n) (suc k) = on_zeros n k

pub on_line : (bytes : List ℕ) (n k : ℕ) → written_on (line_of bytes ++ drop n (replicate k 0)) ≡ line_of bytes
unfolding line_of
on_line bytes n k =
    ap written_on (append_assoc (digits_of bytes) (10 ∷ []) (drop n (replicate k 0)))
    ∙ on_digits bytes (10 ∷ drop n (replicate k 0))
    ∙ ap (λ l. digits_of bytes ++ l) (on_some 10 (drop n (replicate k 0)) (λ e. omega arith) ∙ ap (λ l. 10 ∷ l) (on_zeros n k))
