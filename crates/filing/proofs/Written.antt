-- A line put on a page, and its length.
use Prim.Native.Nat.{ℕ, ◌+◌, ◌≤◌}
use native.Mathlib.Decide.{dec_le}
use native.Mathlib.Omega.{arith}
use Rattle.std.specs.Prelude.{Result, Ok, Err, is_err}
use mathlib.Core.Path.{◌≡◌, refl, sym, ap, ◌∙◌}
use mathlib.Core.Bool.{true, false}
use mathlib.Core.Logic.{◌⊎◌, inl, inr}
use mathlib.Core.List.{List, ◌++◌}
use borrow.Author.Tests.{le-leb, lt-leb}
use lib.Dec.{eqb}
use lib.ListN.{length, take, drop}
use Rattle.gmf.specs.declared.Job.{Job}
use Rattle.gmf.specs.Jobs.{hyperperiod}
use Rattle.gmf.specs.Power.{total}
use Rattle.hexadecimal.proofs.Results.{hexadecimal}
use Rattle.line_writer.specs.declared.NoRoom.{NoRoom}
use Rattle.frame_writer.specs.Frames.{plan_bytes}
use Rattle.line_writer.specs.Page.{Reply, answered, written}
use Rattle.line_writer.specs.Page as page
use Rattle.line_writer.proofs.Results.{lining}
use Rattle.refusals.specs.declared.Refusal.TheVariants as refusal
use Rattle.refusals.specs.Numbers.{refusal_number}
use Rattle.filing.specs.Plans.{Filed, filed_by, put_on, plan_line}
use Rattle.filing.specs.Claims.{frame_length, ReplyRule}

-- What is filed by a reply of the writer.
abbrev filed_with : Reply → List ℕ → Filed
filed_with reply line = record { number = reply.number; page = reply.page; count = elim (eqb reply.number 0) [ true ↦ length line | false ↦ 0 ] }

module _ (p : List ℕ) (place : ℕ) (line : List ℕ) where
  -- What the writer replied for its arguments, each equal to the right one.
  pub put_at : {reply : Reply} {given : List ℕ} {at : ℕ} {out : List ℕ} → reply ≡ written given at out → given ≡ p → at ≡ place → out ≡ line
      → reply ≡ written p place line
  put_at e f g h = e ∙ cc

  pub put_written : (answer : Result (Unit {0}) NoRoom) (exit : List ℕ) (n : ℕ) → answered answer exit ≡ written p place line → is_err answer ≡ false
      → n ≡ length line → filed_by (Ok n) exit ≡ put_on p place line
  unfolding put_on page.number_of
  put_written answer exit n e w size = go answer refl
    where
      go : (a : Result (Unit {0}) NoRoom) → answer ≡ a → filed_by (Ok n) exit ≡ put_on p place line
      go (Ok done) f =
          ap (λ (k : ℕ). record { number = 0; page = exit; count = k }) size
          ∙ ap (λ (q : Result (Unit {0}) NoRoom). filed_with (answered q exit) line) (sym f)
          ∙ ap (λ (reply : Reply). filed_with reply line) e
      go (Err none) f = let z : true ≡ false = sym (ap is_err f) ∙ w in cc

  pub put_none : (answer : Result (Unit {0}) NoRoom) (exit : List ℕ) → answered answer exit ≡ written p place line → is_err answer ≡ true
      → filed_by (Err refusal.NoRoom) exit ≡ put_on p place line
  unfolding put_on page.number_of refusal_number
  put_none answer exit e w = go answer refl
    where
      go : (a : Result (Unit {0}) NoRoom) → answer ≡ a → filed_by (Err refusal.NoRoom) exit ≡ put_on p place line
      go (Ok done) f = let z : false ≡ true = sym (ap is_err f) ∙ w in cc
      go (Err none) f =
          ap (λ (q : Result (Unit {0}) NoRoom). filed_with (answered q exit) line) (sym f)
          ∙ ap (λ (reply : Reply). filed_with reply line) e

  pub put_room : place + length line ≤ length p
      → put_on p place line ≡ record { number = 0; page = take place p ++ (line ++ drop (place + length line) p); count = length line }
  unfolding put_on written
  put_room h = rw (le-leb (place + length line) (length p) h, written)

  pub put_no_room : (place + length line ≤ length p → ⊥) → put_on p place line ≡ record { number = 6; page = p; count = 0 }
  unfolding put_on written
  put_no_room n = rw (lt-leb (place + length line) (length p) (omega (arith, n)), written)

  pub put_rule : ReplyRule (put_on p place line) p place
  put_rule = record { fits = fits; same_length = unfold put_on in (lining.page_rule p place line).same_length; as_lent = as_lent }
    where
      ends : Dec (place + length line ≤ length p) → ((put_on p place line).count ≡ 0) ⊎ (place + (put_on p place line).count ≤ length p)
      ends (yes h) = inr (rw (ap (λ (f : Filed). f.count) (put_room h)) h)
      ends (no n) = inl (ap (λ (f : Filed). f.count) (put_no_room n))

      fits : ((put_on p place line).count ≡ 0) ⊎ (place + (put_on p place line).count ≤ length p)
      fits = ends (dec_le (place + length line) (length p))

      left : Dec (place + length line ≤ length p) → ((put_on p place line).number ≡ 0 → ⊥) → (put_on p place line).page ≡ p
      left (yes h) n = absurd (n (ap (λ (f : Filed). f.number) (put_room h)))
      left (no f) n = ap (λ (q : Filed). q.page) (put_no_room f)

      as_lent : ((put_on p place line).number ≡ 0 → ⊥) → (put_on p place line).page ≡ p
      as_lent = left (dec_le (place + length line) (length p))

pub line_size : (table : List ℕ) (jobs : List Job) (plan : List ℕ) (raises : ℕ) → length (plan_line table jobs plan raises) ≡ frame_length (length plan)
unfolding plan_line
line_size table jobs plan raises =
    omega (arith, hexadecimal.line_length (plan_bytes (length jobs) (hyperperiod jobs) (total table plan) raises plan))
