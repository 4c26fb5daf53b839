-- What a call made as a line replies, as the code finds it.
use Prim.Native.Nat.{ℕ}
use native.Mathlib.Omega.{arith}
use mathlib.Core.Path.{◌≡◌, refl, sym, ap, ◌∙◌}
use mathlib.Core.Bool.{Bool, true, false}
use Rattle.std.specs.Prelude.{Result, Ok, Err}
use mathlib.Core.List.{List, [], ◌∷◌}
use lib.ListN.{length}
use Rattle.planner.specs.declared.Roster.{Roster}
use Rattle.planner.specs.declared.Reply.{Reply}
use Rattle.refusals.specs.declared.Refusal.{Refusal}
use Rattle.refusals.specs.declared.Refusal.TheVariants.{Malformed, Damaged}
use Rattle.planner.specs.Model as planner
use Rattle.planner.specs.Roster.{well_formed, reply_to}
use Rattle.refusals.specs.Numbers.{refusal_number, number_of}
use Rattle.refusals.proofs.Results.{number_rule}
use Rattle.filing.specs.Plans.{Filed, filed_by}
use Rattle.calls.specs.declared.LineAnswer.{LineAnswer}
use Rattle.calls.specs.Lines.{Asked, malformed, change, wants_frame, answered_on, nothing_written, malformed_number, filed_as, reply_as, passed_over}

-- ---- A malformed line

pub number_damaged : {given : Refusal} (r : Roster) → well_formed r ≡ false → given ≡ Damaged → refusal_number given ≡ malformed_number r
unfolding malformed_number
number_damaged r e f = ap refusal_number f ∙ rw (e, malformed_number)

pub number_well : {given : Refusal} (r : Roster) → well_formed r ≡ true → given ≡ Malformed → refusal_number given ≡ malformed_number r
unfolding malformed_number
number_well r e f = ap refusal_number f ∙ rw (e, malformed_number)

-- ---- Each way to ask

module _ (r : Roster) (ask : Asked) (page : List ℕ) (place : ℕ) where
  pub as_malformed : (refusal : Refusal) → refusal_number refusal ≡ malformed_number r → ask ≡ malformed
      → answered_on record { answer = Err refusal; roster = r } page ≡ reply_as r ask page place
  unfolding reply_as
  as_malformed refusal e a =
      ap (λ (n : ℕ). record { number = n; roster = r; page = page; count = 0 }) (number_rule.refused ℕ refusal ∙ e)
      ∙ ap (λ (q : Asked). reply_as r q page place) (sym a)

  pub as_change : (call : planner.Call) (reply : Reply) (result : LineAnswer)
      → result ≡ record { answer = nothing_written reply.answer; roster = reply.roster } → reply ≡ reply_to r call → ask ≡ change call
      → answered_on result page ≡ reply_as r ask page place
  unfolding reply_as
  as_change call reply result e f a =
      ap (λ (q : LineAnswer). answered_on q page) e
      ∙ without_count reply.answer reply.roster
      ∙ ap (λ (q : Reply). record { number = number_of q.answer; roster = q.roster; page = page; count = 0 }) f
      ∙ ap (λ (q : Asked). reply_as r q page place) (sym a)
    where
      without_count : (answer : Result (Unit {0}) Refusal) (roster : Roster)
          → answered_on record { answer = nothing_written answer; roster = roster } page ≡ record { number = number_of answer; roster = roster; page = page; count = 0 }
      without_count (Ok accepted) roster =
          ap (λ (n : ℕ). record { number = n; roster = roster; page = page; count = 0 }) (number_rule.accepted 0 ∙ sym (number_rule.accepted accepted))
      without_count (Err refusal) roster =
          ap (λ (n : ℕ). record { number = n; roster = roster; page = page; count = 0 })
          (number_rule.refused ℕ refusal ∙ sym (number_rule.refused (Unit {0}) refusal))

  -- A call that files a frame.
  pub as_filed : (given : Result ℕ Refusal) (exit : List ℕ) (reply : Filed) → filed_by given exit ≡ reply
      → reply_as r ask page place ≡ filed_as r reply → answered_on record { answer = given; roster = r } exit ≡ reply_as r ask page place
  as_filed given exit reply f a = by given ∙ ap (filed_as r) f ∙ sym a
    where
      by : (given : Result ℕ Refusal) → answered_on record { answer = given; roster = r } exit ≡ filed_as r (filed_by given exit)
      by (Ok count) = ap (λ (n : ℕ). record { number = n; roster = r; page = exit; count = count }) (number_rule.accepted count)
      by (Err refusal) = ap (λ (n : ℕ). record { number = n; roster = r; page = exit; count = 0 }) (number_rule.refused ℕ refusal)

-- ---- A line of the host's

empty_list : (l : List ℕ) → length l ≡ 0 → l ≡ []
empty_list [] e = refl
empty_list (x ∷ xs) e = absurd (omega arith)

module _ (r : Roster) (ask : Asked) where
  pub line_passed : wants_frame ask ≡ true → answered_on record { answer = Ok 0; roster = r } [] ≡ passed_over r ask
  unfolding passed_over
  line_passed e =
      ap (λ (n : ℕ). record { number = n; roster = r; page = []; count = 0 }) (number_rule.accepted 0)
      ∙ rw (e, passed_over)

  pub line_called : wants_frame ask ≡ false → (result : LineAnswer) (lent exit : List ℕ) → answered_on result exit ≡ reply_as r ask lent 0
      → length lent ≡ 0 → length exit ≡ 0 → answered_on result [] ≡ passed_over r ask
  unfolding passed_over
  line_called e result lent exit f l x =
      ap (answered_on result) (sym (empty_list exit x))
      ∙ f
      ∙ ap (λ (p : List ℕ). reply_as r ask p 0) (empty_list lent l)
      ∙ rw (e, passed_over)
