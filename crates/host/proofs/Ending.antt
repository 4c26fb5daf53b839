-- The reply to a sheet, as the code finds it.
use Prim.Native.Nat.{ℕ}
use mathlib.Core.Path.{◌≡◌, ap, ◌∙◌}
use mathlib.Core.List.{List}
use Rattle.std.specs.Prelude.{Result, Ok, Err}
use borrow.Author.Tests.{eq-eqb, ne_eqb}
use Rattle.planner.specs.declared.Roster.{Roster}
use Rattle.planner.specs.Roster.{roster_of}
use Rattle.refusals.specs.declared.Refusal.{Refusal}
use Rattle.refusals.specs.Numbers.{refusal_number, number_of}
use Rattle.refusals.proofs.Results.{number_rule}
use Rattle.filing.specs.Plans.{Filed, filed_by, plan_reply}
use Rattle.filing.proofs.Results.{files}
use Rattle.host.specs.Host.{end_number, end_model, host_reply}
use Rattle.host.specs.Replies.{replied_on}
use Rattle.host.proofs.Hosting.{host_rule}

-- The plan call's answer and the page after it, by what it filed.
filed_reply : (filing : Result ℕ Refusal) (exit : List ℕ)
    → replied_on (number_of filing) exit ≡ replied_on (filed_by filing exit).number (filed_by filing exit).page
filed_reply (Ok count) exit = ap (λ (n : ℕ). replied_on n exit) (number_rule.accepted count)
filed_reply (Err refusal) exit = ap (λ (n : ℕ). replied_on n exit) (number_rule.refused _ refusal)

module _ (sheet page : List ℕ) (place : ℕ) where
  pub refused_reply : (refusal : Refusal) → refusal_number refusal ≡ end_number sheet
      → (number : ℕ) → number ≡ refusal_number refusal → replied_on number page ≡ host_reply sheet page place
  unfolding host_reply
  refused_reply refusal e number n =
      ap (λ (k : ℕ). replied_on k page) (n ∙ e) ∙ rw (ne_eqb (end_number sheet) 0 (λ z. number_rule.never_0 refusal (e ∙ z)), host_reply)

  pub plan_reply_law : (roster : Roster) → end_number sheet ≡ 0 → roster ≡ roster_of (end_model sheet)
      → (filing : Result ℕ Refusal) (exit : List ℕ) → filed_by filing exit ≡ plan_reply roster page place
      → (number : ℕ) → number ≡ number_of filing → replied_on number exit ≡ host_reply sheet page place
  unfolding host_reply
  plan_reply_law roster z r filing exit f number n =
      ap (λ (k : ℕ). replied_on k exit) n
      ∙ filed_reply filing exit
      ∙ ap (λ (q : Filed). replied_on q.number q.page)
      (f
      ∙ ap (λ (q : Roster). plan_reply q page place) r
      ∙ (files.file_rule (end_model sheet) (host_rule sheet).kept).follows page place)
      ∙ rw (eq-eqb (end_number sheet) 0 z, host_reply)
