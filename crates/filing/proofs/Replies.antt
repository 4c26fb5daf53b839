-- What a call that writes on a page replies on a roster, as the code finds it.
use Prim.Native.Nat.{ℕ}
use mathlib.Core.Path.{◌≡◌, refl, sym, ap, subst, ◌∙◌}
use mathlib.Core.Bool.{Bool, true, false}
use mathlib.Core.Logic.{inl}
use mathlib.Core.List.{List}
use Rattle.std.specs.Prelude.{Result, Ok, Err}
use lib.ListN.{length, take}
use Rattle.workload.specs.declared.Totals.{Totals}
use Rattle.planner.specs.declared.Roster.{Roster}
use Rattle.planner.specs.declared.Condition.{Condition}
use Rattle.planner.specs.declared.Condition.TheVariants as condition
use Rattle.refusals.specs.declared.Refusal.{Refusal}
use Rattle.refusals.specs.declared.Refusal.TheVariants.{Damaged, NoMachine}
use Rattle.planner.specs.Model.{Model, Closed, Opened}
use Rattle.planner.specs.Roster.{model_of, roster_of, well_formed, inspected, totals_found}
use Rattle.planner.specs.Claims.{InspectRule, Kept}
use Rattle.planner.proofs.Results.{planner}
use Rattle.planner.proofs.Replies.{is_damaged, is_closed}
use Rattle.filing.specs.Plans.{Filed, filed_by, unwritten, reply_on}
use Rattle.filing.specs.Claims.{ReplyRule}

pub unwritten_rule : (refusal : Refusal) (page : List ℕ) (place : ℕ) → ReplyRule (unwritten refusal page) page place
unwritten_rule refusal page place = record { fits = inl refl; same_length = refl; as_lent = λ n. refl }

-- A call by what it does on a model.
module _ (on : Model → List ℕ → ℕ → Filed) where
  pub well : (r : Roster) → well_formed r ≡ true → (page : List ℕ) (place : ℕ) → reply_on on r page place ≡ on (model_of r) page place
  unfolding reply_on
  well r e page place = rw (e, reply_on)

  pub damaged : (r : Roster) → well_formed r ≡ false → (page : List ℕ) (place : ℕ) → reply_on on r page place ≡ unwritten Damaged page
  unfolding reply_on
  damaged r e page place = rw (e, reply_on)

  module _ (r : Roster) (page : List ℕ) (place : ℕ) where
    pub reply_untotalled : on Closed page place ≡ unwritten NoMachine page → (refusal : Refusal) → Err refusal ≡ totals_found (inspected r)
        → filed_by (Err refusal) page ≡ reply_on on r page place
    unfolding totals_found
    reply_untotalled none refusal e = go (inspected r) refl
      where
        go : (c : Condition) → inspected r ≡ c → filed_by (Err refusal) page ≡ reply_on on r page place
        go condition.Damaged f =
            let z : ◌≡◌ {A = Result Totals Refusal} (Err refusal) (Err Damaged) = e ∙ ap totals_found f in
            let same : refusal ≡ Damaged = cc in
            ap (λ (x : Refusal). unwritten x page) same ∙ sym (damaged r (is_damaged r f) page place)
        go condition.Closed f =
            let z : ◌≡◌ {A = Result Totals Refusal} (Err refusal) (Err NoMachine) = e ∙ ap totals_found f in
            let same : refusal ≡ NoMachine = cc in
            ap (λ (x : Refusal). unwritten x page) same
            ∙ sym (well r (is_closed r f).0 page place ∙ ap (λ (m : Model). on m page place) (is_closed r f).1 ∙ none)
        go (condition.Open t) f = let z : Err refusal ≡ Ok t = e ∙ ap totals_found f in cc

  module _ (r : Roster) (entries : length r.table ≡ 32) (places : length r.jobs ≡ 64) where
    pub rule : InspectRule r
    rule = planner.inspects r entries places

    module _ (page : List ℕ) (place : ℕ) where
      pub reply_open : (t : Totals) → inspected r ≡ condition.Open t
          → on (Opened r.machine (take r.machine.levels r.table) (take r.held r.jobs)) page place ≡ reply_on on r page place
      reply_open t e = sym (well r (rule.open_form t e) page place ∙ ap (λ (m : Model). on m page place) (rule.open_model t e))

  -- What holds of every reply on a model holds of that on a roster, whatever it is.
  pub any_reply : ((model : Model) (page : List ℕ) (place : ℕ) → ReplyRule (on model page place) page place)
      → (r : Roster) (page : List ℕ) (place : ℕ) → ReplyRule (reply_on on r page place) page place
  any_reply all r page place = go (well_formed r) refl
    where
      go : (b : Bool) → well_formed r ≡ b → ReplyRule (reply_on on r page place) page place
      go true e = subst (λ (f : Filed). ReplyRule f page place) (sym (well r e page place)) (all (model_of r) page place)
      go false e = subst (λ (f : Filed). ReplyRule f page place) (sym (damaged r e page place)) (unwritten_rule Damaged page place)

  -- On the roster of a model that calls can make.
  pub reply_kept : (model : Model) → Kept model → (page : List ℕ) (place : ℕ) → reply_on on (roster_of model) page place ≡ on model page place
  reply_kept model kept page place =
      let rule = planner.one_call model kept in
      well (roster_of model) rule.well_formed_law page place ∙ ap (λ (m : Model). on m page place) rule.carried
