-- What an import does, by its conditions, and that the reply follows the model.
use Prim.Native.Nat.{ℕ, suc, ◌-◌, ◌*◌, ◌≤◌, ◌<◌}
use native.Mathlib.Decide.{dec_lt}
use native.Mathlib.Omega.{arith}
use mathlib.Core.Path.{◌≡◌, refl, sym, ap, ap₂, subst, ◌∙◌}
use mathlib.Core.Logic.{◌↔◌}
use mathlib.Core.Bool.{Bool, true, false, ◌&&◌}
use mathlib.Core.List.{List, [], ◌∷◌}
use borrow.Author.Tests.{le-leb, lt-leb}
use lib.ListN.{length}
use Rattle.gmf.specs.declared.Machine.{Machine}
use Rattle.gmf.specs.Machine.{InRange, machine}
use Rattle.std.proofs.Common.{Result, Ok, Err}
use Rattle.ranges.specs.Ranges.{one_to, speeds_fit}
use Rattle.ranges.proofs.Rules.{machine_range}
use Rattle.ranges.proofs.Results.{ranging}
use Rattle.frequencies.specs.Lists.{is_list}
use Rattle.frequencies.specs.Grammar.{IsFrequencyList}
use Rattle.frequencies.proofs.Members.{and-false, list_parts}
use Rattle.frequencies.proofs.Results.{listing}
use Rattle.clocks.specs.declared.Clock.{Clock}
use Rattle.clocks.specs.declared.ListError.{ListError}
use Rattle.clocks.specs.declared.ListError.TheVariants.{NoList, Uneven}
use Rattle.clocks.specs.Clocks.{speeds_of, lowest_of, step_of, clock_of}
use Rattle.clocks.specs.Claims.{OneGap}
use Rattle.clocks.proofs.Results.{clocking}
use Rattle.refusals.specs.declared.Refusal.{Refusal}
use Rattle.refusals.specs.declared.Refusal.TheVariants.{Processors, FrequencyList, UnevenGaps}
use Rattle.refusals.specs.Numbers.{refusal_number, number_of}
use Rattle.refusals.proofs.Results.{number_rule}
use Rattle.planner.specs.Model.{Closed, OpenMachine, Outcome, refused, accepted, opened, step}
use Rattle.planner.specs.declared.Roster.{Roster}
use Rattle.planner.specs.declared.Reply.{Reply}
use Rattle.planner.specs.Roster.{empty_roster, roster_of, replied, reply_to}
use Rattle.planner.specs.Calls.{outcome_number, after}
use Rattle.planner.specs.Claims.{Kept}
use Rattle.planner.proofs.Outcomes.{open_1, open_2, open_0}
use Rattle.planner.proofs.Results.{planner}
use Rattle.imports.specs.Imports.{by_clock, imported, import_reply, found_in}
use Rattle.imports.specs.Claims.{machine_call, top_of, OrderRule, call_of, FollowRule}
use Rattle.imports.proofs.Outcomes.{on_empty, imported_1, at_clock, imported_18, imported_19, found_refusal, found_0, found_opened, found_ok}

-- ---- Speeds in range

module _ (numbers : List ℕ) (is : is_list numbers ≡ true) where
  abbrev b : ℕ
  b = lowest_of (speeds_of numbers)

  abbrev d : ℕ
  d = step_of (speeds_of numbers)

  -- The step is no more than what is above the lowest speed; one number alone has 1.
  step_within : top_of numbers ≤ 256 → d ≤ 255
  step_within h = go numbers refl
    where
      go : (ns : List ℕ) → numbers ≡ ns → d ≤ 255
      go [] e = absurd (omega (arith, (list_parts numbers is).0.0, ap (length {A = ℕ}) e))
      go (n ∷ []) e = omega (arith, ((clocking.speed_rule numbers is).one n e).1)
      go (n ∷ m ∷ ns) e =
          let size : length numbers - 1 ≡ suc (length ns) = omega (arith, ap (length {A = ℕ}) e) in
          omega (arith, h, ap (λ (k : ℕ). k * d) size, (clocking.speed_rule numbers is).positive.0)

  speeds_in : top_of numbers ≤ 256 → speeds_fit (length numbers) b d ≡ true
  unfolding speeds_fit
  speeds_in h =
      let size = (list_parts numbers is).0 in
      let some = (clocking.speed_rule numbers is).positive in
      ap₂ ◌&&◌
      (ap₂ ◌&&◌
      (ap₂ ◌&&◌ ((ranging.rule.number 32 (length numbers)).1 size) ((ranging.rule.number 256 b).1 (some.0, omega (arith, h))))
      ((ranging.rule.number 255 d).1 (some.1, step_within h)))
      (le-leb (top_of numbers) 256 h)

  speeds_out : 256 < top_of numbers → speeds_fit (length numbers) b d ≡ false
  unfolding speeds_fit
  speeds_out h = and-false (one_to 32 (length numbers) && one_to 256 b && one_to 255 d) _ (lt-leb (top_of numbers) 256 h)

-- ---- The machine call on the empty model

module _ (m L b d : ℕ) where
  abbrev made : Outcome
  made = step Closed (OpenMachine m L b d)

  not_fitting : one_to 32 m ≡ true → speeds_fit L b d ≡ false → outcome_number made ≡ 2
  unfolding outcome_number refusal_number
  not_fitting fits e = ap outcome_number (open_2 m L b d fits e)

  fitting : one_to 32 m ≡ true → speeds_fit L b d ≡ true → outcome_number made ≡ 0
  unfolding outcome_number
  fitting fits e = ap outcome_number (open_0 m L b d fits e)

  -- It never meets 12.
  not_open : outcome_number made ≡ 12 → ⊥
  unfolding outcome_number refusal_number
  not_open t = go (one_to 32 m) refl (speeds_fit L b d) refl
    where
      go : (p : Bool) → one_to 32 m ≡ p → (q : Bool) → speeds_fit L b d ≡ q → ⊥
      go false e q f = omega (arith, ap outcome_number (open_1 m L b d e), t)
      go true e false f = omega (arith, not_fitting e f, t)
      go true e true f = omega (arith, fitting e f, t)

-- ---- One after the other

abbrev Fits : ℕ → Type 0
Fits m = (1 ≤ m) × (m ≤ 32)

module _ (m : ℕ) (list : List ℕ) where
  fits : Fits m → one_to 32 m ≡ true
  fits = (ranging.rule.number 32 m).1

  misfits : (Fits m → ⊥) → one_to 32 m ≡ false
  misfits n = go (one_to 32 m) refl
    where
      go : (p : Bool) → one_to 32 m ≡ p → one_to 32 m ≡ false
      go true e = absurd (n ((ranging.rule.number 32 m).0 e))
      go false e = e

  as_call : Fits m → (numbers : List ℕ) → IsFrequencyList list numbers → OneGap numbers → imported m list ≡ step Closed (machine_call m numbers)
  unfolding by_clock
  as_call f numbers l gap = at_clock m list (fits f) _ (sym ((clocking.clock_rule list).even numbers l gap))

  list_is : (numbers : List ℕ) → IsFrequencyList list numbers → is_list numbers ≡ true
  list_is numbers l = let rule = (listing.list_rule list).only numbers l in ap is_list rule.1 ∙ rule.0

  -- Refusal 2 is by the top speed: all else is in range.
  module _ (f : Fits m) (numbers : List ℕ) (l : IsFrequencyList list numbers) (gap : OneGap numbers) where
    call : outcome_number (imported m list) ≡ outcome_number (step Closed (machine_call m numbers))
    call = ap outcome_number (as_call f numbers l gap)

    too_fast : (outcome_number (imported m list) ≡ 2) ↔ (256 < top_of numbers)
    too_fast = (
      (λ two. by_top (dec_lt 256 (top_of numbers)) two),
      λ over. call ∙ not_fitting m _ _ _ (fits f) (speeds_out numbers (list_is numbers l) over),
    )
      where
        by_top : Dec (256 < top_of numbers) → outcome_number (imported m list) ≡ 2 → 256 < top_of numbers
        by_top (yes over) two = over
        by_top (no within) two =
            absurd (omega (arith, two, call, fitting m _ _ _ (fits f) (speeds_in numbers (list_is numbers l) (omega arith))))

  pub order_rule : OrderRule m list
  unfolding outcome_number refusal_number import_reply
  order_rule = record {
    by_1 = λ n. ap outcome_number (imported_1 m list (misfits n));
    by_18 = λ f never. ap outcome_number (imported_18 m list (fits f) (sym ((clocking.clock_rule list).no_list.1 never)));
    by_19 = λ f numbers l never. ap outcome_number (imported_19 m list (fits f) (sym (((clocking.clock_rule list).uneven numbers l).1 never)));
    by_2 = too_fast;
    as_call = as_call;
    roster_as_call = λ f numbers l gap. ap (replied empty_roster) (as_call f numbers l gap) ∙ sym (on_empty (machine_call m numbers));
  }

-- ---- The reply follows the model

reply_number : (o : Outcome) → number_of (replied empty_roster o).answer ≡ outcome_number o
unfolding replied outcome_number number_of
reply_number (refused refusal) = refl
reply_number (accepted model) = refl

reply_roster : (o : Outcome) → (replied empty_roster o).roster ≡ roster_of (after Closed o)
unfolding replied after
reply_roster (refused refusal) = sym planner.begins
reply_roster (accepted model) = refl

-- Refused, the model stays.
stays : (o : Outcome) → (outcome_number o ≡ 0 → ⊥) → after Closed o ≡ Closed
unfolding outcome_number after
stays (refused refusal) n = refl
stays (accepted model) n = absurd (n refl)

-- ---- What holds of every import

-- What an accepted one opens: a machine in range, by the machine call with its numbers.
record Opens (o : Outcome) : Type 0 where
  new : Machine
  range : InRange new
  call : o ≡ step Closed (call_of new)
  is : o ≡ accepted (opened new)

record Holds (o : Outcome) : Type 0 where
  kept : Kept (after Closed o)
  never_7 : outcome_number o ≡ 7 → ⊥
  never_12 : outcome_number o ≡ 12 → ⊥
  opens : outcome_number o ≡ 0 → Opens o

-- A refusal by a number that is none of these.
refused_holds : (refusal : Refusal) → (refusal_number refusal ≡ 7 → ⊥) → (refusal_number refusal ≡ 12 → ⊥) → Holds (refused refusal)
unfolding after outcome_number
refused_holds refusal seven twelve =
    record { kept = tt; never_7 = seven; never_12 = twelve; opens = λ z. absurd (number_rule.never_0 refusal z) }

module _ (m : ℕ) (fits : one_to 32 m ≡ true) where
  made_opens : (L b d : ℕ) → outcome_number (made m L b d) ≡ 0 → Opens (made m L b d)
  unfolding machine
  made_opens L b d e = go (speeds_fit L b d) refl
    where
      go : (p : Bool) → speeds_fit L b d ≡ p → Opens (made m L b d)
      go true f = record { new = machine m L b d; range = machine_range m L b d fits f; call = refl; is = open_0 m L b d fits f }
      go false f = absurd (omega (arith, not_fitting m L b d fits f, e))

  clock_holds : (clock : Result Clock ListError) → Holds (by_clock m clock)
  unfolding by_clock refusal_number
  clock_holds (Err NoList) = refused_holds FrequencyList (λ z. omega arith) (λ z. omega arith)
  clock_holds (Err Uneven) = refused_holds UnevenGaps (λ z. omega arith) (λ z. omega arith)
  clock_holds (Ok clock) =
      let rule = planner.one_call Closed tt in
      record {
        kept = rule.kept (OpenMachine m clock.levels clock.lowest clock.step);
        never_7 = rule.never_7 (OpenMachine m clock.levels clock.lowest clock.step);
        never_12 = not_open m clock.levels clock.lowest clock.step;
        opens = made_opens clock.levels clock.lowest clock.step;
      }

module _ (m : ℕ) (list : List ℕ) where
  every_import : Holds (imported m list)
  unfolding refusal_number
  every_import = go (one_to 32 m) refl
    where
      go : (p : Bool) → one_to 32 m ≡ p → Holds (imported m list)
      go true e = subst Holds (sym (at_clock m list e (clock_of list) refl)) (clock_holds m e (clock_of list))
      go false e = subst Holds (sym (imported_1 m list e)) (refused_holds Processors (λ z. omega arith) (λ z. omega arith))

  -- ---- An accepted import

  module _ (e : outcome_number (imported m list) ≡ 0) where
    abbrev a : Opens (imported m list)
    a = every_import.opens e

    machine_is : (import_reply m list).roster.machine ≡ a.new
    unfolding import_reply replied opened roster_of
    machine_is = ap (λ (o : Outcome). (replied empty_roster o).roster.machine) a.is

    accepted_range : InRange (import_reply m list).roster.machine
    accepted_range = subst InRange (sym machine_is) a.range

    accepted_call : imported m list ≡ step Closed (call_of (import_reply m list).roster.machine)
    accepted_call = a.call ∙ ap (λ (M : Machine). step Closed (call_of M)) (sym machine_is)

  -- ---- The roster, from what is found

  pub not_opened : (refusal : Refusal) → found_in (imported m list) ≡ Err refusal → (given : Roster) → given ≡ empty_roster
      → record { answer = Err refusal; roster = given } ≡ import_reply m list
  unfolding import_reply replied
  not_opened refusal e given g =
      ap (λ (r : Roster). record { answer = Err refusal; roster = r }) g ∙ ap (replied empty_roster) (sym (found_refusal _ refusal e))

  pub opened_so : (M : Machine) → found_in (imported m list) ≡ Ok M → (given : Roster) → given ≡ empty_roster
      → (reply : Reply) → reply ≡ reply_to given (OpenMachine M.processors M.levels M.lowest M.step) → reply ≡ import_reply m list
  unfolding import_reply
  opened_so M e given g reply r =
      r
      ∙ ap (λ (q : Roster). reply_to q (call_of M)) g
      ∙ on_empty (call_of M)
      ∙ ap (λ (N : Machine). replied empty_roster (step Closed (call_of N))) (sym (found_opened _ M e))
      ∙ ap (replied empty_roster) (sym (accepted_call (found_0 _ M e)))

  -- ---- All of it

  pub follow_rule : FollowRule m list
  unfolding import_reply
  follow_rule = record {
    number = reply_number (imported m list);
    roster = reply_roster (imported m list);
    kept = every_import.kept;
    refused_book = stays (imported m list);
    refused_roster = λ n. reply_roster (imported m list) ∙ ap roster_of (stays (imported m list) n) ∙ planner.begins;
    in_range_law = accepted_range;
    as_machine = accepted_call;
    found_refused = λ refusal e. unfold replied in ap (λ (o : Outcome). (replied empty_roster o).answer) (found_refusal _ refusal e);
    found_accepted = found_ok (imported m list);
    found_machine = found_opened (imported m list);
    never_7 = every_import.never_7;
    never_12 = every_import.never_12;
  }
