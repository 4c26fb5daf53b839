-- What is proved of imports: `Importing` is all of it. Its proof is proofs/Results.antt.
use Rattle.std.specs.Prelude.{ℕ, ◌+◌, ◌-◌, ◌*◌, ◌≤◌, ◌<◌, ◌≡◌, ◌↔◌, Ok, Err, List, [], ◌∷◌, length}
use Rattle.gmf.specs.declared.Machine.{Machine}
use Rattle.gmf.specs.Machine.{InRange, machine}
use Rattle.frequencies.specs.Grammar.{IsFrequencyList}
use Rattle.clocks.specs.Clocks.{speeds_of, lowest_of, step_of}
use Rattle.clocks.specs.Claims.{OneGap}
use Rattle.refusals.specs.declared.Refusal.{Refusal}
use Rattle.refusals.specs.Numbers.{number_of}
use Rattle.planner.specs.Model.{Closed, Opened, Call, OpenMachine, step}
use Rattle.planner.specs.Roster.{empty_roster, roster_of, reply_to}
use Rattle.planner.specs.Calls.{outcome_number, after}
use Rattle.planner.specs.Claims.{Kept}
use Rattle.imports.specs.Imports.{imported, import_reply, found_in}

-- "… a machine call with that processor count and those speeds …"
abbrev pub machine_call : ℕ → List ℕ → Call
machine_call m numbers = OpenMachine m (length numbers) (lowest_of (speeds_of numbers)) (step_of (speeds_of numbers))

-- The top speed of these, "b + (L − 1) × d".
abbrev pub top_of : List ℕ → ℕ
top_of numbers = lowest_of (speeds_of numbers) + (length numbers - 1) * step_of (speeds_of numbers)

-- "… the order is 1, 18, 19, 2", each by its condition, and otherwise the machine call.
pub record OrderRule (m : ℕ) (list : List ℕ) : Type 0 where
  pub by_1 : (((1 ≤ m) × (m ≤ 32)) → ⊥) → outcome_number (imported m list) ≡ 1
  pub by_18 : (1 ≤ m) × (m ≤ 32) → ((numbers : List ℕ) → IsFrequencyList list numbers → ⊥) → outcome_number (imported m list) ≡ 18
  pub by_19 : (1 ≤ m) × (m ≤ 32) → (numbers : List ℕ) → IsFrequencyList list numbers → (OneGap numbers → ⊥) → outcome_number (imported m list) ≡ 19
  pub by_2 : (1 ≤ m) × (m ≤ 32) → (numbers : List ℕ) → IsFrequencyList list numbers → OneGap numbers
      → (outcome_number (imported m list) ≡ 2) ↔ (256 < top_of numbers)
  pub as_call : (1 ≤ m) × (m ≤ 32) → (numbers : List ℕ) → IsFrequencyList list numbers → OneGap numbers
      → imported m list ≡ step Closed (machine_call m numbers)
  -- So is the reply: the machine call's on the empty roster, its table included.
  pub roster_as_call : (1 ≤ m) × (m ≤ 32) → (numbers : List ℕ) → IsFrequencyList list numbers → OneGap numbers
      → import_reply m list ≡ reply_to empty_roster (machine_call m numbers)

-- The machine call with a machine's own numbers.
abbrev pub call_of : Machine → Call
call_of M = OpenMachine M.processors M.levels M.lowest M.step

-- The reply's number and roster are the model's, which keeps 01's rules. "… a refused one leaves book and roster empty."
pub record FollowRule (m : ℕ) (list : List ℕ) : Type 0 where
  pub number : number_of (import_reply m list).answer ≡ outcome_number (imported m list)
  pub roster : (import_reply m list).roster ≡ roster_of (after Closed (imported m list))
  pub kept : Kept (after Closed (imported m list))
  pub refused_book : (outcome_number (imported m list) ≡ 0 → ⊥) → after Closed (imported m list) ≡ Closed
  pub refused_roster : (outcome_number (imported m list) ≡ 0 → ⊥) → (import_reply m list).roster ≡ empty_roster
  -- Accepted, it is the machine call with the numbers of the machine that the roster has.
  pub in_range_law : outcome_number (imported m list) ≡ 0 → InRange (import_reply m list).roster.machine
  pub as_machine : outcome_number (imported m list) ≡ 0 → imported m list ≡ step Closed (call_of (import_reply m list).roster.machine)
  -- What is found with no roster is what the reply says: its refusal, or the machine of its roster.
  pub found_refused : (refusal : Refusal) → found_in (imported m list) ≡ Err refusal → (import_reply m list).answer ≡ Err refusal
  pub found_accepted : (M : Machine) → found_in (imported m list) ≡ Ok M → (import_reply m list).answer ≡ Ok (tt {0})
  pub found_machine : (M : Machine) → found_in (imported m list) ≡ Ok M → (import_reply m list).roster.machine ≡ M
  -- It takes no roster.
  pub never_7 : outcome_number (imported m list) ≡ 7 → ⊥
  pub never_12 : outcome_number (imported m list) ≡ 12 → ⊥

-- ---- Known results

pub record ImportTrials : Type 0 where
  -- "9 6 12": 2, 3 and 4 times 3, with their cubes.
  pub three : after Closed (imported 4 (57 ∷ 32 ∷ 54 ∷ 32 ∷ 49 ∷ 50 ∷ [])) ≡ Opened (machine 4 3 2 1) (8 ∷ 27 ∷ 64 ∷ []) []
  -- 1 before 18, 18, 19 before 2 ("1 2 1000"), 2 ("1 257"), and "1 256".
  pub numbers : outcome_number (imported 33 [])
      ∷ outcome_number (imported 32 [])
      ∷ outcome_number (imported 1 (49 ∷ 32 ∷ 50 ∷ 32 ∷ 49 ∷ 48 ∷ 48 ∷ 48 ∷ []))
      ∷ outcome_number (imported 1 (49 ∷ 32 ∷ 50 ∷ 53 ∷ 55 ∷ []))
      ∷ outcome_number (imported 1 (49 ∷ 32 ∷ 50 ∷ 53 ∷ 54 ∷ []))
      ∷ []
      ≡ 1 ∷ 18 ∷ 19 ∷ 2 ∷ 0 ∷ []

pub record Importing : Type 0 where
  pub order_rule : (m : ℕ) (list : List ℕ) → OrderRule m list
  pub follow_rule : (m : ℕ) (list : List ℕ) → FollowRule m list
  pub import_trials : ImportTrials
