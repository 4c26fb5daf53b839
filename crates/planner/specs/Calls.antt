-- The numbers of what calls do, and lists of these calls, for the known results (the crate calls has the lists of all calls).
use Rattle.std.specs.Prelude.{ℕ, List, [], ◌∷◌}
use Rattle.refusals.specs.Numbers.{refusal_number}
use Rattle.planner.specs.declared.Roster.{Roster}
use Rattle.planner.specs.Model.{Model, Call, Outcome, refused, accepted, step}
use Rattle.planner.specs.Roster.{reply_to}

-- The number of what a call does to the model, as `number_of` has that of an answer.
unfoldable pub outcome_number : Outcome → ℕ
outcome_number (refused refusal) = refusal_number refusal
outcome_number (accepted model) = 0

-- The model after a call: "… the book and the page stay" where it is refused.
unfoldable pub after : Model → Outcome → Model
after model (refused refusal) = model
after model (accepted next) = next

-- "The book is fed these arguments alone, never a reply or the roster."
unfoldable pub model_numbers : Model → List Call → List ℕ
model_numbers model [] = []
model_numbers model (call ∷ calls) = outcome_number (step model call) ∷ model_numbers (after model (step model call)) calls

-- The model after a list of calls.
unfoldable pub model_after : Model → List Call → Model
model_after model [] = model
model_after model (call ∷ calls) = model_after (after model (step model call)) calls

-- "Each call … gets the roster that the call before it returned or left …": the roster at the end. Every call's contract is `reply_to`.
unfoldable pub roster_after : Roster → List Call → Roster
roster_after roster [] = roster
roster_after roster (call ∷ calls) = roster_after (reply_to roster call).roster calls
