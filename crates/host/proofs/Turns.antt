-- A line of the host's sheet, by what it asks for: how the lines from it on end.
use Prim.Native.Nat.{ℕ, suc}
use native.Mathlib.Omega.{arith}
use mathlib.Core.Path.{◌≡◌, refl, sym, ap, ◌∙◌}
use mathlib.Core.List.{List, [], ◌∷◌}
use Rattle.planner.specs.Model.{Model}
use Rattle.planner.specs.Model as planner
use Rattle.planner.specs.Claims.{Does}
use Rattle.refusals.proofs.Results.{number_rule}
use Rattle.calls.specs.Lines.{Asked, malformed, change, asked, wants_frame}
use Rattle.calls.specs.Calls.{changed, read_as, on_model, replies, end}
use Rattle.host.specs.Host.{line_on_model, calls_from, last_number, refused_from}
use Rattle.host.proofs.Walking.{walked, walked_next, walked_stop}

module _ (model : Model) (number : ℕ) (line : List ℕ) (lines : List (List ℕ)) where
  host_number : (ask : Asked) → asked line ≡ ask → (line_on_model model line).reply.number ≡ (read_as model ask [] 0).reply.number
  unfolding line_on_model on_model
  host_number ask a = ap (λ (q : Asked). (read_as model q [] 0).reply.number) a

  host_next : (ask : Asked) → asked line ≡ ask → (line_on_model model line).next ≡ (read_as model ask [] 0).next
  unfolding line_on_model on_model
  host_next ask a = ap (λ (q : Asked). (read_as model q [] 0).next) a

  pub goes_on : (call : planner.Call) (next : Model) → asked line ≡ change call → Does model call 0 next → walked model number (line ∷ lines) ≡ walked next (suc number) lines
  unfolding read_as changed wants_frame
  goes_on call next a does =
      walked_next model number line lines (ap wants_frame a) (host_number (change call) a ∙ does.0)
      ∙ ap (λ (m : Model). walked m (suc number) lines) (host_next (change call) a ∙ does.1)

  pub ends_by : (call : planner.Call) (n : ℕ) (next : Model) → asked line ≡ change call → Does model call n next → (n ≡ 0 → ⊥)
      → walked model number (line ∷ lines) ≡ record { number = n; line = number; model = next }
  unfolding read_as changed wants_frame
  ends_by call n next a does some =
      let is = host_number (change call) a ∙ does.0 in
      walked_stop model number line lines (ap wants_frame a) (λ z. some (sym is ∙ z))
      ∙ ap (λ (k : ℕ). record { number = k; line = number; model = (line_on_model model line).next }) is
      ∙ ap (λ (m : Model). record { number = n; line = number; model = m }) (host_next (change call) a ∙ does.1)

  pub ends_unread : asked line ≡ malformed → walked model number (line ∷ lines) ≡ record { number = 5; line = number; model = model }
  unfolding read_as wants_frame
  ends_unread a =
      let is = host_number malformed a ∙ number_rule.malformed in
      walked_stop model number line lines (ap wants_frame a) (λ z. omega (arith, is))
      ∙ ap (λ (k : ℕ). record { number = k; line = number; model = (line_on_model model line).next }) is
      ∙ ap (λ (m : Model). record { number = 5; line = number; model = m }) (host_next malformed a)

pub ended : (model : Model) (number : ℕ) → walked model number [] ≡ record { number = 0; line = 0; model = model }
unfolding walked calls_from refused_from replies end last_number
ended model number = refl
