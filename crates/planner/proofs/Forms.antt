-- When a roster is well formed, and what it then carries.
use Prim.Native.Nat.{ℕ, ◌-◌, ◌≤◌, ◌<◌}
use native.Mathlib.Decide.{dec_lt}
use native.Mathlib.Omega.{arith}
use mathlib.Core.Path.{◌≡◌, refl, sym, ap, ap₂, ◌∙◌}
use mathlib.Core.Logic.{◌⊎◌, inl, inr}
use mathlib.Core.Bool.{Bool, true, false, not, ◌&&◌, or-false}
use mathlib.Core.List.{List}
use borrow.Author.Tests.{leb-true, le-leb, lt-leb, eqb-true, eq-eqb, ne_eqb, not-true}
use lib.Dec.{leb, eqb}
use lib.ListN.{length, take, drop, replicate, take-append-drop, length-drop, length-replicate, length-append}
use lib.Seq.{length-take-le, take-append_seam, drop-append_seam}
use Rattle.gmf.specs.declared.Machine.{Machine}
use Rattle.gmf.specs.declared.Job.{Job}
use Rattle.gmf.specs.Machine.{InRange, machine}
use Rattle.gmf.specs.Jobs.{JobInRange, ByRisingId, Every}
use Rattle.gmf.specs.Power.{IsTable}
use Rattle.ranges.specs.Ranges.{one_to}
use Rattle.places.specs.Places.{no_job, places_of, unused, listed}
use Rattle.places.proofs.Tests.{unused_pad}
use Rattle.places.proofs.Results.{placing}
use Rattle.power_tables.specs.Entries.{entries_of, zeros}
use Rattle.power_tables.proofs.Entries.{zeros_is, is_zeros}
use Rattle.roster_shape.specs.Shape.{in_shape as shapeTest, all_zero as zeroTest}
use Rattle.planner.specs.declared.Roster.{Roster}
use Rattle.planner.specs.Model.{Model, Closed, Opened}
use Rattle.power_tables.specs.Tables.{is_table}
use Rattle.ranges.specs.Ranges.{speeds_fit}
use Rattle.planner.specs.Tests.{cycle_too_long, no_plan}
use Rattle.planner.specs.Roster.{empty_roster, model_of, roster_of, in_shape, all_zero, sound, well_formed}
use Rattle.planner.specs.Claims.{Rules, IsSound, FormRule, Forms, Kept}
use Rattle.gmf.proofs.Sums.{both_true}
use Rattle.power_tables.proofs.Results.{table_laws}
use Rattle.ranges.proofs.Rules.{machine_range, range_processors, range_speeds}
use Rattle.planner.proofs.Passing.{not_long, long_not, plan_passes, passes_plan}

-- ---- Jobs that keep the rules

pub rules_listed : (M : Machine) (table : List ℕ) (jobs : List Job) → Rules M table jobs → listed jobs ≡ true
rules_listed M table jobs rules = (placing.tests.jobs jobs).1 (rules.job_ranges, rules.by_id)

-- ---- With a machine and without

-- With no processor a roster is not in shape, and with one it is not all zeros.
no_shape : (r : Roster) → r.machine.processors ≡ 0 → sound r ≡ false
unfolding sound shapeTest one_to
no_shape r e = rw (lt-leb 1 r.machine.processors (omega arith))

form_none : (r : Roster) → r.machine.processors ≡ 0 → well_formed r ≡ all_zero r
unfolding well_formed
form_none r e = rw (no_shape r e) (or-false (all_zero r))

pub form_open : (r : Roster) → (r.machine.processors ≡ 0 → ⊥) → well_formed r ≡ sound r
unfolding well_formed zeroTest
form_open r n = rw (ne_eqb r.machine.processors 0 n)

pub model_none : (r : Roster) → r.machine.processors ≡ 0 → model_of r ≡ Closed
unfolding model_of
model_none r e = rw (eq-eqb r.machine.processors 0 e, model_of)

pub model_open : (r : Roster) → (r.machine.processors ≡ 0 → ⊥)
    → model_of r ≡ Opened r.machine (take r.machine.levels r.table) (take r.held r.jobs)
unfolding model_of
model_open r n = rw (ne_eqb r.machine.processors 0 n, model_of)

-- ---- The empty roster

pub same_roster : (m L b d m' L' b' d' h h' : ℕ) (t t' : List ℕ) (js js' : List Job)
    → m ≡ m' → L ≡ L' → b ≡ b' → d ≡ d' → t ≡ t' → h ≡ h' → js ≡ js'
    → ◌≡◌ {A = Roster} (record { machine = record { processors = m; levels = L; lowest = b; step = d }; table = t; held = h; jobs = js })
    (record { machine = record { processors = m'; levels = L'; lowest = b'; step = d' }; table = t'; held = h'; jobs = js' })
same_roster m L b d m' L' b' d' h h' t t' js js' e₁ e₂ e₃ e₄ e₅ e₆ e₇ = cc

pub empty_form : well_formed empty_roster ≡ true
unfolding well_formed zeroTest empty_roster machine zeros unused
empty_form = refl

pub closed_roster : roster_of Closed ≡ empty_roster
unfolding roster_of
closed_roster = refl

pub zero_none : (r : Roster) → all_zero r ≡ true → r.machine.processors ≡ 0
unfolding zeroTest
zero_none r e =
    let z = both_true _ (unused r.jobs) e in
    let y = both_true _ (zeros r.table) z.0 in
    let x = both_true _ (eqb r.held 0) y.0 in
    let w = both_true _ (eqb r.machine.step 0) x.0 in
    let v = both_true _ (eqb r.machine.lowest 0) w.0 in
    eqb-true _ 0 (both_true (eqb r.machine.processors 0) (eqb r.machine.levels 0) v.0).0

module _ (r : Roster) (entries : length r.table ≡ 32) (places : length r.jobs ≡ 64) where
  zero_empty : all_zero r ≡ true → r ≡ empty_roster
  unfolding zeroTest empty_roster machine
  zero_empty e =
      let z = both_true _ (unused r.jobs) e in
      let y = both_true _ (zeros r.table) z.0 in
      let x = both_true _ (eqb r.held 0) y.0 in
      let w = both_true _ (eqb r.machine.step 0) x.0 in
      let v = both_true _ (eqb r.machine.lowest 0) w.0 in
      let u = both_true (eqb r.machine.processors 0) (eqb r.machine.levels 0) v.0 in
      same_roster _ _ _ _ 0 0 0 0 _ 0 _ _ _ _ (eqb-true _ 0 u.0) (eqb-true _ 0 u.1) (eqb-true _ 0 v.1) (eqb-true _ 0 w.1)
      (zeros_is r.table y.1 ∙ ap (λ (n : ℕ). replicate {A = ℕ} n 0) entries) (eqb-true _ 0 x.1)
      ((placing.tests.places r.jobs).0 z.1 ∙ ap (λ (n : ℕ). replicate n no_job) places)

  -- ---- A roster with a machine

  abbrev M : Machine
  M = r.machine

  abbrev numbers : List ℕ
  numbers = take r.machine.levels r.table

  abbrev held_jobs : List Job
  held_jobs = take r.held r.jobs

  abbrev ranged : Bool
  ranged = one_to 32 M.processors && speeds_fit M.levels M.lowest M.step

  pub record Shape : Type 0 where
    pub machine_range : InRange M
    pub table_rules : IsTable M numbers
    pub entries_after : zeros (drop M.levels r.table) ≡ true
    pub few : r.held ≤ 64
    pub job_ranges : Every JobInRange held_jobs
    pub by_id : ByRisingId held_jobs
    pub places_after : unused (drop r.held r.jobs) ≡ true

  pub shape_of : in_shape r ≡ true → Shape
  unfolding shapeTest machine
  shape_of e =
      let z = both_true _ (unused (drop r.held r.jobs)) e in
      let y = both_true _ (listed held_jobs) z.0 in
      let x = both_true (ranged && is_table M numbers && zeros (drop M.levels r.table)) (leb r.held 64) y.0 in
      let w = both_true (ranged && is_table M numbers) (zeros (drop M.levels r.table)) x.0 in
      let v = both_true ranged (is_table M numbers) w.0 in
      let u = both_true (one_to 32 M.processors) (speeds_fit M.levels M.lowest M.step) v.0 in
      let by = (placing.tests.jobs held_jobs).0 y.1 in
      record {
        machine_range = machine_range M.processors M.levels M.lowest M.step u.0 u.1;
        table_rules = (table_laws.tests M numbers).0 v.1;
        entries_after = w.1;
        few = leb-true r.held 64 x.1;
        job_ranges = by.0;
        by_id = by.1;
        places_after = z.1;
      }

  sound_is : sound r ≡ true → IsSound r
  unfolding sound
  sound_is e =
      let p = both_true (in_shape r && not (cycle_too_long held_jobs)) (not (no_plan M held_jobs)) e in
      let l = both_true (in_shape r) (not (cycle_too_long held_jobs)) p.0 in
      let s = shape_of l.0 in
      record {
        places = s.few;
        rules = record {
          machine_range = s.machine_range;
          table_rules = s.table_rules;
          job_ranges = s.job_ranges;
          by_id = s.by_id;
          within_limit = not_long held_jobs (not-true (cycle_too_long held_jobs) l.1);
          some_plan = plan_passes M s.machine_range held_jobs (not-true (no_plan M held_jobs) p.1);
        };
        unused_entries = zeros_is _ s.entries_after
            ∙ ap (λ (n : ℕ). replicate {A = ℕ} n 0) (length-drop M.levels r.table ∙ ap (λ (n : ℕ). n - M.levels) entries);
        unused_places = (placing.tests.places _).0 s.places_after
            ∙ ap (λ (n : ℕ). replicate n no_job) (length-drop r.held r.jobs ∙ ap (λ (n : ℕ). n - r.held) places);
      }

  is_sound : IsSound r → sound r ≡ true
  unfolding sound shapeTest machine
  is_sound s =
      let k = s.rules in
      ap₂ ◌&&◌
      (ap₂ ◌&&◌
      (ap₂ ◌&&◌
      (ap₂ ◌&&◌
      (ap₂ ◌&&◌
      (ap₂ ◌&&◌
      (ap₂ ◌&&◌
      (ap₂ ◌&&◌ (range_processors M.processors M.levels M.lowest M.step k.machine_range)
      (range_speeds M.processors M.levels M.lowest M.step k.machine_range))
      ((table_laws.tests M numbers).1 k.table_rules))
      (ap zeros s.unused_entries ∙ is_zeros (32 - M.levels)))
      (le-leb r.held 64 s.places))
      (rules_listed M numbers held_jobs k))
      (ap unused s.unused_places ∙ unused_pad (64 - r.held)))
      (ap not (long_not held_jobs k.within_limit)))
      (ap not (passes_plan M k.machine_range held_jobs k.some_plan))

  open_carries : IsSound r → roster_of (Opened r.machine (take r.machine.levels r.table) (take r.held r.jobs)) ≡ r
  unfolding roster_of entries_of places_of
  open_carries s =
      let L = r.machine.levels in
      let size : length (take L r.table) ≡ L = length-take-le L r.table (omega (arith, s.rules.machine_range.levels)) in
      let held : length (take r.held r.jobs) ≡ r.held = length-take-le r.held r.jobs (omega (arith, s.places)) in
      same_roster _ _ _ _ _ _ _ _ _ _ _ _ _ _ refl refl refl refl
      (rw (size, ← s.unused_entries) (take-append-drop L r.table)) held
      (rw (held, ← s.unused_places) (take-append-drop r.held r.jobs))

  -- ---- Both forms

  pub form_sound : (r.machine.processors ≡ 0 → ⊥) → well_formed r ≡ true → IsSound r
  form_sound n e = sound_is (sym (form_open r n) ∙ e)

  pub sound_form : IsSound r → well_formed r ≡ true
  sound_form s = form_open r (λ e. omega (arith, s.rules.machine_range.processors)) ∙ is_sound s

  pub form_rule : FormRule r
  form_rule = record { form = (forward, back); carries = carries_it }
    where
      forward : well_formed r ≡ true → (r ≡ empty_roster) ⊎ IsSound r
      forward e = go (dec_lt 0 r.machine.processors)
        where
          go : Dec (0 < r.machine.processors) → (r ≡ empty_roster) ⊎ IsSound r
          go (yes h) = inr (form_sound (λ z. omega arith) e)
          go (no h) = let z : r.machine.processors ≡ 0 = omega arith in inl (zero_empty (sym (form_none r z) ∙ e))

      back : (r ≡ empty_roster) ⊎ IsSound r → well_formed r ≡ true
      back (inl e) = ap well_formed e ∙ empty_form
      back (inr s) = sound_form s

      carries_it : well_formed r ≡ true → roster_of (model_of r) ≡ r
      carries_it e = go (dec_lt 0 r.machine.processors)
        where
          go : Dec (0 < r.machine.processors) → roster_of (model_of r) ≡ r
          go (yes h) = let n : r.machine.processors ≡ 0 → ⊥ = λ z. omega arith in ap roster_of (model_open r n) ∙ open_carries (form_sound n e)
          go (no h) =
              let z : r.machine.processors ≡ 0 = omega arith in
              ap roster_of (model_none r z) ∙ closed_roster ∙ sym (zero_empty (sym (form_none r z) ∙ e))

pub forms : Forms
forms = form_rule

-- The jobs in the first places.
pub holding : (jobs : List Job) → take (length jobs) (places_of jobs) ≡ jobs
unfolding places_of
holding jobs = take-append_seam jobs (replicate (64 - length jobs) no_job)

-- ---- The roster of a model

module _ (M : Machine) (table : List ℕ) (jobs : List Job) (rules : Rules M table jobs) (few : length jobs ≤ 64) where
  abbrev roster : Roster
  roster = roster_of (Opened M table jobs)

  size : length table ≡ M.levels
  size = rules.table_rules.size

  entries_count : length (entries_of table) ≡ 32
  entries_count = table_laws.entries table (omega (arith, size, rules.machine_range.levels))

  places_count : length (places_of jobs) ≡ 64
  unfolding places_of
  places_count = omega (arith, length-append jobs (replicate (64 - length jobs) no_job), length-replicate (64 - length jobs) no_job)

  in_force : take M.levels (entries_of table) ≡ table
  unfolding entries_of
  in_force = rw (← size) (take-append_seam table (replicate (32 - length table) 0))

  roster_sound : IsSound roster
  unfolding roster_of
  roster_sound = record {
    places = few;
    rules = rw (in_force, holding jobs) rules;
    unused_entries = unfold entries_of in rw (← size) (drop-append_seam table (replicate (32 - length table) 0));
    unused_places = unfold places_of in drop-append_seam jobs (replicate (64 - length jobs) no_job);
  }

  roster_form : well_formed roster ≡ true
  unfolding roster_of
  roster_form = sound_form roster entries_count places_count roster_sound

  roster_model : model_of roster ≡ Opened M table jobs
  unfolding roster_of
  roster_model =
      model_open roster (λ e. omega (arith, rules.machine_range.processors))
      ∙ ap (λ (l : List ℕ). Opened M l (take (length jobs) (places_of jobs))) in_force
      ∙ ap (Opened M table) (holding jobs)

pub kept_form : (model : Model) → Kept model → well_formed (roster_of model) ≡ true
unfolding roster_of
kept_form Closed kept = empty_form
kept_form (Opened M table jobs) kept = roster_form M table jobs kept.0 kept.1

pub kept_model : (model : Model) → Kept model → model_of (roster_of model) ≡ model
unfolding roster_of empty_roster machine
kept_model Closed kept = model_none empty_roster refl
kept_model (Opened M table jobs) kept = roster_model M table jobs kept.0 kept.1
