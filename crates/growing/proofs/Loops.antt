-- The two loops of growing for a list of jobs: what each keeps, and what its turns make of that.
use Prim.Native.Nat.{ℕ, zero, suc, ◌+◌, ◌-◌, ◌*◌, ◌≤◌, ◌<◌, min}
use native.Mathlib.Nat.{le_trans, mul-le-mul}
use native.Mathlib.Decide.{le_ind}
use native.Mathlib.Omega.{arith}
use mathlib.Core.Path.{◌≡◌, refl, sym, ap, ap₂, ◌∙◌}
use mathlib.Core.Logic.{inl, ⊎_elim}
use mathlib.Core.Bool.{Bool, false}
use mathlib.Core.List.{List, ◌∷◌}
use lib.ListN.{length, take, set, replicate}
use Rattle.gmf.specs.declared.Machine.{Machine}
use Rattle.gmf.specs.declared.Job.{Job}
use Rattle.gmf.specs.Machine.{top}
use Rattle.gmf.specs.Jobs.{hyperperiod, hyperperiod_limit, works}
use Rattle.gmf.specs.Capacity.{largest, level}
use Rattle.gmf.specs.Growing.{Grown, NoPlan, demand, step, steps, growing, plan_of}
use Rattle.gmf.proofs.Largest.{largest_zero}
use Rattle.gmf.proofs.Steps.{paper_loop}
use Rattle.selection.specs.Turns.{none_taken}
use Rattle.std.specs.Prelude.{Option, Some}
use Rattle.growing.specs.declared.Plan.{Plan}
use Rattle.growing.specs.Plan.{plan_from}
use Rattle.growing.proofs.Levels.{Slowest, slowest_begin, slowest_next, slowest_up, plan_padded}
use Rattle.growing.proofs.Raises.{Grows, grows_begin, grows_join, raises_most, supply_most, grows_raise, turn_stops, turn_fails, turn_raises}
use Rattle.growing.proofs.Works.{Given, Told, Asks, Ready, works_length, demand_more, told_begin}

-- What the loop over i keeps after the steps 1 to i; of the works taken, as long as another may be.
pub record Outer (M : Machine) (jobs : List Job) (levels above : List ℕ) (raises supply taken : ℕ) (job : Job) (small : Bool) (i : ℕ) : Type 0 where
  pub grows : Grows M (hyperperiod jobs) i levels above raises supply
  pub same : steps M (hyperperiod jobs) (works jobs) i ≡ Grown (take M.processors levels) raises
  pub told : i < min M.processors (length jobs) → Told M jobs taken job small i
  pub weighed : i < min M.processors (length jobs) → top M * taken ≤ supply
  pub tested : i < min M.processors (length jobs) → top M * largest i (works jobs) ≤ supply

-- What the loop of the raises keeps in step suc i.
pub record Inner (M : Machine) (jobs : List Job) (need : ℕ) (levels above : List ℕ) (raises supply i v p : ℕ) : Type 0 where
  pub grows : Grows M (hyperperiod jobs) (suc i) levels above raises supply
  pub slowest : Slowest (suc i) v p above
  pub within : v ≤ M.levels - 1
  pub same : steps M (hyperperiod jobs) (works jobs) (suc i) ≡ step M (hyperperiod jobs) (works jobs) (suc i) (Grown (take M.processors levels) raises)
  pub asks : Asks M jobs need supply i

module _ (M : Machine) (jobs : List Job) (given : Given M jobs) where
  abbrev H : ℕ
  H = hyperperiod jobs

  abbrev ws : List ℕ
  ws = works jobs

  abbrev m : ℕ
  m = M.processors

  -- ---- Where they begin

  take_zeros : (k n : ℕ) → k ≤ n → take {A = ℕ} k (replicate n 0) ≡ replicate k 0
  take_zeros zero n h = refl
  take_zeros (suc k) zero h = absurd (omega arith)
  take_zeros (suc k) (suc n) h = ap (◌∷◌ 0) (take_zeros k n (omega arith))

  pub outer_begin : (job : Job) → job ≡ none_taken → Outer M jobs (replicate 32 0) (replicate 32 0) 0 0 0 job false 0
  unfolding steps
  outer_begin job e = record {
    grows = grows_begin M given.machine H;
    same = ap (λ l. Grown l 0) (sym (take_zeros m 32 given.machine.processors.1));
    told = λ _. told_begin M jobs given job e;
    weighed = λ _. omega arith;
    tested = λ _. rw (largest_zero ws) (omega arith);
  }

  pub inner_begin : (levels above : List ℕ) (raises supply taken : ℕ) (job : Job) (small : Bool) (i : ℕ) → Outer M jobs levels above raises supply taken job small i → i < m
      → (supply' v p need : ℕ) → supply' ≡ supply + H * M.lowest → v ≡ 0 → p ≡ level above 0 → Asks M jobs need supply' i
      → Inner M jobs need levels above raises supply' i v p
  unfolding steps
  inner_begin levels above raises supply taken job small i o inside supply' v p need e z q asks = record {
    grows = rw e (grows_join M given.machine H i levels above raises supply o.grows inside);
    slowest = rw (z, q) (slowest_begin o.grows.levels_are);
    within = omega arith;
    same = ap (step M H ws (suc i)) o.same;
    asks = asks;
  }

  -- ---- Bounds

  module _ (i : ℕ) (levels above : List ℕ) (raises supply : ℕ) (g : Grows M H i levels above raises supply) (inside : i ≤ m) where
    pub supply_bound : supply ≤ hyperperiod_limit * (32 * 256)
    supply_bound =
        le_trans (supply_most M given.machine H i levels above raises supply g inside)
        (mul-le-mul given.limited (mul-le-mul few_processors given.machine.top_speed))
      where
        few_processors : i ≤ 32
        few_processors = omega (arith, given.machine.processors.1)

    pub raises_bound : raises ≤ i * (M.levels - 1)
    raises_bound = raises_most M given.machine H i levels above raises supply g inside

  -- ---- A turn of the raises

  -- Once a step has found none, the later ones find none.
  none_stays : (i k : ℕ) → steps M H ws i ≡ NoPlan → i ≤ k → steps M H ws k ≡ NoPlan
  unfolding steps step
  none_stays i k e = le_ind (λ k. steps M H ws k ≡ NoPlan) e (λ k _ h. ap (step M H ws (suc k)) h) k

  module _ (levels above : List ℕ) (raises supply i v p need : ℕ) (n : Inner M jobs need levels above raises supply i v p) (inside : i < m) where
    abbrev asked : ℕ
    asked = top M * demand M H ws (suc i)

    -- The test holds: the step is done.
    pub outer_next : (d start taken : ℕ) (job : Job) (small : Bool) → Ready M jobs d taken job small start i → need ≡ top M * d → need ≤ supply
        → Outer M jobs levels above raises supply taken job small (suc i)
    outer_next d start taken job small r e h =
        let holding : asked ≤ supply = ⊎_elim (λ (x : need ≡ asked). omega arith) (λ (x : (need ≤ supply) × (asked ≤ supply)). x.1) n.asks in
        record {
          grows = n.grows;
          same = n.same ∙ turn_stops M given.machine H ws i levels above raises supply asked n.grows inside refl holding;
          told = r.told;
          weighed = λ t. rw (← r.same t, ← e) h;
          tested = λ t. rw (← demand_more M jobs given i t) holding;
        }

    -- It fails: then `need` is what it asks for.
    module _ (short : supply < need) where
      exact : need ≡ asked
      exact = ⊎_elim (λ (x : need ≡ asked). x) (λ (x : (need ≤ supply) × (asked ≤ supply)). absurd (omega arith)) n.asks

      pub step_none : v ≡ M.levels - 1 → plan_of M jobs ≡ NoPlan
      unfolding plan_of growing
      step_none e =
          none_stays (suc i) m (n.same ∙ turn_fails M given.machine H ws i levels above raises supply need n.grows inside exact v p n.slowest short e)
          inside

      module _ (low : v < M.levels - 1) where
        -- The levels, the counts and the supply after the raise, each as the code finds it.
        module _ (levels' above' : List ℕ) (raises' supply' : ℕ) (l : levels' ≡ set levels p (v + 1)) (a : above' ≡ set above v (p + 1))
            (r : raises' ≡ raises + 1) (u : supply' ≡ supply + H * M.step) where
          pub grown_more : Grows M H (suc i) levels' above' raises' supply'
          grown_more = rw (l, a, r, u) (grows_raise M given.machine H (suc i) levels above raises supply n.grows inside v p n.slowest low)

          same_more : steps M H ws (suc i) ≡ step M H ws (suc i) (Grown (take m levels') raises')
          same_more =
              rw (l, r)
              (n.same ∙ turn_raises M given.machine H ws i levels above raises supply need n.grows inside exact v p n.slowest short low)

          -- The next processor of the same level, or, where p was the last, the first one level up.
          pub inner_next : (p' : ℕ) → p' ≡ p + 1 → p + 1 < suc i → Inner M jobs need levels' above' raises' supply' i v p'
          inner_next p' q h = record {
            grows = grown_more;
            slowest = rw (a, q)
                (slowest_next n.grows.levels_are n.slowest low (omega (arith, given.machine.processors.1)) (omega (arith, given.machine.levels.1)) h);
            within = n.within;
            same = same_more;
            asks = inl exact;
          }

          pub inner_up : (v' p' : ℕ) → v' ≡ v + 1 → p' ≡ level above' (v + 1) → p + 1 ≡ suc i → Inner M jobs need levels' above' raises' supply' i v' p'
          inner_up v' p' w q e = record {
            grows = grown_more;
            slowest = rw (w, q, a)
                (slowest_up n.grows.levels_are n.slowest low (omega (arith, given.machine.processors.1)) (omega (arith, given.machine.levels.1)) e);
            within = omega arith;
            same = same_more;
            asks = inl exact;
          }

  -- ---- After min(m, n) steps

  pub finished : (levels above : List ℕ) (raises supply taken : ℕ) (job : Job) (small : Bool) → Outer M jobs levels above raises supply taken job small (min m (length jobs))
      → (h : ℕ) → h ≡ H
      → ◌≡◌ {A = Option Plan} (Some record { hyperperiod = h; raises = raises; levels = levels }) (plan_from H (plan_of M jobs))
  unfolding plan_of plan_from
  finished levels above raises supply taken job small o h e =
      let grown : plan_of M jobs ≡ Grown (take m levels) raises =
      paper_loop M H ws ∙ ap (λ (n : ℕ). steps M H ws (min m n)) (works_length M jobs given) ∙ o.same in
      let padded = plan_padded m given.machine.processors.1 o.grows.levels_are (omega arith) in
      ap₂ (λ (t : ℕ) (l : List ℕ). Some record { hyperperiod = t; raises = raises; levels = l }) e padded ∙ ap (plan_from H) (sym grown)
