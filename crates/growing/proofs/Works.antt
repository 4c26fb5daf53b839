-- The works that the tests weigh: what is known of those taken, and that the tests before the last hold once the rest is small.
use Prim.Native.Nat.{ℕ, suc, ◌+◌, ◌*◌, ◌≤◌, ◌<◌, min}
use native.Mathlib.Nat.{le_refl, le_trans, mul-le-mul, mul-le-mul_left, mul-le-mul_right}
use native.Mathlib.Decide.{dec_lt, le_ind}
use native.Mathlib.Omega.{arith}
use mathlib.Core.Path.{◌≡◌, sym, ap, ap₂, ◌∙◌}
use mathlib.Core.Logic.{◌⊎◌, inl, inr}
use mathlib.Core.Bool.{Bool, true, false, true≢false, false≢true}
use mathlib.Core.List.{List}
use lib.Dec.{leb}
use lib.ListN.{length, length-map}
use borrow.Author.Tests.{leb-true}
use Rattle.gmf.specs.declared.Machine.{Machine}
use Rattle.gmf.specs.declared.Job.{Job}
use Rattle.gmf.specs.Machine.{InRange, top}
use Rattle.gmf.specs.Jobs.{JobInRange, ByRisingId, Every, hyperperiod, hyperperiod_limit, work, works}
use Rattle.gmf.specs.Capacity.{sum, largest}
use Rattle.gmf.specs.Growing.{demand}
use Rattle.gmf.proofs.Largest.{largest_zero, largest_some, largest_all}
use Rattle.gmf.proofs.Capacity.{demand_part, demand_whole}
use Rattle.selection.specs.Turns.{none_taken, next_after, turn}
use Rattle.selection.proofs.Turns.{takes_in_turn, turn_work}
use Rattle.workload.proofs.Loads.{works_bound}

-- ---- What growing is over: a machine and jobs in range, by rising id, in a hyperperiod within its limit

pub record Given (M : Machine) (jobs : List Job) : Type 0 where
  pub machine : InRange M
  pub few : length jobs ≤ 64
  pub in_range_law : Every JobInRange jobs
  pub rising : ByRisingId jobs
  pub limited : hyperperiod jobs ≤ hyperperiod_limit

-- After i turns: either the i largest works are taken, or every work that is left is small: Q times it is at most what a processor at
-- level 0 gets done.
pub record Told (M : Machine) (jobs : List Job) (taken : ℕ) (job : Job) (small : Bool) (i : ℕ) : Type 0 where
  pub exact : small ≡ false → (taken ≡ largest i (works jobs)) × (job ≡ turn jobs i)
  pub most : taken ≤ sum (works jobs)
  pub rest : small ≡ true → (k : ℕ) → i ≤ k → k < length jobs → top M * work (hyperperiod jobs) (turn jobs (suc k)) ≤ hyperperiod jobs * M.lowest

-- What test suc i asks for: `need`; or it holds already, and nothing is raised.
abbrev pub Asks : Machine → List Job → ℕ → ℕ → ℕ → Type 0
Asks M jobs need supply i =
    let asked = top M * demand M (hyperperiod jobs) (works jobs) (suc i) in
    (need ≡ asked) ⊎ ((need ≤ supply) × (asked ≤ supply))

-- Before the raises of step suc i.
pub record Ready (M : Machine) (jobs : List Job) (weighed taken : ℕ) (job : Job) (small : Bool) (supply i : ℕ) : Type 0 where
  pub asks : Asks M jobs (top M * weighed) supply i
  pub most : weighed ≤ sum (works jobs)
  pub same : suc i < min M.processors (length jobs) → weighed ≡ taken
  pub told : suc i < min M.processors (length jobs) → Told M jobs taken job small (suc i)

-- The same, under other names.
pub ready_same : {M : Machine} {jobs : List Job} {weighed weighed' taken taken' : ℕ} {job job' : Job} {small small' : Bool} {supply i : ℕ}
    → weighed' ≡ weighed → taken' ≡ taken → job' ≡ job → small' ≡ small
    → Ready M jobs weighed taken job small supply i → Ready M jobs weighed' taken' job' small' supply i
ready_same d t j s r = rw (d, t, j, s) r

module _ (M : Machine) (jobs : List Job) (given : Given M jobs) where
  abbrev H : ℕ
  H = hyperperiod jobs

  abbrev ws : List ℕ
  ws = works jobs

  -- How many steps there are: with fewer jobs than processors, those after the last job raise nothing.
  abbrev last : ℕ
  last = min M.processors (length jobs)

  pub works_length : length ws ≡ length jobs
  unfolding works
  works_length = length-map jobs (work H)

  -- All work: what each job can ask for, 64 times.
  pub work_most : sum ws ≤ 64 * 65535 * hyperperiod_limit
  unfolding works
  work_most =
      le_trans (works_bound H jobs given.in_range_law) (mul-le-mul (mul-le-mul_right 65535 given.few) given.limited)

  -- ---- The demand of test suc i

  pub demand_last : (i : ℕ) → last ≤ suc i → demand M H ws (suc i) ≡ sum ws
  demand_last i e = go (dec_lt (suc i) M.processors)
    where
      go : Dec (suc i < M.processors) → demand M H ws (suc i) ≡ sum ws
      go (yes h) = demand_part M H ws (suc i) h ∙ largest_all (min (suc i) (length ws)) ws (omega (arith, works_length))
      go (no h) = demand_whole M H ws (suc i) (omega arith)

  pub demand_more : (i : ℕ) → suc i < last → demand M H ws (suc i) ≡ largest (suc i) ws
  demand_more i h =
      let e : min (suc i) (length ws) ≡ suc i = omega (arith, works_length) in
      rw (demand_part M H ws (suc i) (omega arith), e)

  -- Later works are no larger.
  works_fall : (i k : ℕ) → i ≤ k → k < length jobs → work H (turn jobs (suc k)) ≤ work H (turn jobs (suc i))
  works_fall i =
      le_ind (λ k. k < length jobs → work H (turn jobs (suc k)) ≤ work H (turn jobs (suc i))) (λ _. le_refl _)
      (λ k _ ih h. le_trans ((takes_in_turn jobs given.in_range_law given.rising).never_rises k h) (ih (omega arith)))

  -- ---- Before a step

  -- The last step weighs all works.
  pub ready_last : (i supply weighed taken : ℕ) (job : Job) (small : Bool) → suc i ≡ last → weighed ≡ sum ws
      → Ready M jobs weighed taken job small supply i
  ready_last i supply weighed taken job small e a = record {
    asks = inl (ap (λ (d : ℕ). top M * d) (a ∙ sym (demand_last i (omega arith))));
    most = omega arith;
    same = λ h. absurd (omega arith);
    told = λ h. absurd (omega arith);
  }

  module _ (i supply taken : ℕ) (job : Job) (small : Bool) (told : Told M jobs taken job small i) (more : suc i < last) where
    -- A job more, where the rest is not small: the next largest work.
    module _ (n : small ≡ false) (job' : Job) (w : ℕ) (j : job' ≡ next_after job jobs) where
      next_is : job' ≡ turn jobs (suc i)
      unfolding turn
      next_is = j ∙ ap (λ last. next_after last jobs) (told.exact n).1

      module _ (e : w ≡ work H job') where
        work_more : taken + w ≡ largest (suc i) ws
        work_more =
            ap₂ ◌+◌ (told.exact n).0 (e ∙ ap (work H) next_is)
            ∙ sym (turn_work jobs given.in_range_law given.rising i (omega arith))

        pub work_more_most : taken + w ≤ 64 * 65535 * hyperperiod_limit
        work_more_most = omega (arith, work_more, largest_some (suc i) ws, work_most)

        pub ready_taken : (weighed taken' : ℕ) (small' : Bool) → taken' ≡ taken + w → weighed ≡ taken' → small' ≡ leb (top M * w) (H * M.lowest)
            → Ready M jobs weighed taken' job' small' supply i
        ready_taken weighed taken' small' t d s = record {
          asks = inl (ap (λ (x : ℕ). top M * x) (d ∙ t ∙ work_more ∙ sym (demand_more i more)));
          most = omega (arith, work_more, largest_some (suc i) ws);
          same = λ _. d;
          told = λ _. record {
            exact = λ _. (t ∙ work_more, next_is);
            most = omega (arith, work_more, largest_some (suc i) ws);
            rest = λ small k b h. le_trans
                (mul-le-mul_left (top M) (rw (e ∙ ap (work H) next_is) (works_fall i k (omega arith) h)))
                (leb-true (top M * w) (H * M.lowest) (sym s ∙ small));
          };
        }

    -- Where it is small, test suc i holds already.
    pub ready_small : small ≡ true → top M * taken ≤ supply → top M * largest i ws ≤ supply → (supply' weighed : ℕ) → supply' ≡ supply + H * M.lowest
        → weighed ≡ taken → Ready M jobs weighed taken job small supply' i
    ready_small y weighed-so-far tested supply' weighed s d =
        let one : largest (suc i) ws ≡ largest i ws + work H (turn jobs (suc i)) =
        turn_work jobs given.in_range_law given.rising i (omega arith) in
        record {
          asks = inr (rw d (omega arith), rw (demand_more i more, one) (omega (arith, told.rest y i (le_refl i) (omega arith))));
          most = rw d told.most;
          same = λ _. d;
          told = λ _. record {
            exact = λ n. absurd (true≢false (sym y ∙ n));
            most = told.most;
            rest = λ small k b h. told.rest small k (omega arith) h;
          };
        }

  -- ---- Before the first step none is taken

  pub told_begin : (job : Job) → job ≡ none_taken → Told M jobs 0 job false 0
  unfolding turn
  told_begin job e = record {
    exact = λ _. (sym (largest_zero ws), e);
    most = omega arith;
    rest = λ e. absurd (false≢true e);
  }
