-- The loop over the tests: what it keeps, and what a turn makes of that.
use Prim.Native.Nat.{ℕ, zero, suc, ◌+◌, ◌-◌, ◌*◌, ◌≤◌, ◌<◌, min}
use native.Mathlib.Nat.{mul-le-mul}
use native.Mathlib.Omega.{arith}
use mathlib.Core.Path.{◌≡◌, refl, sym, ap, ap₂, ◌∙◌}
use mathlib.Core.List.{List, [], ◌∷◌, ◌++◌}
use lib.IntN.{ℤ, pos, sub_ℕ}
use lib.ListN.{length, set, replicate}
use Rattle.gmf.specs.declared.Machine.{Machine}
use Rattle.gmf.specs.declared.Job.{Job}
use Rattle.gmf.specs.Machine.{speed, top}
use Rattle.gmf.specs.Jobs.{hyperperiod, hyperperiod_limit, work, works}
use Rattle.gmf.specs.Capacity.{sum, largest, level, capacity}
use Rattle.gmf.specs.Growing.{demand}
use Rattle.gmf.proofs.Largest.{largest_zero, largest_some}
use Rattle.selection.specs.Turns.{none_taken, next_after, turn}
use Rattle.selection.proofs.Turns.{turn_work}
use Rattle.growing.proofs.Works.{Given, work_most, demand_more, demand_last}
use Rattle.slack.specs.declared.Slack.{Slack}
use Rattle.slack.specs.Slack.{slack_of, difference, slack_at, one_up_to, ticks_of, remainders_of}
use Rattle.slack.proofs.Lists.{up_to_set}
use Rattle.slack_calls.specs.Slacks.{slack_under}

-- The speed of the next processor.
capacity_more : (M : Machine) (k : ℕ) (plan : List ℕ) → k < length plan → capacity M (suc k) plan ≡ capacity M k plan + speed M (level plan k)
unfolding capacity
capacity_more M k [] h = absurd (omega arith)
capacity_more M zero (x ∷ xs) h = omega arith
capacity_more M (suc k) (x ∷ xs) h = omega (arith, capacity_more M k xs (omega arith))

-- More than one processor gets done in a hyperperiod, whatever its level.
abbrev pub most_supply : ℕ
most_supply = 72057594037927936

abbrev last_step : Machine → List Job → ℕ
last_step M jobs = min M.processors (length jobs)

abbrev ticks_at : Machine → List Job → List ℕ → ℕ → ℤ
ticks_at M jobs plan i = (slack_at M (hyperperiod jobs) (works jobs) plan i).ticks

abbrev remainder_at : Machine → List Job → List ℕ → ℕ → ℕ
remainder_at M jobs plan i = (slack_at M (hyperperiod jobs) (works jobs) plan i).remainder

-- After the tests 1 to i. Of the works taken, as long as another may be.
pub record Walked (M : Machine) (jobs : List Job) (plan : List ℕ) (ticks : List ℤ) (remainders : List ℕ) (supply taken : ℕ) (job : Job) (i : ℕ) : Type 0 where
  pub supplied : supply ≡ hyperperiod jobs * capacity M i plan
  pub bounded : supply ≤ i * most_supply
  pub told : i < last_step M jobs → (taken ≡ largest i (works jobs)) × (job ≡ turn jobs i)
  pub most : taken ≤ sum (works jobs)
  pub ticks_are : ticks ≡ one_up_to (ticks_at M jobs plan) i ++ replicate (32 - i) (pos 0)
  pub remainders_are : remainders ≡ one_up_to (remainder_at M jobs plan) i ++ replicate (32 - i) 0

-- What test suc i asks for, and the works taken with it.
pub record Weighed (M : Machine) (jobs : List Job) (taken : ℕ) (job : Job) (asked i : ℕ) : Type 0 where
  pub asks : asked ≡ demand M (hyperperiod jobs) (works jobs) (suc i)
  pub few : asked ≤ sum (works jobs)
  pub told : suc i < last_step M jobs → (taken ≡ largest (suc i) (works jobs)) × (job ≡ turn jobs (suc i))
  pub most : taken ≤ sum (works jobs)

module _ (M : Machine) (jobs : List Job) (given : Given M jobs) (plan : List ℕ) where
  abbrev H : ℕ
  H = hyperperiod jobs

  abbrev ws : List ℕ
  ws = works jobs

  abbrev last : ℕ
  last = last_step M jobs

  pub walk_begin : (job : Job) → job ≡ none_taken → Walked M jobs plan (replicate 32 (pos 0)) (replicate 32 0) 0 0 job 0
  unfolding capacity turn one_up_to
  walk_begin job e = record {
    supplied = omega arith;
    bounded = omega arith;
    told = λ _. (sym (largest_zero ws), e);
    most = omega arith;
    ticks_are = refl;
    remainders_are = refl;
  }

  -- From the last step on, all works.
  pub weigh_all : (i taken asked : ℕ) (job : Job) → last ≤ suc i → taken ≤ sum ws → asked ≡ sum ws → Weighed M jobs taken job asked i
  weigh_all i taken asked job h most e = record {
    asks = e ∙ sym (demand_last M jobs given i h);
    few = omega arith;
    told = λ t. absurd (omega arith);
    most = most;
  }

  -- Before it, one job more: the next largest work.
  module _ (i taken w : ℕ) (job job' : Job) (more : suc i < last) (told : (taken ≡ largest i ws) × (job ≡ turn jobs i)) (j : job' ≡ next_after job jobs)
      (e : w ≡ work H job') where
    next_is : job' ≡ turn jobs (suc i)
    unfolding turn
    next_is = j ∙ ap (λ last. next_after last jobs) told.1

    work_more : taken + w ≡ largest (suc i) ws
    work_more =
        ap₂ ◌+◌ told.0 (e ∙ ap (work H) next_is) ∙ sym (turn_work jobs given.in_range_law given.rising i (omega arith))

    pub sum_most : taken + w ≤ 64 * 65535 * hyperperiod_limit
    sum_most = omega (arith, work_more, largest_some (suc i) ws, work_most M jobs given)

    pub weigh_next : (taken' asked : ℕ) → taken' ≡ taken + w → asked ≡ taken' → Weighed M jobs taken' job' asked i
    weigh_next taken' asked t a = record {
      asks = a ∙ t ∙ work_more ∙ sym (demand_more M jobs given i more);
      few = omega (arith, work_more, largest_some (suc i) ws);
      told = λ _. (t ∙ work_more, next_is);
      most = omega (arith, work_more, largest_some (suc i) ws);
    }

  pub need_few : (i taken asked : ℕ) (job : Job) → Weighed M jobs taken job asked i → top M ≤ 256 → top M * asked < 9223372036854775808
  need_few i taken asked job w t =
      let a : asked ≤ 64 * 65535 * hyperperiod_limit = omega (arith, w.few, work_most M jobs given) in
      omega (arith, mul-le-mul t a)

  -- A turn.
  module _ (ticks : List ℤ) (remainders : List ℕ) (supply taken : ℕ) (job : Job) (i : ℕ) (k : Walked M jobs plan ticks remainders supply taken job i)
      (inside : i < M.processors) (size : length plan ≡ M.processors) (taken' asked : ℕ) (job' : Job) (w : Weighed M jobs taken' job' asked i)
      (v supply' : ℕ) (at : v ≡ level plan i) (few : speed M v ≤ 4294967296) (s : supply' ≡ supply + H * speed M v) where
    pub supply_bound : supply' ≤ suc i * most_supply
    supply_bound = omega (arith, k.bounded, mul-le-mul given.limited few)

    supply_is : supply' ≡ H * capacity M (suc i) plan
    supply_is =
        s ∙ omega (
          arith,
          k.supplied,
          ap (λ (n : ℕ). H * n) (capacity_more M i plan (omega arith)),
          ap (λ (l : ℕ). H * speed M l) at,
        )

    pub slack_is : (q need : ℕ) (slack : Slack) → q ≡ top M → need ≡ top M * asked → slack ≡ slack_of (sub_ℕ supply' need) q
        → slack ≡ slack_at M H ws plan (suc i)
    unfolding slack_at difference
    slack_is q need slack e n f =
        f
        ∙ ap₂ (λ (x : ℤ) (p : ℕ). slack_of x p)
        (ap₂ sub_ℕ supply_is (n ∙ ap (λ (d : ℕ). top M * d) w.asks))
        e

    pub walk_on : (slack : Slack) → slack ≡ slack_at M H ws plan (suc i) → (t : ℤ) (r : ℕ) → t ≡ slack.ticks → r ≡ slack.remainder
        → Walked M jobs plan (set ticks i t) (set remainders i r) supply' taken' job' (suc i)
    walk_on slack e t r f g =
        let place : i < 32 = omega (arith, given.machine.processors.1) in
        record {
          supplied = supply_is;
          bounded = supply_bound;
          told = w.told;
          most = w.most;
          ticks_are = ap (λ (l : List ℤ). set l i t) k.ticks_are ∙ up_to_set (ticks_at M jobs plan) i 32 (pos 0) t place (f ∙ ap (λ (q : Slack). q.ticks) e);
          remainders_are =
              ap (λ (l : List ℕ). set l i r) k.remainders_are ∙ up_to_set (remainder_at M jobs plan) i 32 0 r place (g ∙ ap (λ (q : Slack). q.remainder) e);
        }

  -- After the last test.
  pub walk_end : (ticks : List ℤ) (remainders : List ℕ) (supply taken : ℕ) (job : Job) (i : ℕ) → Walked M jobs plan ticks remainders supply taken job i → i ≡ M.processors
      → record { ticks = ticks; remainders = remainders } ≡ slack_under M jobs plan
  unfolding slack_under ticks_of remainders_of
  walk_end ticks remainders supply taken job i k e =
      ap₂ (λ (t : List ℤ) (r : List ℕ). record { ticks = t; remainders = r })
      (k.ticks_are ∙ ap (λ (n : ℕ). one_up_to (ticks_at M jobs plan) n ++ replicate (32 - n) (pos 0)) e)
      (k.remainders_are ∙ ap (λ (n : ℕ). one_up_to (remainder_at M jobs plan) n ++ replicate (32 - n) 0) e)
