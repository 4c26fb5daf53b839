-- The claims of the plan call, proved.
use Prim.Native.Nat.{ℕ, zero, suc, ◌+◌, ◌*◌, ◌≤◌, ◌<◌}
use native.Mathlib.Decide.{dec_le, dec_lt}
use native.Mathlib.Omega.{arith}
use mathlib.Core.Path.{◌≡◌, refl, sym, ap, subst, ◌∙◌}
use mathlib.Core.List.{List, [], ◌∷◌, ◌++◌, map}
use lib.ListN.{length, take, drop, length-map}
use Rattle.gmf.specs.declared.Machine.{Machine}
use Rattle.gmf.specs.declared.Job.{Job}
use Rattle.gmf.specs.Growing.{Growth, Grown, NoPlan, plan_of}
use Rattle.gmf.specs.Jobs.{hyperperiod, works}
use Rattle.gmf.specs.Capacity.{sum, level}
use Rattle.gmf.specs.Power.{power, power_limit, total}
use Rattle.gmf.specs.Claims.{Least}
use Rattle.gmf.proofs.Results.{method}
use Rattle.planner.specs.Model.{Model, Closed, Opened}
use Rattle.planner.specs.Claims.{Kept}
use Rattle.refusals.specs.declared.Refusal.TheVariants as refusal
use Rattle.refusals.proofs.Results.{number_rule}
use Rattle.filing.specs.Plans.{Filed, put_on, plan_line, filed_as, filed_on, filed, plan_reply}
use Rattle.filing.specs.Claims.{frame_length, FiledPlan, ReplyRule, FileRule, FilesClosed, Files}
use Rattle.filing.proofs.AcceptanceTrials.{trials}
use Rattle.filing.proofs.Written.{put_room, put_no_room, put_rule, line_size}
use Rattle.filing.proofs.Sound.{grown}
use Rattle.filing.proofs.Replies.{unwritten_rule, any_reply, reply_kept}

-- ---- Sums of numbers that are not too large

Most : ℕ → List ℕ → Type 0
Most most [] = Unit {0}
Most most (x ∷ xs) = (x ≤ most) × Most most xs

sum_most : (most : ℕ) (xs : List ℕ) → Most most xs → sum xs ≤ length xs * most
unfolding Most
sum_most most [] few = omega arith
sum_most most (x ∷ xs) (h, few) = let others = sum_most most xs few in omega arith

map_most : (most : ℕ) (f : ℕ → ℕ) → ((k : ℕ) → f k ≤ most) → (xs : List ℕ) → Most most (map f xs)
unfolding Most
map_most most f h [] = tt
map_most most f h (x ∷ xs) = (h x, map_most most f h xs)

levels_most : (most : ℕ) (xs : List ℕ) → ((k : ℕ) → level xs k ≤ most) → Most most xs
unfolding Most
levels_most most [] h = tt
levels_most most (x ∷ xs) h = (h 0, levels_most most xs (λ k. h (suc k)))

past_end : (xs : List ℕ) (k : ℕ) → length xs ≤ k → level xs k ≡ 0
past_end [] k h = refl
past_end (x ∷ xs) zero h = absurd (omega arith)
past_end (x ∷ xs) (suc k) h = past_end xs k (omega arith)

-- ---- The plan that is filed

module _ (M : Machine) (table : List ℕ) (jobs : List Job) (kept : Kept (Opened M table jobs)) (plan : List ℕ) (raises : ℕ) (e : plan_of M jobs ≡ Grown plan raises) where
  abbrev line : List ℕ
  line = plan_line table jobs plan raises

  size : length line ≡ frame_length M.processors
  size = line_size table jobs plan raises ∙ ap frame_length ((method.plans_jobs M kept.0.machine_range.processors.0 kept.0.machine_range.levels.0 jobs).found plan raises e).is_plan.size

  is_filed : (page : List ℕ) (place : ℕ) → filed (Opened M table jobs) page place ≡ put_on page place line
  unfolding filed filed_on filed_as
  is_filed page place = ap (λ (g : Growth). filed_as table jobs g page place) e

  least : Least M (hyperperiod jobs) (works jobs) plan raises
  least = (method.plans_jobs M kept.0.machine_range.processors.0 kept.0.machine_range.levels.0 jobs).found plan raises e

  levels_few : (k : ℕ) → level plan k ≤ 31
  levels_few k = go (dec_lt k M.processors)
    where
      go : Dec (k < M.processors) → level plan k ≤ 31
      go (yes h) = omega (arith, least.is_plan.within k h, kept.0.machine_range.levels)
      go (no h) = let none : level plan k ≡ 0 = past_end plan k (omega (arith, least.is_plan.size)) in omega arith

  in_bytes : (k : ℕ) → level plan k < 256
  in_bytes k = omega (arith, levels_few k)

  powers_few : (k : ℕ) → power table k ≤ power_limit
  powers_few k = go (dec_lt k M.levels)
    where
      go : Dec (k < M.levels) → power table k ≤ power_limit
      go (yes h) = kept.0.table_rules.range k h
      go (no h) = let none : power table k ≡ 0 = past_end table k (omega (arith, kept.0.table_rules.size)) in omega arith

  -- 32 processors draw at most 32 times the largest power, and have at most 31 raises each.
  in_fields : (length jobs < 256) × (hyperperiod jobs < 4294967296) × (total table plan < 4294967296) × (raises < 65536)
  unfolding total
  in_fields =
      let m = kept.0.machine_range.processors in
      let size = least.is_plan.size in
      let drawn = sum_most 16777216 (map (power table) plan) (map_most 16777216 (power table) powers_few plan) in
      let raised = sum_most 31 plan (levels_most 31 plan levels_few) in (
        omega (arith, kept.1),
        omega (arith, kept.0.within_limit),
        omega (arith, drawn, length-map plan (power table), size, m),
        omega (arith, raised, least.counted, size, m),
      )

  filed_plan : FiledPlan M table jobs plan raises
  filed_plan =
      let p = method.plans_jobs M kept.0.machine_range.processors.0 kept.0.machine_range.levels.0 jobs in
      record {
        grown = e;
        least = p.found plan raises e;
        cheapest = p.cheapest plan raises e;
        frame = unfold plan_line in refl;
        in_fields = in_fields;
        in_bytes = in_bytes;
        size = size;
        written = λ page place h.
            is_filed page place
            ∙ put_room page place line (subst (λ (n : ℕ). place + n ≤ length page) (sym size) h)
            ∙ ap (λ (n : ℕ). record { number = 0; page = take place page ++ (line ++ drop (place + n) page); count = n }) size;
        no_room = λ page place n.
            is_filed page place ∙ put_no_room page place line (λ h. n (subst (λ (k : ℕ). place + k ≤ length page) size h));
      }

-- ---- On every model that calls can make

closed : FilesClosed
unfolding filed
closed page place = ap (λ (n : ℕ). record { number = n; page = page; count = 0 }) number_rule.no_machine

not_7 : (model : Model) → Kept model → (page : List ℕ) (place : ℕ) → (filed model page place).number ≡ 7 → ⊥
not_7 Closed kept page place e = omega (arith, ap (λ (f : Filed). f.number) (closed page place))
not_7 (Opened M table jobs) kept page place e = go (dec_le (place + frame_length M.processors) (length page))
  where
    found : (plan : List ℕ) × (raises : ℕ) × (plan_of M jobs ≡ Grown plan raises)
    found = grown M kept.0.machine_range jobs kept.0.some_plan

    filed_one : FiledPlan M table jobs found.0 found.1
    filed_one = filed_plan M table jobs kept found.0 found.1 found.2

    go : Dec (place + frame_length M.processors ≤ length page) → ⊥
    go (yes h) = omega (arith, ap (λ (f : Filed). f.number) (filed_one.written page place h))
    go (no n) = omega (arith, ap (λ (f : Filed). f.number) (filed_one.no_room page place n))

file_rule : (model : Model) → Kept model → FileRule model
unfolding plan_reply
file_rule model kept = record {
  never_7 = not_7 model kept;
  follows = reply_kept filed model kept;
  plan = λ M table jobs e.
      let open_kept = subst Kept e kept in
      let found = grown M open_kept.0.machine_range jobs open_kept.0.some_plan in
      (found.0, found.1, filed_plan M table jobs open_kept found.0 found.1 found.2);
}

rule_as : (table : List ℕ) (jobs : List Job) (g : Growth) (page : List ℕ) (place : ℕ) → ReplyRule (filed_as table jobs g page place) page place
unfolding filed_as
rule_as table jobs (Grown plan raises) page place = put_rule page place (plan_line table jobs plan raises)
rule_as table jobs NoPlan page place = unwritten_rule refusal.NoPlan page place

rule_on : (model : Model) (page : List ℕ) (place : ℕ) → ReplyRule (filed model page place) page place
unfolding filed filed_on
rule_on Closed page place = unwritten_rule refusal.NoMachine page place
rule_on (Opened M table jobs) page place = rule_as table jobs (plan_of M jobs) page place

pub files : Files
unfolding plan_reply
files = record { files_closed = closed; reply_rule = any_reply filed rule_on; file_rule = file_rule; trials = trials }
