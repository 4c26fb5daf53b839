-- The slack of a sound roster's plan: what the code writes of it is its frame.
use Prim.Native.Nat.{ℕ, ◌+◌, ◌-◌, ◌*◌}
use native.Mathlib.Omega.{arith}
use Rattle.std.specs.Prelude.{Some}
use mathlib.Core.Path.{◌≡◌, sym, ap, ap₂, ◌∙◌}
use mathlib.Core.List.{List, ◌++◌}
use lib.IntN.{ℤ, pos}
use lib.ListN.{length, take, replicate}
use lib.Seq.{take-append_seam}
use Rattle.gmf.specs.declared.Machine.{Machine}
use Rattle.gmf.specs.declared.Job.{Job}
use Rattle.gmf.specs.Growing.{Growth}
use Rattle.hexadecimal.specs.Text.{line_of}
use Rattle.hexadecimal.proofs.Results.{hexadecimal}
use Rattle.workload.specs.declared.Share.{Share}
use Rattle.growing.specs.declared.Plan.{Plan}
use Rattle.growing.specs.Plan.{planned}
use Rattle.slack.specs.Slack.{ticks_of, remainders_of}
use Rattle.slack.proofs.Results.{slacks}
use Rattle.slack_writer.specs.Frames.{slack_bytes}
use Rattle.slack_writer.proofs.Results.{slack_writing}
use Rattle.planner.specs.declared.Roster.{Roster}
use Rattle.planner.specs.Claims.{IsSound}
use Rattle.filing.specs.Plans.{put_on}
use Rattle.filing.proofs.Sound.{found, levels_are}
use Rattle.slack_calls.specs.declared.Slacks.{Slacks}
use Rattle.slack_calls.specs.Slacks.{slack_line, slack_as, slack_filed_on, slack_under}

-- The first m of m values and some more.
first_of : {A : Type 0} (l : List A) (m n : ℕ) (z : A) → length l ≡ m → take m (l ++ replicate n z) ≡ l
first_of l m n z e = ap (λ (k : ℕ). take k (l ++ replicate n z)) (sym e) ∙ take-append_seam l (replicate n z)

pub slack_size : (M : Machine) (jobs : List Job) (plan : List ℕ) → length (slack_line M jobs plan) ≡ 2 * (1 + 9 * M.processors) + 1
unfolding slack_line
slack_size M jobs plan =
    let lists = slacks.lists M jobs plan in
    omega (
      arith,
      hexadecimal.line_length (slack_bytes (ticks_of M jobs plan) (remainders_of M jobs plan)),
      slack_writing.slack_rule.size (ticks_of M jobs plan) (remainders_of M jobs plan) M.processors lists.ticks_size lists.remainders_size,
    )

module _ (r : Roster) (s : IsSound r) where
  abbrev M : Machine
  M = r.machine

  abbrev jobs : List Job
  jobs = take r.held r.jobs

  abbrev plan : List ℕ
  plan = (found r s).0

  -- The line that the code writes of a share of the roster is the frame's.
  pub line_is : (p : Plan) → Some p ≡ planned M jobs → (share : Share) → share.machine ≡ M → share.jobs.now ≡ jobs
      → (a : Slacks) → a ≡ slack_under share.machine share.jobs.now (take share.machine.processors p.levels)
      → line_of (slack_bytes (take share.machine.processors a.ticks) (take share.machine.processors a.remainders)) ≡ slack_line M jobs plan
  unfolding slack_line slack_under
  line_is p p-is share machine-is jobs-are a a-is =
      let lists = slacks.lists M jobs plan in
      let made : a ≡ slack_under M jobs plan
      = a-is ∙ ap₂ (λ (N : Machine) (l : List Job). slack_under N l (take N.processors p.levels)) machine-is jobs-are ∙ ap (slack_under M jobs) (levels_are r s p p-is) in
      let m-is = ap (λ (N : Machine). N.processors) machine-is in
      ap₂ (λ (t : List ℤ) (q : List ℕ). line_of (slack_bytes t q))
      (ap₂ take m-is (ap (λ (q : Slacks). q.ticks) made) ∙ first_of (ticks_of M jobs plan) M.processors (32 - M.processors) (pos 0) lists.ticks_size)
      (ap₂ take m-is (ap (λ (q : Slacks). q.remainders) made) ∙ first_of (remainders_of M jobs plan) M.processors (32 - M.processors) 0 lists.remainders_size)

  pub filed_is : (page : List ℕ) (place : ℕ) → put_on page place (slack_line M jobs plan) ≡ slack_filed_on M jobs page place
  unfolding slack_filed_on slack_as
  filed_is page place = ap (λ (g : Growth). slack_as M jobs g page place) (sym (found r s).2)
