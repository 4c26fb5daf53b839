-- What a call does to a model, one law for each way out.
use Prim.Native.Nat.{ℕ}
use mathlib.Core.Path.{◌≡◌, refl}
use mathlib.Core.Bool.{true, false}
use mathlib.Core.List.{List}
use Rattle.gmf.specs.declared.Machine.{Machine}
use Rattle.gmf.specs.declared.Job.{Job}
use Rattle.gmf.specs.Machine.{machine}
use Rattle.ranges.specs.Ranges.{one_to}
use Rattle.places.specs.Places.{has, remove}
use Rattle.refusals.specs.declared.Refusal.TheVariants.{Processors, Speeds, PowerTable, JobNumbers, NoMachine, IdNotHeld}
use Rattle.power_tables.specs.Tables.{is_table}
use Rattle.ranges.specs.Ranges.{speeds_fit}
use Rattle.planner.specs.Model.{Closed, Opened, OpenMachine, ReplaceTable, Retire, refused, accepted, refuse_if, is_opened, on_machine, opened, retired, step}

-- ---- No machine

pub table_11 : (numbers : List ℕ) → step Closed (ReplaceTable numbers) ≡ refused NoMachine
unfolding step on_machine
table_11 numbers = refl

pub retire_11 : (id : ℕ) → step Closed (Retire id) ≡ refused NoMachine
unfolding step on_machine
retire_11 id = refl

module _ (m L b d : ℕ) where
  pub open_1 : one_to 32 m ≡ false → step Closed (OpenMachine m L b d) ≡ refused Processors
  unfolding step is_opened refuse_if
  open_1 e = rw e

  pub open_2 : one_to 32 m ≡ true → speeds_fit L b d ≡ false → step Closed (OpenMachine m L b d) ≡ refused Speeds
  unfolding step is_opened refuse_if
  open_2 e f = rw (e, f)

  pub open_0 : one_to 32 m ≡ true → speeds_fit L b d ≡ true → step Closed (OpenMachine m L b d) ≡ accepted (opened (machine m L b d))
  unfolding step is_opened refuse_if
  open_0 e f = rw (e, f)

-- ---- A machine

module _ (M : Machine) (table : List ℕ) (jobs : List Job) where
  pub table_3 : (numbers : List ℕ) → is_table M numbers ≡ false → step (Opened M table jobs) (ReplaceTable numbers) ≡ refused PowerTable
  unfolding step on_machine refuse_if
  table_3 numbers e = rw e

  pub table_0 : (numbers : List ℕ) → is_table M numbers ≡ true → step (Opened M table jobs) (ReplaceTable numbers) ≡ accepted (Opened M numbers jobs)
  unfolding step on_machine refuse_if
  table_0 numbers e = rw e

  module _ (id : ℕ) where
    pub retire_4 : one_to 65535 id ≡ false → step (Opened M table jobs) (Retire id) ≡ refused JobNumbers
    unfolding step on_machine refuse_if
    retire_4 e = rw e

    pub retire_in : one_to 65535 id ≡ true → step (Opened M table jobs) (Retire id) ≡ retired id M table jobs
    unfolding step on_machine refuse_if
    retire_in e = rw e

    pub retire_14 : has id jobs ≡ false → retired id M table jobs ≡ refused IdNotHeld
    unfolding retired refuse_if
    retire_14 e = rw e

    pub retire_0 : has id jobs ≡ true → retired id M table jobs ≡ accepted (Opened M table (remove id jobs))
    unfolding retired refuse_if
    retire_0 e = rw e
