-- What holds of every job of a list, and that jobs stand by rising id, holds in one way alone: so it may stand beside a list as a ghost field.
use Rattle.std.specs.Prelude.{List, [], ◌∷◌}
use Rattle.std.specs.Coded.{×_prop, Unit-prop, le_prop}
use Rattle.gmf.specs.declared.Job.{Job}
use Rattle.gmf.specs.Jobs.{JobInRange, ByRisingId, Every}

module _ (P : Job → Type 0) (once : (job : Job) → IsProp (P job)) where
  every_once : (jobs : List Job) → IsProp (Every P jobs)
  every_once [] = Unit-prop
  every_once (job ∷ jobs) = ×_prop (once job) (every_once jobs)

pub in_range_once : (jobs : List Job) → IsProp (Every JobInRange jobs)
in_range_once = every_once JobInRange (λ job. Prim.hlevel le_prop)

pub rising_once : (jobs : List Job) → IsProp (ByRisingId jobs)
rising_once [] = Unit-prop
rising_once (job ∷ jobs) = ×_prop (every_once _ (λ other. le_prop) jobs) (rising_once jobs)
