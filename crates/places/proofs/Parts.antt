-- The part of the places that a job is put into, or taken out of, and the places after it: together they are the whole.
use Prim.Native.Nat.{ℕ, zero, suc, ◌+◌, ◌≤◌, ◌<◌}
use native.Mathlib.Numerals.{add-one}
use native.Mathlib.Omega.{arith}
use mathlib.Core.Path.{◌≡◌, refl, sym, ap}
use mathlib.Core.List.{List, [], ◌∷◌, ◌++◌, append_assoc}
use lib.ListN.{length, take, drop, length-append, length-take, length-drop}
use lib.Seq.{take-take, take_all, length-take-le}
use Rattle.gmf.specs.declared.Job.{Job}
use Rattle.places.specs.Places.{no_job}

-- Of what is put together from a list, the first n need the list's first n alone.
put_first : (job : Job) (at n : ℕ) (jobs : List Job)
    → take n (take at (take n jobs) ++ job ∷ drop at (take n jobs)) ≡ take n (take at jobs ++ job ∷ drop at jobs)
put_first job at zero jobs = refl
put_first job zero (suc n) jobs = ap (λ (l : List Job). job ∷ l) (take-take n (suc n) jobs (omega arith))
put_first job (suc at) (suc n) [] = refl
put_first job (suc at) (suc n) (other ∷ jobs) = ap (λ (l : List Job). other ∷ l) (put_first job at n jobs)

rest_first : (more : List Job) (at n : ℕ) (jobs : List Job) → take n (take at (take n jobs) ++ more) ≡ take n (take at jobs ++ more)
rest_first more at zero jobs = refl
rest_first more zero (suc n) jobs = refl
rest_first more (suc at) (suc n) [] = refl
rest_first more (suc at) (suc n) (other ∷ jobs) = ap (λ (l : List Job). other ∷ l) (rest_first more at n jobs)

-- The first n of some jobs, and what stands after n of 64 places, are not more than 64.
all_places : (n : ℕ) (first jobs : List Job) → length jobs ≡ 64 → n ≤ 64 → take n first ++ drop n jobs ≡ take 64 (take n first ++ drop n jobs)
all_places n first jobs long few = sym (take_all 64 (take n first ++ drop n jobs) (simp (length-append, length-take, length-drop) (omega arith)))

module _ (jobs : List Job) (long : length jobs ≡ 64) (held at : ℕ) {part : List Job} where
  -- `place_moves::put_in`, lent the places held and one more.
  pub put_in_part : (job : Job) → held < 64
      → part ≡ take (length (take (held + 1) jobs)) (take at (take (held + 1) jobs) ++ job ∷ drop at (take (held + 1) jobs))
      → part ++ drop (held + 1) jobs ≡ take 64 (take (suc held) (take at jobs ++ job ∷ drop at jobs) ++ drop (suc held) jobs)
  put_in_part job room put =
      let size : length (take (suc held) jobs) ≡ suc held = length-take-le (suc held) jobs (omega arith) in
      rw (put, add-one held, size, put_first job at (suc held) jobs)
      (all_places (suc held) (take at jobs ++ job ∷ drop at jobs) jobs long (omega arith))

  -- `place_moves::take_out`, lent the places held.
  pub taken_out_part : held ≤ 64
      → part ≡ take (length (take held jobs)) (take at (take held jobs) ++ drop (suc at) (take held jobs) ++ no_job ∷ [])
      → part ++ drop held jobs
      ≡ take 64 (take held (take at jobs ++ drop (suc at) (take held jobs) ++ no_job ∷ []) ++ drop held jobs)
  taken_out_part few taken =
      let size : length (take held jobs) ≡ held = length-take-le held jobs (omega arith) in
      let behind = drop (suc at) (take held jobs) in
      rw (
        taken,
        size,
        append_assoc (take at (take held jobs)) behind (no_job ∷ []),
        append_assoc (take at jobs) behind (no_job ∷ []),
        rest_first (behind ++ no_job ∷ []) at held jobs,
      )
      (all_places held (take at jobs ++ (behind ++ no_job ∷ [])) jobs long few)
