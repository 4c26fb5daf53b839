-- The levels while a plan grows, and how many processors are above each level.
use Prim.Native.Nat.{ℕ, zero, suc, ◌+◌, ◌-◌, ◌≤◌, ◌<◌, zero-le}
use native.Mathlib.Nat.{not-suc-le-zero}
use native.Mathlib.Decide.{ℕ_discrete, dec_lt}
use native.Mathlib.Numerals.{add-one}
use native.Mathlib.Omega.{arith}
use mathlib.Core.Path.{◌≡◌, refl, sym, ap, ◌∙◌}
use mathlib.Core.List.{List, [], ◌∷◌, ◌++◌}
use lib.ListN.{length, take, drop, set, replicate, length-set, length-drop, take-append-drop, get_or-eq_default}
use lib.Seq.{get_or-set_same, get_or-set_other, get_or-take, get_or-drop, take-set-lt, length-take-le}
use Rattle.gmf.specs.Capacity.{level}
use Rattle.gmf.specs.Growing.{slowest, raise}
use Rattle.gmf.specs.Claims.{IsSlowest}
use Rattle.gmf.proofs.Sums.{Falling, level_replicate}
use Rattle.gmf.proofs.Raise.{finds_slowest}

-- What holds at the place p of what is stored there, and elsewhere of what stood there, holds at every place.
stored : (P : ℕ → ℕ → Type 0) (l : List ℕ) (p x : ℕ) → p < length l → P p x → ((k : ℕ) → (k ≡ p → ⊥) → P k (level l k))
    → (k : ℕ) → P k (level (set l p x) k)
stored P l p x inside at other k = go (ℕ_discrete k p)
  where
    go : Dec (k ≡ p) → P k (level (set l p x) k)
    go (yes e) = rw (e, get_or-set_same l p x 0 inside) at
    go (no n) = rw (get_or-set_other l p k x 0 n) (other k n)

-- The levels of the first i processors, none above `top`, and zeros after them. A processor k is above a level u exactly when k is
-- below the number of those above u: so the levels never rise.
pub record Levels (top i : ℕ) (levels above : List ℕ) : Type 0 where
  pub size : length levels ≡ 32
  pub above_size : length above ≡ 32
  pub counted : (k u : ℕ) → k < level above u → u < level levels k
  pub reached : (k u : ℕ) → u < level levels k → k < level above u
  pub joined : level above 0 ≤ i
  pub within : (k : ℕ) → level levels k ≤ top

zeros : (k : ℕ) → level (replicate 32 0) k ≡ 0
zeros k = omega (arith, level_replicate 32 0 k)

pub levels_begin : (top : ℕ) → Levels top 0 (replicate 32 0) (replicate 32 0)
levels_begin top = record {
  size = refl;
  above_size = refl;
  counted = λ k u h. absurd (omega (arith, zeros u));
  reached = λ k u h. absurd (omega (arith, zeros k));
  joined = zero-le;
  within = λ k. omega (arith, zeros k);
}

-- One processor more, at level 0.
pub levels_join : {top i : ℕ} {levels above : List ℕ} → Levels top i levels above → Levels top (suc i) levels above
levels_join {top} {i} l = record {
  size = l.size;
  above_size = l.above_size;
  counted = l.counted;
  reached = l.reached;
  joined = omega (arith, l.joined);
  within = l.within;
}

module _ {top i : ℕ} {levels above : List ℕ} (l : Levels top i levels above) where
  -- Past the first i no processor is above level 0.
  pub level_none : (k : ℕ) → i ≤ k → level levels k ≡ 0
  level_none k h = go (dec_lt 0 (level levels k))
    where
      go : Dec (0 < level levels k) → level levels k ≡ 0
      go (yes t) = absurd (omega (arith, l.reached k 0 t, l.joined))
      go (no t) = omega arith

  pub levels_fall : Falling levels
  levels_fall k = go (dec_lt (level levels k) (level levels (suc k)))
    where
      go : Dec (level levels k < level levels (suc k)) → level levels (suc k) ≤ level levels k
      go (yes t) = absurd (omega (arith, l.counted k (level levels k) (omega (arith, l.reached (suc k) (level levels k) t))))
      go (no t) = omega arith

-- Of the first i processors v is the lowest level, and p the lowest-numbered at it.
pub record Slowest (i v p : ℕ) (above : List ℕ) : Type 0 where
  pub place : p ≡ level above v
  pub inside : p < i
  pub lower : (u : ℕ) → u < v → i ≤ level above u

module _ {top i v p : ℕ} {levels above : List ℕ} (l : Levels top i levels above) (s : Slowest i v p above) where
  pub lowest : (k : ℕ) → k < i → v ≤ level levels k
  lowest k h = go v refl
    where
      go : (w : ℕ) → w ≡ v → w ≤ level levels k
      go zero e = zero-le
      go (suc u) e = l.counted k u (omega (arith, s.lower u (omega arith)))

  pub level_slowest : level levels p ≡ v
  level_slowest = go (dec_lt v (level levels p))
    where
      go : Dec (v < level levels p) → level levels p ≡ v
      go (yes t) = absurd (omega (arith, l.reached p v t, s.place))
      go (no t) = omega (arith, lowest p s.inside)

-- Where a step begins, every processor at level 0 is the slowest.
pub slowest_begin : {top i : ℕ} {levels above : List ℕ} → Levels top i levels above → Slowest (suc i) 0 (level above 0) above
slowest_begin l = record { place = refl; inside = omega (arith, l.joined); lower = λ u h. absurd (not-suc-le-zero h) }

-- ---- A raise

module _ {top i v p : ℕ} {levels above : List ℕ} (l : Levels top i levels above) (s : Slowest i v p above) (low : v < top) (few : i ≤ 32) (top_few : top < 32) where
  abbrev levels' : List ℕ
  levels' = set levels p (v + 1)

  abbrev above' : List ℕ
  above' = set above v (p + 1)

  p_in : p < length levels
  p_in = omega (arith, l.size, s.inside)

  v_in : v < length above
  v_in = omega (arith, l.above_size)

  pub levels_raise : Levels top i levels' above'
  levels_raise = record {
    size = length-set levels p (v + 1) ∙ l.size;
    above_size = length-set above v (p + 1) ∙ l.above_size;
    counted = λ k u. stored (λ u x. k < x → u < level levels' k) above v (p + 1) v_in
        (stored (λ k x. k < p + 1 → v < x) levels p (v + 1) p_in (λ h. omega arith) (λ k n h. l.counted k v (omega (arith, s.place))) k)
        (λ u n. stored (λ k x. k < level above u → u < x) levels p (v + 1) p_in
        (λ h. omega (arith, l.counted p u h, level_slowest l s)) (λ k _ h. l.counted k u h) k)
        u;
    reached = λ k u. stored (λ u x. u < level levels' k → k < x) above v (p + 1) v_in
        (stored (λ k x. v < x → k < p + 1) levels p (v + 1) p_in (λ h. omega arith) (λ k n h. omega (arith, l.reached k v h, s.place)) k)
        (λ u n. stored (λ k x. u < x → k < level above u) levels p (v + 1) p_in
        (λ h. l.reached p u (omega (arith, level_slowest l s))) (λ k _ h. l.reached k u h) k)
        u;
    joined = stored (λ u x. u ≡ 0 → x ≤ i) above v (p + 1) v_in (λ e. omega (arith, s.inside)) (λ u n e. rw e l.joined) 0 refl;
    within = stored (λ k x. x ≤ top) levels p (v + 1) p_in (omega arith) (λ k n. l.within k);
  }

  -- The levels below v stay so.
  lower_kept : (u : ℕ) → u < v → i ≤ level above' u
  lower_kept u h = rw (get_or-set_other above v u (p + 1) 0 (λ e. omega arith)) (s.lower u h)

  -- The next of those at v, or, where p was the last, the first of those one level up.
  pub slowest_next : p + 1 < i → Slowest i v (p + 1) above'
  slowest_next h = record { place = sym (get_or-set_same above v (p + 1) 0 v_in); inside = h; lower = lower_kept }

  pub slowest_up : p + 1 ≡ i → Slowest i (v + 1) (level above' (v + 1)) above'
  slowest_up e = record {
    place = refl;
    inside = rw (get_or-set_other above v (v + 1) (p + 1) 0 (λ e. omega arith)) up;
    lower = λ u h. go u h (ℕ_discrete u v);
  }
    where
      up : level above (v + 1) < i
      up = none (dec_lt p (level above (v + 1)))
        where
          none : Dec (p < level above (v + 1)) → level above (v + 1) < i
          none (yes h) = absurd (omega (arith, l.counted p (v + 1) h, level_slowest l s))
          none (no h) = omega (arith, s.inside)

      go : (u : ℕ) → u < v + 1 → Dec (u ≡ v) → i ≤ level above' u
      go u h (yes d) = rw (d, get_or-set_same above v (p + 1) 0 v_in) (omega arith)
      go u h (no d) = lower_kept u (omega arith)

-- ---- The plan so far: the first m of the levels

module _ (m : ℕ) (small : m ≤ 32) {top i : ℕ} {levels above : List ℕ} (l : Levels top i levels above) (in-m : i ≤ m) where
  pub plan_length : length (take m levels) ≡ m
  plan_length = length-take-le m levels (omega (arith, l.size))

  pub plan_level : (k : ℕ) → level (take m levels) k ≡ level levels k
  plan_level k = go (dec_lt k m)
    where
      go : Dec (k < m) → level (take m levels) k ≡ level levels k
      go (yes h) = get_or-take m levels k 0 h
      go (no h) = get_or-eq_default (take m levels) 0 {n = k} (omega (arith, plan_length)) ∙ sym (level_none l k (omega arith))

  pub plan_falls : Falling (take m levels)
  plan_falls k = rw (plan_level k, plan_level (suc k)) (levels_fall l k)

  pub plan_within : (k : ℕ) → level (take m levels) k ≤ top
  plan_within k = rw (plan_level k) (l.within k)

  -- With zeros after it, it is all of the levels.
  all_zero_law : (xs : List ℕ) → ((k : ℕ) → level xs k ≡ 0) → xs ≡ replicate (length xs) 0
  all_zero_law [] h = refl
  all_zero_law (x ∷ xs) h = ap (λ (y : ℕ). y ∷ xs) (h 0) ∙ ap (◌∷◌ 0) (all_zero_law xs (λ k. h (suc k)))

  pub plan_padded : levels ≡ take m levels ++ replicate (32 - length (take m levels)) 0
  plan_padded =
      let n : length (drop m levels) ≡ 32 - length (take m levels) = omega (arith, length-drop m levels, l.size, plan_length) in
      let z = all_zero_law (drop m levels) (λ k. get_or-drop m levels k 0 ∙ level_none l (m + k) (omega arith)) in
      sym (take-append-drop m levels) ∙ ap (◌++◌ (take m levels)) (z ∙ ap (λ (n : ℕ). replicate n 0) n)

  -- The raise of the definition is the store.
  module _ {v p : ℕ} (s : Slowest i v p above) where
    is_slowest : IsSlowest i (take m levels) p
    is_slowest = record {
      inside = s.inside;
      slowest_of = λ k h. rw (plan_level p, plan_level k, level_slowest l s) (lowest l s k h);
      lowest_numbered = λ k h. rw (plan_level p, plan_level k, level_slowest l s) (l.counted k v (rw (← s.place) h));
    }

    pub slowest_is : slowest i (take m levels) ≡ p
    slowest_is = sym ((finds_slowest i (omega (arith, s.inside)) (take m levels) p).0 is_slowest)

    pub raise_is : raise i (take m levels) ≡ take m (set levels p (v + 1))
    unfolding raise
    raise_is =
        rw (slowest_is, plan_level p, level_slowest l s, ← add-one v) (sym (take-set-lt m levels p (v + 1) (omega (arith, s.inside))))
