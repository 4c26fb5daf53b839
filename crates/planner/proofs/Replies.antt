-- What a call on a roster replies, as the code finds it.
use Prim.Native.Nat.{ℕ, suc, ◌-◌, ◌*◌, ◌≤◌, ◌<◌}
use native.Mathlib.Omega.{arith}
use mathlib.Core.Path.{◌≡◌, refl, sym, ap, ◌∙◌}
use mathlib.Core.Bool.{Bool, true, false}
use Rattle.std.specs.Prelude.{Some, Result, Ok, Err}
use mathlib.Core.List.{List, [], ◌∷◌, ◌++◌}
use lib.ListN.{length, take, drop, replicate, take-append-drop}
use lib.Seq.{length-take-le, take_all}
use Rattle.gmf.specs.declared.Machine.{Machine}
use Rattle.gmf.specs.declared.Job.{Job}
use Rattle.gmf.specs.Jobs.{JobInRange, hyperperiod_limit}
use Rattle.gmf.specs.Power.{default_table}
use Rattle.ranges.specs.Ranges.{one_to}
use Rattle.places.specs.Places.{no_job, places_of, listed, has, before, insert, remove}
use Rattle.places.proofs.Results.{placing}
use Rattle.power_tables.specs.Entries.{entries_of}
use Rattle.power_tables.proofs.Results.{table_laws}
use Rattle.workload.specs.declared.Totals.{Totals}
use Rattle.workload.specs.declared.Share.{Share}
use Rattle.workload.specs.Load.{totals, load_of, with_job}
use Rattle.workload.proofs.Loads.{load_within}
use Rattle.workload.proofs.Results.{workload}
use Rattle.planner.specs.declared.Roster.{Roster}
use Rattle.planner.specs.declared.Reply.{Reply}
use Rattle.planner.specs.declared.Condition.{Condition}
use Rattle.planner.specs.declared.Condition.TheVariants as condition
use Rattle.refusals.specs.declared.Refusal.{Refusal}
use Rattle.refusals.specs.declared.Refusal.TheVariants.{Damaged, NoMachine, MachineOpen, IdNotHeld}
use Rattle.power_tables.specs.Tables.{is_table}
use Rattle.planner.specs.Model.{Model, Closed, Opened, Call, OpenMachine, Retire, Outcome, refused, accepted, refuse_if, is_opened, on_machine, opened, retired, step}
use Rattle.planner.specs.Roster.{empty_roster, model_of, roster_of, well_formed, condition_of, inspected, totals_found, IsShareOf, replied, reply_to}
use Rattle.planner.specs.Claims.{IsSound, Inspects}
use Rattle.planner.proofs.Forms.{same_roster, rules_listed, form_sound, sound_form, form_rule, model_open, model_none}
use Rattle.planner.proofs.Outcomes.{retire_in, retire_14, retire_0}

-- ---- By what the roster was found to be

which : Condition → ℕ
which condition.Damaged = 0
which condition.Closed = 1
which (condition.Open t) = 2

inside : Condition → Totals
inside condition.Damaged = totals []
inside condition.Closed = totals []
inside (condition.Open t) = t

module _ (r : Roster) where
  found : (b : Bool) → well_formed r ≡ b → inspected r ≡ elim b [ true ↦ condition_of (model_of r) | false ↦ condition.Damaged ]
  unfolding inspected
  found b e = rw (e, inspected)

  pub is_damaged : inspected r ≡ condition.Damaged → well_formed r ≡ false
  unfolding which condition_of
  is_damaged e = go (well_formed r) refl (model_of r) refl
    where
      go : (b : Bool) → well_formed r ≡ b → (model : Model) → model_of r ≡ model → b ≡ false
      go false f model g = refl
      go true f Closed g = let z : ◌≡◌ {A = ℕ} 1 0 = ap which (sym (found true f ∙ ap condition_of g) ∙ e) in absurd (omega arith)
      go true f (Opened M table jobs) g = let z : ◌≡◌ {A = ℕ} 2 0 = ap which (sym (found true f ∙ ap condition_of g) ∙ e) in absurd (omega arith)

  -- What is not found to break a rule breaks none.
  pub is_well : (inspected r ≡ condition.Damaged → ⊥) → well_formed r ≡ true
  unfolding inspected
  is_well n = go (well_formed r) refl
    where
      go : (b : Bool) → well_formed r ≡ b → well_formed r ≡ true
      go true f = f
      go false f = absurd (n (rw (f, inspected)))

  pub is_closed : inspected r ≡ condition.Closed → (well_formed r ≡ true) × (model_of r ≡ Closed)
  unfolding which condition_of
  is_closed e = go (well_formed r) refl (model_of r) refl
    where
      go : (b : Bool) → well_formed r ≡ b → (model : Model) → model_of r ≡ model → (well_formed r ≡ true) × (model_of r ≡ Closed)
      go false f model g = let z : ◌≡◌ {A = ℕ} 0 1 = ap which (sym (found false f) ∙ e) in absurd (omega arith)
      go true f Closed g = (f, g)
      go true f (Opened M table jobs) g = let z : ◌≡◌ {A = ℕ} 2 1 = ap which (sym (found true f ∙ ap condition_of g) ∙ e) in absurd (omega arith)

  pub is_open : (t : Totals) → length r.table ≡ 32 → length r.jobs ≡ 64 → inspected r ≡ condition.Open t
      → IsSound r × (t ≡ totals (take r.held r.jobs))
  unfolding which inside condition_of
  is_open t entries places e = go (well_formed r) refl (model_of r) refl
    where
      go : (b : Bool) → well_formed r ≡ b → (model : Model) → model_of r ≡ model → IsSound r × (t ≡ totals (take r.held r.jobs))
      go false f model g = let z : ◌≡◌ {A = ℕ} 0 2 = ap which (sym (found false f) ∙ e) in absurd (omega arith)
      go true f Closed g = let z : ◌≡◌ {A = ℕ} 1 2 = ap which (sym (found true f ∙ ap condition_of g) ∙ e) in absurd (omega arith)
      go true f (Opened M table jobs) g =
          let some : r.machine.processors ≡ 0 → ⊥
          = λ none. let z : ◌≡◌ {A = ℕ} 2 1 = ap (λ m. which (condition_of m)) (sym g ∙ model_none r none) in omega arith in (
            form_sound r entries places some f,
            ap inside (sym e ∙ found true f ∙ ap condition_of (model_open r some)),
          )

pub inspects : Inspects
inspects r entries places = record {
  damaged = is_damaged r;
  closed = is_closed r;
  open_form = λ t e. sound_form r entries places (is_open r t entries places e).0;
  open_model = λ t e. model_open r (λ none. omega (arith, (is_open r t entries places e).0.rules.machine_range.processors));
  open_sound = λ t e. (is_open r t entries places e).0;
  open_totals = λ t e. (is_open r t entries places e).1;
}

-- ---- Calls by their outcome

-- A refusal, with the roster as it came.
pub refused_by : {r : Roster} {refusal : Refusal} {answer : Reply} → replied r (refused refusal) ≡ answer → record { answer = Err refusal; roster = r } ≡ answer
unfolding replied
refused_by e = e

pub reply_damaged : (r : Roster) (call : Call) → inspected r ≡ condition.Damaged → replied r (refused Damaged) ≡ reply_to r call
unfolding reply_to
reply_damaged r call e = rw (is_damaged r e, reply_to)

pub reply_unformed : (r : Roster) (call : Call) → well_formed r ≡ false → reply_to r call ≡ replied r (refused Damaged)
unfolding reply_to
reply_unformed r call e = rw (e, reply_to)

pub reply_well : (r : Roster) (call : Call) → well_formed r ≡ true → reply_to r call ≡ replied r (step (model_of r) call)
unfolding reply_to
reply_well r call e = rw (e, reply_to)

-- With no machine.
module _ (r : Roster) (e : inspected r ≡ condition.Closed) where
  pub reply_closed : (call : Call) (o : Outcome) → step Closed call ≡ o → replied r o ≡ reply_to r call
  reply_closed call o f =
      sym (reply_well r call (is_closed r e).0 ∙ ap (λ m. replied r (step m call)) (is_closed r e).1 ∙ ap (replied r) f)

  no_machine : (call : Call) → step Closed call ≡ refused NoMachine → replied r (refused NoMachine) ≡ reply_to r call
  no_machine call = reply_closed call (refused NoMachine)

-- ---- By what a call finds that needs a machine

module _ (r : Roster) where
  pub totalled : (t : Totals) → Ok t ≡ totals_found (inspected r) → inspected r ≡ condition.Open t
  unfolding totals_found
  totalled t e = go (inspected r) refl
    where
      go : (c : Condition) → inspected r ≡ c → inspected r ≡ condition.Open t
      go condition.Damaged f = let z : Ok t ≡ Err Damaged = e ∙ ap totals_found f in cc
      go condition.Closed f = let z : Ok t ≡ Err NoMachine = e ∙ ap totals_found f in cc
      go (condition.Open u) f = let z : ◌≡◌ {A = Result Totals Refusal} (Ok t) (Ok u) = e ∙ ap totals_found f in cc

  -- What is planned for on a roster is that of a sound one.
  pub share_open : (share : Share) → IsShareOf r share → IsSound r × (share.totals ≡ totals (take r.held r.jobs))
  share_open share s = is_open r share.totals s.entries s.places (totalled share.totals s.totals)

  pub share_count : (share : Share) → IsShareOf r share → length share.jobs.now ≡ r.held
  share_count share s = ap length s.jobs ∙ length-take-le r.held r.jobs (omega (arith, (share_open share s).0.places, s.places))

  pub untotalled : (refusal : Refusal) (call : Call) → Err refusal ≡ totals_found (inspected r) → step Closed call ≡ refused NoMachine
      → record { answer = Err refusal; roster = r } ≡ reply_to r call
  unfolding totals_found
  untotalled refusal call e closed = go (inspected r) refl
    where
      go : (c : Condition) → inspected r ≡ c → record { answer = Err refusal; roster = r } ≡ reply_to r call
      go condition.Damaged f =
          let z : ◌≡◌ {A = Result Totals Refusal} (Err refusal) (Err Damaged) = e ∙ ap totals_found f in
          let same : refusal ≡ Damaged = cc in
          rw same (refused_by (reply_damaged r call f))
      go condition.Closed f =
          let z : ◌≡◌ {A = Result Totals Refusal} (Err refusal) (Err NoMachine) = e ∙ ap totals_found f in
          let same : refusal ≡ NoMachine = cc in
          rw same (refused_by (no_machine r f call closed))
      go (condition.Open u) f = let z : Err refusal ≡ Ok u = e ∙ ap totals_found f in cc

pub same_fields : (M : Machine) (t u : List ℕ) (a b : ℕ) (v w : List Job) → t ≡ u → a ≡ b → v ≡ w
    → ◌≡◌ {A = Reply} (record { answer = Ok (tt {0}); roster = record { machine = M; table = t; held = a; jobs = v } })
    (record { answer = Ok (tt {0}); roster = record { machine = M; table = u; held = b; jobs = w } })
same_fields M t u a b v w e f g = ap (λ (r : Roster). record { answer = Ok (tt {0}); roster = r }) (same_roster _ _ _ _ _ _ _ _ a b t u v w refl refl refl refl e f g)

module _ (r : Roster) (entries : length r.table ≡ 32) (places : length r.jobs ≡ 64) where
  -- A new machine on the empty roster.
  pub reply_opened : inspected r ≡ condition.Closed → (M : Machine) (new : List ℕ) → new ≡ entries_of (default_table M)
      → record { answer = Ok (tt {0}); roster = record { machine = M; table = new; held = r.held; jobs = r.jobs } } ≡ replied r (accepted (opened M))
  unfolding replied opened roster_of places_of empty_roster
  reply_opened e M new f =
      let empty : empty_roster ≡ r = ap roster_of (sym (is_closed r e).1) ∙ (form_rule r entries places).carries (is_closed r e).0 in
      same_fields M new _ r.held 0 r.jobs (replicate 64 no_job) f (ap (λ (s : Roster). s.held) (sym empty)) (ap (λ (s : Roster). s.jobs) (sym empty))

  -- With a machine.
  module _ (s : IsSound r) where
    abbrev M : Machine
    M = r.machine

    abbrev numbers : List ℕ
    numbers = take r.machine.levels r.table

    abbrev jobs : List Job
    jobs = take r.held r.jobs

    pub is_opened_law : model_of r ≡ Opened M numbers jobs
    is_opened_law = model_open r (λ e. omega (arith, s.rules.machine_range.processors))

    pub reply_open : (call : Call) (o : Outcome) → step (Opened M numbers jobs) call ≡ o → replied r o ≡ reply_to r call
    reply_open call o f =
        sym (reply_well r call (sound_form r entries places s) ∙ ap (λ m. replied r (step m call)) is_opened_law ∙ ap (replied r) f)

    pub open_12 : (m L b d : ℕ) → replied r (refused MachineOpen) ≡ reply_to r (OpenMachine m L b d)
    unfolding step is_opened refuse_if
    open_12 m L b d = reply_open (OpenMachine m L b d) (refused MachineOpen) refl

    pub on_open : (rest : Machine → List ℕ → List Job → Outcome) → on_machine (model_of r) rest ≡ rest M numbers jobs
    unfolding on_machine
    on_open rest = ap (λ m. on_machine m rest) is_opened_law

    pub held_listed : listed jobs ≡ true
    held_listed = rules_listed M numbers jobs s.rules

    pub held_count : length jobs ≡ r.held
    held_count = length-take-le r.held r.jobs (omega (arith, s.places))

    -- The roster's arrays are those of its model.
    carried : roster_of (Opened M numbers jobs) ≡ r
    carried = ap roster_of (sym is_opened_law) ∙ (form_rule r entries places).carries (sound_form r entries places s)

    pub entries_carried : r.table ≡ entries_of numbers
    unfolding roster_of
    entries_carried = ap (λ (q : Roster). q.table) (sym carried)

    pub places_carried : r.jobs ≡ places_of jobs
    unfolding roster_of
    places_carried = ap (λ (q : Roster). q.jobs) (sym carried)

    -- Another table.
    pub reply_table : (values new : List ℕ) → is_table M values ≡ true → length values ≡ M.levels → new ≡ take 32 (entries_of values)
        → record { answer = Ok (tt {0}); roster = record { machine = M; table = new; held = r.held; jobs = r.jobs } }
        ≡ replied r (accepted (Opened M values jobs))
    unfolding replied roster_of
    reply_table values new t size e =
        let whole = table_laws.entries values (omega (arith, s.rules.machine_range.levels)) in
        same_fields M new _ r.held _ r.jobs _ (e ∙ take_all 32 (entries_of values) (omega (arith, whole))) (sym held_count) places_carried

    -- ---- A job comes

    module _ (new : Job) (fresh : has new.id jobs ≡ false) (free : r.held < 64) (in_range_law : JobInRange new) (t : Totals) (t-is : t ≡ totals jobs) where
      pub with_range : (0 < t.hyperperiod) × (t.hyperperiod ≤ hyperperiod_limit) × (t.work ≤ 63 * 65535 * t.hyperperiod)
      with_range =
          workload.load_rule.range jobs s.rules.job_ranges (omega (arith, held_count)) t (load_within jobs s.rules.within_limit ∙ ap Some (sym t-is))

      -- The load with the new job, wherever it stands.
      pub load_is : load_of (insert new jobs) ≡ with_job t new
      load_is =
          let at = before new.id jobs in
          ap load_of (placing.inserts new jobs).at_place
          ∙ workload.load_rule.any_order new (take at jobs) (drop at jobs)
          ∙ ap (λ (l : List Job). load_of (new ∷ l)) (take-append-drop at jobs)
          ∙ workload.load_rule.one_more new jobs
          ∙ ap (λ (u : Totals). with_job u new) (sym t-is)

    -- ---- A job goes

    module _ (id : ℕ) (ranged : one_to 65535 id ≡ true) where
      gone : (o : Outcome) → retired id M numbers jobs ≡ o → replied r o ≡ reply_to r (Retire id)
      gone o e = reply_open (Retire id) o (retire_in M numbers jobs id ranged ∙ e)

      pub leave_missing : has id jobs ≡ false → replied r (refused IdNotHeld) ≡ reply_to r (Retire id)
      leave_missing e = gone (refused IdNotHeld) (retire_14 M numbers jobs id e)

      module _ (there : has id jobs ≡ true) where
        pub leave_some : 1 ≤ r.held
        leave_some = omega (arith, (placing.removes id jobs).size there, held_count)

        pub leave_out : (at : ℕ) (new-places : List Job) → at ≡ before id jobs
            → new-places
            ≡ take 64 (take r.held (take at r.jobs ++ drop (suc at) (take r.held r.jobs) ++ no_job ∷ []) ++ drop r.held r.jobs)
            → record { answer = Ok (tt {0}); roster = record { machine = M; table = r.table; held = r.held - 1; jobs = new-places } } ≡ reply_to r (Retire id)
        unfolding replied roster_of
        leave_out at new-places here p =
            same_fields M r.table _ (r.held - 1) (length (remove id jobs)) new-places (places_of (remove id jobs)) entries_carried
            (omega (arith, (placing.removes id jobs).size there, held_count))
            (p
            ∙ ap (λ (q : List Job). take 64 (take r.held (take at q ++ drop (suc at) (take r.held q) ++ no_job ∷ []) ++ drop r.held q)) places_carried
            ∙ (placing.removes id jobs).in_places r.held at (sym held_count) here (omega (arith, held_count, s.places)) held_listed there)
            ∙ gone (accepted (Opened M numbers (remove id jobs))) (retire_0 M numbers jobs id there)
