-- A system put together from a system and a draft: what its initial states, steps and definitions are.
use Rattle.std.proofs.Common.{inl, inr, ◌≡◌, ℕ, ◌+◌, ◌-◌, ◌*◌, ◌<◌, ◌≤◌, Bool, List, ◌++◌, map, refl, sym, ap, ◌∙◌, arith}
use Rattle.std.specs.Prelude.{nat_lt, if◌then◌else◌, All}
use Rattle.std.proofs.lemmas.Bool.{cases_lt}
use Rattle.clause_core.specs.declared.literal.Lit.{Lit}
use Rattle.clause_core.specs.Literals.{Within}
use Rattle.clause_core.specs.Assignments.{ClauseTrue, Agrees}
use Rattle.clause_core.specs.Systems.{TransitionSystem, Meets, Opposed, Gives, IsSystem, FirstBits, StepBits}
use Rattle.ltl_monitor.specs.declared.layout.Layout.{Layout}
use Rattle.ltl_monitor.specs.declared.layout.Space.{Space}
use Rattle.ltl_monitor.specs.declared.draft.Draft.{Draft}
use Rattle.ltl_monitor.specs.declared.draft.Scene.{Scene}
use Rattle.ltl_monitor.specs.Monitor.{Each, rows}
use Rattle.ltl_monitor.specs.States.{value, Extends}
use Rattle.ltl_monitor.specs.Drafting.{place, moved, all_moved}
use Rattle.ltl_monitor.specs.Assembly.{layout_of, scene_of, empty_draft, assembled}
use Rattle.ltl_monitor.proofs.FromBits.{each_join}
use Rattle.ltl_monitor.proofs.Clauses.{Met, met_parts, met_join, met_from, all_from, Lits, Below, Alike, each_all, all_each, each_more, lits_more, lits_all, all_lits, each_map_to, all, all_like, values_like, all_renamed, values_renamed, lits_renamed}
use Rattle.ltl_monitor.proofs.Meaning.{before, after, map_append}
use Rattle.ltl_monitor.proofs.Sound.{Sound, Later, now_in, next_in}
use Rattle.ltl_monitor.proofs.Placed.{local_low, local_high, local_in, system_low, system_next, system_in, now_low, next_low, glue, glue_x, glue_y, glue_now, glue_next, glue_system, yes, no_}

module _ (sys : TransitionSystem) (n : ℕ) (atoms : List Lit) (ok : IsSystem sys) (atoms_in : Within sys.all_bits atoms)
    (given : Gives sys.state_bits atoms sys.defs) where
  abbrev pub p : Layout
  p = layout_of sys n

  abbrev pub s : Scene
  s = scene_of p sys atoms

  abbrev pub wide_bits : ℕ
  wide_bits = sys.state_bits + n

  abbrev pub from_local : (ℕ → Bool) → ℕ → Bool
  from_local v i = v (place p Space.Local i)

  pub wide : 2 * wide_bits ≤ p.inner
  wide = omega (arith, ok.room)

  -- an assignment of one state's variables, on the system's
  local_agrees : (a b : ℕ → Bool) → Agrees wide_bits a b → Agrees sys.state_bits (from_local a) (from_local b)
  local_agrees a b g v h = ap a (local_low p v h) ∙ g v (omega (arith, h)) ∙ sym (ap b (local_low p v h))

  local_met : (v : ℕ → Bool) → Met v (empty_draft p sys).defs → All (ClauseTrue (from_local v)) sys.defs
  local_met v m = all_from (from_local v) sys.defs (sym (all_renamed v (place p Space.Local) sys.defs) ∙ m)

  -- the state x, where e gives what is defined
  put_in : (ℕ → Bool) → (ℕ → Bool) → ℕ → Bool
  put_in x e v = if nat_lt v wide_bits then x v else e (v - n)

  put_in_local : (x e : ℕ → Bool) → Agrees sys.state_bits e x → (v : ℕ) → put_in x e (place p Space.Local v) ≡ e v
  unfolding put_in
  put_in_local x e g v = elim (cases_lt v sys.state_bits) [
    | inl h ↦ ap (put_in x e) (local_low p v h) ∙ yes v wide_bits (x v) _ (omega (arith, h)) ∙ sym (g v h)
    | inr h ↦
        let k : v + n - n ≡ v = omega arith in
        ap (put_in x e) (local_high p v h) ∙ no_ (v + n) wide_bits _ _ (omega (arith, h)) ∙ ap e k
  ]

  begun_some : (x : ℕ → Bool) → (a : ℕ → Bool) × Agrees wide_bits a x × Met a (empty_draft p sys).defs
  unfolding put_in
  begun_some x =
      let e = given.extends x in
      let same : from_local (put_in x e.0) ≡ e.0 = λ i v. put_in_local x e.0 e.1 v i in (
        put_in x e.0,
        λ v h. yes v wide_bits (x v) _ h,
        all_renamed (put_in x e.0) (place p Space.Local) sys.defs ∙ ap (λ u. all u sys.defs) same ∙ met_from e.0 sys.defs e.2,
      )

  begun_one : (a b : ℕ → Bool) → Agrees wide_bits a b → Met a (empty_draft p sys).defs → Met b (empty_draft p sys).defs →
      Lits (Alike a b) (empty_draft p sys).defs × Each (Alike a b) (empty_draft p sys).sets × Each (Alike a b) s.atoms
  begun_one a b g m k =
      let h = local_agrees a b g in
      let o = given.one_way (from_local a) (from_local b) h (local_met a m) (local_met b k) in
      let q = ok.gives.one_way (from_local a) (from_local b) h (local_met a m) (local_met b k) in
      let fair = each_map_to (Alike a b) (moved p Space.Local) sys.fair (all_each (Alike (from_local a) (from_local b)) sys.fair q.0) in (
        lits_renamed (Alike a b) (place p Space.Local) sys.defs (all_lits (Alike (from_local a) (from_local b)) sys.defs o.1),
        fair,
        each_join (Alike a b) (map (moved p Space.Local) atoms) (map (moved p Space.Local) sys.fair)
            (each_map_to (Alike a b) (moved p Space.Local) atoms (all_each (Alike (from_local a) (from_local b)) atoms o.0)) fair,
      )

  abbrev pub start_gate : ℕ
  start_gate = sys.all_bits + n

  local_each : (ls : List Lit) → Within sys.all_bits ls → Each (Below start_gate) (map (moved p Space.Local) ls)
  local_each ls h =
      each_map_to (Below start_gate) (moved p Space.Local) ls
      (each_more (Below sys.all_bits) (λ l. Below start_gate (moved p Space.Local l)) (λ l lt. local_in p sys.all_bits l.var lt) ls (all_each (Below sys.all_bits) ls h))

  pub begun_sound : Sound s (empty_draft p sys)
  begun_sound = record {
    room = omega (arith, ok.room);
    defs_in =
        lits_renamed (Below start_gate) (place p Space.Local) sys.defs
        (lits_more (Below sys.all_bits) (λ l. Below start_gate (moved p Space.Local l)) (λ l lt. local_in p sys.all_bits l.var lt) sys.defs (all_lits (Below sys.all_bits) sys.defs ok.defs_in));
    sets_in = local_each sys.fair ok.fair_in;
    starts_in = tt;
    rows_in = tt;
    atoms_in = each_join (Below start_gate) (map (moved p Space.Local) atoms) (map (moved p Space.Local) sys.fair) (local_each atoms atoms_in) (local_each sys.fair ok.fair_in);
    some = begun_some;
    one = begun_one;
  }

  -- a draft that goes on from the one of no formula
  module _ (d : Draft) (sound : Sound s d) (later : Later s (empty_draft p sys) d) where
    abbrev pub top : ℕ
    top = p.inner + 2 * (d.gate - wide_bits)

    pub room : wide_bits ≤ d.gate
    room = sound.room

    -- an assignment of the monitored system, on the system's
    abbrev pub from_system : (ℕ → Bool) → ℕ → Bool
    from_system w i = w (place p Space.System i)

    -- its clauses are within bounds
    pub system_lits : (cs : List (List Lit)) → All (Within sys.all_bits) cs → Lits (Below top) (all_moved p Space.System cs)
    system_lits cs h =
        lits_renamed (Below top) (place p Space.System) cs
        (lits_more (Below sys.all_bits) (λ l. Below top (moved p Space.System l))
        (λ l lt. let k : place p Space.System l.var < p.inner = system_in p sys.all_bits l.var lt refl in omega (arith, k)) cs (all_lits (Below sys.all_bits) cs h))

    pub now_lits : (cs : List (List Lit)) → Lits (Below d.gate) cs → Lits (Below top) (all_moved p Space.Now cs)
    now_lits cs h =
        lits_renamed (Below top) (place p Space.Now) cs
        (lits_more (Below d.gate) (λ l. Below top (moved p Space.Now l)) (λ l lt. now_in p d.gate l.var wide room lt) cs h)

    next_lits : (cs : List (List Lit)) → Lits (Below d.gate) cs → Lits (Below top) (all_moved p Space.Next cs)
    next_lits cs h =
        lits_renamed (Below top) (place p Space.Next) cs
        (lits_more (Below d.gate) (λ l. Below top (moved p Space.Next l)) (λ l lt. next_in p d.gate l.var wide room lt) cs h)

    now_agrees : (a b : ℕ → Bool) → Agrees wide_bits a b → Agrees wide_bits (before p a) b
    now_agrees a b g v h = ap a (now_low p v h) ∙ g v h

    now_both : (a b : ℕ → Bool) → Agrees wide_bits a b → Agrees wide_bits (before p a) (before p b)
    now_both a b g v h = now_agrees a b g v h ∙ sym (ap b (now_low p v h))

    now_met : (w : ℕ → Bool) (cs : List (List Lit)) → Met w (all_moved p Space.Now cs) → Met (before p w) cs
    now_met w cs h = sym (all_renamed w (place p Space.Now) cs) ∙ h

    abbrev pub fair : List Lit
    fair = map (moved p Space.Now) d.sets

    abbrev pub defs : List (List Lit)
    defs = all_moved p Space.Now d.defs

    pub gives : Gives wide_bits fair defs
    gives = record {
      extends = λ y.
          let e = sound.some y in
          let w : ℕ → Bool = glue p y y y e.0 e.0 in
          let same : before p w ≡ e.0 = λ i v. glue_now p y y y e.0 e.0 wide (λ j h. sym (e.1 j h)) v i in (
            w,
            λ v h. glue_x p y y y e.0 e.0 wide v h,
            all_from w defs (all_renamed w (place p Space.Now) d.defs ∙ ap (λ u. all u d.defs) same ∙ e.2),
          );
      one_way = λ a b g h k.
          let o = sound.one (before p a) (before p b) (now_both a b g) (now_met a d.defs (met_from a defs h)) (now_met b d.defs (met_from b defs k)) in (
            each_all (Alike a b) fair (each_map_to (Alike a b) (moved p Space.Now) d.sets o.1),
            lits_all (Alike a b) defs (lits_renamed (Alike a b) (place p Space.Now) d.defs o.0),
          );
    }

    -- a list of clauses in its parts
    two_parts : (w : ℕ → Bool) (xs bs cs : List (List Lit)) → Met w (xs ++ bs ++ cs) → Met w xs × Met w bs × Met w cs
    two_parts w xs bs cs h =
        let k = met_parts w (xs ++ bs) cs h in
        let j = met_parts w xs bs k.0 in
        (j.0, j.1, k.1)

    two_join : (w : ℕ → Bool) (xs bs cs : List (List Lit)) → Met w xs → Met w bs → Met w cs → Met w (xs ++ bs ++ cs)
    two_join w xs bs cs h k j = met_join w (xs ++ bs) cs (met_join w xs bs h k) j

    -- the system's own clauses
    system_agrees : (w y : ℕ → Bool) → Agrees wide_bits w y → Agrees sys.state_bits (from_system w) y
    system_agrees w y g v h = ap w (system_low p v h) ∙ g v (omega (arith, h))

    system_met : (w : ℕ → Bool) (cs : List (List Lit)) → Met w (all_moved p Space.System cs) → All (ClauseTrue (from_system w)) cs
    system_met w cs h = all_from (from_system w) cs (sym (all_renamed w (place p Space.System) cs) ∙ h)

    met_system : (w b : ℕ → Bool) (cs : List (List Lit)) → All (Within sys.all_bits) cs → ((v : ℕ) → v < sys.all_bits → from_system w v ≡ b v) →
        All (ClauseTrue b) cs → Met w (all_moved p Space.System cs)
    met_system w b cs inside same h =
        all_renamed w (place p Space.System) cs
        ∙ all_like (from_system w) b cs (lits_more (Below sys.all_bits) (Alike (from_system w) b) (λ l lt. same l.var lt) cs (all_lits (Below sys.all_bits) cs inside))
        ∙ met_from b cs h

    -- the values of the atoms and of JUSTICE, from one state's variables
    module _ (y a u : ℕ → Bool) (ea : Extends sys y a) (agrees : Agrees wide_bits u y) (met : Met u d.defs) where
      pub local_same : Agrees sys.state_bits (from_local u) a
      local_same v h = ap u (local_low p v h) ∙ agrees v (omega (arith, h)) ∙ sym (ea.0 v h)

      begun_met : All (ClauseTrue (from_local u)) sys.defs
      begun_met = local_met u (later.back u met)

      atoms_same : map (value (from_local u)) atoms ≡ map (value a) atoms
      atoms_same = values_like (from_local u) a atoms (all_each (Alike (from_local u) a) atoms (given.one_way (from_local u) a local_same begun_met ea.1).0)

      pub fair_same : map (value (from_local u)) sys.fair ≡ map (value a) sys.fair
      fair_same = values_like (from_local u) a sys.fair (all_each (Alike (from_local u) a) sys.fair (ok.gives.one_way (from_local u) a local_same begun_met ea.1).0)

      pub lits_same : map (value u) s.atoms ≡ map (value a) (atoms ++ sys.fair)
      lits_same =
          map_append (value u) (map (moved p Space.Local) atoms) (map (moved p Space.Local) sys.fair)
          ∙ ap (λ c. c ++ map (value u) (map (moved p Space.Local) sys.fair)) (values_renamed u (place p Space.Local) atoms ∙ atoms_same)
          ∙ ap (λ c. map (value a) atoms ++ c) (values_renamed u (place p Space.Local) sys.fair ∙ fair_same)
          ∙ sym (map_append (value a) atoms sys.fair)

    -- what is defined of a state
    pub local_extends : (y e : ℕ → Bool) → Agrees wide_bits e y → All (ClauseTrue e) defs → Agrees wide_bits (before p e) y × Met (before p e) d.defs
    local_extends y e g h = (now_agrees e y g, now_met e d.defs (met_from e defs h))

    -- clauses of the system's own
    pub own_from : (y : ℕ → Bool) (cs : List (List Lit)) (w : ℕ → Bool) → Agrees wide_bits w y → Met w (all_moved p Space.System cs) →
        (b : ℕ → Bool) × Agrees sys.state_bits b y × All (ClauseTrue b) cs
    own_from y cs w g h = (from_system w, system_agrees w y g, system_met w cs h)

    pub own_to : (y : ℕ → Bool) (cs : List (List Lit)) → All (Within sys.all_bits) cs → (b : ℕ → Bool) × Agrees sys.state_bits b y × All (ClauseTrue b) cs →
        (w : ℕ → Bool) × Agrees wide_bits w y × Met w (all_moved p Space.System cs)
    own_to y cs inside h =
        let b = h.0 in
        let z : ℕ → Bool = λ j. b (sys.state_bits + j) in
        let w : ℕ → Bool = glue p y z b y y in (
          w,
          λ v lt. glue_x p y z b y y wide v lt,
          met_system w b cs inside (glue_system p y z b y y wide sys.all_bits refl (λ v lt. sym (h.1 v lt)) (λ v lt. refl)) h.2,
        )

    pub own_meets : (y : ℕ → Bool) (cs : List (List Lit)) → Meets wide_bits y (all_moved p Space.System cs) → Meets sys.state_bits y cs
    own_meets y cs h = own_from y cs h.0 h.1 (met_from h.0 (all_moved p Space.System cs) h.2)

    pub own_true : (y : ℕ → Bool) (cs : List (List Lit)) → All (Within sys.all_bits) cs → Meets sys.state_bits y cs → Meets wide_bits y (all_moved p Space.System cs)
    own_true y cs inside h = let w = own_to y cs inside h in (w.0, w.1, all_from w.0 (all_moved p Space.System cs) w.2)

    -- what opposes in the system, opposes in the monitored one
    pub own_opposed : Opposed wide_bits (all_moved p Space.System sys.good) (all_moved p Space.System sys.bad)
    own_opposed = record {
      either = λ y. elim (ok.opposed.either y) [
        | inl h ↦ inl (own_true y sys.good ok.good_in h)
        | inr h ↦ inr (own_true y sys.bad ok.bad_in h)
      ];
      never_both = λ y g b. ok.opposed.never_both y (own_meets y sys.good g) (own_meets y sys.bad b);
    }

    module _ (bad good : List (List Lit)) (bad_in : Lits (Below top) bad) (good_in : Lits (Below top) good) (opposed : Opposed wide_bits good bad) where
      abbrev pub m : TransitionSystem
      m = assembled p sys bad good d

      pub is_system : IsSystem m
      is_system = record {
        room = omega (arith, ok.room);
        init_in = lits_all (Below m.all_bits) m.init
            (each_join _ (all_moved p Space.System sys.init ++ all_moved p Space.Now d.defs) (all_moved p Space.Now d.starts)
            (each_join _ (all_moved p Space.System sys.init) (all_moved p Space.Now d.defs) (system_lits sys.init ok.init_in) (now_lits d.defs sound.defs_in))
            (now_lits d.starts sound.starts_in));
        step_in = lits_all (Below m.all_bits) m.step
            (each_join _ (all_moved p Space.System sys.step ++ all_moved p Space.Now d.defs ++ all_moved p Space.Next d.defs) d.rows
            (each_join _ (all_moved p Space.System sys.step ++ all_moved p Space.Now d.defs) (all_moved p Space.Next d.defs)
            (each_join _ (all_moved p Space.System sys.step) (all_moved p Space.Now d.defs) (system_lits sys.step ok.step_in) (now_lits d.defs sound.defs_in))
            (next_lits d.defs sound.defs_in)) sound.rows_in);
        bad_in = lits_all (Below m.all_bits) bad bad_in;
        good_in = lits_all (Below m.all_bits) good good_in;
        opposed = opposed;
        fair_in = each_all (Below m.all_bits) m.fair
            (each_map_to (Below m.all_bits) (moved p Space.Now) d.sets
            (each_more (Below d.gate) (λ l. Below m.all_bits (moved p Space.Now l)) (λ l lt. now_in p d.gate l.var wide room lt) d.sets sound.sets_in));
        defs_in = lits_all (Below m.all_bits) m.defs (now_lits d.defs sound.defs_in);
        gives = gives;
      }

      -- an initial state
      pub first_from : (y : ℕ → Bool) → FirstBits m y → FirstBits sys y × ((u : ℕ → Bool) × Agrees wide_bits u y × Met u d.defs × Met u d.starts)
      first_from y h =
          let w = h.0 in
          let k = two_parts w (all_moved p Space.System sys.init) (all_moved p Space.Now d.defs) (all_moved p Space.Now d.starts) (met_from w m.init h.2) in (
            (from_system w, system_agrees w y h.1, system_met w sys.init k.0),
            (before p w, now_agrees w y h.1, now_met w d.defs k.1, now_met w d.starts k.2),
          )

      pub first_to : (y : ℕ → Bool) → FirstBits sys y → (u : ℕ → Bool) → Agrees wide_bits u y → Met u d.defs → Met u d.starts → FirstBits m y
      first_to y h u g md ms =
          let b = h.0 in
          let z : ℕ → Bool = λ j. b (sys.state_bits + j) in
          let w : ℕ → Bool = glue p y z b u u in
          let same : before p w ≡ u = λ i v. glue_now p y z b u u wide (λ j lt. sym (g j lt)) v i in
          let own : (v : ℕ) → v < sys.all_bits → from_system w v ≡ b v = glue_system p y z b u u wide sys.all_bits refl (λ v lt. sym (h.1 v lt)) (λ v lt. refl) in (
            w,
            λ v lt. glue_x p y z b u u wide v lt,
            all_from w m.init
                (two_join w (all_moved p Space.System sys.init) (all_moved p Space.Now d.defs) (all_moved p Space.Now d.starts)
                (met_system w b sys.init ok.init_in own h.2)
                (all_renamed w (place p Space.Now) d.defs ∙ ap (λ t. all t d.defs) same ∙ md)
                (all_renamed w (place p Space.Now) d.starts ∙ ap (λ t. all t d.starts) same ∙ ms)),
          )

      -- a step
      next_agrees : (w z : ℕ → Bool) → ((v : ℕ) → v < wide_bits → w (wide_bits + v) ≡ z v) → Agrees wide_bits (after p w) z
      next_agrees w z g v h = ap w (next_low p v h) ∙ g v h

      system_next_agrees : (w z : ℕ → Bool) → ((v : ℕ) → v < wide_bits → w (wide_bits + v) ≡ z v) →
          (v : ℕ) → v < sys.state_bits → from_system w (sys.state_bits + v) ≡ z v
      system_next_agrees w z g v h =
          let e : sys.state_bits + v + n ≡ wide_bits + v = omega arith in
          ap w (system_next p (sys.state_bits + v) (omega arith) (omega (arith, h)) ∙ e) ∙ g v (omega (arith, h))

      -- an assignment of both states, whose rows are met
      pub record Stepped (y z : ℕ → Bool) : Type 0 where
        pub own : StepBits sys y z
        pub w : ℕ → Bool
        pub here : Agrees wide_bits (before p w) y
        pub there : Agrees wide_bits (after p w) z
        pub met_here : Met (before p w) d.defs
        pub met_there : Met (after p w) d.defs
        pub met_rows : Met w d.rows

      pub step_from : (y z : ℕ → Bool) → StepBits m y z → Stepped y z
      step_from y z h =
          let w = h.0 in
          let k = met_parts w (all_moved p Space.System sys.step ++ all_moved p Space.Now d.defs ++ all_moved p Space.Next d.defs) d.rows (met_from w m.step h.3) in
          let j = two_parts w (all_moved p Space.System sys.step) (all_moved p Space.Now d.defs) (all_moved p Space.Next d.defs) k.0 in
          record {
            own = (from_system w, system_agrees w y h.1, system_next_agrees w z h.2, system_met w sys.step j.0);
            w = w;
            here = now_agrees w y h.1;
            there = next_agrees w z h.2;
            met_here = now_met w d.defs j.1;
            met_there = sym (all_renamed w (place p Space.Next) d.defs) ∙ j.2;
            met_rows = k.1;
          }

      pub step_to : (y z : ℕ → Bool) → StepBits sys y z →
          ((w : ℕ → Bool) → Agrees wide_bits (before p w) y → Agrees wide_bits (after p w) z → Met (before p w) d.defs → Met (after p w) d.defs → Met w d.rows) →
          StepBits m y z
      step_to y z h rows =
          let c = h.0 in
          let e = sound.some y in
          let e' = sound.some z in
          let w : ℕ → Bool = glue p y z c e.0 e'.0 in
          let now : before p w ≡ e.0 = λ i v. glue_now p y z c e.0 e'.0 wide (λ j lt. sym (e.1 j lt)) v i in
          let next : after p w ≡ e'.0 = λ i v. glue_next p y z c e.0 e'.0 wide (λ j lt. sym (e'.1 j lt)) v i in
          let own : (v : ℕ) → v < sys.all_bits → from_system w v ≡ c v =
          glue_system p y z c e.0 e'.0 wide sys.all_bits refl (λ v lt. sym (h.1 v lt)) (λ v lt. sym (h.2 v lt)) in
          let mb : Met (before p w) d.defs = ap (λ t. all t d.defs) now ∙ e.2 in
          let ma : Met (after p w) d.defs = ap (λ t. all t d.defs) next ∙ e'.2 in
          let gb : Agrees wide_bits (before p w) y = λ v lt. ap (λ (t : ℕ → Bool). t v) now ∙ e.1 v lt in
          let ga : Agrees wide_bits (after p w) z = λ v lt. ap (λ (t : ℕ → Bool). t v) next ∙ e'.1 v lt in (
            w,
            λ v lt. glue_x p y z c e.0 e'.0 wide v lt,
            λ v lt. glue_y p y z c e.0 e'.0 wide v lt,
            all_from w m.step
                (met_join w (all_moved p Space.System sys.step ++ all_moved p Space.Now d.defs ++ all_moved p Space.Next d.defs) d.rows
                (two_join w (all_moved p Space.System sys.step) (all_moved p Space.Now d.defs) (all_moved p Space.Next d.defs)
                (met_system w c sys.step ok.step_in own h.3)
                (all_renamed w (place p Space.Now) d.defs ∙ mb) (all_renamed w (place p Space.Next) d.defs ∙ ma))
                (rows w gb ga mb ma)),
          )

      -- all values of a step have values of the system's own among them
      pub own_step : (w : ℕ → Bool) → All (ClauseTrue w) m.step → All (ClauseTrue (from_system w)) sys.step
      own_step w h =
          let k = met_parts w (all_moved p Space.System sys.step ++ all_moved p Space.Now d.defs ++ all_moved p Space.Next d.defs) d.rows (met_from w m.step h) in
          let j = two_parts w (all_moved p Space.System sys.step) (all_moved p Space.Now d.defs) (all_moved p Space.Next d.defs) k.0 in
          system_met w sys.step j.0
