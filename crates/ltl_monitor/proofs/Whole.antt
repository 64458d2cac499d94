-- The monitored system is a system, and it is the monitor of its formula.
use Rattle.std.proofs.Common.{◌≡◌, ℕ, ◌+◌, ◌-◌, ◌*◌, ◌<◌, ◌≤◌, Bool, true, false, not, List, [], ◌∷◌, ◌++◌, map, length, length-append, refl, sym, ap, ◌∙◌, subst, arith, append_assoc}
use Rattle.std.specs.Prelude.{◌↔◌, slice_index_or, All}
use Rattle.std.proofs.lemmas.List.{length-map}
use Rattle.ltl_meaning.specs.Ltl.{Ltl}
use Rattle.clause_core.specs.declared.literal.Lit.{Lit}
use Rattle.clause_core.specs.Literals.{negate, Within}
use Rattle.clause_core.specs.Assignments.{ClauseTrue, Agrees}
use Rattle.clause_core.specs.Systems.{TransitionSystem, Opposed, Gives, IsSystem, FirstBits, StepBits, BadBits, GoodBits}
use Rattle.ltl_monitor.specs.declared.layout.Layout.{Layout}
use Rattle.ltl_monitor.specs.declared.layout.Space.{Space}
use Rattle.ltl_monitor.specs.declared.draft.Draft.{Draft}
use Rattle.ltl_monitor.specs.declared.draft.Scene.{Scene}
use Rattle.ltl_monitor.specs.Monitor.{Side, nodes, truth, rows, starts, Set, sets, all_sets}
use Rattle.ltl_monitor.specs.States.{value, AtomsBelow, Extends, shown, numbers, justice_of, own_var, own_values, IsMonitor}
use Rattle.ltl_monitor.specs.Drafting.{place, moved, all_moved, Drafted, drafted}
use Rattle.ltl_monitor.specs.Assembly.{layout_of, scene_of, empty_draft, assembled, draft_of, monitor_at, monitor_of}
use Rattle.ltl_monitor.proofs.Clauses.{Met, met_parts, met_join, met_one, value_negate, Lits, Below, values_renamed}
use Rattle.ltl_monitor.proofs.Meaning.{before, after, side, Means, means, map_append}
use Rattle.ltl_monitor.proofs.Sound.{Sound, Later, Grown, grown, one_lits, start_move}
use Rattle.ltl_monitor.proofs.Near.{Near, near_back, truth_like, starts_like, rows_like, sets_like}
use Rattle.ltl_monitor.proofs.Placed.{system_in}
use Rattle.ltl_monitor.proofs.Assembled.{wide, begun_sound}
use Rattle.ltl_monitor.proofs.Assembled as base

pub atoms_more : (f : Ltl) (a b : ℕ) → a ≤ b → AtomsBelow a f → AtomsBelow b f
atoms_more (Ltl.Constant c) a b h k = tt
atoms_more (Ltl.Atom n) a b h k = omega (arith, h, k)
atoms_more (Ltl.Unary o f) a b h k = atoms_more f a b h k
atoms_more (Ltl.Binary o f g) a b h k = (atoms_more f a b h k.0, atoms_more g a b h k.1)

-- the numbers of literals that stand after others give their values
at_end : (pre : List Bool) (x : Bool) (xs : List Bool) → slice_index_or (pre ++ x ∷ xs) (length pre) false ≡ x
at_end [] x xs = refl
at_end (y ∷ pre) x xs = at_end pre x xs

pub numbered : (v : Lit → Bool) (pre : List Bool) (ls : List Lit) (n : ℕ) → n ≡ length pre →
    map (λ k. slice_index_or (pre ++ map v ls) k false) (numbers n ls) ≡ map v ls
numbered v pre [] n e = refl
numbered v pre (l ∷ ls) n e =
    let one : slice_index_or (pre ++ map v (l ∷ ls)) n false ≡ v l = ap (λ k. slice_index_or (pre ++ map v (l ∷ ls)) k false) e ∙ at_end pre (v l) (map v ls) in
    let len : n + 1 ≡ length (pre ++ v l ∷ []) = omega (arith, e, length-append pre (v l ∷ [])) in
    let rest = numbered v (pre ++ v l ∷ []) ls (n + 1) len in
    ap (λ b. b ∷ map (λ k. slice_index_or (pre ++ map v (l ∷ ls)) k false) (numbers (n + 1) ls)) one
    ∙ ap (λ bs. v l ∷ bs) (ap (λ (zs : List Bool). map (λ k. slice_index_or zs k false) (numbers (n + 1) ls)) (sym (append_assoc pre (v l ∷ []) (map v ls))) ∙ rest)

pub map_twice : {X Y Z : Type 0} (g : Y → Z) (f : X → Y) (xs : List X) → map g (map f xs) ≡ map (λ x. g (f x)) xs
map_twice g f [] = refl
map_twice g f (x ∷ xs) = ap (λ zs. g (f x) ∷ zs) (map_twice g f xs)

not_true : (b : Bool) → not b ≡ true → b ≡ false
not_true true h = sym h
not_true false h = refl

module _ (sys : TransitionSystem) (f : Ltl) (atoms : List Lit) (ok : IsSystem sys) (below : AtomsBelow (length atoms) f)
    (atoms_in : Within sys.all_bits atoms) (given : Gives sys.state_bits atoms sys.defs) where
  abbrev pub p : Layout
  p = layout_of sys (nodes f)

  abbrev pub s : Scene
  s = scene_of p sys atoms

  abbrev pub wide_bits : ℕ
  wide_bits = sys.state_bits + nodes f

  scene_atoms : AtomsBelow (length s.atoms) f
  scene_atoms = atoms_more f (length atoms) (length s.atoms)
      (omega (arith, length-append (map (moved p Space.Local) atoms) (map (moved p Space.Local) sys.fair), length-map atoms (moved p Space.Local))) below

  abbrev pub x : Drafted
  x = drafted s f (empty_draft p sys)

  abbrev pub root_clause : List (List Lit)
  root_clause = (negate x.lit ∷ []) ∷ []

  abbrev pub d : Draft
  d = draft_of p sys f atoms

  formula_grown : Grown s (wide sys (nodes f) atoms ok atoms_in given) f (empty_draft p sys) x
  formula_grown = grown s (wide sys (nodes f) atoms ok atoms_in given) f (empty_draft p sys) scene_atoms (begun_sound sys (nodes f) atoms ok atoms_in given) (omega arith)

  formula_means : Means s f (empty_draft p sys) x
  formula_means = means s f (empty_draft p sys) scene_atoms

  pub sound : Sound s d
  sound = (start_move s x.draft root_clause formula_grown.sound (one_lits (λ v. v < x.draft.gate) (negate x.lit) formula_grown.known.below)).sound

  later : Later s (empty_draft p sys) d
  later = record { gate = formula_grown.later.gate; back = formula_grown.later.back }

  pub room : wide_bits ≤ d.gate
  room = sound.room

  abbrev pub bad : List (List Lit)
  bad = all_moved p Space.System sys.bad

  bad_in : Lits (Below (p.inner + 2 * (d.gate - wide_bits))) bad
  bad_in = base.system_lits sys (nodes f) atoms ok atoms_in given d sound later sys.bad ok.bad_in

  abbrev pub m : TransitionSystem
  m = monitor_of sys f atoms

  abbrev pub good : List (List Lit)
  good = all_moved p Space.System sys.good

  good_in : Lits (Below (p.inner + 2 * (d.gate - wide_bits))) good
  good_in = base.system_lits sys (nodes f) atoms ok atoms_in given d sound later sys.good ok.good_in

  opposed : Opposed wide_bits good bad
  opposed = base.own_opposed sys (nodes f) atoms ok atoms_in given d sound later

  pub is_system : IsSystem m
  is_system = base.is_system sys (nodes f) atoms ok atoms_in given d sound later bad good bad_in good_in opposed

  -- what one state's variables say of the formula
  module _ (y a u : ℕ → Bool) (ea : Extends sys y a) (agrees : Agrees wide_bits u y) (met : Met u d.defs) where
    near : Near (0 + nodes f) (side s u) (shown sys atoms a y)
    near = record {
      atoms = λ k. ap (λ (bs : List Bool). slice_index_or bs k false) (base.lits_same sys (nodes f) atoms ok atoms_in given d sound later y a u ea agrees met);
      bits = λ j h. agrees (sys.state_bits + j) (omega (arith, h));
    }

    formula_starts : Met u x.draft.starts ↔ starts f 0 (shown sys atoms a y)
    formula_starts =
        let e = formula_means.firsts u met in (
          λ h. starts_like f 0 (side s u) (shown sys atoms a y) near (e.0 h).1,
          λ h. e.1 (refl, starts_like f 0 (shown sys atoms a y) (side s u) (near_back (0 + nodes f) (side s u) (shown sys atoms a y) near) h),
        )

    formula_root : Met u root_clause ↔ (truth f 0 (shown sys atoms a y) ≡ false)
    formula_root =
        let e : value u x.lit ≡ truth f 0 (shown sys atoms a y) = formula_means.truths u met ∙ truth_like f 0 (side s u) (shown sys atoms a y) near in (
          λ h. sym e ∙ not_true (value u x.lit) (sym (value_negate u x.lit) ∙ (met_one u (negate x.lit)).0 h),
          λ h. (met_one u (negate x.lit)).1 (value_negate u x.lit ∙ ap not (e ∙ h)),
        )

    at_side : Side → Set → Bool
    at_side t z = z t

    justice_values : map (λ k. slice_index_or (map (value a) (atoms ++ sys.fair)) k false) (justice_of sys atoms) ≡ map (value a) sys.fair
    justice_values =
        ap (λ (bs : List Bool). map (λ k. slice_index_or bs k false) (justice_of sys atoms)) (map_append (value a) atoms sys.fair)
        ∙ numbered (value a) (map (value a) atoms) sys.fair (length atoms) (sym (length-map atoms (value a)))

    formula_sets : map (value u) d.sets ≡ map (λ z. z (shown sys atoms a y)) (all_sets (justice_of sys atoms) f)
    formula_sets =
        let t : Side = shown sys atoms a y in
        formula_means.fair u met
        ∙ ap (λ c. c ++ map (λ z. z (side s u)) (sets f 0)) (values_renamed u (place p Space.Local) sys.fair ∙ base.fair_same sys (nodes f) atoms ok atoms_in given d sound later y a u ea agrees met ∙ sym justice_values)
        ∙ ap (λ c. map (λ k. slice_index_or (map (value a) (atoms ++ sys.fair)) k false) (justice_of sys atoms) ++ c) (sets_like f 0 (side s u) t near)
        ∙ ap (λ c. c ++ map (λ z. z t) (sets f 0)) (sym (map_twice (λ (z : Set). z t) (λ (k : ℕ) (r : Side). r.atom k) (justice_of sys atoms)))
        ∙ sym (map_append (λ (z : Set). z t) (map (λ (k : ℕ) (r : Side). r.atom k) (justice_of sys atoms)) (sets f 0))

  first_from : (y a : ℕ → Bool) → Extends sys y a → FirstBits m y → FirstBits sys y × starts f 0 (shown sys atoms a y) × (truth f 0 (shown sys atoms a y) ≡ false)
  first_from y a ea h =
      let k = base.first_from sys (nodes f) atoms ok atoms_in given d sound later bad good bad_in good_in opposed y h in
      let u = k.1.0 in
      let st = met_parts u x.draft.starts root_clause k.1.3 in
      (k.0, (formula_starts y a u ea k.1.1 k.1.2).0 st.0, (formula_root y a u ea k.1.1 k.1.2).0 st.1)

  first_to : (y a : ℕ → Bool) → Extends sys y a → FirstBits sys y × starts f 0 (shown sys atoms a y) × (truth f 0 (shown sys atoms a y) ≡ false) → FirstBits m y
  first_to y a ea h =
      let e = sound.some y in
      base.first_to sys (nodes f) atoms ok atoms_in given d sound later bad good bad_in good_in opposed y h.0 e.0 e.1 e.2
      (met_join e.0 x.draft.starts root_clause ((formula_starts y a e.0 ea e.1 e.2).1 h.1) ((formula_root y a e.0 ea e.1 e.2).1 h.2))

  step_from : (y z a b : ℕ → Bool) → Extends sys y a → Extends sys z b → StepBits m y z → StepBits sys y z × rows f 0 (shown sys atoms a y) (shown sys atoms b z)
  step_from y z a b ea eb h =
      let k = base.step_from sys (nodes f) atoms ok atoms_in given d sound later bad good bad_in good_in opposed y z h in
      let r = (formula_means.steps k.w k.met_here k.met_there).0 k.met_rows in (
        k.own,
        rows_like f 0 (side s (before p k.w)) (side s (after p k.w)) (shown sys atoms a y) (shown sys atoms b z)
            (near y a (before p k.w) ea k.here k.met_here) (near z b (after p k.w) eb k.there k.met_there) r.1,
      )

  step_to : (y z a b : ℕ → Bool) → Extends sys y a → Extends sys z b → StepBits sys y z × rows f 0 (shown sys atoms a y) (shown sys atoms b z) → StepBits m y z
  step_to y z a b ea eb h =
      base.step_to sys (nodes f) atoms ok atoms_in given d sound later bad good bad_in good_in opposed y z h.0
      (λ w gb ga mb ma.
      (formula_means.steps w mb ma).1 (
        refl,
        rows_like f 0 (shown sys atoms a y) (shown sys atoms b z) (side s (before p w)) (side s (after p w))
            (near_back (0 + nodes f) (side s (before p w)) (shown sys atoms a y) (near y a (before p w) ea gb mb))
            (near_back (0 + nodes f) (side s (after p w)) (shown sys atoms b z) (near z b (after p w) eb ga ma)) h.1,
      ))

  sets_tell : (y a e : ℕ → Bool) → Extends sys y a → Extends m y e → map (value e) m.fair ≡ map (λ z. z (shown sys atoms a y)) (all_sets (justice_of sys atoms) f)
  sets_tell y a e ea em =
      let g = base.local_extends sys (nodes f) atoms ok atoms_in given d sound later y e em.0 em.1 in
      values_renamed e (place p Space.Now) d.sets ∙ formula_sets y a (before p e) ea g.0 g.1

  bad_same : (y : ℕ → Bool) → BadBits m y ↔ BadBits sys y
  bad_same y = (
    base.own_meets sys (nodes f) atoms ok atoms_in given d sound later y sys.bad,
    base.own_true sys (nodes f) atoms ok atoms_in given d sound later y sys.bad ok.bad_in,
  )

  good_same : (y : ℕ → Bool) → GoodBits m y ↔ GoodBits sys y
  good_same y = (
    base.own_meets sys (nodes f) atoms ok atoms_in given d sound later y sys.good,
    base.own_true sys (nodes f) atoms ok atoms_in given d sound later y sys.good ok.good_in,
  )

  more_bits : m.state_bits - sys.state_bits ≡ nodes f
  more_bits = omega arith

  own_in : (v : ℕ) → v < sys.all_bits → own_var sys m v < m.all_bits
  own_in v lt =
      let P : ℕ → Type 0 = λ n. place record { given = sys.state_bits; nodes = n; inner = p.inner } Space.System v < m.all_bits in
      let k : place p Space.System v < p.inner = system_in p sys.all_bits v lt refl in
      subst P (sym more_bits) (omega (arith, k))

  own_step : (a : ℕ → Bool) → All (ClauseTrue a) m.step → All (ClauseTrue (own_values sys m a)) sys.step
  own_step a h =
      let P : ℕ → Type 0 = λ n. All (ClauseTrue (λ v. a (place record { given = sys.state_bits; nodes = n; inner = p.inner } Space.System v))) sys.step in
      subst P (sym more_bits) (base.own_step sys (nodes f) atoms ok atoms_in given d sound later bad good bad_in good_in opposed a h)

  pub is_monitor : IsMonitor sys f atoms m
  is_monitor = record {
    bits = refl;
    first = λ y a ea. (first_from y a ea, first_to y a ea);
    step = λ y z a b ea eb. (step_from y z a b ea eb, step_to y z a b ea eb);
    sets = sets_tell;
    bad = bad_same;
    good = good_same;
    own_in = own_in;
    own_step = own_step;
  }

-- the system is put together of these parts
pub assembled_same : (sys : TransitionSystem) (f : Ltl) (atoms : List Lit) (p : Layout) (k : ℕ) (bs gs : List (List Lit)) (d : Draft) →
    k ≡ nodes f → p ≡ layout_of sys k → bs ≡ all_moved p Space.System sys.bad → gs ≡ all_moved p Space.System sys.good →
    d ≡ draft_of p sys f atoms → assembled p sys bs gs d ≡ monitor_of sys f atoms
assembled_same sys f atoms p k bs gs d en ep eb eg e =
    ap (λ c. assembled p sys c gs d) eb ∙ ap (λ c. assembled p sys (all_moved p Space.System sys.bad) c d) eg
    ∙ ap (assembled p sys (all_moved p Space.System sys.bad) (all_moved p Space.System sys.good)) e
    ∙ ap (λ t. monitor_at t sys f atoms) (ep ∙ ap (layout_of sys) en)

-- the draft's variables go on from the state's
pub room_same : (sys : TransitionSystem) (f : Ltl) (atoms : List Lit) (p : Layout) (k : ℕ) (d : Draft) → k ≡ nodes f → p ≡ layout_of sys k → d ≡ draft_of p sys f atoms →
    sys.state_bits + nodes f ≤ (draft_of (layout_of sys (nodes f)) sys f atoms).gate → p.given + p.nodes ≤ d.gate
room_same sys f atoms p k d en ep e h =
    let same : p ≡ layout_of sys (nodes f) = ep ∙ ap (layout_of sys) en in
    let P : Layout → Type 0 = λ q. q.given + q.nodes ≤ (draft_of q sys f atoms).gate in
    subst (λ (t : Draft). p.given + p.nodes ≤ t.gate) (sym e) (subst P (sym same) h)
