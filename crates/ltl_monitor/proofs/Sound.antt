-- A draft's definitions give its literals in one way for each state, and its variables stay within bounds.
use Rattle.std.proofs.Common.{◌≡◌, ℕ, zero, suc, ◌+◌, ◌-◌, ◌*◌, ◌<◌, ◌≤◌, Bool, true, ◌||◌, List, [], ◌∷◌, ◌++◌, length, refl, sym, ap, ◌∙◌, arith}
use Rattle.std.specs.Prelude.{◌↔◌, nat_lt, if◌then◌else◌}
use Rattle.std.proofs.lemmas.Bool.Decides.{nat_tests}
use Rattle.ltl_meaning.specs.declared.node.UnaryOperator.{UnaryOperator}
use Rattle.ltl_meaning.specs.declared.node.BinaryOperator.{BinaryOperator}
use Rattle.ltl_meaning.specs.Ltl.{Ltl}
use Rattle.clause_core.specs.declared.literal.Lit.{Lit}
use Rattle.clause_core.specs.Literals.{negate, at}
use Rattle.clause_core.specs.Assignments.{Agrees}
use Rattle.ltl_monitor.specs.declared.layout.Layout.{Layout}
use Rattle.ltl_monitor.specs.declared.layout.Space.{Space}
use Rattle.ltl_monitor.specs.declared.draft.Draft.{Draft}
use Rattle.ltl_monitor.specs.declared.draft.Scene.{Scene}
use Rattle.ltl_monitor.specs.Monitor.{same, Each, nodes, unary_bits, binary_bits}
use Rattle.ltl_monitor.specs.States.{value, AtomsBelow}
use Rattle.ltl_monitor.specs.Drafting.{place, moved, both, plain, is_same, is_or, is_iff, is_or_and, gate_added, row_added, start_added, set_added, unary_rules, binary_rules, unary_lit, binary_lit, Drafted, own_bit, drafted}
use Rattle.ltl_monitor.proofs.FromBits.{each_join}
use Rattle.ltl_monitor.proofs.Clauses.{Met, met_parts, met_join, met_one, is_or_means, is_iff_means, Lits, each_more, lits_more, Below, Alike, value_like, all_like}

-- a fact on each variable of a rule's clauses
module _ (Q : ℕ → Type 0) where
  abbrev pub On : Lit → Type 0
  On l = Q l.var

  pub one_lits : (b : Lit) → On b → Lits On ((b ∷ []) ∷ [])
  one_lits b hb = ((hb, tt), tt)

  pub same_lits : (b x : Lit) → On b → On x → Lits On (is_same b x)
  same_lits b x hb hx = ((hb, (hx, tt)), ((hb, (hx, tt)), tt))

  pub or_lits : (b x y : Lit) → On b → On x → On y → Lits On (is_or b x y)
  or_lits b x y hb hx hy = ((hb, (hx, tt)), ((hb, (hy, tt)), ((hb, (hx, (hy, tt))), tt)))

  pub iff_lits : (b x y : Lit) → On b → On x → On y → Lits On (is_iff b x y)
  iff_lits b x y hb hx hy =
      ((hb, (hx, (hy, tt))), ((hb, (hx, (hy, tt))), ((hb, (hx, (hy, tt))), ((hb, (hx, (hy, tt))), tt))))

  pub or_and_lits : (b x y z : Lit) → On b → On x → On y → On z → Lits On (is_or_and b x y z)
  or_and_lits b x y z hb hx hy hz =
      ((hb, (hx, tt)), ((hb, (hy, (hz, tt))), ((hb, (hx, (hy, tt))), ((hb, (hx, (hz, tt))), tt))))

pub each_at : (P : Lit → Type 0) (ls : List Lit) (k : ℕ) → k < length ls → Each P ls → P (at ls k)
each_at P [] k h e = absurd (omega (arith, h))
each_at P (l ∷ ls) zero h e = e.0
each_at P (l ∷ ls) (suc k) h e = each_at P ls k (omega (arith, h)) e.1

-- a gate's value, put behind the variables below it
abbrev pub extended : ℕ → (ℕ → Bool) → Bool → ℕ → Bool
extended g a t v = if nat_lt v g then a v else t

extended_below : (g : ℕ) (a : ℕ → Bool) (t : Bool) (v : ℕ) → v < g → extended g a t v ≡ a v
extended_below g a t v h = grind (arith, nat_tests)

extended_at : (g : ℕ) (a : ℕ → Bool) (t : Bool) → extended g a t g ≡ t
extended_at g a t = grind (arith, nat_tests)

-- a literal goes to a variable of the monitored system
pub now_in : (p : Layout) (g v : ℕ) → 2 * (p.given + p.nodes) ≤ p.inner → p.given + p.nodes ≤ g → v < g → place p Space.Now v < p.inner + 2 * (g - (p.given + p.nodes))
now_in p g v wide room h = grind (arith, nat_tests)

pub next_in : (p : Layout) (g v : ℕ) → 2 * (p.given + p.nodes) ≤ p.inner → p.given + p.nodes ≤ g → v < g → place p Space.Next v < p.inner + 2 * (g - (p.given + p.nodes))
next_in p g v wide room h = grind (arith, nat_tests)

module _ (s : Scene) where
  abbrev pub width : ℕ
  width = s.layout.given + s.layout.nodes

  abbrev pub last : Draft → ℕ
  last d = s.layout.inner + 2 * (d.gate - width)

  pub record Sound (d : Draft) : Type 0 where
    pub room : width ≤ d.gate
    pub defs_in : Lits (Below d.gate) d.defs
    pub sets_in : Each (Below d.gate) d.sets
    pub starts_in : Lits (Below d.gate) d.starts
    pub rows_in : Lits (Below (last d)) d.rows
    pub atoms_in : Each (Below d.gate) s.atoms
    pub some : (x : ℕ → Bool) → (a : ℕ → Bool) × Agrees width a x × Met a d.defs
    pub one : (a b : ℕ → Bool) → Agrees width a b → Met a d.defs → Met b d.defs →
        Lits (Alike a b) d.defs × Each (Alike a b) d.sets × Each (Alike a b) s.atoms

  -- a literal that the definitions give
  pub record Known (d : Draft) (l : Lit) : Type 0 where
    pub below : l.var < d.gate
    pub one : (a b : ℕ → Bool) → Agrees width a b → Met a d.defs → Met b d.defs → Alike a b l

  pub record Later (d e : Draft) : Type 0 where
    pub gate : d.gate ≤ e.gate
    pub back : (v : ℕ → Bool) → Met v e.defs → Met v d.defs

  pub later_same : (d : Draft) → Later d d
  later_same d = record { gate = omega arith; back = λ v m. m }

  pub later_more : (d e f : Draft) → Later d e → Later e f → Later d f
  later_more d e f h k = record { gate = omega (arith, h.gate, k.gate); back = λ v m. h.back v (k.back v m) }

  pub known_later : (d e : Draft) (l : Lit) → Later d e → Known d l → Known e l
  known_later d e l h k = record {
    below = omega (arith, h.gate, k.below);
    one = λ a b g m n. k.one a b g (h.back a m) (h.back b n);
  }

  pub known_negate : (d : Draft) (l : Lit) → Known d l → Known d (negate l)
  known_negate d l k = record { below = k.below; one = k.one }

  -- one gate more
  module _ (d : Draft) (cs : List (List Lit)) (F : (ℕ → Bool) → Bool)
      (means : (v : ℕ → Bool) → Met v cs ↔ (v d.gate ≡ F v))
      (local : (u v : ℕ → Bool) → ((i : ℕ) → i < d.gate → u i ≡ v i) → F u ≡ F v)
      (alike : (a b : ℕ → Bool) → Agrees width a b → Met a d.defs → Met b d.defs → F a ≡ F b)
      (cs_in : Lits (Below (d.gate + 1)) cs)
      (cs_alike : (a b : ℕ → Bool) → Agrees width a b → Met a d.defs → Met b d.defs → a d.gate ≡ b d.gate → Lits (Alike a b) cs)
      (h : Sound d) where
    gate_alike : (a b : ℕ → Bool) → Agrees width a b → Met a (d.defs ++ cs) → Met b (d.defs ++ cs) → a d.gate ≡ b d.gate
    gate_alike a b g m n =
        let m' = met_parts a d.defs cs m in
        let n' = met_parts b d.defs cs n in
        (means a).0 m'.1 ∙ alike a b g m'.0 n'.0 ∙ sym ((means b).0 n'.1)

    pub gate_some : (x : ℕ → Bool) → (a : ℕ → Bool) × Agrees width a x × Met a (d.defs ++ cs)
    gate_some x =
        let old = h.some x in
        let a : ℕ → Bool = extended d.gate old.0 (F old.0) in
        let under : (i : ℕ) → i < d.gate → a i ≡ old.0 i = λ i lt. extended_below d.gate old.0 (F old.0) i lt in (
          a,
          λ v lt. under v (omega (arith, lt, h.room)) ∙ old.1 v lt,
          met_join a d.defs cs
              (all_like a old.0 d.defs (lits_more (Below d.gate) (Alike a old.0) (λ l lt. under l.var lt) d.defs h.defs_in) ∙ old.2)
              ((means a).1 (extended_at d.gate old.0 (F old.0) ∙ sym (local a old.0 under))),
        )

    pub gate_sound : Sound (gate_added cs d)
    gate_sound = record {
      room = omega (arith, h.room);
      defs_in = each_join _ d.defs cs (lits_more _ _ (λ l lt. omega (arith, lt)) d.defs h.defs_in) cs_in;
      sets_in = each_more _ _ (λ l lt. omega (arith, lt)) d.sets h.sets_in;
      starts_in = lits_more _ _ (λ l lt. omega (arith, lt)) d.starts h.starts_in;
      rows_in = lits_more (Below (last d)) (Below (last (gate_added cs d))) (λ l lt. omega (arith, lt, h.room)) d.rows h.rows_in;
      atoms_in = each_more _ _ (λ l lt. omega (arith, lt)) s.atoms h.atoms_in;
      some = gate_some;
      one = λ a b g m n.
          let m' = met_parts a d.defs cs m in
          let n' = met_parts b d.defs cs n in
          let o = h.one a b g m'.0 n'.0 in
          (each_join _ d.defs cs o.0 (cs_alike a b g m'.0 n'.0 (gate_alike a b g m n)), o.1, o.2);
    }

    pub gate_known : Known (gate_added cs d) (plain d.gate)
    gate_known = record { below = omega arith; one = λ a b g m n. gate_alike a b g m n }

    pub gate_later : Later d (gate_added cs d)
    gate_later = record { gate = omega arith; back = λ v m. (met_parts v d.defs cs m).0 }

  -- what a move gives
  pub record Moved (d e : Draft) : Type 0 where
    pub sound : Sound e
    pub later : Later d e

  pub record Gated (d e : Draft) (l : Lit) : Type 0 where
    pub sound : Sound e
    pub later : Later d e
    pub known : Known e l

  -- a literal's value depends on its variable
  values_below : (d : Draft) (l : Lit) (u v : ℕ → Bool) → Known d l → ((i : ℕ) → i < d.gate → u i ≡ v i) → value u l ≡ value v l
  values_below d l u v k h = value_like u v l (h l.var k.below)

  pub or_gate : (d : Draft) (x y : Lit) → Sound d → Known d x → Known d y → Gated d (gate_added (is_or (plain d.gate) x y) d) (plain d.gate)
  or_gate d x y h kx ky =
      let cs = is_or (plain d.gate) x y in
      let F : (ℕ → Bool) → Bool = λ v. value v x || value v y in
      let means : (v : ℕ → Bool) → Met v cs ↔ (v d.gate ≡ F v) = λ v. is_or_means v (plain d.gate) x y in
      let local : (u v : ℕ → Bool) → ((i : ℕ) → i < d.gate → u i ≡ v i) → F u ≡ F v =
      λ u v e. ap (λ c. c || value u y) (values_below d x u v kx e) ∙ ap (λ c. value v x || c) (values_below d y u v ky e) in
      let alike : (a b : ℕ → Bool) → Agrees width a b → Met a d.defs → Met b d.defs → F a ≡ F b =
      λ a b g m n. ap (λ c. c || value a y) (value_like a b x (kx.one a b g m n)) ∙ ap (λ c. value b x || c) (value_like a b y (ky.one a b g m n)) in
      let cs_in : Lits (Below (d.gate + 1)) cs = or_lits (λ v. v < d.gate + 1) (plain d.gate) x y (omega arith) (omega (arith, kx.below)) (omega (arith, ky.below)) in
      let cs_alike : (a b : ℕ → Bool) → Agrees width a b → Met a d.defs → Met b d.defs → a d.gate ≡ b d.gate → Lits (Alike a b) cs =
      λ a b g m n e. or_lits (λ v. a v ≡ b v) (plain d.gate) x y e (kx.one a b g m n) (ky.one a b g m n) in record {
        sound = gate_sound d cs F means local alike cs_in cs_alike h;
        later = gate_later d cs F means local alike cs_in cs_alike h;
        known = gate_known d cs F means local alike cs_in cs_alike h;
      }

  pub iff_gate : (d : Draft) (x y : Lit) → Sound d → Known d x → Known d y → Gated d (gate_added (is_iff (plain d.gate) x y) d) (plain d.gate)
  iff_gate d x y h kx ky =
      let cs = is_iff (plain d.gate) x y in
      let F : (ℕ → Bool) → Bool = λ v. same (value v x) (value v y) in
      let means : (v : ℕ → Bool) → Met v cs ↔ (v d.gate ≡ F v) = λ v. is_iff_means v (plain d.gate) x y in
      let local : (u v : ℕ → Bool) → ((i : ℕ) → i < d.gate → u i ≡ v i) → F u ≡ F v =
      λ u v e. ap (λ c. same c (value u y)) (values_below d x u v kx e) ∙ ap (λ c. same (value v x) c) (values_below d y u v ky e) in
      let alike : (a b : ℕ → Bool) → Agrees width a b → Met a d.defs → Met b d.defs → F a ≡ F b =
      λ a b g m n. ap (λ c. same c (value a y)) (value_like a b x (kx.one a b g m n)) ∙ ap (λ c. same (value b x) c) (value_like a b y (ky.one a b g m n)) in
      let cs_in : Lits (Below (d.gate + 1)) cs = iff_lits (λ v. v < d.gate + 1) (plain d.gate) x y (omega arith) (omega (arith, kx.below)) (omega (arith, ky.below)) in
      let cs_alike : (a b : ℕ → Bool) → Agrees width a b → Met a d.defs → Met b d.defs → a d.gate ≡ b d.gate → Lits (Alike a b) cs =
      λ a b g m n e. iff_lits (λ v. a v ≡ b v) (plain d.gate) x y e (kx.one a b g m n) (ky.one a b g m n) in record {
        sound = gate_sound d cs F means local alike cs_in cs_alike h;
        later = gate_later d cs F means local alike cs_in cs_alike h;
        known = gate_known d cs F means local alike cs_in cs_alike h;
      }

  -- a gate that is true
  pub true_gate : (d : Draft) → Sound d → Gated d (gate_added ((plain d.gate ∷ []) ∷ []) d) (plain d.gate)
  true_gate d h =
      let cs = (plain d.gate ∷ []) ∷ [] in
      let F : (ℕ → Bool) → Bool = λ v. true in
      let means : (v : ℕ → Bool) → Met v cs ↔ (v d.gate ≡ F v) = λ v. met_one v (plain d.gate) in
      let local : (u v : ℕ → Bool) → ((i : ℕ) → i < d.gate → u i ≡ v i) → F u ≡ F v = λ u v e. refl in
      let alike : (a b : ℕ → Bool) → Agrees width a b → Met a d.defs → Met b d.defs → F a ≡ F b = λ a b g m n. refl in
      let cs_in : Lits (Below (d.gate + 1)) cs = one_lits (λ v. v < d.gate + 1) (plain d.gate) (omega arith) in
      let cs_alike : (a b : ℕ → Bool) → Agrees width a b → Met a d.defs → Met b d.defs → a d.gate ≡ b d.gate → Lits (Alike a b) cs =
      λ a b g m n e. one_lits (λ v. a v ≡ b v) (plain d.gate) e in record {
        sound = gate_sound d cs F means local alike cs_in cs_alike h;
        later = gate_later d cs F means local alike cs_in cs_alike h;
        known = gate_known d cs F means local alike cs_in cs_alike h;
      }

  pub row_move : (d : Draft) (cs : List (List Lit)) → Sound d → Lits (Below (last d)) cs → Moved d (row_added cs d)
  row_move d cs h k = record {
    sound = record {
      room = h.room;
      defs_in = h.defs_in;
      sets_in = h.sets_in;
      starts_in = h.starts_in;
      rows_in = each_join _ d.rows cs h.rows_in k;
      atoms_in = h.atoms_in;
      some = h.some;
      one = h.one;
    };
    later = record { gate = omega arith; back = λ v m. m };
  }

  pub start_move : (d : Draft) (cs : List (List Lit)) → Sound d → Lits (Below d.gate) cs → Moved d (start_added cs d)
  start_move d cs h k = record {
    sound = record {
      room = h.room;
      defs_in = h.defs_in;
      sets_in = h.sets_in;
      starts_in = each_join _ d.starts cs h.starts_in k;
      rows_in = h.rows_in;
      atoms_in = h.atoms_in;
      some = h.some;
      one = h.one;
    };
    later = record { gate = omega arith; back = λ v m. m };
  }

  set_move : (d : Draft) (x y : Lit) → Sound d → Known d x → Known d y → Moved d (set_added x y d)
  set_move d x y h kx ky =
      let g = or_gate d x y h kx ky in record {
        sound = record {
          room = g.sound.room;
          defs_in = g.sound.defs_in;
          sets_in = each_join _ d.sets (plain d.gate ∷ []) g.sound.sets_in (g.known.below, tt);
          starts_in = g.sound.starts_in;
          rows_in = g.sound.rows_in;
          atoms_in = g.sound.atoms_in;
          some = g.sound.some;
          one = λ a b e m n. let o = g.sound.one a b e m n in
              (o.0, each_join _ d.sets (plain d.gate ∷ []) o.1 (g.known.one a b e m n, tt), o.2);
        };
        later = record { gate = g.later.gate; back = g.later.back };
      }

  -- the next operator's number
  node_move : (d e : Draft) (n : ℕ) → Moved d e → Moved d (record e { node = n })
  node_move d e n m = record {
    sound = record {
      room = m.sound.room;
      defs_in = m.sound.defs_in;
      sets_in = m.sound.sets_in;
      starts_in = m.sound.starts_in;
      rows_in = m.sound.rows_in;
      atoms_in = m.sound.atoms_in;
      some = m.sound.some;
      one = m.sound.one;
    };
    later = record { gate = m.later.gate; back = m.later.back };
  }

  pub move_on : (d e f : Draft) → Moved d e → Moved e f → Moved d f
  move_on d e f m n = record { sound = n.sound; later = later_more d e f m.later n.later }

  module _ (wide : 2 * width ≤ s.layout.inner) where
    abbrev pub p : Layout
    p = s.layout

    pub now_below : (d : Draft) (l : Lit) → Sound d → Known d l → Below (last d) (moved p Space.Now l)
    now_below d l h k = now_in p d.gate l.var wide h.room k.below

    pub next_below : (d : Draft) (l : Lit) → Sound d → Known d l → Below (last d) (moved p Space.Next l)
    next_below d l h k = next_in p d.gate l.var wide h.room k.below

    -- a row over three literals that are known, in any places
    row_or : (d : Draft) (b x y : Lit) → Sound d → Below (last d) b → Below (last d) x → Below (last d) y → Moved d (row_added (is_or b x y) d)
    row_or d b x y h hb hx hy = row_move d (is_or b x y) h (or_lits (λ v. v < last d) b x y hb hx hy)

    row_or_and : (d : Draft) (b x y z : Lit) → Sound d → Below (last d) b → Below (last d) x → Below (last d) y → Below (last d) z → Moved d (row_added (is_or_and b x y z) d)
    row_or_and d b x y z h hb hx hy hz = row_move d (is_or_and b x y z) h (or_and_lits (λ v. v < last d) b x y z hb hx hy hz)

    row_same : (d : Draft) (b x : Lit) → Sound d → Below (last d) b → Below (last d) x → Moved d (row_added (is_same b x) d)
    row_same d b x h hb hx = row_move d (is_same b x) h (same_lits (λ v. v < last d) b x hb hx)

    -- and then a set, or a rule of an initial state
    set_after : (d : Draft) (cs : List (List Lit)) (x y : Lit) → Moved d (row_added cs d) → Known d x → Known d y → Moved d (set_added x y (row_added cs d))
    set_after d cs x y m kx ky =
        move_on d (row_added cs d) (set_added x y (row_added cs d)) m
        (set_move (row_added cs d) x y m.sound (known_later d (row_added cs d) x m.later kx) (known_later d (row_added cs d) y m.later ky))

    start_after : (d : Draft) (cs bs : List (List Lit)) → Moved d (row_added cs d) → Lits (Below d.gate) bs → Moved d (start_added bs (row_added cs d))
    start_after d cs bs m k = move_on d (row_added cs d) (start_added bs (row_added cs d)) m (start_move (row_added cs d) bs m.sound k)

    same_start : (d : Draft) (b x : Lit) → Known d b → Known d x → Lits (Below d.gate) (is_same b x)
    same_start d b x kb kx = same_lits (λ v. v < d.gate) b x kb.below kx.below

    unary_move : (o : UnaryOperator) (d : Draft) (b f : Lit) → Sound d → (0 < unary_bits o → Known d b) → Known d f →
        Moved d (unary_rules o (both p b) (both p f) d)
    unary_move UnaryOperator.Not d b f h kb kf = record { sound = h; later = later_same d }
    unary_move UnaryOperator.Next d b f h kb kf =
        row_same d (moved p Space.Now b) (moved p Space.Next f) h (now_below d b h (kb (omega arith))) (next_below d f h kf)
    unary_move UnaryOperator.Finally d b f h kb kf =
        set_after d _ (negate b) f
        (row_or d (moved p Space.Now b) (moved p Space.Now f) (moved p Space.Next b) h (now_below d b h (kb (omega arith))) (now_below d f h kf) (next_below d b h (kb (omega arith))))
        (known_negate d b (kb (omega arith))) kf
    unary_move UnaryOperator.Globally d b f h kb kf =
        set_after d _ b (negate f)
        (row_or d (negate (moved p Space.Now b)) (negate (moved p Space.Now f)) (negate (moved p Space.Next b)) h (now_below d b h (kb (omega arith))) (now_below d f h kf) (next_below d b h (kb (omega arith))))
        (kb (omega arith)) (known_negate d f kf)
    unary_move UnaryOperator.Yesterday d b f h kb kf =
        start_after d _ _ (row_same d (moved p Space.Next b) (moved p Space.Now f) h (next_below d b h (kb (omega arith))) (now_below d f h kf))
        (let k = kb (omega arith) in one_lits (λ v. v < d.gate) (negate b) k.below)
    unary_move UnaryOperator.WeakYesterday d b f h kb kf =
        start_after d _ _ (row_same d (moved p Space.Next b) (moved p Space.Now f) h (next_below d b h (kb (omega arith))) (now_below d f h kf))
        (let k = kb (omega arith) in one_lits (λ v. v < d.gate) b k.below)
    unary_move UnaryOperator.Once d b f h kb kf =
        start_after d _ _ (row_or d (moved p Space.Next b) (moved p Space.Next f) (moved p Space.Now b) h (next_below d b h (kb (omega arith))) (next_below d f h kf) (now_below d b h (kb (omega arith))))
        (same_start d b f (kb (omega arith)) kf)
    unary_move UnaryOperator.Historically d b f h kb kf =
        start_after d _ _ (row_or d (negate (moved p Space.Next b)) (negate (moved p Space.Next f)) (negate (moved p Space.Now b)) h (next_below d b h (kb (omega arith))) (next_below d f h kf) (now_below d b h (kb (omega arith))))
        (same_start d b f (kb (omega arith)) kf)
    unary_move UnaryOperator.NowOrNext d b f h kb kf =
        row_or d (moved p Space.Now b) (moved p Space.Now f) (moved p Space.Next f) h (now_below d b h (kb (omega arith))) (now_below d f h kf) (next_below d f h kf)
    unary_move UnaryOperator.NowAndNext d b f h kb kf =
        row_or d (negate (moved p Space.Now b)) (negate (moved p Space.Now f)) (negate (moved p Space.Next f)) h (now_below d b h (kb (omega arith))) (now_below d f h kf) (next_below d f h kf)
    unary_move UnaryOperator.NowOrBefore d b f h kb kf =
        start_after d _ _ (row_or d (moved p Space.Next b) (moved p Space.Next f) (moved p Space.Now f) h (next_below d b h (kb (omega arith))) (next_below d f h kf) (now_below d f h kf))
        (same_start d b f (kb (omega arith)) kf)
    unary_move UnaryOperator.NowAndBefore d b f h kb kf =
        start_after d _ _ (row_or d (negate (moved p Space.Next b)) (negate (moved p Space.Next f)) (negate (moved p Space.Now f)) h (next_below d b h (kb (omega arith))) (next_below d f h kf) (now_below d f h kf))
        (same_start d b f (kb (omega arith)) kf)

    unary_known : (o : UnaryOperator) (d : Draft) (b f : Lit) → (0 < unary_bits o → Known d b) → Known d f → Known d (unary_lit o b f)
    unary_known UnaryOperator.Not d b f kb kf = known_negate d f kf
    unary_known UnaryOperator.Next d b f kb kf = kb (omega arith)
    unary_known UnaryOperator.Finally d b f kb kf = kb (omega arith)
    unary_known UnaryOperator.Globally d b f kb kf = kb (omega arith)
    unary_known UnaryOperator.Yesterday d b f kb kf = kb (omega arith)
    unary_known UnaryOperator.WeakYesterday d b f kb kf = kb (omega arith)
    unary_known UnaryOperator.Once d b f kb kf = kb (omega arith)
    unary_known UnaryOperator.Historically d b f kb kf = kb (omega arith)
    unary_known UnaryOperator.NowOrNext d b f kb kf = kb (omega arith)
    unary_known UnaryOperator.NowAndNext d b f kb kf = kb (omega arith)
    unary_known UnaryOperator.NowOrBefore d b f kb kf = kb (omega arith)
    unary_known UnaryOperator.NowAndBefore d b f kb kf = kb (omega arith)

    -- a gate's literal, or its negation
    gated_negate : (d e : Draft) (l : Lit) → Gated d e l → Gated d e (negate l)
    gated_negate d e l g = record { sound = g.sound; later = g.later; known = known_negate e l g.known }

    gated : (d e : Draft) (b : Lit) → Moved d e → Known d b → Gated d e b
    gated d e b m k = record { sound = m.sound; later = m.later; known = known_later d e b m.later k }

    binary_move : (o : BinaryOperator) (d : Draft) (b f g : Lit) → Sound d → (0 < binary_bits o → Known d b) → Known d f → Known d g →
        Gated d (binary_rules o (both p b) (both p f) (both p g) d) (binary_lit o b (plain d.gate))
    binary_move BinaryOperator.And d b f g h kb kf kg =
        gated_negate d _ _ (or_gate d (negate f) (negate g) h (known_negate d f kf) (known_negate d g kg))
    binary_move BinaryOperator.Or d b f g h kb kf kg = or_gate d f g h kf kg
    binary_move BinaryOperator.Xor d b f g h kb kf kg = gated_negate d _ _ (iff_gate d f g h kf kg)
    binary_move BinaryOperator.Xnor d b f g h kb kf kg = iff_gate d f g h kf kg
    binary_move BinaryOperator.Implies d b f g h kb kf kg = or_gate d (negate f) g h (known_negate d f kf) kg
    binary_move BinaryOperator.Iff d b f g h kb kf kg = iff_gate d f g h kf kg
    binary_move BinaryOperator.Until d b f g h kb kf kg =
        gated d _ b
        (set_after d _ (negate b) g
        (row_or_and d (moved p Space.Now b) (moved p Space.Now g) (moved p Space.Now f) (moved p Space.Next b) h
        (now_below d b h (kb (omega arith))) (now_below d g h kg) (now_below d f h kf) (next_below d b h (kb (omega arith))))
        (known_negate d b (kb (omega arith))) kg) (kb (omega arith))
    binary_move BinaryOperator.Releases d b f g h kb kf kg =
        gated d _ b
        (set_after d _ b (negate g)
        (row_or_and d (negate (moved p Space.Now b)) (negate (moved p Space.Now g)) (negate (moved p Space.Now f)) (negate (moved p Space.Next b)) h
        (now_below d b h (kb (omega arith))) (now_below d g h kg) (now_below d f h kf) (next_below d b h (kb (omega arith))))
        (kb (omega arith)) (known_negate d g kg)) (kb (omega arith))
    binary_move BinaryOperator.Since d b f g h kb kf kg =
        gated d _ b
        (start_after d _ _
        (row_or_and d (moved p Space.Next b) (moved p Space.Next g) (moved p Space.Next f) (moved p Space.Now b) h
        (next_below d b h (kb (omega arith))) (next_below d g h kg) (next_below d f h kf) (now_below d b h (kb (omega arith))))
        (same_start d b g (kb (omega arith)) kg)) (kb (omega arith))
    binary_move BinaryOperator.Triggered d b f g h kb kf kg =
        gated d _ b
        (start_after d _ _
        (row_or_and d (negate (moved p Space.Next b)) (negate (moved p Space.Next g)) (negate (moved p Space.Next f)) (negate (moved p Space.Now b)) h
        (next_below d b h (kb (omega arith))) (next_below d g h kg) (next_below d f h kf) (now_below d b h (kb (omega arith))))
        (same_start d b g (kb (omega arith)) kg)) (kb (omega arith))

    own_known : (d : Draft) → Sound d → d.node + 1 ≤ p.nodes → Known d (own_bit p d)
    own_known d h room = record {
      below = omega (arith, h.room);
      one = λ a b g m n. g (p.given + d.node) (omega arith);
    }

    -- each formula
    pub record Grown (f : Ltl) (d : Draft) (x : Drafted) : Type 0 where
      pub sound : Sound x.draft
      pub later : Later d x.draft
      pub known : Known x.draft x.lit
      pub node : x.draft.node ≡ d.node + nodes f

    known_node : (d : Draft) (n : ℕ) (l : Lit) → Known d l → Known (record d { node = n }) l
    known_node d n l k = record { below = k.below; one = k.one }

    pub grown : (f : Ltl) (d : Draft) → AtomsBelow (length s.atoms) f → Sound d → d.node + nodes f ≤ p.nodes → Grown f d (drafted s f d)
    grown (Ltl.Constant b) d a h room =
        let g = true_gate d h in record {
          sound = g.sound;
          later = g.later;
          known = record { below = g.known.below; one = g.known.one };
          node = omega arith;
        }
    grown (Ltl.Atom k) d a h room = record {
      sound = h;
      later = later_same d;
      known = record {
        below = each_at (Below d.gate) s.atoms k a h.atoms_in;
        one = λ u v g m n. (let o = h.one u v g m n in each_at (Alike u v) s.atoms k a o.2);
      };
      node = omega arith;
    }
    grown (Ltl.Unary o f) d a h room =
        let g = grown f d a h (omega (arith, room)) in
        let e : Draft = (drafted s f d).draft in
        let l : Lit = (drafted s f d).lit in
        let kb : 0 < unary_bits o → Known e (own_bit p e) = λ some. own_known e g.sound (omega (arith, room, g.node)) in
        let m = unary_move o e (own_bit p e) l g.sound kb g.known in
        let r : Draft = unary_rules o (both p (own_bit p e)) (both p l) e in
        let q = node_move e r (e.node + unary_bits o) m in record {
          sound = q.sound;
          later = later_more d e _ g.later q.later;
          known = known_node r (e.node + unary_bits o) (unary_lit o (own_bit p e) l) (known_later e r (unary_lit o (own_bit p e) l) m.later (unary_known o e (own_bit p e) l kb g.known));
          node = omega (arith, g.node);
        }
    grown (Ltl.Binary o f g) d a h room =
        let x = grown f d a.0 h (omega (arith, room)) in
        let e : Draft = (drafted s f d).draft in
        let l : Lit = (drafted s f d).lit in
        let y = grown g e a.1 x.sound (omega (arith, room, x.node)) in
        let i : Draft = (drafted s g e).draft in
        let r : Lit = (drafted s g e).lit in
        let kb : 0 < binary_bits o → Known i (own_bit p i) = λ some. own_known i y.sound (omega (arith, room, x.node, y.node)) in
        let m = binary_move o i (own_bit p i) l r y.sound kb (known_later e i l y.later x.known) y.known in
        let t : Draft = binary_rules o (both p (own_bit p i)) (both p l) (both p r) i in
        let q = node_move i t (i.node + binary_bits o) (record { sound = m.sound; later = m.later }) in record {
          sound = q.sound;
          later = later_more d e _ x.later (later_more e i _ y.later q.later);
          known = known_node t (i.node + binary_bits o) (binary_lit o (own_bit p i) (plain i.gate)) m.known;
          node = omega (arith, x.node, y.node);
        }
