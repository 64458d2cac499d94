-- The counted system is a system, and its marks, signal and counter are those of the monitored one.
use Rattle.std.proofs.Common.{inl, inr, ◌≡◌, ℕ, zero, suc, ◌+◌, ◌-◌, ◌*◌, ◌<◌, ◌≤◌, Bool, true, false, not, ◌&&◌, ◌||◌, List, [], ◌∷◌, ◌++◌, map, length, refl, sym, ap, ◌∙◌, subst, arith}
use Rattle.std.specs.Prelude.{◌↔◌, slice_index_or, All}
use Rattle.std.proofs.lemmas.Bool.{cases_Bool, cases_lt, and_from, and_parts}
use Rattle.std.proofs.lemmas.List.{length-map}
use Rattle.clause_core.specs.declared.literal.Lit.{Lit}
use Rattle.clause_core.specs.Literals.{negate, at, Within}
use Rattle.clause_core.specs.Assignments.{ClauseTrue, Agrees}
use Rattle.clause_core.specs.Systems.{TransitionSystem, Meets, Opposed, Gives, IsSystem, FirstBits, StepBits}
use Rattle.ltl_monitor.specs.declared.layout.Layout.{Layout}
use Rattle.ltl_monitor.specs.declared.layout.Space.{Space}
use Rattle.ltl_monitor.specs.declared.draft.Draft.{Draft}
use Rattle.ltl_monitor.specs.declared.draft.Scene.{Scene}
use Rattle.ltl_monitor.specs.declared.counting.Counting.{Counting}
use Rattle.ltl_monitor.specs.States.{value, Extends}
use Rattle.ltl_monitor.specs.Counter.{fires, MarkRows, at_least, CountRows}
use Rattle.ltl_monitor.specs.Counted.{holds, marks, counts, signals, IsCounted}
use Rattle.ltl_monitor.specs.Drafting.{place, moved, all_moved, plain, is_or, is_or_and, gate_added, row_added, Drafted}
use Rattle.ltl_monitor.specs.Assembly.{layout_of, scene_of, empty_draft, assembled}
use Rattle.ltl_monitor.specs.Counting.{bit, unset_added, fired, marked, counted_up, yes_added, counting, bad_of, good_of, counted_at, counted_of}
use Rattle.ltl_monitor.proofs.FromBits.{each_join}
use Rattle.ltl_monitor.proofs.Clauses.{all, Met, met_parts, met_join, met_more, met_one, met_from, all_from, value_negate, is_or_means, is_or_and_means, is_and_or_means, Lits, Below, Alike, values_renamed}
use Rattle.ltl_monitor.proofs.Meaning.{before, after, at_map}
use Rattle.ltl_monitor.proofs.Sound.{Sound, Known, Later, Moved, Gated, known_later, known_negate, later_same, later_more, or_gate, true_gate, row_move, start_move, move_on, now_below, next_below, one_lits, or_and_lits, each_at, last}
use Rattle.ltl_monitor.proofs.Assembled as base

-- each below one number more
pub below_suc : (P : ℕ → Type 0) (j : ℕ) → ((i : ℕ) → i < suc j → P i) ↔ (((i : ℕ) → i < j → P i) × P j)
below_suc P j = (
  λ h. (λ i lt. h i (omega (arith, lt)), h j (omega arith)),
  λ h i lt. elim (cases_lt i j) [
    | inl less ↦ h.0 i less
    | inr more ↦ let e : j ≡ i = omega (arith, lt, more) in subst P e h.1
  ],
)

pub fires_like : (n : ℕ) (mark mark' hold hold' : ℕ → Bool) → ((i : ℕ) → i < n → mark i ≡ mark' i) → ((i : ℕ) → i < n → hold i ≡ hold' i) → fires mark hold n ≡ fires mark' hold' n
fires_like zero mark mark' hold hold' em eh = refl
fires_like (suc n) mark mark' hold hold' em eh =
    ap (λ b. b && (mark n || hold n)) (fires_like n mark mark' hold hold' (λ i lt. em i (omega (arith, lt))) (λ i lt. eh i (omega (arith, lt))))
    ∙ ap (λ b. fires mark' hold' n && (b || hold n)) (em n (omega arith)) ∙ ap (λ b. fires mark' hold' n && (mark' n || b)) (eh n (omega arith))

pub at_least_like : (n : ℕ) (c d : ℕ → Bool) → ((i : ℕ) → i < n → c i ≡ d i) → at_least c n ≡ at_least d n
at_least_like zero c d h = refl
at_least_like (suc n) c d h = h n (omega arith)

both_not : (x y : Bool) → not (not x || not y) ≡ (x && y)
both_not true true = refl
both_not true false = refl
both_not false y = refl

false_from : (x : Bool) → not x ≡ true → x ≡ false
false_from true h = sym h
false_from false h = refl

nand_table : (x y : Bool) → ((not x || (not y || false)) && true) ≡ not (x && y)
nand_table true true = refl
nand_table true false = refl
nand_table false y = refl

-- a clause of two negations
pub nand_means : (v : ℕ → Bool) (x y : Lit) → Met v ((negate x ∷ negate y ∷ []) ∷ []) ↔ ((value v x && value v y) ≡ false)
nand_means v x y =
    let e : all v ((negate x ∷ negate y ∷ []) ∷ []) ≡ not (value v x && value v y) = simp value_negate (nand_table (value v x) (value v y)) in (
      λ h. false_from (value v x && value v y) (sym e ∙ h),
      λ h. e ∙ ap not h,
    )

pub unset_means : (v : ℕ → Bool) (b : Lit) → Met v ((negate b ∷ []) ∷ []) ↔ (value v b ≡ false)
unset_means v b = (
  λ h. false_from (value v b) (sym (value_negate v b) ∙ (met_one v (negate b)).0 h),
  λ h. (met_one v (negate b)).1 (value_negate v b ∙ ap not h),
)

module _ (m : TransitionSystem) (k : ℕ) (ok : IsSystem m) where
  abbrev pub z : ℕ
  z = length m.fair

  abbrev pub p : Layout
  p = layout_of m (z + k)

  abbrev pub wide_bits : ℕ
  wide_bits = m.state_bits + (z + k)

  none_in : Within m.all_bits []
  none_in = λ i d lt. absurd (omega (arith, lt))

  given : Gives m.state_bits [] m.defs
  given = record {
    extends = ok.gives.extends;
    one_way = λ a b g h j. (λ i d lt. absurd (omega (arith, lt)), (ok.gives.one_way a b g h j).1);
  }

  abbrev pub s : Scene
  s = scene_of p m []

  abbrev pub ls : List Lit
  ls = map (moved p Space.Local) m.fair

  wide : 2 * wide_bits ≤ p.inner
  wide = base.wide m (z + k) [] ok none_in given

  sets_length : length ls ≡ z
  sets_length = length-map m.fair (moved p Space.Local)

  bit_known : (d : Draft) (j : ℕ) → Sound s d → j < z + k → Known s d (bit p j)
  bit_known d j h lt = record {
    below = omega (arith, h.room, lt);
    one = λ a b g m n. g (p.given + j) (omega (arith, lt));
  }

  set_known : (d : Draft) (j : ℕ) → Sound s d → j < z → Known s d (at ls j)
  set_known d j h lt = record {
    below = each_at (Below d.gate) ls j (omega (arith, lt, sets_length)) h.atoms_in;
    one = λ a b g m n. (let o = h.one a b g m n in each_at (Alike a b) ls j (omega (arith, lt, sets_length)) o.2);
  }

  abbrev pub yes : Drafted
  yes = yes_added (empty_draft p m)

  fired_gated : (j : ℕ) → j ≤ z → Gated s (empty_draft p m) (fired p ls j yes).draft (fired p ls j yes).lit
  fired_gated zero h = true_gate s (empty_draft p m) (base.begun_sound m (z + k) [] ok none_in given)
  fired_gated (suc j) h =
      let g = fired_gated j (omega (arith, h)) in
      let x : Drafted = fired p ls j yes in
      let e : Draft = gate_added (is_or (plain x.draft.gate) (bit p j) (at ls j)) x.draft in
      let a = or_gate s x.draft (bit p j) (at ls j) g.sound (bit_known x.draft j g.sound (omega (arith, h))) (set_known x.draft j g.sound (omega (arith, h))) in
      let b = or_gate s e (negate x.lit) (negate (plain x.draft.gate)) a.sound
      (known_negate s e x.lit (known_later s x.draft e x.lit a.later g.known)) (known_negate s e (plain x.draft.gate) a.known) in record {
        sound = b.sound;
        later = later_more s (empty_draft p m) e _ (later_more s (empty_draft p m) x.draft e g.later a.later) b.later;
        known = known_negate s _ (plain e.gate) b.known;
      }

  abbrev pub x : Drafted
  x = fired p ls z yes

  x_gated : Gated s (empty_draft p m) x.draft x.lit
  x_gated = fired_gated z (omega arith)

  -- one rule and that of an initial state
  rule_moved : (d e : Draft) (cs : List (List Lit)) (j : ℕ) → Moved s d e → Lits (Below (last s e)) cs → j < z + k → Moved s d (unset_added p j (row_added cs e))
  rule_moved d e cs j h c lt =
      let r = row_move s e cs h.sound c in
      let t = start_move s (row_added cs e) ((negate (bit p j) ∷ []) ∷ []) r.sound
      (let b = (bit_known (row_added cs e) j r.sound lt) in one_lits (λ v. v < e.gate) (negate (bit p j)) b.below) in
      move_on s d e (unset_added p j (row_added cs e)) h (move_on s e (row_added cs e) (unset_added p j (row_added cs e)) r t)

  marked_moved : (j : ℕ) → j ≤ z → Moved s x.draft (marked p x.lit ls j x.draft)
  marked_moved zero h = record { sound = x_gated.sound; later = later_same s x.draft }
  marked_moved (suc j) h =
      let g = marked_moved j (omega (arith, h)) in
      let e : Draft = marked p x.lit ls j x.draft in
      let kb = bit_known e j g.sound (omega (arith, h)) in
      let kl = set_known e j g.sound (omega (arith, h)) in
      let ks = known_later s x.draft e x.lit g.later x_gated.known in
      rule_moved x.draft e _ j g
      (or_and_lits (λ v. v < last s e) (negate (moved p Space.Next (bit p j))) (negate (negate (moved p Space.Now x.lit))) (negate (moved p Space.Now (bit p j))) (negate (moved p Space.Now (at ls j)))
      (next_below s wide e (bit p j) g.sound kb) (now_below s wide e x.lit g.sound ks) (now_below s wide e (bit p j) g.sound kb) (now_below s wide e (at ls j) g.sound kl))
      (omega (arith, h))

  abbrev pub start : Drafted
  start = record { draft = marked p x.lit ls z x.draft; lit = yes.lit }

  abbrev pub y : Drafted
  y = counted_up p z x.lit k start

  yes_known : Known s x.draft yes.lit
  yes_known = known_later s yes.draft x.draft yes.lit (fired_later z) (true_gate s (empty_draft p m) (base.begun_sound m (z + k) [] ok none_in given)).known
    where
      fired_later : (j : ℕ) → Later s yes.draft (fired p ls j yes).draft
      fired_later zero = later_same s yes.draft
      fired_later (suc j) =
          let l = fired_later j in record {
            gate = omega (arith, l.gate);
            back = λ v h. l.back v (met_parts v (fired p ls j yes).draft.defs _ (met_parts v ((fired p ls j yes).draft.defs ++ is_or (plain (fired p ls j yes).draft.gate) (bit p j) (at ls j)) _ h).0).0;
          }

  counted_gated : (j : ℕ) → j ≤ k → Gated s x.draft (counted_up p z x.lit j start).draft (counted_up p z x.lit j start).lit
  counted_gated zero h =
      let g = marked_moved z (omega arith) in record {
        sound = g.sound;
        later = g.later;
        known = known_later s x.draft start.draft yes.lit g.later yes_known;
      }
  counted_gated (suc j) h =
      let g = counted_gated j (omega (arith, h)) in
      let e : Drafted = counted_up p z x.lit j start in
      let kb = bit_known e.draft (z + j) g.sound (omega (arith, h)) in
      let ks = known_later s x.draft e.draft x.lit g.later x_gated.known in
      let r = rule_moved x.draft e.draft _ (z + j) (record { sound = g.sound; later = g.later })
      (or_and_lits (λ v. v < last s e.draft) (moved p Space.Next (bit p (z + j))) (moved p Space.Now (bit p (z + j))) (moved p Space.Now e.lit) (moved p Space.Now x.lit)
      (next_below s wide e.draft (bit p (z + j)) g.sound kb) (now_below s wide e.draft (bit p (z + j)) g.sound kb) (now_below s wide e.draft e.lit g.sound g.known) (now_below s wide e.draft x.lit g.sound ks))
      (omega (arith, h)) in record {
        sound = r.sound;
        later = r.later;
        known = bit_known _ (z + j) r.sound (omega (arith, h));
      }

  abbrev pub d : Draft
  d = y.draft

  y_gated : Gated s x.draft d y.lit
  y_gated = counted_gated k (omega arith)

  later : Later s (empty_draft p m) d
  later = later_more s (empty_draft p m) x.draft d x_gated.later y_gated.later

  pub room : wide_bits ≤ d.gate
  room = y_gated.sound.room

  abbrev pub bad : List (List Lit)
  bad = bad_of p (counting p m k)

  bad_in : Lits (Below (p.inner + 2 * (d.gate - wide_bits))) bad
  bad_in =
      let ks = known_later s x.draft d x.lit y_gated.later x_gated.known in
      each_join _ (all_moved p Space.Now d.defs ++ (moved p Space.Now x.lit ∷ []) ∷ []) ((moved p Space.Now y.lit ∷ []) ∷ [])
      (each_join _ (all_moved p Space.Now d.defs) ((moved p Space.Now x.lit ∷ []) ∷ [])
      (base.now_lits m (z + k) [] ok none_in given d y_gated.sound later d.defs y_gated.sound.defs_in)
      (one_lits (λ v. v < last s d) (moved p Space.Now x.lit) (now_below s wide d x.lit y_gated.sound ks)))
      (one_lits (λ v. v < last s d) (moved p Space.Now y.lit) (now_below s wide d y.lit y_gated.sound y_gated.known))

  -- a clause that the count is not full or the signal is false
  abbrev pub missed : List Lit
  missed = negate (moved p Space.Now x.lit) ∷ negate (moved p Space.Now y.lit) ∷ []

  abbrev pub good : List (List Lit)
  good = good_of p (counting p m k)

  good_in : Lits (Below (p.inner + 2 * (d.gate - wide_bits))) good
  good_in =
      let ks = known_later s x.draft d x.lit y_gated.later x_gated.known in
      each_join _ (all_moved p Space.Now d.defs) (missed ∷ [])
      (base.now_lits m (z + k) [] ok none_in given d y_gated.sound later d.defs y_gated.sound.defs_in)
      ((now_below s wide d x.lit y_gated.sound ks, (now_below s wide d y.lit y_gated.sound y_gated.known, tt)), tt)

  abbrev pub defs : List (List Lit)
  defs = all_moved p Space.Now d.defs

  abbrev pub c : TransitionSystem
  c = counted_of m k

  -- what is drafted last leaves the gates as they are
  marked_defs : (e : Draft) (j : ℕ) → (marked p x.lit ls j e).defs ≡ e.defs
  marked_defs e zero = refl
  marked_defs e (suc j) = marked_defs e j

  counted_defs : (t : Drafted) (j : ℕ) → (counted_up p z x.lit j t).draft.defs ≡ t.draft.defs
  counted_defs t zero = refl
  counted_defs t (suc j) = counted_defs t j

  d_defs : d.defs ≡ x.draft.defs
  d_defs = counted_defs start k ∙ marked_defs x.draft z

  fired_back : (v : ℕ → Bool) (j : ℕ) → Met v (fired p ls j yes).draft.defs → Met v yes.draft.defs
  fired_back v zero h = h
  fired_back v (suc j) h =
      fired_back v j (met_parts v (fired p ls j yes).draft.defs _ (met_parts v ((fired p ls j yes).draft.defs ++ is_or (plain (fired p ls j yes).draft.gate) (bit p j) (at ls j)) _ h).0).0

  yes_value : (v : ℕ → Bool) → Met v x.draft.defs → value v yes.lit ≡ true
  yes_value v h = (met_one v (plain (empty_draft p m).gate)).0 (met_parts v (empty_draft p m).defs _ (fired_back v z h)).1

  -- the signal, by the marks and the literals of the sets
  fired_value : (v : ℕ → Bool) (j : ℕ) → Met v (fired p ls j yes).draft.defs →
      value v (fired p ls j yes).lit ≡ fires (λ i. v (m.state_bits + i)) (λ i. value v (at ls i)) j
  fired_value v zero h = (met_one v (plain (empty_draft p m).gate)).0 (met_parts v (empty_draft p m).defs _ h).1
  fired_value v (suc j) h =
      let t : Drafted = fired p ls j yes in
      let g : ℕ = t.draft.gate in
      let parts = met_parts v (t.draft.defs ++ is_or (plain g) (bit p j) (at ls j)) _ h in
      let first = met_parts v t.draft.defs (is_or (plain g) (bit p j) (at ls j)) parts.0 in
      let seen : value v (plain g) ≡ (v (m.state_bits + j) || value v (at ls j)) = (is_or_means v (plain g) (bit p j) (at ls j)).0 first.1 in
      value_negate v (plain (g + 1))
      ∙ ap not
      ((is_or_means v (plain (g + 1)) (negate t.lit) (negate (plain g))).0 parts.1
      ∙ ap (λ b. b || value v (negate (plain g))) (value_negate v t.lit) ∙ ap (λ b. not (value v t.lit) || b) (value_negate v (plain g)))
      ∙ both_not (value v t.lit) (value v (plain g))
      ∙ ap (λ b. b && value v (plain g)) (fired_value v j first.0)
      ∙ ap (λ b. fires (λ i. v (m.state_bits + i)) (λ i. value v (at ls i)) j && b) seen

  reached_value : (v : ℕ → Bool) → Met v x.draft.defs → (j : ℕ) → value v (counted_up p z x.lit j start).lit ≡ at_least (λ i. v (m.state_bits + (z + i))) j
  reached_value v h zero = yes_value v h
  reached_value v h (suc j) = refl

  -- at a state
  module _ (t a u : ℕ → Bool) (ea : Extends m t a) (agrees : Agrees wide_bits u t) (met : Met u d.defs) where
    x_met : Met u x.draft.defs
    x_met = subst (Met u) d_defs met

    mark_value : (i : ℕ) → i < z → u (m.state_bits + i) ≡ marks m t i
    mark_value i lt = agrees (m.state_bits + i) (omega (arith, lt))

    set_value : (i : ℕ) → i < z → value u (at ls i) ≡ holds m a i
    set_value i lt =
        at_map u ls i (omega (arith, lt, sets_length))
        ∙ ap (λ (bs : List Bool). slice_index_or bs i false)
        (values_renamed u (place p Space.Local) m.fair ∙ base.fair_same m (z + k) [] ok none_in given d y_gated.sound later t a u ea agrees met)

    signal_value : value u x.lit ≡ signals m t a
    signal_value = fired_value u z x_met ∙ fires_like z _ _ _ _ mark_value set_value

    full_value : value u y.lit ≡ at_least (counts m t) k
    full_value = reached_value u x_met k ∙ at_least_like k _ _ (λ i lt. agrees (m.state_bits + (z + i)) (omega (arith, lt)))

  -- the count is full and the signal is true
  abbrev pub over : (ℕ → Bool) → (ℕ → Bool) → Bool
  over t a = signals m t a && at_least (counts m t) k

  -- what each state has beside the definitions
  module _ (t a : ℕ → Bool) (ea : Extends m t a) where
    pub over_value : (w : ℕ → Bool) → Agrees wide_bits w t → All (ClauseTrue w) defs →
        (value (before p w) x.lit && value (before p w) y.lit) ≡ over t a
    over_value w g h =
        let e = base.local_extends m (z + k) [] ok none_in given d y_gated.sound later t w g h in
        ap (λ b. b && value (before p w) y.lit) (signal_value t a (before p w) ea e.0 e.1)
        ∙ ap (λ b. signals m t a && b) (full_value t a (before p w) ea e.0 e.1)

    bad_from : Meets wide_bits t bad → over t a ≡ true
    bad_from h =
        let w = h.0 in
        let q = met_parts w (all_moved p Space.Now d.defs ++ (moved p Space.Now x.lit ∷ []) ∷ []) ((moved p Space.Now y.lit ∷ []) ∷ []) (met_from w bad h.2) in
        let r = met_parts w (all_moved p Space.Now d.defs) ((moved p Space.Now x.lit ∷ []) ∷ []) q.0 in
        sym (over_value w h.1 (all_from w defs r.0))
        ∙ and_from (value (before p w) x.lit) (value (before p w) y.lit) ((met_one w (moved p Space.Now x.lit)).0 r.1) ((met_one w (moved p Space.Now y.lit)).0 q.1)

    bad_to : over t a ≡ true → Meets wide_bits t bad
    bad_to h =
        let g = (base.gives m (z + k) [] ok none_in given d y_gated.sound later).extends t in
        let w = g.0 in
        let b = and_parts (value (before p w) x.lit) (value (before p w) y.lit) (over_value w g.1 g.2 ∙ h) in (
          w,
          g.1,
          all_from w bad
              (met_join w (all_moved p Space.Now d.defs ++ (moved p Space.Now x.lit ∷ []) ∷ []) ((moved p Space.Now y.lit ∷ []) ∷ [])
              (met_join w (all_moved p Space.Now d.defs) ((moved p Space.Now x.lit ∷ []) ∷ []) (met_from w defs g.2) ((met_one w (moved p Space.Now x.lit)).1 b.0))
              ((met_one w (moved p Space.Now y.lit)).1 b.1)),
        )

    good_from : Meets wide_bits t good → over t a ≡ false
    good_from h =
        let w = h.0 in
        let q = met_parts w (all_moved p Space.Now d.defs) (missed ∷ []) (met_from w good h.2) in
        sym (over_value w h.1 (all_from w defs q.0)) ∙ (nand_means w (moved p Space.Now x.lit) (moved p Space.Now y.lit)).0 q.1

    good_to : over t a ≡ false → Meets wide_bits t good
    good_to h =
        let g = (base.gives m (z + k) [] ok none_in given d y_gated.sound later).extends t in
        let w = g.0 in (
          w,
          g.1,
          all_from w good
              (met_join w (all_moved p Space.Now d.defs) (missed ∷ []) (met_from w defs g.2)
              ((nand_means w (moved p Space.Now x.lit) (moved p Space.Now y.lit)).1 (over_value w g.1 g.2 ∙ h))),
        )

  opposed : Opposed wide_bits good bad
  opposed = record {
    either = λ t.
        let e = ok.gives.extends t in
        let ea : Extends m t e.0 = (e.1, e.2) in
        elim (cases_Bool (over t e.0)) [
          | inl yes_ ↦ inr (bad_to t e.0 ea yes_)
          | inr no_ ↦ inl (good_to t e.0 ea no_)
        ];
    never_both = λ t g b.
        let e = ok.gives.extends t in
        let ea : Extends m t e.0 = (e.1, e.2) in
        let u = good_from t e.0 ea g in
        let v = bad_from t e.0 ea b in
        absurd cc;
  }

  pub is_system : IsSystem c
  is_system = base.is_system m (z + k) [] ok none_in given d y_gated.sound later bad good bad_in good_in opposed

  -- the rules of an initial state
  abbrev pub Off : (ℕ → Bool) → ℕ → Type 0
  Off v i = v (m.state_bits + i) ≡ false

  fired_starts : (j : ℕ) → (fired p ls j yes).draft.starts ≡ []
  fired_starts zero = refl
  fired_starts (suc j) = fired_starts j

  fired_rows : (j : ℕ) → (fired p ls j yes).draft.rows ≡ []
  fired_rows zero = refl
  fired_rows (suc j) = fired_rows j

  nothing : (A : Type 0) (P : ℕ → Type 0) → A ↔ (A × ((i : ℕ) → i < 0 → P i))
  nothing A P = (λ h. (h, λ i lt. absurd (omega (arith, lt))), λ h. h.0)

  more : (A B : Type 0) (P : ℕ → Type 0) (j : ℕ) → (A ↔ (B × P j)) → (C : Type 0) → (B ↔ (C × ((i : ℕ) → i < j → P i))) → A ↔ (C × ((i : ℕ) → i < suc j → P i))
  more A B P j e C f = (
    λ h. (let r = e.0 h in let q = f.0 r.0 in (q.0, (below_suc P j).1 (q.1, r.1))),
    λ h. (let r = (below_suc P j).0 h.1 in e.1 (f.1 (h.0, r.0), r.1)),
  )

  marked_starts : (v : ℕ → Bool) (e : Draft) (j : ℕ) → Met v (marked p x.lit ls j e).starts ↔ (Met v e.starts × ((i : ℕ) → i < j → Off v i))
  marked_starts v e zero = nothing (Met v e.starts) (Off v)
  marked_starts v e (suc j) =
      more _ (Met v (marked p x.lit ls j e).starts) (Off v) j (met_more v (marked p x.lit ls j e).starts _ (Off v j) (unset_means v (bit p j))) (Met v e.starts) (marked_starts v e j)

  counted_starts : (v : ℕ → Bool) (t : Drafted) (j : ℕ) → Met v (counted_up p z x.lit j t).draft.starts ↔ (Met v t.draft.starts × ((i : ℕ) → i < j → Off v (z + i)))
  counted_starts v t zero = nothing (Met v t.draft.starts) (λ i. Off v (z + i))
  counted_starts v t (suc j) =
      more _ (Met v (counted_up p z x.lit j t).draft.starts) (λ i. Off v (z + i)) j
      (met_more v (counted_up p z x.lit j t).draft.starts _ (Off v (z + j)) (unset_means v (bit p (z + j)))) (Met v t.draft.starts) (counted_starts v t j)

  all_off : (v : ℕ → Bool) → ((i : ℕ) → i < z → Off v i) → ((i : ℕ) → i < k → Off v (z + i)) → (i : ℕ) → i < z + k → Off v i
  all_off v a b i lt = elim (cases_lt i z) [
    | inl less ↦ a i less
    | inr more_ ↦ let e : z + (i - z) ≡ i = omega (arith, more_) in subst (Off v) e (b (i - z) (omega (arith, lt, more_)))
  ]

  starts_tell : (v : ℕ → Bool) → Met v d.starts ↔ ((i : ℕ) → i < z + k → Off v i)
  starts_tell v =
      let e = counted_starts v start k in
      let f = marked_starts v x.draft z in (
        λ h. (let r = e.0 h in let q = f.0 r.0 in all_off v q.1 r.1),
        λ h. e.1 (f.1 (ap (λ cs. all v cs) (fired_starts z), λ i lt. h i (omega (arith, lt))), λ i lt. h (z + i) (omega (arith, lt))),
      )

  first_from : (t : ℕ → Bool) → FirstBits c t → FirstBits m t × ((j : ℕ) → j < z + k → t (m.state_bits + j) ≡ false)
  first_from t h =
      let r = base.first_from m (z + k) [] ok none_in given d y_gated.sound later bad good bad_in good_in opposed t h in
      (r.0, λ j lt. sym (r.1.1 (m.state_bits + j) (omega (arith, lt))) ∙ (starts_tell r.1.0).0 r.1.3 j lt)

  first_to : (t : ℕ → Bool) → FirstBits m t × ((j : ℕ) → j < z + k → t (m.state_bits + j) ≡ false) → FirstBits c t
  first_to t h =
      let e = y_gated.sound.some t in
      base.first_to m (z + k) [] ok none_in given d y_gated.sound later bad good bad_in good_in opposed t h.0 e.0 e.1 e.2
      ((starts_tell e.0).1 (λ j lt. e.1 (m.state_bits + j) (omega (arith, lt)) ∙ h.1 j lt))

  -- the rules of a step, by one state's variables before it and after
  abbrev pub MarkRow : (ℕ → Bool) → ℕ → Type 0
  MarkRow w i =
      after p w (m.state_bits + i) ≡ (not (value (before p w) x.lit) && (before p w (m.state_bits + i) || value (before p w) (at ls i)))

  abbrev pub CountRow : (ℕ → Bool) → ℕ → Type 0
  CountRow w i =
      after p w (m.state_bits + (z + i)) ≡ (before p w (m.state_bits + (z + i)) || (value (before p w) (counted_up p z x.lit i start).lit && value (before p w) x.lit))

  mark_row : (w : ℕ → Bool) (j : ℕ) →
      Met w (is_or_and (negate (moved p Space.Next (bit p j))) (negate (negate (moved p Space.Now x.lit))) (negate (moved p Space.Now (bit p j))) (negate (moved p Space.Now (at ls j)))) ↔ MarkRow w j
  mark_row w j =
      let e = is_and_or_means w (moved p Space.Next (bit p j)) (negate (moved p Space.Now x.lit)) (moved p Space.Now (bit p j)) (moved p Space.Now (at ls j)) in
      let n : (value w (negate (moved p Space.Now x.lit)) && (before p w (m.state_bits + j) || value (before p w) (at ls j))) ≡
      (not (value (before p w) x.lit) && (before p w (m.state_bits + j) || value (before p w) (at ls j))) =
      ap (λ b. b && (before p w (m.state_bits + j) || value (before p w) (at ls j))) (value_negate w (moved p Space.Now x.lit)) in
      (λ h. e.0 h ∙ n, λ h. e.1 (h ∙ sym n))

  marked_rows : (w : ℕ → Bool) (e : Draft) (j : ℕ) → Met w (marked p x.lit ls j e).rows ↔ (Met w e.rows × ((i : ℕ) → i < j → MarkRow w i))
  marked_rows w e zero = nothing (Met w e.rows) (MarkRow w)
  marked_rows w e (suc j) =
      more _ (Met w (marked p x.lit ls j e).rows) (MarkRow w) j (met_more w (marked p x.lit ls j e).rows _ (MarkRow w j) (mark_row w j)) (Met w e.rows) (marked_rows w e j)

  counted_rows : (w : ℕ → Bool) (j : ℕ) → Met w (counted_up p z x.lit j start).draft.rows ↔ (Met w start.draft.rows × ((i : ℕ) → i < j → CountRow w i))
  counted_rows w zero = nothing (Met w start.draft.rows) (CountRow w)
  counted_rows w (suc j) =
      let t : Drafted = counted_up p z x.lit j start in
      more _ (Met w t.draft.rows) (CountRow w) j
      (met_more w t.draft.rows _ (CountRow w j) (is_or_and_means w (moved p Space.Next (bit p (z + j))) (moved p Space.Now (bit p (z + j))) (moved p Space.Now t.lit) (moved p Space.Now x.lit)))
      (Met w start.draft.rows) (counted_rows w j)

  rows_tell : (w : ℕ → Bool) → Met w d.rows ↔ (((i : ℕ) → i < z → MarkRow w i) × ((i : ℕ) → i < k → CountRow w i))
  rows_tell w =
      let e = counted_rows w k in
      let f = marked_rows w x.draft z in (
        λ h. (let r = e.0 h in let q = f.0 r.0 in (q.1, r.1)),
        λ h. e.1 (f.1 (ap (λ cs. all w cs) (fired_rows z), h.0), h.1),
      )

  -- a row at a step's two states
  module _ (w t t' a : ℕ → Bool) (ea : Extends m t a) (here : Agrees wide_bits (before p w) t) (there : Agrees wide_bits (after p w) t') (met : Met (before p w) d.defs) where
    marked_right : (i : ℕ) → i < z → (not (value (before p w) x.lit) && (before p w (m.state_bits + i) || value (before p w) (at ls i))) ≡ (not (signals m t a) && (marks m t i || holds m a i))
    marked_right i lt =
        ap (λ b. not b && (before p w (m.state_bits + i) || value (before p w) (at ls i))) (signal_value t a (before p w) ea here met)
        ∙ ap (λ b. not (signals m t a) && (b || value (before p w) (at ls i))) (mark_value t a (before p w) ea here met i lt)
        ∙ ap (λ b. not (signals m t a) && (marks m t i || b)) (set_value t a (before p w) ea here met i lt)

    counted_right : (i : ℕ) → i < k →
        (before p w (m.state_bits + (z + i)) || (value (before p w) (counted_up p z x.lit i start).lit && value (before p w) x.lit)) ≡ (counts m t i || (at_least (counts m t) i && signals m t a))
    counted_right i lt =
        let r : value (before p w) (counted_up p z x.lit i start).lit ≡ at_least (counts m t) i =
        reached_value (before p w) (x_met t a (before p w) ea here met) i
        ∙ at_least_like i _ _ (λ j lj. here (m.state_bits + (z + j)) (omega (arith, lj, lt))) in
        ap (λ b. b || (value (before p w) (counted_up p z x.lit i start).lit && value (before p w) x.lit)) (here (m.state_bits + (z + i)) (omega (arith, lt)))
        ∙ ap (λ b. counts m t i || (b && value (before p w) x.lit)) r
        ∙ ap (λ b. counts m t i || (at_least (counts m t) i && b)) (signal_value t a (before p w) ea here met)

    rows_here : Met w d.rows → MarkRows z (signals m t a) (marks m t) (holds m a) (marks m t') × CountRows k (signals m t a) (counts m t) (counts m t')
    rows_here h =
        let r = (rows_tell w).0 h in (
          λ j lt. sym (there (m.state_bits + j) (omega (arith, lt))) ∙ r.0 j lt ∙ marked_right j lt,
          λ j lt. sym (there (m.state_bits + (z + j)) (omega (arith, lt))) ∙ r.1 j lt ∙ counted_right j lt,
        )

    rows_back : MarkRows z (signals m t a) (marks m t) (holds m a) (marks m t') × CountRows k (signals m t a) (counts m t) (counts m t') → Met w d.rows
    rows_back h = (rows_tell w).1 (
      λ j lt. there (m.state_bits + j) (omega (arith, lt)) ∙ h.0 j lt ∙ sym (marked_right j lt),
      λ j lt. there (m.state_bits + (z + j)) (omega (arith, lt)) ∙ h.1 j lt ∙ sym (counted_right j lt),
    )

  step_from : (t t' a : ℕ → Bool) → Extends m t a → StepBits c t t' →
      StepBits m t t' × MarkRows z (signals m t a) (marks m t) (holds m a) (marks m t') × CountRows k (signals m t a) (counts m t) (counts m t')
  step_from t t' a ea h =
      let g = base.step_from m (z + k) [] ok none_in given d y_gated.sound later bad good bad_in good_in opposed t t' h in
      let r = rows_here g.w t t' a ea g.here g.there g.met_here g.met_rows in
      (g.own, r.0, r.1)

  step_to : (t t' a : ℕ → Bool) → Extends m t a →
      StepBits m t t' × MarkRows z (signals m t a) (marks m t) (holds m a) (marks m t') × CountRows k (signals m t a) (counts m t) (counts m t') → StepBits c t t'
  step_to t t' a ea h =
      base.step_to m (z + k) [] ok none_in given d y_gated.sound later bad good bad_in good_in opposed t t' h.0
      (λ w gb ga mb ma. rows_back w t t' a ea gb ga mb (h.1, h.2))

  pub is_counted : IsCounted m k c
  is_counted = record {
    bits = refl;
    first = λ t. (first_from t, first_to t);
    step = λ t t' a ea. (step_from t t' a ea, step_to t t' a ea);
    bad = λ t a ea. (bad_from t a ea, bad_to t a ea);
    good = λ t a ea. (good_from t a ea, good_to t a ea);
  }

-- the system is put together of these parts
pub counted_same : (m : TransitionSystem) (k n : ℕ) (p : Layout) (x : Counting) (bs gs : List (List Lit)) →
    n ≡ length m.fair + k → p ≡ layout_of m n → x ≡ counting p m k → bs ≡ bad_of p x → gs ≡ good_of p x → assembled p m bs gs x.draft ≡ counted_of m k
counted_same m k n p x bs gs en ep ex eb eg =
    ap (λ t. assembled p m t gs x.draft) eb ∙ ap (λ t. assembled p m (bad_of p x) t x.draft) eg
    ∙ ap (λ (t : Counting). assembled p m (bad_of p t) (good_of p t) t.draft) ex
    ∙ ap (λ q. counted_at q m k) (ep ∙ ap (layout_of m) en)

pub counted_room : (m : TransitionSystem) (k n : ℕ) (p : Layout) (x : Counting) → n ≡ length m.fair + k → p ≡ layout_of m n → x ≡ counting p m k →
    m.state_bits + (length m.fair + k) ≤ (counting (layout_of m (length m.fair + k)) m k).draft.gate → p.given + p.nodes ≤ x.draft.gate
counted_room m k n p x en ep ex h =
    let P : Layout → Type 0 = λ q. q.given + q.nodes ≤ (counting q m k).draft.gate in
    subst (λ (t : Counting). p.given + p.nodes ≤ t.draft.gate) (sym ex) (subst P (sym (ep ∙ ap (layout_of m) en)) h)
