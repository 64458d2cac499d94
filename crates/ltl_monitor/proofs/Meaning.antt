-- What the clauses of a draft say: each formula's literal has its truth, and the rules are the monitor's.
use Rattle.std.proofs.Common.{◌≡◌, ℕ, ◌+◌, ◌<◌, Bool, true, false, not, ◌&&◌, ◌||◌, List, [], ◌∷◌, ◌++◌, map, length, zero, suc, refl, sym, ap, ◌∙◌, subst, arith, append_assoc, append-nil}
use Rattle.std.specs.Prelude.{◌↔◌, slice_index_or}
use Rattle.ltl_meaning.specs.declared.node.UnaryOperator.{UnaryOperator}
use Rattle.ltl_meaning.specs.declared.node.BinaryOperator.{BinaryOperator}
use Rattle.ltl_meaning.specs.Ltl.{Ltl}
use Rattle.clause_core.specs.declared.literal.Lit.{Lit}
use Rattle.clause_core.specs.Literals.{negate, at}
use Rattle.ltl_monitor.specs.declared.layout.Layout.{Layout}
use Rattle.ltl_monitor.specs.declared.layout.Space.{Space}
use Rattle.ltl_monitor.specs.declared.draft.Draft.{Draft}
use Rattle.ltl_monitor.specs.declared.draft.Scene.{Scene}
use Rattle.ltl_monitor.specs.Monitor.{Side, same, nodes, unary_now, binary_now, truth, unary_row, binary_row, rows, unary_start, binary_start, starts, Set, unary_sets, binary_sets, sets}
use Rattle.ltl_monitor.specs.States.{value, AtomsBelow, side_of}
use Rattle.ltl_monitor.specs.Drafting.{place, moved, both, plain, is_or, unary_rules, binary_rules, unary_lit, binary_lit, Drafted, own_bit, unary_drafted, binary_drafted, drafted}
use Rattle.ltl_monitor.proofs.Clauses.{Met, value_negate, met_parts, met_more, met_one, is_same_means, is_or_means, is_iff_means, is_or_and_means, is_and_means, is_and_or_means}

-- facts at other values
pub like4 : (R : Bool → Bool → Bool → Bool → Type 0) (a b c d a' b' c' d' : Bool) → a ≡ a' → b ≡ b' → c ≡ c' → d ≡ d' → R a b c d → R a' b' c' d'
like4 R a b c d a' b' c' d' ea eb ec ed h =
    subst (λ x. R x b' c' d') ea (subst (λ x. R a x c' d') eb (subst (λ x. R a b x d') ec (subst (λ x. R a b c x) ed h)))

pub like6 : (R : Bool → Bool → Bool → Bool → Bool → Bool → Type 0) (a b c d e f a' b' c' d' e' f' : Bool) → a ≡ a' → b ≡ b' → c ≡ c' → d ≡ d' → e ≡ e' → f ≡ f' →
    R a b c d e f → R a' b' c' d' e' f'
like6 R a b c d e f a' b' c' d' e' f' ea eb ec ed ee ef h =
    subst (λ x. R x b' c' d' e' f') ea (subst (λ x. R a x c' d' e' f') eb (like4 (λ p q r s. R a b p q r s) c d e f c' d' e' f' ec ed ee ef h))

-- the map of a list of sets at a state, joined
pub map_append : {X Y : Type 0} (f : X → Y) (xs ys : List X) → map f (xs ++ ys) ≡ map f xs ++ map f ys
map_append f [] ys = refl
map_append f (x ∷ xs) ys = ap (λ zs. f x ∷ zs) (map_append f xs ys)

-- an atom's literal, in the list of all
pub at_map : (v : ℕ → Bool) (ls : List Lit) (k : ℕ) → k < length ls → value v (at ls k) ≡ slice_index_or (map (value v) ls) k false
at_map v [] k h = absurd (omega (arith, h))
at_map v (l ∷ ls) zero h = refl
at_map v (l ∷ ls) (suc k) h = at_map v ls k (omega (arith, h))

abbrev pub before : Layout → (ℕ → Bool) → ℕ → Bool
before p w i = w (place p Space.Now i)

abbrev pub after : Layout → (ℕ → Bool) → ℕ → Bool
after p w i = w (place p Space.Next i)

module _ (p : Layout) where
  -- one operator with one operand, by the values of its bit and its operand
  pub unary_rows_mean : (o : UnaryOperator) (w : ℕ → Bool) (b f : Lit) (d : Draft) →
      Met w (unary_rules o (both p b) (both p f) d).rows ↔
      (Met w d.rows × unary_row o (value (before p w) b) (value (after p w) b) (value (before p w) f) (value (after p w) f))
  unary_rows_mean UnaryOperator.Not w b f d = (λ h. (h, tt), λ h. h.0)
  unary_rows_mean UnaryOperator.Next w b f d = met_more w d.rows _ _ (is_same_means w (moved p Space.Now b) (moved p Space.Next f))
  unary_rows_mean UnaryOperator.Finally w b f d = met_more w d.rows _ _ (is_or_means w (moved p Space.Now b) (moved p Space.Now f) (moved p Space.Next b))
  unary_rows_mean UnaryOperator.Globally w b f d = met_more w d.rows _ _ (is_and_means w (moved p Space.Now b) (moved p Space.Now f) (moved p Space.Next b))
  unary_rows_mean UnaryOperator.Yesterday w b f d = met_more w d.rows _ _ (is_same_means w (moved p Space.Next b) (moved p Space.Now f))
  unary_rows_mean UnaryOperator.WeakYesterday w b f d = met_more w d.rows _ _ (is_same_means w (moved p Space.Next b) (moved p Space.Now f))
  unary_rows_mean UnaryOperator.Once w b f d = met_more w d.rows _ _ (is_or_means w (moved p Space.Next b) (moved p Space.Next f) (moved p Space.Now b))
  unary_rows_mean UnaryOperator.Historically w b f d = met_more w d.rows _ _ (is_and_means w (moved p Space.Next b) (moved p Space.Next f) (moved p Space.Now b))
  unary_rows_mean UnaryOperator.NowOrNext w b f d = met_more w d.rows _ _ (is_or_means w (moved p Space.Now b) (moved p Space.Now f) (moved p Space.Next f))
  unary_rows_mean UnaryOperator.NowAndNext w b f d = met_more w d.rows _ _ (is_and_means w (moved p Space.Now b) (moved p Space.Now f) (moved p Space.Next f))
  unary_rows_mean UnaryOperator.NowOrBefore w b f d = met_more w d.rows _ _ (is_or_means w (moved p Space.Next b) (moved p Space.Next f) (moved p Space.Now f))
  unary_rows_mean UnaryOperator.NowAndBefore w b f d = met_more w d.rows _ _ (is_and_means w (moved p Space.Next b) (moved p Space.Next f) (moved p Space.Now f))

  unary_starts_mean : (o : UnaryOperator) (v : ℕ → Bool) (b f : Lit) (d : Draft) →
      Met v (unary_rules o (both p b) (both p f) d).starts ↔ (Met v d.starts × unary_start o (value v b) (value v f))
  unary_starts_mean UnaryOperator.Not v b f d = (λ h. (h, tt), λ h. h.0)
  unary_starts_mean UnaryOperator.Next v b f d = (λ h. (h, tt), λ h. h.0)
  unary_starts_mean UnaryOperator.Finally v b f d = (λ h. (h, tt), λ h. h.0)
  unary_starts_mean UnaryOperator.Globally v b f d = (λ h. (h, tt), λ h. h.0)
  unary_starts_mean UnaryOperator.Yesterday v b f d = met_more v d.starts _ _ (unmet v b)
    where
      false_from : (x : Bool) → not x ≡ true → x ≡ false
      false_from true h = sym h
      false_from false h = refl

      unmet : (v : ℕ → Bool) (b : Lit) → Met v ((negate b ∷ []) ∷ []) ↔ (value v b ≡ false)
      unmet v b = (
        λ h. false_from (value v b) (sym (value_negate v b) ∙ (met_one v (negate b)).0 h),
        λ h. (met_one v (negate b)).1 (value_negate v b ∙ ap not h),
      )
  unary_starts_mean UnaryOperator.WeakYesterday v b f d = met_more v d.starts _ _ (met_one v b)
  unary_starts_mean UnaryOperator.Once v b f d = met_more v d.starts _ _ (is_same_means v b f)
  unary_starts_mean UnaryOperator.Historically v b f d = met_more v d.starts _ _ (is_same_means v b f)
  unary_starts_mean UnaryOperator.NowOrNext v b f d = (λ h. (h, tt), λ h. h.0)
  unary_starts_mean UnaryOperator.NowAndNext v b f d = (λ h. (h, tt), λ h. h.0)
  unary_starts_mean UnaryOperator.NowOrBefore v b f d = met_more v d.starts _ _ (is_same_means v b f)
  unary_starts_mean UnaryOperator.NowAndBefore v b f d = met_more v d.starts _ _ (is_same_means v b f)

  pub unary_back : (o : UnaryOperator) (v : ℕ → Bool) (b f : Lit) (d : Draft) → Met v (unary_rules o (both p b) (both p f) d).defs → Met v d.defs
  unary_back UnaryOperator.Not v b f d h = h
  unary_back UnaryOperator.Next v b f d h = h
  unary_back UnaryOperator.Finally v b f d h = (met_parts v d.defs _ h).0
  unary_back UnaryOperator.Globally v b f d h = (met_parts v d.defs _ h).0
  unary_back UnaryOperator.Yesterday v b f d h = h
  unary_back UnaryOperator.WeakYesterday v b f d h = h
  unary_back UnaryOperator.Once v b f d h = h
  unary_back UnaryOperator.Historically v b f d h = h
  unary_back UnaryOperator.NowOrNext v b f d h = h
  unary_back UnaryOperator.NowAndNext v b f d h = h
  unary_back UnaryOperator.NowOrBefore v b f d h = h
  unary_back UnaryOperator.NowAndBefore v b f d h = h

  -- the value of a set's gate, put behind the sets before it
  set_value : (v : ℕ → Bool) (x y : Lit) (d : Draft) (t : Bool) → Met v (d.defs ++ is_or (plain d.gate) x y) → (value v x || value v y) ≡ t →
      map (value v) (d.sets ++ plain d.gate ∷ []) ≡ map (value v) d.sets ++ t ∷ []
  set_value v x y d t h e =
      map_append (value v) d.sets (plain d.gate ∷ [])
      ∙ ap (λ c. map (value v) d.sets ++ c ∷ []) ((is_or_means v (plain d.gate) x y).0 (met_parts v d.defs _ h).1 ∙ e)

  unary_sets_mean : (o : UnaryOperator) (v : ℕ → Bool) (b f : Lit) (d : Draft) (bit q : Set) (s : Side) → value v b ≡ bit s → value v f ≡ q s →
      Met v (unary_rules o (both p b) (both p f) d).defs →
      map (value v) (unary_rules o (both p b) (both p f) d).sets ≡ map (value v) d.sets ++ map (λ z. z s) (unary_sets o bit q)
  unary_sets_mean UnaryOperator.Not v b f d bit q s eb ef h = sym (append-nil _)
  unary_sets_mean UnaryOperator.Next v b f d bit q s eb ef h = sym (append-nil _)
  unary_sets_mean UnaryOperator.Finally v b f d bit q s eb ef h =
      set_value v (negate b) f d _ h (ap (λ c. c || value v f) (value_negate v b ∙ ap not eb) ∙ ap (λ c. not (bit s) || c) ef)
  unary_sets_mean UnaryOperator.Globally v b f d bit q s eb ef h =
      set_value v b (negate f) d _ h (ap (λ c. c || value v (negate f)) eb ∙ ap (λ c. bit s || c) (value_negate v f ∙ ap not ef))
  unary_sets_mean UnaryOperator.Yesterday v b f d bit q s eb ef h = sym (append-nil _)
  unary_sets_mean UnaryOperator.WeakYesterday v b f d bit q s eb ef h = sym (append-nil _)
  unary_sets_mean UnaryOperator.Once v b f d bit q s eb ef h = sym (append-nil _)
  unary_sets_mean UnaryOperator.Historically v b f d bit q s eb ef h = sym (append-nil _)
  unary_sets_mean UnaryOperator.NowOrNext v b f d bit q s eb ef h = sym (append-nil _)
  unary_sets_mean UnaryOperator.NowAndNext v b f d bit q s eb ef h = sym (append-nil _)
  unary_sets_mean UnaryOperator.NowOrBefore v b f d bit q s eb ef h = sym (append-nil _)
  unary_sets_mean UnaryOperator.NowAndBefore v b f d bit q s eb ef h = sym (append-nil _)

  unary_lit_means : (o : UnaryOperator) (v : ℕ → Bool) (b f : Lit) → value v (unary_lit o b f) ≡ unary_now o (value v b) (value v f)
  unary_lit_means UnaryOperator.Not v b f = value_negate v f
  unary_lit_means UnaryOperator.Next v b f = refl
  unary_lit_means UnaryOperator.Finally v b f = refl
  unary_lit_means UnaryOperator.Globally v b f = refl
  unary_lit_means UnaryOperator.Yesterday v b f = refl
  unary_lit_means UnaryOperator.WeakYesterday v b f = refl
  unary_lit_means UnaryOperator.Once v b f = refl
  unary_lit_means UnaryOperator.Historically v b f = refl
  unary_lit_means UnaryOperator.NowOrNext v b f = refl
  unary_lit_means UnaryOperator.NowAndNext v b f = refl
  unary_lit_means UnaryOperator.NowOrBefore v b f = refl
  unary_lit_means UnaryOperator.NowAndBefore v b f = refl

  -- one operator with two operands
  binary_rows_mean : (o : BinaryOperator) (w : ℕ → Bool) (b f g : Lit) (d : Draft) →
      Met w (binary_rules o (both p b) (both p f) (both p g) d).rows ↔
      (Met w d.rows × binary_row o (value (before p w) b) (value (after p w) b) (value (before p w) f) (value (before p w) g) (value (after p w) f) (value (after p w) g))
  binary_rows_mean BinaryOperator.And w b f g d = (λ h. (h, tt), λ h. h.0)
  binary_rows_mean BinaryOperator.Or w b f g d = (λ h. (h, tt), λ h. h.0)
  binary_rows_mean BinaryOperator.Xor w b f g d = (λ h. (h, tt), λ h. h.0)
  binary_rows_mean BinaryOperator.Xnor w b f g d = (λ h. (h, tt), λ h. h.0)
  binary_rows_mean BinaryOperator.Implies w b f g d = (λ h. (h, tt), λ h. h.0)
  binary_rows_mean BinaryOperator.Iff w b f g d = (λ h. (h, tt), λ h. h.0)
  binary_rows_mean BinaryOperator.Until w b f g d =
      met_more w d.rows _ _ (is_or_and_means w (moved p Space.Now b) (moved p Space.Now g) (moved p Space.Now f) (moved p Space.Next b))
  binary_rows_mean BinaryOperator.Releases w b f g d =
      met_more w d.rows _ _ (is_and_or_means w (moved p Space.Now b) (moved p Space.Now g) (moved p Space.Now f) (moved p Space.Next b))
  binary_rows_mean BinaryOperator.Since w b f g d =
      met_more w d.rows _ _ (is_or_and_means w (moved p Space.Next b) (moved p Space.Next g) (moved p Space.Next f) (moved p Space.Now b))
  binary_rows_mean BinaryOperator.Triggered w b f g d =
      met_more w d.rows _ _ (is_and_or_means w (moved p Space.Next b) (moved p Space.Next g) (moved p Space.Next f) (moved p Space.Now b))

  binary_starts_mean : (o : BinaryOperator) (v : ℕ → Bool) (b f g : Lit) (d : Draft) →
      Met v (binary_rules o (both p b) (both p f) (both p g) d).starts ↔ (Met v d.starts × binary_start o (value v b) (value v g))
  binary_starts_mean BinaryOperator.And v b f g d = (λ h. (h, tt), λ h. h.0)
  binary_starts_mean BinaryOperator.Or v b f g d = (λ h. (h, tt), λ h. h.0)
  binary_starts_mean BinaryOperator.Xor v b f g d = (λ h. (h, tt), λ h. h.0)
  binary_starts_mean BinaryOperator.Xnor v b f g d = (λ h. (h, tt), λ h. h.0)
  binary_starts_mean BinaryOperator.Implies v b f g d = (λ h. (h, tt), λ h. h.0)
  binary_starts_mean BinaryOperator.Iff v b f g d = (λ h. (h, tt), λ h. h.0)
  binary_starts_mean BinaryOperator.Until v b f g d = (λ h. (h, tt), λ h. h.0)
  binary_starts_mean BinaryOperator.Releases v b f g d = (λ h. (h, tt), λ h. h.0)
  binary_starts_mean BinaryOperator.Since v b f g d = met_more v d.starts _ _ (is_same_means v b g)
  binary_starts_mean BinaryOperator.Triggered v b f g d = met_more v d.starts _ _ (is_same_means v b g)

  pub binary_back : (o : BinaryOperator) (v : ℕ → Bool) (b f g : Lit) (d : Draft) → Met v (binary_rules o (both p b) (both p f) (both p g) d).defs → Met v d.defs
  binary_back BinaryOperator.And v b f g d h = (met_parts v d.defs _ h).0
  binary_back BinaryOperator.Or v b f g d h = (met_parts v d.defs _ h).0
  binary_back BinaryOperator.Xor v b f g d h = (met_parts v d.defs _ h).0
  binary_back BinaryOperator.Xnor v b f g d h = (met_parts v d.defs _ h).0
  binary_back BinaryOperator.Implies v b f g d h = (met_parts v d.defs _ h).0
  binary_back BinaryOperator.Iff v b f g d h = (met_parts v d.defs _ h).0
  binary_back BinaryOperator.Until v b f g d h = (met_parts v d.defs _ h).0
  binary_back BinaryOperator.Releases v b f g d h = (met_parts v d.defs _ h).0
  binary_back BinaryOperator.Since v b f g d h = h
  binary_back BinaryOperator.Triggered v b f g d h = h

  binary_sets_mean : (o : BinaryOperator) (v : ℕ → Bool) (b f g : Lit) (d : Draft) (bit q : Set) (s : Side) → value v b ≡ bit s → value v g ≡ q s →
      Met v (binary_rules o (both p b) (both p f) (both p g) d).defs →
      map (value v) (binary_rules o (both p b) (both p f) (both p g) d).sets ≡ map (value v) d.sets ++ map (λ z. z s) (binary_sets o bit q)
  binary_sets_mean BinaryOperator.And v b f g d bit q s eb eg h = sym (append-nil _)
  binary_sets_mean BinaryOperator.Or v b f g d bit q s eb eg h = sym (append-nil _)
  binary_sets_mean BinaryOperator.Xor v b f g d bit q s eb eg h = sym (append-nil _)
  binary_sets_mean BinaryOperator.Xnor v b f g d bit q s eb eg h = sym (append-nil _)
  binary_sets_mean BinaryOperator.Implies v b f g d bit q s eb eg h = sym (append-nil _)
  binary_sets_mean BinaryOperator.Iff v b f g d bit q s eb eg h = sym (append-nil _)
  binary_sets_mean BinaryOperator.Until v b f g d bit q s eb eg h =
      set_value v (negate b) g d _ h (ap (λ c. c || value v g) (value_negate v b ∙ ap not eb) ∙ ap (λ c. not (bit s) || c) eg)
  binary_sets_mean BinaryOperator.Releases v b f g d bit q s eb eg h =
      set_value v b (negate g) d _ h (ap (λ c. c || value v (negate g)) eb ∙ ap (λ c. bit s || c) (value_negate v g ∙ ap not eg))
  binary_sets_mean BinaryOperator.Since v b f g d bit q s eb eg h = sym (append-nil _)
  binary_sets_mean BinaryOperator.Triggered v b f g d bit q s eb eg h = sym (append-nil _)

  pub dual_and : (x y : Bool) → not (not x || not y) ≡ (x && y)
  dual_and true true = refl
  dual_and true false = refl
  dual_and false y = refl

  binary_lit_means : (o : BinaryOperator) (v : ℕ → Bool) (b f g : Lit) (d : Draft) → Met v (binary_rules o (both p b) (both p f) (both p g) d).defs →
      value v (binary_lit o b (plain d.gate)) ≡ binary_now o (value v b) (value v f) (value v g)
  binary_lit_means BinaryOperator.And v b f g d h =
      value_negate v (plain d.gate) ∙ ap not ((is_or_means v (plain d.gate) (negate f) (negate g)).0 (met_parts v d.defs _ h).1
      ∙ ap (λ c. c || value v (negate g)) (value_negate v f) ∙ ap (λ c. not (value v f) || c) (value_negate v g)) ∙ dual_and (value v f) (value v g)
  binary_lit_means BinaryOperator.Or v b f g d h = (is_or_means v (plain d.gate) f g).0 (met_parts v d.defs _ h).1
  binary_lit_means BinaryOperator.Xor v b f g d h = value_negate v (plain d.gate) ∙ ap not ((is_iff_means v (plain d.gate) f g).0 (met_parts v d.defs _ h).1)
  binary_lit_means BinaryOperator.Xnor v b f g d h = (is_iff_means v (plain d.gate) f g).0 (met_parts v d.defs _ h).1
  binary_lit_means BinaryOperator.Implies v b f g d h =
      (is_or_means v (plain d.gate) (negate f) g).0 (met_parts v d.defs _ h).1 ∙ ap (λ c. c || value v g) (value_negate v f)
  binary_lit_means BinaryOperator.Iff v b f g d h = (is_iff_means v (plain d.gate) f g).0 (met_parts v d.defs _ h).1
  binary_lit_means BinaryOperator.Until v b f g d h = refl
  binary_lit_means BinaryOperator.Releases v b f g d h = refl
  binary_lit_means BinaryOperator.Since v b f g d h = refl
  binary_lit_means BinaryOperator.Triggered v b f g d h = refl

module _ (s : Scene) where
  -- what an assignment of one state's variables shows
  abbrev pub side : (ℕ → Bool) → Side
  side v = side_of s.atoms s.layout.given v v

  -- what adding a formula to a draft comes to
  pub record Means (f : Ltl) (d : Draft) (x : Drafted) : Type 0 where
    pub node : x.draft.node ≡ d.node + nodes f
    pub back : (v : ℕ → Bool) → Met v x.draft.defs → Met v d.defs
    pub truths : (v : ℕ → Bool) → Met v x.draft.defs → value v x.lit ≡ truth f d.node (side v)
    pub firsts : (v : ℕ → Bool) → Met v x.draft.defs → Met v x.draft.starts ↔ (Met v d.starts × starts f d.node (side v))
    pub steps : (w : ℕ → Bool) → Met (before s.layout w) x.draft.defs → Met (after s.layout w) x.draft.defs →
        Met w x.draft.rows ↔ (Met w d.rows × rows f d.node (side (before s.layout w)) (side (after s.layout w)))
    pub fair : (v : ℕ → Bool) → Met v x.draft.defs → map (value v) x.draft.sets ≡ map (value v) d.sets ++ map (λ z. z (side v)) (sets f d.node)

  -- the bit of an operator above n bits
  bit_at : (v : ℕ → Bool) (y : Draft) (n : ℕ) → y.node ≡ n → value v (own_bit s.layout y) ≡ (side v).bit n
  bit_at v y n e = ap (λ k. v (s.layout.given + k)) e

  unary_means : (o : UnaryOperator) (f : Ltl) (d : Draft) (x : Drafted) → Means f d x → Means (Ltl.Unary o f) d (unary_drafted s.layout o x.lit x.draft)
  unary_means o f d x m =
      let b = own_bit s.layout x.draft in
      let n : ℕ = d.node + nodes f in record {
        node = omega (arith, m.node);
        back = λ v h. m.back v (unary_back s.layout o v b x.lit x.draft h);
        truths = λ v h.
            let k = unary_back s.layout o v b x.lit x.draft h in
            unary_lit_means s.layout o v b x.lit ∙ ap (λ c. unary_now o c (value v x.lit)) (bit_at v x.draft n m.node) ∙ ap (unary_now o ((side v).bit n)) (m.truths v k);
        firsts = λ v h.
            let k = unary_back s.layout o v b x.lit x.draft h in
            let e = unary_starts_mean s.layout o v b x.lit x.draft in
            let i = m.firsts v k in
            let eb = bit_at v x.draft n m.node in
            let ef = m.truths v k in (
              λ g. (let c = e.0 g in let c' = i.0 c.0 in (c'.0, (like4 (λ p q r t. unary_start o p q) _ _ true true _ _ true true eb ef refl refl c.1, c'.1))),
              λ g. e.1 (i.1 (g.0, g.1.1), like4 (λ p q r t. unary_start o p q) _ _ true true _ _ true true (sym eb) (sym ef) refl refl g.1.0),
            );
        steps = λ w h j.
            let kh = unary_back s.layout o (before s.layout w) b x.lit x.draft h in
            let kj = unary_back s.layout o (after s.layout w) b x.lit x.draft j in
            let e = unary_rows_mean s.layout o w b x.lit x.draft in
            let i = m.steps w kh kj in
            let eb = bit_at (before s.layout w) x.draft n m.node in
            let eb' = bit_at (after s.layout w) x.draft n m.node in
            let ef = m.truths (before s.layout w) kh in
            let ef' = m.truths (after s.layout w) kj in (
              λ g. (let c = e.0 g in let c' = i.0 c.0 in (c'.0, (like4 (unary_row o) _ _ _ _ _ _ _ _ eb eb' ef ef' c.1, c'.1))),
              λ g. e.1 (i.1 (g.0, g.1.1), like4 (unary_row o) _ _ _ _ _ _ _ _ (sym eb) (sym eb') (sym ef) (sym ef') g.1.0),
            );
        fair = λ v h.
            let k = unary_back s.layout o v b x.lit x.draft h in
            unary_sets_mean s.layout o v b x.lit x.draft (λ t. t.bit n) (truth f d.node) (side v) (bit_at v x.draft n m.node) (m.truths v k) h
            ∙ ap (λ c. c ++ map (λ z. z (side v)) (unary_sets o (λ t. t.bit n) (truth f d.node))) (m.fair v k)
            ∙ append_assoc (map (value v) d.sets) (map (λ z. z (side v)) (sets f d.node)) (map (λ z. z (side v)) (unary_sets o (λ t. t.bit n) (truth f d.node)))
            ∙ ap (λ c. map (value v) d.sets ++ c) (sym (map_append (λ z. z (side v)) (sets f d.node) (unary_sets o (λ t. t.bit n) (truth f d.node))));
      }

  binary_means : (o : BinaryOperator) (f g : Ltl) (d : Draft) (x y : Drafted) → Means f d x → Means g x.draft y →
      Means (Ltl.Binary o f g) d (binary_drafted s.layout o x.lit y.lit y.draft)
  binary_means o f g d x y mf mg =
      let b = own_bit s.layout y.draft in
      let n : ℕ = d.node + nodes f + nodes g in
      let en : y.draft.node ≡ n = omega (arith, mf.node, mg.node) in
      -- the right operand's facts, at its first bit
      let truths-g : (v : ℕ → Bool) → Met v y.draft.defs → value v y.lit ≡ truth g (d.node + nodes f) (side v) =
      λ v h. mg.truths v h ∙ ap (λ k. truth g k (side v)) mf.node in
      let firsts-g : (v : ℕ → Bool) → Met v y.draft.defs → Met v y.draft.starts ↔ (Met v x.draft.starts × starts g (d.node + nodes f) (side v)) =
      λ v h. subst (λ k. Met v y.draft.starts ↔ (Met v x.draft.starts × starts g k (side v))) mf.node (mg.firsts v h) in
      let steps-g : (w : ℕ → Bool) → Met (before s.layout w) y.draft.defs → Met (after s.layout w) y.draft.defs →
      Met w y.draft.rows ↔ (Met w x.draft.rows × rows g (d.node + nodes f) (side (before s.layout w)) (side (after s.layout w))) =
      λ w h j. subst (λ k. Met w y.draft.rows ↔ (Met w x.draft.rows × rows g k (side (before s.layout w)) (side (after s.layout w)))) mf.node (mg.steps w h j) in
      let fair-g : (v : ℕ → Bool) → Met v y.draft.defs → map (value v) y.draft.sets ≡ map (value v) x.draft.sets ++ map (λ z. z (side v)) (sets g (d.node + nodes f)) =
      λ v h. mg.fair v h ∙ ap (λ k. map (value v) x.draft.sets ++ map (λ z. z (side v)) (sets g k)) mf.node in record {
        node = omega (arith, mf.node, mg.node);
        back = λ v h. mf.back v (mg.back v (binary_back s.layout o v b x.lit y.lit y.draft h));
        truths = λ v h.
            let k = binary_back s.layout o v b x.lit y.lit y.draft h in
            binary_lit_means s.layout o v b x.lit y.lit y.draft h
            ∙ ap (λ c. binary_now o c (value v x.lit) (value v y.lit)) (bit_at v y.draft n en)
            ∙ ap (λ c. binary_now o ((side v).bit n) c (value v y.lit)) (mf.truths v (mg.back v k))
            ∙ ap (λ c. binary_now o ((side v).bit n) (truth f d.node (side v)) c) (truths-g v k);
        firsts = λ v h.
            let k = binary_back s.layout o v b x.lit y.lit y.draft h in
            let e = binary_starts_mean s.layout o v b x.lit y.lit y.draft in
            let i = mf.firsts v (mg.back v k) in
            let j = firsts-g v k in
            let eb = bit_at v y.draft n en in
            let eg = truths-g v k in (
              λ t. (let c = e.0 t in let c' = j.0 c.0 in let c'' = i.0 c'.0 in (c''.0, (like4 (λ p q r u. binary_start o p q) _ _ true true _ _ true true eb eg refl refl c.1, c''.1, c'.1))),
              λ t. e.1 (j.1 (i.1 (t.0, t.1.1), t.1.2), like4 (λ p q r u. binary_start o p q) _ _ true true _ _ true true (sym eb) (sym eg) refl refl t.1.0),
            );
        steps = λ w h l.
            let kh = binary_back s.layout o (before s.layout w) b x.lit y.lit y.draft h in
            let kl = binary_back s.layout o (after s.layout w) b x.lit y.lit y.draft l in
            let e = binary_rows_mean s.layout o w b x.lit y.lit y.draft in
            let i = mf.steps w (mg.back (before s.layout w) kh) (mg.back (after s.layout w) kl) in
            let j = steps-g w kh kl in
            let eb = bit_at (before s.layout w) y.draft n en in
            let eb' = bit_at (after s.layout w) y.draft n en in
            let ef = mf.truths (before s.layout w) (mg.back (before s.layout w) kh) in
            let ef' = mf.truths (after s.layout w) (mg.back (after s.layout w) kl) in
            let eg = truths-g (before s.layout w) kh in
            let eg' = truths-g (after s.layout w) kl in (
              λ t. (let c = e.0 t in let c' = j.0 c.0 in let c'' = i.0 c'.0 in (c''.0, (like6 (binary_row o) _ _ _ _ _ _ _ _ _ _ _ _ eb eb' ef eg ef' eg' c.1, c''.1, c'.1))),
              λ t. e.1 (j.1 (i.1 (t.0, t.1.1), t.1.2), like6 (binary_row o) _ _ _ _ _ _ _ _ _ _ _ _ (sym eb) (sym eb') (sym ef) (sym eg) (sym ef') (sym eg') t.1.0),
            );
        fair = λ v h.
            let k = binary_back s.layout o v b x.lit y.lit y.draft h in
            let own : List Set = binary_sets o (λ t. t.bit n) (truth g (d.node + nodes f)) in
            let at : Set → Bool = λ z. z (side v) in
            binary_sets_mean s.layout o v b x.lit y.lit y.draft (λ t. t.bit n) (truth g (d.node + nodes f)) (side v) (bit_at v y.draft n en) (truths-g v k) h
            ∙ ap (λ c. c ++ map at own) (fair-g v k ∙ ap (λ c. c ++ map at (sets g (d.node + nodes f))) (mf.fair v (mg.back v k)))
            ∙ append_assoc (map (value v) d.sets ++ map at (sets f d.node)) (map at (sets g (d.node + nodes f))) (map at own)
            ∙ append_assoc (map (value v) d.sets) (map at (sets f d.node)) (map at (sets g (d.node + nodes f)) ++ map at own)
            ∙ ap (λ c. map (value v) d.sets ++ (map at (sets f d.node) ++ c)) (sym (map_append at (sets g (d.node + nodes f)) own))
            ∙ ap (λ c. map (value v) d.sets ++ c) (sym (map_append at (sets f d.node) (sets g (d.node + nodes f) ++ own)));
      }

  constant_true : (v : ℕ → Bool) (d : Draft) (b : Bool) → Met v (d.defs ++ (plain d.gate ∷ []) ∷ []) → same b (v d.gate) ≡ b
  constant_true v d b h = let e : v d.gate ≡ true = (met_one v (plain d.gate)).0 (met_parts v d.defs _ h).1 in ap (same b) e ∙ with_true b
    where
      with_true : (c : Bool) → same c true ≡ c
      with_true true = refl
      with_true false = refl

  -- each formula
  pub means : (f : Ltl) (d : Draft) → AtomsBelow (length s.atoms) f → Means f d (drafted s f d)
  means (Ltl.Constant b) d h = record {
    node = omega arith;
    back = λ v m. (met_parts v d.defs _ m).0;
    truths = λ v m. constant_true v d b m;
    firsts = λ v m. (λ g. (g, tt), λ g. g.0);
    steps = λ w m n. (λ g. (g, tt), λ g. g.0);
    fair = λ v m. sym (append-nil _);
  }
  means (Ltl.Atom a) d h = record {
    node = omega arith;
    back = λ v m. m;
    truths = λ v m. at_map v s.atoms a h;
    firsts = λ v m. (λ g. (g, tt), λ g. g.0);
    steps = λ w m n. (λ g. (g, tt), λ g. g.0);
    fair = λ v m. sym (append-nil _);
  }
  means (Ltl.Unary o f) d h = unary_means o f d (drafted s f d) (means f d h)
  means (Ltl.Binary o f g) d h =
      binary_means o f g d (drafted s f d) (drafted s g (drafted s f d).draft) (means f d h.0) (means g (drafted s f d).draft h.1)
