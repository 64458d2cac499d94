-- What a formula's monitor says of a state depends on its atoms and on the formula's own bits.
use Rattle.std.proofs.Common.{◌≡◌, ℕ, ◌+◌, ◌<◌, Bool, true, not, ◌||◌, List, [], ◌∷◌, ◌++◌, map, refl, sym, ap, ◌∙◌, arith}
use Rattle.ltl_meaning.specs.declared.node.UnaryOperator.{UnaryOperator}
use Rattle.ltl_meaning.specs.declared.node.BinaryOperator.{BinaryOperator}
use Rattle.ltl_meaning.specs.Ltl.{Ltl}
use Rattle.ltl_monitor.specs.Monitor.{Side, nodes, unary_bits, binary_bits, unary_now, binary_now, truth, unary_row, binary_row, rows, unary_start, binary_start, starts, Set, unary_sets, binary_sets, sets}
use Rattle.ltl_monitor.proofs.Meaning.{like4, like6, map_append}

-- both show the same atoms, and the same bits below k
pub record Near (k : ℕ) (s t : Side) : Type 0 where
  pub atoms : (a : ℕ) → s.atom a ≡ t.atom a
  pub bits : (j : ℕ) → j < k → s.bit j ≡ t.bit j

pub near_less : (k m : ℕ) (s t : Side) → ((j : ℕ) → j < m → j < k) → Near k s t → Near m s t
near_less k m s t h n = record { atoms = n.atoms; bits = λ j lt. n.bits j (h j lt) }

pub near_back : (k : ℕ) (s t : Side) → Near k s t → Near k t s
near_back k s t n = record { atoms = λ a. sym (n.atoms a); bits = λ j lt. sym (n.bits j lt) }

unary_now_like : (o : UnaryOperator) (b b' p p' : Bool) → (0 < unary_bits o → b ≡ b') → p ≡ p' → unary_now o b p ≡ unary_now o b' p'
unary_now_like UnaryOperator.Not b b' p p' eb ep = ap not ep
unary_now_like UnaryOperator.Next b b' p p' eb ep = eb (omega arith)
unary_now_like UnaryOperator.Finally b b' p p' eb ep = eb (omega arith)
unary_now_like UnaryOperator.Globally b b' p p' eb ep = eb (omega arith)
unary_now_like UnaryOperator.Yesterday b b' p p' eb ep = eb (omega arith)
unary_now_like UnaryOperator.WeakYesterday b b' p p' eb ep = eb (omega arith)
unary_now_like UnaryOperator.Once b b' p p' eb ep = eb (omega arith)
unary_now_like UnaryOperator.Historically b b' p p' eb ep = eb (omega arith)
unary_now_like UnaryOperator.NowOrNext b b' p p' eb ep = eb (omega arith)
unary_now_like UnaryOperator.NowAndNext b b' p p' eb ep = eb (omega arith)
unary_now_like UnaryOperator.NowOrBefore b b' p p' eb ep = eb (omega arith)
unary_now_like UnaryOperator.NowAndBefore b b' p p' eb ep = eb (omega arith)

unary_row_like : (o : UnaryOperator) (b c p q b' c' p' q' : Bool) → (0 < unary_bits o → b ≡ b') → (0 < unary_bits o → c ≡ c') → p ≡ p' → q ≡ q' → unary_row o b c p q → unary_row o b' c' p' q'
unary_row_like UnaryOperator.Not b c p q b' c' p' q' eb ec ep eq h = tt
unary_row_like UnaryOperator.Next b c p q b' c' p' q' eb ec ep eq h = like4 (unary_row UnaryOperator.Next) b c p q b' c' p' q' (eb (omega arith)) (ec (omega arith)) ep eq h
unary_row_like UnaryOperator.Finally b c p q b' c' p' q' eb ec ep eq h = like4 (unary_row UnaryOperator.Finally) b c p q b' c' p' q' (eb (omega arith)) (ec (omega arith)) ep eq h
unary_row_like UnaryOperator.Globally b c p q b' c' p' q' eb ec ep eq h = like4 (unary_row UnaryOperator.Globally) b c p q b' c' p' q' (eb (omega arith)) (ec (omega arith)) ep eq h
unary_row_like UnaryOperator.Yesterday b c p q b' c' p' q' eb ec ep eq h = like4 (unary_row UnaryOperator.Yesterday) b c p q b' c' p' q' (eb (omega arith)) (ec (omega arith)) ep eq h
unary_row_like UnaryOperator.WeakYesterday b c p q b' c' p' q' eb ec ep eq h = like4 (unary_row UnaryOperator.WeakYesterday) b c p q b' c' p' q' (eb (omega arith)) (ec (omega arith)) ep eq h
unary_row_like UnaryOperator.Once b c p q b' c' p' q' eb ec ep eq h = like4 (unary_row UnaryOperator.Once) b c p q b' c' p' q' (eb (omega arith)) (ec (omega arith)) ep eq h
unary_row_like UnaryOperator.Historically b c p q b' c' p' q' eb ec ep eq h = like4 (unary_row UnaryOperator.Historically) b c p q b' c' p' q' (eb (omega arith)) (ec (omega arith)) ep eq h
unary_row_like UnaryOperator.NowOrNext b c p q b' c' p' q' eb ec ep eq h = like4 (unary_row UnaryOperator.NowOrNext) b c p q b' c' p' q' (eb (omega arith)) (ec (omega arith)) ep eq h
unary_row_like UnaryOperator.NowAndNext b c p q b' c' p' q' eb ec ep eq h = like4 (unary_row UnaryOperator.NowAndNext) b c p q b' c' p' q' (eb (omega arith)) (ec (omega arith)) ep eq h
unary_row_like UnaryOperator.NowOrBefore b c p q b' c' p' q' eb ec ep eq h = like4 (unary_row UnaryOperator.NowOrBefore) b c p q b' c' p' q' (eb (omega arith)) (ec (omega arith)) ep eq h
unary_row_like UnaryOperator.NowAndBefore b c p q b' c' p' q' eb ec ep eq h = like4 (unary_row UnaryOperator.NowAndBefore) b c p q b' c' p' q' (eb (omega arith)) (ec (omega arith)) ep eq h

unary_start_like : (o : UnaryOperator) (b p b' p' : Bool) → (0 < unary_bits o → b ≡ b') → p ≡ p' → unary_start o b p → unary_start o b' p'
unary_start_like UnaryOperator.Not b p b' p' eb ep h = tt
unary_start_like UnaryOperator.Next b p b' p' eb ep h = like4 (λ x y z u. unary_start UnaryOperator.Next x y) b p true true b' p' true true (eb (omega arith)) ep refl refl h
unary_start_like UnaryOperator.Finally b p b' p' eb ep h = like4 (λ x y z u. unary_start UnaryOperator.Finally x y) b p true true b' p' true true (eb (omega arith)) ep refl refl h
unary_start_like UnaryOperator.Globally b p b' p' eb ep h = like4 (λ x y z u. unary_start UnaryOperator.Globally x y) b p true true b' p' true true (eb (omega arith)) ep refl refl h
unary_start_like UnaryOperator.Yesterday b p b' p' eb ep h = like4 (λ x y z u. unary_start UnaryOperator.Yesterday x y) b p true true b' p' true true (eb (omega arith)) ep refl refl h
unary_start_like UnaryOperator.WeakYesterday b p b' p' eb ep h = like4 (λ x y z u. unary_start UnaryOperator.WeakYesterday x y) b p true true b' p' true true (eb (omega arith)) ep refl refl h
unary_start_like UnaryOperator.Once b p b' p' eb ep h = like4 (λ x y z u. unary_start UnaryOperator.Once x y) b p true true b' p' true true (eb (omega arith)) ep refl refl h
unary_start_like UnaryOperator.Historically b p b' p' eb ep h = like4 (λ x y z u. unary_start UnaryOperator.Historically x y) b p true true b' p' true true (eb (omega arith)) ep refl refl h
unary_start_like UnaryOperator.NowOrNext b p b' p' eb ep h = like4 (λ x y z u. unary_start UnaryOperator.NowOrNext x y) b p true true b' p' true true (eb (omega arith)) ep refl refl h
unary_start_like UnaryOperator.NowAndNext b p b' p' eb ep h = like4 (λ x y z u. unary_start UnaryOperator.NowAndNext x y) b p true true b' p' true true (eb (omega arith)) ep refl refl h
unary_start_like UnaryOperator.NowOrBefore b p b' p' eb ep h = like4 (λ x y z u. unary_start UnaryOperator.NowOrBefore x y) b p true true b' p' true true (eb (omega arith)) ep refl refl h
unary_start_like UnaryOperator.NowAndBefore b p b' p' eb ep h = like4 (λ x y z u. unary_start UnaryOperator.NowAndBefore x y) b p true true b' p' true true (eb (omega arith)) ep refl refl h

unary_sets_like : (o : UnaryOperator) (bit q : Set) (s t : Side) → (0 < unary_bits o → bit s ≡ bit t) → q s ≡ q t → map (λ z. z s) (unary_sets o bit q) ≡ map (λ z. z t) (unary_sets o bit q)
unary_sets_like UnaryOperator.Not bit q s t eb eq = refl
unary_sets_like UnaryOperator.Next bit q s t eb eq = refl
unary_sets_like UnaryOperator.Finally bit q s t eb eq = ap (λ c. (not c || q s) ∷ []) (eb (omega arith)) ∙ ap (λ c. (not (bit t) || c) ∷ []) eq
unary_sets_like UnaryOperator.Globally bit q s t eb eq = ap (λ c. (c || not (q s)) ∷ []) (eb (omega arith)) ∙ ap (λ c. (bit t || not c) ∷ []) eq
unary_sets_like UnaryOperator.Yesterday bit q s t eb eq = refl
unary_sets_like UnaryOperator.WeakYesterday bit q s t eb eq = refl
unary_sets_like UnaryOperator.Once bit q s t eb eq = refl
unary_sets_like UnaryOperator.Historically bit q s t eb eq = refl
unary_sets_like UnaryOperator.NowOrNext bit q s t eb eq = refl
unary_sets_like UnaryOperator.NowAndNext bit q s t eb eq = refl
unary_sets_like UnaryOperator.NowOrBefore bit q s t eb eq = refl
unary_sets_like UnaryOperator.NowAndBefore bit q s t eb eq = refl

binary_now_like : (o : BinaryOperator) (b b' p p' q q' : Bool) → (0 < binary_bits o → b ≡ b') → p ≡ p' → q ≡ q' → binary_now o b p q ≡ binary_now o b' p' q'
binary_now_like BinaryOperator.And b b' p p' q q' eb ep eq = ap (λ x. binary_now BinaryOperator.And b x q) ep ∙ ap (λ x. binary_now BinaryOperator.And b p' x) eq
binary_now_like BinaryOperator.Or b b' p p' q q' eb ep eq = ap (λ x. binary_now BinaryOperator.Or b x q) ep ∙ ap (λ x. binary_now BinaryOperator.Or b p' x) eq
binary_now_like BinaryOperator.Xor b b' p p' q q' eb ep eq = ap (λ x. binary_now BinaryOperator.Xor b x q) ep ∙ ap (λ x. binary_now BinaryOperator.Xor b p' x) eq
binary_now_like BinaryOperator.Xnor b b' p p' q q' eb ep eq = ap (λ x. binary_now BinaryOperator.Xnor b x q) ep ∙ ap (λ x. binary_now BinaryOperator.Xnor b p' x) eq
binary_now_like BinaryOperator.Implies b b' p p' q q' eb ep eq = ap (λ x. binary_now BinaryOperator.Implies b x q) ep ∙ ap (λ x. binary_now BinaryOperator.Implies b p' x) eq
binary_now_like BinaryOperator.Iff b b' p p' q q' eb ep eq = ap (λ x. binary_now BinaryOperator.Iff b x q) ep ∙ ap (λ x. binary_now BinaryOperator.Iff b p' x) eq
binary_now_like BinaryOperator.Until b b' p p' q q' eb ep eq = eb (omega arith)
binary_now_like BinaryOperator.Releases b b' p p' q q' eb ep eq = eb (omega arith)
binary_now_like BinaryOperator.Since b b' p p' q q' eb ep eq = eb (omega arith)
binary_now_like BinaryOperator.Triggered b b' p p' q q' eb ep eq = eb (omega arith)

binary_row_like : (o : BinaryOperator) (b c p q r u b' c' p' q' r' u' : Bool) → (0 < binary_bits o → b ≡ b') → (0 < binary_bits o → c ≡ c') → p ≡ p' → q ≡ q' → r ≡ r' → u ≡ u' → binary_row o b c p q r u → binary_row o b' c' p' q' r' u'
binary_row_like BinaryOperator.And b c p q r u b' c' p' q' r' u' eb ec ep eq er eu h = tt
binary_row_like BinaryOperator.Or b c p q r u b' c' p' q' r' u' eb ec ep eq er eu h = tt
binary_row_like BinaryOperator.Xor b c p q r u b' c' p' q' r' u' eb ec ep eq er eu h = tt
binary_row_like BinaryOperator.Xnor b c p q r u b' c' p' q' r' u' eb ec ep eq er eu h = tt
binary_row_like BinaryOperator.Implies b c p q r u b' c' p' q' r' u' eb ec ep eq er eu h = tt
binary_row_like BinaryOperator.Iff b c p q r u b' c' p' q' r' u' eb ec ep eq er eu h = tt
binary_row_like BinaryOperator.Until b c p q r u b' c' p' q' r' u' eb ec ep eq er eu h = like6 (binary_row BinaryOperator.Until) b c p q r u b' c' p' q' r' u' (eb (omega arith)) (ec (omega arith)) ep eq er eu h
binary_row_like BinaryOperator.Releases b c p q r u b' c' p' q' r' u' eb ec ep eq er eu h = like6 (binary_row BinaryOperator.Releases) b c p q r u b' c' p' q' r' u' (eb (omega arith)) (ec (omega arith)) ep eq er eu h
binary_row_like BinaryOperator.Since b c p q r u b' c' p' q' r' u' eb ec ep eq er eu h = like6 (binary_row BinaryOperator.Since) b c p q r u b' c' p' q' r' u' (eb (omega arith)) (ec (omega arith)) ep eq er eu h
binary_row_like BinaryOperator.Triggered b c p q r u b' c' p' q' r' u' eb ec ep eq er eu h = like6 (binary_row BinaryOperator.Triggered) b c p q r u b' c' p' q' r' u' (eb (omega arith)) (ec (omega arith)) ep eq er eu h

binary_start_like : (o : BinaryOperator) (b p b' p' : Bool) → (0 < binary_bits o → b ≡ b') → p ≡ p' → binary_start o b p → binary_start o b' p'
binary_start_like BinaryOperator.And b p b' p' eb ep h = tt
binary_start_like BinaryOperator.Or b p b' p' eb ep h = tt
binary_start_like BinaryOperator.Xor b p b' p' eb ep h = tt
binary_start_like BinaryOperator.Xnor b p b' p' eb ep h = tt
binary_start_like BinaryOperator.Implies b p b' p' eb ep h = tt
binary_start_like BinaryOperator.Iff b p b' p' eb ep h = tt
binary_start_like BinaryOperator.Until b p b' p' eb ep h = like4 (λ x y z u. binary_start BinaryOperator.Until x y) b p true true b' p' true true (eb (omega arith)) ep refl refl h
binary_start_like BinaryOperator.Releases b p b' p' eb ep h = like4 (λ x y z u. binary_start BinaryOperator.Releases x y) b p true true b' p' true true (eb (omega arith)) ep refl refl h
binary_start_like BinaryOperator.Since b p b' p' eb ep h = like4 (λ x y z u. binary_start BinaryOperator.Since x y) b p true true b' p' true true (eb (omega arith)) ep refl refl h
binary_start_like BinaryOperator.Triggered b p b' p' eb ep h = like4 (λ x y z u. binary_start BinaryOperator.Triggered x y) b p true true b' p' true true (eb (omega arith)) ep refl refl h

binary_sets_like : (o : BinaryOperator) (bit q : Set) (s t : Side) → (0 < binary_bits o → bit s ≡ bit t) → q s ≡ q t → map (λ z. z s) (binary_sets o bit q) ≡ map (λ z. z t) (binary_sets o bit q)
binary_sets_like BinaryOperator.And bit q s t eb eq = refl
binary_sets_like BinaryOperator.Or bit q s t eb eq = refl
binary_sets_like BinaryOperator.Xor bit q s t eb eq = refl
binary_sets_like BinaryOperator.Xnor bit q s t eb eq = refl
binary_sets_like BinaryOperator.Implies bit q s t eb eq = refl
binary_sets_like BinaryOperator.Iff bit q s t eb eq = refl
binary_sets_like BinaryOperator.Until bit q s t eb eq = ap (λ c. (not c || q s) ∷ []) (eb (omega arith)) ∙ ap (λ c. (not (bit t) || c) ∷ []) eq
binary_sets_like BinaryOperator.Releases bit q s t eb eq = ap (λ c. (c || not (q s)) ∷ []) (eb (omega arith)) ∙ ap (λ c. (bit t || not c) ∷ []) eq
binary_sets_like BinaryOperator.Since bit q s t eb eq = refl
binary_sets_like BinaryOperator.Triggered bit q s t eb eq = refl

-- a part of a formula has fewer bits
left : (n a b : ℕ) (s t : Side) → Near (n + (a + b)) s t → Near (n + a) s t
left n a b s t h = near_less (n + (a + b)) (n + a) s t (λ j lt. omega (arith, lt)) h

right : (n a b c : ℕ) (s t : Side) → Near (n + (a + (b + c))) s t → Near (n + a + b) s t
right n a b c s t h = near_less (n + (a + (b + c))) (n + a + b) s t (λ j lt. omega (arith, lt)) h

own : (n a b : ℕ) (s t : Side) → Near (n + (a + b)) s t → 0 < b → s.bit (n + a) ≡ t.bit (n + a)
own n a b s t h some = h.bits (n + a) (omega (arith, some))

own2 : (n a b c : ℕ) (s t : Side) → Near (n + (a + (b + c))) s t → 0 < c → s.bit (n + a + b) ≡ t.bit (n + a + b)
own2 n a b c s t h some = h.bits (n + a + b) (omega (arith, some))

pub truth_like : (f : Ltl) (n : ℕ) (s t : Side) → Near (n + nodes f) s t → truth f n s ≡ truth f n t
truth_like (Ltl.Constant b) n s t h = refl
truth_like (Ltl.Atom a) n s t h = h.atoms a
truth_like (Ltl.Unary o f) n s t h =
    unary_now_like o _ _ _ _ (own n (nodes f) (unary_bits o) s t h) (truth_like f n s t (left n (nodes f) (unary_bits o) s t h))
truth_like (Ltl.Binary o f g) n s t h =
    binary_now_like o _ _ _ _ _ _ (own2 n (nodes f) (nodes g) (binary_bits o) s t h)
    (truth_like f n s t (left n (nodes f) (nodes g + binary_bits o) s t h))
    (truth_like g (n + nodes f) s t (right n (nodes f) (nodes g) (binary_bits o) s t h))

pub starts_like : (f : Ltl) (n : ℕ) (s t : Side) → Near (n + nodes f) s t → starts f n s → starts f n t
starts_like (Ltl.Constant b) n s t h r = tt
starts_like (Ltl.Atom a) n s t h r = tt
starts_like (Ltl.Unary o f) n s t h r =
    let k = left n (nodes f) (unary_bits o) s t h in (
      unary_start_like o _ _ _ _ (own n (nodes f) (unary_bits o) s t h) (truth_like f n s t k) r.0,
      starts_like f n s t k r.1,
    )
starts_like (Ltl.Binary o f g) n s t h r =
    let kf = left n (nodes f) (nodes g + binary_bits o) s t h in
    let kg = right n (nodes f) (nodes g) (binary_bits o) s t h in (
      binary_start_like o _ _ _ _ (own2 n (nodes f) (nodes g) (binary_bits o) s t h) (truth_like g (n + nodes f) s t kg) r.0,
      starts_like f n s t kf r.1,
      starts_like g (n + nodes f) s t kg r.2,
    )

pub rows_like : (f : Ltl) (n : ℕ) (s t s' t' : Side) → Near (n + nodes f) s s' → Near (n + nodes f) t t' → rows f n s t → rows f n s' t'
rows_like (Ltl.Constant b) n s t s' t' h k r = tt
rows_like (Ltl.Atom a) n s t s' t' h k r = tt
rows_like (Ltl.Unary o f) n s t s' t' h k r =
    let hf = left n (nodes f) (unary_bits o) s s' h in
    let kf = left n (nodes f) (unary_bits o) t t' k in (
      unary_row_like o _ _ _ _ _ _ _ _ (own n (nodes f) (unary_bits o) s s' h) (own n (nodes f) (unary_bits o) t t' k)
          (truth_like f n s s' hf) (truth_like f n t t' kf) r.0,
      rows_like f n s t s' t' hf kf r.1,
    )
rows_like (Ltl.Binary o f g) n s t s' t' h k r =
    let hf = left n (nodes f) (nodes g + binary_bits o) s s' h in
    let kf = left n (nodes f) (nodes g + binary_bits o) t t' k in
    let hg = right n (nodes f) (nodes g) (binary_bits o) s s' h in
    let kg = right n (nodes f) (nodes g) (binary_bits o) t t' k in (
      binary_row_like o _ _ _ _ _ _ _ _ _ _ _ _ (own2 n (nodes f) (nodes g) (binary_bits o) s s' h) (own2 n (nodes f) (nodes g) (binary_bits o) t t' k)
          (truth_like f n s s' hf) (truth_like g (n + nodes f) s s' hg) (truth_like f n t t' kf) (truth_like g (n + nodes f) t t' kg) r.0,
      rows_like f n s t s' t' hf kf r.1,
      rows_like g (n + nodes f) s t s' t' hg kg r.2,
    )

pub sets_like : (f : Ltl) (n : ℕ) (s t : Side) → Near (n + nodes f) s t → map (λ z. z s) (sets f n) ≡ map (λ z. z t) (sets f n)
sets_like (Ltl.Constant b) n s t h = refl
sets_like (Ltl.Atom a) n s t h = refl
sets_like (Ltl.Unary o f) n s t h =
    let k = left n (nodes f) (unary_bits o) s t h in
    let at : Side → Set → Bool = λ u z. z u in
    let own_sets : List Set = unary_sets o (λ u. u.bit (n + nodes f)) (truth f n) in
    map_append (at s) (sets f n) own_sets
    ∙ ap (λ c. c ++ map (at s) own_sets) (sets_like f n s t k)
    ∙ ap (λ c. map (at t) (sets f n) ++ c) (unary_sets_like o (λ u. u.bit (n + nodes f)) (truth f n) s t (own n (nodes f) (unary_bits o) s t h) (truth_like f n s t k))
    ∙ sym (map_append (at t) (sets f n) own_sets)
sets_like (Ltl.Binary o f g) n s t h =
    let kf = left n (nodes f) (nodes g + binary_bits o) s t h in
    let kg = right n (nodes f) (nodes g) (binary_bits o) s t h in
    let at : Side → Set → Bool = λ u z. z u in
    let own_sets : List Set = binary_sets o (λ u. u.bit (n + nodes f + nodes g)) (truth g (n + nodes f)) in
    let sg : List Set = sets g (n + nodes f) in
    map_append (at s) (sets f n) (sg ++ own_sets)
    ∙ ap (λ c. c ++ map (at s) (sg ++ own_sets)) (sets_like f n s t kf)
    ∙ ap (λ c. map (at t) (sets f n) ++ c)
    (map_append (at s) sg own_sets
    ∙ ap (λ c. c ++ map (at s) own_sets) (sets_like g (n + nodes f) s t kg)
    ∙ ap (λ c. map (at t) sg ++ c) (binary_sets_like o (λ u. u.bit (n + nodes f + nodes g)) (truth g (n + nodes f)) s t (own2 n (nodes f) (nodes g) (binary_bits o) s t h) (truth_like g (n + nodes f) s t kg))
    ∙ sym (map_append (at t) sg own_sets))
    ∙ sym (map_append (at t) (sets f n) (sg ++ own_sets))
