-- Values that are the same, one of two values, and values by their kinds.
use Rattle.std.proofs.Common.{◌≡◌, ℕ, zero, suc, ◌+◌, ◌*◌, ◌^◌, ◌<◌, ◌≤◌, ◌==◌, Bool, true, false, not, ◌&&◌, ◌||◌, cond, List, [], ◌∷◌, length, get_or, ℤ, pos, ◌+ℤ◌, refl, sym, ap, subst, ◌∙◌, arith, eqb, nat_lt}
use Rattle.std.specs.Prelude.{Option, None, Some, int_le, slice_get}
use Rattle.std.specs.Bool.{beq}
use Rattle.std.proofs.lemmas.Bool.{eqb-true, lt-ltb}
use Rattle.smv_value.specs.declared.value.Value.{Value}
use Rattle.smv_value.specs.declared.value.Value.TheVariants as value
use Rattle.smv_value.specs.Results.{alike, is_width, is_word, same}
use Rattle.value_types.specs.declared.value_type.ValueType.{ValueType}
use Rattle.value_types.specs.declared.value_type.ValueType.TheVariants as type
use Rattle.value_types.specs.Types.{is_boolean, is_word_of}
use Rattle.value_types.specs.Codes.{range_value, value_at, word_value}
use Rattle.bit_graph.specs.declared.edge.Edge.{Edge}
use Rattle.bit_graph.specs.Meaning.{edge_value, exclusive_or}
use Rattle.bit_arith.specs.Number.{bit, flip, number_of, values_of}
use Rattle.bit_arith.proofs.Horner.{number_of-chosen}
use Rattle.bit_arith.proofs.Numbers.{number-lt}
use Rattle.bit_operators.specs.declared.symbolic.Discrete.{Discrete}
use Rattle.bit_operators.specs.declared.symbolic.Symbolic.{Symbolic}
use Rattle.bit_operators.specs.declared.symbolic.Symbolic.TheVariants as symbolic
use Rattle.bit_operators.specs.Denoting.{denoted, discrete_value, integer_of}
use Rattle.bit_operators.proofs.Bitwise.{flip_is}
use Rattle.bit_operators.proofs.Discretes.{value_by}
use Rattle.bit_operators.proofs.OfLogic.{same_type}

some_same : {A : Type 0} (x y : A) → Some x ≡ Some y → x ≡ y
some_same x y e = cc

-- equality

pub same_booleans : (v : ℕ → Bool) (a b : Symbolic) (x y e : Edge) (p q : Value) → a ≡ symbolic.Boolean x → b ≡ symbolic.Boolean y → edge_value v e ≡ beq (edge_value v x) (edge_value v y) →
    denoted v a ≡ Some p → denoted v b ≡ Some q → edge_value v e ≡ same p q
same_booleans v a b x y e p q ia ib h ep eq =
    let c : value.Bool (edge_value v x) ≡ p = some_same (value.Bool (edge_value v x)) p (sym (ap (denoted v) ia) ∙ ep) in
    let d : value.Bool (edge_value v y) ≡ q = some_same (value.Bool (edge_value v y)) q (sym (ap (denoted v) ib) ∙ eq) in
    h ∙ (λ i. same (c i) (d i))

pub same_words : (v : ℕ → Bool) (a b : Symbolic) (s t : Bool) (l m : List Edge) (e : Edge) (p q : Value) → a ≡ symbolic.Word s l → b ≡ symbolic.Word t m → s ≡ t → length l ≡ length m →
    edge_value v e ≡ eqb (number_of v l) (number_of v m) → denoted v a ≡ Some p → denoted v b ≡ Some q → edge_value v e ≡ same p q
same_words v a b s t l m e p q ia ib st lm h ep eq =
    let x : Value = value.Word s (length l) (number_of v l) in
    let y : Value = value.Word t (length m) (number_of v m) in
    let c : x ≡ p = some_same x p (sym (ap (denoted v) ia) ∙ ep) in
    let d : y ≡ q = some_same y q (sym (ap (denoted v) ib) ∙ eq) in
    h ∙ sym (ap (λ b. b && eqb (number_of v l) (number_of v m)) (same_type s t (length l) (length m) st lm)) ∙ (λ i. same (c i) (d i))

same_by : (sx sy : Bool) (ox oy : Option ℕ) (zx zy : ℤ) (p q : Value) (es en : Bool) → ((s t : ℕ) → ox ≡ Some s → oy ≡ Some t → es ≡ eqb s t) →
    en ≡ (int_le zx zy && int_le zy zx) → value_by sx ox zx ≡ Some p → value_by sy oy zy ≡ Some q → cond sx (sy && es) (not sy && en) ≡ same p q
same_by true true (Some s) (Some t) zx zy p q es en hs hn ep eq =
    let c : value.Sym s ≡ p = some_same (value.Sym s) p ep in
    let d : value.Sym t ≡ q = some_same (value.Sym t) q eq in
    hs s t refl refl ∙ (λ i. same (c i) (d i))
same_by true true (Some s) None zx zy p q es en hs hn ep eq = absurd cc
same_by true true None oy zx zy p q es en hs hn ep eq = absurd cc
same_by true false (Some s) oy zx zy p q es en hs hn ep eq =
    let c : value.Sym s ≡ p = some_same (value.Sym s) p ep in
    let d : value.Int zy ≡ q = some_same (value.Int zy) q eq in
    λ i. same (c i) (d i)
same_by true false None oy zx zy p q es en hs hn ep eq = absurd cc
same_by false true ox (Some t) zx zy p q es en hs hn ep eq =
    let c : value.Int zx ≡ p = some_same (value.Int zx) p ep in
    let d : value.Sym t ≡ q = some_same (value.Sym t) q eq in
    λ i. same (c i) (d i)
same_by false true ox None zx zy p q es en hs hn ep eq = absurd cc
same_by false false ox oy zx zy p q es en hs hn ep eq =
    let c : value.Int zx ≡ p = some_same (value.Int zx) p ep in
    let d : value.Int zy ≡ q = some_same (value.Int zy) q eq in
    hn ∙ (λ i. same (c i) (d i))

pub same_discretes : (v : ℕ → Bool) (x y : Discrete) (p q : Value) (symbols numbers symbol integer n e : Edge) →
    ((s t : ℕ) → slice_get x.symbols (number_of v x.code) ≡ Some s → slice_get y.symbols (number_of v y.code) ≡ Some t → edge_value v symbols ≡ eqb s t) →
    edge_value v numbers ≡ (int_le (integer_of v x.number) (integer_of v y.number) && int_le (integer_of v y.number) (integer_of v x.number)) →
    edge_value v symbol ≡ (edge_value v y.is_symbol && edge_value v symbols) → n ≡ flip y.is_symbol → edge_value v integer ≡ (edge_value v n && edge_value v numbers) →
    edge_value v e ≡ cond (edge_value v x.is_symbol) (edge_value v symbol) (edge_value v integer) → discrete_value v x ≡ Some p → discrete_value v y ≡ Some q → edge_value v e ≡ same p q
same_discretes v x y p q symbols numbers symbol integer n e hs hn es ne ei ee ep eq =
    ee ∙ (λ i. cond (edge_value v x.is_symbol) (es i) ((ei ∙ ap (λ b. b && edge_value v numbers) (ap (edge_value v) ne ∙ flip_is y.is_symbol.negated (v y.is_symbol.node))) i))
    ∙ same_by (edge_value v x.is_symbol) (edge_value v y.is_symbol) (slice_get x.symbols (number_of v x.code)) (slice_get y.symbols (number_of v y.code)) (integer_of v x.number) (integer_of v y.number)
    p q (edge_value v symbols) (edge_value v numbers) hs hn ep eq

-- one of two

pub chosen_boolean : (v : ℕ → Bool) (c : Bool) (a b : Symbolic) (x y e : Edge) (p : Value) → a ≡ symbolic.Boolean x → b ≡ symbolic.Boolean y → edge_value v e ≡ cond c (edge_value v x) (edge_value v y) →
    cond c (denoted v a) (denoted v b) ≡ Some p → denoted v (symbolic.Boolean e) ≡ Some p
chosen_boolean v true a b x y e p ia ib h g = ap (λ z. Some (value.Bool z)) h ∙ sym (ap (denoted v) ia) ∙ g
chosen_boolean v false a b x y e p ia ib h g = ap (λ z. Some (value.Bool z)) h ∙ sym (ap (denoted v) ib) ∙ g

pub chosen_word : (v : ℕ → Bool) (c : Bool) (a b : Symbolic) (s t : Bool) (l m r u : List Edge) (p : Value) → a ≡ symbolic.Word s l → b ≡ symbolic.Word t m → s ≡ t → length l ≡ length m → length r ≡ length l →
    values_of v r ≡ cond c (values_of v l) (values_of v m) → u ≡ r → cond c (denoted v a) (denoted v b) ≡ Some p → denoted v (symbolic.Word s u) ≡ Some p
chosen_word v true a b s t l m r u p ia ib st lm rl h ur g =
    (λ i. Some (value.Word s ((ap length ur ∙ rl) i) ((ap (number_of v) ur ∙ number_of-chosen v true r l m h) i))) ∙ sym (ap (denoted v) ia) ∙ g
chosen_word v false a b s t l m r u p ia ib st lm rl h ur g =
    (λ i. Some (value.Word (st i) ((ap length ur ∙ rl ∙ lm) i) ((ap (number_of v) ur ∙ number_of-chosen v false r l m h) i))) ∙ sym (ap (denoted v) ib) ∙ g

one_value : (s t : Bool) (o n : Option ℕ) (z y : ℤ) (p : Value) → s ≡ t → z ≡ y → ((k : ℕ) → n ≡ Some k → o ≡ Some k) → value_by t n y ≡ Some p → value_by s o z ≡ Some p
one_value s true o (Some k) z y p e f h g = (λ i. value_by (e i) (h k refl i) z) ∙ g
one_value s true o None z y p e f h g = absurd cc
one_value s false o n z y p e f h g = (λ i. value_by (e i) o (f i)) ∙ g

pub chosen_value : (c s sx sy : Bool) (o ox oy : Option ℕ) (z zx zy : ℤ) (p : Value) → s ≡ cond c sx sy → z ≡ cond c zx zy → ((k : ℕ) → cond c ox oy ≡ Some k → o ≡ Some k) →
    cond c (value_by sx ox zx) (value_by sy oy zy) ≡ Some p → value_by s o z ≡ Some p
chosen_value true s sx sy o ox oy z zx zy p e f h g = one_value s sx o ox z zx p e f h g
chosen_value false s sx sy o ox oy z zx zy p e f h g = one_value s sy o oy z zy p e f h g

pub turned_choice : {A : Type 0} (b c : Bool) (x y z : A) → b ≡ not c → cond c x y ≡ z → cond b y x ≡ z
turned_choice b true x y z e h = ap (λ d. cond d y x) e ∙ h
turned_choice b false x y z e h = ap (λ d. cond d y x) e ∙ h

pub negation_is : (v : ℕ → Bool) (e n : Edge) → n ≡ flip e → edge_value v n ≡ not (edge_value v e)
negation_is v e n h = ap (edge_value v) h ∙ flip_is e.negated (v e.node)

-- variables

boolean_at : (b : Bool) (x : Value) → cond (nat_lt (bit b + 2 * 0) 2) (Some (value.Bool (eqb (bit b + 2 * 0) 1))) None ≡ Some x → Some (value.Bool b) ≡ Some x
boolean_at true x h = h
boolean_at false x h = h

pub boolean_variable : (v : ℕ → Bool) (es : List Edge) (e d : Edge) (x : Value) → length es ≡ 1 → e ≡ get_or es 0 d → value_at type.Boolean (number_of v es) ≡ Some x → Some (value.Bool (edge_value v e)) ≡ Some x
boolean_variable v [] e d x l h g = absurd (omega arith)
boolean_variable v (f ∷ []) e d x l h g = ap (λ k. Some (value.Bool (edge_value v k))) h ∙ boolean_at (edge_value v f) x g
boolean_variable v (f ∷ k ∷ es) e d x l h g = absurd (omega arith)

tested : {A : Type 0} (c : Bool) (q z : A) → cond c (Some q) None ≡ Some z → c ≡ true
tested true q z h = refl
tested false q z h = absurd cc

given : {A : Type 0} (c : Bool) (q z : A) → cond c (Some q) None ≡ Some z → Some q ≡ Some z
given true q z h = h
given false q z h = absurd cc

pub word_variable : (v : ℕ → Bool) (s : Bool) (w : ℕ) (es u : List Edge) (x : Value) → length es ≡ w → u ≡ es → word_value s w (number_of v es) ≡ Some x → denoted v (symbolic.Word s u) ≡ Some x
word_variable v s w es u x l h g =
    (λ i. Some (value.Word s ((ap length h ∙ l) i) (number_of v (h i)))) ∙ given (is_word w (number_of v es)) (value.Word s w (number_of v es)) x g

pub range_variable : (v : ℕ → Bool) (low high z : ℤ) (es : List Edge) (r : Symbolic) (x : Value) → denoted v r ≡ Some (value.Int z) →
    (int_le (low +ℤ pos (number_of v es)) high ≡ true → z ≡ low +ℤ pos (number_of v es)) → range_value low high (number_of v es) ≡ Some x → denoted v r ≡ Some x
range_variable v low high z es r x er h g =
    er ∙ ap (λ y. Some (value.Int y)) (h (tested (int_le (low +ℤ pos (number_of v es)) high) (value.Int (low +ℤ pos (number_of v es))) x g))
    ∙ given (int_le (low +ℤ pos (number_of v es)) high) (value.Int (low +ℤ pos (number_of v es))) x g

-- kinds

not_discrete : (test : Value → Bool) (s : Bool) (o : Option ℕ) (z : ℤ) (x : Value) → ((n : ℕ) → test (value.Sym n) ≡ false) → ((y : ℤ) → test (value.Int y) ≡ false) → value_by s o z ≡ Some x → false ≡ test x
not_discrete test true None z x hs hi e = absurd cc
not_discrete test true (Some n) z x hs hi e = sym (hs n) ∙ ap test (some_same (value.Sym n) x e)
not_discrete test false o z x hs hi e = sym (hi z) ∙ ap test (some_same (value.Int z) x e)

pub boolean_kind : (v : ℕ → Bool) (a : Symbolic) (e : Edge) (x : Value) → a ≡ symbolic.Boolean e → denoted v a ≡ Some x → true ≡ is_boolean x
boolean_kind v a e x ia h = ap is_boolean (some_same (value.Bool (edge_value v e)) x (sym (ap (denoted v) ia) ∙ h))

pub word_no_boolean : (v : ℕ → Bool) (a : Symbolic) (s : Bool) (l : List Edge) (x : Value) → a ≡ symbolic.Word s l → denoted v a ≡ Some x → false ≡ is_boolean x
word_no_boolean v a s l x ia h = ap is_boolean (some_same (value.Word s (length l) (number_of v l)) x (sym (ap (denoted v) ia) ∙ h))

pub discrete_fails : (test : Value → Bool) (v : ℕ → Bool) (a : Symbolic) (d : Discrete) (x : Value) → ((n : ℕ) → test (value.Sym n) ≡ false) → ((y : ℤ) → test (value.Int y) ≡ false) →
    a ≡ symbolic.Discrete d → denoted v a ≡ Some x → false ≡ test x
discrete_fails test v a d x hs hi ia h =
    not_discrete test (edge_value v d.is_symbol) (slice_get d.symbols (number_of v d.code)) (integer_of v d.number) x hs hi (sym (ap (denoted v) ia) ∙ h)

and_true : (b c : Bool) → (b ≡ true → c ≡ true) → b ≡ (b && c)
and_true true c h = sym (h refl)
and_true false c h = refl

and_right : (b c : Bool) → (b && c) ≡ true → c ≡ true
and_right true c h = h
and_right false c h = absurd cc

same_width : (s t : Bool) (w u : ℕ) → alike s w t u ≡ true → w ≡ u
same_width s t w u h = eqb-true w u (and_right (beq s t) (w == u) h)

-- a number of so many bits is one of a word
is_word_by : (w n : ℕ) → is_width w ≡ true → n < 2 ^ w → is_word w n ≡ true
is_word_by w n h lt = let test : nat_lt n (2 ^ w) ≡ true = lt-ltb n (2 ^ w) lt in (λ i. h i && test i)

pub word_kind : (v : ℕ → Bool) (a : Symbolic) (s t : Bool) (w : ℕ) (l : List Edge) (x : Value) → a ≡ symbolic.Word t l → denoted v a ≡ Some x → is_width w ≡ true → alike s w t (length l) ≡ is_word_of s w x
word_kind v a s t w l x ia h i =
    let e : value.Word t (length l) (number_of v l) ≡ x = some_same (value.Word t (length l) (number_of v l)) x (sym (ap (denoted v) ia) ∙ h) in
    let P : ℕ → Type 0 = λ n. is_width n ≡ true in
    let whole : alike s w t (length l) ≡ true → is_word (length l) (number_of v l) ≡ true =
    λ k. is_word_by (length l) (number_of v l) (subst P (same_width s t w (length l) k) i) (number-lt (edge_value v) l) in
    and_true (alike s w t (length l)) (is_word (length l) (number_of v l)) whole ∙ ap (is_word_of s w) e

pub boolean_no_word : (v : ℕ → Bool) (a : Symbolic) (s : Bool) (w : ℕ) (e : Edge) (x : Value) → a ≡ symbolic.Boolean e → denoted v a ≡ Some x → false ≡ is_word_of s w x
boolean_no_word v a s w e x ia h = ap (is_word_of s w) (some_same (value.Bool (edge_value v e)) x (sym (ap (denoted v) ia) ∙ h))
