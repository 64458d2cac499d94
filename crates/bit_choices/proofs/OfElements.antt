-- Elements of enumerations: symbols, integers in a row, and which values are among them.
use Rattle.std.proofs.Common.{◌≡◌, ℕ, zero, suc, ◌+◌, ◌*◌, ◌<◌, ◌≤◌, ◌==◌, Bool, true, false, not, ◌&&◌, ◌||◌, cond, List, [], ◌∷◌, length, map, get_or, ℤ, pos, ◌+ℤ◌, inl, inr, refl, sym, ap, subst, ◌∙◌, arith, eqb, nat_lt}
use Rattle.std.specs.Prelude.{Option, None, Some, int_le, slice_get}
use Rattle.std.specs.List.{list_any}
use Rattle.std.specs.Option.{option_map}
use Rattle.std.proofs.lemmas.Bool.{cases_eq, eq-eqb, ne_eqb}
use Rattle.std.proofs.lemmas.Int.{ints}
use Rattle.std.proofs.lemmas.Option.{slice_get_within}
use Rattle.smv_value.specs.declared.value.Value.{Value}
use Rattle.smv_value.specs.declared.value.Value.TheVariants as value
use Rattle.value_types.specs.declared.value_type.Element.{Element}
use Rattle.value_types.specs.declared.value_type.Element.TheVariants as element
use Rattle.value_types.specs.Types.{element_value, is_element}
use Rattle.value_types.specs.Types.{is_distinct as are_distinct}
use Rattle.bit_graph.specs.declared.edge.Edge.{Edge}
use Rattle.bit_graph.specs.Meaning.{edge_value}
use Rattle.bit_arith.specs.Number.{number_of}
use Rattle.bit_operators.specs.declared.symbolic.Symbolic.{Symbolic}
use Rattle.bit_operators.specs.declared.symbolic.Symbolic.TheVariants as symbolic
use Rattle.bit_operators.specs.Denoting.{denoted}
use Rattle.bit_operators.specs.Lists.{is_distinct}
use Rattle.bit_operators.proofs.Discretes.{value_by}
use Rattle.bit_choices.specs.Runs.{IsRun}
use Rattle.bit_choices.proofs.OfSymbols.{below_other}

some_same : {A : Type 0} (x y : A) → Some x ≡ Some y → x ≡ y
some_same x y e = cc

-- symbols

any_symbols : (n : ℕ) (ss : List ℕ) → list_any (is_element (value.Sym n)) (map element.Sym ss) ≡ list_any (λ m. n == m) ss
any_symbols n [] = refl
any_symbols n (s ∷ ss) = ap (λ b. (n == s) || b) (any_symbols n ss)

pub distinct_symbols : (ss : List ℕ) → are_distinct (map element.Sym ss) ≡ is_distinct ss
distinct_symbols [] = refl
distinct_symbols (s ∷ ss) = λ i. not (any_symbols s ss i) && distinct_symbols ss i

pub symbol_at : (ss : List ℕ) (k : ℕ) → option_map value.Sym (slice_get ss k) ≡ option_map element_value (slice_get (map element.Sym ss) k)
symbol_at [] k = refl
symbol_at (s ∷ ss) zero = refl
symbol_at (s ∷ ss) (suc k) = symbol_at ss k

-- integers in a row

mapped : (o : Option Element) (x : Value) → option_map element_value o ≡ Some x → (e : Element) × (o ≡ Some e) × (element_value e ≡ x)
mapped None x h = absurd cc
mapped (Some e) x h = (e, refl, some_same (element_value e) x h)

above_low : (low high : ℤ) (k n : ℕ) → k < n → high +ℤ pos 1 ≡ low +ℤ pos n → int_le (low +ℤ pos k) high ≡ true
above_low low high k n l e = grind (arith, ints)

pub run_value : (low high : ℤ) (es : List Element) (k : ℕ) (x : Value) → IsRun low es → high +ℤ pos 1 ≡ low +ℤ pos (length es) → option_map element_value (slice_get es k) ≡ Some x →
    (int_le (low +ℤ pos k) high ≡ true) × (value.Int (low +ℤ pos k) ≡ x)
run_value low high es k x run h g =
    let at = mapped (slice_get es k) x g in
    (above_low low high k (length es) (slice_get_within es k at.0 at.1) h, sym (ap element_value (run k at.0 at.1)) ∙ at.2)

nothing_between : (low high z : ℤ) → high +ℤ pos 1 ≡ low +ℤ pos 0 → (int_le low z && int_le z high) ≡ false
nothing_between low high z e = grind (arith, ints)

one_between : (low high z : ℤ) (n : ℕ) → high +ℤ pos 1 ≡ low +ℤ pos (suc n) →
    (int_le low z && int_le z high) ≡ ((int_le z (low +ℤ pos 0) && int_le (low +ℤ pos 0) z) || (int_le (low +ℤ pos 1) z && int_le z high))
one_between low high z n e = grind (arith, ints)

next_in_row : (low : ℤ) (k : ℕ) → low +ℤ pos (suc k) ≡ (low +ℤ pos 1) +ℤ pos k
next_in_row low k = omega (arith, ints)

pub among_run : (low high z : ℤ) (es : List Element) → IsRun low es → high +ℤ pos 1 ≡ low +ℤ pos (length es) → (int_le low z && int_le z high) ≡ list_any (is_element (value.Int z)) es
among_run low high z [] run h = nothing_between low high z h
among_run low high z (e ∷ es) run h =
    let rest : IsRun (low +ℤ pos 1) es = λ k f g. run (suc k) f g ∙ ap element.Int (next_in_row low k) in
    one_between low high z (length es) h
    ∙ (λ i. is_element (value.Int z) (sym (run 0 e refl) i) || among_run (low +ℤ pos 1) high z es rest (h ∙ next_in_row low (length es)) i)

-- which values are among the elements

twice : (b : Bool) → not (not b) ≡ b
twice true = refl
twice false = refl

pub among_by : (es : List Element) (s : Bool) (o : Option ℕ) (z : ℤ) (x : Value) (other number : Bool) → ((n : ℕ) → o ≡ Some n → other ≡ not (list_any (is_element (value.Sym n)) es)) →
    number ≡ list_any (is_element (value.Int z)) es → value_by s o z ≡ Some x → cond s (not other) number ≡ list_any (is_element x) es
among_by es true None z x other number hs hn e = absurd cc
among_by es true (Some n) z x other number hs hn e =
    ap not (hs n refl) ∙ twice (list_any (is_element (value.Sym n)) es) ∙ ap (λ y. list_any (is_element y) es) (some_same (value.Sym n) x e)
among_by es false o z x other number hs hn e = hn ∙ ap (λ y. list_any (is_element y) es) (some_same (value.Int z) x e)

-- element by element, by its code
pub element_more : (es : List Element) (k j : ℕ) (e : Element) (old new : Option Value) (x : Value) → k < j + 1 → option_map element_value (slice_get es k) ≡ Some x → slice_get es j ≡ Some e →
    (k < j → old ≡ Some x) → (cond (eqb k j) (Some (element_value e)) old ≡ Some x → new ≡ Some x) → new ≡ Some x
element_more es k j e old new x l h at before step =
    elim (cases_eq k j) [
      | inl q ↦ step (ap (λ b. cond b (Some (element_value e)) old) (eq-eqb k j q) ∙ sym (ap (option_map element_value) at) ∙ ap (λ n. option_map element_value (slice_get es n)) (sym q) ∙ h)
      | inr o ↦ step (ap (λ b. cond b (Some (element_value e)) old) (ne_eqb k j o) ∙ before (below_other k j l o))
    ]

pub mapped_within : (es : List Element) (k : ℕ) (x : Value) → option_map element_value (slice_get es k) ≡ Some x → k < length es
mapped_within es k x h = let at = mapped (slice_get es k) x h in slice_get_within es k at.0 at.1

no_element : (x : Value) (es : List Element) → ((e : Element) → is_element x e ≡ false) → false ≡ list_any (is_element x) es
no_element x [] h = refl
no_element x (e ∷ es) h = no_element x es h ∙ sym (ap (λ b. b || list_any (is_element x) es) (h e))

boolean_apart : (b : Bool) (e : Element) → is_element (value.Bool b) e ≡ false
boolean_apart b (element.Int z) = refl
boolean_apart b (element.Sym n) = refl

word_apart : (s : Bool) (w n : ℕ) (e : Element) → is_element (value.Word s w n) e ≡ false
word_apart s w n (element.Int z) = refl
word_apart s w n (element.Sym m) = refl

-- no boolean and no word is an element
pub boolean_no_element : (v : ℕ → Bool) (a : Symbolic) (e : Edge) (x : Value) (es : List Element) → a ≡ symbolic.Boolean e → denoted v a ≡ Some x → false ≡ list_any (is_element x) es
boolean_no_element v a e x es ia h =
    no_element (value.Bool (edge_value v e)) es (boolean_apart (edge_value v e)) ∙ ap (λ y. list_any (is_element y) es) (some_same (value.Bool (edge_value v e)) x (sym (ap (denoted v) ia) ∙ h))

pub word_no_element : (v : ℕ → Bool) (a : Symbolic) (s : Bool) (l : List Edge) (x : Value) (es : List Element) → a ≡ symbolic.Word s l → denoted v a ≡ Some x → false ≡ list_any (is_element x) es
word_no_element v a s l x es ia h =
    no_element (value.Word s (length l) (number_of v l)) es (word_apart s (length l) (number_of v l))
    ∙ ap (λ y. list_any (is_element y) es) (some_same (value.Word s (length l) (number_of v l)) x (sym (ap (denoted v) ia) ∙ h))
