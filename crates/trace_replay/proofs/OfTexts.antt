-- The words of a line, and the line of words.
use Rattle.std.proofs.Common.{◌≡◌, inl, inr, ℕ, zero, suc, ◌<◌, ◌^◌, Bool, true, false, not, List, [], ◌∷◌, ◌++◌, length, get_or, codes, Option, None, Some, Result, Ok, Err, IfOk, refl, sym, ap, ◌∙◌, arith, append_assoc, append-nil}
use lib.Dec.{eqb}
use Rattle.std.specs.Fmt.{decimal}
use Rattle.std.specs.List.{All, fold, join_with_byte, list_all, slice_split}
use Rattle.std.proofs.lemmas.Bool.{and_from, and_parts, cases_Bool, eqb-true, ltb-true, ne_eqb, not_from_false}
use Rattle.std.proofs.lemmas.Fmt.{decimal_is_IsNumeral}
use Rattle.std.proofs.lemmas.List.Folds.{list_all-append}
use Rattle.std.proofs.lemmas.List.Splits.{join_with_byte-slice_split, slice_split_at, slice_split_none}
use Rattle.std.proofs.lemmas.Str.Parse.{digit_at}
use Rattle.trace_replay.specs.declared.entry.Binding.{Binding}
use Rattle.trace_replay.specs.declared.entry.TraceLine.{TraceLine}
use Rattle.trace_replay.specs.declared.entry.TraceLine.TheVariants as entry
use Rattle.trace_replay.specs.declared.forms.NameState.{NameState}
use Rattle.trace_replay.specs.declared.forms.NameState.TheVariants as name
use Rattle.trace_replay.specs.declared.forms.ValueState.{ValueState}
use Rattle.trace_replay.specs.declared.forms.ValueState.TheVariants as value
use Rattle.trace_replay.specs.Forms.{ends_name, ends_value, is_name, is_value, name_after, value_after}
use Rattle.trace_replay.specs.Lines.{binding_text, bindings_text, entry_text, more_bindings}
use Rattle.trace_replay.specs.Reading.{in_form, is_binding, is_small}
use Rattle.trace_replay.specs.Words.{AreWordsOf, IsLineOf, binding_words, entry_words, value_word, words}

-- Texts without spaces.

abbrev is_dark : ℕ → Bool
is_dark b = not (eqb b 32)

abbrev free : List ℕ → Bool
free xs = list_all is_dark xs

dark_at : (b : ℕ) → is_dark b ≡ true → eqb b 32 ≡ false
dark_at b h = elim (cases_Bool (eqb b 32)) [
  | inl hit ↦ absurd (let e : not (eqb b 32) ≡ false = ap not hit in let never : ⊥ = cc in never)
  | inr miss ↦ miss
]

free-at : (x : ℕ) (xs : List ℕ) → is_dark x ≡ true → All (λ b. eqb b 32 ≡ false) xs → All (λ b. eqb b 32 ≡ false) (x ∷ xs)
free-at x xs h more zero d below = dark_at x h
free-at x xs h more (suc k) d below = more k d (omega (arith, below))

free-all : (xs : List ℕ) → free xs ≡ true → All (λ b. eqb b 32 ≡ false) xs
free-all [] h = λ k d below. absurd (let never : ⊥ = omega (arith, below) in never)
free-all (x ∷ xs) h = free-at x xs (and_parts (is_dark x) (free xs) h).0 (free-all xs (and_parts (is_dark x) (free xs) h).1)

free-append : (xs ys : List ℕ) → free xs ≡ true → free ys ≡ true → free (xs ++ ys) ≡ true
free-append xs ys h k = list_all-append is_dark xs ys ∙ and_from (free xs) (free ys) h k

free-from : (xs : List ℕ) → ((k : ℕ) → k < length xs → is_dark (get_or xs k 0) ≡ true) → free xs ≡ true
free-from [] h = refl
free-from (x ∷ xs) h = and_from (is_dark x) (free xs) (h 0 (omega arith)) (free-from xs (λ k below. h (suc k) (omega (arith, below))))

decimal_free : (n : ℕ) → n < 2 ^ 64 → free (decimal n) ≡ true
decimal_free n small =
    let numeral = decimal_is_IsNumeral n small in
    free-from (decimal n) (λ k below.
    let digit = digit_at (decimal n) k numeral.0.1 below in
    not_from_false (eqb (get_or (decimal n) k 0) 32) (ne_eqb (get_or (decimal n) k 0) 32 (λ e. let never : ⊥ = omega (arith, e, digit.0) in never)))

-- Names and values have none.

name_space : (s : NameState) → name_after s 32 ≡ name.Wrong
name_space name.Start = refl
name_space name.Identifier = refl
name_space name.Open = refl
name_space name.Minus = refl
name_space name.Digits = refl
name_space name.Zero = refl
name_space name.Closed = refl
name_space name.Wrong = refl

name_wrong : (xs : List ℕ) → ends_name (fold name_after name.Wrong xs) ≡ false
name_wrong [] = refl
name_wrong (x ∷ xs) = name_wrong xs

name_free : (s : NameState) (xs : List ℕ) → ends_name (fold name_after s xs) ≡ true → free xs ≡ true
name_free s [] h = refl
name_free s (x ∷ xs) h = elim (cases_Bool (eqb x 32)) [
  | inl hit ↦
      let wrong : name_after s x ≡ name.Wrong = ap (name_after s) (eqb-true x 32 hit) ∙ name_space s in
      let fails : ends_name (fold name_after (name_after s x) xs) ≡ false = ap (λ (q : NameState). ends_name (fold name_after q xs)) wrong ∙ name_wrong xs in
      absurd (let never : ⊥ = cc in never)
  | inr miss ↦ and_from (is_dark x) (free xs) (not_from_false (eqb x 32) miss) (name_free (name_after s x) xs h)
]

value_space : (s : ValueState) → value_after s 32 ≡ value.Wrong
value_space value.Start = refl
value_space value.Identifier = refl
value_space value.Minus = refl
value_space value.Digits = refl
value_space value.Zero = refl
value_space value.Sign = refl
value_space value.Base = refl
value_space value.Width = refl
value_space value.Bar = refl
value_space value.NoBits = refl
value_space value.Wrong = refl

value_wrong : (xs : List ℕ) → ends_value (fold value_after value.Wrong xs) ≡ false
value_wrong [] = refl
value_wrong (x ∷ xs) = value_wrong xs

value_free : (s : ValueState) (xs : List ℕ) → ends_value (fold value_after s xs) ≡ true → free xs ≡ true
value_free s [] h = refl
value_free s (x ∷ xs) h = elim (cases_Bool (eqb x 32)) [
  | inl hit ↦
      let wrong : value_after s x ≡ value.Wrong = ap (value_after s) (eqb-true x 32 hit) ∙ value_space s in
      let fails : ends_value (fold value_after (value_after s x) xs) ≡ false = ap (λ (q : ValueState). ends_value (fold value_after q xs)) wrong ∙ value_wrong xs in
      absurd (let never : ⊥ = cc in never)
  | inr miss ↦ and_from (is_dark x) (free xs) (not_from_false (eqb x 32) miss) (value_free (value_after s x) xs h)
]

-- Words.

abbrev cut : List ℕ → List (List ℕ)
cut xs = slice_split (λ b. eqb b 32) xs

one_word : (xs : List ℕ) → free xs ≡ true → cut xs ≡ xs ∷ []
one_word xs h = slice_split_none (λ b. eqb b 32) xs (free-all xs h)

next_word : (xs ys : List ℕ) → free xs ≡ true → cut (xs ++ 32 ∷ ys) ≡ xs ∷ cut ys
next_word xs ys h = slice_split_at (λ b. eqb b 32) xs 32 ys (free-all xs h) refl

-- a binding with what is behind its value
binding_cut : (b : Binding) (rest : List ℕ) (ws : List (List ℕ)) → is_binding b ≡ true → cut (b.value ++ rest) ≡ ws → cut (binding_text b ++ rest) ≡ b.name ∷ codes "=" ∷ ws
binding_cut b rest ws formed h =
    ap cut (append_assoc b.name (codes " = " ++ b.value) rest)
    ∙ next_word b.name (61 ∷ 32 ∷ (b.value ++ rest)) (name_free name.Start b.name (and_parts (is_name b.name) (is_value b.value) formed).0)
    ∙ ap (λ (l : List (List ℕ)). b.name ∷ codes "=" ∷ l) h

values_cut : (v : List ℕ) (bs : List Binding) → free v ≡ true → list_all is_binding bs ≡ true → cut (v ++ more_bindings bs) ≡ value_word v bs ∷ binding_words bs
values_cut v [] h all = ap cut (append-nil v) ∙ one_word v h
values_cut v (c ∷ bs) h all =
    let both = and_parts (is_binding c) (list_all is_binding bs) all in
    let free_value = value_free value.Start c.value (and_parts (is_name c.name) (is_value c.value) both.0).1 in
    ap cut (sym (append_assoc v (44 ∷ []) (32 ∷ (binding_text c ++ more_bindings bs))))
    ∙ next_word (v ++ 44 ∷ []) (binding_text c ++ more_bindings bs) (free-append v (44 ∷ []) h refl)
    ∙ ap (λ (l : List (List ℕ)). (v ++ codes ",") ∷ l) (binding_cut c (more_bindings bs) (value_word c.value bs ∷ binding_words bs) both.0 (values_cut c.value bs free_value both.1))

bindings_cut : (b : Binding) (bs : List Binding) → is_binding b ≡ true → list_all is_binding bs ≡ true → cut (binding_text b ++ more_bindings bs) ≡ binding_words (b ∷ bs)
bindings_cut b bs formed all =
    let free_value = value_free value.Start b.value (and_parts (is_name b.name) (is_value b.value) formed).1 in
    binding_cut b (more_bindings bs) (value_word b.value bs ∷ binding_words bs) formed (values_cut b.value bs free_value all)

row_cut : (i : ℕ) (bs : List Binding) → i < 2 ^ 64 → list_all is_binding bs ≡ true → cut ((decimal i ++ codes ":") ++ bindings_text bs) ≡ (decimal i ++ codes ":") ∷ binding_words bs
row_cut i [] small all = ap cut (append-nil (decimal i ++ codes ":")) ∙ one_word (decimal i ++ codes ":") (free-append (decimal i) (codes ":") (decimal_free i small) refl)
row_cut i (b ∷ bs) small all =
    let both = and_parts (is_binding b) (list_all is_binding bs) all in
    next_word (decimal i ++ codes ":") (binding_text b ++ more_bindings bs) (free-append (decimal i) (codes ":") (decimal_free i small) refl)
    ∙ ap (λ (l : List (List ℕ)). (decimal i ++ codes ":") ∷ l) (bindings_cut b bs both.0 both.1)

pub words_of : (e : TraceLine) → in_form e ≡ true → words (entry_text e) ≡ entry_words e
words_of (entry.Spec n) h = ap (λ (l : List (List ℕ)). codes "--@" ∷ codes "spec" ∷ l) (one_word (decimal n) (decimal_free n (ltb-true n (2 ^ 64) h)))
words_of (entry.State i bs) h =
    let both = and_parts (is_small i) (list_all is_binding bs) h in
    ap (λ (l : List (List ℕ)). codes "--@" ∷ codes "state" ∷ l) (row_cut i bs (ltb-true i (2 ^ 64) both.0) both.1)
words_of (entry.Input i bs) h =
    let both = and_parts (is_small i) (list_all is_binding bs) h in
    ap (λ (l : List (List ℕ)). codes "--@" ∷ codes "input" ∷ l) (row_cut i bs (ltb-true i (2 ^ 64) both.0) both.1)
words_of (entry.Loop n) h = ap (λ (l : List (List ℕ)). codes "--@" ∷ codes "loop" ∷ l) (one_word (decimal n) (decimal_free n (ltb-true n (2 ^ 64) h)))

joined : (text : List ℕ) → join_with_byte 32 (words text) ≡ text
joined text = join_with_byte-slice_split 32 text

line_of : (text : List ℕ) (ws : List (List ℕ)) (r : Option TraceLine) → ws ≡ words text → AreWordsOf ws r → IsLineOf text r
line_of text ws None same h = λ e formed is. h e formed (same ∙ ap words is ∙ words_of e formed)
line_of text ws (Some e) same h =
    (h.0, sym (joined text) ∙ ap (join_with_byte 32) (sym same ∙ h.1 ∙ sym (words_of e h.0)) ∙ joined (entry_text e))

pub line_if_ok : {E : Type 0} (text : List ℕ) (ws : List (List ℕ)) (r : Result (Option TraceLine) E) → ws ≡ words text → IfOk r (AreWordsOf ws) → IfOk r (IsLineOf text)
line_if_ok text ws (Ok o) same h = line_of text ws o same h
line_if_ok text ws (Err x) same h = h
