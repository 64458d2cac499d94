-- Words that say something, and what they say.
use Rattle.std.proofs.Common.{◌≡◌, inl, inr, ℕ, ◌<◌, ◌^◌, zero, suc, ◌+◌, ◌*◌, ◌%◌, ◌≤◌, Bool, true, false, cond, ◌&&◌, List, [], ◌∷◌, ◌++◌, length, take, drop, get_or, append_assoc, codes, bytes_eq, Option, None, Some, Bor, Result, Ok, Err, IfOk, refl, sym, subst, ap, ◌∙◌, arith}
use lib.Dec.{eqb}
use Rattle.std.specs.Fmt.{decimal}
use Rattle.std.specs.List.{list_all}
use Rattle.std.specs.Option.{MatchOption, option_copied}
use Rattle.std.proofs.lemmas.Bool.{and_from, and_parts, cases_Bool, cases_eq, cond-false, cond-true, eq-eqb, eqb-true, lt-ltb, ltb-true, ne_eqb}
use Rattle.std.proofs.lemmas.Slice.Eq.{bytes_eq-Decides}
use Rattle.trace_replay.specs.declared.entry.Binding.{Binding}
use Rattle.trace_replay.specs.declared.entry.TraceLine.{TraceLine}
use Rattle.trace_replay.specs.declared.entry.TraceLine.TheVariants as entry
use Rattle.trace_replay.specs.Forms.{is_name, is_value}
use Rattle.trace_replay.specs.Reading.{in_form, is_binding, is_small}
use Rattle.trace_replay.specs.Words.{AreWordsOf, IsNumber, IsNumbered, binding_in, binding_words, bindings_in, bound, entry_words, in_front, is_end, value_word, with_binding, without_last}

-- bindings behind others
abbrev pub behind : List Binding → Option (List Binding) → Option (List Binding)
behind bs None = None
behind bs (Some cs) = Some (bs ++ cs)

-- The last byte.

in_front-some : (b : ℕ) (o : Option (List ℕ)) (v : List ℕ) → in_front b o ≡ Some v → (u : List ℕ) × (o ≡ Some u) × (v ≡ b ∷ u)
in_front-some b None v e = absurd (let never : ⊥ = cc in never)
in_front-some b (Some u) v e = (u, refl, let same : v ≡ b ∷ u = cc in same)

pub without_last-some : (c : ℕ) (bs v : List ℕ) → without_last c bs ≡ Some v → bs ≡ v ++ c ∷ []
without_last-some c [] v e = absurd (let never : ⊥ = cc in never)
without_last-some c (b ∷ []) v e = elim (cases_Bool (eqb b c)) [
  | inl hit ↦
      let is : Some [] ≡ Some v = sym (cond-true (eqb b c) (Some []) None hit) ∙ e in
      let empty : v ≡ [] = cc in
      ap (λ x. x ∷ []) (eqb-true b c hit) ∙ ap (λ (l : List ℕ). l ++ c ∷ []) (sym empty)
  | inr miss ↦
      let is : None ≡ Some v = sym (cond-false (eqb b c) (Some []) None miss) ∙ e in
      absurd (let never : ⊥ = cc in never)
]
without_last-some c (b ∷ d ∷ bs) v e =
    let parts = in_front-some b (without_last c (d ∷ bs)) v e in
    ap (λ (l : List ℕ). b ∷ l) (without_last-some c (d ∷ bs) parts.0 parts.1) ∙ ap (λ (l : List ℕ). l ++ c ∷ []) (sym parts.2)

pub without_last-push : (c : ℕ) (v : List ℕ) → without_last c (v ++ c ∷ []) ≡ Some v
without_last-push c [] = cond-true (eqb c c) (Some []) None (eq-eqb c c refl)
without_last-push c (b ∷ []) = ap (in_front b) (without_last-push c [])
without_last-push c (b ∷ d ∷ v) = ap (in_front b) (without_last-push c (d ∷ v))

none_from : (c : ℕ) (bs : List ℕ) (o : Option (List ℕ)) → o ≡ without_last c bs → ((front : List ℕ) → bs ≡ front ++ (c ∷ []) → ⊥) → None ≡ o
none_from c bs None e never = refl
none_from c bs (Some v) e never = absurd (never v (without_last-some c bs v (sym e)))

-- what a call that strips it gives
pub stripped : (c : ℕ) (bs : List ℕ) (r : Option (Bor (List ℕ))) → MatchOption r ((front : List ℕ) → bs ≡ front ++ (c ∷ []) → ⊥) (λ x. bs ≡ x.now ++ (c ∷ [])) → option_copied r ≡ without_last c bs
stripped c bs None h = none_from c bs (without_last c bs) refl h
stripped c bs (Some x) h = sym (without_last-push c x.now) ∙ ap (without_last c) (sym h)

-- a number before a colon
pub numbered : (text number : List ℕ) (r : Option ℕ) → without_last 58 text ≡ Some number → IsNumber number r → IsNumbered text r
numbered text number None e h = λ n small is.
    let same : Some number ≡ Some (decimal n) = sym e ∙ ap (without_last 58) is ∙ without_last-push 58 (decimal n) in
    let number_is : number ≡ decimal n = cc in
    h n small number_is
numbered text number (Some n) e h = (h.0, without_last-some 58 text number e ∙ ap (λ (l : List ℕ). l ++ 58 ∷ []) h.1)

-- Bindings.

pub record IsBindingOf (a b c : List ℕ) (last : Bool) (x : Binding) : Type 0 where
  pub equals : b ≡ codes "="
  pub name : a ≡ x.name
  pub value : cond last (Some c) (without_last 44 c) ≡ Some x.value
  pub formed : is_binding x ≡ true

bound-some : (a : List ℕ) (o : Option (List ℕ)) (x : Binding) → bound a o ≡ Some x → (a ≡ x.name) × (o ≡ Some x.value) × (is_binding x ≡ true)
bound-some a None x e = absurd (let never : ⊥ = cc in never)
bound-some a (Some v) x e = elim (cases_Bool (is_name a && is_value v)) [
  | inl hit ↦
      let made : Binding = record { name = a; value = v } in
      let is : Some made ≡ Some x = sym (cond-true (is_name a && is_value v) (Some made) None hit) ∙ e in
      let same : made ≡ x = cc in
      (ap (λ (y : Binding). y.name) same, ap (λ (y : Binding). Some y.value) same, subst (λ (y : Binding). is_binding y ≡ true) same hit)
  | inr miss ↦
      let is : None ≡ Some x = sym (cond-false (is_name a && is_value v) (Some (record { name = a; value = v })) None miss) ∙ e in
      absurd (let never : ⊥ = cc in never)
]

binding_told : (a b c : List ℕ) (last : Bool) (x : Binding) → binding_in a b c last ≡ Some x → IsBindingOf a b c last x
binding_told a b c last x e = elim (cases_Bool (bytes_eq b (codes "="))) [
  | inl hit ↦
      let parts = bound-some a (cond last (Some c) (without_last 44 c)) x (sym (cond-true (bytes_eq b (codes "=")) (bound a (cond last (Some c) (without_last 44 c))) None hit) ∙ e) in
      record { equals = (bytes_eq-Decides b (codes "=")).0 hit; name = parts.0; value = parts.1; formed = parts.2 }
  | inr miss ↦
      let is : None ≡ Some x = sym (cond-false (bytes_eq b (codes "=")) (bound a (cond last (Some c) (without_last 44 c))) None miss) ∙ e in
      absurd (let never : ⊥ = cc in never)
]

pub record AreParts (o : Option Binding) (os : Option (List Binding)) (bs : List Binding) : Type 0 where
  pub first : Binding
  pub more : List Binding
  pub is_first : o ≡ Some first
  pub are_more : os ≡ Some more
  pub all : bs ≡ first ∷ more

parts_of : (o : Option Binding) (os : Option (List Binding)) (bs : List Binding) → with_binding o os ≡ Some bs → AreParts o os bs
parts_of None os bs e = absurd (let never : ⊥ = cc in never)
parts_of (Some b) None bs e = absurd (let never : ⊥ = cc in never)
parts_of (Some b) (Some cs) bs e = record { first = b; more = cs; is_first = refl; are_more = refl; all = let same : bs ≡ b ∷ cs = cc in same }

-- a value word, by whether it is the last
last_word : (c : List ℕ) (x : Binding) (bs : List Binding) → [] ≡ bs → Some c ≡ Some x.value → c ≡ value_word x.value bs
last_word c x [] h e = let same : c ≡ x.value = cc in same
last_word c x (b ∷ bs) h e = absurd (let never : ⊥ = cc in never)

inner_word : (c : List ℕ) (x y : Binding) (ys bs : List Binding) → bs ≡ y ∷ ys → without_last 44 c ≡ Some x.value → c ≡ value_word x.value bs
inner_word c x y ys [] h e = absurd (let never : ⊥ = cc in never)
inner_word c x y ys (b ∷ bs) h e = without_last-some 44 c x.value e

starts : (a : List ℕ) (ws : List (List ℕ)) (bs : List Binding) → bindings_in (a ∷ ws) ≡ Some bs → (y : Binding) × (ys : List Binding) × (bs ≡ y ∷ ys)
starts a [] bs e = absurd (let never : ⊥ = cc in never)
starts a (b ∷ []) bs e = absurd (let never : ⊥ = cc in never)
starts a (b ∷ c ∷ ws) bs e = let p = parts_of (binding_in a b c (is_end ws)) (bindings_in ws) bs e in (p.first, p.more, p.all)

word_is : (c : List ℕ) (x : Binding) (ws : List (List ℕ)) (bs : List Binding) → bindings_in ws ≡ Some bs → cond (is_end ws) (Some c) (without_last 44 c) ≡ Some x.value → c ≡ value_word x.value bs
word_is c x [] bs e h = last_word c x bs (let same : [] ≡ bs = cc in same) h
word_is c x (w ∷ ws) bs e h = let p = starts w ws bs e in inner_word c x p.0 p.1 bs p.2 h

-- words that are bindings are those of the bindings
pub words_told : (ws : List (List ℕ)) (bs : List Binding) → bindings_in ws ≡ Some bs → (ws ≡ binding_words bs) × (list_all is_binding bs ≡ true)
words_told [] bs e = (ap binding_words (let same : [] ≡ bs = cc in same), ap (list_all is_binding) (let same : bs ≡ [] = cc in same))
words_told (a ∷ []) bs e = absurd (let never : ⊥ = cc in never)
words_told (a ∷ b ∷ []) bs e = absurd (let never : ⊥ = cc in never)
words_told (a ∷ b ∷ c ∷ ws) bs e =
    let p = parts_of (binding_in a b c (is_end ws)) (bindings_in ws) bs e in
    let x = binding_told a b c (is_end ws) p.first p.is_first in
    let rest = words_told ws p.more p.are_more in
    let word = word_is c p.first ws p.more p.are_more x.value in (
      ap (λ (l : List ℕ). l ∷ b ∷ c ∷ ws) x.name
          ∙ ap (λ (l : List ℕ). p.first.name ∷ l ∷ c ∷ ws) x.equals
          ∙ ap (λ (l : List ℕ). p.first.name ∷ codes "=" ∷ l ∷ ws) word
          ∙ ap (λ (l : List (List ℕ)). p.first.name ∷ codes "=" ∷ value_word p.first.value p.more ∷ l) rest.0
          ∙ ap binding_words (sym p.all),
      ap (list_all is_binding) p.all ∙ and_from (is_binding p.first) (list_all is_binding p.more) x.formed rest.1,
    )

binding_back : (x : Binding) (c : List ℕ) (last : Bool) → is_binding x ≡ true → cond last (Some c) (without_last 44 c) ≡ Some x.value → binding_in x.name (codes "=") c last ≡ Some x
binding_back x c last formed e =
    ap (bound x.name) e ∙ cond-true (is_name x.name && is_value x.value) (Some (record { name = x.name; value = x.value })) None formed

-- the words of bindings are these bindings
pub words_back : (bs : List Binding) → list_all is_binding bs ≡ true → bindings_in (binding_words bs) ≡ Some bs
words_back [] h = refl
words_back (b ∷ []) h =
    ap (λ (o : Option Binding). with_binding o (Some [])) (binding_back b b.value true (and_parts (is_binding b) true h).0 refl)
words_back (b ∷ c ∷ bs) h =
    let both = and_parts (is_binding b) (list_all is_binding (c ∷ bs)) h in
    ap (λ (o : Option Binding). with_binding o (bindings_in (binding_words (c ∷ bs)))) (binding_back b (b.value ++ 44 ∷ []) false both.0 (without_last-push 44 b.value))
    ∙ ap (with_binding (Some b)) (words_back (c ∷ bs) both.1)

-- Whole lines.

pub apart : (a b : List ℕ) → bytes_eq a b ≡ false → a ≡ b → ⊥
apart a b differ same = let e = (bytes_eq-Decides a b).1 same in let never : ⊥ = cc in never

pub second : {A : Type 0} (a b c d : A) (xs ys : List A) → a ∷ b ∷ xs ≡ c ∷ d ∷ ys → b ≡ d
second a b c d xs ys e = cc

pub third : {A : Type 0} (a b n c d m : A) (xs ys : List A) → a ∷ b ∷ n ∷ xs ≡ c ∷ d ∷ m ∷ ys → n ≡ m
third a b n c d m xs ys e = cc

pub behind_third : {A : Type 0} (a b n c d m : A) (xs ys : List A) → a ∷ b ∷ n ∷ xs ≡ c ∷ d ∷ m ∷ ys → xs ≡ ys
behind_third a b n c d m xs ys e = cc

pub record IsRow (word : List ℕ) (words : List (List ℕ)) (i : ℕ) (bs : List Binding) : Type 0 where
  pub small : i < 2 ^ 64
  pub formed : list_all is_binding bs ≡ true
  pub number : word ≡ decimal i ++ codes ":"
  pub more : words ≡ binding_words bs

module _ (number : List ℕ) (more : List (List ℕ)) where
  abbrev line : List ℕ → List (List ℕ)
  line keyword = codes "--@" ∷ keyword ∷ number ∷ more

  pub spec_only : (e : TraceLine) → in_form e ≡ true → line (codes "spec") ≡ entry_words e → (n : ℕ) × (n < 2 ^ 64) × (number ≡ decimal n) × (more ≡ [])
  spec_only (entry.Spec n) formed e = (n, ltb-true n (2 ^ 64) formed, third _ _ _ _ _ _ _ _ e, behind_third _ _ _ _ _ _ _ _ e)
  spec_only (entry.State i bs) formed e = absurd (apart (codes "spec") (codes "state") refl (second _ _ _ _ _ _ e))
  spec_only (entry.Input i bs) formed e = absurd (apart (codes "spec") (codes "input") refl (second _ _ _ _ _ _ e))
  spec_only (entry.Loop n) formed e = absurd (apart (codes "spec") (codes "loop") refl (second _ _ _ _ _ _ e))

  pub loop_only : (e : TraceLine) → in_form e ≡ true → line (codes "loop") ≡ entry_words e → (n : ℕ) × (n < 2 ^ 64) × (number ≡ decimal n) × (more ≡ [])
  loop_only (entry.Loop n) formed e = (n, ltb-true n (2 ^ 64) formed, third _ _ _ _ _ _ _ _ e, behind_third _ _ _ _ _ _ _ _ e)
  loop_only (entry.State i bs) formed e = absurd (apart (codes "loop") (codes "state") refl (second _ _ _ _ _ _ e))
  loop_only (entry.Input i bs) formed e = absurd (apart (codes "loop") (codes "input") refl (second _ _ _ _ _ _ e))
  loop_only (entry.Spec n) formed e = absurd (apart (codes "loop") (codes "spec") refl (second _ _ _ _ _ _ e))

  row_is : (i : ℕ) (bs : List Binding) (keyword : List ℕ) → is_small i && list_all is_binding bs ≡ true → line keyword ≡ codes "--@" ∷ keyword ∷ (decimal i ++ codes ":") ∷ binding_words bs → IsRow number more i bs
  row_is i bs keyword formed e =
      let both = and_parts (is_small i) (list_all is_binding bs) formed in
      record { small = ltb-true i (2 ^ 64) both.0; formed = both.1; number = third _ _ _ _ _ _ _ _ e; more = behind_third _ _ _ _ _ _ _ _ e }

  pub state_only : (e : TraceLine) → in_form e ≡ true → line (codes "state") ≡ entry_words e → (i : ℕ) × (bs : List Binding) × IsRow number more i bs
  state_only (entry.State i bs) formed e = (i, bs, row_is i bs (codes "state") formed e)
  state_only (entry.Spec n) formed e = absurd (apart (codes "state") (codes "spec") refl (second _ _ _ _ _ _ e))
  state_only (entry.Input i bs) formed e = absurd (apart (codes "state") (codes "input") refl (second _ _ _ _ _ _ e))
  state_only (entry.Loop n) formed e = absurd (apart (codes "state") (codes "loop") refl (second _ _ _ _ _ _ e))

  pub input_only : (e : TraceLine) → in_form e ≡ true → line (codes "input") ≡ entry_words e → (i : ℕ) × (bs : List Binding) × IsRow number more i bs
  input_only (entry.Input i bs) formed e = (i, bs, row_is i bs (codes "input") formed e)
  input_only (entry.Spec n) formed e = absurd (apart (codes "input") (codes "spec") refl (second _ _ _ _ _ _ e))
  input_only (entry.State i bs) formed e = absurd (apart (codes "input") (codes "state") refl (second _ _ _ _ _ _ e))
  input_only (entry.Loop n) formed e = absurd (apart (codes "input") (codes "loop") refl (second _ _ _ _ _ _ e))

-- the same of a call
pub numbered_if_ok : {E : Type 0} (text number : List ℕ) (r : Result (Option ℕ) E) → without_last 58 text ≡ Some number → IfOk r (IsNumber number) → IfOk r (IsNumbered text)
numbered_if_ok text number (Ok o) e h = numbered text number o e h
numbered_if_ok text number (Err x) e h = h

-- a text that is not printed so
pub not_printed : (printed text : List ℕ) (m n : ℕ) → printed ≡ decimal m → m ≡ n → text ≡ decimal n → false ≡ bytes_eq printed text → ⊥
not_printed printed text m n is same text_is differ =
    let hit = (bytes_eq-Decides printed text).1 (is ∙ ap decimal same ∙ sym text_is) in
    let never : ⊥ = cc in never

ok_same : {E : Type 0} (m n : ℕ) (r s : Result ℕ E) → r ≡ Ok m → s ≡ Ok n → r ≡ s → m ≡ n
ok_same m n r s e f g = cc

pub same_number : {E : Type 0} (r : Result ℕ E) (m n : ℕ) → r ≡ Ok m → r ≡ Ok n → m ≡ n
same_number r m n e f = ok_same m n r r e f refl

-- What lines of states and inputs say: none, by the number, or by the bindings; or these.
pub state_number_none : (number : List ℕ) (more : List (List ℕ)) → IsNumbered number None → AreWordsOf (codes "--@" ∷ codes "state" ∷ number ∷ more) None
state_number_none number more h e formed is = let row = state_only number more e formed is in h row.0 row.2.small row.2.number

pub input_number_none : (number : List ℕ) (more : List (List ℕ)) → IsNumbered number None → AreWordsOf (codes "--@" ∷ codes "input" ∷ number ∷ more) None
input_number_none number more h e formed is = let row = input_only number more e formed is in h row.0 row.2.small row.2.number

no_bindings : (more : List (List ℕ)) (bs : List Binding) → None ≡ bindings_in more → more ≡ binding_words bs → list_all is_binding bs ≡ true → ⊥
no_bindings more bs none is formed =
    let clash : None ≡ Some bs = none ∙ ap bindings_in is ∙ words_back bs formed in
    let never : ⊥ = cc in never

pub state_bindings_none : (number : List ℕ) (more : List (List ℕ)) → None ≡ bindings_in more → AreWordsOf (codes "--@" ∷ codes "state" ∷ number ∷ more) None
state_bindings_none number more none e formed is = let row = state_only number more e formed is in no_bindings more row.1 none row.2.more row.2.formed

pub input_bindings_none : (number : List ℕ) (more : List (List ℕ)) → None ≡ bindings_in more → AreWordsOf (codes "--@" ∷ codes "input" ∷ number ∷ more) None
input_bindings_none number more none e formed is = let row = input_only number more e formed is in no_bindings more row.1 none row.2.more row.2.formed

row_words : (keyword number : List ℕ) (more : List (List ℕ)) (i : ℕ) (bs : List Binding) → number ≡ decimal i ++ codes ":" → more ≡ binding_words bs
    → codes "--@" ∷ keyword ∷ number ∷ more ≡ codes "--@" ∷ keyword ∷ (decimal i ++ codes ":") ∷ binding_words bs
row_words keyword number more i bs is rest =
    ap (λ (l : List ℕ). codes "--@" ∷ keyword ∷ l ∷ more) is ∙ ap (λ (l : List (List ℕ)). codes "--@" ∷ keyword ∷ (decimal i ++ codes ":") ∷ l) rest

pub state_some : (number : List ℕ) (more : List (List ℕ)) (i : ℕ) (bs : List Binding) → IsNumbered number (Some i) → Some bs ≡ bindings_in more → AreWordsOf (codes "--@" ∷ codes "state" ∷ number ∷ more) (Some (entry.State i bs))
state_some number more i bs h is =
    let told = words_told more bs (sym is) in
    (and_from (is_small i) (list_all is_binding bs) (lt-ltb i (2 ^ 64) h.0) told.1, row_words (codes "state") number more i bs h.1 told.0)

pub input_some : (number : List ℕ) (more : List (List ℕ)) (i : ℕ) (bs : List Binding) → IsNumbered number (Some i) → Some bs ≡ bindings_in more → AreWordsOf (codes "--@" ∷ codes "input" ∷ number ∷ more) (Some (entry.Input i bs))
input_some number more i bs h is =
    let told = words_told more bs (sym is) in
    (and_from (is_small i) (list_all is_binding bs) (lt-ltb i (2 ^ 64) h.0) told.1, row_words (codes "input") number more i bs h.1 told.0)

-- No line has fewer than three words, another mark, or another keyword.

pub three : (e : TraceLine) → 3 ≤ length (entry_words e)
three (entry.Spec n) = omega arith
three (entry.State i bs) = omega arith
three (entry.Input i bs) = omega arith
three (entry.Loop n) = omega arith

pub too_short : (ws : List (List ℕ)) → length ws < 3 → AreWordsOf ws None
too_short ws short e formed is = let long = three e in let same = ap length is in let never : ⊥ = omega (arith, short, long, same) in never

first : {A : Type 0} (a b : A) (xs ys : List A) → a ∷ xs ≡ b ∷ ys → a ≡ b
first a b xs ys e = cc

clash_of : (a b : List ℕ) → bytes_eq a b ≡ false → a ≡ b → ⊥
clash_of a b differ same = apart a b differ same

pub other_mark : (mark keyword number : List ℕ) (more : List (List ℕ)) → bytes_eq mark (codes "--@") ≡ false → AreWordsOf (mark ∷ keyword ∷ number ∷ more) None
other_mark mark keyword number more differ (entry.Spec n) formed is = clash_of mark (codes "--@") differ (first _ _ _ _ is)
other_mark mark keyword number more differ (entry.State i bs) formed is = clash_of mark (codes "--@") differ (first _ _ _ _ is)
other_mark mark keyword number more differ (entry.Input i bs) formed is = clash_of mark (codes "--@") differ (first _ _ _ _ is)
other_mark mark keyword number more differ (entry.Loop n) formed is = clash_of mark (codes "--@") differ (first _ _ _ _ is)

pub other_keyword : (mark keyword number : List ℕ) (more : List (List ℕ)) → bytes_eq keyword (codes "spec") ≡ false → bytes_eq keyword (codes "state") ≡ false
    → bytes_eq keyword (codes "input") ≡ false → bytes_eq keyword (codes "loop") ≡ false → AreWordsOf (mark ∷ keyword ∷ number ∷ more) None
other_keyword mark keyword number more a b c d (entry.Spec n) formed is = clash_of keyword (codes "spec") a (second _ _ _ _ _ _ is)
other_keyword mark keyword number more a b c d (entry.State i bs) formed is = clash_of keyword (codes "state") b (second _ _ _ _ _ _ is)
other_keyword mark keyword number more a b c d (entry.Input i bs) formed is = clash_of keyword (codes "input") c (second _ _ _ _ _ _ is)
other_keyword mark keyword number more a b c d (entry.Loop n) formed is = clash_of keyword (codes "loop") d (second _ _ _ _ _ _ is)

-- the words with this mark and keyword
pub keyed_words : {E : Type 0} (mark keyword word number : List ℕ) (more : List (List ℕ)) (r : Result (Option TraceLine) E) → bytes_eq mark (codes "--@") ≡ true → bytes_eq keyword word ≡ true
    → IfOk r (AreWordsOf (codes "--@" ∷ word ∷ number ∷ more)) → IfOk r (AreWordsOf (mark ∷ keyword ∷ number ∷ more))
keyed_words mark keyword word number more r m k h =
    subst (λ (l : List ℕ). IfOk r (AreWordsOf (l ∷ keyword ∷ number ∷ more))) (sym ((bytes_eq-Decides mark (codes "--@")).0 m))
    (subst (λ (l : List ℕ). IfOk r (AreWordsOf (codes "--@" ∷ l ∷ number ∷ more))) (sym ((bytes_eq-Decides keyword word).0 k)) h)

-- three words and those behind them
pub three_at : (ws : List (List ℕ)) (a b c : List ℕ) → 3 ≤ length ws → a ≡ get_or (take 3 ws) 0 a → b ≡ get_or (take 3 ws) 1 b → c ≡ get_or (take 3 ws) 2 c → a ∷ b ∷ c ∷ drop 3 ws ≡ ws
three_at [] a b c h x y z = absurd (let never : ⊥ = omega (arith, h) in never)
three_at (p ∷ []) a b c h x y z = absurd (let never : ⊥ = omega (arith, h) in never)
three_at (p ∷ q ∷ []) a b c h x y z = absurd (let never : ⊥ = omega (arith, h) in never)
three_at (p ∷ q ∷ r ∷ ws) a b c h x y z =
    ap (λ (l : List ℕ). l ∷ b ∷ c ∷ ws) x ∙ ap (λ (l : List ℕ). p ∷ l ∷ c ∷ ws) y ∙ ap (λ (l : List ℕ). p ∷ q ∷ l ∷ ws) z

-- The words of bindings, three by three.

pub three_more : (ws : List (List ℕ)) (k : ℕ) (a b c : List ℕ) → k + 2 < length ws → a ≡ get_or ws k a → b ≡ get_or ws (k + 1) b → c ≡ get_or ws (k + 2) c
    → drop k ws ≡ a ∷ b ∷ c ∷ drop (k + 3) ws
three_more [] k a b c h x y z = absurd (let never : ⊥ = omega (arith, h) in never)
three_more (w ∷ ws) (suc k) a b c h x y z =
    let one : suc k + 1 ≡ suc (k + 1) = omega arith in
    let two : suc k + 2 ≡ suc (k + 2) = omega arith in
    let end : suc (k + 3) ≡ suc k + 3 = omega arith in
    three_more ws k a b c (omega (arith, h)) x (y ∙ ap (λ n. get_or (w ∷ ws) n b) one) (z ∙ ap (λ n. get_or (w ∷ ws) n c) two)
    ∙ ap (λ n. a ∷ b ∷ c ∷ drop n (w ∷ ws)) end
three_more (w ∷ []) zero a b c h x y z = absurd (let never : ⊥ = omega (arith, h) in never)
three_more (w ∷ v ∷ []) zero a b c h x y z = absurd (let never : ⊥ = omega (arith, h) in never)
three_more (w ∷ v ∷ u ∷ ws) zero a b c h x y z =
    ap (λ (l : List ℕ). l ∷ v ∷ u ∷ ws) (sym x) ∙ ap (λ (l : List ℕ). a ∷ l ∷ u ∷ ws) (sym y) ∙ ap (λ (l : List ℕ). a ∷ b ∷ l ∷ ws) (sym z)

same_test : (a b : ℕ) → eqb a b ≡ eqb (suc a) (suc b)
same_test a b = elim (cases_eq a b) [
  | inl same ↦ eq-eqb a b same ∙ sym (eq-eqb (suc a) (suc b) (ap suc same))
  | inr differ ↦ ne_eqb a b differ ∙ sym (ne_eqb (suc a) (suc b) (λ e. differ (omega (arith, e))))
]

moved : (made : List Binding) (x : Binding) (o : Option (List Binding)) → behind (made ++ x ∷ []) o ≡ behind made (with_binding (Some x) o)
moved made x None = refl
moved made x (Some cs) = ap (λ (l : List Binding). Some l) (append_assoc made (x ∷ []) cs)

pub end_at : (ws : List (List ℕ)) (k : ℕ) → k ≤ length ws → is_end (drop k ws) ≡ eqb k (length ws)
end_at [] zero h = refl
end_at [] (suc k) h = absurd (let never : ⊥ = omega (arith, h) in never)
end_at (w ∷ ws) zero h = sym (ne_eqb 0 (length (w ∷ ws)) (λ e. let never : ⊥ = omega (arith, e) in never))
end_at (w ∷ ws) (suc k) h = end_at ws k (omega (arith, h)) ∙ same_test k (length ws)

counted : (ws : List (List ℕ)) (bs : List Binding) → bindings_in ws ≡ Some bs → length ws ≡ 3 * length bs
counted [] bs e = let same : [] ≡ bs = cc in ap (λ (l : List Binding). 3 * length l) same
counted (a ∷ []) bs e = absurd (let never : ⊥ = cc in never)
counted (a ∷ b ∷ []) bs e = absurd (let never : ⊥ = cc in never)
counted (a ∷ b ∷ c ∷ ws) bs e =
    let p = parts_of (binding_in a b c (is_end ws)) (bindings_in ws) bs e in
    let rest = counted ws p.more p.are_more in
    let all : length bs ≡ suc (length p.more) = ap length p.all in
    omega (arith, rest, all)

none_for : (ws : List (List ℕ)) (o : Option (List Binding)) → bindings_in ws ≡ o → (length ws % 3 ≡ 0 → ⊥) → None ≡ o
none_for ws None e uneven = refl
none_for ws (Some bs) e uneven = absurd (let long = counted ws bs e in uneven (omega (arith, long)))

-- bindings are three words each
pub uneven_words : (ws : List (List ℕ)) → (length ws % 3 ≡ 0 → ⊥) → None ≡ bindings_in ws
uneven_words ws uneven = none_for ws (bindings_in ws) refl uneven

-- one binding more
pub binding_more : (ws : List (List ℕ)) (k : ℕ) (a b c : List ℕ) (made : List Binding) (x : Binding) (all : Option (List Binding)) → k + 2 < length ws → a ≡ get_or ws k a → b ≡ get_or ws (k + 1) b → c ≡ get_or ws (k + 2) c
    → binding_in a b c (eqb (k + 3) (length ws)) ≡ Some x → behind made (bindings_in (drop k ws)) ≡ all → behind (made ++ x ∷ []) (bindings_in (drop (k + 3) ws)) ≡ all
binding_more ws k a b c made x all h i j l is before =
    moved made x (bindings_in (drop (k + 3) ws))
    ∙ ap (λ (o : Option Binding). behind made (with_binding o (bindings_in (drop (k + 3) ws)))) (sym is)
    ∙ ap (λ (e : Bool). behind made (with_binding (binding_in a b c e) (bindings_in (drop (k + 3) ws)))) (sym (end_at ws (k + 3) (omega (arith, h))))
    ∙ ap (λ (v : List (List ℕ)). behind made (bindings_in v)) (sym (three_more ws k a b c h i j l))
    ∙ before

-- a binding that is none
pub binding_none : (ws : List (List ℕ)) (k : ℕ) (a b c : List ℕ) (made : List Binding) (all : Option (List Binding)) → k + 2 < length ws → a ≡ get_or ws k a → b ≡ get_or ws (k + 1) b → c ≡ get_or ws (k + 2) c
    → binding_in a b c (eqb (k + 3) (length ws)) ≡ None → behind made (bindings_in (drop k ws)) ≡ all → None ≡ all
binding_none ws k a b c made all h i j l is before =
    ap (λ (o : Option Binding). behind made (with_binding o (bindings_in (drop (k + 3) ws)))) (sym is)
    ∙ ap (λ (e : Bool). behind made (with_binding (binding_in a b c e) (bindings_in (drop (k + 3) ws)))) (sym (end_at ws (k + 3) (omega (arith, h))))
    ∙ ap (λ (v : List (List ℕ)). behind made (bindings_in v)) (sym (three_more ws k a b c h i j l))
    ∙ before
