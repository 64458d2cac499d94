-- What is read is what the line prints.
use Rattle.std.proofs.Common.{◌≡◌, ℕ, ◌<◌, ◌^◌, Bool, true, false, cond, List, [], ◌∷◌, ◌++◌, length, get_or, codes, bytes_eq, Option, None, Some, refl, sym, ap, ◌∙◌, arith, append_assoc}
use lib.Dec.{eqb}
use Rattle.std.specs.Prelude.{nat_lt, nat_le, ◌&&◌}
use Rattle.std.specs.Fmt.{decimal}
use Rattle.std.specs.Char.{is_ascii_digit}
use Rattle.std.specs.List.{join_with_byte, list_all}
use Rattle.std.specs.Str.Parse.{digits_value}
use Rattle.std.proofs.lemmas.Bool.{and_from, and_parts, lt-ltb, ltb-true}
use Rattle.std.proofs.lemmas.Bool.Decides.{leb_tells, nat_tests}
use Rattle.std.proofs.lemmas.Fmt.{decimal-digits_value}
use Rattle.std.proofs.lemmas.List.Splits.{join_with_byte-slice_split}
use Rattle.std.proofs.lemmas.Slice.Eq.{bytes_eq-Decides}
use Rattle.plain_text.specs.Decimals.{is_numeral, number_up_to}
use Rattle.trace_lines.specs.declared.entry.Binding.{Binding}
use Rattle.trace_lines.specs.declared.entry.TraceLine.{TraceLine}
use Rattle.trace_lines.specs.declared.entry.TraceLine.TheVariants as entry
use Rattle.trace_lines.specs.Lines.{binding_of, bindings_in, bindings_of, bound, entry_of, entry_read, is_name, is_value, long_entry, long_keyed, number_of, pieces, short_entry, short_keyed, with_binding}
use Rattle.trace_lines.specs.Printed.{binding_text, bindings_text, entry_text, in_form, is_binding}
use Rattle.trace_lines.proofs.OfPrinted.{in_more, own}

some_is : {A : Type 0} (a b : A) → Some a ≡ Some b → a ≡ b
some_is a b e = cc

some_if : {A : Type 0} (b : Bool) (o : Option A) (y : A) → cond b o None ≡ Some y → (b ≡ true) × (o ≡ Some y)
some_if true o y h = (refl, h)
some_if false o y h = absurd (let never : ⊥ = cc in never)

some_else : {A : Type 0} (b : Bool) (o : Option A) (y : A) → cond b None o ≡ Some y → (b ≡ false) × (o ≡ Some y)
some_else true o y h = absurd (let never : ⊥ = cc in never)
some_else false o y h = (refl, h)

same_bytes : (a b : List ℕ) → bytes_eq a b ≡ true → a ≡ b
same_bytes a b h = (bytes_eq-Decides a b).0 h

joined : (c : ℕ) (text : List ℕ) → join_with_byte c (pieces c text) ≡ text
joined c text = join_with_byte-slice_split c text

-- Numbers.

abbrev limit : ℕ
limit = 18446744073709551615

pub record IsNumberText (word : List ℕ) (n : ℕ) : Type 0 where
  pub small : n < 2 ^ 64
  pub text : word ≡ decimal n

number_told : (word : List ℕ) (n : ℕ) → number_of word ≡ Some n → IsNumberText word n
unfolding number_up_to
number_told word n h =
    let outer = some_else (nat_lt 1 (length word) && eqb (get_or word 0 0) 48) (number_up_to limit word) n h in
    let inner = some_if (is_numeral word && nat_le (digits_value 10 word) limit) (Some (digits_value 10 word)) n outer.1 in
    let tests = and_parts (is_numeral word) (nat_le (digits_value 10 word) limit) inner.0 in
    let numeral = and_parts (nat_lt 0 (length word)) (list_all is_ascii_digit word) tests.0 in
    let long : 0 < length word = ltb-true 0 (length word) numeral.0 in
    let value : digits_value 10 word ≡ n = some_is _ _ inner.1 in
    let within : digits_value 10 word < 2 ^ 64 = grind (arith, tests.1, leb_tells) in
    let plain : get_or word 0 0 ≡ 48 → length word ≡ 1 = λ first. grind (arith, first, outer.0, long, nat_tests) in
    record {
      small = omega (arith, within, value);
      text = sym (decimal-digits_value own word numeral.1 long plain within) ∙ ap decimal value;
    }

-- Bindings.

pub record IsBindingText (piece : List ℕ) (b : Binding) : Type 0 where
  pub formed : is_binding b ≡ true
  pub text : piece ≡ codes " " ++ binding_text b

bound_told : (name value : List ℕ) (b : Binding) → bound name value ≡ Some b → (is_binding b ≡ true) × (name ≡ b.name) × (value ≡ b.value)
bound_told name value b h =
    let made : Binding = record { name = name; value = value } in
    let parts = some_if (is_name name && is_value value) (Some made) b h in
    let same : made ≡ b = some_is _ _ parts.1 in
    (ap is_binding (sym same) ∙ parts.0, ap (λ (x : Binding). x.name) same, ap (λ (x : Binding). x.value) same)

words_told : (ws : List (List ℕ)) (b : Binding) → binding_of ws ≡ Some b → IsBindingText (join_with_byte 32 ws) b
words_told [] b h = absurd (let never : ⊥ = cc in never)
words_told (x ∷ []) b h = absurd (let never : ⊥ = cc in never)
words_told (x ∷ y ∷ []) b h = absurd (let never : ⊥ = cc in never)
words_told (x ∷ y ∷ z ∷ []) b h = absurd (let never : ⊥ = cc in never)
words_told (x ∷ y ∷ z ∷ w ∷ []) b h =
    let parts = some_if (bytes_eq x [] && bytes_eq z (codes "=")) (bound y w) b h in
    let tests = and_parts (bytes_eq x []) (bytes_eq z (codes "=")) parts.0 in
    let made = bound_told y w b parts.1 in
    record {
      formed = made.0;
      text =
          ap (λ (l : List ℕ). l ++ 32 ∷ (y ++ 32 ∷ (z ++ 32 ∷ w))) (same_bytes x [] tests.0)
          ∙ ap (λ (l : List ℕ). 32 ∷ (y ++ 32 ∷ (l ++ 32 ∷ w))) (same_bytes z (codes "=") tests.1)
          ∙ ap (λ (l : List ℕ). 32 ∷ (l ++ 32 ∷ 61 ∷ 32 ∷ w)) made.1
          ∙ ap (λ (l : List ℕ). 32 ∷ (b.name ++ 32 ∷ 61 ∷ 32 ∷ l)) made.2
          ∙ ap (λ (l : List ℕ). 32 ∷ l) (sym (append_assoc b.name (codes " = ") b.value));
    }
words_told (x ∷ y ∷ z ∷ w ∷ v ∷ ws) b h = absurd (let never : ⊥ = cc in never)

binding_told : (piece : List ℕ) (b : Binding) → binding_of (pieces 32 piece) ≡ Some b → IsBindingText piece b
binding_told piece b h =
    let told = words_told (pieces 32 piece) b h in
    record { formed = told.formed; text = sym (joined 32 piece) ∙ told.text }

-- what a list of bindings is made of
pub record AreParts (o : Option Binding) (os : Option (List Binding)) (bs : List Binding) : Type 0 where
  pub first : Binding
  pub more : List Binding
  pub is_first : o ≡ Some first
  pub are_more : os ≡ Some more
  pub all : bs ≡ first ∷ more

parts_of : (o : Option Binding) (os : Option (List Binding)) (bs : List Binding) → with_binding o os ≡ Some bs → AreParts o os bs
parts_of None os bs e = absurd (let never : ⊥ = cc in never)
parts_of (Some b) None bs e = absurd (let never : ⊥ = cc in never)
parts_of (Some b) (Some cs) bs e = record { first = b; more = cs; is_first = refl; are_more = refl; all = let same : bs ≡ b ∷ cs = cc in same }

pub record AreBindingsText (text : List ℕ) (bs : List Binding) : Type 0 where
  pub formed : list_all is_binding bs ≡ true
  pub text_is : text ≡ bindings_text bs

bindings_told : (p : List ℕ) (ps : List (List ℕ)) (bs : List Binding) → bindings_of (p ∷ ps) ≡ Some bs → AreBindingsText (join_with_byte 44 (p ∷ ps)) bs
bindings_told p [] bs h =
    let parts = parts_of (binding_of (pieces 32 p)) (Some []) bs h in
    let told = binding_told p parts.first parts.is_first in
    let none : [] ≡ parts.more = some_is _ _ parts.are_more in
    let all : bs ≡ parts.first ∷ [] = parts.all ∙ ap (λ (l : List Binding). parts.first ∷ l) (sym none) in
    record {
      formed = ap (list_all is_binding) all ∙ and_from (is_binding parts.first) true told.formed refl;
      text_is = told.text ∙ ap bindings_text (sym all);
    }
bindings_told p (q ∷ ps) bs h =
    let parts = parts_of (binding_of (pieces 32 p)) (bindings_of (q ∷ ps)) bs h in
    let told = binding_told p parts.first parts.is_first in
    let next = parts_of (binding_of (pieces 32 q)) (bindings_of ps) parts.more parts.are_more in
    let rest = bindings_told q ps parts.more parts.are_more in
    let line : List ℕ = codes " " ++ binding_text parts.first in
    record {
      formed = ap (list_all is_binding) parts.all ∙ and_from (is_binding parts.first) (list_all is_binding parts.more) told.formed rest.formed;
      text_is =
          ap (λ (l : List ℕ). l ++ 44 ∷ join_with_byte 44 (q ∷ ps)) told.text
          ∙ ap (λ (l : List ℕ). line ++ 44 ∷ l) (rest.text_is ∙ ap bindings_text next.all)
          ∙ sym (append_assoc line (codes ",") (bindings_text (next.first ∷ next.more)))
          ∙ ap bindings_text (ap (λ (l : List Binding). parts.first ∷ l) (sym next.all) ∙ sym parts.all);
    }

some_bindings : (ps : List (List ℕ)) (bs : List Binding) → 0 < length (join_with_byte 44 ps) → bindings_of ps ≡ Some bs → AreBindingsText (join_with_byte 44 ps) bs
some_bindings [] bs long h = absurd (let never : ⊥ = omega (arith, long) in never)
some_bindings (p ∷ ps) bs long h = bindings_told p ps bs h

row_told : (rest : List ℕ) (bs : List Binding) → bindings_in rest ≡ Some bs → AreBindingsText rest bs
row_told [] bs h =
    let none : [] ≡ bs = some_is _ _ h in
    record { formed = ap (list_all is_binding) (sym none); text_is = ap bindings_text none }
row_told (x ∷ xs) bs h =
    let long : 0 < length (x ∷ xs) = omega arith in
    let same = joined 44 (x ∷ xs) in
    let told = some_bindings (pieces 44 (x ∷ xs)) bs (omega (arith, long, ap length same)) (sym (in_more (x ∷ xs) long) ∙ h) in
    record { formed = told.formed; text_is = sym same ∙ told.text_is }

-- Lines.

pub record IsPrinted (line : List ℕ) (e : TraceLine) : Type 0 where
  pub formed : in_form e ≡ true
  pub text : line ≡ entry_text e

short_key : (key number : List ℕ) (o : Option ℕ) (e : TraceLine) → o ≡ number_of number → short_keyed key o ≡ Some e → IsPrinted (codes "--@ " ++ key ++ codes " " ++ number) e
short_key key number None e is h = absurd (let never : ⊥ = cc in never)
short_key key number (Some n) e is h = spec (bytes_eq key (codes "spec")) refl h
  where
    told : IsNumberText number n
    told = number_told number n (sym is)

    small : nat_lt n (2 ^ 64) ≡ true
    small = lt-ltb n (2 ^ 64) told.small

    text_with : (word : List ℕ) → key ≡ word → codes "--@ " ++ key ++ codes " " ++ number ≡ codes "--@ " ++ word ++ codes " " ++ decimal n
    text_with word same = ap (λ (l : List ℕ). codes "--@ " ++ l ++ codes " " ++ number) same ∙ ap (λ (l : List ℕ). codes "--@ " ++ word ++ codes " " ++ l) told.text

    loop : (b : Bool) → bytes_eq key (codes "loop") ≡ b → cond b (Some (entry.Loop n)) None ≡ Some e → IsPrinted (codes "--@ " ++ key ++ codes " " ++ number) e
    loop true test k = let same : entry.Loop n ≡ e = some_is _ _ k in record { formed = ap in_form (sym same) ∙ small; text = text_with (codes "loop") (same_bytes key (codes "loop") test) ∙ ap entry_text same }
    loop false test k = absurd (let never : ⊥ = cc in never)

    spec : (b : Bool) → bytes_eq key (codes "spec") ≡ b → cond b (Some (entry.Spec n)) (cond (bytes_eq key (codes "loop")) (Some (entry.Loop n)) None) ≡ Some e → IsPrinted (codes "--@ " ++ key ++ codes " " ++ number) e
    spec true test k = let same : entry.Spec n ≡ e = some_is _ _ k in record { formed = ap in_form (sym same) ∙ small; text = text_with (codes "spec") (same_bytes key (codes "spec") test) ∙ ap entry_text same }
    spec false test k = loop (bytes_eq key (codes "loop")) refl k

short_told : (ws : List (List ℕ)) (e : TraceLine) → short_entry ws ≡ Some e → IsPrinted (join_with_byte 32 ws) e
short_told [] e h = absurd (let never : ⊥ = cc in never)
short_told (x ∷ []) e h = absurd (let never : ⊥ = cc in never)
short_told (x ∷ y ∷ []) e h = absurd (let never : ⊥ = cc in never)
short_told (x ∷ y ∷ z ∷ []) e h =
    let parts = some_if (bytes_eq x (codes "--@")) (short_keyed y (number_of z)) e h in
    let told = short_key y z (number_of z) e refl parts.1 in
    record {
      formed = told.formed;
      text =
          ap (λ (l : List ℕ). l ++ 32 ∷ (y ++ 32 ∷ z)) (same_bytes x (codes "--@") parts.0)
          ∙ ap (λ (l : List ℕ). 45 ∷ 45 ∷ 64 ∷ 32 ∷ l) (sym (append_assoc y (codes " ") z))
          ∙ told.text;
    }
short_told (x ∷ y ∷ z ∷ w ∷ ws) e h = absurd (let never : ⊥ = cc in never)

long_key : (key number rest : List ℕ) (o : Option ℕ) (r : Option (List Binding)) (e : TraceLine) → o ≡ number_of number → r ≡ bindings_in rest → long_keyed key o r ≡ Some e
    → IsPrinted (codes "--@ " ++ key ++ codes " " ++ number ++ codes ":" ++ rest) e
long_key key number rest None r e is are h = absurd (let never : ⊥ = cc in never)
long_key key number rest (Some n) None e is are h = absurd (let never : ⊥ = cc in never)
long_key key number rest (Some n) (Some row) e is are h = state (bytes_eq key (codes "state")) refl h
  where
    told : IsNumberText number n
    told = number_told number n (sym is)

    told_row : AreBindingsText rest row
    told_row = row_told rest row (sym are)

    small : nat_lt n (2 ^ 64) && list_all is_binding row ≡ true
    small = and_from (nat_lt n (2 ^ 64)) (list_all is_binding row) (lt-ltb n (2 ^ 64) told.small) told_row.formed

    text_with : (word : List ℕ) → key ≡ word → codes "--@ " ++ key ++ codes " " ++ number ++ codes ":" ++ rest ≡ codes "--@ " ++ word ++ codes " " ++ decimal n ++ codes ":" ++ bindings_text row
    text_with word same =
        ap (λ (l : List ℕ). codes "--@ " ++ l ++ codes " " ++ number ++ codes ":" ++ rest) same
        ∙ ap (λ (l : List ℕ). codes "--@ " ++ word ++ codes " " ++ l ++ codes ":" ++ rest) told.text
        ∙ ap (λ (l : List ℕ). codes "--@ " ++ word ++ codes " " ++ decimal n ++ codes ":" ++ l) told_row.text_is

    input : (b : Bool) → bytes_eq key (codes "input") ≡ b → cond b (Some (entry.Input n row)) None ≡ Some e → IsPrinted (codes "--@ " ++ key ++ codes " " ++ number ++ codes ":" ++ rest) e
    input true test k = let same : entry.Input n row ≡ e = some_is _ _ k in record { formed = ap in_form (sym same) ∙ small; text = text_with (codes "input") (same_bytes key (codes "input") test) ∙ ap entry_text same }
    input false test k = absurd (let never : ⊥ = cc in never)

    state : (b : Bool) → bytes_eq key (codes "state") ≡ b → cond b (Some (entry.State n row)) (cond (bytes_eq key (codes "input")) (Some (entry.Input n row)) None) ≡ Some e
        → IsPrinted (codes "--@ " ++ key ++ codes " " ++ number ++ codes ":" ++ rest) e
    state true test k = let same : entry.State n row ≡ e = some_is _ _ k in record { formed = ap in_form (sym same) ∙ small; text = text_with (codes "state") (same_bytes key (codes "state") test) ∙ ap entry_text same }
    state false test k = input (bytes_eq key (codes "input")) refl k

long_told : (ws : List (List ℕ)) (rest : List ℕ) (e : TraceLine) → long_entry ws (bindings_in rest) ≡ Some e → IsPrinted (join_with_byte 32 ws ++ 58 ∷ rest) e
long_told [] rest e h = absurd (let never : ⊥ = cc in never)
long_told (x ∷ []) rest e h = absurd (let never : ⊥ = cc in never)
long_told (x ∷ y ∷ []) rest e h = absurd (let never : ⊥ = cc in never)
long_told (x ∷ y ∷ z ∷ []) rest e h =
    let parts = some_if (bytes_eq x (codes "--@")) (long_keyed y (number_of z) (bindings_in rest)) e h in
    let told = long_key y z rest (number_of z) (bindings_in rest) e refl refl parts.1 in
    let front : List ℕ = codes "--@ " ++ y ++ codes " " ++ z in
    record {
      formed = told.formed;
      text =
          ap (λ (l : List ℕ). (l ++ 32 ∷ (y ++ 32 ∷ z)) ++ 58 ∷ rest) (same_bytes x (codes "--@") parts.0)
          ∙ ap (λ (l : List ℕ). 45 ∷ 45 ∷ 64 ∷ 32 ∷ (l ++ 58 ∷ rest)) (sym (append_assoc y (codes " ") z))
          ∙ sym (append_assoc front (codes ":") rest)
          ∙ told.text;
    }
long_told (x ∷ y ∷ z ∷ w ∷ ws) rest e h = absurd (let never : ⊥ = cc in never)

parts_told : (parts : List (List ℕ)) (e : TraceLine) → entry_of parts ≡ Some e → IsPrinted (join_with_byte 58 parts) e
parts_told [] e h = absurd (let never : ⊥ = cc in never)
parts_told (front ∷ []) e h =
    let told = short_told (pieces 32 front) e h in
    record { formed = told.formed; text = sym (joined 32 front) ∙ told.text }
parts_told (front ∷ rest ∷ []) e h =
    let told = long_told (pieces 32 front) rest e h in
    record { formed = told.formed; text = ap (λ (l : List ℕ). l ++ 58 ∷ rest) (sym (joined 32 front)) ∙ told.text }
parts_told (front ∷ rest ∷ more ∷ parts) e h = absurd (let never : ⊥ = cc in never)

-- what a line says is what it prints
pub printed : (line : List ℕ) (e : TraceLine) → entry_read line ≡ Some e → (in_form e ≡ true) × (line ≡ entry_text e)
unfolding entry_read
printed line e h =
    let told = parts_told (pieces 58 line) e h in
    (told.formed, sym (joined 58 line) ∙ told.text)
