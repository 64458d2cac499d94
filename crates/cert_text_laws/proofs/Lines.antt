-- Words, and lines of words.
use Rattle.std.proofs.Common.{◌≡◌, ℕ, ◌+◌, ◌-◌, ◌<◌, ◌≤◌, inl, inr, Bool, true, false, cond, not, List, [], ◌∷◌, ◌++◌, length, Option, None, Some, codes, refl, sym, subst, ap, ◌∙◌, arith, eqb, leb, ltb, append_assoc}
use Rattle.std.specs.Char.{is_ascii_digit}
use Rattle.std.specs.Fmt.{decimal}
use Rattle.std.specs.List.{All, list_all}
use Rattle.std.proofs.lemmas.Bool.{and_from, and_parts, cases_lt, cond-false, cond-true, leb-true, le-leb, le-ltb, lt-leb, lt-ltb, ne_eqb, not-true, not_from_false}
use Rattle.std.proofs.lemmas.List.Elements.{All-cons, All-head, All-nil, All-tail}
use Rattle.std.proofs.lemmas.List.Folds.{list_all-append}
use Rattle.std.proofs.lemmas.List.Splits.{slice_split_at, slice_split_none}
use Rattle.clause_core.specs.declared.literal.Lit.{Lit}
use Rattle.clause_core.specs.Literals.{Within}
use Rattle.cert_core.specs.declared.form.TheConstants.{MAX_VARS}
use Rattle.cert_text.specs.declared.token.Token.{Token}
use Rattle.cert_text.specs.declared.token.Token.TheVariants.{Number, Past, Negative}
use Rattle.cert_text.specs.Tokens.{and_then, ceiling, number_token, either, greatest, keyword_of, negative_of, number_or, signed_or, token_of, tokens_of, words_of}
use Rattle.cert_text.specs.Lines.{Literals, hint_of, hints_of, is_zero, literal_before, literal_of, literals_of}
use Rattle.cert_text.specs.Reading.{lines_of}
use Rattle.cert_text.specs.Printed.{line_end, hints_text, literals_text, sign_text}
use Rattle.cert_text_laws.proofs.Numbers.{decimal_digits, number_read}

-- Texts that lack a byte.

abbrev pub lacks : ℕ → List ℕ → Bool
lacks c xs = list_all (λ b. not (eqb b c)) xs

lacks_all : (c : ℕ) (xs : List ℕ) → lacks c xs ≡ true → All (λ b. eqb b c ≡ false) xs
lacks_all c [] h = All-nil (λ b. eqb b c ≡ false)
lacks_all c (x ∷ xs) h =
    let both = and_parts (not (eqb x c)) (lacks c xs) h in
    All-cons (λ b. eqb b c ≡ false) x xs (not-true (eqb x c) both.0) (lacks_all c xs both.1)

pub lacks_append : (c : ℕ) (xs ys : List ℕ) → lacks c xs ≡ true → lacks c ys ≡ true → lacks c (xs ++ ys) ≡ true
lacks_append c xs ys h k = list_all-append (λ b. not (eqb b c)) xs ys ∙ and_from (lacks c xs) (lacks c ys) h k

digits_lack : (c : ℕ) (ds : List ℕ) → c < 48 → list_all is_ascii_digit ds ≡ true → lacks c ds ≡ true
digits_lack c [] h k = refl
digits_lack c (d ∷ ds) h k =
    let both = and_parts (is_ascii_digit d) (list_all is_ascii_digit ds) k in
    let high = leb-true 48 d (and_parts (leb 48 d) (leb d 57) both.0).0 in
    and_from (not (eqb d c)) (lacks c ds) (not_from_false (eqb d c) (ne_eqb d c (λ e. let never : ⊥ = omega (arith, h, high, e) in never))) (digits_lack c ds h both.1)

-- a word that is read as this token
pub record IsWord (w : List ℕ) (t : Token) : Type 0 where
  pub token : token_of w ≡ Some t
  pub no_space : lacks 32 w ≡ true
  pub no_feed : lacks 10 w ≡ true

-- a line whose words are read as these tokens
pub record Says (text : List ℕ) (ts : List Token) : Type 0 where
  pub tokens : tokens_of (words_of text) ≡ Some ts
  pub no_feed : lacks 10 text ≡ true

pub last_word : (w : List ℕ) (t : Token) → IsWord w t → Says w (t ∷ [])
last_word w t h = record {
  tokens = ap tokens_of (slice_split_none (λ b. eqb b 32) w (lacks_all 32 w h.no_space)) ∙ ap (λ (o : Option Token). and_then o (Some [])) h.token;
  no_feed = h.no_feed;
}

pub next_word : (w rest : List ℕ) (t : Token) (ts : List Token) → IsWord w t → Says rest ts → Says (w ++ 32 ∷ rest) (t ∷ ts)
next_word w rest t ts h s = record {
  tokens =
      ap tokens_of (slice_split_at (λ b. eqb b 32) w 32 rest (lacks_all 32 w h.no_space) refl)
      ∙ ap (λ (o : Option Token). and_then o (tokens_of (words_of rest))) h.token
      ∙ ap (λ (o : Option (List Token)). and_then (Some t) o) s.tokens;
  no_feed = lacks_append 10 w (32 ∷ rest) h.no_feed s.no_feed;
}

-- the same with the space as a text of its own
pub spaced_word : (w rest : List ℕ) (t : Token) (ts : List Token) → IsWord w t → Says rest ts → Says (w ++ codes " " ++ rest) (t ∷ ts)
spaced_word w rest t ts h s = subst (λ (l : List ℕ). Says l (t ∷ ts)) (sym (append_assoc w (codes " ") rest)) (next_word w rest t ts h s)

-- Numbers.

counted_word : (n : ℕ) → n ≤ ceiling → IsWord (decimal n) (number_token n)
counted_word n h = record {
  token = ap (λ (o : Option ℕ). number_or o (signed_or (decimal n) (keyword_of (decimal n)))) (number_read n h);
  no_space = digits_lack 32 (decimal n) (omega arith) (decimal_digits n h);
  no_feed = digits_lack 10 (decimal n) (omega arith) (decimal_digits n h);
}

pub number_word : (n : ℕ) → n ≤ greatest → IsWord (decimal n) (Number n)
number_word n h =
    subst (λ (t : Token). IsWord (decimal n) t) (cond-true (leb n greatest) (Number n) Past (le-leb n greatest h))
    (counted_word n (omega (arith, h)))

past_word : (n : ℕ) → greatest < n → n ≤ ceiling → IsWord (decimal n) Past
past_word n past h =
    subst (λ (t : Token). IsWord (decimal n) t) (cond-false (leb n greatest) (Number n) Past (lt-leb n greatest past))
    (counted_word n h)

pub zero_word : IsWord (codes "0") (Number 0)
zero_word = record { token = refl; no_space = refl; no_feed = refl }

negative_word : (n : ℕ) → 0 < n → n ≤ greatest → IsWord (45 ∷ decimal n) (Negative n)
negative_word n some h =
    let few : n ≤ ceiling = omega (arith, h) in
    record {
      token =
          ap (λ (o : Option ℕ). either (negative_of o) (keyword_of (45 ∷ decimal n))) (number_read n few)
          ∙ ap (λ (o : Option Token). either o (keyword_of (45 ∷ decimal n)))
          (cond-false (eqb n 0) None (cond (leb n greatest) (Some (Negative n)) None) (ne_eqb n 0 (λ e. let never : ⊥ = omega (arith, some, e) in never))
          ∙ cond-true (leb n greatest) (Some (Negative n)) None (le-leb n greatest h));
      no_space = digits_lack 32 (decimal n) (omega arith) (decimal_digits n few);
      no_feed = digits_lack 10 (decimal n) (omega arith) (decimal_digits n few);
    }

-- Literals.

abbrev signed : Bool → ℕ → Token
signed true n = Number n
signed false n = Negative n

abbrev pub tokens_of_literals : List Lit → List Token
tokens_of_literals [] = Number 0 ∷ []
tokens_of_literals (l ∷ ls) = signed l.positive (l.var + 1) ∷ tokens_of_literals ls

small : (v : ℕ) → v < MAX_VARS → v + 1 ≤ greatest
small v h = omega (arith, h)

literal_word : (positive : Bool) (v : ℕ) → v < MAX_VARS → IsWord (sign_text positive ++ decimal (v + 1)) (signed positive (v + 1))
literal_word true v h = number_word (v + 1) (small v h)
literal_word false v h = negative_word (v + 1) (omega arith) (small v h)

pub literals_said : (ls : List Lit) → Within MAX_VARS ls → Says (literals_text ls) (tokens_of_literals ls)
literals_said [] h = last_word (codes "0") (Number 0) zero_word
literals_said (l ∷ ls) h =
    let within : l.var < MAX_VARS = All-head (λ (m : Lit). m.var < MAX_VARS) l ls h in
    spaced_word (sign_text l.positive ++ decimal (l.var + 1)) (literals_text ls) (signed l.positive (l.var + 1)) (tokens_of_literals ls)
    (literal_word l.positive l.var within)
    (literals_said ls (All-tail (λ (m : Lit). m.var < MAX_VARS) l ls h))

pub literals_said_before : (ls : List Lit) (rest : List ℕ) (ts : List Token) → Within MAX_VARS ls → Says rest ts → Says (literals_text ls ++ (codes " " ++ rest)) (tokens_of_literals ls ++ ts)
literals_said_before [] rest ts h s = next_word (codes "0") rest (Number 0) ts zero_word s
literals_said_before (l ∷ ls) rest ts h s =
    let within : l.var < MAX_VARS = All-head (λ (m : Lit). m.var < MAX_VARS) l ls h in
    let word = sign_text l.positive ++ decimal (l.var + 1) in
    subst (λ (t : List ℕ). Says t (tokens_of_literals (l ∷ ls) ++ ts)) (sym (append_assoc (word ++ codes " ") (literals_text ls) (codes " " ++ rest)))
    (spaced_word word (literals_text ls ++ (codes " " ++ rest)) (signed l.positive (l.var + 1)) (tokens_of_literals ls ++ ts)
    (literal_word l.positive l.var within)
    (literals_said_before ls rest ts (All-tail (λ (m : Lit). m.var < MAX_VARS) l ls h) s))

one_literal : (positive : Bool) (v : ℕ) → v < MAX_VARS → literal_of (signed positive (v + 1)) ≡ Some record { var = v; positive = positive }
one_literal true v h =
    let back : v + 1 - 1 ≡ v = omega arith in
    cond-true (leb (v + 1) MAX_VARS) (Some record { var = v + 1 - 1; positive = true }) None (le-leb (v + 1) MAX_VARS (omega (arith, h))) ∙ ap (λ (w : ℕ). Some record { var = w; positive = true }) back
one_literal false v h =
    let back : v + 1 - 1 ≡ v = omega arith in
    cond-true (leb (v + 1) MAX_VARS) (Some record { var = v + 1 - 1; positive = false }) None (le-leb (v + 1) MAX_VARS (omega (arith, h))) ∙ ap (λ (w : ℕ). Some record { var = w; positive = false }) back

not_end : (positive : Bool) (v : ℕ) → is_zero (signed positive (v + 1)) ≡ false
not_end true v = ne_eqb (v + 1) 0 (λ e. let never : ⊥ = omega (arith, e) in never)
not_end false v = refl

-- literals are read back, whatever stands behind them
pub literals_read : (ls : List Lit) (ts : List Token) → Within MAX_VARS ls → literals_of (tokens_of_literals ls ++ ts) ≡ Some record { lits = ls; rest = ts }
literals_read [] ts h = refl
literals_read (l ∷ ls) ts h =
    let within : l.var < MAX_VARS = All-head (λ (m : Lit). m.var < MAX_VARS) l ls h in
    let t = signed l.positive (l.var + 1) in
    let rest = tokens_of_literals ls ++ ts in
    cond-false (is_zero t) (Some record { lits = []; rest = rest }) (literal_before (literal_of t) (literals_of rest)) (not_end l.positive l.var)
    ∙ ap (λ (o : Option Lit). literal_before o (literals_of rest)) (one_literal l.positive l.var within)
    ∙ ap (λ (o : Option Literals). literal_before (Some l) o) (literals_read ls ts (All-tail (λ (m : Lit). m.var < MAX_VARS) l ls h))

-- Hints.

-- a hint counts from 1 in the text, so that the greatest one is past 64 bits there
abbrev hint_token : ℕ → Token
hint_token h = cond (ltb h greatest) (Number (h + 1)) Past

-- a hint of 64 bits as a token: its word, and what is read of it
record IsHint (h : ℕ) (t : Token) : Type 0 where
  word : IsWord (decimal (h + 1)) t
  not_end : is_zero t ≡ false
  read : hint_of t ≡ Some h

numbered_hint : (h : ℕ) → h < greatest → IsHint h (Number (h + 1))
numbered_hint h few = record {
  word = number_word (h + 1) (omega (arith, few));
  not_end = ne_eqb (h + 1) 0 (λ e. let never : ⊥ = omega (arith, e) in never);
  read = ap (λ (n : ℕ). Some n) (let back : h + 1 - 1 ≡ h = omega arith in back);
}

greatest_hint : (h : ℕ) → h ≡ greatest → IsHint h Past
greatest_hint h is = record {
  word = past_word (h + 1) (omega (arith, is)) (omega (arith, is));
  not_end = refl;
  read = ap (λ (n : ℕ). Some n) (sym is);
}

few_token : (h : ℕ) → h < greatest → Number (h + 1) ≡ hint_token h
few_token h few = sym (cond-true (ltb h greatest) (Number (h + 1)) Past (lt-ltb h greatest few))

many_token : (h : ℕ) → greatest ≤ h → Past ≡ hint_token h
many_token h many = sym (cond-false (ltb h greatest) (Number (h + 1)) Past (le-ltb h greatest many))

is_hint : (h : ℕ) → h ≤ greatest → IsHint h (hint_token h)
is_hint h within = elim (cases_lt h greatest) [
  | inl few ↦ subst (λ (t : Token). IsHint h t) (few_token h few) (numbered_hint h few)
  | inr many ↦ subst (λ (t : Token). IsHint h t) (many_token h many) (greatest_hint h (omega (arith, within, many)))
]

abbrev pub tokens_of_hints : List ℕ → List Token
tokens_of_hints [] = Number 0 ∷ []
tokens_of_hints (h ∷ hs) = hint_token h ∷ tokens_of_hints hs

pub hints_said : (hs : List ℕ) → All (λ h. h ≤ greatest) hs → Says (hints_text hs) (tokens_of_hints hs)
hints_said [] all = last_word (codes "0") (Number 0) zero_word
hints_said (h ∷ hs) all =
    let hint = is_hint h (All-head (λ k. k ≤ greatest) h hs all) in
    spaced_word (decimal (h + 1)) (hints_text hs) (hint_token h) (tokens_of_hints hs) hint.word (hints_said hs (All-tail (λ k. k ≤ greatest) h hs all))

pub hints_read : (hs : List ℕ) → All (λ h. h ≤ greatest) hs → hints_of (tokens_of_hints hs) ≡ Some hs
hints_read [] all = refl
hints_read (h ∷ hs) all =
    let hint = is_hint h (All-head (λ k. k ≤ greatest) h hs all) in
    let t = hint_token h in
    cond-false (is_zero t) (cond (eqb (length (tokens_of_hints hs)) 0) (Some []) None) (and_then (hint_of t) (hints_of (tokens_of_hints hs))) hint.not_end
    ∙ ap (λ (o : Option ℕ). and_then o (hints_of (tokens_of_hints hs))) hint.read
    ∙ ap (λ (o : Option (List ℕ)). and_then (Some h) o) (hints_read hs (All-tail (λ k. k ≤ greatest) h hs all))

-- A line in front of others.

pub line_cut : (text behind : List ℕ) → lacks 10 text ≡ true → lines_of (text ++ line_end ++ behind) ≡ text ∷ lines_of behind
line_cut text behind h = ap lines_of (append_assoc text line_end behind) ∙ slice_split_at (λ b. eqb b 10) text 10 behind (lacks_all 10 text h) refl
