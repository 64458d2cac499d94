-- The longest lexeme at the front of some bytes.
use Rattle.std.proofs.Common.{◌≡◌, ℕ, zero, suc, ◌+◌, ◌<◌, ◌≤◌, Bool, true, false, cond, List, [], ◌∷◌, length, take, drop, Option, Some, None, refl, sym, ap, subst, ◌∙◌, arith, one-add, add-one, inl, inr, eq-eqb}
use Rattle.std.specs.Prelude.{◌&&◌, ◌||◌, ◌==◌, slice_index, nat_le}
use Rattle.std.specs.List.{prefix_len, list_all}
use Rattle.std.specs.Char.{is_ascii_digit}
use Rattle.std.specs.Str.{bytes_eq}
use Rattle.std.proofs.lemmas.Slice.Eq.{bytes_eq-Decides}
use Rattle.std.proofs.lemmas.List.{take_all, length-take}
use Rattle.std.proofs.lemmas.Bool.{eqb-true, cases_lt}
use Rattle.std.proofs.lemmas.Bool.Decides.{nat_tests}
use Rattle.longest_match.specs.Lexemes.{IsLongest}
use Rattle.smv_tree.specs.declared.token.TokenKind.{TokenKind}
use Rattle.smv_tree.specs.declared.refusal.Rule.TheVariants.{OpenComment}
use Rattle.smv_text.specs.declared.lexeme.Lexeme.{Lexeme}
use Rattle.smv_text.specs.declared.lexeme.Lexeme.TheVariants.{Blank, Token, Flaw}
use Rattle.smv_text.specs.Words.{kind_of_word, symbol_of, symbols, kind_in}
use Rattle.smv_text.specs.Numbers.{in_constant, is_base, has_base, base_and_rest, sign_len, begins_constant, is_constant, constant_len}
use Rattle.smv_text.specs.Comments.{begins_line_comment, in_line, begins_comment, ends_here, one_more, end_of}
use Rattle.smv_text.specs.Lexemes.{begins_word, in_word, integer_of, constant_of, comment_lexeme, byte_lexeme, or_alone, shape_of}

some_is : {A : Type 0} (x y : A) → ◌≡◌ {A = Option A} (Some x) (Some y) → x ≡ y
some_is x y e = cc

run_le : (p : ℕ → Bool) (bs : List ℕ) → prefix_len p bs ≤ length bs
run_le p [] = omega arith
run_le p (b ∷ bs) = go (p b) (run_le p bs)
  where
    go : (k : Bool) → prefix_len p bs ≤ length bs → cond k (1 + prefix_len p bs) 0 ≤ suc (length bs)
    go true h = omega arith
    go false h = omega arith

run_each : (p : ℕ → Bool) (bs : List ℕ) → list_all p (take (prefix_len p bs) bs) ≡ true
run_each p [] = refl
run_each p (b ∷ bs) = go (p b) refl (run_each p bs)
  where
    go : (k : Bool) → p b ≡ k → list_all p (take (prefix_len p bs) bs) ≡ true → list_all p (take (cond k (1 + prefix_len p bs) 0) (b ∷ bs)) ≡ true
    go true e ih = rw (one-add, e) ih
    go false e ih = refl

run_past : (p : ℕ → Bool) (bs : List ℕ) (m : ℕ) → prefix_len p bs < m → m ≤ length bs → list_all p (take m bs) ≡ false
run_past p bs zero lt le = absurd (omega arith)
run_past p [] (suc m) lt le = absurd (omega arith)
run_past p (b ∷ bs) (suc m) lt le = go (p b) refl (λ l k. run_past p bs m l k) lt
  where
    go : (k : Bool) → p b ≡ k → (prefix_len p bs < m → m ≤ length bs → list_all p (take m bs) ≡ false) → cond k (1 + prefix_len p bs) 0 < suc m → list_all p (take (suc m) (b ∷ bs)) ≡ false
    go true e ih l = rw e (ih (omega arith) (omega arith))
    go false e ih l = rw e refl

-- What begins with some bytes and goes on with a run is as long as the run goes.
module _ (p : ℕ → Bool) where
  abbrev IsRun : (List ℕ → Option Lexeme) → (List ℕ → Lexeme) → List ℕ → Type 0
  IsRun shape is cs = (m : ℕ) → shape (take m cs) ≡ cond (list_all p (take m cs)) (Some (is (take m cs))) None

  -- behind one byte
  run_one : (b : ℕ) (is : List ℕ → Lexeme) (cs : List ℕ) → IsRun (λ ds. shape_of (b ∷ ds)) is cs → IsLongest shape_of (b ∷ cs) (suc (prefix_len p cs)) (is (take (prefix_len p cs) cs))
  run_one b is cs h = record {
    some = omega arith;
    inside = omega (arith, run_le p cs);
    lexeme = h (prefix_len p cs) ∙ rw (run_each p cs) refl;
    longest = past;
  }
    where
      past : (m : ℕ) → suc (prefix_len p cs) < m → m ≤ suc (length cs) → shape_of (take m (b ∷ cs)) ≡ None
      past zero lt le = absurd (omega arith)
      past (suc m) lt le = h m ∙ rw (run_past p cs m (omega arith) (omega arith)) refl

  -- behind two bytes
  run_two : (a b : ℕ) (is : List ℕ → Lexeme) (cs : List ℕ) → IsRun (λ ds. shape_of (a ∷ b ∷ ds)) is cs → IsLongest shape_of (a ∷ b ∷ cs) (suc (suc (prefix_len p cs))) (is (take (prefix_len p cs) cs))
  run_two a b is cs h = record {
    some = omega arith;
    inside = omega (arith, run_le p cs);
    lexeme = h (prefix_len p cs) ∙ rw (run_each p cs) refl;
    longest = past;
  }
    where
      past : (m : ℕ) → suc (suc (prefix_len p cs)) < m → m ≤ suc (suc (length cs)) → shape_of (take m (a ∷ b ∷ cs)) ≡ None
      past zero lt le = absurd (omega arith)
      past (suc zero) lt le = absurd (omega arith)
      past (suc (suc m)) lt le = h m ∙ rw (run_past p cs m (omega arith) (omega arith)) refl

  -- behind three bytes
  run_three : (a b c : ℕ) (is : List ℕ → Lexeme) (cs : List ℕ) → IsRun (λ ds. shape_of (a ∷ b ∷ c ∷ ds)) is cs → IsLongest shape_of (a ∷ b ∷ c ∷ cs) (suc (suc (suc (prefix_len p cs)))) (is (take (prefix_len p cs) cs))
  run_three a b c is cs h = record {
    some = omega arith;
    inside = omega (arith, run_le p cs);
    lexeme = h (prefix_len p cs) ∙ rw (run_each p cs) refl;
    longest = past;
  }
    where
      past : (m : ℕ) → suc (suc (suc (prefix_len p cs))) < m → m ≤ suc (suc (suc (length cs))) → shape_of (take m (a ∷ b ∷ c ∷ cs)) ≡ None
      past zero lt le = absurd (omega arith)
      past (suc zero) lt le = absurd (omega arith)
      past (suc (suc zero)) lt le = absurd (omega arith)
      past (suc (suc (suc m))) lt le = h m ∙ rw (run_past p cs m (omega arith) (omega arith)) refl

-- the same at another length and another name of the lexeme
at : (bs : List ℕ) (n m : ℕ) (x y : Lexeme) → n ≡ m → x ≡ y → IsLongest shape_of bs m y → IsLongest shape_of bs n x
at bs n m x y en ex h = let P : ℕ → Type 0 = λ k. IsLongest shape_of bs k x in subst P (sym en) (let Q : Lexeme → Type 0 = λ l. IsLongest shape_of bs m l in subst Q (sym ex) h)

pub word_longest : (bs rest text : List ℕ) (n : ℕ) (k : TokenKind) → 0 < length bs → begins_word (slice_index bs 0) ≡ true → rest ≡ drop 1 bs → n ≡ prefix_len in_word rest + 1 → text ≡ take n bs → k ≡ kind_of_word text
    → IsLongest shape_of bs n (Token k)
word_longest [] rest text n k l h er en et ek = absurd (omega arith)
word_longest (b ∷ bs) rest text n k l h er en et ek =
    let len : n ≡ suc (prefix_len in_word bs) = en ∙ ap (λ (cs : List ℕ). prefix_len in_word cs + 1) er ∙ add-one (prefix_len in_word bs) in
    let kind : k ≡ kind_of_word (b ∷ take (prefix_len in_word bs) bs) = ek ∙ ap kind_of_word et ∙ ap (λ (m : ℕ). kind_of_word (take m (b ∷ bs))) len in
    at (b ∷ bs) n (suc (prefix_len in_word bs)) (Token k) (Token (kind_of_word (b ∷ take (prefix_len in_word bs) bs))) len (ap (λ (t : TokenKind). Token t) kind)
    (run_one in_word b (λ ds. Token (kind_of_word (b ∷ ds))) bs (λ m. rw h refl))

pub line_longest : (bs rest : List ℕ) (n : ℕ) → begins_line_comment bs ≡ true → rest ≡ drop 2 bs → n ≡ prefix_len in_line rest + 2 → IsLongest shape_of bs n Blank
line_longest [] rest n h er en = absurd cc
line_longest (a ∷ []) rest n h er en = absurd cc
line_longest (a ∷ b ∷ bs) rest n h er en =
    let ea : a ≡ 45 = grind (arith, nat_tests) in
    let eb : b ≡ 45 = grind (arith, nat_tests) in
    let word : begins_word a ≡ false = rw ea refl in
    let digit : is_ascii_digit a ≡ false = rw ea refl in
    let on : in_line a ≡ true = rw ea refl in
    let off : in_line b ≡ true = rw eb refl in
    let len : n ≡ suc (suc (prefix_len in_line bs)) = en ∙ ap (λ (cs : List ℕ). prefix_len in_line cs + 2) er ∙ omega arith in
    at (a ∷ b ∷ bs) n (suc (suc (prefix_len in_line bs))) Blank Blank len refl (run_two in_line a b (λ ds. Blank) bs (λ m. rw (word, digit, h, on, off) refl))

-- a text of digits, where no word constant begins
and_none : (a : Bool) → (a && false) ≡ false
and_none true = refl
and_none false = refl

and_front : (x y z : Bool) → (x && y) ≡ false → (x && (y && z)) ≡ false
and_front true true z e = absurd cc
and_front true false z e = refl
and_front false y z e = refl

no_constant : (b : ℕ) (bs : List ℕ) (m : ℕ) → begins_constant (b ∷ bs) ≡ false → is_constant (b ∷ take m bs) ≡ false
no_constant b [] zero h = and_none (b == 48)
no_constant b [] (suc m) h = and_none (b == 48)
no_constant b (c ∷ cs) zero h = and_none (b == 48)
no_constant b (c ∷ cs) (suc m) h = go (c == 117 || c == 115) cs m h
  where
    go : (s : Bool) (cs : List ℕ) (m : ℕ) → (b == 48 && has_base (drop (cond s 1 0) (c ∷ cs))) ≡ false → (b == 48 && base_and_rest (λ letter. list_all in_constant) (drop (cond s 1 0) (c ∷ take m cs))) ≡ false
    go false cs m e = and_front (b == 48) (is_base c) (list_all in_constant (take m cs)) e
    go true [] zero e = and_none (b == 48)
    go true [] (suc m) e = and_none (b == 48)
    go true (d ∷ ds) zero e = and_none (b == 48)
    go true (d ∷ ds) (suc m) e = and_front (b == 48) (is_base d) (list_all in_constant (take m ds)) e

pub digits_longest : (bs text : List ℕ) (n : ℕ) (x : Lexeme) → 0 < length bs → begins_word (slice_index bs 0) ≡ false → is_ascii_digit (slice_index bs 0) ≡ true → begins_constant bs ≡ false → n ≡ prefix_len is_ascii_digit bs
    → text ≡ take n bs → x ≡ integer_of text → IsLongest shape_of bs n x
digits_longest [] text n x l w d c en et ex = absurd (omega arith)
digits_longest (b ∷ bs) text n x l w d c en et ex =
    let k = prefix_len is_ascii_digit bs in
    let len : n ≡ suc k = en ∙ rw (d, one-add) refl in
    let is : x ≡ integer_of (b ∷ take k bs) = ex ∙ ap integer_of et ∙ ap (λ (m : ℕ). integer_of (take m (b ∷ bs))) len in
    at (b ∷ bs) n (suc k) x (integer_of (b ∷ take k bs)) len is (run_one is_ascii_digit b (λ ds. integer_of (b ∷ ds)) bs (λ m. rw (w, d, no_constant b bs m c) refl))

pub and_first : (x y : Bool) → (x && y) ≡ true → x ≡ true
and_first true y e = refl
and_first false y e = absurd cc

pub and_last : (x y : Bool) → (x && y) ≡ true → y ≡ true
and_last true y e = e
and_last false y e = absurd cc

base_no_digit : (c : ℕ) → is_base c ≡ true → is_ascii_digit c ≡ false
base_no_digit c h = grind (arith, nat_tests)

sign_no_digit : (c : ℕ) → (c == 117 || c == 115) ≡ true → is_ascii_digit c ≡ false
sign_no_digit c h = grind (arith, nat_tests)

pub constant_longest : (bs text : List ℕ) (n : ℕ) (x : Lexeme) → begins_constant bs ≡ true → n ≡ constant_len bs → text ≡ take n bs → x ≡ constant_of text → IsLongest shape_of bs n x
constant_longest [] text n x h en et ex = absurd cc
constant_longest (a ∷ []) text n x h en et ex = absurd (let f = and_last (a == 48) false h in cc)
constant_longest (a ∷ c ∷ cs) text n x h en et ex = go (c == 117 || c == 115) refl
  where
    zero_first : a ≡ 48
    zero_first = eqb-true a 48 (and_first (a == 48) (has_base (drop (sign_len (c ∷ cs)) (c ∷ cs))) h)

    no_word : begins_word a ≡ false
    no_word = rw zero_first refl

    digit : is_ascii_digit a ≡ true
    digit = rw zero_first refl

    is_zero : (a == 48) ≡ true
    is_zero = rw zero_first refl

    based : (s : Bool) → (c == 117 || c == 115) ≡ s → has_base (drop (cond s 1 0) (c ∷ cs)) ≡ true
    based s e = and_last (a == 48) (has_base (drop (cond s 1 0) (c ∷ cs))) (let P : Bool → Type 0 = λ t. (a == 48 && has_base (drop (cond t 1 0) (c ∷ cs))) ≡ true in subst P e h)

    plain : (c == 117 || c == 115) ≡ false → is_base c ≡ true → IsLongest shape_of (a ∷ c ∷ cs) n x
    plain e b =
        let k = prefix_len in_constant cs in
        let len : n ≡ suc (suc k) = en ∙ rw e (omega arith) in
        let is : x ≡ constant_of (a ∷ c ∷ take k cs) = ex ∙ ap constant_of et ∙ ap (λ (m : ℕ). constant_of (take m (a ∷ c ∷ cs))) len in
        at (a ∷ c ∷ cs) n (suc (suc k)) x (constant_of (a ∷ c ∷ take k cs)) len is
        (run_two in_constant a c (λ ds. constant_of (a ∷ c ∷ ds)) cs (λ m. rw (no_word, digit, base_no_digit c b, is_zero, e, b) refl))

    signed : (c == 117 || c == 115) ≡ true → (ds : List ℕ) → has_base ds ≡ true → n ≡ constant_len (a ∷ c ∷ ds) → text ≡ take n (a ∷ c ∷ ds) → IsLongest shape_of (a ∷ c ∷ ds) n x
    signed e [] b en' et' = absurd cc
    signed e (d ∷ ds) b en' et' =
        let k = prefix_len in_constant ds in
        let len : n ≡ suc (suc (suc k)) = en' ∙ rw e (omega arith) in
        let is : x ≡ constant_of (a ∷ c ∷ d ∷ take k ds) = ex ∙ ap constant_of et' ∙ ap (λ (m : ℕ). constant_of (take m (a ∷ c ∷ d ∷ ds))) len in
        at (a ∷ c ∷ d ∷ ds) n (suc (suc (suc k))) x (constant_of (a ∷ c ∷ d ∷ take k ds)) len is
        (run_three in_constant a c d (λ es. constant_of (a ∷ c ∷ d ∷ es)) ds (λ m. rw (no_word, digit, sign_no_digit c e, is_zero, e, b) refl))

    go : (s : Bool) → (c == 117 || c == 115) ≡ s → IsLongest shape_of (a ∷ c ∷ cs) n x
    go true e = signed e cs (based true e) en et
    go false e = plain e (based false e)

-- the first end of a comment is found in each front that is long enough
ends_take : (cs : List ℕ) (m : ℕ) → ends_here cs ≡ true → 3 ≤ m → ends_here (take m cs) ≡ true
ends_take [] m h le = absurd cc
ends_take (a ∷ []) m h le = absurd cc
ends_take (a ∷ b ∷ []) m h le = absurd cc
ends_take (a ∷ b ∷ c ∷ cs) zero h le = absurd (omega arith)
ends_take (a ∷ b ∷ c ∷ cs) (suc zero) h le = absurd (omega arith)
ends_take (a ∷ b ∷ c ∷ cs) (suc (suc zero)) h le = absurd (omega arith)
ends_take (a ∷ b ∷ c ∷ cs) (suc (suc (suc m))) h le = h

ends_not : (cs : List ℕ) (m : ℕ) → ends_here cs ≡ false → ends_here (take m cs) ≡ false
ends_not [] zero h = refl
ends_not [] (suc m) h = refl
ends_not (a ∷ cs) zero h = refl
ends_not (a ∷ []) (suc zero) h = refl
ends_not (a ∷ []) (suc (suc m)) h = refl
ends_not (a ∷ b ∷ cs) (suc zero) h = refl
ends_not (a ∷ b ∷ []) (suc (suc zero)) h = refl
ends_not (a ∷ b ∷ []) (suc (suc (suc m))) h = refl
ends_not (a ∷ b ∷ c ∷ cs) (suc (suc zero)) h = refl
ends_not (a ∷ b ∷ c ∷ cs) (suc (suc (suc m))) h = h

ends_long : (cs : List ℕ) → ends_here cs ≡ true → 3 ≤ length cs
ends_long [] h = absurd cc
ends_long (a ∷ []) h = absurd cc
ends_long (a ∷ b ∷ []) h = absurd cc
ends_long (a ∷ b ∷ c ∷ cs) h = omega arith

is_next : (r : Option ℕ) (n : ℕ) → one_more r ≡ Some n → (k : ℕ) × (r ≡ Some k) × (n ≡ suc k)
is_next None n h = absurd cc
is_next (Some k) n h = (k, refl, cc)

end_long : (cs : List ℕ) (n : ℕ) → end_of cs ≡ Some n → n ≤ length cs
end_long [] n h = absurd cc
end_long (c ∷ cs) n h = go (ends_here (c ∷ cs)) refl h (λ k e. end_long cs k e)
  where
    go : (b : Bool) → ends_here (c ∷ cs) ≡ b → cond b (Some 3) (one_more (end_of cs)) ≡ Some n → ((k : ℕ) → end_of cs ≡ Some k → k ≤ length cs) → n ≤ suc (length cs)
    go true e h' ih = let k : 3 ≡ n = some_is 3 n h' in omega (arith, ends_long (c ∷ cs) e)
    go false e h' ih = let x = is_next (end_of cs) n h' in omega (arith, x.2, ih x.0 x.1)

end_at : (cs : List ℕ) (n m : ℕ) → end_of cs ≡ Some n → n ≤ m → end_of (take m cs) ≡ Some n
end_at [] n m h le = absurd cc
end_at (c ∷ cs) n zero h le = absurd (late (ends_here (c ∷ cs)) h)
  where
    late : (b : Bool) → cond b (Some 3) (one_more (end_of cs)) ≡ Some n → ⊥
    late true h' = let k : 3 ≡ n = some_is 3 n h' in omega arith
    late false h' = let x = is_next (end_of cs) n h' in omega (arith, x.2)
end_at (c ∷ cs) n (suc m) h le = go (ends_here (c ∷ cs)) refl h (λ k e l. end_at cs k m e l)
  where
    go : (b : Bool) → ends_here (c ∷ cs) ≡ b → cond b (Some 3) (one_more (end_of cs)) ≡ Some n → ((k : ℕ) → end_of cs ≡ Some k → k ≤ m → end_of (take m cs) ≡ Some k) → end_of (take (suc m) (c ∷ cs)) ≡ Some n
    go true e h' ih = let k : 3 ≡ n = some_is 3 n h' in let l : 3 ≤ suc m = omega arith in rw (ends_take (c ∷ cs) (suc m) e l) h'
    go false e h' ih =
        let x = is_next (end_of cs) n h' in
        let l : x.0 ≤ m = omega (arith, x.2) in
        rw (ends_not (c ∷ cs) (suc m) e, ih x.0 x.1 l) (ap (λ (k : ℕ). Some k) (sym x.2))

same_eqb : (n : ℕ) → (n == n) ≡ true
same_eqb n = eq-eqb n n refl

less_eqb : (n m : ℕ) → n < m → (n == m) ≡ false
less_eqb n m lt = go (n == m) refl
  where
    go : (b : Bool) → (n == m) ≡ b → (n == m) ≡ false
    go true e = absurd (let k : n ≡ m = eqb-true n m e in omega arith)
    go false e = e

-- what begins with "/--" is a comment
module _ (a b c : ℕ) (h : (a == 47 && b == 45 && c == 45) ≡ true) where
  comment_at : (cs : List ℕ) → shape_of (a ∷ b ∷ c ∷ cs) ≡ comment_lexeme cs
  comment_at cs =
      let ea : a ≡ 47 = grind (arith, nat_tests) in
      let word : begins_word a ≡ false = rw ea refl in
      let digit : is_ascii_digit a ≡ false = rw ea refl in
      let line : (a == 45) ≡ false = rw ea refl in
      rw (word, digit, line, h) refl

  closed : (cs : List ℕ) (n : ℕ) → end_of cs ≡ Some n → IsLongest shape_of (a ∷ b ∷ c ∷ cs) (suc (suc (suc n))) Blank
  closed cs n e =
      let long = end_long cs n e in
      let len : length (take n cs) ≡ n = omega (arith, length-take n cs) in
      record {
        some = omega arith;
        inside = omega arith;
        lexeme = comment_at (take n cs) ∙ rw (end_at cs n n e (omega arith), len, same_eqb n) refl;
        longest = past;
      }
    where
      past : (m : ℕ) → suc (suc (suc n)) < m → m ≤ suc (suc (suc (length cs))) → shape_of (take m (a ∷ b ∷ c ∷ cs)) ≡ None
      past zero lt le = absurd (omega arith)
      past (suc zero) lt le = absurd (omega arith)
      past (suc (suc zero)) lt le = absurd (omega arith)
      past (suc (suc (suc m))) lt le =
          let len : length (take m cs) ≡ m = omega (arith, length-take m cs) in
          comment_at (take m cs) ∙ rw (end_at cs n m e (omega arith), len, less_eqb n m (omega arith)) refl

  open_end : (cs : List ℕ) → end_of cs ≡ None → IsLongest shape_of (a ∷ b ∷ c ∷ cs) (suc (suc (suc (length cs)))) (Flaw OpenComment)
  open_end cs e = record {
    some = omega arith;
    inside = omega arith;
    lexeme = comment_at (take (length cs) cs) ∙ rw (take_all (length cs) cs (omega arith), e) refl;
    longest = λ m lt le. absurd (omega arith);
  }

pub closed_longest : (bs rest : List ℕ) (n : ℕ) → begins_comment bs ≡ true → rest ≡ drop 3 bs → Some n ≡ end_of rest → IsLongest shape_of bs (n + 3) Blank
closed_longest [] rest n h er e = absurd cc
closed_longest (a ∷ []) rest n h er e = absurd cc
closed_longest (a ∷ b ∷ []) rest n h er e = absurd cc
closed_longest (a ∷ b ∷ c ∷ cs) rest n h er e = at (a ∷ b ∷ c ∷ cs) (n + 3) (suc (suc (suc n))) Blank Blank (omega arith) refl (closed a b c h cs n (ap end_of (sym er) ∙ sym e))

pub open_longest : (bs rest : List ℕ) → begins_comment bs ≡ true → rest ≡ drop 3 bs → None ≡ end_of rest → IsLongest shape_of bs (length bs) (Flaw OpenComment)
open_longest [] rest h er e = absurd cc
open_longest (a ∷ []) rest h er e = absurd cc
open_longest (a ∷ b ∷ []) rest h er e = absurd cc
open_longest (a ∷ b ∷ c ∷ cs) rest h er e = open_end a b c h cs (ap end_of (sym er) ∙ sym e)

-- what all texts of a table pass, a text with a kind in the table passes
pub kind_in_all : (test : List ℕ → Bool) (table : List (List ℕ × TokenKind)) (text : List ℕ) (k : TokenKind) → kind_in table text ≡ Some k → list_all (λ entry. test entry.0) table ≡ true → test text ≡ true
kind_in_all test [] text k e h = absurd cc
kind_in_all test (entry ∷ rest) text k e h = go (bytes_eq entry.0 text) refl e (kind_in_all test rest text k)
  where
    go : (b : Bool) → bytes_eq entry.0 text ≡ b → cond b (Some entry.1) (kind_in rest text) ≡ Some k → (kind_in rest text ≡ Some k → list_all (λ x. test x.0) rest ≡ true → test text ≡ true) → test text ≡ true
    go true s e' ih = ap test (sym ((bytes_eq-Decides entry.0 text).0 s)) ∙ and_first (test entry.0) (list_all (λ x. test x.0) rest) h
    go false s e' ih = ih e' (and_last (test entry.0) (list_all (λ x. test x.0) rest) h)

symbol_short : (text : List ℕ) (k : TokenKind) → symbol_of text ≡ Some k → length text ≤ 3
unfolding symbol_of
symbol_short text k e = let t : nat_le (length text) 3 ≡ true = kind_in_all (λ w. nat_le (length w) 3) symbols text k e refl in grind (arith, nat_tests)

symbol_long : (text : List ℕ) → 3 < length text → symbol_of text ≡ None
symbol_long text lt = go (symbol_of text) refl
  where
    go : (r : Option TokenKind) → symbol_of text ≡ r → symbol_of text ≡ None
    go None e = e
    go (Some k) e = absurd (omega (arith, symbol_short text k e))

-- no word, number or comment begins here
pub record IsPlain (bs : List ℕ) : Type 0 where
  pub no_word : begins_word (slice_index bs 0) ≡ false
  pub no_number : is_ascii_digit (slice_index bs 0) ≡ false
  pub no_line : begins_line_comment bs ≡ false
  pub no_comment : begins_comment bs ≡ false

-- the symbol that the first bytes are, where there are so many
abbrev pub symbol_front : List ℕ → ℕ → Option TokenKind
symbol_front bs n = cond (nat_le n (length bs)) (symbol_of (take n bs)) None

abbrev pub NoSymbol : List ℕ → ℕ → Type 0
NoSymbol bs n = None ≡ symbol_front bs n

line_take : (bs : List ℕ) (m : ℕ) → begins_line_comment bs ≡ false → begins_line_comment (take m bs) ≡ false
line_take [] zero h = refl
line_take [] (suc m) h = refl
line_take (a ∷ bs) zero h = refl
line_take (a ∷ []) (suc zero) h = refl
line_take (a ∷ []) (suc (suc m)) h = refl
line_take (a ∷ b ∷ bs) (suc zero) h = refl
line_take (a ∷ b ∷ bs) (suc (suc m)) h = h

comment_take : (bs : List ℕ) (m : ℕ) → begins_comment bs ≡ false → begins_comment (take m bs) ≡ false
comment_take [] zero h = refl
comment_take [] (suc m) h = refl
comment_take (a ∷ bs) zero h = refl
comment_take (a ∷ []) (suc zero) h = refl
comment_take (a ∷ []) (suc (suc m)) h = refl
comment_take (a ∷ b ∷ bs) (suc zero) h = refl
comment_take (a ∷ b ∷ []) (suc (suc zero)) h = refl
comment_take (a ∷ b ∷ []) (suc (suc (suc m))) h = refl
comment_take (a ∷ b ∷ c ∷ bs) (suc (suc zero)) h = refl
comment_take (a ∷ b ∷ c ∷ bs) (suc (suc (suc m))) h = h

module _ (b : ℕ) (bs : List ℕ) (plain : IsPlain (b ∷ bs)) where
  shape_at : (m : ℕ) → shape_of (b ∷ take m bs) ≡ or_alone (symbol_of (b ∷ take m bs)) (b ∷ take m bs)
  shape_at m = rw (plain.no_word, plain.no_number, line_take (b ∷ bs) (suc m) plain.no_line, comment_take (b ∷ bs) (suc m) plain.no_comment) refl

  found : (n : ℕ) (k : TokenKind) → symbol_of (b ∷ take n bs) ≡ Some k → shape_of (b ∷ take n bs) ≡ Some (Token k)
  found n k e = shape_at n ∙ rw e refl

  -- no symbol of more bytes
  none_past : (n m : ℕ) → ((j : ℕ) → n < j → j ≤ 3 → NoSymbol (b ∷ bs) j) → n < m → m ≤ suc (length bs) → 1 < m → shape_of (take m (b ∷ bs)) ≡ None
  none_past n zero none lt le two = absurd (omega arith)
  none_past n (suc zero) none lt le two = absurd (omega arith)
  none_past n (suc (suc m)) none lt le two = shape_at (suc m) ∙ ap (λ (r : Option TokenKind). or_alone r (b ∷ take (suc m) bs)) not_one ∙ longer bs (omega arith)
    where
      longer : (cs : List ℕ) → 0 < length cs → or_alone None (b ∷ take (suc m) cs) ≡ None
      longer [] l = absurd (omega arith)
      longer (c ∷ cs) l = refl

      size : length (b ∷ take (suc m) bs) ≡ suc (suc m)
      size = omega (arith, length-take (suc m) bs)

      not_one : symbol_of (b ∷ take (suc m) bs) ≡ None
      not_one = elim (cases_lt 3 (suc (suc m))) [
        | inl more ↦ symbol_long (b ∷ take (suc m) bs) (omega (arith, size))
        | inr few ↦
            let e = none (suc (suc m)) lt few in
            let inside : nat_le (suc (suc m)) (suc (length bs)) ≡ true = grind (arith, nat_tests) in
            sym (rw inside at e)
      ]

front_is : (t : Bool) (r : Option TokenKind) (k : TokenKind) → Some k ≡ cond t r None → (t ≡ true) × (r ≡ Some k)
front_is true r k e = (refl, sym e)
front_is false r k e = absurd cc

pub symbol_longest : (bs : List ℕ) (n : ℕ) (k : TokenKind) → IsPlain bs → 0 < n → Some k ≡ symbol_front bs n → ((m : ℕ) → n < m → m ≤ 3 → NoSymbol bs m) → IsLongest shape_of bs n (Token k)
symbol_longest [] zero k plain l e none = absurd (omega arith)
symbol_longest [] (suc n) k plain l e none = absurd (let f = (front_is (nat_le (suc n) 0) (symbol_of []) k e).0 in grind (arith, nat_tests))
symbol_longest (b ∷ bs) zero k plain l e none = absurd (omega arith)
symbol_longest (b ∷ bs) (suc n) k plain l e none =
    let f = front_is (nat_le (suc n) (suc (length bs))) (symbol_of (b ∷ take n bs)) k e in
    let in_text : nat_le (suc n) (suc (length bs)) ≡ true = f.0 in
    record { some = l; inside = grind (arith, nat_tests); lexeme = found b bs plain n k f.1; longest = λ m lt le. none_past b bs plain (suc n) m none lt le (omega arith) }

pub byte_longest : (bs : List ℕ) (x : Lexeme) → 0 < length bs → IsPlain bs → x ≡ byte_lexeme (slice_index bs 0) → ((m : ℕ) → 0 < m → m ≤ 3 → NoSymbol bs m) → IsLongest shape_of bs 1 x
byte_longest [] x l plain ex none = absurd (omega arith)
byte_longest (b ∷ bs) x l plain ex none =
    let one : nat_le 1 (suc (length bs)) ≡ true = grind (arith, nat_tests) in
    let first : symbol_of (b ∷ []) ≡ None = sym (rw one at (none 1 (omega arith) (omega arith))) in
    record {
      some = omega arith;
      inside = omega arith;
      lexeme = shape_at b bs plain 0 ∙ ap (λ (r : Option TokenKind). or_alone r (b ∷ [])) first ∙ ap (λ (y : Lexeme). Some y) (sym ex);
      longest = λ m lt le. none_past b bs plain 1 m (λ j h k. none j (omega arith) k) lt le lt;
    }

-- a number from 0 to 3
pub up_to_three : (P : ℕ → Type 0) → P 0 → P 1 → P 2 → P 3 → (m : ℕ) → m ≤ 3 → P m
up_to_three P a b c d zero h = a
up_to_three P a b c d (suc zero) h = b
up_to_three P a b c d (suc (suc zero)) h = c
up_to_three P a b c d (suc (suc (suc zero))) h = d
up_to_three P a b c d (suc (suc (suc (suc m)))) h = absurd (omega arith)

-- a symbol that is not there
pub no_symbol : (bs : List ℕ) (n : ℕ) (r : Option TokenKind) → r ≡ symbol_front bs n → ((k : TokenKind) → r ≡ Some k → ⊥) → NoSymbol bs n
no_symbol bs n None e h = e
no_symbol bs n (Some k) e h = absurd (h k refl)
