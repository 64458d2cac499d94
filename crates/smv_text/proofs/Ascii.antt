-- The bytes of a token are ASCII.
use Rattle.std.proofs.Common.{◌≡◌, ℕ, zero, suc, ◌<◌, Bool, true, false, cond, List, [], ◌∷◌, length, drop, Option, Some, None, refl, arith}
use Rattle.std.specs.Prelude.{◌||◌, ◌==◌, nat_lt}
use Rattle.std.specs.List.{list_all}
use Rattle.std.specs.Char.{is_ascii_digit}
use Rattle.std.specs.Str.{IsAscii}
use Rattle.std.proofs.lemmas.Bool.Decides.{nat_tests}
use Rattle.smv_tree.specs.declared.token.TokenKind.{TokenKind}
use Rattle.smv_tree.specs.declared.refusal.Rule.TheVariants.{BadByte}
use Rattle.smv_text.specs.declared.lexeme.Lexeme.{Lexeme}
use Rattle.smv_text.specs.declared.lexeme.Lexeme.TheVariants.{Blank, Token, Flaw}
use Rattle.smv_text.specs.Words.{kind_of_word, symbol_of, symbols}
use Rattle.smv_text.specs.Numbers.{in_constant, is_base, base_and_rest, sign_len, is_constant}
use Rattle.smv_text.specs.Comments.{begins_line_comment, in_line, begins_comment, end_of}
use Rattle.smv_text.specs.Lexemes.{begins_word, in_word, is_white, integer_of, constant_of, number_lexeme, comment_ended, byte_lexeme, alone, or_alone, other_lexeme, shape_of}
use Rattle.smv_text.proofs.Longest.{kind_in_all, and_first, and_last}

ascii_cons : (b : ℕ) (bs : List ℕ) → b < 128 → IsAscii bs → IsAscii (b ∷ bs)
ascii_cons b bs h k zero = h
ascii_cons b bs h k (suc i) = k i

all_ascii : (p : ℕ → Bool) (bs : List ℕ) → ((b : ℕ) → p b ≡ true → b < 128) → list_all p bs ≡ true → IsAscii bs
all_ascii p [] below h = λ i. omega arith
all_ascii p (b ∷ bs) below h = ascii_cons b bs (below b (and_first (p b) (list_all p bs) h)) (all_ascii p bs below (and_last (p b) (list_all p bs) h))

begins_below : (b : ℕ) → begins_word b ≡ true → b < 128
begins_below b h = grind (arith, nat_tests)

word_below : (b : ℕ) → in_word b ≡ true → b < 128
word_below b h = grind (arith, nat_tests)

digit_below : (b : ℕ) → is_ascii_digit b ≡ true → b < 128
digit_below b h = grind (arith, nat_tests)

constant_below : (b : ℕ) → in_constant b ≡ true → b < 128
constant_below b h = grind (arith, nat_tests)

base_below : (b : ℕ) → is_base b ≡ true → b < 128
base_below b h = grind (arith, nat_tests)

sign_below : (b : ℕ) → (b == 117 || b == 115) ≡ true → b < 128
sign_below b h = grind (arith, nat_tests)

zero_below : (b : ℕ) → (b == 48) ≡ true → b < 128
zero_below b h = grind (arith, nat_tests)

test_below : (b : ℕ) → nat_lt b 128 ≡ true → b < 128
test_below b h = grind (arith, nat_tests)

base_ascii : (bs : List ℕ) → base_and_rest (λ letter. list_all in_constant) bs ≡ true → IsAscii bs
base_ascii [] h = absurd cc
base_ascii (b ∷ bs) h = ascii_cons b bs (base_below b (and_first (is_base b) (list_all in_constant bs) h)) (all_ascii in_constant bs constant_below (and_last (is_base b) (list_all in_constant bs) h))

signed_ascii : (bs : List ℕ) → base_and_rest (λ letter. list_all in_constant) (drop (sign_len bs) bs) ≡ true → IsAscii bs
signed_ascii [] h = λ i. omega arith
signed_ascii (c ∷ cs) h = go (c == 117 || c == 115) refl h
  where
    go : (s : Bool) → (c == 117 || c == 115) ≡ s → base_and_rest (λ letter. list_all in_constant) (drop (cond s 1 0) (c ∷ cs)) ≡ true → IsAscii (c ∷ cs)
    go true e k = ascii_cons c cs (sign_below c e) (base_ascii cs k)
    go false e k = base_ascii (c ∷ cs) k

constant_ascii : (bs : List ℕ) → is_constant bs ≡ true → IsAscii bs
constant_ascii [] h = absurd cc
constant_ascii (b ∷ bs) h =
    let rest = base_and_rest (λ letter. list_all in_constant) (drop (sign_len bs) bs) in
    ascii_cons b bs (zero_below b (and_first (b == 48) rest h)) (signed_ascii bs (and_last (b == 48) rest h))

symbol_ascii : (text : List ℕ) (k : TokenKind) → symbol_of text ≡ Some k → IsAscii text
unfolding symbol_of
symbol_ascii text k e = all_ascii (λ b. nat_lt b 128) text test_below (kind_in_all (λ w. list_all (λ b. nat_lt b 128) w) symbols text k e refl)

-- neither white space nor a flaw is a token
byte_none : (b : ℕ) (k : TokenKind) → ◌≡◌ {A = Option Lexeme} (Some (byte_lexeme b)) (Some (Token k)) → ⊥
byte_none b k e = go (is_white b) e
  where
    go : (w : Bool) → ◌≡◌ {A = Option Lexeme} (Some (cond w Blank (Flaw BadByte))) (Some (Token k)) → ⊥
    go true h = cc
    go false h = cc

alone_none : (text : List ℕ) (k : TokenKind) → alone text ≡ Some (Token k) → ⊥
alone_none [] k e = cc
alone_none (b ∷ []) k e = byte_none b k e
alone_none (b ∷ c ∷ bs) k e = cc

comment_none : (r : Option ℕ) (n : ℕ) (k : TokenKind) → comment_ended r n ≡ Some (Token k) → ⊥
comment_none None n k e = cc
comment_none (Some m) n k e = go (m == n) e
  where
    go : (t : Bool) → cond t (Some Blank) None ≡ Some (Token k) → ⊥
    go true h = cc
    go false h = cc

line_none : (t : Bool) (k : TokenKind) → ◌≡◌ {A = Option Lexeme} (cond t (Some Blank) None) (Some (Token k)) → ⊥
line_none true k e = cc
line_none false k e = cc

or_alone_ascii : (r : Option TokenKind) (text : List ℕ) (k : TokenKind) → symbol_of text ≡ r → or_alone r text ≡ Some (Token k) → IsAscii text
or_alone_ascii None text k e h = absurd (alone_none text k h)
or_alone_ascii (Some s) text k e h = symbol_ascii text s e

other_ascii : (text : List ℕ) (k : TokenKind) → other_lexeme text ≡ Some (Token k) → IsAscii text
other_ascii text k h = go (begins_line_comment text) (begins_comment text) h
  where
    go : (l c : Bool) → cond l (cond (list_all in_line text) (Some Blank) None) (cond c (comment_ended (end_of (drop 3 text)) (length (drop 3 text))) (or_alone (symbol_of text) text)) ≡ Some (Token k) → IsAscii text
    go true c e = absurd (line_none (list_all in_line text) k e)
    go false true e = absurd (comment_none (end_of (drop 3 text)) (length (drop 3 text)) k e)
    go false false e = or_alone_ascii (symbol_of text) text k refl e

number_ascii : (text : List ℕ) (k : TokenKind) → number_lexeme text ≡ Some (Token k) → IsAscii text
number_ascii text k h = go (list_all is_ascii_digit text) refl (is_constant text) refl h
  where
    go : (d : Bool) → list_all is_ascii_digit text ≡ d → (c : Bool) → is_constant text ≡ c → cond d (Some (integer_of text)) (cond c (Some (constant_of text)) None) ≡ Some (Token k) → IsAscii text
    go true ed c ec e = all_ascii is_ascii_digit text digit_below ed
    go false ed true ec e = constant_ascii text ec
    go false ed false ec e = absurd cc

pub token_ascii : (bs : List ℕ) (k : TokenKind) → shape_of bs ≡ Some (Token k) → IsAscii bs
token_ascii [] k h = absurd cc
token_ascii (b ∷ bs) k h = go (begins_word b) refl (is_ascii_digit b) h
  where
    word : (t : Bool) → list_all in_word bs ≡ t → begins_word b ≡ true → cond t (Some (Token (kind_of_word (b ∷ bs)))) None ≡ Some (Token k) → IsAscii (b ∷ bs)
    word true d w e = ascii_cons b bs (begins_below b w) (all_ascii in_word bs word_below d)
    word false d w e = absurd cc

    go : (w : Bool) → begins_word b ≡ w → (d : Bool) → cond w (cond (list_all in_word bs) (Some (Token (kind_of_word (b ∷ bs)))) None) (cond d (number_lexeme (b ∷ bs)) (other_lexeme (b ∷ bs))) ≡ Some (Token k) → IsAscii (b ∷ bs)
    go true w d e = word (list_all in_word bs) refl w e
    go false w true e = number_ascii (b ∷ bs) k e
    go false w false e = other_ascii (b ∷ bs) k e
