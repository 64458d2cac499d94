-- Escaped characters.
use Rattle.std.proofs.Common.{◌≡◌, ℕ, ◌+◌, ◌≤◌, ◌/◌, Bool, true, false, not, cond, List, [], ◌∷◌, refl, ap, ◌∙◌, arith}
use lib.Dec.{eqb, ltb}
use lib.Utf8.{encode, next}
use Rattle.std.specs.Prelude.{◌||◌}
use Rattle.std.specs.List.{list_all}
use Rattle.std.proofs.lemmas.Bool.{and_from}
use Rattle.std.proofs.lemmas.Bool.Decides.{nat_tests}
use Rattle.std.proofs.lemmas.List.Folds.{list_all-append}
use Rattle.trace_view.specs.Svg.{escaped_char, escaped_chars, is_plain}

high_plain : (b : ℕ) → 128 ≤ b → is_plain b ≡ true
high_plain b h = grind (arith, nat_tests)

either_plain : (b : Bool) (xs ys : List ℕ) → (b ≡ true → list_all is_plain xs ≡ true) → (b ≡ false → list_all is_plain ys ≡ true) → list_all is_plain (cond b xs ys) ≡ true
either_plain true xs ys h k = h refl
either_plain false xs ys h k = k refl

-- one byte more of a character beyond ASCII
behind : (b : ℕ) (bs : List ℕ) → 128 ≤ b → list_all is_plain bs ≡ true → list_all is_plain (b ∷ bs) ≡ true
behind b bs high h = and_from (is_plain b) (list_all is_plain bs) (high_plain b high) h

encode_plain : (c : ℕ) → eqb c 60 ≡ false → eqb c 62 ≡ false → list_all is_plain (encode c) ≡ true
unfolding encode
encode_plain c h k =
    let low : is_plain c ≡ true = ap (λ b. not (b || eqb c 62)) h ∙ ap (λ b. not (false || b)) k in
    let next_high : (bits : ℕ) → 128 ≤ next bits = λ bits. omega arith in
    let last = behind (next c) [] (next_high c) refl in
    let two = behind (next (c / 64)) (next c ∷ []) (next_high (c / 64)) last in
    let three = behind (next (c / 4096)) (next (c / 64) ∷ next c ∷ []) (next_high (c / 4096)) two in
    either_plain (ltb c 128) _ _ (λ _. and_from (is_plain c) true low refl) (λ _.
    either_plain (ltb c 2048) _ _ (λ _. behind (192 + c / 64) (next c ∷ []) (omega arith) last) (λ _.
    either_plain (ltb c 65536) _ _ (λ _. behind (224 + c / 4096) (next (c / 64) ∷ next c ∷ []) (omega arith) two) (λ _.
    behind (240 + c / 262144) (next (c / 4096) ∷ next (c / 64) ∷ next c ∷ []) (omega arith) three)))

char_plain : (c : ℕ) → list_all is_plain (escaped_char c) ≡ true
char_plain c =
    either_plain (eqb c 38) _ _ (λ _. refl) (λ _. either_plain (eqb c 60) _ _ (λ _. refl) (λ h. either_plain (eqb c 62) _ _ (λ _. refl) (λ k. encode_plain c h k)))

pub chars_plain : (cs : List ℕ) → list_all is_plain (escaped_chars cs) ≡ true
chars_plain [] = refl
chars_plain (c ∷ cs) = list_all-append is_plain (escaped_char c) (escaped_chars cs) ∙ and_from (list_all is_plain (escaped_char c)) (list_all is_plain (escaped_chars cs)) (char_plain c) (chars_plain cs)
