-- Two words as one.
use Rattle.std.proofs.Common.{◌≡◌, ℕ, ◌+◌, ◌*◌, ◌%◌, ◌^◌, ◌<◌, ◌≤◌, IsTrue, true, false, None, Some, pos, cond, sym, ap, ◌∙◌, arith}
use Rattle.std.proofs.Math.Nat.{mod-eq_of_lt, pow-le-pow_right}
use Rattle.std.proofs.lemmas.Nat.{mul-add-lt, pow-add, shl_whole}
use Rattle.smv_value.specs.declared.value.Value.TheVariants as value
use Rattle.smv_value.specs.Results.{is_width, is_word, word, word_of}
use Rattle.smv_value.proofs.Bits.{word_within, width_within}

high_part : (w v a : ℕ) → IsTrue (is_word w a) → w + v ≤ 128 → a * 2 ^ v % 2 ^ 128 ≡ a * 2 ^ v
high_part w v a h l = shl_whole a w v 128 (word_within w a h).1 l

below : (w v a b : ℕ) → IsTrue (is_word w a) → IsTrue (is_word v b) → a * 2 ^ v + b < 2 ^ (w + v)
below w v a b h k = omega (arith, mul-add-lt a (2 ^ v) b (2 ^ w) (word_within w a h).1 (word_within v b k).1, pow-add 2 w v)

longest : (n : ℕ) → n ≤ 128 → 2 ^ n ≤ 2 ^ 128
longest n l = let two : 0 < 2 = omega arith in pow-le-pow_right two l

pub joined_fits : (w v a b : ℕ) → IsTrue (is_word w a) → IsTrue (is_word v b) → w + v ≤ 128 → a * 2 ^ v % 2 ^ 128 + b < 2 ^ 128
joined_fits w v a b h k l = omega (arith, high_part w v a h l, below w v a b h k, longest (w + v) l)

joined_width : (w v : ℕ) → IsTrue (is_width w) → w + v ≤ 128 → is_width (w + v) ≡ true
joined_width w v h l = let some : 1 ≤ w = (width_within w h).0 in grind arith

pub joined_is : (w v a b : ℕ) → IsTrue (is_word w a) → IsTrue (is_word v b) → w + v ≤ 128 →
    Some (value.Word false (w + v) (a * 2 ^ v % 2 ^ 128 + b)) ≡ word_of false (w + v) (pos (a * 2 ^ v + b))
joined_is w v a b h k l =
    ap (λ n. Some (value.Word false (w + v) (n + b))) (high_part w v a h l)
    ∙ ap (λ n. Some (value.Word false (w + v) n)) (sym (mod-eq_of_lt (below w v a b h k)))
    ∙ sym (ap (λ t. cond t (Some (word false (w + v) (pos (a * 2 ^ v + b)))) None) (joined_width w v (word_within w a h).0 l))
