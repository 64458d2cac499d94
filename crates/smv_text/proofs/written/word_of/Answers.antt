use Rattle.std.proofs.Common.{◌≡◌, ◌≤◌, ℕ, Bool, true, false, sym, ◌∙◌, refl, arith}
use Rattle.std.specs.Prelude.{◌&&◌, nat_le}
use Rattle.std.proofs.lemmas.Bool.Decides.{nat_tests}
use Rattle.smv_text.specs.Numbers.{fits_width}
use Rattle.smv_text.proofs.Counting.{too_wide}
use Rattle.smv_text.proofs.written.word_of.Goals as goal

-- what fits has at most 128 bits
second : (a b c : Bool) → true ≡ ((a && b) && c) → b ≡ true
second true true c e = refl
second true false c e = absurd cc
second false b c e = absurd cc

within : (n : ℕ) → nat_le n 128 ≡ true → n ≤ 128
within n e = grind (arith, nat_tests)

pub returns-in-None : goal.returns-in-None
returns-in-None c =
    let fits : true ≡ fits_width c.args.letter c.args.bits c.args.digits.now = c.if-not-fits_width.ensures in
    let few : c.args.bits ≤ 128 = within c.args.bits (second _ _ _ fits) in
    let wide : false ≡ fits_width c.args.letter c.args.bits c.args.digits.now = too_wide c.args.letter c.base_of.result c.args.bits c.args.digits.now c.base_of.ensures.value few c.in-None.ensures in
    absurd (let e = fits ∙ sym wide in cc)
