-- The two bits of a sum of three.
use Rattle.std.proofs.Common.{◌≡◌, ◌∙◌, ◌+◌, ◌*◌, Bool, true, false, ◌&&◌, ◌||◌, cond, ap, refl}
use Rattle.bit_graph.specs.Meaning.{edge_value, exclusive_or}
use Rattle.bit_arith.specs.Number.{bit}
use Rattle.bit_arith.proofs.Numbers.{Extends-trans}
use Rattle.bit_arith.proofs.sums.full_adder.Goals as goal

adds : (x y z : Bool) → bit (exclusive_or (exclusive_or x y) z) + 2 * bit (cond x (y || z) (y && z)) ≡ bit x + bit y + bit z
adds true true true = refl
adds true true false = refl
adds true false true = refl
adds true false false = refl
adds false true true = refl
adds false true false = refl
adds false false true = refl
adds false false false = refl

pub returns-clause-value : goal.returns-clause-value
returns-clause-value c = λ v ok.
    let before_over = c.in_ok-over.ensures.extends.kept v ok in
    let before_both = c.in_ok-both.ensures.extends.kept v before_over in
    let before_either = c.in_ok-either.ensures.extends.kept v before_both in
    let before_sum = c.in_ok-sum.ensures.extends.kept v before_either in
    let x : Bool = edge_value v c.args.x in
    let y : Bool = edge_value v c.args.y in
    let z : Bool = edge_value v c.args.carry in
    let sum = c.in_ok-sum.ensures.value v before_either ∙ ap (λ b. exclusive_or b z) (c.in_ok-half.ensures.value v before_sum) in
    let either = c.in_ok-either.ensures.value v before_both in
    let both = c.in_ok-both.ensures.value v before_over in
    let over = c.in_ok-over.ensures.value v ok ∙ (λ i. cond x (either i) (both i)) in
    (λ i. bit (sum i) + 2 * bit (over i)) ∙ adds x y z

pub returns-clause-extends : goal.returns-clause-extends
returns-clause-extends c =
    Extends-trans (Extends-trans (Extends-trans (Extends-trans c.in_ok-half.ensures.extends c.in_ok-sum.ensures.extends) c.in_ok-either.ensures.extends) c.in_ok-both.ensures.extends) c.in_ok-over.ensures.extends

pub returns-in_err-over-clause-extends : goal.returns-in_err-over-clause-extends
returns-in_err-over-clause-extends c =
    Extends-trans (Extends-trans (Extends-trans (Extends-trans c.in_ok-half.ensures.extends c.in_ok-sum.ensures.extends) c.in_ok-either.ensures.extends) c.in_ok-both.ensures.extends) c.choose.ensures.extends
