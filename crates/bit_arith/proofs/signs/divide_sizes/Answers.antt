use Rattle.std.proofs.Common.{◌≡◌, ◌∙◌, ap, length}
use Rattle.std.proofs.lemmas.Result.{IfOk-weaker}
use Rattle.bit_graph.specs.Meaning.{edge_value, exclusive_or}
use Rattle.bit_arith.specs.Number.{number_of}
use Rattle.bit_arith.proofs.TwosComplement.{size}
use Rattle.bit_arith.proofs.signs.divide_sizes.Goals as goal

pub with_signs-requires-clause-size_stand : goal.with_signs-requires-clause-size_stand
with_signs-requires-clause-size_stand c = rw c.deref.ensures.value c.in_ok-size.ensures.stands.0

pub with_signs-requires-clause-rest_stand : goal.with_signs-requires-clause-rest_stand
with_signs-requires-clause-rest_stand c = rw c.deref-2.ensures.value c.in_ok-size.ensures.stands.1

pub returns-clause-length : goal.returns-clause-length
returns-clause-length c =
    let long : length c.deref.result.now ≡ length c.args.size_a.now = ap length c.deref.ensures.value ∙ c.in_ok-size.ensures.length.0 in
    let long2 : length c.deref-2.result.now ≡ length c.args.size_a.now = ap length c.deref-2.ensures.value ∙ c.in_ok-size.ensures.length.1 in
    IfOk-weaker c.with_signs.result _ _ (λ r e. (e.0 ∙ long, e.1 ∙ long2)) c.with_signs.ensures.length

pub returns-clause-quotient : goal.returns-clause-quotient
returns-clause-quotient c =
    let long : length c.deref.result.now ≡ length c.args.size_a.now = ap length c.deref.ensures.value ∙ c.in_ok-size.ensures.length.0 in
    IfOk-weaker c.with_signs.result _ _
    (λ r f v h.
    let before = c.with_signs.ensures.extends.kept v h in
    let q = ap (number_of v) c.deref.ensures.value ∙ c.in_ok-size.ensures.quotient v before in
    f v h ∙ (λ i. size (exclusive_or (edge_value v c.args.sign_a) (edge_value v c.args.sign_b)) (long i) (q i)))
    c.with_signs.ensures.quotient

pub returns-clause-remainder : goal.returns-clause-remainder
returns-clause-remainder c =
    let long : length c.deref-2.result.now ≡ length c.args.size_a.now = ap length c.deref-2.ensures.value ∙ c.in_ok-size.ensures.length.1 in
    IfOk-weaker c.with_signs.result _ _
    (λ r f v h.
    let before = c.with_signs.ensures.extends.kept v h in
    let m = ap (number_of v) c.deref-2.ensures.value ∙ c.in_ok-size.ensures.remainder v before in
    f v h ∙ (λ i. size (edge_value v c.args.sign_a) (long i) (m i)))
    c.with_signs.ensures.remainder
