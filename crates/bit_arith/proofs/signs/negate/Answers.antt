use Rattle.std.proofs.Common.{arith, ◌≡◌, ◌+◌, ◌-◌, ◌^◌, ◌%◌, ◌∙◌, ap, length}
use Rattle.std.proofs.lemmas.List.{length-map}
use Rattle.bit_arith.specs.Number.{number_of}
use Rattle.bit_arith.specs.Words.{difference}
use Rattle.bit_arith.proofs.Horner.{AllStand-constant, number_of-zeros}
use Rattle.bit_arith.proofs.signs.negate.Goals as goal

pub subtract-requires-clause-a_stand : goal.subtract-requires-clause-a_stand
subtract-requires-clause-a_stand c =
    rw (c.deref.ensures.value, c.in_ok-zeros.ensures) (AllStand-constant c.args.graph.now c.constant-zero.result c.args.a.now c.constant-zero.ensures.stands)

pub returns-clause-value : goal.returns-clause-value
returns-clause-value c = λ v h.
    let kept = c.in_ok-less.ensures.extends.kept v h in
    let a = number_of v c.args.a.now in
    let size : length c.deref.result.now ≡ length c.args.a.now = ap length (c.deref.ensures.value ∙ c.in_ok-zeros.ensures) ∙ length-map c.args.a.now _ in
    let zero : number_of v c.deref.result.now ≡ 0 =
    ap (number_of v) (c.deref.ensures.value ∙ c.in_ok-zeros.ensures) ∙ number_of-zeros v c.constant-zero.result c.args.a.now (c.constant-zero.ensures.value v kept) in
    let none : 0 + 2 ^ length c.args.a.now - a ≡ 2 ^ length c.args.a.now - a = omega arith in
    c.in_ok-less.ensures.value v h ∙ (λ i. difference (size i) (zero i) a) ∙ ap (λ m. m % 2 ^ length c.args.a.now) none

pub subtract-requires-clause-lengths : goal.subtract-requires-clause-lengths
subtract-requires-clause-lengths c = ap length (c.deref.ensures.value ∙ c.in_ok-zeros.ensures) ∙ length-map c.args.a.now _
