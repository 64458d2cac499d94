use Rattle.std.proofs.Common.{arith, ◌≡◌, ◌^◌, ◌∙◌, ap, length, map, sym}
use Rattle.bit_graph.specs.Meaning.{edge_value}
use Rattle.bit_arith.specs.Number.{bit, number_of, flip}
use Rattle.std.proofs.lemmas.List.{length-map}
use Rattle.bit_arith.proofs.Numbers.{number_of-flip, AllStand-flip}
use Rattle.bit_arith.proofs.sums.subtract_carry.Goals as goal

pub add_carry-requires-clause-b_stand : goal.add_carry-requires-clause-b_stand
add_carry-requires-clause-b_stand c =
    rw (c.deref.ensures.value, c.in_ok-inverted.ensures) (AllStand-flip c.args.graph.now c.args.b.now c.requires.b_stand)

pub returns-clause-value : goal.returns-clause-value
returns-clause-value c = λ v h.
    let e = c.in_ok-difference.ensures.value v h in
    let z : bit (edge_value v c.constant-one.result) ≡ 1 = ap bit (c.constant-one.ensures.value v (c.in_ok-difference.ensures.extends.kept v h)) in
    let i : number_of v c.deref.result.now ≡ number_of v (map flip c.args.b.now) = ap (number_of v) (c.deref.ensures.value ∙ c.in_ok-inverted.ensures) in
    let n = number_of-flip v c.args.b.now in
    let l : 2 ^ length c.args.a.now ≡ 2 ^ length c.args.b.now = ap (λ n. 2 ^ n) c.requires.lengths in
    omega (arith, e, z, i, n, l)

pub add_carry-requires-clause-lengths : goal.add_carry-requires-clause-lengths
add_carry-requires-clause-lengths c =
    c.requires.lengths ∙ sym (ap length (c.deref.ensures.value ∙ c.in_ok-inverted.ensures) ∙ length-map c.args.b.now _)
