use Rattle.std.proofs.Common.{arith, ◌≡◌, ◌+◌, ◌*◌, ◌^◌, ◌≤◌, ◌%◌, ◌∷◌, ◌∙◌, ap, sym, length, take}
use Rattle.std.proofs.lemmas.List.{length-take-le}
use Rattle.std.proofs.lemmas.List.Elements.{All-cons, All-take}
use Rattle.bit_graph.specs.Meaning.{edge_value, Stands}
use Rattle.bit_arith.specs.Number.{bit, number_of, AllStand}
use Rattle.bit_arith.proofs.Numbers.{AllStand-extends}
use Rattle.bit_arith.proofs.Horner.{AllStand-constant, number_of-zeros, number_of-chosen, number-take_mod, times_bit}
use Rattle.bit_arith.proofs.products.step.Goals as goal

pub select-requires-clause-b_stand : goal.select-requires-clause-b_stand
select-requires-clause-b_stand c = rw c.requires.zeros (AllStand-constant c.args.graph.now c.args.zero c.args.a.now c.requires.zero_stands)

pub returns-clause-value : goal.returns-clause-value
returns-clause-value c = λ v h.
    let kept = c.in_ok-sum.ensures.extends.kept v h in
    let z = c.requires.zero_is v (c.in_ok-partial.ensures.extends.kept v kept) in
    let sum = c.in_ok-sum.ensures.value v h in
    let part = number_of-chosen v (edge_value v c.args.bit_edge) c.in_ok-partial.partial.items c.args.a.now c.args.zeros.now (c.in_ok-partial.ensures.value v kept) in
    let n = length c.args.a.now in
    let list : c.deref.result.now ≡ c.args.zero ∷ c.args.product.now = c.deref.ensures.value ∙ c.in_ok-doubled.ensures in
    let long : n ≤ length c.deref.result.now = omega (arith, ap length list, c.requires.lengths) in
    let bit_zero : bit (edge_value v c.args.zero) ≡ 0 = ap bit z in
    let whole : number_of v c.deref.result.now ≡ 2 * number_of v c.args.product.now = ap (number_of v) list ∙ omega (arith, bit_zero) in
    let low : number_of v (take n c.deref.result.now) ≡ (2 * number_of v c.args.product.now) % 2 ^ n = number-take_mod (edge_value v) n c.deref.result.now long ∙ ap (λ m. m % 2 ^ n) whole in
    let none : number_of v c.args.zeros.now ≡ 0 = ap (number_of v) c.requires.zeros ∙ number_of-zeros v c.args.zero c.args.a.now z in
    let high : number_of v c.deref-2.result.now ≡ number_of v c.args.a.now * bit (edge_value v c.args.bit_edge) =
    ap (number_of v) c.deref-2.ensures.value ∙ part ∙ times_bit (edge_value v c.args.bit_edge) (number_of v c.args.a.now) (number_of v c.args.zeros.now) none in
    let size : length (take n c.deref.result.now) ≡ n = length-take-le n c.deref.result.now long in
    sum ∙ (λ i. (low i + high i) % 2 ^ size i)

pub add-requires-clause-b_stand : goal.add-requires-clause-b_stand
add-requires-clause-b_stand c = rw c.deref-2.ensures.value c.in_ok-partial.ensures.stands

pub add-requires-clause-a_stand : goal.add-requires-clause-a_stand
add-requires-clause-a_stand c =
    let g = c.select.new.graph in
    let zero : Stands g c.args.zero = omega (arith, c.requires.zero_stands, c.in_ok-partial.ensures.extends.longer) in
    let product : AllStand g c.args.product.now =
    AllStand-extends c.args.graph.now g c.args.product.now c.in_ok-partial.ensures.extends c.requires.product_stand in
    All-take (Stands g) (length c.args.a.now) c.deref.result.now
    (rw (c.deref.ensures.value, c.in_ok-doubled.ensures) (All-cons (Stands g) c.args.zero c.args.product.now zero product))

pub add-requires-clause-lengths : goal.add-requires-clause-lengths
add-requires-clause-lengths c =
    let n = length c.args.a.now in
    let list : c.deref.result.now ≡ c.args.zero ∷ c.args.product.now = c.deref.ensures.value ∙ c.in_ok-doubled.ensures in
    let long : n ≤ length c.deref.result.now = omega (arith, ap length list, c.requires.lengths) in
    length-take-le n c.deref.result.now long ∙ sym (ap length c.deref-2.ensures.value ∙ c.in_ok-partial.ensures.length)
