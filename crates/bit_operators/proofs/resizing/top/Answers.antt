-- The highest bit of some says the sign.
use Rattle.std.proofs.Common.{arith, ◌≡◌, ◌+◌, ◌-◌, ◌*◌, ◌^◌, ◌<◌, false, suc, length, take, get_or, ◌∙◌, ap, sym}
use Rattle.std.proofs.lemmas.Bool.{eqb-false}
use Rattle.std.proofs.lemmas.List.{take_all}
use Rattle.bit_graph.specs.declared.edge.Edge.{Edge}
use Rattle.bit_graph.specs.Meaning.{edge_value}
use Rattle.bit_arith.specs.Number.{bit, number_of}
use Rattle.bit_arith.specs.Words.{is_negative}
use Rattle.bit_arith.proofs.Numbers.{number-take_lt, number_more}
use Rattle.bit_arith.proofs.TwosComplement.{is_negative-top}
use Rattle.bit_operators.proofs.resizing.top.Goals as goal

pub returns-else-is_empty-clause-value : goal.returns-else-is_empty-clause-value
returns-else-is_empty-clause-value c = λ v h.
    let d : Edge = record { node = 0; negated = false } in
    let xs = c.args.bits.now in
    let k = length xs - 1 in
    let some : length xs ≡ k + 1 = omega (arith, eqb-false (length xs) 0 (sym c.if-is_empty.ensures)) in
    let size : suc k ≡ length xs = omega (arith, some) in
    let at_k : k < length xs = omega (arith, some) in
    let x = edge_value v (get_or xs k d) in
    let low : number_of v (take k xs) < 2 ^ k = number-take_lt (edge_value v) xs k (omega arith) in
    let whole : number_of v xs ≡ number_of v (take k xs) + 2 ^ k * bit x =
    ap (number_of v) (sym (take_all (k + 1) xs (omega (arith, some)))) ∙ number_more (edge_value v) xs k d at_k in
    sym (is_negative-top k (number_of v (take k xs)) x low) ∙ (λ i. is_negative (size i) (sym whole i))
