use Rattle.std.proofs.Common.{arith, ◌≡◌, ◌+◌, ◌-◌, ◌*◌, ◌^◌, ◌<◌, ℕ, Bool, true, false, List, suc, length, take, get_or, ◌∙◌, ap, sym, eqb, ◌&&◌, cond}
use Rattle.std.proofs.lemmas.List.{take_all}
use Rattle.bit_graph.specs.declared.edge.Edge.{Edge}
use Rattle.bit_graph.specs.Meaning.{edge_value}
use Rattle.bit_arith.specs.Number.{bit, number_of}
use Rattle.bit_arith.specs.Words.{is_less}
use Rattle.bit_arith.proofs.Numbers.{number-take_lt, number_more, eq_step}
use Rattle.bit_arith.proofs.TwosComplement.{signed_less, same_eq}
use Rattle.bit_arith.proofs.choices.compare_signed.Goals as goal

-- the number of a list by its last edge
by_last : (v : ℕ → Bool) (xs : List Edge) (k : ℕ) (d : Edge) → length xs ≡ k + 1 →
    number_of v xs ≡ number_of v (take k xs) + 2 ^ k * bit (edge_value v (get_or xs k d))
by_last v xs k d e =
    let at_k : k < length xs = omega arith in
    ap (number_of v) (sym (take_all (k + 1) xs (omega arith))) ∙ number_more (edge_value v) xs k d at_k

pub returns-clause-equal : goal.returns-clause-equal
returns-clause-equal c = λ v h.
    let d : Edge = record { node = 0; negated = false } in
    let k = length c.args.a.now - 1 in
    let kept = c.in_ok-same.ensures.extends.kept v h in
    let in_a : length c.args.a.now ≡ k + 1 = omega (arith, c.requires.some) in
    let in_b : length c.args.b.now ≡ k + 1 = omega (arith, c.requires.some, c.requires.lengths) in
    let low_a : number_of v (take k c.args.a.now) < 2 ^ k = number-take_lt (edge_value v) c.args.a.now k (omega arith) in
    let low_b : number_of v (take k c.args.b.now) < 2 ^ k = number-take_lt (edge_value v) c.args.b.now k (omega arith) in
    let x = edge_value v (get_or c.args.a.now k d) in
    let y = edge_value v (get_or c.args.b.now k d) in
    c.in_ok-same.ensures.equal v h
    ∙ (λ i. same_eq x y i && c.in_ok-equal.ensures.equal v kept i)
    ∙ sym (eq_step (2 ^ k) (number_of v (take k c.args.a.now)) (number_of v (take k c.args.b.now)) x y low_a low_b)
    ∙ (λ i. eqb (sym (by_last v c.args.a.now k d in_a) i) (sym (by_last v c.args.b.now k d in_b) i))

pub returns-clause-less : goal.returns-clause-less
returns-clause-less c = λ v h.
    let d : Edge = record { node = 0; negated = false } in
    let k = length c.args.a.now - 1 in
    let kept = c.in_ok-same.ensures.extends.kept v h in
    let in_a : length c.args.a.now ≡ k + 1 = omega (arith, c.requires.some) in
    let in_b : length c.args.b.now ≡ k + 1 = omega (arith, c.requires.some, c.requires.lengths) in
    let size : suc k ≡ length c.args.a.now = omega (arith, in_a) in
    let low_a : number_of v (take k c.args.a.now) < 2 ^ k = number-take_lt (edge_value v) c.args.a.now k (omega arith) in
    let low_b : number_of v (take k c.args.b.now) < 2 ^ k = number-take_lt (edge_value v) c.args.b.now k (omega arith) in
    let x = edge_value v (get_or c.args.a.now k d) in
    let y = edge_value v (get_or c.args.b.now k d) in
    c.in_ok-same.ensures.less v h
    ∙ ap (λ z. cond (eqb (bit y) (bit x)) z x) (c.in_ok-equal.ensures.less v kept)
    ∙ sym (signed_less k (number_of v (take k c.args.a.now)) (number_of v (take k c.args.b.now)) x y low_a low_b)
    ∙ (λ i. is_less true (size i) (sym (by_last v c.args.a.now k d in_a) i) (sym (by_last v c.args.b.now k d in_b) i))
