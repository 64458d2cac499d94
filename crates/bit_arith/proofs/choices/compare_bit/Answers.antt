use Rattle.std.proofs.Common.{◌≡◌, ◌∙◌, ap, refl, Bool, true, false, not, ◌&&◌, cond, eqb}
use Rattle.bit_graph.specs.Meaning.{edge_value, exclusive_or}
use Rattle.bit_arith.specs.Number.{bit}
use Rattle.bit_arith.proofs.choices.compare_bit.Goals as goal

opposite : (n b : Bool) → exclusive_or (not n) b ≡ not (exclusive_or n b)
opposite true true = refl
opposite true false = refl
opposite false b = refl

same_bits : (x y : Bool) → not (exclusive_or x y) ≡ eqb (bit x) (bit y)
same_bits true true = refl
same_bits true false = refl
same_bits false true = refl
same_bits false false = refl

by_bits : (x y z : Bool) → cond (exclusive_or x y) y z ≡ cond (eqb (bit x) (bit y)) z y
by_bits true true z = refl
by_bits true false z = refl
by_bits false true z = refl
by_bits false false z = refl

pub returns-clause-equal : goal.returns-clause-equal
returns-clause-equal c = λ v ok.
    let before_below = c.in_ok-below.ensures.extends.kept v ok in
    let before_both = c.in_ok-both.ensures.extends.kept v before_below in
    let x : Bool = edge_value v c.args.x in
    let y : Bool = edge_value v c.args.y in
    let same : edge_value v c.negation.result ≡ eqb (bit x) (bit y) =
    ap (edge_value v) c.negation.ensures ∙ opposite c.in_ok-apart.apart.negated (v c.in_ok-apart.apart.node)
    ∙ ap not (c.in_ok-apart.ensures.value v before_both) ∙ same_bits x y in
    c.in_ok-both.ensures.value v before_below ∙ ap (λ b. b && edge_value v c.args.equal) same

pub returns-clause-less : goal.returns-clause-less
returns-clause-less c = λ v ok.
    let before_both = c.in_ok-both.ensures.extends.kept v (c.in_ok-below.ensures.extends.kept v ok) in
    let x : Bool = edge_value v c.args.x in
    let y : Bool = edge_value v c.args.y in
    c.in_ok-below.ensures.value v ok
    ∙ ap (λ b. cond b y (edge_value v c.args.less)) (c.in_ok-apart.ensures.value v before_both)
    ∙ by_bits x y (edge_value v c.args.less)
