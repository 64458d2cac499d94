use Rattle.std.proofs.Common.{rules, ◌≡◌, ◌≤◌, ℕ, Bool, Vec, Global, Result, Ok, Err, replicate, sym, ap, ◌∙◌, subst, arith}
use Rattle.std.specs.Prelude.{IfOk}
use Rattle.std.specs.declared.alloc.AllocError.{AllocError}
use Rattle.ltl_meaning.specs.declared.node.BinaryOperator.{BinaryOperator}
use Rattle.ltl_meaning.specs.declared.node.FormulaNode.{FormulaNode, the_lemmas}
use Rattle.ltl_meaning.specs.declared.node.FormulaNode.TheVariants.{Constant, Implies, rolls-Constant}
use Rattle.ltl_meaning.specs.declared.node.FormulaNode.TheOpen.{FormulaNode-F}
use Rattle.ltl_meaning.specs.declared.node.FormulaNode.TheFolds.{fold-roll-FormulaNode}
use Rattle.ltl_meaning.specs.declared.word.Word.{Word}
use Rattle.ltl_meaning.specs.Truth.{Satisfies}
use Rattle.ltl_meaning.specs.Lasso.{on}
use Rattle.ltl_meaning.specs.Ltl.{Ltl, past_height}
use Rattle.ltl_meaning.specs.Temporal.{Temporal, formula_at, formula_of, links_of}
use Rattle.ltl_meaning.specs.Unfolded.{unfolded}
use Rattle.ltl_meaning.proofs.Chains.{formula_of-Implies, formula_of-Unary, bounded_is, chain_starts, chain_goes_on, first-le-chain, link-le-chain}
use Rattle.ltl_meaning.proofs.Windows.{bounded_height}
use Rattle.ltl_meaning.proofs.Period.{some_period}
use Rattle.ltl_table.specs.Columns.{Tells}
use Rattle.ltl_table.proofs.Meaning.{constant_column}
use Rattle.ltl_table.proofs.Parts.{unary_part, binary_part}
use Rattle.ltl_table.proofs.column.+column.Goals as goal

pub column-requires-in-Chain : goal.column-requires-in-Chain
column-requires-in-Chain t c =
    let whole = chain_starts c.args.node.now c.get-in-Chain.result.now c.in-Chain.links (rw c.get-in-Chain.ensures c.in-Chain.is) in
    let deep : past_height (unfolded (formula_of c.get-in-Chain.result.now)) ≤ past_height (unfolded (formula_of c.args.node.now)) =
    subst (λ g. past_height (unfolded (formula_of c.get-in-Chain.result.now)) ≤ past_height (unfolded g)) whole
    (first-le-chain (formula_of c.get-in-Chain.result.now) (links_of c.in-Chain.links)) in
    (search (rules, the_lemmas), (omega (arith, deep, c.requires.deep), (c.requires.low, c.requires.high)))

pub loop-link-init : goal.loop-link-init
loop-link-init t c = (
  formula_of c.get-in-Chain.result.now,
  c.in_ok-so_far-in-Chain.ensures,
  chain_starts c.args.node.now c.get-in-Chain.result.now c.as_slice-link-items.result.now (rw (c.get-in-Chain.ensures, c.as_slice-link-items.ensures) c.in-Chain.is),
)

pub column-requires-in-loop-link : goal.column-requires-in-loop-link
column-requires-in-loop-link t c =
    let le = link-le-chain c.loop-link.invariant.0 (formula_of c.args.node.now) c.as_slice-link-items.result.now c.loop-link.link-index c.link-item.result
    c.loop-link-test.true c.link-item.is c.loop-link.invariant.2 in
    (search (rules, the_lemmas), (omega (arith, le, c.requires.deep), (c.requires.low, c.requires.high)))

pub loop-link-preserved : goal.loop-link-preserved
loop-link-preserved t c =
    let le = link-le-chain c.loop-link.invariant.0 (formula_of c.args.node.now) c.as_slice-link-items.result.now c.loop-link.link-index c.link-item.result
    c.loop-link-test.true c.link-item.is c.loop-link.invariant.2 in (
      Temporal.Binary c.link-item.result.operator c.loop-link.invariant.0 (formula_of c.link-item.result.operand),
      binary_part c.args.word.now c.args.passes c.args.start c.args.n c.requires.low c.requires.high
          c.link-item.result.operator (unfolded c.loop-link.invariant.0) (unfolded (formula_of c.link-item.result.operand)) (omega (arith, le, c.requires.deep))
          c.loop-link.so_far.items c.in_ok-right-in-Chain.right.items c.in_ok-so_far-in-Chain-2.so_far.items
          c.loop-link.invariant.1 c.in_ok-right-in-Chain.ensures
          (omega (arith, c.in_ok-so_far-in-Chain-2.ensures.len)) c.in_ok-so_far-in-Chain-2.ensures.each,
      chain_goes_on c.loop-link.invariant.0 (formula_of c.args.node.now) c.as_slice-link-items.result.now c.loop-link.link-index c.link-item.result
          c.loop-link-test.true c.link-item.is c.loop-link.invariant.2,
    )

pub returns-in_ok-whole-in-Unary : goal.returns-in_ok-whole-in-Unary
returns-in_ok-whole-in-Unary t c =
    unary_part c.args.word.now c.args.passes c.args.start c.args.n c.requires.low c.requires.high
    c.in-Unary.operator (unfolded (formula_of c.get.result.now)) (unfolded (formula_of c.args.node.now))
    (ap (λ g. unfolded (formula_of g)) c.in-Unary.is ∙ ap unfolded (formula_of-Unary c.in-Unary.operator c.in-Unary.operand) ∙ ap (λ g. Ltl.Unary c.in-Unary.operator (unfolded (formula_of g))) (sym c.get.ensures)) c.requires.deep
    c.in_ok-of-in-Unary.of.items c.in_ok-whole-in-Unary.whole.items c.in_ok-of-in-Unary.ensures
    (omega (arith, c.in_ok-whole-in-Unary.ensures.len)) c.in_ok-whole-in-Unary.ensures.each

pub column-requires-in-Bounded : goal.column-requires-in-Bounded
column-requires-in-Bounded t c =
    let is = bounded_is c.args.node.now c.in-Bounded.operand c.get-in-Bounded.result.now c.in-Bounded.operator c.in-Bounded.window c.in-Bounded.is c.get-in-Bounded.ensures in
    let deep = bounded_height (unfolded (formula_of c.get-in-Bounded.result.now)) c.in-Bounded.operator c.in-Bounded.window in
    (search (rules, the_lemmas), (omega (arith, ap past_height is, deep, c.requires.deep), (c.requires.low, c.requires.high)))

-- a constant's column
constant_is : (node : FormulaNode) (b : Bool) → node ≡ Constant b → unfolded (formula_of node) ≡ Ltl.Constant b
constant_is node b is =
    ap (λ g. unfolded (formula_of g)) (is ∙ sym (rolls-Constant b)) ∙ ap unfolded (fold-roll-FormulaNode Temporal formula_at (FormulaNode-F.Constant b))

constant_told : (w : Word) (n : ℕ) (node : FormulaNode) (b : Bool) → node ≡ Constant b → (r : Result (Vec Bool Global) AllocError) → IfOk r (λ c. c.items ≡ replicate n b) →
    IfOk r (λ c. Tells c.items n (Satisfies (on w) (unfolded (formula_of node))))
constant_told w n node b is (Ok c) e = subst (λ g. Tells c.items n (Satisfies (on w) g)) (sym (constant_is node b is)) (constant_column n c.items b e)
constant_told w n node b is (Err e) h = tt

pub returns-in-Constant : goal.returns-in-Constant
returns-in-Constant t c = constant_told c.args.word.now c.args.n c.args.node.now c.in-Constant.value c.in-Constant.is c.constant.result c.constant.ensures

pub returns-in_ok-whole-in-Bounded : goal.returns-in_ok-whole-in-Bounded
returns-in_ok-whole-in-Bounded t c =
    let inner = c.get-in-Bounded.result.now in
    let is = bounded_is c.args.node.now c.in-Bounded.operand inner c.in-Bounded.operator c.in-Bounded.window c.in-Bounded.is c.get-in-Bounded.ensures in
    subst (λ g. Tells c.in_ok-whole-in-Bounded.whole.items c.args.n (Satisfies (on c.args.word.now) g)) (sym is)
    (c.in_ok-whole-in-Bounded.ensures (unfolded (formula_of inner)) (subst (λ g. past_height g ≤ c.args.passes) is c.requires.deep) c.in_ok-of-in-Bounded.ensures)

implies_is : (node l r : FormulaNode) → node ≡ Implies l r →
    unfolded (formula_of node) ≡ Ltl.Binary BinaryOperator.Implies (unfolded (formula_of l)) (unfolded (formula_of r))
implies_is node l r is = ap (λ g. unfolded (formula_of g)) is ∙ ap unfolded (formula_of-Implies l r)

pub column-requires-in-Implies : goal.column-requires-in-Implies
column-requires-in-Implies t c =
    let is = implies_is c.args.node.now c.get-in-Implies.result.now c.in-Implies.right (rw c.get-in-Implies.ensures c.in-Implies.is) in
    (search (rules, the_lemmas), (omega (arith, ap past_height is, c.requires.deep), (c.requires.low, c.requires.high)))

pub column-requires-in-Implies-2 : goal.column-requires-in-Implies-2
column-requires-in-Implies-2 t c =
    let is = implies_is c.args.node.now c.in-Implies.left c.get-in-Implies-2.result.now (rw c.get-in-Implies-2.ensures c.in-Implies.is) in
    (search (rules, the_lemmas), (omega (arith, ap past_height is, c.requires.deep), (c.requires.low, c.requires.high)))

pub returns-in_ok-whole-in-Implies : goal.returns-in_ok-whole-in-Implies
returns-in_ok-whole-in-Implies t c =
    let l = c.get-in-Implies.result.now in
    let r = c.get-in-Implies-2.result.now in
    let is = implies_is c.args.node.now l r (rw (c.get-in-Implies.ensures, c.get-in-Implies-2.ensures) c.in-Implies.is) in
    subst (λ g. Tells c.in_ok-whole-in-Implies.whole.items c.args.n (Satisfies (on c.args.word.now) g)) (sym is)
    (binary_part c.args.word.now c.args.passes c.args.start c.args.n c.requires.low c.requires.high
    BinaryOperator.Implies (unfolded (formula_of l)) (unfolded (formula_of r)) (subst (λ g. past_height g ≤ c.args.passes) is c.requires.deep)
    c.in_ok-from-in-Implies.from.items c.in_ok-to-in-Implies.to.items c.in_ok-whole-in-Implies.whole.items c.in_ok-from-in-Implies.ensures c.in_ok-to-in-Implies.ensures
    (omega (arith, c.in_ok-whole-in-Implies.ensures.len)) c.in_ok-whole-in-Implies.ensures.each)

pub over-requires : goal.over-requires
over-requires t c = omega (arith, some_period c.args.word.now, c.in_ok-of-in-Unary.ensures.0, c.requires.high)

pub joined-requires : goal.joined-requires
joined-requires t c = record {
  same_length = omega (arith, c.in_ok-from-in-Implies.ensures.0, c.in_ok-to-in-Implies.ensures.0);
  within = omega (arith, some_period c.args.word.now, c.in_ok-to-in-Implies.ensures.0, c.requires.high);
}

pub joined-requires-in-loop-link : goal.joined-requires-in-loop-link
joined-requires-in-loop-link t c = record {
  same_length = omega (arith, c.loop-link.invariant.1.0, c.in_ok-right-in-Chain.ensures.0);
  within = omega (arith, some_period c.args.word.now, c.in_ok-right-in-Chain.ensures.0, c.requires.high);
}
