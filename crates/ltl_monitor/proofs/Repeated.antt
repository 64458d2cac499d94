-- An operator that stands many times over a formula: its bits, its atoms and its draft.
use Rattle.std.proofs.Common.{◌≡◌, ℕ, zero, suc, ◌+◌, ◌-◌, ◌*◌, ◌≤◌, sym, ap, ◌∙◌, arith}
use Rattle.std.specs.Prelude.{◌↔◌}
use Rattle.ltl_meaning.specs.declared.node.UnaryOperator.{UnaryOperator}
use Rattle.ltl_meaning.specs.declared.node.BoundedOperator.{BoundedOperator}
use Rattle.ltl_meaning.specs.declared.node.Window.{Window}
use Rattle.ltl_meaning.specs.Ltl.{Ltl}
use Rattle.ltl_meaning.specs.Unfolded.{repeated, delay, widen}
use Rattle.ltl_meaning.proofs.Windows.{repeated_more}
use Rattle.ltl_monitor.specs.declared.layout.Layout.{Layout}
use Rattle.ltl_monitor.specs.declared.draft.Draft.{Draft}
use Rattle.ltl_monitor.specs.declared.draft.Scene.{Scene}
use Rattle.ltl_monitor.specs.Monitor.{unary_bits, nodes}
use Rattle.ltl_monitor.specs.States.{AtomsBelow}
use Rattle.ltl_monitor.specs.Drafting.{Drafted, drafted, unary_drafted}

repeated_nodes : (o : UnaryOperator) (n : ℕ) (f : Ltl) → nodes (repeated o n f) ≡ nodes f + n * unary_bits o
unfolding repeated
repeated_nodes o zero f = omega arith
repeated_nodes o (suc n) f = omega (arith, repeated_nodes o n f)

-- one with bounds has as many bits as its upper bound says
pub bounded_nodes : (o : BoundedOperator) (w : Window) (f : Ltl) → nodes (repeated (delay o) w.low (repeated (widen o) (w.high - w.low) f)) ≡ nodes f + w.high
bounded_nodes BoundedOperator.Finally w f =
    let h : w.low ≤ w.high = w.ordered in
    omega (arith, repeated_nodes UnaryOperator.Next w.low (repeated UnaryOperator.NowOrNext (w.high - w.low) f), repeated_nodes UnaryOperator.NowOrNext (w.high - w.low) f)
bounded_nodes BoundedOperator.Globally w f =
    let h : w.low ≤ w.high = w.ordered in
    omega (arith, repeated_nodes UnaryOperator.Next w.low (repeated UnaryOperator.NowAndNext (w.high - w.low) f), repeated_nodes UnaryOperator.NowAndNext (w.high - w.low) f)
bounded_nodes BoundedOperator.Once w f =
    let h : w.low ≤ w.high = w.ordered in
    omega (arith, repeated_nodes UnaryOperator.Yesterday w.low (repeated UnaryOperator.NowOrBefore (w.high - w.low) f), repeated_nodes UnaryOperator.NowOrBefore (w.high - w.low) f)
bounded_nodes BoundedOperator.Historically w f =
    let h : w.low ≤ w.high = w.ordered in
    omega (arith, repeated_nodes UnaryOperator.WeakYesterday w.low (repeated UnaryOperator.NowAndBefore (w.high - w.low) f), repeated_nodes UnaryOperator.NowAndBefore (w.high - w.low) f)

pub repeated_below : (m : ℕ) (o : UnaryOperator) (n : ℕ) (f : Ltl) → AtomsBelow m f ↔ AtomsBelow m (repeated o n f)
unfolding repeated
repeated_below m o zero f = (λ h. h, λ h. h)
repeated_below m o (suc n) f = repeated_below m o n f

-- its atoms are those of its operand
pub bounded_below : (m : ℕ) (o : BoundedOperator) (w : Window) (f : Ltl) → AtomsBelow m f ↔ AtomsBelow m (repeated (delay o) w.low (repeated (widen o) (w.high - w.low) f))
bounded_below m o w f =
    let a = repeated_below m (widen o) (w.high - w.low) f in
    let b = repeated_below m (delay o) w.low (repeated (widen o) (w.high - w.low) f) in
    (λ h. b.0 (a.0 h), λ h. a.1 (b.1 h))

-- added once more
pub once_more : (s : Scene) (p : Layout) (o : UnaryOperator) (n : ℕ) (f : Ltl) (d : Draft) (x y : Drafted) → s.layout ≡ p → x ≡ drafted s (repeated o n f) d →
    y ≡ unary_drafted p o x.lit x.draft → y ≡ drafted s (repeated o (n + 1) f) d
once_more s p o n f d x y same is added =
    added ∙ ap (λ (z : Drafted). unary_drafted p o z.lit z.draft) is
    ∙ ap (λ q. unary_drafted q o (drafted s (repeated o n f) d).lit (drafted s (repeated o n f) d).draft) (sym same)
    ∙ ap (λ g. drafted s g d) (sym (repeated_more o n f))
