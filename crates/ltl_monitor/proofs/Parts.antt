-- The rules of an operator are its rule of a step and the rest; and the draft of an operator over two operands.
use Rattle.std.proofs.Common.{◌≡◌, refl, ap, ◌∙◌}
use Rattle.ltl_meaning.specs.declared.node.UnaryOperator.{UnaryOperator}
use Rattle.ltl_meaning.specs.declared.node.BinaryOperator.{BinaryOperator}
use Rattle.ltl_meaning.specs.Ltl.{Ltl}
use Rattle.clause_core.specs.declared.literal.Lit.{Lit}
use Rattle.ltl_monitor.specs.declared.layout.Both.{Both}
use Rattle.ltl_monitor.specs.declared.draft.Draft.{Draft}
use Rattle.ltl_monitor.specs.declared.draft.Scene.{Scene}
use Rattle.ltl_monitor.specs.Drafting.{Drafted, drafted, unary_rules, binary_rules, binary_drafted}

pub unary_parts : (o : UnaryOperator) (b f : Both) (d : Draft) →
    record (unary_rules o b f (record d { rows = (unary_rules o b f d).rows })) { rows = (unary_rules o b f d).rows } ≡ unary_rules o b f d
unary_parts UnaryOperator.Not b f d = refl
unary_parts UnaryOperator.Next b f d = refl
unary_parts UnaryOperator.Finally b f d = refl
unary_parts UnaryOperator.Globally b f d = refl
unary_parts UnaryOperator.Yesterday b f d = refl
unary_parts UnaryOperator.WeakYesterday b f d = refl
unary_parts UnaryOperator.Once b f d = refl
unary_parts UnaryOperator.Historically b f d = refl
unary_parts UnaryOperator.NowOrNext b f d = refl
unary_parts UnaryOperator.NowAndNext b f d = refl
unary_parts UnaryOperator.NowOrBefore b f d = refl
unary_parts UnaryOperator.NowAndBefore b f d = refl

pub binary_parts : (o : BinaryOperator) (b f g : Both) (d : Draft) →
    record (binary_rules o b f g (record d { rows = (binary_rules o b f g d).rows })) { rows = (binary_rules o b f g d).rows } ≡ binary_rules o b f g d
binary_parts BinaryOperator.And b f g d = refl
binary_parts BinaryOperator.Or b f g d = refl
binary_parts BinaryOperator.Xor b f g d = refl
binary_parts BinaryOperator.Xnor b f g d = refl
binary_parts BinaryOperator.Implies b f g d = refl
binary_parts BinaryOperator.Iff b f g d = refl
binary_parts BinaryOperator.Until b f g d = refl
binary_parts BinaryOperator.Releases b f g d = refl
binary_parts BinaryOperator.Since b f g d = refl
binary_parts BinaryOperator.Triggered b f g d = refl

-- the drafts of the operands, one after the other, and that of the operator over them
pub binary_joined : (s : Scene) (o : BinaryOperator) (f g : Ltl) (d d1 d2 : Draft) (l1 l2 : Lit) (x : Drafted) →
    record { draft = d1; lit = l1 } ≡ drafted s f d → record { draft = d2; lit = l2 } ≡ drafted s g d1 →
    x ≡ binary_drafted s.layout o l1 l2 d2 → x ≡ drafted s (Ltl.Binary o f g) d
binary_joined s o f g d d1 d2 l1 l2 x left right whole =
    whole ∙ ap (λ (y : Drafted). binary_drafted s.layout o l1 y.lit y.draft) right
    ∙ ap (λ (y : Drafted). binary_drafted s.layout o y.lit (drafted s g y.draft).lit (drafted s g y.draft).draft) left
