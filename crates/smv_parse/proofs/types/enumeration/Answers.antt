use Rattle.std.proofs.Common.{◌-◌, List, refl}
use Rattle.std.proofs.lemmas.Result.{err_from_is_err_and}
use Rattle.smv_tree.specs.declared.token.Token.{Token}
use Rattle.smv_tree.specs.declared.token.TokenKind.TheVariants as kind
use Rattle.smv_tree.specs.declared.tree.TypeExpr.TheVariants as type
use Rattle.smv_tree.specs.declared.tree.WrittenElement.{WrittenElement}
use Rattle.smv_phrases.specs.Lists.{listed}
use Rattle.smv_expressions.specs.Expressions.{is_zero}
use Rattle.smv_parse.specs.Types.{element, enumeration}
use Rattle.smv_parse.proofs.Parts.{still_closes, inner_stops}
use Rattle.smv_parse.proofs.types.enumeration.Goals as goal

pub returns-in_err-elements : goal.returns-in_err-elements
unfolding enumeration
returns-in_err-elements c =
    let p = err_from_is_err_and c.from_residual-in_err-elements.result c.from_residual-in_err-elements.ensures.1 in
    rw (p.1, p.2)
    (inner_stops c.is_closed.result c.args.room kind.LeftBrace kind.RightBrace (listed (element (is_zero (c.args.room - 1)))) (listed (element c.is_closed-2.result)) (λ us h. rw c.is_closed-2.ensures refl) (λ (x : Token × List WrittenElement). type.Enumeration x.0.place x.1)
    c.args.tokens.now _ _ c.in_err-elements.field-0.0 c.is_closed.ensures c.in_ok-brace.ensures c.in_err-elements.ensures)

pub returns : goal.returns
unfolding enumeration
returns c =
    rw (still_closes c.is_closed.result c.args.room kind.LeftBrace kind.RightBrace (listed (element (is_zero (c.args.room - 1)))) (listed (element c.is_closed-2.result)) (λ us h. rw c.is_closed-2.ensures refl) (λ (x : Token × List WrittenElement). type.Enumeration x.0.place x.1)
    c.args.tokens.now _ _ _ _ c.is_closed.ensures c.in_ok-brace.ensures c.in_ok-elements.ensures) at c.followed_by.ensures
