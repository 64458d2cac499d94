use Rattle.std.proofs.Common.{◌-◌}
use Rattle.std.proofs.lemmas.Result.{err_from_is_err_and}
use Rattle.smv_tree.specs.declared.token.Token.{Token}
use Rattle.smv_tree.specs.declared.token.TokenKind.TheVariants as kind
use Rattle.smv_tree.specs.declared.tree.Dimension.{Dimension}
use Rattle.smv_tree.specs.Kinds.{is_kind}
use Rattle.smv_expressions.specs.Expressions.{under, limit_within}
use Rattle.smv_expressions.proofs.Levels.{room_left}
use Rattle.smv_parse.specs.Types.{dimension, array_head}
use Rattle.smv_parse.proofs.UnderTypes.{under_dimension}
use Rattle.smv_parse.proofs.Parts.{still_closes, inner_stops, held}
use Rattle.smv_parse.proofs.types.array_head.Goals as goal

pub returns-in_err-dimension-clause-read : goal.returns-in_err-dimension-clause-read
unfolding array_head
returns-in_err-dimension-clause-read c =
    let p = err_from_is_err_and c.from_residual-in_err-dimension.result c.from_residual-in_err-dimension.ensures.1 in
    rw (p.1, p.2)
    (inner_stops c.is_closed.result c.args.room kind.Array kind.Of (dimension (under 0 c.args.room).limit) (dimension (limit_within 0 (c.args.room - 1))) (under_dimension c.args.room) (λ (x : Token × Dimension). x.1)
    c.args.tokens.now _ _ c.in_err-dimension.field-0.0 c.is_closed.ensures c.in_ok-tokens.ensures c.in_err-dimension.ensures)

pub returns-clause-room : goal.returns-clause-room
returns-clause-room c = held c.followed_by.result (room_left c.is_closed.result c.args.room (is_kind kind.Array) c.args.tokens.now _ c.is_closed.ensures c.in_ok-tokens.ensures)

pub returns-clause-read : goal.returns-clause-read
unfolding array_head
returns-clause-read c =
    rw (still_closes c.is_closed.result c.args.room kind.Array kind.Of (dimension (under 0 c.args.room).limit) (dimension (limit_within 0 (c.args.room - 1))) (under_dimension c.args.room) (λ (x : Token × Dimension). x.1)
    c.args.tokens.now _ _ _ _ c.is_closed.ensures c.in_ok-tokens.ensures c.in_ok-dimension.ensures) at c.followed_by.ensures
