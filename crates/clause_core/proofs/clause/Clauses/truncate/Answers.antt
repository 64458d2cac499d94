use Rattle.std.proofs.Common.{◌≡◌, ◌<◌, length, get_or, ap, arith}
use Rattle.clause_core.specs.declared.clause.Span.{Span}
use Rattle.clause_core.proofs.Pieces.{pieces_take, IsBuffer-take}
use Rattle.clause_core.proofs.clause.Clauses.truncate.Goals as goal

pub returns-then-len : goal.returns-then-len
returns-then-len c =
    let lt : c.args.len < length c.self.inside.spans.items = omega (arith, c.if-len.true, c.len.ensures) in
    let e : c.index.result.now.from ≡ (get_or c.self.inside.spans.items c.args.len c.index.result.now).from =
    ap (λ (s : Span). s.from) c.index.ensures in
    rw (← c.self.view_is, c.truncate.ensures.items, c.truncate-then-len.ensures.items, e)
    (pieces_take c.self.inside.lits.items c.self.inside.spans.items c.args.len c.index.result.now c.self.invariant lt)

pub invariant_of-self : goal.invariant_of-self
invariant_of-self c =
    let lt : c.args.len < length c.self.inside.spans.items = omega (arith, c.if-len.true, c.len.ensures) in
    let e : c.index.result.now.from ≡ (get_or c.self.inside.spans.items c.args.len c.index.result.now).from =
    ap (λ (s : Span). s.from) c.index.ensures in
    rw (c.truncate.ensures.items, c.truncate-then-len.ensures.items, e)
    (IsBuffer-take c.self.inside.lits.items c.self.inside.spans.items c.args.len c.index.result.now c.self.invariant lt)
