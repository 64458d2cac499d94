use Rattle.std.proofs.lemmas.Result.{err_from_is_err_and}
use Rattle.clause_core.proofs.Pieces.{pieces_kept, pieces_push, IsBuffer-more, IsBuffer-push}
use Rattle.clause_core.proofs.clause.Clauses.push.Goals as goal

pub returns-clause-done : goal.returns-clause-done
returns-clause-done c =
    rw (← c.self.view_is, c.in_ok-extend_from_slice.ensures.items, c.in_ok-push.ensures.items, c.as_slice-from.ensures.value)
    (pieces_push c.self.inside.lits.items c.args.c.now c.self.inside.spans.items c.self.invariant.within)

pub returns-in_err-push-clause-failed : goal.returns-in_err-push-clause-failed
returns-in_err-push-clause-failed c =
    let p = err_from_is_err_and c.from_residual-in_err-push.result c.from_residual-in_err-push.ensures.1 in
    rw (p.1, ← c.self.view_is, c.in_ok-extend_from_slice.ensures.items, c.in_err-push.ensures.items)
    (pieces_kept c.self.inside.lits.items c.args.c.now c.self.inside.spans.items c.self.invariant.within)

pub invariant_of-self : goal.invariant_of-self
invariant_of-self c = rw c.in_err-extend_from_slice.ensures.items c.self.invariant

pub invariant_of-self-in_err-push : goal.invariant_of-self-in_err-push
invariant_of-self-in_err-push c =
    rw (c.in_ok-extend_from_slice.ensures.items, c.in_err-push.ensures.items) (IsBuffer-more c.self.inside.lits.items c.args.c.now c.self.inside.spans.items c.self.invariant)

pub invariant_of-self-2 : goal.invariant_of-self-2
invariant_of-self-2 c =
    rw (c.in_ok-extend_from_slice.ensures.items, c.in_ok-push.ensures.items, c.as_slice-from.ensures.value)
    (IsBuffer-push c.self.inside.lits.items c.args.c.now c.self.inside.spans.items c.self.invariant)
