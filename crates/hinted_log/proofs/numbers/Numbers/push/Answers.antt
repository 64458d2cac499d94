use Rattle.std.proofs.lemmas.Result.{err_from_is_err_and}
use Rattle.hinted_log.proofs.Pieces.{lists_kept, lists_push}
use Rattle.hinted_log.proofs.numbers.Numbers.push.Goals as goal

pub returns-clause-done : goal.returns-clause-done
returns-clause-done c =
    rw (← c.self.view_is, c.in_ok-extend_from_slice.ensures.items, c.in_ok-push.ensures.items, c.as_slice-from.ensures.value)
    (lists_push c.self.inside.numbers.items c.args.list.now c.self.inside.places.items c.self.invariant)

pub returns-in_err-push-clause-failed : goal.returns-in_err-push-clause-failed
returns-in_err-push-clause-failed c =
    let p = err_from_is_err_and c.from_residual-in_err-push.result c.from_residual-in_err-push.ensures.1 in
    rw (p.1, ← c.self.view_is, c.in_ok-extend_from_slice.ensures.items, c.in_err-push.ensures.items)
    (lists_kept c.self.inside.numbers.items c.args.list.now c.self.inside.places.items c.self.invariant)
