use Rattle.cert_make.proofs.making.put_kept.Goals as goal

pub put_shared_and_kept-requires-clause-follow : goal.put_shared_and_kept-requires-clause-follow
put_shared_and_kept-requires-clause-follow g c =
    let says = rw c.in-Clauses.is at c.in_ok-drawn.ensures.says in
    rw c.requires.vars says.0

pub put_shared_and_kept-requires-clause-each : goal.put_shared_and_kept-requires-clause-each
put_shared_and_kept-requires-clause-each g c =
    let says = rw c.in-Clauses.is at c.in_ok-drawn.ensures.says in
    rw c.state_bits-state_bits.ensures.value says.1
