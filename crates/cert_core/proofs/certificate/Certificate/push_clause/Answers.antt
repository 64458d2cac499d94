use Rattle.cert_core.proofs.Keeping.{IsBlock-with_clause}
use Rattle.cert_core.proofs.certificate.Certificate.push_clause.Goals as goal

pub invariant_of-self-in_default-push_missing : goal.invariant_of-self-in_default-push_missing
invariant_of-self-in_default-push_missing c =
    let h = IsBlock-with_clause _ c.args.c.now c.requires c.self.invariant in
    rw (c.in_ok-push.ensures.done, c.in_default.ensures.done, c.in_default-push_missing.ensures.done) h
