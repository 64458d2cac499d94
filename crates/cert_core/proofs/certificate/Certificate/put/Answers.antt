use Rattle.cert_core.proofs.Keeping.{put_keeps}
use Rattle.cert_core.proofs.certificate.Certificate.put.Goals as goal

pub invariant_of-self : goal.invariant_of-self
invariant_of-self c = put_keeps _ _ _ _ c.args.steps c.self.view_is c.in-Shared.is c.requires.place c.requires.fits c.self.invariant

pub invariant_of-self-in-Shared-2 : goal.invariant_of-self-in-Shared-2
invariant_of-self-in-Shared-2 c = put_keeps _ _ _ _ c.args.steps c.self.view_is c.in-Shared.is c.requires.place c.requires.fits c.self.invariant

pub invariant_of-self-in-First : goal.invariant_of-self-in-First
invariant_of-self-in-First c = put_keeps _ _ _ _ c.args.steps c.self.view_is c.in-First.is c.requires.place c.requires.fits c.self.invariant

pub invariant_of-self-in-First-2 : goal.invariant_of-self-in-First-2
invariant_of-self-in-First-2 c = put_keeps _ _ _ _ c.args.steps c.self.view_is c.in-First.is c.requires.place c.requires.fits c.self.invariant

pub invariant_of-self-in-Kept : goal.invariant_of-self-in-Kept
invariant_of-self-in-Kept c = put_keeps _ _ _ _ c.args.steps c.self.view_is c.in-Kept.is c.requires.place c.requires.fits c.self.invariant

pub invariant_of-self-in-Kept-2 : goal.invariant_of-self-in-Kept-2
invariant_of-self-in-Kept-2 c = put_keeps _ _ _ _ c.args.steps c.self.view_is c.in-Kept.is c.requires.place c.requires.fits c.self.invariant

pub invariant_of-self-in-Safe : goal.invariant_of-self-in-Safe
invariant_of-self-in-Safe c = put_keeps _ _ _ _ c.args.steps c.self.view_is c.in-Safe.is c.requires.place c.requires.fits c.self.invariant

pub invariant_of-self-in-Safe-2 : goal.invariant_of-self-in-Safe-2
invariant_of-self-in-Safe-2 c = put_keeps _ _ _ _ c.args.steps c.self.view_is c.in-Safe.is c.requires.place c.requires.fits c.self.invariant
