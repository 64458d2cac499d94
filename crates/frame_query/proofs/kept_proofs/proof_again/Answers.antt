use Rattle.std.proofs.Common.{◌≡◌, ◌∙◌, Some, None, get_or, arith, sym}
use Rattle.std.proofs.lemmas.List.{get_or_default}
use Rattle.frame_query.proofs.kept_proofs.proof_again.Goals as goal

pub standing-requires-clause-kept : goal.standing-requires-clause-kept
standing-requires-clause-kept c =
    let proofs = c.args.proofs.now in
    let n = c.args.n in
    let is : get_or proofs n None ≡ Some c.in-Some.proof =
    get_or_default proofs n None c.index-proofs-n.result (omega arith) ∙ sym c.index-proofs-n.is ∙ c.in-Some.is in
    (c.requires.kept n c.in-Some.proof is).1
