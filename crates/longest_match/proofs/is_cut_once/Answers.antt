use Rattle.longest_match.proofs.OfLexemes.{lexed_once}
use Rattle.longest_match.proofs.is_cut_once.Goals as goal

pub returns : goal.returns
returns g c words place end stop bytes rest left tokens others a b =
    let same = lexed_once words a.lexed a.stuck others stop left b.lexed b.stuck in
    (same.same_tokens, same.same_end, same.same_rest)
