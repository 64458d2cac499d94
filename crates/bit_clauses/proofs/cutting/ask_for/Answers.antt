-- One claim more is one condition more.
use Rattle.std.proofs.Common.{◌≡◌, true}
use Rattle.bit_graph.specs.Meaning.{edge_value}
use Rattle.bit_clauses.specs.Asserted.{holds}
use Rattle.bit_clauses.specs.Claims.{Claimed, Meant}
use Rattle.bit_clauses.specs.Nodes.{all_true}
use Rattle.bit_clauses.proofs.Meanings.{by_claim, in_words, single}
use Rattle.bit_clauses.proofs.cutting.ask_for.Goals as goal

pub returns-then-is_single-clause-means : goal.returns-then-is_single-clause-means
returns-then-is_single-clause-means c = λ v ok.
    let e = c.args.either in
    let limit = c.args.limit in
    let made = c.args.made.now in
    let old = c.args.claims.now in
    let new = c.add.new.self in
    in_words (Meant v made new limit) (Meant v made old limit) (edge_value v e.one) (holds v e) (single v e (c.is_single.ensures c.if-is_single.true))
    (by_claim (all_true v made ≡ true) (Claimed v old limit) (Claimed v new limit) (edge_value v e.one ≡ true) (c.add.ensures.claims v limit c.requires.below.0))
