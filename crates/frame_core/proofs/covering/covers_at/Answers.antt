use Rattle.std.proofs.Common.{◌≡◌, ◌≤◌, List, true, subst, ◌↔◌}
use Rattle.clause_core.specs.declared.literal.Lit.{Lit}
use Rattle.frame_core.specs.Facts.{IsPart}
use Rattle.frame_core.proofs.Held.{covers_is}
use Rattle.frame_core.proofs.covering.covers_at.Goals as goal

pub returns : goal.returns
returns c =
    let l = c.lemma-lemma.result.now in
    let live : l.live ≡ true = cc in
    let high : l.level ≤ c.args.level = c.if-lemma-level.false in
    let is : (c.is_part_of.result ≡ true) ↔ IsPart c.args.clause.now l.clause =
    subst (λ (d : List Lit). (c.is_part_of.result ≡ true) ↔ IsPart c.args.clause.now d) c.as_slice.ensures c.is_part_of.ensures in
    covers_is c.args.lemmas.now c.args.clause.now c.args.level c.args.n l c.is_part_of.result c.lemma-lemma.ensures c.requires.in_range live high is
