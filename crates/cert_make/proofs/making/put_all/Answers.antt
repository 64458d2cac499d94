use Rattle.std.proofs.Common.{◌++◌, List, ap, ◌∙◌}
use Rattle.clause_core.specs.declared.literal.Lit.{Lit}
use Rattle.cert_make.proofs.Sharing.{certified}
use Rattle.cert_make.proofs.making.put_all.Goals as goal

pub returns-clause-says : goal.returns-clause-says
returns-clause-says g c =
    let sys = c.args.system.now in
    let cs = c.args.clauses.now in
    let first = rw c.in-Refuted.is at c.in_ok-drawn.ensures.says in
    let kept = rw c.in-Refuted-2.is at c.in_ok-drawn-2.ensures.says in
    let safe = rw c.in-Refuted-3.is at c.in_ok-drawn-3.ensures.says in
    certified sys cs c.in_ok-given.given c.in_ok-bad.bad c.args.to.now c.put_first.new.to c.put_kept.new.to c.put_safe.new.to c.requires.within c.requires.form c.requires.counter
    c.requires.clauses first (c.in_ok-given.ensures ∙ ap (λ (w : List (List Lit)). cs ++ w) c.step.ensures) kept
    (c.in_ok-bad.ensures ∙ ap (λ (w : List (List Lit)). cs ++ w) c.bad.ensures) safe

pub returns-in-Spent-2-clause-pays : goal.returns-in-Spent-2-clause-pays
returns-in-Spent-2-clause-pays g c =
    let first = rw c.in-Refuted.is at c.in_ok-drawn.ensures.pays in
    let kept = rw c.in-Spent-2.is at c.in_ok-drawn-2.ensures.pays in
    λ start h. kept start (first start h)

pub returns-in-Spent-3-clause-pays : goal.returns-in-Spent-3-clause-pays
returns-in-Spent-3-clause-pays g c =
    let first = rw c.in-Refuted.is at c.in_ok-drawn.ensures.pays in
    let kept = rw c.in-Refuted-2.is at c.in_ok-drawn-2.ensures.pays in
    let safe = rw c.in-Spent-3.is at c.in_ok-drawn-3.ensures.pays in
    λ start h. safe start (kept start (first start h))

pub returns-clause-pays : goal.returns-clause-pays
returns-clause-pays g c =
    let first = rw c.in-Refuted.is at c.in_ok-drawn.ensures.pays in
    let kept = rw c.in-Refuted-2.is at c.in_ok-drawn-2.ensures.pays in
    let safe = rw c.in-Refuted-3.is at c.in_ok-drawn-3.ensures.pays in
    λ start h. safe start (kept start (first start h))
