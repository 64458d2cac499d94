use Rattle.std.proofs.Common.{◌≡◌, ◌<◌, length, true, false, sym, ◌∙◌, arith}
use borrow.Author.Count.{below_more}
use Rattle.frame_core.specs.Looking.{has_literal, IsHeldBy}
use Rattle.frame_core.proofs.Held.{held_by}
use Rattle.frame_core.proofs.looking.some_holder.Goals as goal

pub returns-then-holds : goal.returns-then-holds
returns-then-holds c =
    let lt : c.loop-n.n < length c.args.lemmas.now = omega (arith, c.len-n-end.ensures, c.loop-n-test.true) in
    (held_by c.args.lemmas.now c.args.clause.now c.args.level c.loop-n.n c.lemma.result.now (has_literal c.args.literals.now)
    c.requires lt c.lemma.ensures).0 (c.holds.ensures.0 c.if-holds.true)

pub loop-n-preserved : goal.loop-n-preserved
loop-n-preserved c =
    let lt : c.loop-n.n < length c.args.lemmas.now = omega (arith, c.len-n-end.ensures, c.loop-n-test.true) in
    below_more (λ k. IsHeldBy c.args.lemmas.now c.args.clause.now c.args.level k → ⊥) c.loop-n.n c.loop-n.invariant
    (λ held.
    let on : c.holds.result ≡ true = c.holds.ensures.1
    ((held_by c.args.lemmas.now c.args.clause.now c.args.level c.loop-n.n c.lemma.result.now (has_literal c.args.literals.now)
    c.requires lt c.lemma.ensures).1 held) in
    let no : true ≡ false = sym on ∙ c.if-holds.false in
    cc)

pub loop-n-preserved-then-not-may_be_part : goal.loop-n-preserved-then-not-may_be_part
loop-n-preserved-then-not-may_be_part c =
    below_more (λ k. IsHeldBy c.args.lemmas.now c.args.clause.now c.args.level k → ⊥) c.loop-n.n c.loop-n.invariant
    (λ held.
    let on : c.may_be_part.result ≡ true = c.may_be_part.ensures c.args.clause.now c.signature_of-signature.ensures held.1 in
    let no : true ≡ false = sym on ∙ c.if-not-may_be_part.true in
    cc)
