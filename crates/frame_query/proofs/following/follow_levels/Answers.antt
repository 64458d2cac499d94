use Rattle.std.proofs.Common.{◌≡◌, ◌∙◌, ◌+◌, length, ap, arith, subst, ℕ}
use Rattle.frame_core.specs.declared.parts.Lemma.{Lemma}
use Rattle.frame_query.proofs.Followed.{IsFollowed, followed_none, followed_more, followed_skip, followed_all}
use Rattle.frame_query.proofs.following.follow_levels.Goals as goal

pub next_change-n-requires-clause-longer : goal.next_change-n-requires-clause-longer
next_change-n-requires-clause-longer c = c.requires.shorter

pub changes-init : goal.changes-init
changes-init c =
    let lemmas = c.args.lemmas.now in
    let copy = c.args.copy.now in
    let skips = c.next_change-n.ensures in (
      followed_skip lemmas copy copy 0 c.next_change-n.result c.requires (followed_none lemmas copy) skips,
      skips.within,
    )

pub follow_at-requires-clause-in_lemmas : goal.follow_at-requires-clause-in_lemmas
follow_at-requires-clause-in_lemmas c = omega (arith, c.requires.shorter, c.changes.invariant.0.long)

pub follow_at-requires-clause-clause : goal.follow_at-requires-clause-clause
follow_at-requires-clause-clause c =
    let long : length c.changes.copy ≡ length c.args.copy.now = c.changes.invariant.0.long in
    ap (λ (l : Lemma). l.clause) (c.changes.invariant.0.same c.changes.n (omega arith)) ∙ c.requires.clause c.changes.n (omega arith)

pub follow_at-requires-clause-live : goal.follow_at-requires-clause-live
follow_at-requires-clause-live c = λ v.
    let long : length c.changes.copy ≡ length c.args.copy.now = c.changes.invariant.0.long in
    ap (λ (l : Lemma). l.live) (c.changes.invariant.0.same c.changes.n (omega arith)) ∙ c.requires.live c.changes.n (omega arith) v

pub changes-preserved : goal.changes-preserved
changes-preserved c =
    let lemmas = c.args.lemmas.now in
    let old = c.args.copy.now in
    let n = c.changes.n in
    let copy = c.follow_at.new.copy in
    let skips = c.next_change-n-in-changes.ensures in
    let here : IsFollowed lemmas old (n + 1) copy = followed_more lemmas old n c.changes.copy copy c.changes.invariant.0 (omega arith) c.follow_at.ensures in (
      followed_skip lemmas old copy (n + 1) c.next_change-n-in-changes.result c.requires here skips,
      skips.within,
    )

pub returns : goal.returns
returns c =
    let P : ℕ → Type 0 = λ n. IsFollowed c.args.lemmas.now c.args.copy.now n c.changes.copy in
    let long = c.changes.invariant.0.long in
    let e : c.changes.n ≡ length c.args.copy.now = omega (arith, c.changes-test.false, c.changes.invariant.1) in
    followed_all c.args.lemmas.now c.args.copy.now c.changes.copy c.requires.shorter (subst P e c.changes.invariant.0)
