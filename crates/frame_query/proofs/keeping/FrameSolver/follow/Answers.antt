use Rattle.std.proofs.Common.{◌≡◌, ◌∙◌, length, take, ap, arith, sym, subst}
use Rattle.std.specs.Prelude.{All}
use Rattle.std.proofs.lemmas.List.{length-take-le}
use Rattle.clause_core.specs.Literals.{Within}
use Rattle.frame_core.specs.declared.parts.Lemma.{Lemma}
use Rattle.frame_core.specs.FrameLaw.{system_at}
use Rattle.frame_query.specs.Findings.{SolverView, IsOlder}
use Rattle.frame_query.proofs.Followed.{kept_followed, prefix_older}
use Rattle.frame_query.proofs.keeping.FrameSolver.follow.Goals as goal

pub follow_levels-requires : goal.follow_levels-requires
follow_levels-requires c = let K : SolverView → Type 0 = λ v. IsOlder v.lemmas c.args.lemmas.now in subst K (sym c.self.view_is) c.requires.older

pub follow_adds-requires : goal.follow_adds-requires
follow_adds-requires c =
    let K : SolverView → Type 0 = λ v. IsOlder v.lemmas c.args.lemmas.now in
    let older : IsOlder c.self.inside.lemmas c.args.lemmas.now = subst K (sym c.self.view_is) c.requires.older in
    let taken : length c.follow_levels.new.copy ≡ length c.self.inside.lemmas =
    ap length c.follow_levels.ensures ∙ length-take-le (length c.self.inside.lemmas) c.args.lemmas.now older.shorter in
    c.follow_levels.ensures ∙ ap (λ k. take k c.args.lemmas.now) (sym taken)

pub invariant_of-self : goal.invariant_of-self
invariant_of-self c =
    let K : SolverView → Type 0 = λ v. IsOlder v.lemmas c.args.lemmas.now in
    let W : SolverView → Type 0 = λ v. All (λ (l : Lemma). Within (system_at v.systems 0).state_bits l.clause) c.args.lemmas.now in
    let older : IsOlder c.self.inside.lemmas c.args.lemmas.now = subst K (sym c.self.view_is) c.requires.older in
    let taken : length c.follow_levels.new.copy ≡ length c.self.inside.lemmas =
    ap length c.follow_levels.ensures ∙ length-take-le (length c.self.inside.lemmas) c.args.lemmas.now older.shorter in
    kept_followed c.self.inside.systems.now c.self.inside.lemmas c.follow_adds.new.copy c.args.lemmas.now c.self.inside.steps c.self.inside.states c.self.inside.known c.self.inside.proofs.items c.self.invariant older
    (subst W (sym c.self.view_is) c.requires.within) c.follow_adds.ensures.part (omega (arith, c.follow_adds.ensures.more, taken))

pub returns-clause-older : goal.returns-clause-older
returns-clause-older c = prefix_older c.follow_adds.new.copy c.args.lemmas.now c.follow_adds.ensures.part
