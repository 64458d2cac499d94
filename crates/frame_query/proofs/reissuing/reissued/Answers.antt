use Rattle.std.proofs.Common.{◌∙◌, List, ap, sym, subst}
use Rattle.clause_core.specs.declared.literal.Lit.{Lit}
use Rattle.clause_core.specs.Systems.{TransitionSystem}
use Rattle.frame_core.specs.declared.parts.Parent.{Parent}
use Rattle.frame_core.specs.Facts.{IsProved, ProvedClause}
use Rattle.frame_query.proofs.Found.{at_level}
use Rattle.frame_query.proofs.reissuing.reissued.Goals as goal

pub new-requires : goal.new-requires
new-requires c =
    let p = c.args.proved in
    let q = c.into_parts-clause.result in
    let e = c.into_parts-clause.ensures in
    let level = c.args.level in
    let S : TransitionSystem → Type 0 = λ s. IsProved record { system = s; clause = q.clause; part = q.part; level = level; parents = q.parents.items } in
    let C : List Lit → Type 0 = λ xs. IsProved record { system = p.system; clause = xs; part = q.part; level = level; parents = q.parents.items } in
    let P : List Lit → Type 0 = λ xs. IsProved record { system = p.system; clause = p.clause; part = xs; level = level; parents = q.parents.items } in
    let Q : List Parent → Type 0 = λ xs. IsProved record { system = p.system; clause = p.clause; part = p.part; level = level; parents = xs } in
    subst S (sym c.system-system.ensures.value) (subst C (sym e.clause) (subst P (sym e.part) (subst Q (sym e.parents)
    (at_level p e.shown c.requires.was level c.requires.now))))

pub returns : goal.returns
returns c =
    let p = c.args.proved in
    let q = c.into_parts-clause.result in
    let e = c.into_parts-clause.ensures in
    let level = c.args.level in
    let S : TransitionSystem → ProvedClause = λ s. record { system = s; clause = q.clause; part = q.part; level = level; parents = q.parents.items } in
    let C : List Lit → ProvedClause = λ xs. record { system = p.system; clause = xs; part = q.part; level = level; parents = q.parents.items } in
    let P : List Lit → ProvedClause = λ xs. record { system = p.system; clause = p.clause; part = xs; level = level; parents = q.parents.items } in
    let Q : List Parent → ProvedClause = λ xs. record { system = p.system; clause = p.clause; part = p.part; level = level; parents = xs } in
    c.new.ensures ∙ ap S c.system-system.ensures.value ∙ ap C e.clause ∙ ap P e.part ∙ ap Q e.parents
