use Rattle.std.proofs.Common.{◌≡◌, ◌∙◌, List, map, ap, sym, subst}
use Rattle.clause_core.specs.declared.literal.Lit.{Lit}
use Rattle.frame_core.specs.declared.parts.Parent.{Parent}
use Rattle.frame_core.specs.Facts.{IsProved}
use Rattle.frame_query.specs.KeptProofs.{parent_at}
use Rattle.frame_query.proofs.Again.{issued_proof}
use Rattle.frame_query.proofs.kept_proofs.issued.Goals as goal

pub new-requires : goal.new-requires
new-requires c =
    let sys = c.args.system.now in
    let level = c.args.level in
    let lemmas = c.args.lemmas.now in
    let proof = c.args.proof.now in
    let names = map (parent_at lemmas) proof.numbers.items in
    let parents : c.in_ok-parents.parents.items ≡ names = c.in_ok-parents.ensures ∙ ap (map (parent_at lemmas)) c.deref.ensures.value in
    let clause : c.in_ok-clause.clause ≡ c.args.clause.now = c.in_ok-clause.ensures ∙ c.as_slice.ensures in
    let part : c.in_ok-part.part ≡ proof.part = c.in_ok-part.ensures ∙ c.as_slice-2.ensures in
    let C : List Lit → Type 0 = λ xs. IsProved record { system = sys; clause = xs; part = c.in_ok-part.part; level = level; parents = c.in_ok-parents.parents.items } in
    let P : List Lit → Type 0 = λ xs. IsProved record { system = sys; clause = c.args.clause.now; part = xs; level = level; parents = c.in_ok-parents.parents.items } in
    let Q : List Parent → Type 0 = λ xs. IsProved record { system = sys; clause = c.args.clause.now; part = proof.part; level = level; parents = xs } in
    subst C (sym clause) (subst P (sym part) (subst Q (sym parents) (issued_proof sys lemmas c.args.clause.now proof level c.requires.kept c.requires.level)))
