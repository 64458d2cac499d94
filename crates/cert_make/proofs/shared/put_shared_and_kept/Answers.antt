use Rattle.std.proofs.Common.{◌++◌, ℕ, [], length, get_or, sym, subst}
use Rattle.std.specs.List.{All}
use Rattle.clause_core.specs.Literals.{Within}
use Rattle.cert_core.specs.declared.form.Form.TheVariants.{Hinted}
use Rattle.cert_core.specs.declared.form.Part.TheVariants.{Kept}
use Rattle.cert_core.specs.Blocks.{part_of}
use Rattle.cert_core.specs.Certificates.{unit_clauses, negated_next, Shows}
use Rattle.cert_check.specs.Judgements.{EachBelow}
use Rattle.cert_make.proofs.Sharing.{kept_derive, all_within, both_put}
use Rattle.cert_make.proofs.shared.put_shared_and_kept.Goals as goal

pub put_kept-requires-clause-derive : goal.put_kept-requires-clause-derive
put_kept-requires-clause-derive c =
    kept_derive c.put_shared.new.checker c.args.state_bits c.args.given.now c.args.clauses.now c.args.log.now c.in_ok-all.all c.put_shared.new.to.shared c.in_ok-all.ensures
    c.in_ok-put_shared.ensures.put.covers c.requires.each

pub put_kept-requires-clause-given : goal.put_kept-requires-clause-given
put_kept-requires-clause-given c =
    let P : ℕ → Type 0 = λ n. All (Within n) c.in_ok-all.all in
    subst P (sym c.in_ok-put_shared.ensures.vars)
    (all_within c.args.checker.now c.args.given.now c.in_ok-all.all c.put_shared.new.to.shared c.in_ok-all.ensures c.requires.given c.in_ok-put_shared.ensures.put.follow)

pub returns-clause-put : goal.returns-clause-put
returns-clause-put c =
    let P : ℕ → Type 0 = λ n.
    EachBelow (λ j. Shows Hinted n (c.in_ok-all.all ++ unit_clauses (negated_next c.args.state_bits (get_or c.args.clauses.now j []))) (part_of c.put_kept.new.to (Kept j)))
    (length c.args.clauses.now) in
    both_put c.args.checker.now c.args.state_bits c.args.given.now c.args.clauses.now c.args.log.now c.in_ok-all.all c.args.to.now c.put_shared.new.to c.put_kept.new.to
    c.in_ok-all.ensures c.in_ok-put_shared.ensures.put (subst P c.in_ok-put_shared.ensures.vars c.in_ok-put_kept.ensures.shown) c.in_ok-put_kept.ensures.rest
