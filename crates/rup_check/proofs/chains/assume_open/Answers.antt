use Rattle.std.proofs.Common.{◌≡◌, ◌<◌, ◌∙◌, sym, subst, length, List, true, false, take, map, get_or, arith, inl, inr, get_or-set_other}
use Rattle.std.specs.List.{Contains}
use Rattle.std.proofs.lemmas.Bool.{cases_eq}
use Rattle.std.proofs.lemmas.List.{take_all, map_more}
use Rattle.std.proofs.lemmas.List.Elements.{Contains-get_or}
use Rattle.clause_core.specs.declared.literal.Lit.{Lit}
use Rattle.clause_core.specs.Literals.{negate}
use Rattle.clause_core.proofs.Lists.{negate_negate}
use Rattle.clause_core.specs.Values.{holds}
use Rattle.rup_check.specs.Chains.{Matches}
use Rattle.rup_check.proofs.Walking.{Contains-negated, Contains-taken, open_from_matches, Matches-push}
use Rattle.rup_check.proofs.chains.assume_open.Goals as goal

pub returns-then-is_set-clause-says : goal.returns-then-is_set-clause-says
returns-then-is_set-clause-says c =
    let d : Lit = record { var = 0; positive = false } in
    let xs = c.args.c.now in
    let i = c.loop-x.x-index in
    let l = get_or xs i d in
    let on : holds c.loop-x.values l ≡ true = sym c.is_set.ensures ∙ c.if-is_set.true in
    let there : Contains (take i xs) (negate l) = Contains-negated (take i xs) l (c.loop-x.invariant.matches.listed l on) in
    (l, Contains-get_or xs i d (omega arith), Contains-taken i xs (negate l) there)

pub loop-x-preserved : goal.loop-x-preserved
loop-x-preserved c =
    let d : Lit = record { var = 0; positive = false } in
    let v = c.loop-x.values in
    let xs = c.args.c.now in
    let i = c.loop-x.x-index in
    let l = get_or xs i d in
    let lt : i < length xs = omega arith in
    let within : l.var < length c.args.values.now = c.requires.within i d lt in
    let in_v : l.var < length v = omega arith in
    let off : holds v l ≡ false = sym c.is_set.ensures ∙ c.if-is_set.false in
    let P : Lit → Type 0 = λ x. holds v x ≡ false in
    let off' : P (negate (negate l)) = subst P (sym (negate_negate l)) off in
    rw (c.set.ensures, c.negated.ensures) (record {
      matches = rw (map_more negate xs i d lt) (Matches-push v (map negate (take i xs)) (negate l) in_v off' c.loop-x.invariant.matches);
      touched = λ k. elim (cases_eq k l.var) [
        | inl same ↦ inr (l, Contains-get_or xs i d lt, sym same)
        | inr ne ↦ rw get_or-set_other (c.loop-x.invariant.touched k)
      ];
    })

pub returns-clause-says : goal.returns-clause-says
returns-clause-says c =
    let xs = c.args.c.now in
    let e : take c.loop-x.x-index xs ≡ xs = take_all _ _ (omega arith) in
    let P : List Lit → Type 0 = λ w. Matches c.loop-x.values (map negate w) in
    let p : P xs = subst P e c.loop-x.invariant.matches in
    (open_from_matches c.loop-x.values xs p, p)
