use Rattle.std.proofs.Common.{◌≡◌, ◌<◌, true, List, [], length, get_or, subst, arith, ◌∙◌, sym}
use Rattle.clause_core.specs.declared.literal.Lit.{Lit}
use Rattle.sat_prop.specs.Covers.{covers}
use Rattle.sat_prop.proofs.Covering.{covered_here, retired_more, retired_none}
use Rattle.sat_prop.proofs.cover.retire_if_covered.Goals as goal

pub returns-then-is_part-clause-retired : goal.returns-then-is_part-clause-retired
returns-then-is_part-clause-retired c =
    let cs = c.args.clauses.now in
    let R = c.args.rows.now in
    let lk : c.args.k < length R = omega (arith, c.requires.rows_len, c.requires.later, c.requires.later_in) in
    let P : List Lit → Type 0 = λ x. covers x (get_or cs c.args.k []) ≡ true in
    let Q : List Lit → Type 0 = λ x. covers c.get.result.now x ≡ true in
    let on : covers (get_or cs c.args.later []) (get_or cs c.args.k []) ≡ true = subst P c.get.ensures (subst Q c.get-2.ensures (sym c.is_part.ensures ∙ c.if-is_part.true)) in
    retired_more cs R R c.retire.new.self c.args.k lk (retired_none cs R) c.retire.ensures (covered_here cs c.args.k c.args.later c.requires.later c.requires.later_in on)

pub returns-else-is_part-clause-retired : goal.returns-else-is_part-clause-retired
returns-else-is_part-clause-retired c = retired_none c.args.clauses.now c.args.rows.now
