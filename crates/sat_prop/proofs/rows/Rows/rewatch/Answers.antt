use Rattle.std.proofs.Common.{◌≡◌, ◌<◌, [], length, get_or, set, map, sym, subst, ap, ◌∙◌, arith}
use Rattle.std.proofs.lemmas.List.{get_or-map, length-map}
use Rattle.clause_core.specs.declared.literal.Lit.{Lit}
use Rattle.clause_core.specs.Literals.{none_lit, at}
use Rattle.sat_prop.specs.Words.{literal_of}
use Rattle.sat_prop.proofs.Rewatched.{three_sets}
use Rattle.sat_prop.proofs.rows.Rows.rewatch.Goals as goal

pub returns : goal.returns
returns c =
    let row = get_or c.args.self.now c.args.k [] in
    let words = c.get.result.now in
    let same : map literal_of words ≡ row = c.get.ensures in
    let lj : c.args.j < length words = omega (arith, c.requires.place, ap length same, length-map words literal_of) in
    let first : c.literal-first.result ≡ at row c.args.j = c.literal-first.ensures ∙ sym (get_or-map literal_of words c.args.j 0 none_lit lj) ∙ ap (λ v. at v c.args.j) same in
    let one = c.put.new.self in
    let P : Lit → Type 0 = λ x. c.put-2.new.self ≡ set one c.args.k (set (get_or one c.args.k []) 0 x) in
    three_sets c.args.self.now c.args.k c.args.j c.args.other c.args.fallen one c.put-2.new.self c.put-3.new.self c.requires.row c.put.ensures (subst P first c.put-2.ensures) c.put-3.ensures
