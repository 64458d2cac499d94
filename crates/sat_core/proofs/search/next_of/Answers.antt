use Rattle.std.proofs.Common.{◌≡◌, ◌<◌, ◌+◌, ℕ, List, true, length, take, get_or, arith, subst, sym, ◌∙◌}
use Rattle.std.specs.List.{All}
use Rattle.std.proofs.lemmas.List.{take_all}
use Rattle.std.proofs.lemmas.List.Elements.{All-more}
use Rattle.clause_core.specs.declared.literal.Lit.{Lit}
use Rattle.clause_core.specs.Literals.{none_lit}
use Rattle.clause_core.specs.Values.{holds}
use Rattle.sat_prop.specs.Trails.{among}
use Rattle.sat_core.proofs.Seeing.{seen_true, seen_whole}
use Rattle.sat_core.proofs.search.next_of.Goals as goal

pub loop-j-init : goal.loop-j-init
loop-j-init c = record {
  said = c.requires.seen;
  front = seen_true c.args.trail.now.literals.items c.args.assumptions.now c.args.seen.now c.requires.seen;
}

pub loop-j-preserved : goal.loop-j-preserved
loop-j-preserved c =
    let t = c.args.trail.now in
    let tr = t.literals.items in
    let asked = c.args.assumptions.now in
    let j = c.loop-j.j in
    let a = get_or asked j none_lit in
    let lt : j < length asked = omega arith in
    let P : List ℕ → Type 0 = λ v. holds v a ≡ true in
    let on : among tr a ≡ true = t.values_ok a ∙ subst P c.deref.ensures.value (sym c.is_set.ensures ∙ c.if-not-is_set.false) in
    let front : All (λ b. among tr b ≡ true) (take (j + 1) asked) = All-more (λ b. among tr b ≡ true) asked j none_lit lt c.loop-j.invariant.front on in
    let n : c.len-until.result ≡ length tr = omega (arith, c.len-until.ensures, t.literals.ok.0) in
    record { said = seen_whole tr asked (j + 1) c.len-until.result n front; front = front }

pub returns-clause-says : goal.returns-clause-says
returns-clause-says c =
    let asked = c.args.assumptions.now in
    let all : take c.loop-j.j asked ≡ asked = take_all c.loop-j.j asked (omega arith) in
    let P : List Lit → Type 0 = All (λ a. among c.args.trail.now.literals.items a ≡ true) in
    subst P all c.loop-j.invariant.front
