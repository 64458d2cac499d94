use Rattle.std.proofs.Common.{◌≡◌, ◌<◌, ◌≤◌, ℕ, length, List, [], false, refl, get_or, arith, set, subst}
use Rattle.std.proofs.lemmas.List.Elements.{All-contains}
use Rattle.clause_core.specs.declared.literal.Lit.{Lit}
use Rattle.clause_core.specs.Propagation.{Settled}
use Rattle.clause_core.specs.Values.{holds, code, unset}
use Rattle.clause_core.proofs.Setting.{unset_less, Grows-set}
use Rattle.rup_check.specs.Chains.{before, Forces}
use Rattle.rup_check.specs.Passes.{PassSoFar}
use Rattle.rup_check.proofs.Rounds.{pass_rest, pass_still}
use Rattle.rup_check.proofs.Leading.{leads_more}
use Rattle.rup_check.proofs.Walking.{Forces-from_scan}
use Rattle.rup_check.proofs.searching.search_pass.Goals as goal
use Rattle.rup_check.proofs.searching.search_pass.Goals.{in-Some+in-UnitOn+in_ok-push-in-UnitOn, in-Some+in-Rest, in-None}

pub loop-h-preserved : goal.loop-h-preserved
loop-h-preserved c =
    let v = c.loop-h.values in
    let old = c.args.values.now in
    let steps = c.args.steps.now in
    let cs = before c.args.clauses.now c.args.units.now steps (length steps) in
    let h = c.loop-h.h in
    let lk : h < length cs = omega arith in
    let count = c.len-count.ensures in
    elim c.match-clause_at.branch [
      | in-Some+in-UnitOn+in_ok-push-in-UnitOn w ↦
          let l = w.in-UnitOn.l in
          let S : ℕ → Type 0 = λ n. w.in-Some.c.now ≡ get_or (before c.args.clauses.now c.args.units.now steps n) h [] in
          let f : Forces v (get_or cs h []) l = Forces-from_scan v _ (get_or cs h []) l (subst S count w.in-Some.ensures.some) w.in-UnitOn.ensures in
          let within : l.var < length old = All-contains (λ m. m.var < length old) (get_or cs h []) l (c.requires.within h [] lk) f.unit.0 in
          let lt : l.var < length v = omega arith in
          let fewer : unset (set v l.var (code l.positive)) < unset v = unset_less v l lt f.not_true f.not_false in
          rw (w.values-is, w.set.ensures, w.changed-is, w.found-is, w.in_ok-push-in-UnitOn.ensures.items) (record {
            grows = λ m e. Grows-set v l lt f.not_false m (c.loop-h.invariant.grows m e);
            less = omega arith;
            says = omega arith;
            carries = λ start leads. leads_more cs start c.loop-h.found.items v h l lk f (c.loop-h.invariant.carries start leads);
          })
      | in-Some+in-Rest w ↦
          let S : ℕ → Type 0 = λ n. w.in-Some.c.now ≡ get_or (before c.args.clauses.now c.args.units.now steps n) h [] in
          let P : List Lit → Type 0 = Settled (holds v) in
          let s : P (get_or cs h []) = subst P (subst S count w.in-Some.ensures.some) w.in-Rest.ensures in
          rw (w.values-is, w.changed-is, w.found-is) (record {
            grows = c.loop-h.invariant.grows;
            less = c.loop-h.invariant.less;
            says = pass_rest old v cs h [] c.loop-h.changed lk s c.loop-h.invariant.says;
            carries = c.loop-h.invariant.carries;
          })
      | in-None w ↦
          let N : ℕ → Type 0 = λ n. length (before c.args.clauses.now c.args.units.now steps n) ≤ h in
          let past : length cs ≤ h = subst N count (w.in-None.ensures.none refl) in
          absurd (omega arith)
    ]

pub returns-else-changed-clause-says : goal.returns-else-changed-clause-says
returns-else-changed-clause-says c =
    let cs = before c.args.clauses.now c.args.units.now c.args.steps.now (length c.args.steps.now) in
    let p : PassSoFar c.args.values.now cs c.loop-h.values c.loop-h.h false = rw c.if-changed.false at c.loop-h.invariant.says in
    pass_still c.args.values.now c.loop-h.values cs c.loop-h.h (omega arith) p
