use Rattle.std.proofs.Common.{◌≡◌, ◌<◌, length, List, [], false, get_or, take, arith, set, ◌∙◌, sym, subst, length-take}
use Rattle.std.proofs.lemmas.List.{get_or-take}
use Rattle.std.proofs.lemmas.List.Elements.{All-contains}
use Rattle.clause_core.specs.declared.literal.Lit.{Lit}
use Rattle.clause_core.specs.Literals.{negate}
use Rattle.clause_core.specs.Propagation.{Settled, UnitIn}
use Rattle.clause_core.specs.Values.{holds, code, unset}
use Rattle.clause_core.proofs.Setting.{unit_forced, unset_less, Includes-set, Grows-set}
use Rattle.rup_check.specs.Passes.{PassSoFar}
use Rattle.rup_check.proofs.Rounds.{pass_rest, pass_still}
use Rattle.rup_check.proofs.passes.pass_over.Goals as goal
use Rattle.rup_check.proofs.passes.pass_over.Goals.{in-UnitOn, in-Rest}

pub loop-k-preserved : goal.loop-k-preserved
loop-k-preserved c =
    let v = c.loop-k.values in
    let old = c.args.values.now in
    let cs = take c.args.count c.args.clauses.now in
    let k = c.loop-k.k in
    let below : k < c.args.count = omega arith in
    let lk : k < length cs = omega (arith, length-take c.args.count c.args.clauses.now) in
    let same : c.get.result.now ≡ get_or cs k [] = c.get.ensures ∙ sym (get_or-take c.args.count c.args.clauses.now k [] below) in
    elim c.match-scan_clause.branch [
      | in-UnitOn w ↦
          let l = w.in-UnitOn.l in
          let P : List Lit → Type 0 = λ x. UnitIn (holds v) x l × (holds v l ≡ false) × (holds v (negate l) ≡ false) in
          let u : P (get_or cs k []) = subst P same w.in-UnitOn.ensures in
          let within : l.var < length old = All-contains (λ m. m.var < length old) (get_or cs k []) l (c.requires.within k [] lk) u.0.0 in
          let lt : l.var < length v = omega arith in
          let fewer : unset (set v l.var (code l.positive)) < unset v = unset_less v l lt u.1 u.2 in
          rw (w.values-is, w.set.ensures, w.changed-is) (record {
            kept = λ t inc closed.
                let now = c.loop-k.invariant.kept t inc closed in
                Includes-set v t l lt now (unit_forced v t cs k [] l lk now closed u.0);
            grows = λ m e. Grows-set v l lt u.2 m (c.loop-k.invariant.grows m e);
            says = omega arith;
            less = omega arith;
          })
      | in-Rest w ↦
          let P : List Lit → Type 0 = Settled (holds v) in
          let s : P (get_or cs k []) = subst P same w.in-Rest.ensures in
          rw (w.values-is, w.changed-is) (record {
            kept = c.loop-k.invariant.kept;
            grows = c.loop-k.invariant.grows;
            says = pass_rest old v cs k [] c.loop-k.changed lk s c.loop-k.invariant.says;
            less = c.loop-k.invariant.less;
          })
    ]

pub returns-else-changed-clause-says : goal.returns-else-changed-clause-says
returns-else-changed-clause-says c =
    let cs = take c.args.count c.args.clauses.now in
    let p : PassSoFar c.args.values.now cs c.loop-k.values c.loop-k.k false = rw c.if-changed.false at c.loop-k.invariant.says in
    pass_still c.args.values.now c.loop-k.values cs c.loop-k.k (omega (arith, length-take c.args.count c.args.clauses.now)) p

pub set-requires : goal.set-requires
set-requires c =
    let old = c.args.values.now in
    let cs = take c.args.count c.args.clauses.now in
    let k = c.loop-k.k in
    let l = c.in-UnitOn.l in
    let below : k < c.args.count = omega arith in
    let lk : k < length cs = omega (arith, length-take c.args.count c.args.clauses.now) in
    let same : c.get.result.now ≡ get_or cs k [] = c.get.ensures ∙ sym (get_or-take c.args.count c.args.clauses.now k [] below) in
    let P : List Lit → Type 0 = λ x. UnitIn (holds c.loop-k.values) x l × (holds c.loop-k.values l ≡ false) × (holds c.loop-k.values (negate l) ≡ false) in
    let u : P (get_or cs k []) = subst P same c.in-UnitOn.ensures in
    let within : l.var < length old = All-contains (λ m. m.var < length old) (get_or cs k []) l (c.requires.within k [] lk) u.0.0 in
    omega arith
