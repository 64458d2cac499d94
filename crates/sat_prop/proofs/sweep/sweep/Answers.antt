use Rattle.std.proofs.Common.{◌≡◌, ◌<◌, ◌+◌, ℕ, length, get_or, arith, subst, sym, List, [], Bool, true, false, ap, ◌∙◌, length-set}
use Rattle.std.proofs.lemmas.List.Elements.{All-contains}
use Rattle.clause_core.specs.declared.literal.Lit.{Lit}
use Rattle.clause_core.specs.Literals.{negate}
use Rattle.clause_core.specs.Values.{code, holds, unset}
use Rattle.clause_core.specs.Propagation.{UnitIn, AllFalse, Settled}
use Rattle.sat_prop.specs.declared.trail.Trail.{Trail}
use Rattle.sat_prop.specs.Trails.{Based}
use Rattle.sat_prop.specs.Moves.{Extends, StillSo}
use Rattle.sat_prop.specs.States.{IsBased}
use Rattle.sat_prop.proofs.Keeping.{based_on, based_same, went_alike}
use Rattle.sat_prop.proofs.Sweeps.{false_on, went_push, based_push, still_rest, still_end}
use Rattle.sat_prop.proofs.sweep.sweep.Goals as goal
use Rattle.sat_prop.proofs.sweep.sweep.Goals.{in-UnitOn+in_ok-imply-in-UnitOn, in-Rest}

pub returns-in-False-clause-says : goal.returns-in-False-clause-says
returns-in-False-clause-says c =
    let cs = c.args.clauses.now in
    let t = c.loop-k.trail in
    let k = c.loop-k.k in
    let lk : k < length cs = omega arith in
    let P : List Lit → Type 0 = AllFalse (holds c.deref.result.now) in
    let Q : List ℕ → Type 0 = λ v. AllFalse (holds v) (get_or cs k []) in
    (lk, false_on t.values.items t.literals.items (get_or cs k []) t.values_ok (subst Q c.deref.ensures.value (subst P c.get.ensures c.in-False.ensures)))

pub loop-k-preserved : goal.loop-k-preserved
loop-k-preserved c =
    let cs = c.args.clauses.now in
    let t = c.loop-k.trail in
    let k = c.loop-k.k in
    let lk : k < length cs = omega arith in
    elim c.match-scan_clause.branch [
      | in-UnitOn+in_ok-imply-in-UnitOn w ↦
          let l = w.in-UnitOn.l in
          let P : List Lit → Type 0 = λ x. UnitIn (holds c.deref.result.now) x l × (holds c.deref.result.now l ≡ false) × (holds c.deref.result.now (negate l) ≡ false) in
          let Q : List ℕ → Type 0 = λ v. UnitIn (holds v) (get_or cs k []) l × (holds v l ≡ false) × (holds v (negate l) ≡ false) in
          let u : Q t.values.items = subst Q c.deref.ensures.value (subst P c.get.ensures w.in-UnitOn.ensures) in
          let in_first : l.var < length c.args.trail.now.values.items =
          All-contains (λ m. m.var < length c.args.trail.now.values.items) (get_or cs k []) l (c.requires.based.within k [] lk) u.0.0 in
          let in_now : l.var < length t.values.items = omega (arith, in_first, c.loop-k.invariant.extends.vars) in
          let in_why : l.var < length t.reasons.items = omega (arith, in_now, t.reasons_len) in
          let done = w.in_ok-imply-in-UnitOn.ensures in
          let new = w.imply.new.self in
          let step : Extends c.args.trail.now new × (unset new.values.items < unset c.args.trail.now.values.items) =
          went_push c.args.trail.now t new l c.loop-k.invariant.extends in_now u.1 u.2 done.pushed.literals done.pushed.values done.level_starts in
          let based = based_push t.values.items t.reasons.items t.literals.items cs l k in_why t.values_ok u.1 u.2 lk u.0 c.loop-k.invariant.based.reasons in
          let B : Trail → Type 0 = IsBased cs in
          let W : Trail → Type 0 = λ x. Extends c.args.trail.now x in
          let S : Trail → Type 0 = λ x. StillSo cs c.args.trail.now x (k + 1) true in
          let T : Bool → Type 0 = λ b. StillSo cs c.args.trail.now c.match-scan_clause.trail (k + 1) b in
          let R : Trail → Type 0 = λ x. Based x.literals.items x.reasons.items cs in
          let reasons : R new = rw (done.pushed.literals, done.pushed.reasons) based in
          let same : length new.values.items ≡ length t.values.items = ap length done.pushed.values ∙ length-set t.values.items l.var (code l.positive) in
          let based' : B new = based_on cs t new reasons same c.loop-k.invariant.based in
          record {
            based = subst B (sym w.trail-is) based';
            extends = subst W (sym w.trail-is) step.0;
            says = subst T (sym w.changed-is) (subst S (sym w.trail-is) step.1);
          }
      | in-Rest w ↦
          let P : List Lit → Type 0 = Settled (holds c.deref.result.now) in
          let Q : List ℕ → Type 0 = λ v. Settled (holds v) (get_or cs k []) in
          let s : Q t.values.items = subst Q c.deref.ensures.value (subst P c.get.ensures w.in-Rest.ensures) in
          let B : Trail → Type 0 = IsBased cs in
          let W : Trail → Type 0 = λ x. Extends c.args.trail.now x in
          let S : Trail → Type 0 = λ x. StillSo cs c.args.trail.now x (k + 1) c.loop-k.changed in
          let T : Bool → Type 0 = λ b. StillSo cs c.args.trail.now c.match-scan_clause.trail (k + 1) b in
          record {
            based = subst B (sym w.trail-is) c.loop-k.invariant.based;
            extends = subst W (sym w.trail-is) c.loop-k.invariant.extends;
            says = subst T (sym w.changed-is) (subst S (sym w.trail-is) (still_rest c.args.trail.now t cs k [] c.loop-k.changed lk s c.loop-k.invariant.says));
          }
    ]

pub returns-else-changed-clause-says : goal.returns-else-changed-clause-says
returns-else-changed-clause-says c =
    let T : Bool → Type 0 = λ b. StillSo c.args.clauses.now c.args.trail.now c.loop-k.trail c.loop-k.k b in
    let p : T false = subst T c.if-changed.false c.loop-k.invariant.says in
    still_end c.args.trail.now c.loop-k.trail c.args.clauses.now c.loop-k.k (omega arith) p

pub returns-in_err-imply-in-UnitOn-clause-based : goal.returns-in_err-imply-in-UnitOn-clause-based
returns-in_err-imply-in-UnitOn-clause-based c = based_same c.args.clauses.now c.loop-k.trail c.imply.new.self c.in_err-imply-in-UnitOn.ensures.failed c.loop-k.invariant.based

pub returns-in_err-imply-in-UnitOn-clause-extends : goal.returns-in_err-imply-in-UnitOn-clause-extends
returns-in_err-imply-in-UnitOn-clause-extends c = went_alike c.args.trail.now c.loop-k.trail c.imply.new.self c.in_err-imply-in-UnitOn.ensures.failed c.loop-k.invariant.extends
