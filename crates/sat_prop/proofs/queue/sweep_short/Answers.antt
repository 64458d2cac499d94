use Rattle.std.proofs.Common.{◌≡◌, ◌<◌, ◌+◌, ℕ, ◌∷◌, length, get_or, arith, subst, sym, ◌∙◌, ◌⊎◌, List, [], ap, true, false, inl, inr, length-append}
use Rattle.std.proofs.lemmas.Bool.{cases_eq}
use Rattle.std.proofs.lemmas.List.Elements.{All-contains}
use Rattle.clause_core.specs.declared.literal.Lit.{Lit}
use Rattle.clause_core.specs.Literals.{at, negate}
use Rattle.clause_core.specs.Values.{holds}
use Rattle.clause_core.specs.Propagation.{UnitIn, AllFalse, Settled}
use Rattle.sat_prop.specs.declared.trail.Trail.{Trail}
use Rattle.sat_prop.specs.Trails.{Based, among}
use Rattle.sat_prop.specs.Moves.{Extends}
use Rattle.sat_prop.specs.Watches.{ShortDone}
use Rattle.sat_prop.specs.Roots.{ShortSwept}
use Rattle.sat_prop.specs.States.{IsBased}
use Rattle.sat_prop.proofs.Keeping.{based_on, based_same, went_alike}
use Rattle.sat_prop.proofs.Ways.{among_here, at_end}
use Rattle.sat_prop.proofs.Sweeps.{false_on, went_push, went_none, based_push, settled_same}
use Rattle.sat_prop.proofs.Visits.{went_grows}
use Rattle.sat_prop.proofs.Watching.{true_from, true_grows}
use Rattle.sat_prop.proofs.Queues.{one_settled}
use Rattle.sat_prop.proofs.Rooted.{swept_step}
use Rattle.sat_prop.proofs.queue.sweep_short.Goals as goal
use Rattle.sat_prop.proofs.queue.sweep_short.Goals.{then-k-len+in-UnitOn+in_ok-imply-in-UnitOn, then-k-len+in-Rest, else-k-len}

pub returns-in-False-clause-says : goal.returns-in-False-clause-says
returns-in-False-clause-says c =
    let cs = c.args.clauses.now in
    let t = c.short.trail in
    let k = get_or c.args.short.now c.short.j 0 in
    let lk : k < length cs = omega (arith, c.if-k-len.true, c.len.ensures) in
    let P : List Lit → Type 0 = AllFalse (holds c.deref.result.now) in
    let Q : List ℕ → Type 0 = λ v. AllFalse (holds v) (get_or cs k []) in
    (lk, false_on t.values.items t.literals.items (get_or cs k []) t.values_ok (subst Q c.deref.ensures.value (subst P c.get.ensures c.in-False.ensures)))

done_on : (cs : List (List Lit)) (t t' : Trail) (short : List ℕ) (j : ℕ) → Extends t t' → ((i : ℕ) → i < j → ShortDone cs t.literals.items (get_or short i 0)) →
    ShortDone cs t'.literals.items (get_or short j 0) → (i : ℕ) → i < j + 1 → ShortDone cs t'.literals.items (get_or short i 0)
done_on cs t t' short j w old now i li =
    elim (cases_eq i j) [
      | inl same ↦ let P : ℕ → Type 0 = λ x. ShortDone cs t'.literals.items (get_or short x 0) in subst P (sym same) now
      | inr ne ↦ λ lk one. true_grows t.literals.items t'.literals.items (get_or cs (get_or short i 0) []) (λ l on. went_grows t t' w l on) (old i (omega (arith, li, ne)) lk one)
    ]

pub short-preserved : goal.short-preserved
short-preserved c =
    let cs = c.args.clauses.now in
    let t = c.short.trail in
    let k = get_or c.args.short.now c.short.j 0 in
    let inv = c.short.invariant in
    let B : Trail → Type 0 = IsBased cs in
    let W : Trail → Type 0 = λ x. Extends c.args.trail.now x in
    let D : Trail → Type 0 = λ x. (i : ℕ) → i < c.short.j + 1 → ShortDone cs x.literals.items (get_or c.args.short.now i 0) in
    let S : Trail → Type 0 = λ x. ShortSwept cs c.args.short.now c.swept_to.result x.literals.items in
    let low : c.short.j < length c.args.short.now = omega arith in
    let count : (c.swept_to.result ≡ c.short.swept) ⊎ ((c.short.swept ≡ c.short.j) × (k < length cs) × (c.swept_to.result ≡ c.short.j + 1)) =
    (let L : ℕ → Type 0 = λ n. (c.swept_to.result ≡ c.short.swept) ⊎ ((c.short.swept ≡ c.short.j) × (k < n) × (c.swept_to.result ≡ c.short.j + 1)) in
    subst L c.len-in-short.ensures c.swept_to.ensures) in
    elim c.if-k-len.branch [
      | then-k-len+in-UnitOn+in_ok-imply-in-UnitOn w ↦
          let lk : k < length cs = omega (arith, w.if-k-len.true, c.len.ensures) in
          let l = w.in-UnitOn.l in
          let P : List Lit → Type 0 = λ x. UnitIn (holds w.deref.result.now) x l × (holds w.deref.result.now l ≡ false) × (holds w.deref.result.now (negate l) ≡ false) in
          let Q : List ℕ → Type 0 = λ v. UnitIn (holds v) (get_or cs k []) l × (holds v l ≡ false) × (holds v (negate l) ≡ false) in
          let u : Q t.values.items = subst Q w.deref.ensures.value (subst P w.get.ensures w.in-UnitOn.ensures) in
          let in_first : l.var < length c.args.trail.now.values.items =
          All-contains (λ m. m.var < length c.args.trail.now.values.items) (get_or cs k []) l (c.requires.based.within k [] lk) u.0.0 in
          let in_now : l.var < length t.values.items = omega (arith, in_first, inv.extends.vars) in
          let in_why : l.var < length t.reasons.items = omega (arith, in_now, t.reasons_len) in
          let done = w.in_ok-imply-in-UnitOn.ensures in
          let new = w.imply.new.self in
          let step = went_push c.args.trail.now t new l inv.extends in_now u.1 u.2 done.pushed.literals done.pushed.values done.level_starts in
          let one = went_push t t new l (went_none t) in_now u.1 u.2 done.pushed.literals done.pushed.values done.level_starts in
          let P : Trail → Type 0 = λ x. Based x.literals.items x.reasons.items cs in
          let reasons : P new = rw (done.pushed.literals, done.pushed.reasons) (based_push t.values.items t.reasons.items t.literals.items cs l k in_why t.values_ok u.1 u.2 lk u.0 inv.based.reasons) in
          let based' : B new = based_on cs t new reasons one.0.vars inv.based in
          let on : among new.literals.items l ≡ true =
          among_here new.literals.items (length t.literals.items) l (omega (arith, ap length done.pushed.literals, length-append t.literals.items (l ∷ []))) (ap (λ xs. at xs (length t.literals.items)) done.pushed.literals ∙ at_end t.literals.items l) in
          let now : ShortDone cs new.literals.items k = λ _ _. true_from new.literals.items (get_or cs k []) l u.0.0 on in
          let all : D new = done_on cs t new c.args.short.now c.short.j one.0 inv.done now in
          record { based = subst B (sym w.trail-is) based'; extends = subst W (sym w.trail-is) step.0; done = subst D (sym w.trail-is) all; swept = subst S (sym w.trail-is) (swept_step cs c.args.short.now c.short.swept c.swept_to.result c.short.j t new one.0 low count all inv.swept) }
      | then-k-len+in-Rest w ↦
          let P : List Lit → Type 0 = Settled (holds w.deref.result.now) in
          let Q : List ℕ → Type 0 = λ v. Settled (holds v) (get_or cs k []) in
          let s : Q t.values.items = subst Q w.deref.ensures.value (subst P w.get.ensures w.in-Rest.ensures) in
          let now : ShortDone cs t.literals.items k = λ _ one. one_settled t.literals.items (get_or cs k []) one
          (settled_same (holds t.values.items) (among t.literals.items) (get_or cs k []) (λ l. sym (t.values_ok l)) s) in
          let all : D t = done_on cs t t c.args.short.now c.short.j (went_none t) inv.done now in
          record { based = subst B (sym w.trail-is) inv.based; extends = subst W (sym w.trail-is) inv.extends; done = subst D (sym w.trail-is) all; swept = subst S (sym w.trail-is) (swept_step cs c.args.short.now c.short.swept c.swept_to.result c.short.j t t (went_none t) low count all inv.swept) }
      | else-k-len w ↦
          let now : ShortDone cs t.literals.items k = λ lk. absurd (omega (arith, w.if-k-len.false, c.len.ensures, lk)) in
          let all : D t = done_on cs t t c.args.short.now c.short.j (went_none t) inv.done now in
          record { based = subst B (sym w.trail-is) inv.based; extends = subst W (sym w.trail-is) inv.extends; done = subst D (sym w.trail-is) all; swept = subst S (sym w.trail-is) (swept_step cs c.args.short.now c.short.swept c.swept_to.result c.short.j t t (went_none t) low count all inv.swept) }
    ]

pub returns-in_err-imply-in-UnitOn-clause-swept : goal.returns-in_err-imply-in-UnitOn-clause-swept
returns-in_err-imply-in-UnitOn-clause-swept c =
    let P : List Lit → Type 0 = ShortSwept c.args.clauses.now c.args.short.now c.short.swept in
    subst P (sym c.in_err-imply-in-UnitOn.ensures.failed.literals) c.short.invariant.swept

pub returns-in_err-imply-in-UnitOn-clause-based : goal.returns-in_err-imply-in-UnitOn-clause-based
returns-in_err-imply-in-UnitOn-clause-based c = based_same c.args.clauses.now c.short.trail c.imply.new.self c.in_err-imply-in-UnitOn.ensures.failed c.short.invariant.based

pub returns-in_err-imply-in-UnitOn-clause-extends : goal.returns-in_err-imply-in-UnitOn-clause-extends
returns-in_err-imply-in-UnitOn-clause-extends c = went_alike c.args.trail.now c.short.trail c.imply.new.self c.in_err-imply-in-UnitOn.ensures.failed c.short.invariant.extends
