use Rattle.std.proofs.Common.{◌≡◌, ◌<◌, ◌≤◌, ◌∙◌, ℕ, List, [], length, get_or, ap, sym, subst, refl, arith}
use Rattle.clause_core.specs.declared.literal.Lit.{Lit}
use Rattle.sat_core.specs.Queries.{State}
use Rattle.cert_core.specs.declared.form.Part.TheVariants.{First}
use Rattle.cert_core.specs.Certificates.{negated, first_clauses}
use Rattle.cert_check.proofs.Joining.{first_more, puts_at}
use Rattle.cert_make.specs.Paying.{HasNoModel}
use Rattle.cert_make.proofs.Refuting.{first_units, init_units}
use Rattle.cert_make.proofs.Models.{first_no_model}
use Rattle.cert_make.proofs.Paid.{at_place, forgets_all, starts_new, pays_more, pays_open}
use Rattle.cert_make.proofs.making.put_first_with.Goals as goal

-- the units are the negated clause
units_are : (k : ℕ) (cs : List (List Lit)) (c units : List Lit) → c ≡ get_or cs k [] → units ≡ negated c → units ≡ negated (get_or cs k [])
units_are k cs c units ec eu = eu ∙ ap negated ec

pub put_part-requires-clause-units : goal.put_part-requires-clause-units
put_part-requires-clause-units g c =
    let room : c.args.system.now.state_bits ≤ c.loop-k.checker = omega (arith, c.law.ensures.room, c.loop-k.invariant.vars, c.requires.vars) in
    first_units c.args.system.now.state_bits c.loop-k.checker c.args.clauses.now c.loop-k.k c.get.result.now c.deref.result.now room c.requires.within c.get.ensures
    (c.deref.ensures.value ∙ c.in_ok-units.ensures) (omega arith)

pub put_part-requires-clause-no_model : goal.put_part-requires-clause-no_model
put_part-requires-clause-no_model g c =
    let sys = c.args.system.now in
    let cs : List (List Lit) = c.args.clauses.now in
    let e = units_are c.loop-k.k cs c.get.result.now c.deref.result.now c.get.ensures (c.deref.ensures.value ∙ c.in_ok-units.ensures) in
    let P : List (List Lit) → Type 0 = λ w. HasNoModel w c.deref.result.now in
    let Q : List Lit → Type 0 = HasNoModel sys.init in
    subst P (sym c.init.ensures) (subst Q (sym e) (first_no_model sys cs c.loop-k.k c.requires.invariant (omega arith)))

pub loop-k-init : goal.loop-k-init
loop-k-init g c = record {
  vars = refl;
  more = record { shown = λ j lt. absurd (omega (arith, lt)); count = refl; rest = refl };
  same_vars = ap (λ (s : State). s.vars) c.requires.fresh;
  same = ap (λ (s : State). s.given) c.requires.fresh;
  pays = λ start h. starts_new c.args.system.now c.args.clauses.now c.args.system.now.init 0 c.args.solver.now start _ c.requires.fresh h;
  kept = g.met.Q.Purse.kept_refl c.args.purse.now;
  ready = c.requires.ready;
  budget = refl;
}

pub loop-k-preserved : goal.loop-k-preserved
loop-k-preserved g c =
    let sys = c.args.system.now in
    let cs : List (List Lit) = c.args.clauses.now in
    let k : ℕ = c.loop-k.k in
    let below : k < length cs = omega arith in
    let old = c.loop-k.invariant in
    let asked = c.in_ok-drawn.ensures in
    let says = rw c.in-Refuted.is at asked.says in
    let given : ℕ → List (List Lit) = λ j. first_clauses sys (get_or cs j []) in
    let lt : k < length c.args.to.now.first = omega (arith, c.law-2.ensures.first_count, ap length c.requires.clauses) in
    let same = init_units sys cs k c.init.result.now c.get.result.now c.deref.result.now c.init.ensures c.get.ensures (c.deref.ensures.value ∙ c.in_ok-units.ensures) in
    let puts = puts_at _ sys.all_bits _ (given k) (First k) c.loop-k.to c.put_part.new.to (old.vars ∙ c.requires.vars) same says in
    let e = units_are k cs c.get.result.now c.deref.result.now c.get.ensures (c.deref.ensures.value ∙ c.in_ok-units.ensures) in
    record {
      vars = asked.vars ∙ old.vars;
      more = first_more sys.all_bits given c.args.to.now c.loop-k.to c.put_part.new.to k lt old.more puts;
      same_vars = asked.learned.vars ∙ old.same_vars;
      same = asked.learned.given ∙ old.same;
      pays = λ start h. pays_more sys cs (First k) c.loop-k.solver c.put_part.new.solver c.deref.result.now _ _ below old.same_vars old.same e asked.pays start (old.pays start h);
      kept = g.met.Q.Purse.kept_trans c.args.purse.now c.loop-k.purse c.put_part.new.purse old.kept asked.kept;
      ready = asked.ready;
      budget = asked.budget ∙ old.budget;
    }

pub returns-in-Spent-clause-pays : goal.returns-in-Spent-clause-pays
returns-in-Spent-clause-pays g c =
    let sys = c.args.system.now in
    let cs : List (List Lit) = c.args.clauses.now in
    let k : ℕ = c.loop-k.k in
    let below : k < length cs = omega arith in
    let old = c.loop-k.invariant in
    let asked = c.in_ok-drawn.ensures in
    let e = units_are k cs c.get.result.now c.deref.result.now c.get.ensures (c.deref.ensures.value ∙ c.in_ok-units.ensures) in
    λ start h. pays_open sys cs (First k) c.loop-k.solver c.put_part.new.solver c.deref.result.now _ _ below old.same_vars old.same e asked.pays start (old.pays start h)

pub returns-clause-pays : goal.returns-clause-pays
returns-clause-pays g c =
    let cs : List (List Lit) = c.args.clauses.now in
    let e : c.loop-k.k ≡ length cs = omega arith in
    λ start h. forgets_all c.args.system.now cs c.loop-k.solver.learned (length cs) start _ (at_place c.args.system.now cs c.loop-k.solver.learned c.loop-k.k (length cs) start _ e (c.loop-k.invariant.pays start h))
