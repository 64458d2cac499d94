use Rattle.std.proofs.Common.{◌≡◌, ◌+◌, ◌<◌, ◌≤◌, ◌*◌, ◌∙◌, ℕ, List, [], length, get_or, ap, sym, subst, refl, arith}
use Rattle.clause_core.specs.declared.literal.Lit.{Lit}
use Rattle.cert_core.specs.declared.form.Part.TheVariants.{Kept}
use Rattle.cert_core.specs.Certificates.{negated_next}
use Rattle.cert_make.specs.Paying.{HasNoModel}
use Rattle.cert_make.proofs.Refuting.{next_units, asked_more}
use Rattle.cert_make.proofs.Models.{kept_no_model}
use Rattle.cert_make.proofs.Paid.{at_place, pays_more, pays_open}
use Rattle.cert_make.proofs.parts.learn_kept.Goals as goal

-- the units are the negated clause at the next state
units_next : (n m k : ℕ) (cs : List (List Lit)) (c units : List Lit) → m ≡ n → c ≡ get_or cs k [] → units ≡ negated_next m c → units ≡ negated_next n (get_or cs k [])
units_next n m k cs c units em ec eu = eu ∙ (ap (λ w. negated_next w c) em ∙ ap (negated_next n) ec)

pub ask-requires-clause-within : goal.ask-requires-clause-within
ask-requires-clause-within g c =
    let n : ℕ = c.args.system.now.state_bits in
    let room : 2 * n ≤ c.loop-k.solver.vars = omega (arith, c.law.ensures.room, c.requires.vars, c.loop-k.invariant.vars) in
    next_units n c.loop-k.solver.vars c.args.clauses.now c.loop-k.k c.get.result.now c.deref.result.now room c.requires.within c.get.ensures
    (c.deref.ensures.value ∙ c.in_ok-units.ensures ∙ ap (λ w. negated_next w c.get.result.now) c.state_bits-state_bits.ensures.value) (omega arith)

pub ask-requires-clause-no_model : goal.ask-requires-clause-no_model
ask-requires-clause-no_model g c =
    let sys = c.args.system.now in
    let cs : List (List Lit) = c.args.clauses.now in
    let e = units_next sys.state_bits c.state_bits-state_bits.result c.loop-k.k cs c.get.result.now c.deref.result.now c.state_bits-state_bits.ensures.value c.get.ensures
    (c.deref.ensures.value ∙ c.in_ok-units.ensures) in
    let P : List (List Lit) → Type 0 = λ w. HasNoModel w c.deref.result.now in
    let Q : List Lit → Type 0 = HasNoModel c.args.solver.now.given in
    let R : List (List Lit) → Type 0 = λ w. HasNoModel w (negated_next sys.state_bits (get_or cs c.loop-k.k [])) in
    subst P (sym c.loop-k.invariant.given) (subst Q (sym e) (subst R (sym c.requires.given) (kept_no_model sys cs c.loop-k.k c.requires.invariant (omega arith))))

pub loop-k-init : goal.loop-k-init
loop-k-init g c =
    let n : ℕ = length c.args.clauses.now in
    let e : n ≡ n + 0 = omega arith in
    record {
      vars = refl;
      given = refl;
      sound = c.requires.sound;
      each = λ j lt. absurd (omega (arith, lt));
      pays = λ start h. at_place c.args.system.now c.args.clauses.now c.args.solver.now.learned n (n + 0) start _ e h;
      kept = g.met.Q.Purse.kept_refl c.args.purse.now;
      ready = c.requires.ready;
      budget = refl;
    }

pub loop-k-preserved : goal.loop-k-preserved
loop-k-preserved g c =
    let sys = c.args.system.now in
    let cs : List (List Lit) = c.args.clauses.now in
    let k : ℕ = c.loop-k.k in
    let n : ℕ = length cs in
    let lt : k < n = omega arith in
    let old = c.loop-k.invariant in
    let asked = c.in_ok-drawn.ensures in
    let says = rw c.in-Refuted.is at asked.asked in
    let e = units_next sys.state_bits c.state_bits-state_bits.result k cs c.get.result.now c.deref.result.now c.state_bits-state_bits.ensures.value c.get.ensures
    (c.deref.ensures.value ∙ c.in_ok-units.ensures) in
    let more : (n + k) + 1 ≡ n + (k + 1) = omega arith in
    record {
      vars = asked.learned.vars ∙ old.vars;
      given = asked.learned.given ∙ old.given;
      sound = asked.sound;
      each = asked_more sys.state_bits c.args.solver.now.given cs c.loop-k.solver c.ask.new.solver c.deref.result.now k c.get.result.now c.deref.result.now
          old.given c.get.ensures (c.deref.ensures.value ∙ c.in_ok-units.ensures ∙ ap (λ w. negated_next w c.get.result.now) c.state_bits-state_bits.ensures.value) asked.learned old.each says;
      pays = λ start h. at_place sys cs c.ask.new.solver.learned ((n + k) + 1) (n + (k + 1)) start _ more
          (pays_more sys cs (Kept k) c.loop-k.solver c.ask.new.solver c.deref.result.now _ _ lt (old.vars ∙ c.requires.vars) (old.given ∙ c.requires.given) e asked.pays start (old.pays start h));
      kept = g.met.Q.Purse.kept_trans c.args.purse.now c.loop-k.purse c.ask.new.purse old.kept asked.kept;
      ready = asked.ready;
      budget = asked.budget ∙ old.budget;
    }

pub returns-in-Spent-clause-pays : goal.returns-in-Spent-clause-pays
returns-in-Spent-clause-pays g c =
    let sys = c.args.system.now in
    let cs : List (List Lit) = c.args.clauses.now in
    let k : ℕ = c.loop-k.k in
    let lt : k < length cs = omega arith in
    let old = c.loop-k.invariant in
    let asked = c.in_ok-drawn.ensures in
    let e = units_next sys.state_bits c.state_bits-state_bits.result k cs c.get.result.now c.deref.result.now c.state_bits-state_bits.ensures.value c.get.ensures
    (c.deref.ensures.value ∙ c.in_ok-units.ensures) in
    λ start h. pays_open sys cs (Kept k) c.loop-k.solver c.ask.new.solver c.deref.result.now _ _ lt (old.vars ∙ c.requires.vars) (old.given ∙ c.requires.given) e asked.pays start (old.pays start h)

pub returns-clause-pays : goal.returns-clause-pays
returns-clause-pays g c =
    let n : ℕ = length c.args.clauses.now in
    let e : n + c.loop-k.k ≡ n + n = omega arith in
    λ start h. at_place c.args.system.now c.args.clauses.now c.loop-k.solver.learned (n + c.loop-k.k) (n + n) start _ e (c.loop-k.invariant.pays start h)
