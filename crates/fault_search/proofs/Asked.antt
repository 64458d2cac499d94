-- What the solver of a question answers.
use Rattle.std.proofs.Common.{◌≡◌, ℕ, ◌<◌, ◌≤◌, Bool, List, [], ◌∷◌, ◌++◌, Some, length, get_or, sym, subst, refl, append-nil, arith}
use Rattle.std.specs.List.{All, Contains}
use Rattle.std.proofs.lemmas.List.Elements.{All-from_get_or, All-weaker}
use Rattle.clause_core.specs.declared.literal.Lit.{Lit}
use Rattle.clause_core.specs.Literals.{Within}
use Rattle.clause_core.specs.Derivations.{Derives}
use Rattle.bit_clauses.specs.declared.deciding.Decided.{Decided}
use Rattle.hinted_log.specs.Hints.{HintedLog}
use Rattle.cert_core.specs.declared.form.Form.TheVariants.{Plain}
use Rattle.cert_core.specs.declared.form.TheConstants.{MAX_VARS}
use Rattle.cert_core.specs.Blocks.{LogFits, PartFits}
use Rattle.sat_core.specs.Queries.{State, IsModel, units}
use Rattle.fault_search.specs.Answering.{IsMetBy, PartAnswers}

-- a model of a solver that knows the question's clauses alone meets it
pub met_says : (d : Decided) (s : State) (model : List Bool) → s ≡ record { vars = d.vars; given = d.clauses; learned = [] } → (length model ≡ s.vars) × IsModel s.given [] model →
    IsMetBy (Some d) model
met_says d s model fresh h =
    let P : State → Type 0 = λ w. (length model ≡ w.vars) × IsModel w.given [] model in
    let now = subst P fresh h in (now.0, now.1.0)

no_core : (core : List Lit) → All (Contains []) core → core ≡ []
no_core [] h = refl
no_core (l ∷ ls) h = let there = h 0 l (omega arith) in absurd (omega (arith, there.1))

fits_some : (h : HintedLog) → LogFits Plain h → PartFits Plain (Some h)
fits_some h fits x e = let P : HintedLog → Type 0 = LogFits Plain in let same : h ≡ x = cc in subst P same fits

-- steps over the question's variables can stand in a text
fits_plain : (vars : ℕ) (cs : List (List Lit)) (h : HintedLog) → vars ≤ MAX_VARS → All (λ x. x ≡ []) h.hints → Derives vars cs h.steps → LogFits Plain h
fits_plain vars cs h room hints d =
    let within : All (Within MAX_VARS) h.steps =
    All-from_get_or (Within MAX_VARS) h.steps [] (λ k lt. All-weaker (λ l. l.var < vars) (λ l. l.var < MAX_VARS) (λ l x. omega arith) (get_or h.steps k []) (d.0 k lt).0) in
    record { vars = within; hints = hints }

-- the log of a solver that knows the question's clauses alone answers it
pub never_says : (d : Decided) (s : State) (core : List Lit) (learned : List (List Lit)) (h : HintedLog) → s ≡ record { vars = d.vars; given = d.clauses; learned = [] } → d.vars ≤ MAX_VARS →
    All (Contains []) core → Derives s.vars (s.given ++ units core) learned → h.steps ≡ learned → All (λ x. x ≡ []) h.hints → PartAnswers (Some d) (Some h) × PartFits Plain (Some h)
never_says d s core learned h fresh room none derives steps hints =
    let P : List Lit → Type 0 = λ w. Derives s.vars (s.given ++ units w) learned in
    let Q : List (List Lit) → Type 0 = λ w. Derives s.vars w learned in
    let R : State → Type 0 = λ w. Derives w.vars w.given learned in
    let S : List (List Lit) → Type 0 = Derives d.vars d.clauses in
    let shown : Derives d.vars d.clauses h.steps = subst S (sym steps) (subst R fresh (subst Q (append-nil s.given) (subst P (no_core core none) derives))) in
    (shown, fits_some h (fits_plain d.vars d.clauses h room hints shown))
