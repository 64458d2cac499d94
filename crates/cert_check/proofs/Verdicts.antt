-- What verdicts on steps say, and which bits clauses have.
use Rattle.std.proofs.Common.{Option, None, Some, ◌≡◌, ℕ, ◌<◌, ◌≤◌, ◌*◌, Bool, true, false, eqb, eqb-true, eq-eqb, List, [], ◌∷◌, ◌++◌, map, length, get_or, inl, inr, sym, subst, arith, MatchBool}
use Rattle.std.specs.List.{All}
use Rattle.std.proofs.lemmas.Bool.{both_ways}
use Rattle.std.proofs.lemmas.List.Elements.{All-append, All-map, All-weaker, All-cons, All-nil, All-from_get_or}
use Rattle.clause_core.specs.declared.literal.Lit.{Lit}
use Rattle.clause_core.specs.Literals.{negate, Within}
use Rattle.clause_core.specs.Derivations.{Derives}
use Rattle.clause_core.specs.Systems.{TransitionSystem}
use Rattle.hinted_log.specs.Hints.{HintedLog, IsHinted}
use Rattle.rup_check.specs.Verdicts.{FailsFirstAt}
use Rattle.rup_check.specs.Chains.{HintsFailFirstAt}
use Rattle.cert_core.specs.declared.form.Form.{Form}
use Rattle.cert_core.specs.declared.form.Form.TheVariants.{Plain, Hinted}
use Rattle.cert_core.specs.declared.form.Part.TheVariants.{Shared}
use Rattle.cert_core.specs.Blocks.{Block}
use Rattle.cert_core.specs.Certificates.{next_of, negated, negated_next, unit_clauses, shared_steps, shared_clauses, StepsShow, SharedFollow}
use Rattle.cert_check.specs.Judgements.{IsNear, EachBelow, FirstHolds, Begun, FailsFirst}

pub fails_derives : (vars : ℕ) (cs log : List (List Lit)) (step : ℕ) → FailsFirstAt vars cs log step → Derives vars cs log → ⊥
fails_derives vars cs log step f d = elim f.1 [ inl h ↦ h.1 (d.0 step h.0) | inr h ↦ h.1 d.1 ]

pub fails_before : (vars : ℕ) (cs : List (List Lit)) (log : HintedLog) (step : ℕ) → (step ≡ length log.steps → ⊥) → HintsFailFirstAt vars cs log step →
    IsHinted vars cs log → ⊥
fails_before vars cs log step ne f d = elim f.1 [ inl h ↦ h.1 (d step h.0) | inr h ↦ ne h.0 ]

-- all steps follow where none fails before the end
pub all_follow_says : (vars : ℕ) (cs : List (List Lit)) (log : HintedLog) (step n : ℕ) (b : Bool) → eqb step n ≡ b → n ≡ length log.steps →
    HintsFailFirstAt vars cs log step → MatchBool b (IsHinted vars cs log) (IsHinted vars cs log → ⊥)
all_follow_says vars cs log step n true e same f = let at : step ≡ n = eqb-true _ _ e in λ j lt. f.0 j (omega arith)
all_follow_says vars cs log step n false e same f =
    fails_before vars cs log step (λ at. both_ways (eqb step n) e (eq-eqb step n (omega arith))) f

-- what a plain check says
pub shows_plain : (form : Form) (vars : ℕ) (cs given log : List (List Lit)) (h : HintedLog) → form ≡ Plain → given ≡ cs → log ≡ h.steps →
    Derives vars given log → StepsShow form vars cs h
shows_plain Plain vars cs given log h e p q d =
    let P : List (List Lit) → Type 0 = λ w. Derives vars w log in
    let Q : List (List Lit) → Type 0 = Derives vars cs in
    subst Q q (subst P p d)
shows_plain Hinted vars cs given log h e p q d = cc

pub shows_not : (form : Form) (vars : ℕ) (cs given log : List (List Lit)) (h : HintedLog) (step : ℕ) → form ≡ Plain → given ≡ cs → log ≡ h.steps →
    FailsFirstAt vars given log step → StepsShow form vars cs h → ⊥
shows_not Plain vars cs given log h step e p q f s =
    let P : List (List Lit) → Type 0 = λ w. Derives vars w h.steps in
    let Q : List (List Lit) → Type 0 = Derives vars given in
    fails_derives vars given log step f (subst Q (sym q) (subst P (sym p) s))
shows_not Hinted vars cs given log h step e p q f s = cc

-- which bits clauses have
pub given_within : (n : ℕ) (cs : List (List Lit)) (units : List Lit) → All (Within n) cs → Within n units → All (Within n) (cs ++ unit_clauses units)
given_within n cs units a h =
    All-append (Within n) cs (unit_clauses units) a
    (All-map (Within n) (λ l. l ∷ []) units
    (All-weaker (λ l. l.var < n) (λ l. Within n (l ∷ [])) (λ l lt. All-cons (λ l. l.var < n) l [] lt (All-nil (λ l. l.var < n))) units h))

pub negated_within : (n m : ℕ) (c : List Lit) → n ≤ m → Within n c → Within m (negated c)
negated_within n m c le h =
    All-map (λ l. l.var < m) negate c (All-weaker (λ l. l.var < n) (λ l. (negate l).var < m) (λ l lt. omega arith) c h)

pub next_within : (n m : ℕ) (c : List Lit) → 2 * n ≤ m → Within n c → Within m (negated_next n c)
next_within n m c le h =
    All-map (λ l. l.var < m) negate (map (next_of n) c)
    (All-map (λ l. (negate l).var < m) (next_of n) c
    (All-weaker (λ l. l.var < n) (λ l. (negate (next_of n l)).var < m) (λ l lt. omega arith) c h))

pub within_more : (n m : ℕ) (cs : List (List Lit)) → n ≤ m → All (Within n) cs → All (Within m) cs
within_more n m cs le h =
    All-weaker (Within n) (Within m) (λ c w. All-weaker (λ l. l.var < n) (λ l. l.var < m) (λ l lt. omega arith) c w) cs h

pub near_all : (n : ℕ) (cs : List (List Lit)) → EachBelow (λ j. Within n (get_or cs j [])) (length cs) → All (Within n) cs
near_all n cs h = All-from_get_or (Within n) cs [] h

pub first_near : (sys : TransitionSystem) (cert : Block) → EachBelow (FirstHolds sys cert) (length cert.clauses) → All (Within sys.state_bits) cert.clauses
first_near sys cert h = All-from_get_or (Within sys.state_bits) cert.clauses [] (λ j lt. (h j lt).0)

pub shared_within : (form : Form) (n : ℕ) (cs : List (List Lit)) (part : Option HintedLog) → SharedFollow form n cs part → All (Within n) (shared_steps form part)
shared_within Plain n cs part s = All-nil (Within n)
shared_within Hinted n cs None s = All-nil (Within n)
shared_within Hinted n cs (Some h) s = All-from_get_or (Within n) h.steps [] (λ j lt. (s.1 j lt).0)

pub kept_within : (sys : TransitionSystem) (cert : Block) → 2 * sys.state_bits ≤ sys.all_bits → All (Within sys.all_bits) sys.step → Begun sys cert →
    EachBelow (FirstHolds sys cert) (length cert.clauses) → All (Within sys.all_bits) (cert.clauses ++ sys.step ++ shared_steps cert.form cert.shared)
kept_within sys cert room step begun first =
    let W : List Lit → Type 0 = Within sys.all_bits in
    All-append W (cert.clauses ++ sys.step) (shared_steps cert.form cert.shared)
    (All-append W cert.clauses sys.step (within_more sys.state_bits sys.all_bits cert.clauses (omega arith) (first_near sys cert first)) step)
    (shared_within cert.form sys.all_bits (shared_clauses sys cert.clauses) cert.shared begun.1)

-- what is judged before the parts `first`, by hints
pub begun_from : (form : Form) (n m : ℕ) (cs given : List (List Lit)) (part : Option HintedLog) → form ≡ Hinted → All (Within n) cs →
    SharedFollow Hinted m given part → IsNear form n cs × SharedFollow form m given part
begun_from Plain n m cs given part e near s = cc
begun_from Hinted n m cs given part e near s = (near, s)

pub begun_not : (form : Form) (n m : ℕ) (cs given : List (List Lit)) (part : Option HintedLog) → form ≡ Hinted → All (Within n) cs →
    (SharedFollow Hinted m given part → ⊥) → IsNear form n cs × (SharedFollow form m given part → ⊥)
begun_not Plain n m cs given part e near s = cc
begun_not Hinted n m cs given part e near s = (near, s)

-- the same of a certificate's parts that are known by equations
pub begun_at : (sys : TransitionSystem) (cert : Block) (m n : ℕ) (cs step given : List (List Lit)) → cert.form ≡ Hinted → m ≡ sys.all_bits → n ≡ sys.state_bits →
    cs ≡ cert.clauses → step ≡ sys.step → given ≡ cs ++ step → EachBelow (λ j. Within n (get_or cs j [])) (length cs) → SharedFollow Hinted m given cert.shared →
    Begun sys cert
begun_at sys cert m n cs step given f e p q r g each s =
    let same : given ≡ shared_clauses sys cert.clauses = cc in
    let N : ℕ → Type 0 = λ w. All (Within w) cs in
    let C : List (List Lit) → Type 0 = All (Within sys.state_bits) in
    let S : List (List Lit) → Type 0 = λ w. SharedFollow Hinted m w cert.shared in
    let M : ℕ → Type 0 = λ w. SharedFollow Hinted w (shared_clauses sys cert.clauses) cert.shared in
    begun_from cert.form sys.state_bits sys.all_bits cert.clauses (shared_clauses sys cert.clauses) cert.shared f
    (subst C q (subst N p (near_all n cs each))) (subst M e (subst S same s))

pub fails_at : (sys : TransitionSystem) (cert : Block) (m n : ℕ) (cs step given : List (List Lit)) → cert.form ≡ Hinted → m ≡ sys.all_bits → n ≡ sys.state_bits →
    cs ≡ cert.clauses → step ≡ sys.step → given ≡ cs ++ step → EachBelow (λ j. Within n (get_or cs j [])) (length cs) →
    (SharedFollow Hinted m given cert.shared → ⊥) → FailsFirst sys cert Shared
fails_at sys cert m n cs step given f e p q r g each s =
    let same : shared_clauses sys cert.clauses ≡ given = cc in
    let N : ℕ → Type 0 = λ w. All (Within w) cs in
    let C : List (List Lit) → Type 0 = All (Within sys.state_bits) in
    let S : List (List Lit) → Type 0 = λ w. SharedFollow Hinted m w cert.shared in
    let M : ℕ → Type 0 = λ w. SharedFollow Hinted w (shared_clauses sys cert.clauses) cert.shared in
    begun_not cert.form sys.state_bits sys.all_bits cert.clauses (shared_clauses sys cert.clauses) cert.shared f
    (subst C q (subst N p (near_all n cs each))) (λ h. s (subst S same (subst M (sym e) h)))
