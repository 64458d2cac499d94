-- What is asked to block a state.
use Rattle.std.proofs.Common.{◌≡◌, ◌≢◌, ℕ, zero, suc, ◌+◌, ◌-◌, ◌<◌, ◌≤◌, ◌⊎◌, Bool, true, false, not, List, refl, sym, subst, ap, ◌∙◌, inl, inr, arith}
use Rattle.std.specs.Prelude.{All, Contains}
use Rattle.std.proofs.lemmas.Bool.{cases_eq}
use Rattle.std.proofs.lemmas.List.Elements.{All-weaker, All-contains}
use Rattle.clause_core.specs.declared.literal.Lit.{Lit}
use Rattle.clause_core.specs.Assignments.{ClauseTrue, assignment_of}
use Rattle.clause_core.specs.Systems.{TransitionSystem, FirstBits, NextIs}
use Rattle.frame_core.specs.declared.parts.Lemma.{Lemma}
use Rattle.frame_core.specs.Facts.{FoundStep, FoundState, ProvedClause, IsPart}
use Rattle.frame_core.specs.FrameLaw.{system_at, AllStand, InFrame}
use Rattle.frame_core.proofs.Changing.{ClauseTrue-part}
use Rattle.frame_solver.specs.Firsts.{AllFirstsMeet, negation_of}
use Rattle.frame_query.specs.Findings.{SolverView}
use Rattle.frame_solver.specs.Stepping.{IsStepOut}
use Rattle.frame_solver.specs.Paying.{Question, Steps, Firsts, AskedQuery, PaysOne}
use Rattle.frame_query.specs.Dropping.{PaysParts, IsProperPart, AsksOf, AsksOfSome}
use Rattle.frame_solver.proofs.Negated.{negation_has, negation_false}
use Rattle.frame_book.specs.declared.claim.ClaimOutcome.{ClaimOutcome}
use Rattle.frame_book.specs.declared.claim.ClaimOutcome.TheVariants.{Proved, Step, Found, Clear, Spent}
use Rattle.frame_claims.specs.Asking.{AnswersBlock, IsSmaller, IsBefore, PaysFor}
use Rattle.frame_claims.specs.Paying.{MayAskBlock}
use Rattle.frame_claims.proofs.Joining.{alone, pays_more}

same_or_not : (a b : Bool) → (a ≡ b) ⊎ (b ≡ not a)
same_or_not true true = inl refl
same_or_not true false = inr refl
same_or_not false true = inr refl
same_or_not false false = inl refl

not_not : (a : Bool) → not (not a) ≡ a
not_not true = refl
not_not false = refl

-- x is the state as far as its first bits go, or meets the clause that excludes the state
agree_below : (values : List Bool) (bits : ℕ) (x : ℕ → Bool) (m : ℕ) → m ≤ bits →
    ((v : ℕ) → v < m → assignment_of values v ≡ x v) ⊎ ClauseTrue x (negation_of values bits)
agree_below values bits x zero low = inl (λ v lt. absurd (omega arith))
agree_below values bits x (suc m) low = elim (agree_below values bits x m (omega arith)) [
  | inr met ↦ inr met
  | inl same ↦ elim (same_or_not (assignment_of values m) (x m)) [
    | inl e ↦ inl (λ v lt. elim (cases_eq v m) [
      | inl at ↦ rw at e
      | inr ne ↦ same v (omega arith)
    ])
    | inr ne ↦
        let l : Lit = record { var = m; positive = not (assignment_of values m) } in
        let has : Contains (negation_of values bits) l = negation_has values bits m (omega arith) in
        inr (has.0, l, has.1, has.2, ne)
  ]
]

-- where the state is no initial one, the initial states meet the clause that excludes it
pub initial_meet : (sys : TransitionSystem) (values : List Bool) → (FirstBits sys (assignment_of values) → ⊥) →
    AllFirstsMeet sys (negation_of values sys.state_bits)
initial_meet sys values later x first = elim (agree_below values sys.state_bits x sys.state_bits (omega arith)) [
  | inr met ↦ met
  | inl same ↦ absurd (later (first.0, (λ v lt. first.1 v lt ∙ sym (same v lt)), first.2))
]

-- a part of the clause that excludes the state is false there
pub part_false : (values : List Bool) (bits : ℕ) (clause : List Lit) → IsPart clause (negation_of values bits) →
    ClauseTrue (assignment_of values) clause → ⊥
part_false values bits clause part h = negation_false values bits (ClauseTrue-part (assignment_of values) clause (negation_of values bits) part h)

-- what is proved of the excluding clause, or of a part of it, blocks the state
pub smaller_answers : (v w : SolverView) (values : List Bool) (bits level : ℕ) (over : Bool) (p : ProvedClause) (o : ClaimOutcome) → w.lemmas ≡ v.lemmas →
    p.system ≡ system_at v.systems 0 → p.level ≡ level → p.clause ≡ negation_of values bits → IsSmaller w p o → AnswersBlock v values level over o
smaller_answers v w values bits level over p (Proved r) lemmas system at clause h =
    let part : IsPart r.clause (negation_of values bits) = subst (IsPart r.clause) clause h.2 in
    let stand : AllStand v.lemmas (p.level - 1) r.parents = subst (λ (ls : List Lemma). AllStand ls (p.level - 1) r.parents) lemmas h.3 in
    (h.0 ∙ system, h.1 ∙ at, part_false values bits r.clause part, subst (λ (l : ℕ). AllStand v.lemmas (l - 1) r.parents) at stand)
smaller_answers v w values bits level over p (Step s) lemmas system at clause h = absurd h
smaller_answers v w values bits level over p (Found f) lemmas system at clause h = absurd h
smaller_answers v w values bits level over p (Clear c) lemmas system at clause h = absurd h
smaller_answers v w values bits level over p (Spent d b) lemmas system at clause h = absurd h

-- a step out of the excluding clause ends in the state
ends_in : (sys : TransitionSystem) (values found : List Bool) →
    All (λ (l : Lit). assignment_of found (sys.state_bits + l.var) ≡ not l.positive) (negation_of values sys.state_bits) →
    NextIs sys.state_bits (assignment_of found) (assignment_of values)
ends_in sys values found out b lt =
    let l : Lit = record { var = b; positive = not (assignment_of values b) } in
    let has : Contains (negation_of values sys.state_bits) l = negation_has values sys.state_bits b lt in
    All-contains (λ (m : Lit). assignment_of found (sys.state_bits + m.var) ≡ not m.positive) (negation_of values sys.state_bits) l out has ∙ not_not (assignment_of values b)

pub before_answers : (v : SolverView) (values : List Bool) (level : ℕ) (over : Bool) (s : FoundStep) (o : ClaimOutcome) →
    s.system ≡ system_at v.systems 0 →
    IsStepOut (system_at v.systems 0) v.lemmas level (negation_of values (system_at v.systems 0).state_bits) s.values → IsBefore s over o →
    AnswersBlock v values level over o
before_answers v values level over s (Found f) system out h =
    let is_system : f.system ≡ s.system = ap (λ (z : FoundState). z.system) h in
    let is_values : f.values ≡ s.values = ap (λ (z : FoundState). z.values) h in
    let sys : TransitionSystem = system_at v.systems 0 in
    let P : List Bool → Type 0 = λ z. NextIs sys.state_bits (assignment_of z) (assignment_of values) in
    let Q : List Bool → Type 0 = λ z. InFrame sys v.lemmas (level - 1) (assignment_of z) in (
      is_system ∙ system,
      ap (λ (z : FoundState). z.is_step) h,
      subst P (sym is_values) (ends_in sys values s.values out.out),
      subst Q (sym is_values) out.from,
    )
before_answers v values level over s (Spent d b) system out h = h
before_answers v values level over s (Proved p) system out h = absurd h
before_answers v values level over s (Step t) system out h = absurd h
before_answers v values level over s (Clear c) system out h = absurd h

-- ---- What was paid

-- the first question of a claim to block a state
may_first : (values : List Bool) (bits level : ℕ) → MayAskBlock values level (Steps level (negation_of values bits))
may_first values bits level = (refl, negation_false values bits)

steps_same : (i j : ℕ) (c d : List Lit) → Steps i c ≡ Steps j d → c ≡ d
steps_same i j c d e = let h : Steps i c ≡ Steps j d = e in cc

firsts_no_steps : (c d : List Lit) (level : ℕ) → Firsts c ≡ Steps level d → ⊥
firsts_no_steps c d level e = let h : Firsts c ≡ Steps level d = e in cc

-- a question about a proper part of the excluding clause is another one, and may be asked
part_asked : (values : List Bool) (bits level i : ℕ) (given : List Lit) (a : AskedQuery) (d : List Lit) → i ≡ level → given ≡ negation_of values bits →
    IsProperPart given d → AsksOf i d a → MayAskBlock values level a.question × (a.question ≢ Steps level (negation_of values bits))
part_asked values bits level i given a d at clause proper asks =
    let q : Question = Steps level (negation_of values bits) in
    let May : Question → Type 0 = MayAskBlock values level in
    let other : d ≡ negation_of values bits → ⊥ = λ e.
    proper.1.2 (subst (λ (c : List Lit). Contains c proper.1.0) (clause ∙ sym e) proper.1.1) in
    elim asks [
      | inl e ↦
          (subst May (sym e) tt, λ is. firsts_no_steps d (negation_of values bits) level (sym e ∙ is))
      | inr e ↦
          let part : IsPart d (negation_of values bits) = subst (IsPart d) clause proper.0 in
          let may : May (Steps i d) = (at, part_false values bits d part) in
          (subst May (sym e) may, λ is. other (steps_same i level d (negation_of values bits) (sym e ∙ is)))
    ]

pub part_paid : (u v w : SolverView) (values : List Bool) (level : ℕ) (x y z : List ℕ) (p : ProvedClause) → v.systems ≡ u.systems → v.lemmas ≡ u.lemmas →
    p.level ≡ level → p.clause ≡ negation_of values (system_at u.systems 0).state_bits →
    PaysOne u.systems u.lemmas u.known v.known x y (Steps level (negation_of values (system_at u.systems 0).state_bits)) →
    PaysParts v.systems v.lemmas v.known w.known y z p.level p.clause → PaysFor u w x z (MayAskBlock values level)
part_paid u v w values level x y z p systems lemmas at clause f s =
    let bits : ℕ = (system_at u.systems 0).state_bits in
    let q : Question = Steps level (negation_of values bits) in
    let May : Question → Type 0 = MayAskBlock values level in
    pays_more u v w x y z May q f.0 s.0 systems lemmas f.1 f.2 f.3 (may_first values bits level) s.2 s.3
    (All-weaker (AsksOfSome p.level s.1) (λ (a : AskedQuery). May a.question × (a.question ≢ q))
    (λ a h. part_asked values bits level p.level p.clause a h.0 at clause (All-contains (IsProperPart p.clause) s.1 h.0 s.5 h.1) h.2) s.0 s.6)

pub note_paid : (u v w : SolverView) (values : List Bool) (level : ℕ) (x y z : List ℕ) (c : List Lit) → v.systems ≡ u.systems → v.lemmas ≡ u.lemmas →
    PaysOne u.systems u.lemmas u.known v.known x y (Steps level (negation_of values (system_at u.systems 0).state_bits)) →
    PaysOne v.systems v.lemmas v.known w.known y z (Firsts c) → PaysFor u w x z (MayAskBlock values level)
note_paid u v w values level x y z c systems lemmas f s =
    let bits : ℕ = (system_at u.systems 0).state_bits in
    let q : Question = Steps level (negation_of values bits) in
    let May : Question → Type 0 = MayAskBlock values level in
    pays_more u v w x y z May q f.0 s.0 systems lemmas f.1 f.2 f.3 (may_first values bits level) s.1 (alone s.0 s.2)
    (All-weaker (λ (a : AskedQuery). a.question ≡ Firsts c) (λ (a : AskedQuery). May a.question × (a.question ≢ q))
    (λ a e. (subst May (sym e) tt, λ is. firsts_no_steps c (negation_of values bits) level (sym e ∙ is))) s.0 s.3)

pub one_paid : (u v : SolverView) (values : List Bool) (level : ℕ) (x y : List ℕ) →
    PaysOne u.systems u.lemmas u.known v.known x y (Steps level (negation_of values (system_at u.systems 0).state_bits)) →
    PaysFor u v x y (MayAskBlock values level)
one_paid u v values level x y f =
    let q : Question = Steps level (negation_of values (system_at u.systems 0).state_bits) in (
      f.0,
      f.1,
      alone f.0 f.2,
      All-weaker (λ (a : AskedQuery). a.question ≡ q) (λ (a : AskedQuery). MayAskBlock values level a.question)
          (λ a e. subst (MayAskBlock values level) (sym e) (may_first values (system_at u.systems 0).state_bits level)) f.0 f.3,
    )
