-- A certificate's clauses are an invariant.
use Rattle.std.proofs.Common.{Option, None, Some, ◌≡◌, ℕ, ◌<◌, ◌≤◌, ◌+◌, Bool, true, false, not, List, [], ◌∷◌, ◌++◌, length, map, take, get_or, zero, suc, refl, sym, subst, ◌∙◌, inl, inr, arith, add-one}
use Rattle.std.specs.List.{All}
use Rattle.std.proofs.lemmas.List.{take_all, length-map, get_or-map}
use Rattle.std.proofs.lemmas.List.Elements.{All-contains, All-append, All-map, All-nil, All-more, All-weaker, All-from_get_or, Contains-get_or}
use Rattle.clause_core.specs.declared.literal.Lit.{Lit}
use Rattle.clause_core.specs.Literals.{negate, Within}
use Rattle.clause_core.specs.Assignments.{ClauseTrue, Agrees}
use Rattle.clause_core.specs.Propagation.{AllFalse}
use Rattle.clause_core.specs.Systems.{TransitionSystem, BadBits, ReachedWithin, NextIs}
use Rattle.clause_core.proofs.Sound.{refutes, clause_cases, truths, agrees_true, Implies-from_follows}
use Rattle.hinted_log.specs.Hints.{HintedLog, IsHinted}
use Rattle.hinted_log.proofs.Follow.{Derives-from_hinted, Follows-from_hints}
use Rattle.cert_core.specs.declared.form.Form.{Form}
use Rattle.cert_core.specs.declared.form.Form.TheVariants.{Plain, Hinted}
use Rattle.cert_core.specs.declared.form.Part.TheVariants.{First, Kept}
use Rattle.cert_core.specs.Blocks.{Block, part_of}
use Rattle.cert_core.specs.Certificates.{next_of, negated, unit_clauses, shared_steps, shared_clauses, safe_clauses, StepsShow, Shows, SharedFollow, Certifies, IsInvariant}

-- what shows the empty clause leaves no model
pub steps_refute : (form : Form) (vars : ℕ) (cs : List (List Lit)) (log : HintedLog) → StepsShow form vars cs log → (a : ℕ → Bool) →
    All (ClauseTrue a) cs → ⊥
steps_refute Plain vars cs log s a all = refutes vars cs log.steps s a all
steps_refute Hinted vars cs log s a all = refutes vars cs log.steps (Derives-from_hinted vars cs log s.0 s.1) a all

pub shows_refutes : (form : Form) (vars : ℕ) (cs : List (List Lit)) (part : Option HintedLog) → Shows form vars cs part → (a : ℕ → Bool) →
    All (ClauseTrue a) cs → ⊥
shows_refutes form vars cs None s a all = absurd s
shows_refutes form vars cs (Some log) s a all = steps_refute form vars cs log s a all

-- hinted steps are true where the clauses are
pub hinted_true : (vars : ℕ) (cs : List (List Lit)) (log : HintedLog) (a : ℕ → Bool) → IsHinted vars cs log → All (ClauseTrue a) cs →
    (n : ℕ) → n ≤ length log.steps → All (ClauseTrue a) (take n log.steps)
hinted_true vars cs log a h all zero le = λ k x lt. absurd (omega (arith, lt))
hinted_true vars cs log a h all (suc n) le =
    let before : All (ClauseTrue a) (take n log.steps) = hinted_true vars cs log a h all n (omega arith) in
    let lt : n < length log.steps = omega arith in
    let now : ClauseTrue a (get_or log.steps n []) =
    Implies-from_follows (cs ++ take n log.steps) (get_or log.steps n [])
    (Follows-from_hints (cs ++ take n log.steps) (get_or log.steps n []) (get_or log.hints n []) (h n lt).1) a
    (All-append (ClauseTrue a) cs (take n log.steps) all before) in
    rw (← add-one) (All-more (ClauseTrue a) log.steps n [] lt before now)

pub shared_true : (form : Form) (vars : ℕ) (cs : List (List Lit)) (part : Option HintedLog) (a : ℕ → Bool) → SharedFollow form vars cs part →
    All (ClauseTrue a) cs → All (ClauseTrue a) (shared_steps form part)
shared_true Plain vars cs part a h all = All-nil (ClauseTrue a)
shared_true Hinted vars cs None a h all = All-nil (ClauseTrue a)
shared_true Hinted vars cs (Some log) a h all =
    let P : List (List Lit) → Type 0 = All (ClauseTrue a) in
    subst P (take_all (length log.steps) log.steps (omega arith)) (hinted_true vars cs log a h.1 all (length log.steps) (omega arith))

-- an assignment that makes each literal false makes the negated clause's units true
pub negated_true : (a : ℕ → Bool) (c : List Lit) → AllFalse (truths a) c → All (ClauseTrue a) (unit_clauses (negated c))
negated_true a c all =
    All-map (ClauseTrue a) (λ l. l ∷ []) (negated c)
    (All-map (λ l. ClauseTrue a (l ∷ [])) negate c
    (All-weaker (λ l. truths a (negate l) ≡ true) (λ l. ClauseTrue a (negate l ∷ []))
    (λ l e. (0, negate l, omega arith, refl, agrees_true (a l.var) (not l.positive) e)) c all))

-- so a clause is true that derivations show
pub shown_true : (form : Form) (vars : ℕ) (cs : List (List Lit)) (c : List Lit) (log : Option HintedLog) (a : ℕ → Bool) →
    Shows form vars (cs ++ unit_clauses (negated c)) log → All (ClauseTrue a) cs → ClauseTrue a c
shown_true form vars cs c log a s all =
    elim (clause_cases a c) [
      | inl hit ↦ hit
      | inr miss ↦
          absurd (shows_refutes form vars (cs ++ unit_clauses (negated c)) log s a
          (All-append (ClauseTrue a) cs (unit_clauses (negated c)) all (negated_true a c miss)))
    ]

-- a clause over state bits is true of all assignments with these state bits
pub ClauseTrue-agrees : (n : ℕ) (a x : ℕ → Bool) (c : List Lit) → Agrees n a x → Within n c → ClauseTrue a c → ClauseTrue x c
ClauseTrue-agrees n a x c same within h =
    let lt : h.1.var < n = All-contains (λ l. l.var < n) c h.1 within (h.0, h.2, h.3) in
    (h.0, h.1, h.2, h.3, sym (same h.1.var lt) ∙ h.4)

pub Agrees-sym : (n : ℕ) (a x : ℕ → Bool) → Agrees n a x → Agrees n x a
Agrees-sym n a x same v lt = sym (same v lt)

pub clauses_agree : (n : ℕ) (a x : ℕ → Bool) (cs : List (List Lit)) → Agrees n a x → All (Within n) cs → All (ClauseTrue a) cs → All (ClauseTrue x) cs
clauses_agree n a x cs same within all k d lt = ClauseTrue-agrees n a x (get_or cs k d) same (within k d lt) (all k d lt)

pub ClauseTrue-next : (n : ℕ) (a y : ℕ → Bool) (c : List Lit) → NextIs n a y → Within n c → ClauseTrue a (map (next_of n) c) → ClauseTrue y c
ClauseTrue-next n a y c same within h =
    let lt : h.0 < length c = simp length-map at h.2 in
    let d : Lit = record { var = 0; positive = false } in
    let l = get_or c h.0 d in
    let e : h.1 ≡ next_of n l = sym h.3 ∙ get_or-map (next_of n) c h.0 d h.1 lt in
    let at : l.var < n = within h.0 d lt in
    let P : Lit → Type 0 = λ m. a m.var ≡ m.positive in
    let on : a (n + l.var) ≡ l.positive = subst P e h.4 in
    let q = Contains-get_or c h.0 d lt in
    (q.0, l, q.1, q.2, sym (same l.var at) ∙ on)

pub Invariant-from_certifies : (sys : TransitionSystem) (cert : Block) → Certifies sys cert → IsInvariant sys cert.clauses
Invariant-from_certifies sys cert h =
    let cs = cert.clauses in
    let n = sys.state_bits in
    record {
      initial = λ x f. All-from_get_or (ClauseTrue x) cs [] (λ k lt.
          ClauseTrue-agrees n f.0 x (get_or cs k []) f.1 (h.within k [] lt)
          (shown_true cert.form sys.all_bits sys.init (get_or cs k []) (part_of cert (First k)) f.0 (h.first k lt) f.2));
      kept = λ x y all s. All-from_get_or (ClauseTrue y) cs [] (λ k lt.
          let a = s.0 in
          let there : All (ClauseTrue a) cs = clauses_agree n x a cs (Agrees-sym n a x s.1) h.within all in
          let both : All (ClauseTrue a) (cs ++ sys.step) = All-append (ClauseTrue a) cs sys.step there s.3 in
          let shared : All (ClauseTrue a) (shared_steps cert.form cert.shared) = shared_true cert.form sys.all_bits (shared_clauses sys cs) cert.shared a h.shared both in
          let given : All (ClauseTrue a) (cs ++ sys.step ++ shared_steps cert.form cert.shared) = All-append (ClauseTrue a) (cs ++ sys.step) (shared_steps cert.form cert.shared) both shared in
          ClauseTrue-next n a y (get_or cs k []) s.2 (h.within k [] lt)
          (shown_true cert.form sys.all_bits (cs ++ sys.step ++ shared_steps cert.form cert.shared) (map (next_of n) (get_or cs k [])) (part_of cert (Kept k)) a
          (h.kept k lt) given));
      safe = λ x all b.
          let a = b.0 in
          let there : All (ClauseTrue a) cs = clauses_agree n x a cs (Agrees-sym n a x b.1) h.within all in
          shows_refutes cert.form sys.all_bits (safe_clauses sys cs) cert.safe h.safe a (All-append (ClauseTrue a) cs sys.bad there b.2);
    }

-- a run never leaves an invariant
pub reached_true : (sys : TransitionSystem) (cs : List (List Lit)) → IsInvariant sys cs → (j : ℕ) (x : ℕ → Bool) → ReachedWithin sys j x → All (ClauseTrue x) cs
reached_true sys cs h zero x r = h.initial x r
reached_true sys cs h (suc j) x r =
    elim r [
      | inl before ↦ reached_true sys cs h j x before
      | inr s ↦ h.kept s.0 x (reached_true sys cs h j s.0 s.1) s.2
    ]

pub never_bad : (sys : TransitionSystem) (cert : Block) → Certifies sys cert → (j : ℕ) (x : ℕ → Bool) → ReachedWithin sys j x → BadBits sys x → ⊥
never_bad sys cert h j x r b =
    let i = Invariant-from_certifies sys cert h in
    i.safe x (reached_true sys cert.clauses i j x r) b
