-- What a refuted question shows.
use Rattle.std.proofs.Common.{◌≡◌, ℕ, ◌<◌, ◌+◌, List, [], ◌∷◌, ◌++◌, map, length, take, get_or, refl, sym, subst, ap, ◌∙◌, inl, inr, ◌⊎◌, append-nil, ◌*◌, ◌≤◌, below_more, arith, length-append}
use Rattle.std.specs.List.{All, Contains}
use Rattle.std.proofs.lemmas.List.{get_or_push, take_at, length-map, get_or-map}
use Rattle.std.proofs.lemmas.List.Elements.{All-from_get_or, All-nil, All-append, All-weaker, All-map, All-contains_itself, Contains-append_left, Contains-append_right}
use Rattle.clause_core.specs.declared.literal.Lit.{Lit}
use Rattle.clause_core.specs.Propagation.{Follows}
use Rattle.clause_core.specs.Derivations.{StepHolds, Derives}
use Rattle.cert_core.specs.Certificates.{unit_clauses, negated, negated_next, first_clauses}
use Rattle.clause_core.specs.Systems.{TransitionSystem}
use Rattle.clause_core.specs.Literals.{Within}
use Rattle.hinted_log.specs.Hints.{HintedLog, IsHinted, Refutes}
use Rattle.cert_core.specs.declared.form.Form.{Form}
use Rattle.cert_core.specs.declared.form.Form.TheVariants.{Hinted}
use Rattle.cert_core.specs.declared.form.TheConstants.{MAX_VARS}
use Rattle.cert_core.specs.Blocks.{LogFits}
use Rattle.cert_check.specs.Judgements.{EachBelow}
use Rattle.cert_check.proofs.Verdicts.{next_within, negated_within}
use Rattle.sat_core.specs.Queries.{State, Learns}
use Rattle.cert_make.specs.Making.{KeptFollows}
use Rattle.rup_check.proofs.Keeping.{Follows-wider, Follows-narrower}
use Rattle.rup_check.specs.Chains.{IsTaut}
use Rattle.rup_check.specs.Searches.{Covers}

-- more clauses, in any order
pub contains_behind : (bs cs log : List (List Lit)) → All (Contains bs) cs → All (Contains (bs ++ log)) (cs ++ log)
contains_behind bs cs log all =
    All-append (Contains (bs ++ log)) cs log
    (All-weaker (Contains bs) (Contains (bs ++ log)) (λ c h. Contains-append_left bs log c h) cs all)
    (All-weaker (Contains log) (Contains (bs ++ log)) (λ c h. Contains-append_right bs log c h) log (All-contains_itself log))

pub Derives-wider : (vars : ℕ) (bs cs log : List (List Lit)) → All (Contains bs) cs → Derives vars cs log → Derives vars bs log
Derives-wider vars bs cs log all d = (
  (λ k lt. ((d.0 k lt).0, Follows-wider (cs ++ take k log) (bs ++ take k log) (get_or log k []) (contains_behind bs cs (take k log) all) (d.0 k lt).1)),
  d.1,
)

pub Contains-map : {A B : Type 0} (f : A → B) (xs : List A) (x : A) → Contains xs x → Contains (map f xs) (f x)
Contains-map f xs x h = (h.0, simp length-map h.1, get_or-map f xs h.0 x (f x) h.1 ∙ ap f h.2)

-- a clause of one literal for each of the core is one for each of the assumptions
units_in : (assumptions core : List Lit) → All (Contains assumptions) core → All (Contains (unit_clauses assumptions)) (unit_clauses core)
units_in assumptions core all =
    All-map (Contains (unit_clauses assumptions)) (λ l. l ∷ []) core
    (All-weaker (Contains assumptions) (λ l. Contains (unit_clauses assumptions) (l ∷ [])) (λ l h. Contains-map (λ (l : Lit). l ∷ []) assumptions l h) core all)

pub refuted_by_core : (vars : ℕ) (given log : List (List Lit)) (assumptions core : List Lit) → All (Contains assumptions) core → Derives vars (given ++ unit_clauses core) log →
    Derives vars (given ++ unit_clauses assumptions) log
refuted_by_core vars given log assumptions core all d =
    let whole = given ++ unit_clauses assumptions in
    Derives-wider vars whole (given ++ unit_clauses core) log
    (All-append (Contains whole) given (unit_clauses core)
    (All-weaker (Contains given) (Contains whole) (λ c h. Contains-append_left given (unit_clauses assumptions) c h) given (All-contains_itself given))
    (All-weaker (Contains (unit_clauses assumptions)) (Contains whole) (λ c h. Contains-append_right given (unit_clauses assumptions) c h) (unit_clauses core)
    (units_in assumptions core all))) d

-- clauses that stand among others
pub here : (a : List (List Lit)) → All (Contains a) a
here a = All-contains_itself a

pub at_left : (a b c : List (List Lit)) → All (Contains a) c → All (Contains (a ++ b)) c
at_left a b c h = All-weaker (Contains a) (Contains (a ++ b)) (λ x y. Contains-append_left a b x y) c h

pub at_right : (a b c : List (List Lit)) → All (Contains b) c → All (Contains (a ++ b)) c
at_right a b c h = All-weaker (Contains b) (Contains (a ++ b)) (λ x y. Contains-append_right a b x y) c h

turned : (given us learned : List (List Lit)) → All (Contains ((given ++ learned) ++ us)) ((given ++ us) ++ learned)
turned given us learned =
    let P : List Lit → Type 0 = Contains ((given ++ learned) ++ us) in
    All-append P (given ++ us) learned
    (All-append P given us (at_left (given ++ learned) us given (at_left given learned given (here given))) (at_right (given ++ learned) us us (here us)))
    (at_left (given ++ learned) us learned (at_right given learned learned (here learned)))

grown : (given learned more us : List (List Lit)) → All (Contains ((given ++ (learned ++ more)) ++ us)) ((given ++ learned) ++ us)
grown given learned more us =
    let all = given ++ (learned ++ more) in
    let P : List Lit → Type 0 = Contains (all ++ us) in
    All-append P (given ++ learned) us
    (All-append P given learned (at_left all us given (at_left given (learned ++ more) given (here given)))
    (at_left all us learned (at_right given (learned ++ more) learned (at_left learned more learned (here learned)))))
    (at_right all us us (here us))

covered : (given learned steps us : List (List Lit)) → Covers steps learned → All (λ c. Contains ((given ++ steps) ++ us) c ⊎ IsTaut c) ((given ++ learned) ++ us)
covered given learned steps us covers =
    let all = (given ++ steps) ++ us in
    let P : List Lit → Type 0 = λ c. Contains all c ⊎ IsTaut c in
    All-append P (given ++ learned) us
    (All-append P given learned
    (All-weaker (Contains all) P (λ c h. inl h) given (at_left (given ++ steps) us given (at_left given steps given (here given))))
    (All-weaker (λ c. Contains steps c ⊎ IsTaut c) P
    (λ c h. elim h [ inl x ↦ inl (Contains-append_left (given ++ steps) us c (Contains-append_right given steps c x)) | inr t ↦ inr t ]) learned covers))
    (All-weaker (Contains all) P (λ c h. inl h) us (at_right (given ++ steps) us us (here us)))

-- the last step of a log that was learned under assumptions
pub learned_follow : (vars : ℕ) (given learned us : List (List Lit)) → Derives vars (given ++ us) (learned ++ [] ∷ []) → Follows ((given ++ learned) ++ us) []
learned_follow vars given learned us d =
    let n = length learned in
    let lt : n < length (learned ++ [] ∷ []) = omega (arith, length-append learned ([] ∷ [])) in
    let last : get_or (learned ++ [] ∷ []) n [] ≡ [] = get_or_push learned [] [] n refl in
    let before : take n (learned ++ [] ∷ []) ≡ learned = take_at learned ([] ∷ []) n refl in
    let P : List (List Lit) → Type 0 = λ w. Follows ((given ++ us) ++ w) [] in
    let Q : List Lit → Type 0 = Follows ((given ++ us) ++ take n (learned ++ [] ∷ [])) in
    let step : Follows ((given ++ us) ++ learned) [] = subst P before (subst Q last (d.0 n lt).1) in
    Follows-wider ((given ++ us) ++ learned) ((given ++ learned) ++ us) [] (turned given us learned) step

-- what followed from what was learned by then follows from all that was learned since
pub follows_later : (given learned more us : List (List Lit)) → Follows ((given ++ learned) ++ us) [] → Follows ((given ++ (learned ++ more)) ++ us) []
follows_later given learned more us f = Follows-wider ((given ++ learned) ++ us) ((given ++ (learned ++ more)) ++ us) [] (grown given learned more us) f

-- so it follows from the shared steps, which are those learned but for some that have a literal and its negation
pub kept_by_shared : (vars : ℕ) (given learned steps us : List (List Lit)) → Follows ((given ++ learned) ++ us) [] → Covers steps learned →
    Derives vars ((given ++ steps) ++ us) ([] ∷ [])
kept_by_shared vars given learned steps us f covers =
    let cs = (given ++ steps) ++ us in
    let narrow : Follows cs [] = Follows-narrower ((given ++ learned) ++ us) cs [] (covered given learned steps us covers) f in
    let P : List (List Lit) → Type 0 = λ w. Follows w [] in (
      (λ k lt.
          let zeroth : k ≡ 0 = omega (arith, lt) in
          let Q : ℕ → Type 0 = StepHolds vars cs ([] ∷ []) in
          subst Q (sym zeroth) (All-nil (λ l. l.var < vars), subst P (sym (append-nil cs)) narrow)),
      (0, refl, refl),
    )

-- a log at equal values
pub derives_at : (v m : ℕ) (g cs us l log : List (List Lit)) → m ≡ v → g ≡ cs → log ≡ l → Derives v (g ++ us) l → Derives m (cs ++ us) log
derives_at v m g cs us l log e f h d =
    let P : List (List Lit) → Type 0 = λ w. Derives v (w ++ us) l in
    let Q : List (List Lit) → Type 0 = Derives v (cs ++ us) in
    let R : ℕ → Type 0 = λ w. Derives w (cs ++ us) log in
    subst R (sym e) (subst Q (sym h) (subst P f d))

-- the literals of a clause at the next state are in range
pub next_units : (n m : ℕ) (cs : List (List Lit)) (k : ℕ) (c units : List Lit) → 2 * n ≤ m → All (Within n) cs → c ≡ get_or cs k [] → units ≡ negated_next n c → k < length cs →
    Within m units
next_units n m cs k c units room within e eu lt =
    let same : units ≡ negated_next n (get_or cs k []) = cc in
    rw same (next_within n m (get_or cs k []) room (within k [] lt))

pub first_units : (n m : ℕ) (cs : List (List Lit)) (k : ℕ) (c units : List Lit) → n ≤ m → All (Within n) cs → c ≡ get_or cs k [] → units ≡ negated c → k < length cs →
    Within m units
first_units n m cs k c units room within e eu lt =
    let same : units ≡ negated (get_or cs k []) = cc in
    rw same (negated_within n m (get_or cs k []) room (within k [] lt))

-- one question more is refuted
pub asked_more : (n : ℕ) (start cs : List (List Lit)) (s new : State) (assumptions : List Lit) (k : ℕ) (c units : List Lit) →
    s.given ≡ start → c ≡ get_or cs k [] → units ≡ negated_next n c → Learns assumptions s new →
    EachBelow (λ j. KeptFollows n start s.learned (get_or cs j [])) k → Derives s.vars (s.given ++ unit_clauses units) (new.learned ++ [] ∷ []) →
    EachBelow (λ j. KeptFollows n start new.learned (get_or cs j [])) (k + 1)
asked_more n start cs s new assumptions k c units eg e eu learns before d =
    let same : units ≡ negated_next n (get_or cs k []) = cc in
    let P : List Lit → Type 0 = λ w. Follows ((start ++ new.learned) ++ unit_clauses w) [] in
    let G : List (List Lit) → Type 0 = λ w. Derives s.vars (w ++ unit_clauses units) (new.learned ++ [] ∷ []) in
    let now = subst P same (learned_follow s.vars start new.learned (unit_clauses units) (subst G eg d)) in
    below_more (λ j. KeptFollows n start new.learned (get_or cs j [])) k
    (λ j lt.
    let us = unit_clauses (negated_next n (get_or cs j [])) in
    let Q : List (List Lit) → Type 0 = λ w. Follows ((start ++ w) ++ us) [] in
    subst Q (sym learns.grown) (follows_later start s.learned learns.more us (before j lt)))
    now

-- hinted steps can stand in a text
pub fits_hinted : (form : Form) (m : ℕ) (cs : List (List Lit)) (h : HintedLog) → form ≡ Hinted → m ≤ MAX_VARS → Refutes m cs h → LogFits form h
fits_hinted form m cs h e le r =
    let vars : All (Within MAX_VARS) h.steps =
    All-from_get_or (Within MAX_VARS) h.steps [] (λ k lt. All-weaker (λ l. l.var < m) (λ l. l.var < MAX_VARS) (λ l x. omega arith) (get_or h.steps k []) (r.0 k lt).0) in
    let P : Form → Type 0 = λ w. LogFits w h in
    subst P (sym e) (record { vars = vars; hints = tt })

pub fits_steps : (form : Form) (m : ℕ) (cs : List (List Lit)) (h : HintedLog) → form ≡ Hinted → m ≤ MAX_VARS → IsHinted m cs h → LogFits form h
fits_steps form m cs h e le r =
    let vars : All (Within MAX_VARS) h.steps =
    All-from_get_or (Within MAX_VARS) h.steps [] (λ k lt. All-weaker (λ l. l.var < m) (λ l. l.var < MAX_VARS) (λ l x. omega arith) (get_or h.steps k []) (r k lt).0) in
    let P : Form → Type 0 = λ w. LogFits w h in
    subst P (sym e) (record { vars = vars; hints = tt })

-- the clauses and the units of a clause at the next state, at equal values
pub given_units : (n : ℕ) (given cs : List (List Lit)) (k : ℕ) (c units : List Lit) → c ≡ get_or cs k [] → units ≡ negated_next n c →
    given ++ unit_clauses units ≡ given ++ unit_clauses (negated_next n (get_or cs k []))
given_units n given cs k c units e eu = let same : units ≡ negated_next n (get_or cs k []) = cc in ap (λ w. given ++ unit_clauses w) same

pub derives_same : (v m n : ℕ) (given cs log : List (List Lit)) (k : ℕ) (c units : List Lit) → m ≡ v → c ≡ get_or cs k [] → units ≡ negated_next n c → log ≡ [] ∷ [] →
    Derives v (given ++ unit_clauses (negated_next n (get_or cs k []))) ([] ∷ []) → Derives m (given ++ unit_clauses units) log
derives_same v m n given cs log k c units em e eu el d = rw (em, given_units n given cs k c units e eu, el) d

pub init_units : (sys : TransitionSystem) (cs : List (List Lit)) (k : ℕ) (init : List (List Lit)) (c units : List Lit) → init ≡ sys.init → c ≡ get_or cs k [] → units ≡ negated c →
    init ++ unit_clauses units ≡ first_clauses sys (get_or cs k [])
init_units sys cs k init c units ei e eu = let same : units ≡ negated (get_or cs k []) = cc in rw (ei, same) refl
