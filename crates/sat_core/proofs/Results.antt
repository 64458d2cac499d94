-- What the search found, for the clauses that were given and those that were learned.
use Rattle.std.proofs.Common.{◌≡◌, ℕ, ◌<◌, ◌≤◌, ◌+◌, ◌-◌, Bool, true, false, not, List, [], ◌∷◌, ◌++◌, length, take, get_or, refl, sym, subst, ap, ◌∙◌, inl, inr, arith, length-append, append_assoc, append-nil, map, eqb, eqb-true}
use Rattle.std.specs.List.{All, Contains}
use Rattle.std.proofs.Math.Seq.{get_or-append_seam, take-append_seam, take-append-add, get_or-append-add}
use Rattle.std.proofs.Math.ListN.{get_or-map}
use Rattle.std.proofs.lemmas.Bool.{cases_Bool, cases_lt}
use Rattle.std.proofs.lemmas.List.{get_or_append_left, take-append-le, length-map}
use Rattle.std.proofs.lemmas.List.Elements.{All-contains, All-append, All-weaker, All-contains_itself, All-nil, All-cons, Contains-get_or, Contains-append_left, Contains-append_right}
use Rattle.clause_core.specs.declared.literal.Lit.{Lit}
use Rattle.clause_core.specs.Literals.{negate, at, Within}
use Rattle.clause_core.specs.Propagation.{UnitIn, Closed, HasConflict, Follows, Holds, Reaches, Conflicting, Unset, DecisionsOpen}
use Rattle.clause_core.specs.Assignments.{ClauseTrue, assignment_of}
use Rattle.clause_core.specs.Derivations.{AllStepsBelow, Derives}
use Rattle.clause_core.specs.Learning.{Asserting}
use Rattle.clause_core.specs.Values.{holds, code}
use Rattle.clause_core.proofs.Sound.{clause_cases, agrees_from, agrees_true, agrees_not_both}
use Rattle.sat_prop.specs.declared.trail.Trail.{Trail}
use Rattle.sat_prop.specs.Trails.{among, AtRest}
use Rattle.sat_core.specs.Queries.{State, given_of, learned_of, state_of, AssumptionsFirst, IsLearned, Learns, IsModel, units, Draws}
use Rattle.sat_core.specs.Searching.{GrowsByLearning, Refutes, PositivesSet, PaidFor, Keeps, SameMarks}
use Rattle.sat_core.proofs.Origins.{given_append, learned_append, given_push, learned_push, both_in, covered}
use Rattle.sat_core.proofs.Learns.{contains_map}

pub closed_subset : (t : Lit → Bool) (cs bs : List (List Lit)) → All (Contains bs) cs → Closed t bs → Closed t cs
closed_subset t cs bs sub closed k d lt = All-contains (λ c. (l : Lit) → UnitIn t c l → t l ≡ true) bs (get_or cs k d) closed (sub k d lt)

pub conflict_subset : (t : Lit → Bool) (cs bs : List (List Lit)) → All (Contains bs) cs → HasConflict t cs → HasConflict t bs
conflict_subset t cs bs sub (inl h) =
    let q = All-contains (Contains bs) cs h.1 sub (h.0, h.2, h.3) in inl (q.0, h.1, q.1, q.2, h.4)
conflict_subset t cs bs sub (inr h) = inr h

pub follows_subset : (cs bs : List (List Lit)) (c : List Lit) → All (Contains bs) cs → Follows cs c → Follows bs c
follows_subset cs bs c sub f t all closed = conflict_subset t cs bs sub (f t all (closed_subset t cs bs sub closed))

pub sub_left : (cs bs : List (List Lit)) → All (Contains (cs ++ bs)) cs
sub_left cs bs = All-weaker (Contains cs) (Contains (cs ++ bs)) (λ c h. Contains-append_left cs bs c h) cs (All-contains_itself cs)

pub sub_right : (cs bs : List (List Lit)) → All (Contains (cs ++ bs)) bs
sub_right cs bs = All-weaker (Contains bs) (Contains (cs ++ bs)) (λ c h. Contains-append_right cs bs c h) bs (All-contains_itself bs)

pub sub_inner : (cs us ls : List (List Lit)) → All (Contains ((cs ++ us) ++ ls)) (cs ++ ls)
sub_inner cs us ls =
    All-append (Contains ((cs ++ us) ++ ls)) cs ls
    (All-weaker (Contains (cs ++ us)) (Contains ((cs ++ us) ++ ls)) (λ c h. Contains-append_left (cs ++ us) ls c h) cs (sub_left cs us))
    (sub_right (cs ++ us) ls)

pub holds_units : (t : Lit → Bool) (bs : List (List Lit)) (core : List Lit) → All (Contains bs) (units core) → Closed t bs → Holds t core
holds_units t bs core sub closed k d lt =
    let l = get_or core k d in
    let has : Contains bs (l ∷ []) = All-contains (Contains bs) (units core) (l ∷ []) sub (contains_map (λ m. m ∷ []) core l (Contains-get_or core k d lt)) in
    let head : Contains (l ∷ []) l = (0, omega arith, refl) in
    let unit : UnitIn t (l ∷ []) l = (head, All-cons (λ m. (m ≡ l → ⊥) → t (negate m) ≡ true) l [] (λ ne. absurd (ne refl)) (All-nil (λ m. (m ≡ l → ⊥) → t (negate m) ≡ true))) in
    All-contains (λ c. (m : Lit) → UnitIn t c m → t m ≡ true) bs (l ∷ []) closed has l unit

-- what unit propagation does from clauses it does from more clauses
pub reaches_more : (cs bs : List (List Lit)) (ds : List Lit) (l : Lit) → All (Contains bs) cs → Reaches cs ds l → Reaches bs ds l
reaches_more cs bs ds l sub r t on closed = r t on (closed_subset t cs bs sub closed)

pub conflicting_more : (cs bs : List (List Lit)) (ds : List Lit) → All (Contains bs) cs → Conflicting cs ds → Conflicting bs ds
conflicting_more cs bs ds sub r t on closed = conflict_subset t cs bs sub (r t on (closed_subset t cs bs sub closed))

pub unset_fewer : (cs bs : List (List Lit)) (ds : List Lit) (l : Lit) → All (Contains cs) bs → Unset cs ds l → Unset bs ds l
unset_fewer cs bs ds l sub u = (λ r. u.0 (reaches_more bs cs ds l sub r), λ r. u.1 (reaches_more bs cs ds (negate l) sub r))

pub open_fewer : (cs bs : List (List Lit)) (ds : List Lit) → All (Contains cs) bs → DecisionsOpen cs ds → DecisionsOpen bs ds
open_fewer cs bs ds sub h i li =
    (unset_fewer cs bs (take i ds) (at ds i) sub (h i li).0, λ r. (h i li).1 (conflicting_more bs cs (take i ds) sub r))

pub first_more : (cs bs : List (List Lit)) (assumptions ds : List Lit) → All (Contains bs) cs → AssumptionsFirst cs assumptions ds →
    AssumptionsFirst bs assumptions ds
first_more cs bs assumptions ds sub h i li =
    elim (h i li) [
      | inl one ↦ inl one
      | inr all ↦ inr (λ j d lj. reaches_more cs bs (take i ds) (get_or assumptions j d) sub (all j d lj))
    ]

pub asserting_same : (cs bs : List (List Lit)) (before c : List Lit) → All (Contains bs) cs → All (Contains cs) bs → Asserting cs before c →
    Asserting bs before c
asserting_same cs bs before c sub back h =
    (h.0, h.1, unset_fewer cs bs before h.0 back h.2, λ j d lj ne. reaches_more cs bs before (negate (get_or c j d)) sub (h.3 j d lj ne))

-- what is learned from clauses is learned from the same clauses in another order
pub learned_same : (vars : ℕ) (assumptions : List Lit) (cs bs : List (List Lit)) (c : List Lit) → All (Contains bs) cs → All (Contains cs) bs →
    IsLearned vars assumptions cs c → IsLearned vars assumptions bs c
learned_same vars assumptions cs bs c sub back h =
    let before = h.1.0 in
    let last = h.1.1 in
    let ds = before ++ last ∷ [] in
    let l = h.1.3 in (
      h.0,
      (
        before,
        last,
        first_more cs bs assumptions ds sub h.1.2,
        (
          open_fewer cs bs ds back l.0,
          conflicting_more cs bs ds sub l.1,
          follows_subset cs bs c sub l.2,
          λ j d lj. reaches_more cs bs ds (negate (get_or c j d)) sub (l.3 j d lj),
          asserting_same cs bs before c sub back l.4,
        ),
      ),
    )

pub sub_both : (cs bs ts : List (List Lit)) → All (Contains bs) cs → All (Contains (bs ++ ts)) (cs ++ ts)
sub_both cs bs ts sub =
    All-append (Contains (bs ++ ts)) cs ts
    (All-weaker (Contains bs) (Contains (bs ++ ts)) (λ c i. Contains-append_left bs ts c i) cs sub) (sub_right bs ts)

pub learns_none : (assumptions : List Lit) (s : State) → Learns assumptions s s
learns_none assumptions s =
    record { vars = refl; given = refl; more = []; grown = sym (append-nil s.learned); each = λ k lk. absurd (omega (arith, lk)) }

pub learns_from : (vars vars' : ℕ) (marks : List Bool) (cs cs' : List (List Lit)) (assumptions : List Lit) → length marks ≤ length cs →
    vars' ≡ vars → GrowsByLearning vars assumptions cs cs' → Learns assumptions (state_of vars marks cs) (state_of vars' marks cs')
learns_from vars vars' marks cs cs' assumptions known e h =
    let xs = h.0 in
    let both = given_of marks cs ++ learned_of marks cs in
    record {
      vars = e;
      given = ap (given_of marks) h.1 ∙ given_append marks cs xs known;
      more = xs;
      grown = ap (learned_of marks) h.1 ∙ learned_append marks cs xs known;
      each = λ k lk. learned_same vars assumptions (cs ++ take k xs) (both ++ take k xs) (get_or xs k [])
          (sub_both cs both (take k xs) (covered marks cs)) (sub_both both cs (take k xs) (both_in marks cs)) (h.2 k lk);
    }

-- the learned clauses, and more that each follow from all before them
pub steps_more : (vars : ℕ) (marks : List Bool) (cs xs : List (List Lit)) (assumptions : List Lit) →
    AllStepsBelow vars (given_of marks cs) (learned_of marks cs) (length (learned_of marks cs)) →
    ((k : ℕ) → k < length xs → IsLearned vars assumptions (cs ++ take k xs) (get_or xs k [])) →
    AllStepsBelow vars (given_of marks cs) (learned_of marks cs ++ xs) (length (learned_of marks cs ++ xs))
steps_more vars marks cs xs assumptions steps each k lk =
    let gs = given_of marks cs in
    let ls = learned_of marks cs in
    let log = ls ++ xs in
    let P : List Lit → Type 0 = λ c. Within vars c × Follows (gs ++ take k log) c in
    elim (cases_lt k (length ls)) [
      | inl lt ↦
          let e : get_or log k [] ≡ get_or ls k [] = get_or_append_left ls xs [] k lt in
          let f : take k log ≡ take k ls = take-append-le k ls xs (omega arith) in
          let Q : List (List Lit) → Type 0 = λ ys. Within vars (get_or ls k []) × Follows (gs ++ ys) (get_or ls k []) in
          subst P (sym e) (subst Q (sym f) (steps k lt))
      | inr ge ↦
          let j = k - length ls in
          let here : k ≡ length ls + j = omega (arith, ge) in
          let lj : j < length xs = omega (arith, lk, ge, length-append ls xs) in
          let e : get_or log k [] ≡ get_or xs j [] = ap (λ n. get_or log n []) here ∙ get_or-append-add ls xs j [] in
          let f : take k log ≡ ls ++ take j xs = ap (λ n. take n log) here ∙ take-append-add ls xs j in
          let g : gs ++ take k log ≡ (gs ++ ls) ++ take j xs = ap (λ ys. gs ++ ys) f ∙ sym (append_assoc gs ls (take j xs)) in
          let c = get_or xs j [] in
          let Q : List (List Lit) → Type 0 = λ ys. Within vars c × Follows ys c in
          let step = each j lj in
          subst P (sym e) (subst Q (sym g) (
            step.0,
            follows_subset (cs ++ take j xs) ((gs ++ ls) ++ take j xs) c (sub_both cs (gs ++ ls) (take j xs) (covered marks cs)) step.1.3.2,
          ))
    ]

pub keeps_learnt : (vars vars' : ℕ) (marks : List Bool) (cs cs' : List (List Lit)) (assumptions : List Lit) → Keeps vars marks cs →
    vars' ≡ vars → GrowsByLearning vars assumptions cs cs' → Keeps vars' marks cs'
keeps_learnt vars vars' marks cs cs' assumptions keeps e h =
    let xs = h.0 in
    let gs = given_of marks cs in
    let ls = learned_of marks cs in
    let eg : given_of marks cs' ≡ gs = ap (given_of marks) h.1 ∙ given_append marks cs xs keeps.known in
    let el : learned_of marks cs' ≡ ls ++ xs = ap (learned_of marks) h.1 ∙ learned_append marks cs xs keeps.known in
    let steps = steps_more vars marks cs xs assumptions keeps.sound h.2 in
    let V : ℕ → Type 0 = λ n. AllStepsBelow n gs (ls ++ xs) (length (ls ++ xs)) in
    let G : List (List Lit) → Type 0 = λ ys. AllStepsBelow vars' ys (ls ++ xs) (length (ls ++ xs)) in
    let L : List (List Lit) → Type 0 = λ ys. AllStepsBelow vars' (given_of marks cs') ys (length ys) in
    record {
      known = omega (arith, keeps.known, ap length h.1, length-append cs xs);
      sound = subst L (sym el) (subst G (sym eg) (subst V (sym e) steps));
    }

pub keeps_same : (vars vars' : ℕ) (old new : List Bool) (cs cs' : List (List Lit)) → Keeps vars old cs → length new ≤ length cs → SameMarks old new cs →
    vars' ≡ vars → cs' ≡ cs → Keeps vars' new cs'
keeps_same vars vars' old new cs cs' keeps le same ev ec =
    let G : List (List Lit) → Type 0 = λ ys. AllStepsBelow vars ys (learned_of old cs) (length (learned_of old cs)) in
    let L : List (List Lit) → Type 0 = λ ys. AllStepsBelow vars (given_of new cs) ys (length ys) in
    let here : Keeps vars new cs = record { known = le; sound = subst L (sym same.1) (subst G (sym same.0) keeps.sound) } in
    let V : ℕ → Type 0 = λ n. Keeps n new cs in
    let C : List (List Lit) → Type 0 = λ ys. Keeps vars' new ys in
    subst C (sym ec) (subst V (sym ev) here)

-- one more given clause
pub keeps_add : (vars : ℕ) (marks : List Bool) (cs : List (List Lit)) (c : List Lit) → Keeps vars marks cs → length marks ≡ length cs →
    Keeps vars (marks ++ true ∷ []) (cs ++ c ∷ [])
keeps_add vars marks cs c keeps e =
    let gs = given_of marks cs in
    let ls = learned_of marks cs in
    let steps : AllStepsBelow vars (gs ++ c ∷ []) ls (length ls) = λ k lk.
    let step = keeps.sound k lk in
    (step.0, follows_subset (gs ++ take k ls) ((gs ++ c ∷ []) ++ take k ls) (get_or ls k []) (sub_inner gs (c ∷ []) (take k ls)) step.1) in
    let G : List (List Lit) → Type 0 = λ ys. AllStepsBelow vars ys ls (length ls) in
    let L : List (List Lit) → Type 0 = λ ys. AllStepsBelow vars (given_of (marks ++ true ∷ []) (cs ++ c ∷ [])) ys (length ys) in
    record {
      known = omega (arith, e, length-append marks (true ∷ []), length-append cs (c ∷ []));
      sound = subst L (sym (learned_push marks cs c e)) (subst G (sym (given_push marks cs c e)) steps);
    }

-- states are the same where their parts are
pub state_same : (v w : ℕ) (gs hs ls ms : List (List Lit)) → v ≡ w → gs ≡ hs → ls ≡ ms →
    (let s : State = record { vars = v; given = gs; learned = ls } in s) ≡ record { vars = w; given = hs; learned = ms }
state_same v w gs hs ls ms a b c = λ i. record { vars = a i; given = b i; learned = c i }

-- tickets
pub draws_learned : (vars : ℕ) (marks : List Bool) (cs cs' : List (List Lit)) (assumptions : List Lit) (before after : List ℕ) →
    length marks ≤ length cs → GrowsByLearning vars assumptions cs cs' → PaidFor before after cs cs' →
    Draws before after (length (learned_of marks cs') - length (learned_of marks cs))
draws_learned vars marks cs cs' assumptions before after known h paid =
    let xs = h.0 in
    let el : learned_of marks cs' ≡ learned_of marks cs ++ xs = ap (learned_of marks) h.1 ∙ learned_append marks cs xs known in
    (paid.0, paid.1, omega (arith, paid.2, ap length h.1, length-append cs xs, ap length el, length-append (learned_of marks cs) xs))

pub draws_query : (before mid after : List ℕ) (t n : ℕ) → mid ≡ before ++ t ∷ [] → Draws mid after n → Draws before after (n + 1)
draws_query before mid after t n first h =
    (t ∷ h.0, h.1 ∙ ap (λ ys. ys ++ h.0) first ∙ append_assoc before (t ∷ []) h.0, omega (arith, h.2))

-- the learned clauses and the empty one derive it from the given clauses and the core
pub refutation : (vars : ℕ) (given learned cs : List (List Lit)) (assumptions core : List Lit) → AllStepsBelow vars given learned (length learned) →
    All (Contains (given ++ learned)) cs → All (Contains assumptions) core → Refutes cs core →
    All (Contains assumptions) core × Derives vars (given ++ units core) (learned ++ [] ∷ [])
refutation vars given learned cs assumptions core steps cover parts refuted =
    let us = units core in
    let log = learned ++ [] ∷ [] in
    let each : AllStepsBelow vars (given ++ us) log (length log) = λ k lk.
    elim (cases_lt k (length learned)) [
      | inl lt ↦
          let e : get_or log k [] ≡ get_or learned k [] = get_or_append_left learned ([] ∷ []) [] k lt in
          let f : take k log ≡ take k learned = take-append-le k learned ([] ∷ []) (omega arith) in
          let step = steps k lt in
          let P : List Lit → Type 0 = λ c. Within vars c × Follows ((given ++ us) ++ take k log) c in
          let Q : List (List Lit) → Type 0 = λ ys. Within vars (get_or learned k []) × Follows ((given ++ us) ++ ys) (get_or learned k []) in
          subst P (sym e) (subst Q (sym f) (step.0, follows_subset (given ++ take k learned) ((given ++ us) ++ take k learned) (get_or learned k []) (sub_inner given us (take k learned)) step.1))
      | inr ge ↦
          let last : k ≡ length learned = omega (arith, lk, length-append learned ([] ∷ [])) in
          let e : get_or log k [] ≡ [] = rw last (get_or-append_seam learned [] [] []) in
          let f : take k log ≡ learned = rw last (take-append_seam learned ([] ∷ [])) in
          let all = (given ++ us) ++ learned in
          let part : All (Contains all) cs =
          All-weaker (Contains (given ++ learned)) (Contains all) (λ c i. All-contains (Contains all) (given ++ learned) c (sub_inner given us learned) i) cs cover in
          let subu : All (Contains all) us =
          All-weaker (Contains (given ++ us)) (Contains all) (λ c i. Contains-append_left (given ++ us) learned c i) us (sub_right given us) in
          let end : Follows all [] = λ t none closed. conflict_subset t cs all part (refuted t (closed_subset t cs all part closed) (holds_units t all core subu closed)) in
          let P : List Lit → Type 0 = λ c. Within vars c × Follows ((given ++ us) ++ take k log) c in
          let Q : List (List Lit) → Type 0 = λ ys. Within vars [] × Follows ((given ++ us) ++ ys) [] in
          subst P (sym e) (subst Q (sym f) (All-nil (λ l. l.var < vars), end))
    ] in
    (parts, (each, (length learned, omega (arith, length-append learned ([] ∷ [])), get_or-append_seam learned [] [] [])))

-- a literal that is not set is negative, and its variable false
pub model_meets : (cs : List (List Lit)) (literals : List Lit) (a : ℕ → Bool) → AtRest cs literals → PositivesSet cs literals →
    ((l : Lit) → l.positive ≡ true → a l.var ≡ among literals l) → ((l : Lit) → among literals l ≡ true → a l.var ≡ l.positive) → All (ClauseTrue a) cs
model_meets cs literals a rest set reads is k d lt =
    let c = get_or cs k d in
    elim (clause_cases a c) [
      | inl hit ↦ hit
      | inr miss ↦ absurd ((rest k d lt).0 (λ j e lj.
          let m = get_or c j e in
          elim (cases_Bool m.positive) [
            | inl plain ↦ elim (set k d lt j e lj plain) [
              | inl on ↦ absurd (agrees_not_both (a m.var) m.positive (agrees_from (a m.var) m.positive (is m on)) (miss j e lj))
              | inr off ↦ off
            ]
            | inr negative ↦
                let flipped : not m.positive ≡ true = ap not negative in
                sym (reads (negate m) flipped) ∙ agrees_true (a m.var) (not m.positive) (miss j e lj) ∙ flipped
          ]))
    ]

pub code_one : (b : Bool) → eqb (code b) 1 ≡ b
code_one true = refl
code_one false = refl

pub read_model : (v : List ℕ) (literals : List Lit) (l : Lit) → ((m : Lit) → among literals m ≡ holds v m) → among literals l ≡ true →
    assignment_of (map (λ x. eqb x 1) v) l.var ≡ l.positive
read_model v literals l ok on =
    let e : get_or v l.var 0 ≡ code l.positive = eqb-true _ _ (sym (ok l) ∙ on) in
    let f : get_or (map (λ x. eqb x 1) v) l.var (eqb 0 1) ≡ eqb (get_or v l.var 0) 1 = get_or-map (λ x. eqb x 1) v l.var 0 in
    f ∙ ap (λ x. eqb x 1) e ∙ code_one l.positive

pub read_positive : (v : List ℕ) (literals : List Lit) (l : Lit) → ((m : Lit) → among literals m ≡ holds v m) → l.positive ≡ true →
    assignment_of (map (λ x. eqb x 1) v) l.var ≡ among literals l
read_positive v literals l ok p =
    let f : get_or (map (λ x. eqb x 1) v) l.var (eqb 0 1) ≡ eqb (get_or v l.var 0) 1 = get_or-map (λ x. eqb x 1) v l.var 0 in
    f ∙ ap (λ b. eqb (get_or v l.var 0) (code b)) (sym p) ∙ sym (ok l)

pub sat_says : (t : Trail) (cs given : List (List Lit)) (assumptions : List Lit) (model : List Bool) →
    AtRest cs t.literals.items → All (λ a. among t.literals.items a ≡ true) assumptions → PositivesSet cs t.literals.items →
    All (Contains cs) given → model ≡ map (λ x. eqb x 1) t.values.items →
    (length model ≡ length t.values.items) × IsModel given assumptions model
sat_says t cs given assumptions model rest on set part e =
    let is : (l : Lit) → among t.literals.items l ≡ true → assignment_of model l.var ≡ l.positive = λ l i.
    let P : List Bool → Type 0 = λ m. assignment_of m l.var ≡ l.positive in
    subst P (sym e) (read_model t.values.items t.literals.items l t.values_ok i) in
    let reads : (l : Lit) → l.positive ≡ true → assignment_of model l.var ≡ among t.literals.items l = λ l p.
    let P : List Bool → Type 0 = λ m. assignment_of m l.var ≡ among t.literals.items l in
    subst P (sym e) (read_positive t.values.items t.literals.items l t.values_ok p) in
    let all = model_meets cs t.literals.items (assignment_of model) rest set reads is in (
      ap length e ∙ length-map t.values.items (λ x. eqb x 1),
      (λ k d lt. All-contains (ClauseTrue (assignment_of model)) cs (get_or given k d) all (part k d lt), λ k d lk. is (get_or assumptions k d) (on k d lk)),
    )
