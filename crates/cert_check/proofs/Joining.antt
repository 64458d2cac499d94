-- Logs joined, and the parts that are made of them.
use Rattle.std.proofs.Common.{◌≡◌, ℕ, ◌<◌, ◌≤◌, ◌+◌, ◌-◌, ◌*◌, ◌⊎◌, List, [], ◌∷◌, ◌++◌, Option, None, Some, map, length, take, get_or, set, suc, refl, sym, subst, ap, ◌∙◌, inl, inr, arith, length-append, append-nil}
use Rattle.std.specs.List.{All, Contains}
use Rattle.std.proofs.lemmas.Bool.{cases_lt, cases_eq}
use Rattle.std.proofs.lemmas.List.{length-set, get_or_append_left, get_or-append_right, get_or-append-add, get_or-set_same, get_or-set_other, take-append-le}
use Rattle.std.proofs.lemmas.List.Elements.{All-append, All-weaker, All-contains_itself, Contains-append_left, Contains-append_right, All-from_get_or}
use Rattle.clause_core.specs.declared.literal.Lit.{Lit}
use Rattle.clause_core.specs.Literals.{negate, Within}
use Rattle.clause_core.specs.Propagation.{Follows}
use Rattle.clause_core.specs.Derivations.{StepHolds, AllStepsBelow, EndsEmpty, Derives}
use Rattle.clause_core.specs.Systems.{TransitionSystem}
use Rattle.hinted_log.specs.Hints.{HintedLog, IsHinted, Refutes}
use Rattle.hinted_log.proofs.Follow.{Follows-from_hints, Derives-from_hinted}
use Rattle.rup_check.proofs.Keeping.{Follows-wider}
use Rattle.cert_core.specs.declared.form.Form.{Form}
use Rattle.cert_core.specs.declared.form.Form.TheVariants.{Plain, Hinted}
use Rattle.cert_core.specs.declared.form.Part.{Part}
use Rattle.cert_core.specs.declared.form.Part.TheVariants.{Shared, First, Kept, Safe}
use Rattle.cert_core.specs.Blocks.{Block, part_of, with_part}
use Rattle.cert_core.specs.Certificates.{unit_clauses, negated, negated_next, shared_steps, shared_clauses, first_clauses, kept_clauses, safe_clauses, StepsShow, Shows, SharedFollow, Certifies}
use Rattle.cert_check.specs.Judgements.{EachBelow}
use Rattle.cert_check.specs.Upgrades.{steps_in, log_of, Puts, IsUpgrade}
use Rattle.cert_check.proofs.Verdicts.{negated_within, next_within}

-- more clauses in any order
all_in_left : (a b : List (List Lit)) → All (Contains (a ++ b)) a
all_in_left a b = All-weaker (Contains a) (Contains (a ++ b)) (λ c h. Contains-append_left a b c h) a (All-contains_itself a)

all_in_right : (a b : List (List Lit)) → All (Contains (a ++ b)) b
all_in_right a b = All-weaker (Contains b) (Contains (a ++ b)) (λ c h. Contains-append_right a b c h) b (All-contains_itself b)

all_in_more : (a b c : List (List Lit)) → All (Contains a) c → All (Contains (a ++ b)) c
all_in_more a b c h = All-weaker (Contains a) (Contains (a ++ b)) (λ x y. Contains-append_left a b x y) c h

all_in_behind : (a b c : List (List Lit)) → All (Contains b) c → All (Contains (a ++ b)) c
all_in_behind a b c h = All-weaker (Contains b) (Contains (a ++ b)) (λ x y. Contains-append_right a b x y) c h

-- cs and s before the step stand among all that is given and the whole log before it
early : (cs us s : List (List Lit)) → All (Contains ((cs ++ us) ++ s)) (cs ++ s)
early cs us s =
    All-append (Contains ((cs ++ us) ++ s)) cs s (all_in_more (cs ++ us) s cs (all_in_left cs us)) (all_in_right (cs ++ us) s)

late : (cs us s log : List (List Lit)) → All (Contains ((cs ++ us) ++ (s ++ log))) (((cs ++ s) ++ us) ++ log)
late cs us s log =
    let whole = (cs ++ us) ++ (s ++ log) in
    All-append (Contains whole) ((cs ++ s) ++ us) log
    (All-append (Contains whole) (cs ++ s) us
    (All-append (Contains whole) cs s (all_in_more (cs ++ us) (s ++ log) cs (all_in_left cs us)) (all_in_behind (cs ++ us) (s ++ log) s (all_in_left s log)))
    (all_in_more (cs ++ us) (s ++ log) us (all_in_right cs us)))
    (all_in_behind (cs ++ us) (s ++ log) log (all_in_right s log))

take-append-add : (s log : List (List Lit)) (j : ℕ) → take (length s + j) (s ++ log) ≡ s ++ take j log
take-append-add [] log j = let e : length {A = List Lit} [] + j ≡ j = omega arith in ap (λ w. take w log) e
take-append-add (x ∷ s) log j =
    let e : length (x ∷ s) + j ≡ suc (length s + j) = omega arith in
    ap (λ w. take w (x ∷ s ++ log)) e ∙ ap (λ w. x ∷ w) (take-append-add s log j)

take_join_left : (s log : List (List Lit)) (k : ℕ) → k ≤ length s → take k (s ++ log) ≡ take k s
take_join_left s log k le = take-append-le k s log le

steps_joined : (vars : ℕ) (cs us s log : List (List Lit)) → AllStepsBelow vars cs s (length s) → AllStepsBelow vars ((cs ++ s) ++ us) log (length log) →
    (k : ℕ) → k < length s + length log → StepHolds vars (cs ++ us) (s ++ log) k
steps_joined vars cs us s log first second k lt =
    elim (cases_lt k (length s)) [
      | inl below ↦
          let h = first k below in
          let le : k ≤ length s = omega arith in
          let at : get_or (s ++ log) k [] ≡ get_or s k [] = get_or_append_left s log [] k below in
          let before : take k (s ++ log) ≡ take k s = take_join_left s log k le in
          rw (at, before) (h.0, Follows-wider (cs ++ take k s) ((cs ++ us) ++ take k s) (get_or s k []) (early cs us (take k s)) h.1)
      | inr behind ↦
          let j = k - length s in
          let below : j < length log = omega arith in
          let h = second j below in
          let same : k ≡ length s + j = omega arith in
          let at : get_or (s ++ log) k [] ≡ get_or log j [] = get_or-append_right s log (length s) k [] refl behind in
          let before : take k (s ++ log) ≡ s ++ take j log = ap (λ w. take w (s ++ log)) same ∙ take-append-add s log j in
          rw (at, before)
          (h.0, Follows-wider (((cs ++ s) ++ us) ++ take j log) ((cs ++ us) ++ (s ++ take j log)) (get_or log j []) (late cs us s (take j log)) h.1)
    ]

pub Derives-joined : (vars : ℕ) (cs us s log : List (List Lit)) → AllStepsBelow vars cs s (length s) → Derives vars ((cs ++ s) ++ us) log → Derives vars (cs ++ us) (s ++ log)
Derives-joined vars cs us s log first second = (
  (λ k lt. steps_joined vars cs us s log first second.0 k (omega (arith, lt, length-append s log))),
  (
    length s + second.1.0,
    omega (arith, second.1.1, length-append s log),
    get_or-append-add s log second.1.0 [] ∙ second.1.2,
  ),
)

-- hinted steps hold without their hints
pub steps_hold : (vars : ℕ) (cs : List (List Lit)) (h : HintedLog) → IsHinted vars cs h → AllStepsBelow vars cs h.steps (length h.steps)
steps_hold vars cs h all k lt = ((all k lt).0, Follows-from_hints _ _ (get_or h.hints k []) (all k lt).1)

-- what a part shows, its log derives
steps_derive : (form : Form) (vars : ℕ) (cs : List (List Lit)) (log : HintedLog) → StepsShow form vars cs log → Derives vars cs log.steps
steps_derive Plain vars cs log s = s
steps_derive Hinted vars cs log s = Derives-from_hinted vars cs log s.0 s.1

pub shows_derive : (form : Form) (vars : ℕ) (cs : List (List Lit)) (part : Option HintedLog) → Shows form vars cs part → Derives vars cs (steps_in part)
shows_derive form vars cs None s = absurd s
shows_derive form vars cs (Some log) s = steps_derive form vars cs log s

pub shared_hold : (form : Form) (vars : ℕ) (cs : List (List Lit)) (shared : Option HintedLog) → SharedFollow form vars cs shared →
    AllStepsBelow vars cs (shared_steps form shared) (length (shared_steps form shared))
shared_hold Plain vars cs shared s k lt = absurd (omega (arith, lt))
shared_hold Hinted vars cs None s k lt = absurd (omega (arith, lt))
shared_hold Hinted vars cs (Some log) s k lt = steps_hold vars cs log s.1 k lt

pub first_derives : (sys : TransitionSystem) (cert : Block) (k : ℕ) → Certifies sys cert → k < length cert.clauses →
    Derives sys.all_bits (first_clauses sys (get_or cert.clauses k [])) (log_of cert (First k))
first_derives sys cert k h lt = shows_derive cert.form sys.all_bits (first_clauses sys (get_or cert.clauses k [])) (part_of cert (First k)) (h.first k lt)

pub kept_derives : (sys : TransitionSystem) (cert : Block) (k : ℕ) → Certifies sys cert → k < length cert.clauses →
    Derives sys.all_bits ((cert.clauses ++ sys.step) ++ unit_clauses (negated_next sys.state_bits (get_or cert.clauses k []))) (log_of cert (Kept k))
kept_derives sys cert k h lt =
    let c = get_or cert.clauses k [] in
    Derives-joined sys.all_bits (cert.clauses ++ sys.step) (unit_clauses (negated_next sys.state_bits c)) (shared_steps cert.form cert.shared) (steps_in (part_of cert (Kept k)))
    (shared_hold cert.form sys.all_bits (cert.clauses ++ sys.step) cert.shared h.shared)
    (shows_derive cert.form sys.all_bits (kept_clauses sys cert.clauses (shared_steps cert.form cert.shared) c) (part_of cert (Kept k)) (h.kept k lt))

pub safe_derives : (sys : TransitionSystem) (cert : Block) → Certifies sys cert → Derives sys.all_bits (safe_clauses sys cert.clauses) (log_of cert Safe)
safe_derives sys cert h = shows_derive cert.form sys.all_bits (safe_clauses sys cert.clauses) cert.safe h.safe

-- one part more
pub parts_more : (P : ℕ → Option HintedLog → Type 0) (parts : List (Option HintedLog)) (k : ℕ) (x : Option HintedLog) → k < length parts →
    EachBelow (λ j. P j (get_or parts j None)) k → P k x → EachBelow (λ j. P j (get_or (set parts k x) j None)) (k + 1)
parts_more P parts k x lt before now j below =
    elim (cases_eq j k) [
      | inl same ↦
          let Q : ℕ → Type 0 = λ w. P w (get_or (set parts k x) w None) in
          let R : Option HintedLog → Type 0 = P k in
          subst Q (sym same) (subst R (sym (get_or-set_same parts k x None lt)) now)
      | inr other ↦
          let R : Option HintedLog → Type 0 = P j in
          let less : j < k = omega arith in
          subst R (sym (get_or-set_other parts k j x None other)) (before j less)
    ]

-- the same at equal values, as code has them
pub first_units : (sys : TransitionSystem) (cert : Block) (k m : ℕ) (cs : List (List Lit)) (c units : List Lit) → 2 * sys.state_bits ≤ sys.all_bits → m ≡ sys.all_bits →
    cs ≡ cert.clauses → c ≡ get_or cs k [] → units ≡ negated c → Certifies sys cert → k < length cs → Within m units
first_units sys cert k m cs c units room em ec e eu h lt =
    let same : units ≡ negated (get_or cert.clauses k []) = cc in
    let below : k < length cert.clauses = omega (arith, lt, ap length ec) in
    rw (em, same) (negated_within sys.state_bits sys.all_bits (get_or cert.clauses k []) (omega arith) (h.within k [] below))

pub first_log : (sys : TransitionSystem) (cert : Block) (k m : ℕ) (cs init log : List (List Lit)) (c units : List Lit) → m ≡ sys.all_bits →
    cs ≡ cert.clauses → c ≡ get_or cs k [] → units ≡ negated c → init ≡ sys.init → log ≡ log_of cert (First k) → Certifies sys cert → k < length cs →
    Derives m (init ++ unit_clauses units) log
first_log sys cert k m cs init log c units em ec e eu ei el h lt =
    let same : units ≡ negated (get_or cert.clauses k []) = cc in
    let below : k < length cert.clauses = omega (arith, lt, ap length ec) in
    rw (em, same, ei, el) (first_derives sys cert k h below)

pub kept_units : (sys : TransitionSystem) (cert : Block) (k m n : ℕ) (cs : List (List Lit)) (c units : List Lit) → 2 * sys.state_bits ≤ sys.all_bits → m ≡ sys.all_bits →
    n ≡ sys.state_bits → cs ≡ cert.clauses → c ≡ get_or cs k [] → units ≡ negated_next n c → Certifies sys cert → k < length cs → Within m units
kept_units sys cert k m n cs c units room em en ec e eu h lt =
    let same : units ≡ negated_next sys.state_bits (get_or cert.clauses k []) = cc in
    let below : k < length cert.clauses = omega (arith, lt, ap length ec) in
    rw (em, same) (next_within sys.state_bits sys.all_bits (get_or cert.clauses k []) room (h.within k [] below))

pub kept_log : (sys : TransitionSystem) (cert : Block) (k m n : ℕ) (cs given log : List (List Lit)) (c units : List Lit) → m ≡ sys.all_bits → n ≡ sys.state_bits →
    cs ≡ cert.clauses → c ≡ get_or cs k [] → units ≡ negated_next n c → given ≡ cert.clauses ++ sys.step → log ≡ log_of cert (Kept k) → Certifies sys cert →
    k < length cs → Derives m (given ++ unit_clauses units) log
kept_log sys cert k m n cs given log c units em en ec e eu eg el h lt =
    let same : units ≡ negated_next sys.state_bits (get_or cert.clauses k []) = cc in
    let below : k < length cert.clauses = omega (arith, lt, ap length ec) in
    rw (em, same, eg, el) (kept_derives sys cert k h below)

-- a part `first` that got its steps
pub record FirstMore (m : ℕ) (given : ℕ → List (List Lit)) (fn new : Block) (k : ℕ) : Type 0 where
  pub rest : new ≡ record fn { first = new.first }
  pub count : length new.first ≡ length fn.first
  pub shown : EachBelow (λ j. Shows Hinted m (given j) (get_or new.first j None)) k

pub first_more : (m : ℕ) (given : ℕ → List (List Lit)) (fn old new : Block) (k : ℕ) → k < length fn.first → FirstMore m given fn old k → Puts m (given k) (First k) old new →
    FirstMore m given fn new (k + 1)
first_more m given fn old new k lt before puts =
    let f : List (Option HintedLog) → Block = λ w. record fn { first = w } in
    let h = puts.0 in
    let now = set old.first k (Some h) in
    let at : new.first ≡ now = ap (λ (b : Block). b.first) puts.2 in
    let whole : new ≡ f now = puts.2 ∙ ap (λ b. with_part b (First k) h) before.rest in
    let P : List (Option HintedLog) → Type 0 = λ w. EachBelow (λ j. Shows Hinted m (given j) (get_or w j None)) (k + 1) in
    let in_old : k < length old.first = omega (arith, lt, before.count) in
    record {
      rest = whole ∙ ap f (sym at);
      count = ap length at ∙ (length-set old.first k (Some h) ∙ before.count);
      shown = subst P (sym at) (parts_more (λ j. Shows Hinted m (given j)) old.first k (Some h) in_old before.shown puts.1);
    }

-- a part `kept` that got its steps
pub record KeptMore (m : ℕ) (given : ℕ → List (List Lit)) (fn new : Block) (k : ℕ) : Type 0 where
  pub rest : new ≡ record fn { kept = new.kept }
  pub count : length new.kept ≡ length fn.kept
  pub shown : EachBelow (λ j. Shows Hinted m (given j) (get_or new.kept j None)) k

pub kept_more : (m : ℕ) (given : ℕ → List (List Lit)) (fn old new : Block) (k : ℕ) → k < length fn.kept → KeptMore m given fn old k → Puts m (given k) (Kept k) old new →
    KeptMore m given fn new (k + 1)
kept_more m given fn old new k lt before puts =
    let f : List (Option HintedLog) → Block = λ w. record fn { kept = w } in
    let h = puts.0 in
    let now = set old.kept k (Some h) in
    let at : new.kept ≡ now = ap (λ (b : Block). b.kept) puts.2 in
    let whole : new ≡ f now = puts.2 ∙ ap (λ b. with_part b (Kept k) h) before.rest in
    let P : List (Option HintedLog) → Type 0 = λ w. EachBelow (λ j. Shows Hinted m (given j) (get_or w j None)) (k + 1) in
    let in_old : k < length old.kept = omega (arith, lt, before.count) in
    record {
      rest = whole ∙ ap f (sym at);
      count = ap length at ∙ (length-set old.kept k (Some h) ∙ before.count);
      shown = subst P (sym at) (parts_more (λ j. Shows Hinted m (given j)) old.kept k (Some h) in_old before.shown puts.1);
    }

-- steps that were put, at equal values
pub puts_at : (m n : ℕ) (cs ds : List (List Lit)) (part : Part) (old new : Block) → m ≡ n → cs ≡ ds → Puts m cs part old new → Puts n ds part old new
puts_at m n cs ds part old new e f p =
    let P : ℕ → Type 0 = λ w. Puts w cs part old new in
    let Q : List (List Lit) → Type 0 = λ w. Puts n w part old new in
    subst Q f (subst P e p)

pub first_same : (sys : TransitionSystem) (cert : Block) (k : ℕ) (cs init : List (List Lit)) (c units : List Lit) → cs ≡ cert.clauses → c ≡ get_or cs k [] →
    units ≡ negated c → init ≡ sys.init → init ++ unit_clauses units ≡ first_clauses sys (get_or cert.clauses k [])
first_same sys cert k cs init c units ec e eu ei = let same : units ≡ negated (get_or cert.clauses k []) = cc in rw (same, ei) refl

pub kept_same : (sys : TransitionSystem) (cert : Block) (k n : ℕ) (cs given : List (List Lit)) (c units : List Lit) → n ≡ sys.state_bits → cs ≡ cert.clauses → c ≡ get_or cs k [] →
    units ≡ negated_next n c → given ≡ cert.clauses ++ sys.step → given ++ unit_clauses units ≡ kept_clauses sys cert.clauses [] (get_or cert.clauses k [])
kept_same sys cert k n cs given c units en ec e eu eg =
    let same : units ≡ negated_next sys.state_bits (get_or cert.clauses k []) = cc in
    let none : kept_clauses sys cert.clauses [] (get_or cert.clauses k []) ≡ (cert.clauses ++ sys.step) ++ unit_clauses (negated_next sys.state_bits (get_or cert.clauses k [])) =
    ap (λ w. w ++ unit_clauses (negated_next sys.state_bits (get_or cert.clauses k []))) (append-nil (cert.clauses ++ sys.step)) in
    rw (same, eg) (sym none)

pub safe_same : (sys : TransitionSystem) (cert : Block) (given : List (List Lit)) → given ≡ cert.clauses ++ sys.bad → given ++ [] ≡ safe_clauses sys cert.clauses
safe_same sys cert given e = append-nil given ∙ e

pub safe_log : (sys : TransitionSystem) (cert : Block) (m : ℕ) (given log : List (List Lit)) → m ≡ sys.all_bits → given ≡ cert.clauses ++ sys.bad → log ≡ log_of cert Safe →
    Certifies sys cert → Derives m (given ++ []) log
safe_log sys cert m given log em eg el h = rw (em, safe_same sys cert given eg, el) (safe_derives sys cert h)

-- a certificate with all its parts
pub upgraded : (sys : TransitionSystem) (cert start one two made : Block) → Certifies sys cert → start.form ≡ Hinted → start.counter ≡ cert.counter → start.clauses ≡ cert.clauses →
    start.shared ≡ None →
    EachBelow (λ j. Shows Hinted sys.all_bits (first_clauses sys (get_or cert.clauses j [])) (part_of one (First j))) (length cert.clauses) → one ≡ record start { first = one.first } →
    EachBelow (λ j. Shows Hinted sys.all_bits (kept_clauses sys cert.clauses [] (get_or cert.clauses j [])) (part_of two (Kept j))) (length cert.clauses) → two ≡ record one { kept = two.kept } →
    Puts sys.all_bits (safe_clauses sys cert.clauses) Safe two made → Certifies sys made × IsUpgrade cert made
upgraded sys cert start one two made h form counter clauses shared first e kept f puts =
    let b : Block = record {
      form = Hinted;
      counter = cert.counter;
      clauses = cert.clauses;
      shared = None;
      first = one.first;
      kept = two.kept;
      safe = Some puts.0;
    } in
    let form_two : two.form ≡ Hinted = ap (λ (w : Block). w.form) f ∙ (ap (λ (w : Block). w.form) e ∙ form) in
    let counter_two : two.counter ≡ cert.counter = ap (λ (w : Block). w.counter) f ∙ (ap (λ (w : Block). w.counter) e ∙ counter) in
    let clauses_two : two.clauses ≡ cert.clauses = ap (λ (w : Block). w.clauses) f ∙ (ap (λ (w : Block). w.clauses) e ∙ clauses) in
    let shared_two : two.shared ≡ None = ap (λ (w : Block). w.shared) f ∙ (ap (λ (w : Block). w.shared) e ∙ shared) in
    let first_two : two.first ≡ one.first = ap (λ (w : Block). w.first) f in
    let b₁ : Form → Block = λ w. record { form = w; counter = two.counter; clauses = two.clauses; shared = two.shared; first = two.first; kept = two.kept; safe = Some puts.0 } in
    let b₂ : Option ℕ → Block = λ w. record { form = Hinted; counter = w; clauses = two.clauses; shared = two.shared; first = two.first; kept = two.kept; safe = Some puts.0 } in
    let b₃ : List (List Lit) → Block = λ w. record { form = Hinted; counter = cert.counter; clauses = w; shared = two.shared; first = two.first; kept = two.kept; safe = Some puts.0 } in
    let b₄ : Option HintedLog → Block = λ w. record { form = Hinted; counter = cert.counter; clauses = cert.clauses; shared = w; first = two.first; kept = two.kept; safe = Some puts.0 } in
    let b₅ : List (Option HintedLog) → Block = λ w. record { form = Hinted; counter = cert.counter; clauses = cert.clauses; shared = None; first = w; kept = two.kept; safe = Some puts.0 } in
    let same : made ≡ b = puts.2 ∙ (ap b₁ form_two ∙ (ap b₂ counter_two ∙ (ap b₃ clauses_two ∙ (ap b₄ shared_two ∙ ap b₅ first_two)))) in
    let P : Block → Type 0 = λ w. Certifies sys w × IsUpgrade cert w in
    subst P (sym same) (
      record { within = h.within; shared = tt; first = first; kept = kept; safe = puts.1 },
      record { form = refl; counter = refl; clauses = refl; shared = refl },
    )
