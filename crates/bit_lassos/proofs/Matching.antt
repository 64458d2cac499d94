-- The bits of the states of a lasso violate the formula just where the lasso violates the specification.
use Rattle.std.proofs.Common.{inl, inr, ◌≡◌, ◌∙◌, ℕ, zero, suc, ◌+◌, ◌-◌, ◌*◌, ◌<◌, ◌≤◌, Bool, true, false, ◌&&◌, ◌++◌, List, [], ◌∷◌, length, map, get_or, refl, sym, ap, subst, arith, cond, filter}
use Rattle.std.specs.Prelude.{◌↔◌, ◌/◌, ◌%◌, nat_lt, if◌then◌else◌, Contains}
use Rattle.std.proofs.lemmas.Bool.{and_from, cases_lt}
use Rattle.std.proofs.lemmas.Bool.Decides.{nat_tests}
use Rattle.std.proofs.lemmas.List.{get_or-append-add, get_or-map, get_or_append_left, get_or_default, length-map, map-append}
use Rattle.std.proofs.lemmas.List.Elements.{All-contains_itself, All-filter, filter_passes}
use Rattle.clause_core.specs.declared.literal.Lit.{Lit}
use Rattle.ltl_meaning.specs.Ltl.{Ltl}
use Rattle.ltl_meaning.specs.Truth.{Moment, Satisfies}
use Rattle.ltl_meaning.specs.Unfolded.{unfolded}
use Rattle.ltl_meaning.proofs.Alike.{AreAlike, unary_alike, binary_alike}
use Rattle.ltl_meaning.proofs.Unfold.{unfolds}
use Rattle.ltl_meaning.proofs.Walk.{walk_same}
use Rattle.ltl_monitor.specs.FairLasso.{Sequence, along}
use Rattle.ltl_monitor.specs.Lassos.{state_at, word_of}
use Rattle.ltl_monitor.specs.Monitor.{Each}
use Rattle.ltl_monitor.specs.States.{AtomsBelow, Extends, justice_of, numbers, value as value_under}
use Rattle.ltl_monitor.proofs.BitLassos.{many, state_inside, state_walk}
use Rattle.smv_tree.specs.declared.tree.Program.{Program}
use Rattle.smv_tree.specs.declared.tree.ConstraintKind.TheVariants as asked
use Rattle.smv_value.specs.declared.value.Value.{Value}
use Rattle.smv_value.specs.declared.value.Value.TheVariants as value
use Rattle.smv_resolve.specs.declared.item.ItemKind.{ItemKind}
use Rattle.smv_resolve.specs.declared.item.ItemKind.TheVariants as item
use Rattle.smv_resolve.specs.Items.{ResolvedItem}
use Rattle.smv_layout.specs.Layout.{items_of}
use Rattle.smv_resolve.specs.Resolved.{Resolved, part_at}
use Rattle.smv_slots.specs.Slots.{slots_of}
use Rattle.smv_meaning.specs.declared.outcome.Evaluation.{Evaluation}
use Rattle.smv_meaning.specs.declared.outcome.Evaluation.TheVariants.{Fault, Nothing, Values}
use Rattle.smv_meaning.specs.Lassos.{Holds, Lasso, MeetsJustice, place_at}
use Rattle.smv_meaning.specs.Runs.{are_inputs, at_time, is_state, is_true}
use Rattle.smv_meaning.specs.Outcomes.{one}
use Rattle.smv_meaning.specs.Values.{outcome, outcome_in}
use Rattle.smv_formulas.specs.Says.{atoms_on}
use Rattle.bit_conditions.specs.Asked.{is_just_in, is_justice, justices_of}
use Rattle.bit_formula.specs.Agreeing.{AreAllRead, FormulaAgrees, IsJointCoding}
use Rattle.bit_formula.specs.Coding.{input_count, read_inputs, state_in}
use Rattle.bit_formula.specs.Reading.{AgreeOn}
use Rattle.bit_formula.specs.Standing.{FormulaSystem, StandsForFormula, is_coded, is_true_at}
use Rattle.bit_formula.proofs.Joint.{inputs_apart}

-- what is TRUE has the one value TRUE
true_only : (o : Evaluation) → is_true o ≡ true → o ≡ one (value.Bool true)
true_only (Fault rule place) h = absurd (let no : ⊥ = cc in no)
true_only Nothing h = absurd (let no : ⊥ = cc in no)
true_only (Values []) h = absurd (let no : ⊥ = cc in no)
true_only (Values (value.Bool true ∷ [])) h = refl
true_only (Values (value.Bool false ∷ [])) h = absurd (let no : ⊥ = cc in no)
true_only (Values (value.Int z ∷ [])) h = absurd (let no : ⊥ = cc in no)
true_only (Values (value.Sym k ∷ [])) h = absurd (let no : ⊥ = cc in no)
true_only (Values (value.Word s k b ∷ [])) h = absurd (let no : ⊥ = cc in no)
true_only (Values (v ∷ u ∷ vs)) h = absurd (let no : ⊥ = cc in no)

true_either : (o : Evaluation) → (is_true o ≡ true) ↔ (o ≡ one (value.Bool true))
true_either o = (true_only o, λ e. ap is_true e)

-- formulas over atoms that are true at the same times, as far as they have them
module _ (A B : ℕ → Moment) (m : ℕ) (e : (a : ℕ) → a < m → AreAlike (A a) (B a)) where
  satisfied_alike : (f : Ltl) → AtomsBelow m f → AreAlike (Satisfies A f) (Satisfies B f)
  satisfied_alike (Ltl.Constant b) below t = (λ x. x, λ x. x)
  satisfied_alike (Ltl.Atom a) below t = e a below t
  satisfied_alike (Ltl.Unary o f) below t = unary_alike _ _ (satisfied_alike f below) o t
  satisfied_alike (Ltl.Binary o f g) below t = binary_alike _ _ (satisfied_alike f below.0) _ _ (satisfied_alike g below.1) o t

-- the places of a lasso
module _ (n l : ℕ) (inside : l < n) where
  stays : (t : ℕ) → t < n → state_at n l t ≡ t
  stays t lt = state_walk n l t ∙ walk_same n l inside t lt

  pub place_is : (t : ℕ) → (if nat_lt t n then t else l + (t - l) % (n - l)) ≡ state_at n l t
  place_is t = elim (cases_lt t n) [
    | inl lt ↦ (let e : (if nat_lt t n then t else l + (t - l) % (n - l)) ≡ t = grind (arith, nat_tests) in e) ∙ sym (stays t lt)
    | inr le ↦
        let j : ℕ = l + (t - l) % (n - l) in
        let c : ℕ = (t - l) / (n - l) in
        let e : (if nat_lt t n then t else l + (t - l) % (n - l)) ≡ l + (t - l) % (n - l) = grind (arith, nat_tests) in
        let below : l + (t - l) % (n - l) < n = omega arith in
        let back : l + (t - l) % (n - l) + (t - l) / (n - l) * (n - l) ≡ t = omega arith in
        e ∙ sym (stays (l + (t - l) % (n - l)) below) ∙ sym (many n l inside ((t - l) / (n - l)) (l + (t - l) % (n - l)) (omega arith)) ∙ ap (state_at n l) back
  ]

-- each of the numbers of literals
numbers_each : (P : ℕ → Type 0) (from : ℕ) (ls : List Lit) → ((k : ℕ) → k < length ls → P (from + k)) → Each P (numbers from ls)
numbers_each P from [] h = tt
numbers_each P from (l ∷ ls) h = (
  subst P (let e : from + 0 ≡ from = omega arith in e) (h 0 (omega arith)),
  numbers_each P (from + 1) ls (λ k lt. subst P (let e : from + suc k ≡ from + 1 + k = omega arith in e) (h (suc k) (omega (arith, lt)))),
)

each_number : (P : ℕ → Type 0) (from : ℕ) (ls : List Lit) → Each P (numbers from ls) → (k : ℕ) → k < length ls → P (from + k)
each_number P from [] h k lt = absurd (let never : ⊥ = omega (arith, lt) in never)
each_number P from (l ∷ ls) h zero lt = subst P (let e : from ≡ from + 0 = omega arith in e) h.0
each_number P from (l ∷ ls) h (suc k) lt = subst P (let e : from + 1 + k ≡ from + suc k = omega arith in e) (each_number P (from + 1) ls h.1 k (omega (arith, lt)))

-- what is kept of a list
later : {A : Type 0} (b : Bool) (y : A) (zs : List A) (x : A) → Contains zs x → Contains (cond b (y ∷ zs) zs) x
later true y zs x h = (suc h.0, omega (arith, h.1), h.2)
later false y zs x h = h

first_kept : {A : Type 0} (b : Bool) (y : A) (zs : List A) → b ≡ true → Contains (cond b (y ∷ zs) zs) y
first_kept true y zs h = (0, omega arith, refl)
first_kept false y zs h = absurd (let never : ⊥ = cc in never)

kept : {A : Type 0} (test : A → Bool) (xs : List A) (k : ℕ) (x : A) → k < length xs → get_or xs k x ≡ x → test x ≡ true → Contains (filter test xs) x
kept test [] k x lt is so = absurd (let never : ⊥ = omega (arith, lt) in never)
kept test (y ∷ ys) zero x lt is so = subst (λ z. Contains (filter test (y ∷ ys)) z) is (first_kept (test y) y (filter test ys) (ap test is ∙ so))
kept test (y ∷ ys) (suc k) x lt is so = later (test y) y (filter test ys) x (kept test ys k x (omega (arith, lt)) is so)

element : {A : Type 0} (xs : List A) (k : ℕ) → k < length xs → A
element [] k lt = absurd (let never : ⊥ = omega (arith, lt) in never)
element (x ∷ xs) zero lt = x
element (x ∷ xs) (suc k) lt = element xs k (omega (arith, lt))

kind_is : (k : ItemKind) → is_justice k ≡ true → k ≡ item.Constraint asked.Justice
kind_is (item.Constraint asked.Justice) h = refl
kind_is (item.Constraint asked.Init) h = absurd (let never : ⊥ = cc in never)
kind_is (item.Constraint asked.Invar) h = absurd (let never : ⊥ = cc in never)
kind_is (item.Constraint asked.Trans) h = absurd (let never : ⊥ = cc in never)
kind_is (item.Assignment kind) h = absurd (let never : ⊥ = cc in never)
kind_is (item.Specification kind) h = absurd (let never : ⊥ = cc in never)

-- A lasso of the program and bits that are its states, with the values that definitions give them.
pub record Matches (p : Program) (r : FormulaSystem) (w : Lasso) (xs : ℕ → ℕ → Bool) : Type 0 where
  pub long : length w.states ≡ length w.inputs
  pub inside : w.start < length w.states
  pub states : (i : ℕ) → i < length w.states → state_in p r.reads (xs i) ≡ at_time w.states i
  pub typed : (i : ℕ) → i < length w.states → is_state p (at_time w.states i) ≡ true
  pub inputs : (i : ℕ) → i < length w.states → are_inputs p (at_time w.inputs i) ≡ true
  pub reads : (i : ℕ) → i < length w.states → AgreeOn r.reads (read_inputs p r.reads (xs i)) (at_time w.inputs i)

module _ (p : Program) (spec : ResolvedItem) (r : FormulaSystem) (stands : StandsForFormula p spec r) (agrees : FormulaAgrees p r stands.parts)
    (coding : IsJointCoding p r.reads) (all_read : AreAllRead p stands.parts) (w : Lasso) (xs : ℕ → ℕ → Bool) (matches : Matches p r w xs)
    (values : ℕ → ℕ → Bool) (extends : (i : ℕ) → Extends r.system (xs i) (values i)) where
  abbrev n : ℕ
  n = length w.states

  abbrev l : ℕ
  l = w.start

  abbrev parts : List Resolved
  parts = stands.parts

  abbrev fair : List Lit
  fair = r.system.fair

  abbrev formula : Ltl
  formula = unfolded r.formula

  abbrev word : Sequence
  word = word_of r.system r.atoms values n l

  -- a part is TRUE in a state, with the inputs there
  abbrev is_true_there : Resolved → ℕ → Bool
  is_true_there e i = is_true (outcome (slots_of p) (at_time w.states i) (at_time w.inputs i) [] e)

  abbrev is_just_there : ResolvedItem → ℕ → Bool
  is_just_there x i = is_true (outcome_in (slots_of p) (at_time w.states i) x.value)

  -- the literals of atoms, and those of JUSTICE

  many_atoms : length r.atoms ≡ length parts
  many_atoms =
      sym (length-map r.atoms (value_under (values 0))) ∙ ap length (agrees.atoms (xs 0) (values 0) (extends 0))
      ∙ length-map parts (λ (e : Resolved). is_true_at p r.reads e (xs 0))

  many_fair : length fair ≡ length (justices_of p)
  many_fair =
      sym (length-map fair (value_under (values 0))) ∙ ap length (agrees.fair (xs 0) (values 0) (extends 0))
      ∙ length-map (justices_of p) (is_just_in p (state_in p r.reads (xs 0)))

  word_atom : (t a : ℕ) → a < length r.atoms → word t a ≡ is_true_at p r.reads (part_at parts a) (xs (state_at n l t))
  word_atom t a lt =
      let i = state_at n l t in
      let v = value_under (values i) in
      let inside : a < length (map v r.atoms) = omega (arith, lt, length-map r.atoms v) in
      let among : a < length parts = omega (arith, lt, many_atoms) in
      ap (λ (bs : List Bool). get_or bs a false) (map-append v r.atoms fair)
      ∙ get_or_append_left (map v r.atoms) (map v fair) false a inside
      ∙ ap (λ (bs : List Bool). get_or bs a false) (agrees.atoms (xs i) (values i) (extends i))
      ∙ get_or-map (λ (e : Resolved). is_true_at p r.reads e (xs i)) parts a Resolved.Stuck false among

  word_fair : (t k : ℕ) (d : ResolvedItem) → k < length fair → word t (length r.atoms + k) ≡ is_just_in p (state_in p r.reads (xs (state_at n l t))) (get_or (justices_of p) k d)
  word_fair t k d lt =
      let i = state_at n l t in
      let v = value_under (values i) in
      let among : k < length (justices_of p) = omega (arith, lt, many_fair) in
      ap (λ (bs : List Bool). get_or bs (length r.atoms + k) false) (map-append v r.atoms fair)
      ∙ ap (λ m. get_or (map v r.atoms ++ map v fair) (m + k) false) (sym (length-map r.atoms v))
      ∙ get_or-append-add (map v r.atoms) (map v fair) k false
      ∙ ap (λ (bs : List Bool). get_or bs k false) (agrees.fair (xs i) (values i) (extends i))
      ∙ get_or-map (is_just_in p (state_in p r.reads (xs i))) (justices_of p) k d false among

  -- The states and the inputs of the lasso.

  and_true : (a b : Bool) → a ≡ true → (a && b) ≡ b
  and_true true b h = refl
  and_true false b h = absurd (let never : ⊥ = cc in never)

  many_inputs : (u : List Value) → are_inputs p u ≡ true → length u ≡ input_count p
  many_inputs u h = sym (inputs_apart p stands.types u h).0

  -- the bits are those of a state, and of inputs that are read
  state_typed : (i : ℕ) → i < n → is_state p (state_in p r.reads (xs i)) ≡ true
  state_typed i below = ap (is_state p) (matches.states i below) ∙ matches.typed i below

  read_typed : (i : ℕ) → i < n → are_inputs p (read_inputs p r.reads (xs i)) ≡ true
  read_typed i below = coding.typed (xs i) (at_time w.inputs i) (matches.inputs i below) (matches.reads i below)

  part_there : (a i : ℕ) → a < length parts → i < n → is_true_at p r.reads (part_at parts a) (xs i) ≡ is_true_there (part_at parts a) i
  part_there a i lt below =
      let x = xs i in
      let e = part_at parts a in
      let s = state_in p r.reads x in
      let u = read_inputs p r.reads x in
      let contained : Contains parts e = (a, lt, get_or_default parts a e Resolved.Stuck lt) in
      let same : outcome (slots_of p) s u [] e ≡ outcome (slots_of p) s (at_time w.inputs i) [] e =
      all_read u (at_time w.inputs i) (many_inputs u (read_typed i below)) (many_inputs (at_time w.inputs i) (matches.inputs i below))
      (subst (λ (reads : List ℕ). AgreeOn reads u (at_time w.inputs i)) stands.reads (matches.reads i below)) e contained s [] in
      and_true (is_coded p r.reads x) (is_true (outcome (slots_of p) s u [] e)) (and_from (is_state p s) (are_inputs p u) (state_typed i below) (read_typed i below))
      ∙ ap is_true same
      ∙ ap (λ (z : List Value). is_true (outcome (slots_of p) z (at_time w.inputs i) [] e)) (matches.states i below)

  just_there : (x : ResolvedItem) (i : ℕ) → i < n → is_just_in p (state_in p r.reads (xs i)) x ≡ is_just_there x i
  just_there x i below =
      let s = state_in p r.reads (xs i) in
      and_true (is_state p s) (is_true (outcome_in (slots_of p) s x.value)) (state_typed i below)
      ∙ ap (λ (z : List Value). is_true (outcome_in (slots_of p) z x.value)) (matches.states i below)

  -- The specification.

  same_atom : (a : ℕ) → a < length r.atoms → AreAlike (along word a) (atoms_on p w parts a)
  same_atom a lt t =
      let i = state_at n l t in
      let e : word t a ≡ is_true_there (part_at parts a) (place_at w t) =
      word_atom t a lt ∙ part_there a i (omega (arith, lt, many_atoms)) (state_inside n l matches.inside t)
      ∙ ap (is_true_there (part_at parts a)) (sym (place_is n l matches.inside t)) in
      let o = true_either (outcome (slots_of p) (at_time w.states (place_at w t)) (at_time w.inputs (place_at w t)) [] (part_at parts a)) in
      (λ h. o.0 (sym e ∙ h), λ h. e ∙ o.1 h)

  pub holds_same : Satisfies (along word) formula 0 ↔ Holds p w spec.value 0
  holds_same =
      let one = satisfied_alike (along word) (atoms_on p w parts) (length r.atoms) same_atom formula stands.numbers 0 in
      let two = unfolds (atoms_on p w parts) r.formula 0 in
      let three = stands.says.told w 0 in
      (λ h. three.0 (two.1 (one.0 h)), λ h. one.1 (two.0 (three.1 h)))

  -- JUSTICE

  abbrev OnWord : ℕ → Type 0
  OnWord a = (j : ℕ) × (l ≤ j) × (j < n) × (word j a ≡ true)

  abbrev Met : ResolvedItem → Type 0
  Met x = (j : ℕ) × (l ≤ j) × (j < n) × (outcome_in (slots_of p) (at_time w.states j) x.value ≡ one (value.Bool true))

  word_just : (j k : ℕ) (d : ResolvedItem) → k < length fair → j < n → word j (length r.atoms + k) ≡ is_just_there (get_or (justices_of p) k d) j
  word_just j k d lt below =
      word_fair j k d lt ∙ ap (λ i. is_just_in p (state_in p r.reads (xs i)) (get_or (justices_of p) k d)) (stays n l matches.inside j below)
      ∙ just_there (get_or (justices_of p) k d) j below

  met_at : (k : ℕ) (d : ResolvedItem) → k < length fair → OnWord (length r.atoms + k) → Met (get_or (justices_of p) k d)
  met_at k d lt h = (h.0, h.1, h.2, true_only _ (sym (word_just h.0 k d lt h.2) ∙ h.3))

  on_word_at : (k : ℕ) (d : ResolvedItem) → k < length fair → Met (get_or (justices_of p) k d) → OnWord (length r.atoms + k)
  on_word_at k d lt h = (h.0, h.1, h.2, word_just h.0 k d lt h.2 ∙ ap is_true h.3)

  pub is_met : Each OnWord (justice_of r.system r.atoms) → MeetsJustice p w
  is_met each x within kind =
      let c = kept (λ (y : ResolvedItem). is_justice y.kind) (items_of p) within.0 x within.1 within.2 (ap is_justice kind) in
      let lt : c.0 < length fair = omega (arith, c.1, many_fair) in
      subst Met c.2 (met_at c.0 x lt (each_number OnWord (length r.atoms) fair each c.0 lt))

  pub is_on_word : MeetsJustice p w → Each OnWord (justice_of r.system r.atoms)
  is_on_word meets = numbers_each OnWord (length r.atoms) fair (λ k lt.
      let among : k < length (justices_of p) = omega (arith, lt, many_fair) in
      let d = element (justices_of p) k among in
      let x = get_or (justices_of p) k d in
      let within = All-filter (λ (y : ResolvedItem). is_justice y.kind) (Contains (items_of p)) (items_of p) (All-contains_itself (items_of p)) k d among in
      let kind = kind_is x.kind (filter_passes (λ (y : ResolvedItem). is_justice y.kind) (items_of p) k d among) in
      on_word_at k d lt (meets x within kind))
