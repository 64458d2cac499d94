-- Whether clauses are met, as a test, and what the clauses of a rule say.
use Rattle.std.proofs.Common.{inl, inr, ◌≡◌, ℕ, zero, suc, ◌<◌, Bool, true, false, not, ◌&&◌, ◌||◌, List, [], ◌∷◌, ◌++◌, map, length, get_or, refl, sym, ap, ◌∙◌, arith}
use Rattle.std.specs.Prelude.{◌↔◌}
use Rattle.std.specs.List.{All}
use Rattle.std.proofs.lemmas.Bool.{cases_Bool, and_parts, and_from, or_left, or_right}
use Rattle.std.proofs.lemmas.List.Elements.{All-nil, All-cons, All-head, All-tail}
use Rattle.clause_core.specs.declared.literal.Lit.{Lit}
use Rattle.clause_core.specs.Literals.{negate}
use Rattle.clause_core.specs.Assignments.{ClauseTrue}
use Rattle.ltl_monitor.specs.Monitor.{same, Each}
use Rattle.ltl_monitor.specs.States.{value}
use Rattle.ltl_monitor.specs.Drafting.{is_same, is_or, is_iff, is_or_and}

-- a literal of the clause is true
abbrev pub any : (ℕ → Bool) → List Lit → Bool
any v [] = false
any v (l ∷ ls) = value v l || any v ls

-- each clause is true
abbrev pub all : (ℕ → Bool) → List (List Lit) → Bool
all v [] = true
all v (c ∷ cs) = any v c && all v cs

abbrev pub Met : (ℕ → Bool) → List (List Lit) → Type 0
Met v cs = all v cs ≡ true

same_not : (p x : Bool) → same (not p) x ≡ not (same p x)
same_not true true = refl
same_not true false = refl
same_not false true = refl
same_not false false = refl

pub value_negate : (v : ℕ → Bool) (l : Lit) → value v (negate l) ≡ not (value v l)
value_negate v l = same_not l.positive (v l.var)

pub same_true : (x y : Bool) → same x y ≡ true → x ≡ y
same_true true true h = refl
same_true true false h = absurd cc
same_true false true h = absurd cc
same_true false false h = refl

pub same_refl : (x y : Bool) → x ≡ y → same x y ≡ true
same_refl true true h = refl
same_refl true false h = absurd cc
same_refl false true h = absurd cc
same_refl false false h = refl

pub all_append : (v : ℕ → Bool) (xs ys : List (List Lit)) → all v (xs ++ ys) ≡ (all v xs && all v ys)
all_append v [] ys = refl
all_append v (x ∷ xs) ys = ap (λ b. any v x && b) (all_append v xs ys) ∙ assoc (any v x) (all v xs) (all v ys)
  where
    assoc : (a b c : Bool) → (a && (b && c)) ≡ ((a && b) && c)
    assoc true b c = refl
    assoc false b c = refl

-- a list in two parts is met where both are
pub met_parts : (v : ℕ → Bool) (xs ys : List (List Lit)) → Met v (xs ++ ys) → Met v xs × Met v ys
met_parts v xs ys h = and_parts (all v xs) (all v ys) (sym (all_append v xs ys) ∙ h)

pub met_join : (v : ℕ → Bool) (xs ys : List (List Lit)) → Met v xs → Met v ys → Met v (xs ++ ys)
met_join v xs ys a b = all_append v xs ys ∙ and_from (all v xs) (all v ys) a b

-- with a rule at the end
pub met_more : (v : ℕ → Bool) (xs ys : List (List Lit)) (P : Type 0) → (Met v ys ↔ P) → Met v (xs ++ ys) ↔ (Met v xs × P)
met_more v xs ys P e = (
  λ h. (let m = met_parts v xs ys h in (m.0, e.0 m.1)),
  λ h. met_join v xs ys h.0 (e.1 h.1),
)

-- the clauses of one literal
pub met_one : (v : ℕ → Bool) (l : Lit) → Met v ((l ∷ []) ∷ []) ↔ (value v l ≡ true)
met_one v l = (λ h. first (value v l) h, λ h. last (value v l) h)
  where
    first : (b : Bool) → ((b || false) && true) ≡ true → b ≡ true
    first true h = refl
    first false h = h

    last : (b : Bool) → b ≡ true → ((b || false) && true) ≡ true
    last true h = refl
    last false h = h

is_same_table : (b x : Bool) → ((b || (not x || false)) && ((not b || (x || false)) && true)) ≡ same b x
is_same_table true true = refl
is_same_table true false = refl
is_same_table false true = refl
is_same_table false false = refl

pub is_same_means : (v : ℕ → Bool) (b x : Lit) → Met v (is_same b x) ↔ (value v b ≡ value v x)
is_same_means v b x =
    let e : all v (is_same b x) ≡ same (value v b) (value v x) = simp value_negate (is_same_table (value v b) (value v x)) in
    (λ h. same_true _ _ (sym e ∙ h), λ h. e ∙ same_refl _ _ h)

is_or_table : (b x y : Bool) → ((b || (not x || false)) && ((b || (not y || false)) && ((not b || (x || (y || false))) && true))) ≡ same b (x || y)
is_or_table true true true = refl
is_or_table true true false = refl
is_or_table true false true = refl
is_or_table true false false = refl
is_or_table false true true = refl
is_or_table false true false = refl
is_or_table false false true = refl
is_or_table false false false = refl

pub is_or_means : (v : ℕ → Bool) (b x y : Lit) → Met v (is_or b x y) ↔ (value v b ≡ (value v x || value v y))
is_or_means v b x y =
    let e : all v (is_or b x y) ≡ same (value v b) (value v x || value v y) = simp value_negate (is_or_table (value v b) (value v x) (value v y)) in
    (λ h. same_true _ _ (sym e ∙ h), λ h. e ∙ same_refl _ _ h)

is_iff_table : (b x y : Bool) → ((not b || (not x || (y || false))) && ((not b || (x || (not y || false))) && ((b || (x || (y || false))) && ((b || (not x || (not y || false))) && true)))) ≡ same b (same x y)
is_iff_table true true true = refl
is_iff_table true true false = refl
is_iff_table true false true = refl
is_iff_table true false false = refl
is_iff_table false true true = refl
is_iff_table false true false = refl
is_iff_table false false true = refl
is_iff_table false false false = refl

pub is_iff_means : (v : ℕ → Bool) (b x y : Lit) → Met v (is_iff b x y) ↔ (value v b ≡ (same (value v x) (value v y)))
is_iff_means v b x y =
    let e : all v (is_iff b x y) ≡ same (value v b) (same (value v x) (value v y)) = simp value_negate (is_iff_table (value v b) (value v x) (value v y)) in
    (λ h. same_true _ _ (sym e ∙ h), λ h. e ∙ same_refl _ _ h)

is_or_and_table : (b g f t : Bool) → ((b || (not g || false)) && ((b || (not f || (not t || false))) && ((not b || (g || (f || false))) && ((not b || (g || (t || false))) && true)))) ≡ same b (g || (f && t))
is_or_and_table true true true true = refl
is_or_and_table true true true false = refl
is_or_and_table true true false true = refl
is_or_and_table true true false false = refl
is_or_and_table true false true true = refl
is_or_and_table true false true false = refl
is_or_and_table true false false true = refl
is_or_and_table true false false false = refl
is_or_and_table false true true true = refl
is_or_and_table false true true false = refl
is_or_and_table false true false true = refl
is_or_and_table false true false false = refl
is_or_and_table false false true true = refl
is_or_and_table false false true false = refl
is_or_and_table false false false true = refl
is_or_and_table false false false false = refl

pub is_or_and_means : (v : ℕ → Bool) (b g f t : Lit) → Met v (is_or_and b g f t) ↔ (value v b ≡ (value v g || (value v f && value v t)))
is_or_and_means v b g f t =
    let e : all v (is_or_and b g f t) ≡ same (value v b) (value v g || (value v f && value v t)) = simp value_negate (is_or_and_table (value v b) (value v g) (value v f) (value v t)) in
    (λ h. same_true _ _ (sym e ∙ h), λ h. e ∙ same_refl _ _ h)

-- the duals
pub not_same : (b c : Bool) → not b ≡ not c → b ≡ c
not_same true true h = refl
not_same true false h = sym h
not_same false true h = sym h
not_same false false h = refl

dual_or : (x y : Bool) → (not x || not y) ≡ not (x && y)
dual_or true y = refl
dual_or false y = refl

dual_or_and : (x y z : Bool) → (not x || (not y && not z)) ≡ not (x && (y || z))
dual_or_and true true z = refl
dual_or_and true false z = refl
dual_or_and false y z = refl

pub is_and_means : (v : ℕ → Bool) (b x y : Lit) → Met v (is_or (negate b) (negate x) (negate y)) ↔ (value v b ≡ (value v x && value v y))
is_and_means v b x y =
    let m = is_or_means v (negate b) (negate x) (negate y) in
    let e : (value v (negate x) || value v (negate y)) ≡ not (value v x && value v y) =
    ap (λ c. c || value v (negate y)) (value_negate v x) ∙ ap (λ c. not (value v x) || c) (value_negate v y) ∙ dual_or (value v x) (value v y) in
    (λ h. not_same _ _ (sym (value_negate v b) ∙ m.0 h ∙ e), λ h. m.1 (value_negate v b ∙ ap not h ∙ sym e))

pub is_and_or_means : (v : ℕ → Bool) (b g f t : Lit) → Met v (is_or_and (negate b) (negate g) (negate f) (negate t)) ↔ (value v b ≡ (value v g && (value v f || value v t)))
is_and_or_means v b g f t =
    let m = is_or_and_means v (negate b) (negate g) (negate f) (negate t) in
    let e : (value v (negate g) || (value v (negate f) && value v (negate t))) ≡ not (value v g && (value v f || value v t)) =
    ap (λ c. c || (value v (negate f) && value v (negate t))) (value_negate v g) ∙ ap (λ c. not (value v g) || (c && value v (negate t))) (value_negate v f)
    ∙ ap (λ c. not (value v g) || (not (value v f) && c)) (value_negate v t) ∙ dual_or_and (value v g) (value v f) (value v t) in
    (λ h. not_same _ _ (sym (value_negate v b) ∙ m.0 h ∙ e), λ h. m.1 (value_negate v b ∙ ap not h ∙ sym e))

-- a clause is true as the test says
literal_true : (v : ℕ → Bool) (l : Lit) → v l.var ≡ l.positive → value v l ≡ true
literal_true v l e = same_refl l.positive (v l.var) (sym e)

pub literal_from : (v : ℕ → Bool) (l : Lit) → value v l ≡ true → v l.var ≡ l.positive
literal_from v l e = sym (same_true l.positive (v l.var) e)

any_from_at : (v : ℕ → Bool) (c : List Lit) (k : ℕ) (x : Lit) → k < length c → get_or c k x ≡ x → v x.var ≡ x.positive → any v c ≡ true
any_from_at v [] k x h e p = absurd (omega (arith, h))
any_from_at v (l ∷ c) zero x h e p = or_left (value v l) (any v c) (ap (value v) e ∙ literal_true v x p)
any_from_at v (l ∷ c) (suc k) x h e p = or_right (value v l) (any v c) (any_from_at v c k x (omega (arith, h)) e p)

clause_from : (v : ℕ → Bool) (c : List Lit) → any v c ≡ true → ClauseTrue v c
clause_from v [] h = absurd cc
clause_from v (l ∷ c) h = elim (cases_Bool (value v l)) [
  | inl t ↦ (0, l, omega arith, refl, literal_from v l t)
  | inr f ↦
      let r = clause_from v c (sym (ap (λ b. b || any v c) f) ∙ h) in
      (suc r.0, r.1, omega (arith, r.2), r.3, r.4)
]

pub met_from : (v : ℕ → Bool) (cs : List (List Lit)) → All (ClauseTrue v) cs → Met v cs
met_from v [] h = refl
met_from v (c ∷ cs) h =
    let t = All-head (ClauseTrue v) c cs h in
    and_from (any v c) (all v cs) (any_from_at v c t.0 t.1 t.2 t.3 t.4) (met_from v cs (All-tail (ClauseTrue v) c cs h))

pub all_from : (v : ℕ → Bool) (cs : List (List Lit)) → Met v cs → All (ClauseTrue v) cs
all_from v [] h = All-nil (ClauseTrue v)
all_from v (c ∷ cs) h =
    let p = and_parts (any v c) (all v cs) h in
    All-cons (ClauseTrue v) c cs (clause_from v c p.0) (all_from v cs p.1)

-- facts on each literal of each clause
abbrev pub Lits : (Lit → Type 0) → List (List Lit) → Type 0
Lits P cs = Each (Each P) cs

pub each_all : {X : Type 0} (P : X → Type 0) (xs : List X) → Each P xs → All P xs
each_all P [] h = All-nil P
each_all P (x ∷ xs) h = All-cons P x xs h.0 (each_all P xs h.1)

pub all_each : {X : Type 0} (P : X → Type 0) (xs : List X) → All P xs → Each P xs
all_each P [] h = tt
all_each P (x ∷ xs) h = (All-head P x xs h, all_each P xs (All-tail P x xs h))

pub each_more : {X : Type 0} (P Q : X → Type 0) → ((x : X) → P x → Q x) → (xs : List X) → Each P xs → Each Q xs
each_more P Q w [] h = tt
each_more P Q w (x ∷ xs) h = (w x h.0, each_more P Q w xs h.1)

pub lits_more : (P Q : Lit → Type 0) → ((x : Lit) → P x → Q x) → (cs : List (List Lit)) → Lits P cs → Lits Q cs
lits_more P Q w cs h = each_more (Each P) (Each Q) (λ c. each_more P Q w c) cs h

pub lits_all : (P : Lit → Type 0) (cs : List (List Lit)) → Lits P cs → All (All P) cs
lits_all P cs h = each_all (All P) cs (each_more (Each P) (All P) (λ c. each_all P c) cs h)

pub all_lits : (P : Lit → Type 0) (cs : List (List Lit)) → All (All P) cs → Lits P cs
all_lits P cs h = each_more (All P) (Each P) (λ c. all_each P c) cs (all_each (All P) cs h)

pub each_map_to : {X Y : Type 0} (P : Y → Type 0) (f : X → Y) (xs : List X) → Each (λ x. P (f x)) xs → Each P (map f xs)
each_map_to P f [] h = tt
each_map_to P f (x ∷ xs) h = (h.0, each_map_to P f xs h.1)

-- the literals' variables are below m
abbrev pub Below : ℕ → Lit → Type 0
Below m l = l.var < m

-- a and b give the literal's variable the same value
abbrev pub Alike : (ℕ → Bool) → (ℕ → Bool) → Lit → Type 0
Alike a b l = a l.var ≡ b l.var

-- what is alike on a list's variables has it alike
pub value_like : (u v : ℕ → Bool) (l : Lit) → Alike u v l → value u l ≡ value v l
value_like u v l e = ap (same l.positive) e

any_like : (u v : ℕ → Bool) (c : List Lit) → Each (Alike u v) c → any u c ≡ any v c
any_like u v [] h = refl
any_like u v (l ∷ c) h = ap (λ b. b || any u c) (value_like u v l h.0) ∙ ap (λ b. value v l || b) (any_like u v c h.1)

pub all_like : (u v : ℕ → Bool) (cs : List (List Lit)) → Lits (Alike u v) cs → all u cs ≡ all v cs
all_like u v [] h = refl
all_like u v (c ∷ cs) h = ap (λ b. b && all u cs) (any_like u v c h.0) ∙ ap (λ b. any v c && b) (all_like u v cs h.1)

pub values_like : (u v : ℕ → Bool) (ls : List Lit) → Each (Alike u v) ls → map (value u) ls ≡ map (value v) ls
values_like u v [] h = refl
values_like u v (l ∷ ls) h = ap (λ b. b ∷ map (value u) ls) (value_like u v l h.0) ∙ ap (λ bs. value v l ∷ bs) (values_like u v ls h.1)

-- literals with other variables
abbrev pub renamed : (ℕ → ℕ) → Lit → Lit
renamed r l = record { var = r l.var; positive = l.positive }

any_renamed : (v : ℕ → Bool) (r : ℕ → ℕ) (c : List Lit) → any v (map (renamed r) c) ≡ any (λ x. v (r x)) c
any_renamed v r [] = refl
any_renamed v r (l ∷ c) = ap (λ b. value v (renamed r l) || b) (any_renamed v r c)

pub all_renamed : (v : ℕ → Bool) (r : ℕ → ℕ) (cs : List (List Lit)) → all v (map (map (renamed r)) cs) ≡ all (λ x. v (r x)) cs
all_renamed v r [] = refl
all_renamed v r (c ∷ cs) = ap (λ b. b && all v (map (map (renamed r)) cs)) (any_renamed v r c) ∙ ap (λ b. any (λ x. v (r x)) c && b) (all_renamed v r cs)

pub values_renamed : (v : ℕ → Bool) (r : ℕ → ℕ) (ls : List Lit) → map (value v) (map (renamed r) ls) ≡ map (value (λ x. v (r x))) ls
values_renamed v r [] = refl
values_renamed v r (l ∷ ls) = ap (λ bs. value v (renamed r l) ∷ bs) (values_renamed v r ls)

pub lits_renamed : (P : Lit → Type 0) (r : ℕ → ℕ) (cs : List (List Lit)) → Lits (λ l. P (renamed r l)) cs → Lits P (map (map (renamed r)) cs)
lits_renamed P r cs h = each_map_to (Each P) (map (renamed r)) cs (each_more (Each (λ l. P (renamed r l))) (λ c. Each P (map (renamed r) c)) (λ c. each_map_to P (renamed r) c) cs h)
