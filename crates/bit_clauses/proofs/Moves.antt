-- Moved variables say the same.
use Rattle.std.proofs.Common.{◌≡◌, ◌∙◌, ℕ, ◌<◌, ◌≤◌, ◌+◌, ◌-◌, ◌⊎◌, Bool, true, false, cond, List, [], ◌∷◌, ◌++◌, map, length, get_or, refl, sym, ap, subst, arith, zero, suc, inl, inr}
use Rattle.std.specs.Prelude.{nat_lt}
use Rattle.std.specs.List.{All, Any, Contains}
use Rattle.std.proofs.lemmas.Bool.{cases_Bool, cases_lt, ltb-true, ltb-false, lt-ltb, le-ltb}
use Rattle.std.proofs.lemmas.Simd.{map-map}
use Rattle.std.proofs.lemmas.List.{get_or-map, length-map, map-append}
use Rattle.std.proofs.lemmas.List.Elements.{All-nil, All-cons, All-head, All-tail, All-map, All-weaker}
use Rattle.bit_graph.specs.declared.edge.Edge.{Edge}
use Rattle.bit_graph.specs.declared.edge.GraphNode.{GraphNode}
use Rattle.bit_graph.specs.Values.{value_under}
use Rattle.clause_core.specs.declared.literal.Lit.{Lit}
use Rattle.clause_core.specs.Literals.{negate, Within}
use Rattle.clause_core.specs.Assignments.{ClauseTrue, Agrees}
use Rattle.clause_core.specs.Propagation.{Closed, UnitIn}
use Rattle.clause_core.specs.Systems.{Gives, SameOn}
use Rattle.cnf_build.specs.Encoding.{lit}
use Rattle.cnf_build.proofs.NodeClauses.{any_head, any_tail}
use Rattle.bit_clauses.specs.Deciding.{Defines, Sets, signed}
use Rattle.bit_clauses.specs.Gated.{HasLiteral, IsGated}
use Rattle.bit_clauses.specs.Moving.{Skips, moved_var, moved_lit, moved_clause, moved_clauses}

pub unmap : {X Y : Type 0} (P : Y → Type 0) (f : X → Y) (xs : List X) → All P (map f xs) → All (λ x. P (f x)) xs
unmap P f [] all = All-nil (λ x. P (f x))
unmap P f (x ∷ xs) all = All-cons (λ x. P (f x)) x xs (All-head P (f x) (map f xs) all) (unmap P f xs (All-tail P (f x) (map f xs) all))

contains_mapped : {X Y : Type 0} (f : X → Y) (xs : List X) (x : X) → Contains xs x → Contains (map f xs) (f x)
contains_mapped f xs x (k, lt, is) = (k, omega (arith, length-map xs f, lt), get_or-map f xs k x (f x) lt ∙ ap f is)

module _ (n by : ℕ) where
  abbrev to : ℕ → ℕ
  to v = moved_var n by v

  below : (v : ℕ) → v < n → to v ≡ v
  below v lt = rw (lt-ltb v n lt) refl

  above : (v : ℕ) → n ≤ v → to v ≡ v + by
  above v le = rw (le-ltb v n le) refl

  -- clauses are true moved where they are true
  true_moved : (a : ℕ → Bool) (c : List Lit) → ClauseTrue a (moved_clause n by c) → ClauseTrue (λ v. a (to v)) c
  true_moved a [] (k, d, lt, is, on) = absurd (omega (arith, lt))
  true_moved a (l ∷ c) (zero, d, lt, is, on) = any_head (λ (m : Lit). a (to m.var) ≡ m.positive) l c (subst (λ (m : Lit). a m.var ≡ m.positive) (sym is) on)
  true_moved a (l ∷ c) (suc k, d, lt, is, on) = any_tail (λ (m : Lit). a (to m.var) ≡ m.positive) l c (true_moved a c (k, d, omega (arith, lt), is, on))

  moved_true : (a b : ℕ → Bool) → ((v : ℕ) → a (to v) ≡ b v) → (c : List Lit) → ClauseTrue b c → ClauseTrue a (moved_clause n by c)
  moved_true a b like [] (k, d, lt, is, on) = absurd (omega (arith, lt))
  moved_true a b like (l ∷ c) (zero, d, lt, is, on) =
      any_head (λ (m : Lit). a m.var ≡ m.positive) (moved_lit n by l) (moved_clause n by c) (like l.var ∙ subst (λ (m : Lit). b m.var ≡ m.positive) (sym is) on)
  moved_true a b like (l ∷ c) (suc k, d, lt, is, on) =
      any_tail (λ (m : Lit). a m.var ≡ m.positive) (moved_lit n by l) (moved_clause n by c) (moved_true a b like c (k, d, omega (arith, lt), is, on))

  all_true_moved : (a : ℕ → Bool) (cs : List (List Lit)) → All (ClauseTrue a) (moved_clauses n by cs) → All (ClauseTrue (λ v. a (to v))) cs
  all_true_moved a cs all = All-weaker (λ c. ClauseTrue a (moved_clause n by c)) (ClauseTrue (λ v. a (to v))) (true_moved a) cs (unmap (ClauseTrue a) (moved_clause n by) cs all)

  -- values of moved variables
  spread : (ℕ → Bool) → ℕ → Bool
  spread a v = cond (nat_lt v n) (a v) (a (v - by))

  spread_at : (a : ℕ → Bool) (v : ℕ) → spread a (to v) ≡ a v
  unfolding spread
  spread_at a v = elim (cases_Bool (nat_lt v n)) [
    | inl lt ↦ rw (lt, lt) refl
    | inr ge ↦
        let high : n ≤ v = ltb-false v n ge in
        let there : n ≤ v + by = omega (arith, high) in
        let back : (v + by) - by ≡ v = omega arith in
        rw (ge, le-ltb (v + by) n there) (ap a back)
  ]

  spread_below : (a x : ℕ → Bool) → Agrees n a x → Agrees n (spread a) x
  unfolding spread
  spread_below a x agrees v lt = rw (lt-ltb v n lt) (agrees v lt)

  agrees_moved : (a x : ℕ → Bool) → Agrees n a x → Agrees n (λ v. a (to v)) x
  agrees_moved a x agrees v lt = ap a (below v lt) ∙ agrees v lt

  -- what unit propagation sets
  settled_moved : (t : Lit → Bool) (c : List Lit) → ((l : Lit) → UnitIn t (moved_clause n by c) l → t l ≡ true)
      → (l : Lit) → UnitIn (λ m. t (moved_lit n by m)) c l → t (moved_lit n by l) ≡ true
  settled_moved t c rule l (there, off) =
      rule (moved_lit n by l) (
        contains_mapped (moved_lit n by) c l there,
        All-map (λ (m : Lit). (m ≡ moved_lit n by l → ⊥) → t (negate m) ≡ true) (moved_lit n by) c
            (All-weaker (λ (m : Lit). (m ≡ l → ⊥) → t (moved_lit n by (negate m)) ≡ true) (λ (m : Lit). (moved_lit n by m ≡ moved_lit n by l → ⊥) → t (moved_lit n by (negate m)) ≡ true)
            (λ m set ne. set (λ e. ne (ap (moved_lit n by) e))) c off),
      )

  closed_moved : (t : Lit → Bool) (cs : List (List Lit)) → Closed t (moved_clauses n by cs) → Closed (λ m. t (moved_lit n by m)) cs
  closed_moved t cs closed =
      All-weaker (λ c. (l : Lit) → UnitIn t (moved_clause n by c) l → t l ≡ true) (λ c. (l : Lit) → UnitIn (λ m. t (moved_lit n by m)) c l → t (moved_lit n by l) ≡ true)
      (settled_moved t) cs (unmap (λ c. (l : Lit) → UnitIn t c l → t l ≡ true) (moved_clause n by) cs closed)

  sets_moved : (x : ℕ → Bool) (t : Lit → Bool) → Sets n x t → Sets n x (λ m. t (moved_lit n by m))
  sets_moved x t set k lt = ap (λ v. t record { var = v; positive = x k }) (below k lt) ∙ set k lt

  signed_moved : (l : Lit) (b : Bool) → signed (moved_lit n by l) b ≡ moved_lit n by (signed l b)
  signed_moved l true = refl
  signed_moved l false = refl

  pub defines_moved : (cs : List (List Lit)) (l : Lit) (f : (ℕ → Bool) → Bool) → Defines n cs l f → Defines n (moved_clauses n by cs) (moved_lit n by l) f
  defines_moved cs l f defines = record {
    gives = λ x a agrees met. defines.gives x (λ v. a (to v)) (agrees_moved a x agrees) (all_true_moved a cs met);
    sets = λ x t set closed. ap t (signed_moved l (f x)) ∙ defines.sets x (λ m. t (moved_lit n by m)) (sets_moved x t set) (closed_moved t cs closed);
  }

  pub gives_moved : (cs : List (List Lit)) → Gives n [] cs → Gives n [] (moved_clauses n by cs)
  gives_moved cs gives = record {
    extends = λ x. (let ext = gives.extends x in (
      spread ext.0,
      spread_below ext.0 x ext.1,
      All-map (ClauseTrue (spread ext.0)) (moved_clause n by) cs (All-weaker (ClauseTrue ext.0) (λ c. ClauseTrue (spread ext.0) (moved_clause n by c)) (moved_true (spread ext.0) ext.0 (spread_at ext.0)) cs ext.2),
    ));
    one_way = λ a b agrees met_a met_b.
        let same = gives.one_way (λ v. a (to v)) (λ v. b (to v)) (λ v lt. ap a (below v lt) ∙ agrees v lt ∙ sym (ap b (below v lt))) (all_true_moved a cs met_a) (all_true_moved b cs met_b) in (
          All-nil (λ (l : Lit). a l.var ≡ b l.var),
          All-map (SameOn a b) (moved_clause n by) cs
              (All-weaker (SameOn (λ v. a (to v)) (λ v. b (to v))) (λ c. SameOn a b (moved_clause n by c)) (λ c s. All-map (λ (l : Lit). a l.var ≡ b l.var) (moved_lit n by) c s) cs same.1),
        );
  }

-- gates are gates with their variables moved
pub gated_moved : (n by : ℕ) (g : List GraphNode) (es : List Edge) (cs : List (List Lit)) (lits : List Lit) → IsGated n g es cs lits
    → IsGated n g es (moved_clauses n by cs) (moved_clause n by lits)
gated_moved n by g es cs lits is =
    let name : ℕ → ℕ = λ k. moved_var n by (is.name k) in
    record {
      name = name;
      literals = ap (moved_clause n by) is.literals ∙ map-map (moved_lit n by) (lit is.name) es;
      gives = gives_moved n by cs is.gives;
      values = All-weaker (HasLiteral n g is.name cs) (HasLiteral n g name (moved_clauses n by cs))
          (λ e has. defines_moved n by cs (lit is.name e) (λ x. value_under x g e) has) es is.values;
    }

-- no moved variable is one of those left free
skips_at : (n by : ℕ) (l : Lit) → ((moved_lit n by l).var < n) ⊎ (n + by ≤ (moved_lit n by l).var)
skips_at n by l = elim (cases_lt l.var n) [
  | inl lt ↦ inl (let e = below n by l.var lt in omega (arith, e, lt))
  | inr ge ↦ inr (let e = above n by l.var ge in omega (arith, e, ge))
]

pub skips_moved : (n by : ℕ) (c : List Lit) → Skips n (n + by) (moved_clause n by c)
skips_moved n by c = All-map (λ (l : Lit). (l.var < n) ⊎ (n + by ≤ l.var)) (moved_lit n by) c (λ k d lt. skips_at n by (get_or c k d))

pub all_skip_moved : (n by : ℕ) (cs : List (List Lit)) → All (Skips n (n + by)) (moved_clauses n by cs)
all_skip_moved n by cs = All-map (Skips n (n + by)) (moved_clause n by) cs (λ k d lt. skips_moved n by (get_or cs k d))
