-- An assignment for a query: values of the system's variables, values of an initial state, and a core's activation
-- literals.
use Rattle.std.proofs.Common.{◌≡◌, ◌⊎◌, inl, inr, ℕ, ◌+◌, ◌-◌, ◌*◌, ◌<◌, ◌≤◌, Bool, true, ◌&&◌, List, length, map, get_or, refl, sym, ◌∙◌, ap, subst, arith}
use Rattle.std.specs.Prelude.{All, Contains, nat_lt, if◌then◌else◌}
use Rattle.std.specs.List.{list_any}
use Rattle.std.proofs.Math.Dec.{eqb}
use Rattle.std.proofs.lemmas.Bool.{cases_Bool, cases_lt, eqb-true, eq-eqb, and_parts}
use Rattle.std.proofs.lemmas.List.Folds.{Any-from_list_any, list_any-from_Any}
use Rattle.std.proofs.lemmas.List.Elements.{All-contains, All-weaker, All-map, Contains-get_or}
use Rattle.clause_core.specs.declared.literal.Lit.{Lit}
use Rattle.clause_core.specs.Literals.{Within}
use Rattle.clause_core.specs.Assignments.{ClauseTrue}
use Rattle.clause_core.specs.Systems.{TransitionSystem}
use Rattle.clause_core.proofs.Lists.{lit_same}
use Rattle.frame_core.specs.declared.parts.Lemma.{Lemma}
use Rattle.frame_solver.specs.Guards.{on, group, Obeys, AllOff}
use Rattle.frame_solver.specs.Groups.{others, base, first_var, first_clause}
use Rattle.frame_solver.specs.Asking.{IsTrueIn, IsOne, IsAskedLiteral}
use Rattle.frame_solver.proofs.Tests.{if_below, if_above}
use Rattle.frame_solver.proofs.Truths.{renamed_true}

-- the core has the literal that w is true
abbrev is_on : ℕ → Lit → Bool
is_on w l = l.positive && eqb l.var w

abbrev pub in_core : List Lit → ℕ → Bool
in_core core w = list_any (is_on w) core

pub in_core_from : (core : List Lit) (w : ℕ) → Contains core (on w) → in_core core w ≡ true
in_core_from core w h = list_any-from_Any (is_on w) core (h.0, on w, h.1, h.2, eq-eqb w w refl)

pub in_core_to : (core : List Lit) (w : ℕ) → in_core core w ≡ true → Contains core (on w)
in_core_to core w h =
    let f = Any-from_list_any (is_on w) core h in
    let parts = and_parts f.1.positive (eqb f.1.var w) f.4 in
    let e : f.1 ≡ on w = lit_same f.1 (on w) (eqb-true f.1.var w parts.1) parts.0 in
    let P : Lit → Type 0 = Contains core in
    subst P e (f.0, f.2, f.3)

-- values of the system's variables, then of an initial state's own, then of the activation variables
abbrev pub joined : TransitionSystem → (ℕ → Bool) → (ℕ → Bool) → (ℕ → Bool) → ℕ → Bool
joined sys v f g w = if nat_lt w sys.all_bits then v w else (if nat_lt w (base sys) then f (w - others sys) else g w)

module _ (sys : TransitionSystem) (v f g : ℕ → Bool) where
  abbrev a : ℕ → Bool
  a = joined sys v f g

  pub joined_low : (w : ℕ) → w < sys.all_bits → joined sys v f g w ≡ v w
  joined_low w lt = if_below w sys.all_bits (v w) (if nat_lt w (base sys) then f (w - others sys) else g w) lt

  pub joined_high : (w : ℕ) → base sys ≤ w → joined sys v f g w ≡ g w
  joined_high w le =
      if_above w sys.all_bits (v w) (if nat_lt w (base sys) then f (w - others sys) else g w) (omega arith)
      ∙ if_above w (base sys) (f (w - others sys)) (g w) le

  joined_mid : (w : ℕ) → sys.all_bits ≤ w → w < base sys → joined sys v f g w ≡ f (w - others sys)
  joined_mid w le lt =
      if_above w sys.all_bits (v w) (if nat_lt w (base sys) then f (w - others sys) else g w) le
      ∙ if_below w (base sys) (f (w - others sys)) (g w) lt

  joined_first : (w : ℕ) → 2 * sys.state_bits ≤ sys.all_bits → ((u : ℕ) → u < sys.state_bits → v u ≡ f u) → w < sys.all_bits → joined sys v f g (first_var sys w) ≡ f w
  joined_first w room agree lt =
      elim (cases_lt w sys.state_bits) [
        | inl below ↦ ap (joined sys v f g) (if_below w sys.state_bits w (w + others sys) below) ∙ joined_low w lt ∙ agree w below
        | inr above ↦
            let e : w + others sys - others sys ≡ w = omega arith in
            ap (joined sys v f g) (if_above w sys.state_bits w (w + others sys) above) ∙ joined_mid (w + others sys) (omega arith) (omega arith) ∙ ap f e
      ]

  -- a clause of the system's variables
  pub joined_true : (c : List Lit) → Within sys.all_bits c → ClauseTrue v c → ClauseTrue (joined sys v f g) c
  joined_true c within h =
      let lt : h.1.var < sys.all_bits = All-contains (λ (l : Lit). l.var < sys.all_bits) c h.1 within (h.0, h.2, h.3) in
      (h.0, h.1, h.2, h.3, joined_low h.1.var lt ∙ h.4)

  pub joined_all : (cs : List (List Lit)) → All (Within sys.all_bits) cs → All (ClauseTrue v) cs → All (ClauseTrue (joined sys v f g)) cs
  joined_all cs within all k d lt = joined_true (get_or cs k d) (within k d lt) (all k d lt)

  -- the clauses of an initial state
  pub joined_init : (cs : List (List Lit)) → 2 * sys.state_bits ≤ sys.all_bits → ((u : ℕ) → u < sys.state_bits → v u ≡ f u) → All (Within sys.all_bits) cs →
      All (ClauseTrue f) cs → All (ClauseTrue (joined sys v f g)) (map (first_clause sys) cs)
  joined_init cs room agree within all =
      All-map (ClauseTrue (joined sys v f g)) (first_clause sys) cs (λ k d lt.
      renamed_true (first_var sys) (joined sys v f g) f (get_or cs k d)
      (All-weaker (λ (l : Lit). l.var < sys.all_bits) (λ (l : Lit). joined sys v f g (first_var sys l.var) ≡ f l.var) (λ l. joined_first l.var room agree) (get_or cs k d) (within k d lt))
      (all k d lt))

-- the query's own literals are of the system's variables, or name no group
abbrev pub IsFree : ℕ → ℕ → Lit → Type 0
IsFree b n l = (l.var < b) ⊎ (b + n ≤ l.var)

module _ (sys : TransitionSystem) (gs : List (List (List Lit))) (h : ℕ) (lemmas : List Lemma) (i also n used : ℕ) (extra core : List Lit)
    (only : All (IsAskedLiteral (base sys) h lemmas i also n extra) core) (free : All (IsFree (base sys) n) extra) (v f : ℕ → Bool) where
  abbrev pub asked : ℕ → Bool
  asked = joined sys v f (in_core core)

  -- an activation literal of the core is that of a group that is asked for
  pub one_of : (k : ℕ) (l : Lit) → k < n → l ≡ on (base sys + k) → IsAskedLiteral (base sys) h lemmas i also n extra l → IsOne h lemmas i also n k
  one_of k l lt e (inl here) =
      let w : l.var ≡ base sys + k = ap (λ (m : Lit). m.var) e in
      absurd (elim (All-contains (IsFree (base sys) n) extra l free here) [ inl low ↦ omega (arith, w) | inr high ↦ omega (arith, w) ])
  one_of k l lt e (inr (j, one, is)) =
      let w : base sys + j ≡ base sys + k = ap (λ (m : Lit). m.var) (sym is ∙ e) in
      let same : j ≡ k = omega (arith, w) in
      let P : ℕ → Type 0 = IsOne h lemmas i also n in
      subst P same one

  pub obeys : n ≡ length gs →
      ((k : ℕ) → IsOne h lemmas i also n k → Contains core (on (base sys + k)) → All (ClauseTrue asked) (group gs k)) → Obeys (base sys) gs asked
  obeys count each k lt hit =
      let on_it : in_core core (base sys + k) ≡ true = sym (joined_high sys v f (in_core core) (base sys + k) (omega arith)) ∙ hit in
      let here = in_core_to core (base sys + k) on_it in
      let at : IsAskedLiteral (base sys) h lemmas i also n extra (on (base sys + k)) =
      All-contains (IsAskedLiteral (base sys) h lemmas i also n extra) core (on (base sys + k)) only here in
      each k (one_of k (on (base sys + k)) (omega (arith, count)) refl at) here

  -- no activation variable of an earlier query is true
  low_of : (l : Lit) → base sys + n ≤ used → All (λ (m : Lit). m.var < used) extra → IsAskedLiteral (base sys) h lemmas i also n extra l → l.var < used
  low_of l fits low (inl here) = All-contains (λ (m : Lit). m.var < used) extra l low here
  low_of l fits low (inr (j, one, is)) =
      let w : l.var ≡ base sys + j = ap (λ (m : Lit). m.var) is in
      omega (arith, w, one.0)

  pub offs : base sys + n ≤ used → All (λ (m : Lit). m.var < used) extra → AllOff used asked
  offs fits low w le =
      joined_high sys v f (in_core core) w (omega arith) ∙ elim (cases_Bool (in_core core w)) [
        | inl hit ↦
            let here = in_core_to core w hit in
            let lt : w < used = low_of (on w) fits low (All-contains (IsAskedLiteral (base sys) h lemmas i also n extra) core (on w) only here) in
            absurd (omega (arith, lt))
        | inr miss ↦ miss
      ]

  -- the core is true, where the query's own literals in it are
  on_at : (l : Lit) → Contains core l → (Contains extra l → IsTrueIn asked l) → IsAskedLiteral (base sys) h lemmas i also n extra l → IsTrueIn asked l
  on_at l here own (inl mine) = own mine
  on_at l here own (inr (j, one, is)) =
      let P : Lit → Type 0 = IsTrueIn asked in
      let C : Lit → Type 0 = Contains core in
      subst P (sym is) (joined_high sys v f (in_core core) (base sys + j) (omega arith) ∙ in_core_from core (base sys + j) (subst C is here))

  pub core_on : ((l : Lit) → Contains core l → Contains extra l → IsTrueIn asked l) → All (IsTrueIn asked) core
  core_on own k d lt =
      let l : Lit = get_or core k d in
      on_at l (Contains-get_or core k d lt) (own l (Contains-get_or core k d lt)) (only k d lt)
