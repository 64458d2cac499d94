-- The clauses that a solver of groups has.
use Rattle.std.proofs.Common.{◌≡◌, inl, inr, ℕ, ◌+◌, ◌*◌, ◌<◌, ◌≤◌, List, [], ◌∷◌, ◌++◌, length, map, take, get_or, refl, sym, ◌∙◌, ap, subst, arith, append_assoc, length-append}
use Rattle.std.specs.Prelude.{All, Contains}
use Rattle.std.proofs.lemmas.List.{map-append, take_all, take_more, length-map, length-take-le}
use Rattle.std.proofs.lemmas.List.Elements.{All-append, All-map, All-weaker, All-nil, All-cons, Contains-append_left, Contains-get_or}
use Rattle.std.proofs.lemmas.Bool.{cases_lt}
use Rattle.clause_core.specs.declared.literal.Lit.{Lit}
use Rattle.clause_core.specs.Literals.{Within}
use Rattle.clause_core.specs.Systems.{TransitionSystem}
use Rattle.sat_core.specs.Queries.{State}
use Rattle.frame_solver.specs.declared.loading.Engine.{Engine}
use Rattle.frame_solver.specs.Guards.{off, behind, IsGuarded, HoldsGroups}
use Rattle.frame_solver.specs.Groups.{others, base, first_var, first_clause, groups}
use Rattle.frame_solver.specs.Engines.{IsLoaded, IsReady}
use Rattle.frame_solver.proofs.Guarding.{guarded_grown, guarded_lower, loaded_more, loaded_in}
use Rattle.frame_solver.proofs.Tests.{if_below, if_above}

module _ (sys : TransitionSystem) where
  first_var_in : (v : ℕ) → 2 * sys.state_bits ≤ sys.all_bits → v < sys.all_bits → first_var sys v < base sys
  first_var_in v room lt =
      elim (cases_lt v sys.state_bits) [
        | inl below ↦ (let P : ℕ → Type 0 = λ n. n < base sys in subst P (sym (if_below v sys.state_bits v (v + others sys) below)) (omega arith))
        | inr above ↦ (let P : ℕ → Type 0 = λ n. n < base sys in subst P (sym (if_above v sys.state_bits v (v + others sys) above)) (omega arith))
      ]

  pub first_within : (cs : List (List Lit)) → 2 * sys.state_bits ≤ sys.all_bits → All (Within sys.all_bits) cs → All (Within (base sys)) (map (first_clause sys) cs)
  first_within cs room all =
      All-map (Within (base sys)) (first_clause sys) cs
      (All-weaker (Within sys.all_bits) (λ c. Within (base sys) (first_clause sys c)) (λ c within.
      All-map (λ (l : Lit). l.var < base sys) (λ (l : Lit). record { var = first_var sys l.var; positive = l.positive }) c
      (All-weaker (λ (l : Lit). l.var < sys.all_bits) (λ (l : Lit). first_var sys l.var < base sys) (λ l. first_var_in l.var room) c within)) cs all)

-- no group
pub holds_none : (b used : ℕ) → HoldsGroups b [] used []
holds_none b used = record { guarded = All-nil (IsGuarded b [] used); loaded = λ k lt. absurd (omega arith) }

-- one group more, whose clauses were added
pub holds_more : (b : ℕ) (gs : List (List (List Lit))) (used guard : ℕ) (g cs ds : List (List Lit)) → HoldsGroups b gs used cs → guard ≡ b + length gs →
    ds ≡ cs ++ behind guard g → HoldsGroups b (gs ++ g ∷ []) used ds
holds_more b gs used guard g cs ds h at is =
    let e : ds ≡ cs ++ behind (b + length gs) g = is ∙ ap (λ v. cs ++ behind v g) at in
    let P : List (List Lit) → Type 0 = HoldsGroups b (gs ++ g ∷ []) used in
    subst P (sym e) record { guarded = guarded_grown b gs used g cs h.guarded; loaded = loaded_more b gs used g cs h.loaded }

-- clauses of a query were added
pub holds_own : (b : ℕ) (gs : List (List (List Lit))) (used own : ℕ) (cs ds more : List (List Lit)) → own ≤ used → HoldsGroups b gs used cs → ds ≡ cs ++ more →
    All (λ (c : List Lit). Contains c (off own)) more → HoldsGroups b gs own ds
holds_own b gs used own cs ds more low h is own_all =
    let P : List (List Lit) → Type 0 = HoldsGroups b gs own in
    subst P (sym is) record {
      guarded = All-append (IsGuarded b gs own) cs more (guarded_lower b gs used own cs low h.guarded)
          (All-weaker (λ (c : List Lit). Contains c (off own)) (IsGuarded b gs own) (λ c here. inr (own, omega arith, here)) more own_all);
      loaded = loaded_in b gs own cs (cs ++ more) (λ k d lt. Contains-append_left cs more (get_or cs k d) (Contains-get_or cs k d lt)) h.loaded;
    }

pub groups_length : (heads : List (List (List Lit))) (clauses : List (List Lit)) → length (groups heads clauses) ≡ length heads + length clauses
groups_length heads clauses =
    let e : length (map (λ (c : List Lit). c ∷ []) clauses) ≡ length clauses = simp length-map in
    omega (arith, length-append heads (map (λ (c : List Lit). c ∷ []) clauses), e)

groups_more : (heads : List (List (List Lit))) (clauses : List (List Lit)) (c : List Lit) → groups heads (clauses ++ c ∷ []) ≡ groups heads clauses ++ (c ∷ []) ∷ []
groups_more heads clauses c =
    ap (λ gs. heads ++ gs) (map-append (λ (d : List Lit). d ∷ []) clauses (c ∷ []))
    ∙ sym (append_assoc heads (map (λ (d : List Lit). d ∷ []) clauses) ((c ∷ []) ∷ []))

-- one lemma more was loaded
pub lemma_loaded : (b : ℕ) (heads : List (List (List Lit))) (clauses : List (List Lit)) (c : List Lit) (e f : Engine) → IsLoaded b heads clauses e →
    e.loaded < length clauses → c ≡ get_or clauses e.loaded [] → b + (length heads + e.loaded) < e.used →
    f.base ≡ e.base → f.heads ≡ e.heads → f.loaded ≡ e.loaded + 1 → f.used ≡ e.used →
    f.solver ≡ record e.solver { given = e.solver.given ++ (off (e.base + (e.heads + e.loaded)) ∷ c) ∷ [] } → IsLoaded b heads clauses f
lemma_loaded b heads clauses c e f h lt is room fb fh fl fu solver =
    let n = e.loaded in
    let given : f.solver.given ≡ e.solver.given ++ behind (e.base + (e.heads + n)) (c ∷ []) = ap (λ (s : State). s.given) solver in
    let vars : f.solver.vars ≡ e.solver.vars = ap (λ (s : State). s.vars) solver in
    let taken : length (take n clauses) ≡ n = length-take-le n clauses h.some in
    let guard : e.base + (e.heads + n) ≡ b + length (groups heads (take n clauses)) = omega (arith, h.base, h.count, taken, groups_length heads (take n clauses)) in
    let held = holds_more b (groups heads (take n clauses)) e.used (e.base + (e.heads + n)) (c ∷ []) e.solver.given f.solver.given h.holds guard given in
    let more : take n clauses ++ c ∷ [] ≡ take (n + 1) clauses = ap (λ x. take n clauses ++ x ∷ []) is ∙ sym (take_more clauses n [] lt) in
    let G : List (List (List Lit)) → Type 0 = λ gs. HoldsGroups b gs e.used f.solver.given in
    let H : List (List Lit) → Type 0 = λ ds. HoldsGroups b (groups heads ds) e.used f.solver.given in
    let N : ℕ → Type 0 = λ m. HoldsGroups b (groups heads (take m clauses)) e.used f.solver.given in
    let U : ℕ → Type 0 = λ u. HoldsGroups b (groups heads (take f.loaded clauses)) u f.solver.given in
    record {
      base = fb ∙ h.base;
      count = fh ∙ h.count;
      some = omega (arith, fl);
      room = omega (arith, fl, fu, room);
      fits = omega (arith, fu, vars, h.fits);
      holds = subst U (sym fu) (subst N (sym fl) (subst H more (subst G (sym (groups_more heads (take n clauses) c)) held)));
    }

-- all lemmas are loaded
pub is_ready : (b : ℕ) (heads : List (List (List Lit))) (clauses : List (List Lit)) (e : Engine) → IsLoaded b heads clauses e → e.loaded ≡ length clauses →
    b + (length heads + length clauses) < e.used → IsReady b heads clauses e
is_ready b heads clauses e h all room =
    let P : List (List Lit) → Type 0 = λ cs. HoldsGroups b (groups heads cs) e.used e.solver.given in
    record {
      base = h.base;
      count = h.count;
      all = all;
      room = room;
      fits = h.fits;
      holds = subst P (take_all e.loaded clauses (omega (arith, all))) h.holds;
    }

-- a solver that is ready is loaded
pub still_loaded : (b : ℕ) (heads : List (List (List Lit))) (clauses : List (List Lit)) (e f : Engine) (own : ℕ) (more : List (List Lit)) → IsReady b heads clauses e →
    own ≤ e.used → b + (length heads + length clauses) ≤ own → f.base ≡ e.base → f.heads ≡ e.heads → f.loaded ≡ e.loaded → f.used ≡ own →
    f.solver.vars ≡ e.solver.vars → f.solver.given ≡ e.solver.given ++ more → All (λ (c : List Lit). Contains c (off own)) more → IsLoaded b heads clauses f
still_loaded b heads clauses e f own more h low room fb fh fl fu vars given own_all =
    let all : f.loaded ≡ length clauses = fl ∙ h.all in
    let P : List (List Lit) → Type 0 = λ cs. HoldsGroups b (groups heads cs) own f.solver.given in
    let U : ℕ → Type 0 = λ u. HoldsGroups b (groups heads (take f.loaded clauses)) u f.solver.given in
    record {
      base = fb ∙ h.base;
      count = fh ∙ h.count;
      some = omega (arith, all);
      room = omega (arith, all, fu, room);
      fits = omega (arith, fu, vars, h.fits, low);
      holds = subst U (sym fu) (subst P (sym (take_all f.loaded clauses (omega (arith, all))))
          (holds_own b (groups heads clauses) e.used own e.solver.given f.solver.given more low h.holds given own_all));
    }

-- a query without a clause of its own leaves a solver ready
pub still_ready : (b : ℕ) (heads : List (List (List Lit))) (clauses : List (List Lit)) (e f : Engine) → IsReady b heads clauses e → f ≡ record e { solver = f.solver } →
    f.solver.vars ≡ e.solver.vars → f.solver.given ≡ e.solver.given → IsReady b heads clauses f
still_ready b heads clauses e f h same vars given =
    let used : f.used ≡ e.used = ap (λ (q : Engine). q.used) same in
    let U : ℕ → Type 0 = λ u. HoldsGroups b (groups heads clauses) u f.solver.given in
    let G : List (List Lit) → Type 0 = λ cs. HoldsGroups b (groups heads clauses) e.used cs in
    record {
      base = ap (λ (q : Engine). q.base) same ∙ h.base;
      count = ap (λ (q : Engine). q.heads) same ∙ h.count;
      all = ap (λ (q : Engine). q.loaded) same ∙ h.all;
      room = omega (arith, used, h.room);
      fits = omega (arith, used, vars, h.fits);
      holds = subst U (sym used) (subst G (sym given) h.holds);
    }

pub ready_loaded : (b : ℕ) (heads : List (List (List Lit))) (clauses : List (List Lit)) (e : Engine) → IsReady b heads clauses e → IsLoaded b heads clauses e
ready_loaded b heads clauses e h =
    let P : List (List Lit) → Type 0 = λ cs. HoldsGroups b (groups heads cs) e.used e.solver.given in
    record {
      base = h.base;
      count = h.count;
      some = omega (arith, h.all);
      room = omega (arith, h.all, h.room);
      fits = h.fits;
      holds = subst P (sym (take_all e.loaded clauses (omega (arith, h.all)))) h.holds;
    }

pub own_one : (own : ℕ) (d : List Lit) → All (λ (c : List Lit). Contains c (off own)) ((off own ∷ d) ∷ [])
own_one own d = All-cons (λ (c : List Lit). Contains c (off own)) (off own ∷ d) [] (0, omega arith, refl) (All-nil (λ (c : List Lit). Contains c (off own)))

pub own_two : (own : ℕ) (d f : List Lit) → All (λ (c : List Lit). Contains c (off own)) ((off own ∷ d) ∷ (off own ∷ f) ∷ [])
own_two own d f = All-cons (λ (c : List Lit). Contains c (off own)) (off own ∷ d) ((off own ∷ f) ∷ []) (0, omega arith, refl) (own_one own f)
