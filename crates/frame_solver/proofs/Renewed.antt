-- Solvers that are made anew.
use Rattle.std.proofs.Common.{◌≡◌, ℕ, ◌+◌, ◌<◌, List, [], ◌∷◌, ◌++◌, length, take, sym, ◌∙◌, ap, subst, arith}
use Rattle.std.specs.Prelude.{All, Contains}
use Rattle.std.proofs.lemmas.List.{append-nil, take_more, map-append, length-map, length-take-le}
use Rattle.std.proofs.lemmas.List.Elements.{All-nil, All-contains_itself}
use Rattle.clause_core.specs.declared.literal.Lit.{Lit}
use Rattle.clause_core.specs.Systems.{TransitionSystem}
use Rattle.frame_core.specs.FrameLaw.{system_at, no_system}
use Rattle.frame_solver.specs.declared.loading.Engine.{Engine}
use Rattle.frame_solver.specs.Guards.{behind, HoldsGroups}
use Rattle.frame_solver.specs.Groups.{init_group, bad_groups, groups}
use Rattle.frame_solver.specs.Engines.{IsFresh, IsLoaded}
use Rattle.frame_solver.proofs.Loaded.{holds_more, holds_none}
use Rattle.sat_core.specs.Queries.{State}

-- a new solver has no lemma loaded
pub fresh_loaded : (b : ℕ) (heads : List (List (List Lit))) (n : ℕ) (clauses : List (List Lit)) (e : Engine) → IsFresh b heads n e → IsLoaded b heads clauses e
fresh_loaded b heads n clauses e h =
    let P : List (List (List Lit)) → Type 0 = λ gs. HoldsGroups b gs e.used e.solver.given in
    let Q : ℕ → Type 0 = λ k. HoldsGroups b (groups heads (take k clauses)) e.used e.solver.given in
    record {
      base = h.base;
      count = h.count;
      some = omega (arith, h.none);
      room = omega (arith, h.none, h.room);
      fits = h.fits;
      holds = subst Q (sym h.none) (subst P (sym (append-nil heads)) h.holds);
    }

pub nothing_known : (old new : List (List Lit)) → new ≡ [] → All (Contains old) new
nothing_known old new e = let P : List (List Lit) → Type 0 = All (Contains old) in subst P (sym e) (All-nil (Contains old))

pub same_known : (old new : List (List Lit)) → new ≡ old → All (Contains old) new
same_known old new e = let P : List (List Lit) → Type 0 = All (Contains old) in subst P (sym e) (All-contains_itself old)

-- the bad clauses of one system more
pub bads_more : (systems : List TransitionSystem) (b used j : ℕ) (bad : List (List Lit)) (given more : List (List Lit)) → j < length systems →
    HoldsGroups b (init_group (system_at systems 0) ∷ bad_groups (take j systems)) used given → bad ≡ (system_at systems j).bad →
    more ≡ given ++ behind (b + (1 + j)) bad → HoldsGroups b (init_group (system_at systems 0) ∷ bad_groups (take (j + 1) systems)) used more
bads_more systems b used j bad given more lt h is grown =
    let init = init_group (system_at systems 0) in
    let gs : List (List (List Lit)) = init ∷ bad_groups (take j systems) in
    let one : bad_groups (take (j + 1) systems) ≡ bad_groups (take j systems) ++ bad ∷ [] =
    ap bad_groups (take_more systems j no_system lt) ∙ map-append (λ (s : TransitionSystem). s.bad) (take j systems) (system_at systems j ∷ [])
    ∙ ap (λ x. bad_groups (take j systems) ++ x ∷ []) (sym is) in
    let count : length (bad_groups (take j systems)) ≡ length (take j systems) = simp length-map in
    let taken : length (take j systems) ≡ j = length-take-le j systems (omega arith) in
    let guard : b + (1 + j) ≡ b + length gs = omega (arith, count, taken) in
    let P : List (List (List Lit)) → Type 0 = λ xs. HoldsGroups b xs used more in
    subst P (sym (ap (λ xs. init ∷ xs) one)) (holds_more b gs used (b + (1 + j)) bad given more h guard grown)

-- the clauses of initial states are pushed first
pub fresh_init : (sys : TransitionSystem) (b : ℕ) (s t : State) → s.given ≡ [] → t ≡ record s { given = s.given ++ behind b (init_group sys) } →
    HoldsGroups b (init_group sys ∷ []) t.vars t.given
fresh_init sys b s t none is =
    let given : t.given ≡ [] ++ behind b (init_group sys) = ap (λ (q : State). q.given) is ∙ ap (λ (g : List (List Lit)). g ++ behind b (init_group sys)) none in
    holds_more b [] t.vars b (init_group sys) [] t.given (holds_none b t.vars) (omega arith) given

pub fresh_by : (b : ℕ) (heads : List (List (List Lit))) (n : ℕ) (e : Engine) (t : State) → e.base ≡ b → e.heads ≡ length heads → e.loaded ≡ 0 →
    b + (length heads + n) < e.used → e.solver ≡ t → t.vars ≡ e.used → t.learned ≡ [] → HoldsGroups b heads t.vars t.given → IsFresh b heads n e
fresh_by b heads n e t base count none room solver vars learned holds =
    let U : ℕ → Type 0 = λ u. HoldsGroups b heads u t.given in
    let S : State → Type 0 = λ s. HoldsGroups b heads e.used s.given in
    let fits : e.solver.vars ≡ t.vars = ap (λ (q : State). q.vars) solver in
    record {
      base = base;
      count = count;
      none = none;
      room = room;
      fits = omega (arith, fits, vars);
      nothing = ap (λ (q : State). q.learned) solver ∙ learned;
      holds = subst S (sym solver) (subst U vars holds);
    }
