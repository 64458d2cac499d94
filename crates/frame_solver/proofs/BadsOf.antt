-- What a solver's answer about bad states says.
use Rattle.std.proofs.Common.{◌≡◌, inl, inr, ℕ, suc, ◌+◌, ◌-◌, ◌<◌, ◌≤◌, Bool, true, false, List, [], length, map, take, get_or, sym, ◌∙◌, ap, subst, arith}
use Rattle.std.specs.Prelude.{All, Contains, nat_lt, if◌then◌else◌}
use Rattle.std.proofs.lemmas.Bool.{cases_lt}
use Rattle.std.proofs.lemmas.List.{get_or-map, length-map, get_or-take, length-take-le}
use Rattle.std.proofs.lemmas.List.Elements.{All-contains, All-weaker, All-nil}
use Rattle.clause_core.specs.declared.literal.Lit.{Lit}
use Rattle.clause_core.specs.Literals.{Within}
use Rattle.clause_core.specs.Assignments.{ClauseTrue, assignment_of, Agrees}
use Rattle.clause_core.specs.Systems.{TransitionSystem, IsSystem, SameOn}
use Rattle.sat_core.specs.declared.answer.Answer.{Answer}
use Rattle.sat_core.specs.declared.answer.Answer.TheVariants as solver
use Rattle.frame_core.specs.declared.parts.Lemma.{Lemma}
use Rattle.frame_core.specs.declared.parts.Parent.{Parent}
use Rattle.frame_core.specs.Facts.{IsClear}
use Rattle.frame_core.specs.FrameLaw.{lemma_at, no_lemma, Stands, AllStand}
use Rattle.frame_solver.specs.declared.bad_states.BadStates.{BadStates}
use Rattle.frame_solver.specs.declared.bad_states.BadStates.TheVariants as bads
use Rattle.frame_solver.specs.Guards.{on, group, HoldsGroups, Obeys}
use Rattle.frame_solver.specs.Groups.{base, first_clause, init_group, state_heads, bad_groups, clauses_of, groups, is_asked}
use Rattle.frame_solver.specs.Asking.{IsOne, IsAskedLiteral, AllOn, IsRefuted, AskSays}
use Rattle.frame_solver.specs.Stepping.{AreParents}
use Rattle.frame_solver.specs.Bads.{IsBadIn, FindsBads, ReadsBads}
use Rattle.frame_solver.proofs.Guarding.{all_true, obeyed}
use Rattle.frame_solver.proofs.Joined.{IsFree, in_core, joined, joined_low, joined_all, joined_init, one_of, obeys, offs, core_on}
use Rattle.frame_solver.proofs.Framed.{by_group, groups_count, head_true, in_frame, lemma_level, asked_cases, also_asked, clauses_count}
use Rattle.frame_solver.specs.declared.loading.Engine.{Engine}
use Rattle.frame_solver.specs.Engines.{IsReady}
use Rattle.frame_core.specs.FrameLaw.{system_at, AreAlike, no_system}
use Rattle.frame_solver.proofs.Truths.{true_like, all_like}

init_same : (a b : TransitionSystem) → a.state_bits ≡ b.state_bits → a.all_bits ≡ b.all_bits → a.init ≡ b.init → init_group a ≡ init_group b
init_same a b bits all init =
    ap (λ (q : ℕ). map (λ c. map (λ (l : Lit). record { var = if nat_lt l.var q then l.var else (l.var + (a.all_bits - q)); positive = l.positive }) c) a.init) bits
    ∙ ap (λ (q : ℕ). map (λ c. map (λ (l : Lit). record { var = if nat_lt l.var b.state_bits then l.var else (l.var + (q - b.state_bits)); positive = l.positive }) c) a.init) all
    ∙ ap (map (first_clause b)) init

bad_in : (systems : List TransitionSystem) (j : ℕ) → j < length systems → 1 + j < length (state_heads systems)
bad_in systems j lt =
    let e : length (bad_groups systems) ≡ length systems = simp length-map in
    omega (arith, e)

bad_at : (systems : List TransitionSystem) (j : ℕ) → j < length systems → get_or (state_heads systems) (1 + j) [] ≡ (system_at systems j).bad
bad_at systems j lt =
    let e : 1 + j ≡ suc j = omega arith in
    ap (λ k. get_or (state_heads systems) k []) e ∙ get_or-map (λ (s : TransitionSystem). s.bad) systems j no_system [] lt

module _ (sys : TransitionSystem) (keeps : IsSystem sys) (heads : List (List (List Lit))) (some : 0 < length heads) (at_first : get_or heads 0 [] ≡ init_group sys)
    (also : ℕ) (also_in : also < length heads) (also_up : 0 < also) (at_bad : get_or heads also [] ≡ sys.bad)
    (lemmas : List Lemma) (inside : All (λ (l : Lemma). Within sys.state_bits l.clause) lemmas)
    (used : ℕ) (given : List (List Lit)) (i : ℕ) (room : base sys + (length heads + length lemmas) ≤ used)
    (holds : HoldsGroups (base sys) (groups heads (clauses_of lemmas)) used given) where
  abbrev b : ℕ
  b = base sys

  abbrev h : ℕ
  h = length heads

  abbrev n : ℕ
  n = length heads + length lemmas

  abbrev gs : List (List (List Lit))
  gs = groups heads (clauses_of lemmas)

  free : All (IsFree b n) []
  free = All-nil (IsFree b n)

  module _ (core : List Lit) (only : All (IsAskedLiteral b h lemmas i also n []) core) (refuted : IsRefuted given core) (v f x : ℕ → Bool) (vx : Agrees sys.state_bits v x)
      (bad : All (ClauseTrue v) sys.bad) (init : i ≡ 0 → ((u : ℕ) → u < sys.state_bits → v u ≡ f u) × All (ClauseTrue f) sys.init)
      (xl : 0 < i → (m : ℕ) → m < length lemmas → Contains core (on (b + (h + m))) → ClauseTrue x (lemma_at lemmas m).clause) where
    abbrev a : ℕ → Bool
    a = joined sys v f (in_core core)

    of_heads : (k : ℕ) → k < h → IsOne h lemmas i also n k → All (ClauseTrue a) (get_or heads k [])
    of_heads k low_k one =
        let P : ℕ → Type 0 = λ j. All (ClauseTrue a) (get_or heads j []) in
        let Q : List (List Lit) → Type 0 = All (ClauseTrue a) in
        elim (asked_cases h lemmas i also k one.1) [
          | inl same ↦ subst P (sym same) (subst Q (sym at_bad) (joined_all sys v f (in_core core) sys.bad keeps.bad_in bad))
          | inr more ↦
              elim more [
                | inl q ↦ subst P (sym q.1) (subst Q (sym at_first) (joined_init sys v f (in_core core) sys.init keeps.room (init q.2).0 keeps.init_in (init q.2).1))
                | inr q ↦ absurd (omega (arith, q.0))
              ]
        ]

    of_lemmas : (m : ℕ) → m < length lemmas → is_asked h lemmas i also (h + m) ≡ true → Contains core (on (b + (h + m))) → ClauseTrue a (lemma_at lemmas m).clause
    of_lemmas m lt is here =
        let up = lemma_level h lemmas i also m also_in is in
        let c = (lemma_at lemmas m).clause in
        let same : SameOn a x c = All-weaker (λ (l : Lit). l.var < sys.state_bits) (λ (l : Lit). a l.var ≡ x l.var)
        (λ l low. joined_low sys v f (in_core core) l.var (omega (arith, keeps.room)) ∙ vx l.var low) c (inside m no_lemma lt) in
        true_like a x c same (xl up.0 m lt here)

    each_group : (k : ℕ) → IsOne h lemmas i also n k → Contains core (on (b + k)) → All (ClauseTrue a) (group gs k)
    each_group = by_group heads lemmas b i also a core of_heads of_lemmas

    pub no_way : ⊥
    no_way =
        refuted a
        (all_true b gs used a given (obeys sys gs h lemmas i also n used [] core only free v f (groups_count heads lemmas) each_group)
        (offs sys gs h lemmas i also n used [] core only free v f room (All-nil (λ (m : Lit). m.var < used))) holds.guarded)
        (core_on sys gs h lemmas i also n used [] core only free v f (λ l here mine. absurd (omega (arith, mine.1))))

  pub clear : (core : List Lit) (parents : List Parent) → All (IsAskedLiteral b h lemmas i also n []) core → IsRefuted given core → AreParents (b + h) lemmas core parents →
      IsClear record { system = sys; level = i; parents = parents }
  clear core parents only refuted named = record {
    safe = λ x first from (v, vx, bad).
        elim (cases_lt 0 i) [
          | inl high ↦
              let init : i ≡ 0 → ((u : ℕ) → u < sys.state_bits → v u ≡ false) × All (ClauseTrue (λ _. false)) sys.init = λ e. absurd (omega (arith, e)) in
              no_way core only refuted v (λ _. false) x vx bad init
              (λ up m lt here.
              let C : ℕ → Type 0 = λ w. Contains core (on w) in
              let at : b + (h + m) ≡ b + h + m = omega arith in
              let p = named.enough m lt (subst C at here) in
              let P : List Lit → Type 0 = ClauseTrue x in
              subst P p.2 (All-contains (λ (q : Parent). ClauseTrue x q.clause) parents p.0 (from high) p.1))
          | inr low_level ↦
              let e : i ≡ 0 = omega arith in
              let start = first e in
              no_way core only refuted v start.0 x vx bad (λ same. ((λ u lt. vx u lt ∙ sym (start.1 u lt)), start.2)) (λ up. absurd (omega arith))
        ];
  }

  pub stand : (core : List Lit) (parents : List Parent) → All (IsAskedLiteral b h lemmas i also n []) core → AreParents (b + h) lemmas core parents → AllStand lemmas i parents
  stand core parents only named up =
      All-weaker (λ (p : Parent). (p.number < length lemmas) × ((lemma_at lemmas p.number).clause ≡ p.clause) × Contains core (on (b + h + p.number)))
      (Stands lemmas i)
      (λ p q.
      let k : ℕ = h + p.number in
      let at : IsAskedLiteral b h lemmas i also n [] (on (b + h + p.number)) =
      All-contains (IsAskedLiteral b h lemmas i also n []) core (on (b + h + p.number)) only q.2 in
      let e : b + h + p.number ≡ b + k = omega arith in
      let one = one_of sys gs h lemmas i also n used [] core only free (λ _. false) (λ _. false) k (on (b + h + p.number)) (omega (arith, q.0)) (ap on e) at in
      (q.0, q.1, (lemma_level h lemmas i also p.number also_in one.1).1))
      parents named.only

  module _ (vars : ℕ) (model : List Bool) (fits : used ≤ vars) (whole : length model ≡ vars) (true_all : All (ClauseTrue (assignment_of model)) given)
      (all_on : AllOn b h lemmas i also n (assignment_of model)) where
    abbrev m : ℕ → Bool
    m = assignment_of model

    abbrev values : List Bool
    values = take sys.all_bits model

    same : (u : ℕ) → u < sys.all_bits → assignment_of values u ≡ m u
    same u lt = get_or-take sys.all_bits model u false lt

    like : (c : List Lit) → Within sys.all_bits c → SameOn (assignment_of values) m c
    like c inner = All-weaker (λ (l : Lit). l.var < sys.all_bits) (λ (l : Lit). assignment_of values l.var ≡ m l.var) (λ l lt. same l.var lt) c inner

    obey : Obeys b gs m
    obey = obeyed b gs used m given holds.loaded true_all

    bad_true : All (ClauseTrue m) sys.bad
    bad_true =
        let Q : List (List Lit) → Type 0 = All (ClauseTrue m) in
        subst Q at_bad (head_true heads lemmas b i also m obey all_on also also_in (also_asked h lemmas i also))

    pub is_bad : IsBadIn sys lemmas i values
    is_bad = record {
      whole = length-take-le sys.all_bits model (omega (arith, fits, room, whole));
      bad = all_like (assignment_of values) m sys.bad (λ k d lt. like (get_or sys.bad k d) (keeps.bad_in k d lt)) bad_true;
      from = in_frame heads lemmas b i also m obey all_on sys (assignment_of values) (λ u lt. same u (omega (arith, keeps.room))) some at_first inside;
    }

  pub finds_bads : (vars : ℕ) (learned : List (List Lit)) (budget : ℕ) (over : Bool) (answer : Answer) (found : BadStates) → used ≤ vars →
      AskSays record { vars = vars; given = given; learned = learned } b h lemmas i also n [] budget over answer → ReadsBads sys (b + h) lemmas answer found →
      FindsBads sys lemmas i budget over found
  finds_bads vars learned budget over (solver.Sat model) found fits said reads =
      subst (FindsBads sys lemmas i budget over) (sym reads) (is_bad vars model fits said.0 said.1 said.2)
  finds_bads vars learned budget over (solver.Unsat core) (bads.None parents) fits said reads =
      (clear core.items parents.items said.0 said.1 reads, stand core.items parents.items said.0 reads)
  finds_bads vars learned budget over (solver.Unsat core) (bads.Some vs) fits said reads = absurd reads
  finds_bads vars learned budget over (solver.Unsat core) (bads.Spent d left) fits said reads = absurd reads
  finds_bads vars learned budget over (solver.Spent d left) found fits said reads = subst (FindsBads sys lemmas i budget over) (sym reads) said

-- the same with what the code has at hand
pub found_by : (systems : List TransitionSystem) (j : ℕ) → j < length systems → AreAlike systems → IsSystem (system_at systems j) → (lemmas : List Lemma) →
    All (λ (l : Lemma). Within (system_at systems 0).state_bits l.clause) lemmas → (e : Engine) →
    IsReady (base (system_at systems 0)) (state_heads systems) (clauses_of lemmas) e → (i budget : ℕ) (over : Bool) (answer : Answer) (found : BadStates) →
    AskSays e.solver e.base e.heads lemmas i (1 + j) (e.heads + length lemmas) [] budget over answer →
    ReadsBads (system_at systems j) (e.base + e.heads) lemmas answer found → FindsBads (system_at systems j) lemmas i budget over found
found_by systems j lt alike keeps lemmas inside e ready i budget over answer found said reads =
    let old = system_at systems 0 in
    let sys = system_at systems j in
    let heads = state_heads systems in
    let same = alike j lt in
    let base_same : base old ≡ base sys = omega (arith, same.state_bits, same.all_bits) in
    let B : ℕ → Type 0 = λ q. AskSays e.solver q e.heads lemmas i (1 + j) (e.heads + length lemmas) [] budget over answer in
    let H : ℕ → Type 0 = λ q. AskSays e.solver (base sys) q lemmas i (1 + j) (q + length lemmas) [] budget over answer in
    let R : ℕ → Type 0 = λ q. ReadsBads sys q lemmas answer found in
    let W : ℕ → Type 0 = λ q. All (λ (l : Lemma). Within q l.clause) lemmas in
    let G : ℕ → Type 0 = λ q. HoldsGroups q (groups heads (clauses_of lemmas)) e.used e.solver.given in
    let first : e.base + e.heads ≡ base sys + length heads = omega (arith, ready.base, ready.count, base_same) in
    finds_bads sys keeps heads (omega arith) (init_same old sys same.state_bits same.all_bits same.init) (1 + j) (bad_in systems j lt) (omega arith) (bad_at systems j lt) lemmas
    (subst W same.state_bits inside) e.used e.solver.given i (omega (arith, ready.room, clauses_count lemmas, base_same)) (subst G base_same ready.holds)
    e.solver.vars e.solver.learned budget over answer found ready.fits (subst H ready.count (subst B (ready.base ∙ base_same) said)) (subst R first reads)
