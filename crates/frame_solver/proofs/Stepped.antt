-- What a solver's answer about steps says.
use Rattle.std.proofs.Common.{◌≡◌, inl, inr, ℕ, zero, suc, ◌+◌, ◌-◌, ◌<◌, ◌≤◌, Bool, true, false, not, List, [], ◌∷◌, ◌++◌, length, map, take, get_or, refl, sym, ◌∙◌, ap, subst, arith}
use Rattle.std.specs.Prelude.{All, Contains}
use Rattle.std.proofs.lemmas.Bool.{cases_lt}
use Rattle.std.proofs.lemmas.List.{get_or-map, length-map, get_or-take, length-take-le}
use Rattle.std.proofs.lemmas.List.Elements.{All-contains, All-weaker, All-push, All-map, All-cons, All-head, Contains-get_or, Contains-append_left, Contains-push}
use Rattle.clause_core.specs.declared.literal.Lit.{Lit}
use Rattle.clause_core.specs.Literals.{Within, none_lit, negate}
use Rattle.clause_core.specs.Assignments.{ClauseTrue, assignment_of, Agrees}
use Rattle.clause_core.specs.Propagation.{AllFalse}
use Rattle.clause_core.specs.Systems.{TransitionSystem, IsSystem, FirstBits, NextIs, SameOn}
use Rattle.clause_core.proofs.Sound.{clause_cases, truths, agrees_true}
use Rattle.sat_core.specs.declared.answer.Answer.{Answer}
use Rattle.sat_core.specs.declared.answer.Answer.TheVariants as solver
use Rattle.sat_core.specs.Queries.{State}
use Rattle.frame_solver.specs.declared.stepping.Stepping.{Stepping}
use Rattle.frame_solver.specs.declared.stepping.Stepping.TheVariants as stepping
use Rattle.frame_core.specs.declared.parts.Lemma.{Lemma}
use Rattle.frame_core.specs.declared.parts.Parent.{Parent}
use Rattle.frame_core.specs.FrameLaw.{lemma_at, no_lemma, Stands, AllStand}
use Rattle.frame_solver.specs.Guards.{on, off, group, HoldsGroups, Obeys}
use Rattle.frame_solver.specs.Groups.{base, step_heads, clauses_of, groups, is_asked}
use Rattle.frame_solver.specs.Asking.{IsTrueIn, IsOne, IsAskedLiteral, AllOn, IsRefuted, AskSays}
use Rattle.frame_solver.specs.Stepping.{left, step_literals, Ends, IsStepOut, AreParents, IsCut, Reads, Finds}
use Rattle.frame_solver.proofs.Guarding.{all_true, obeyed, loaded_in, true_more, rest_true}
use Rattle.frame_solver.proofs.Joined.{IsFree, in_core, in_core_from, joined, joined_low, joined_high, joined_all, joined_init, one_of, obeys, offs, core_on}
use Rattle.frame_solver.proofs.Truths.{true_like, all_like}
use Rattle.frame_solver.specs.declared.loading.Engine.{Engine}
use Rattle.frame_solver.specs.Engines.{IsReady}
use Rattle.frame_solver.proofs.Framed.{by_group, groups_count, head_true, in_frame, lemma_level, asked_cases, also_asked, clauses_count}

module _ (sys : TransitionSystem) (keeps : IsSystem sys) (lemmas : List Lemma) (inside : All (λ (l : Lemma). Within sys.state_bits l.clause) lemmas)
    (own : ℕ) (given : List (List Lit)) (level : ℕ) (clause : List Lit) (low : base sys + (2 + length lemmas) ≤ own)
    (holds : HoldsGroups (base sys) (groups (step_heads sys) (clauses_of lemmas)) (own + 1) given)
    (within : Within sys.state_bits clause) (above : 0 < level) where
  abbrev b : ℕ
  b = base sys

  abbrev h : ℕ
  h = length (step_heads sys)

  abbrev n : ℕ
  n = h + length lemmas

  abbrev gs : List (List (List Lit))
  gs = groups (step_heads sys) (clauses_of lemmas)

  abbrev pub asked_clauses : List (List Lit)
  asked_clauses = given ++ (off own ∷ clause) ∷ []

  abbrev pub extra : List Lit
  extra = step_literals sys.state_bits own clause

  count : n ≡ length gs
  count = groups_count (step_heads sys) lemmas

  next_low : (l : Lit) → l.var < sys.state_bits → sys.state_bits + l.var < sys.all_bits
  next_low l lt = omega (arith, keeps.room)

  pub extra_free : All (IsFree b n) extra
  extra_free =
      All-cons (IsFree b n) (on own) (map (left sys.state_bits) clause) (inr low)
      (All-map (IsFree b n) (left sys.state_bits) clause
      (All-weaker (λ (l : Lit). l.var < sys.state_bits) (λ l. IsFree b n (left sys.state_bits l)) (λ l lt. inl (omega (arith, next_low l lt))) clause within))

  pub extra_low : All (λ (m : Lit). m.var < own + 1) extra
  extra_low =
      All-cons (λ (m : Lit). m.var < own + 1) (on own) (map (left sys.state_bits) clause) (omega arith)
      (All-map (λ (m : Lit). m.var < own + 1) (left sys.state_bits) clause
      (All-weaker (λ (l : Lit). l.var < sys.state_bits) (λ (l : Lit). (left sys.state_bits l).var < own + 1) (λ l lt. omega (arith, next_low l lt, low)) clause within))

  lemma_within : (m : ℕ) → m < length lemmas → Within sys.state_bits (lemma_at lemmas m).clause
  lemma_within m lt = inside m no_lemma lt

  module _ (core part : List Lit) (only : All (IsAskedLiteral b h lemmas (level - 1) 1 n extra) core) (refuted : IsRefuted asked_clauses core)
      (cut : IsCut (left sys.state_bits) core clause part) (v f x y : ℕ → Bool) (vx : Agrees sys.state_bits v x) (vy : NextIs sys.state_bits v y)
      (vstep : All (ClauseTrue v) sys.step)
      (init : level ≡ 1 → ((u : ℕ) → u < sys.state_bits → v u ≡ f u) × All (ClauseTrue f) sys.init) (xc : ClauseTrue x clause)
      (xl : 1 < level → (m : ℕ) → m < length lemmas → Contains core (on (b + (h + m))) → ClauseTrue x (lemma_at lemmas m).clause) where
    abbrev a : ℕ → Bool
    a = joined sys v f (in_core core)

    -- on state bits it has the values of x
    state_like : (c : List Lit) → Within sys.state_bits c → SameOn a x c
    state_like c inner = All-weaker (λ (l : Lit). l.var < sys.state_bits) (λ (l : Lit). a l.var ≡ x l.var)
        (λ l lt. joined_low sys v f (in_core core) l.var (omega (arith, keeps.room)) ∙ vx l.var lt) c inner

    of_heads : (k : ℕ) → k < h → IsOne h lemmas (level - 1) 1 n k → All (ClauseTrue a) (get_or (step_heads sys) k [])
    of_heads k low_k one =
        let P : ℕ → Type 0 = λ j. All (ClauseTrue a) (get_or (step_heads sys) j []) in
        elim (asked_cases h lemmas (level - 1) 1 k one.1) [
          | inl same ↦ subst P (sym same) (joined_all sys v f (in_core core) sys.step keeps.step_in vstep)
          | inr more ↦
              elim more [
                | inl q ↦
                    let e : level ≡ 1 = omega (arith, q.2) in
                    subst P (sym q.1) (joined_init sys v f (in_core core) sys.init keeps.room (init e).0 keeps.init_in (init e).1)
                | inr q ↦ absurd (omega (arith, q.0))
              ]
        ]

    of_lemmas : (m : ℕ) → m < length lemmas → is_asked h lemmas (level - 1) 1 (h + m) ≡ true → Contains core (on (b + (h + m))) → ClauseTrue a (lemma_at lemmas m).clause
    of_lemmas m lt is here =
        let up = lemma_level h lemmas (level - 1) 1 m (omega arith) is in
        true_like a x (lemma_at lemmas m).clause (state_like (lemma_at lemmas m).clause (lemma_within m lt)) (xl (omega (arith, up.0)) m lt here)

    each_group : (k : ℕ) → IsOne h lemmas (level - 1) 1 n k → Contains core (on (b + k)) → All (ClauseTrue a) (group gs k)
    each_group = by_group (step_heads sys) lemmas b (level - 1) 1 a core of_heads of_lemmas

    own_at : (k : ℕ) (l : Lit) → k < length extra → get_or extra k l ≡ l → AllFalse (truths y) part → Contains core l → IsTrueIn a l
    own_at zero l lt is false_part here =
        let P : Lit → Type 0 = IsTrueIn a in
        let C : Lit → Type 0 = Contains core in
        subst P is (joined_high sys v f (in_core core) own (omega (arith, low)) ∙ in_core_from core own (subst C (sym is) here))
    own_at (suc k) l lt is false_part here =
        let k_in : k < length clause = (let e : length (map (left sys.state_bits) clause) ≡ length clause = simp length-map in omega (arith, lt, e)) in
        let m : Lit = get_or clause k none_lit in
        let e : left sys.state_bits m ≡ l = sym (get_or-map (left sys.state_bits) clause k none_lit l k_in) ∙ is in
        let in_clause : Contains clause m = Contains-get_or clause k none_lit k_in in
        let C : Lit → Type 0 = Contains core in
        let in_part : Contains part m = cut.enough m in_clause (subst C (sym e) here) in
        let off_y : truths y (negate m) ≡ true = All-contains (λ (q : Lit). truths y (negate q) ≡ true) part m false_part in_part in
        let y_is : y m.var ≡ not m.positive = agrees_true (y m.var) (not m.positive) off_y in
        let m_in : m.var < sys.state_bits = All-contains (λ (q : Lit). q.var < sys.state_bits) clause m within in_clause in
        let P : Lit → Type 0 = IsTrueIn a in
        subst P e (joined_low sys v f (in_core core) (sys.state_bits + m.var) (next_low m m_in) ∙ vy m.var m_in ∙ y_is)

    no_way : AllFalse (truths y) part → ⊥
    no_way false_part =
        refuted a
        (All-push (ClauseTrue a) given (off own ∷ clause)
        (all_true b gs (own + 1) a given (obeys sys gs h lemmas (level - 1) 1 n (own + 1) extra core only extra_free v f count each_group)
        (offs sys gs h lemmas (level - 1) 1 n (own + 1) extra core only extra_free v f (omega (arith, low)) extra_low) holds.guarded)
        (true_more a (off own) clause (true_like a x clause (state_like clause within) xc)))
        (core_on sys gs h lemmas (level - 1) 1 n (own + 1) extra core only extra_free v f (λ l here mine. own_at mine.0 l mine.1 mine.2 false_part here))

    pub ends_at : ClauseTrue y part
    ends_at = elim (clause_cases y part) [ inl h ↦ h | inr h ↦ absurd (no_way h) ]

  -- what the parents and the clause show
  pub ends : (core part : List Lit) (parents : List Parent) → All (IsAskedLiteral b h lemmas (level - 1) 1 n extra) core → IsRefuted asked_clauses core →
      IsCut (left sys.state_bits) core clause part → AreParents (b + h) lemmas core parents → ((x : ℕ → Bool) → FirstBits sys x → ClauseTrue x clause) → Ends sys level clause parents part
  ends core part parents only refuted cut named meets x y first from (v, vx, vy, vstep) =
      elim (cases_lt 1 level) [
        | inl high ↦
            let init : level ≡ 1 → ((u : ℕ) → u < sys.state_bits → v u ≡ false) × All (ClauseTrue (λ _. false)) sys.init = λ e. absurd (omega (arith, e)) in
            ends_at core part only refuted cut v (λ _. false) x y vx vy vstep init (from high).0
            (λ up m lt here.
            let C : ℕ → Type 0 = λ w. Contains core (on w) in
            let at : b + (h + m) ≡ b + h + m = omega arith in
            let p = named.enough m lt (subst C at here) in
            let P : List Lit → Type 0 = ClauseTrue x in
            subst P p.2 (All-contains (λ (q : Parent). ClauseTrue x q.clause) parents p.0 (from high).1 p.1))
        | inr low_level ↦
            let e : level ≡ 1 = omega arith in
            let start = first e in
            ends_at core part only refuted cut v start.0 x y vx vy vstep (λ same. ((λ u lt. vx u lt ∙ sym (start.1 u lt)), start.2)) (meets x start)
            (λ up. absurd (omega arith))
      ]

  -- each parent has the level
  pub stand : (core : List Lit) (parents : List Parent) → All (IsAskedLiteral b h lemmas (level - 1) 1 n extra) core → AreParents (b + h) lemmas core parents →
      AllStand lemmas (level - 1) parents
  stand core parents only named up =
      All-weaker (λ (p : Parent). (p.number < length lemmas) × ((lemma_at lemmas p.number).clause ≡ p.clause) × Contains core (on (b + h + p.number)))
      (Stands lemmas (level - 1))
      (λ p q.
      let k : ℕ = h + p.number in
      let at : IsAskedLiteral b h lemmas (level - 1) 1 n extra (on (b + h + p.number)) =
      All-contains (IsAskedLiteral b h lemmas (level - 1) 1 n extra) core (on (b + h + p.number)) only q.2 in
      let e : b + h + p.number ≡ b + k = omega arith in
      let one = one_of sys gs h lemmas (level - 1) 1 n (own + 1) extra core only extra_free (λ _. false) (λ _. false) k (on (b + h + p.number)) (omega (arith, q.0)) (ap on e) at in
      (q.0, q.1, (lemma_level h lemmas (level - 1) 1 p.number (omega arith) one.1).1))
      parents named.only

  module _ (vars : ℕ) (model : List Bool) (fits : own < vars) (whole : length model ≡ vars) (true_all : All (ClauseTrue (assignment_of model)) asked_clauses)
      (all_on : AllOn b h lemmas (level - 1) 1 n (assignment_of model)) (mine : All (IsTrueIn (assignment_of model)) extra) where
    abbrev m : ℕ → Bool
    m = assignment_of model

    abbrev pub values : List Bool
    values = take sys.all_bits model

    same : (u : ℕ) → u < sys.all_bits → assignment_of values u ≡ m u
    same u lt = get_or-take sys.all_bits model u false lt

    like : (c : List Lit) → Within sys.all_bits c → SameOn (assignment_of values) m c
    like c inner = All-weaker (λ (l : Lit). l.var < sys.all_bits) (λ (l : Lit). assignment_of values l.var ≡ m l.var) (λ l lt. same l.var lt) c inner

    obey : Obeys b gs m
    obey = obeyed b gs own m asked_clauses (loaded_in b gs own given asked_clauses (λ k d lt. Contains-append_left given ((off own ∷ clause) ∷ []) (get_or given k d) (Contains-get_or given k d lt)) holds.loaded) true_all

    state_within : (c : List Lit) → Within sys.state_bits c → Within sys.all_bits c
    state_within c inner = All-weaker (λ (l : Lit). l.var < sys.state_bits) (λ (l : Lit). l.var < sys.all_bits) (λ l lt. omega (arith, keeps.room)) c inner

    next_in : (k : ℕ) → k < length clause → suc k < length extra
    next_in k lt = (let e : length (map (left sys.state_bits) clause) ≡ length clause = simp length-map in omega (arith, lt, e))

    own_on : m own ≡ true
    own_on = All-head (IsTrueIn m) (on own) (map (left sys.state_bits) clause) mine

    pub is_out : IsStepOut sys lemmas level clause values
    is_out = record {
      whole = length-take-le sys.all_bits model (omega (arith, fits, low, whole));
      step = all_like (assignment_of values) m sys.step (λ k d lt. like (get_or sys.step k d) (keeps.step_in k d lt)) (head_true (step_heads sys) lemmas b (level - 1) 1 m obey all_on 1 (omega arith) (also_asked h lemmas (level - 1) 1));
      from = in_frame (step_heads sys) lemmas b (level - 1) 1 m obey all_on sys (assignment_of values) (λ u lt. same u (omega (arith, keeps.room))) (omega arith) refl inside;
      meets = true_like (assignment_of values) m clause (like clause (state_within clause within))
          (rest_true m own clause own_on (All-contains (ClauseTrue m) asked_clauses (off own ∷ clause) true_all (Contains-push given (off own ∷ clause))));
      out = λ k d lt.
          (let l : Lit = get_or clause k d in
          let next : IsTrueIn m (left sys.state_bits l) =
          (let P : Lit → Type 0 = IsTrueIn m in
          subst P (get_or-map (left sys.state_bits) clause k d (left sys.state_bits d) lt) (mine (suc k) (left sys.state_bits d) (next_in k lt))) in
          same (sys.state_bits + l.var) (next_low l (within k d lt)) ∙ next);
    }

  -- a right answer of the solver is read rightly
  pub finds : (vars : ℕ) (learned : List (List Lit)) (budget : ℕ) (over : Bool) (answer : Answer) (found : Stepping) → own < vars →
      ((x : ℕ → Bool) → FirstBits sys x → ClauseTrue x clause) →
      AskSays record { vars = vars; given = asked_clauses; learned = learned } b h lemmas (level - 1) 1 n extra budget over answer →
      Reads sys (b + h) lemmas clause answer found → Finds sys lemmas level clause budget over found
  finds vars learned budget over (solver.Sat model) found fits meets said reads =
      subst (Finds sys lemmas level clause budget over) (sym reads) (is_out vars model fits said.0 said.1 said.2 said.3)
  finds vars learned budget over (solver.Unsat core) (stepping.Holds parents part) fits meets said reads =
      (ends core.items part.items parents.items said.0 said.1 reads.1 reads.0 meets, stand core.items parents.items said.0 reads.0, reads.1.only)
  finds vars learned budget over (solver.Unsat core) (stepping.Leaves values) fits meets said reads = absurd reads
  finds vars learned budget over (solver.Unsat core) (stepping.Spent d left) fits meets said reads = absurd reads
  finds vars learned budget over (solver.Spent d left) found fits meets said reads = subst (Finds sys lemmas level clause budget over) (sym reads) said

-- the same with what the code has at hand
pub found_by : (sys : TransitionSystem) → IsSystem sys → (lemmas : List Lemma) → All (λ (l : Lemma). Within sys.state_bits l.clause) lemmas →
    (e : Engine) → IsReady (base sys) (step_heads sys) (clauses_of lemmas) e → (own level : ℕ) (clause : List Lit) → own + 1 ≡ e.used →
    Within sys.state_bits clause → 0 < level → ((x : ℕ → Bool) → FirstBits sys x → ClauseTrue x clause) →
    (t : State) (extra : List Lit) (budget : ℕ) (over : Bool) (answer : Answer) (found : Stepping) →
    extra ≡ step_literals sys.state_bits own clause → t ≡ record e.solver { given = e.solver.given ++ (off own ∷ clause) ∷ [] } →
    AskSays t e.base e.heads lemmas (level - 1) 1 (e.heads + length lemmas) extra budget over answer → Reads sys (e.base + e.heads) lemmas clause answer found →
    Finds sys lemmas level clause budget over found
found_by sys keeps lemmas inside e ready own level clause next within above meets t extra budget over answer found is_extra is_asked said reads =
    let b = base sys in
    let h : ℕ = length (step_heads sys) in
    let s : State = record e.solver { given = e.solver.given ++ (off own ∷ clause) ∷ [] } in
    let U : ℕ → Type 0 = λ u. HoldsGroups b (groups (step_heads sys) (clauses_of lemmas)) u e.solver.given in
    let R : ℕ → Type 0 = λ q. Reads sys q lemmas clause answer found in
    let S : State → Type 0 = λ q. AskSays q e.base e.heads lemmas (level - 1) 1 (e.heads + length lemmas) extra budget over answer in
    let E : List Lit → Type 0 = λ ls. AskSays s e.base e.heads lemmas (level - 1) 1 (e.heads + length lemmas) ls budget over answer in
    let B : ℕ → Type 0 = λ q. AskSays s q e.heads lemmas (level - 1) 1 (e.heads + length lemmas) (step_literals sys.state_bits own clause) budget over answer in
    let H : ℕ → Type 0 = λ q. AskSays s b q lemmas (level - 1) 1 (q + length lemmas) (step_literals sys.state_bits own clause) budget over answer in
    let first : e.base + e.heads ≡ b + h = omega (arith, ready.base, ready.count) in
    finds sys keeps lemmas inside own e.solver.given level clause (omega (arith, next, ready.room, clauses_count lemmas)) (subst U (sym next) ready.holds) within above
    e.solver.vars e.solver.learned budget over answer found (omega (arith, next, ready.fits)) meets
    (subst H ready.count (subst B ready.base (subst E is_extra (subst S is_asked said)))) (subst R first reads)

-- the query's own literals are of the solver's variables
pub own_within : (sys : TransitionSystem) → IsSystem sys → (own vars : ℕ) (clause extra : List Lit) → extra ≡ step_literals sys.state_bits own clause →
    Within sys.state_bits clause → base sys ≤ own → own < vars → Within vars extra
own_within sys keeps own vars clause extra is_extra within low fits =
    let W : List Lit → Type 0 = Within vars in
    subst W (sym is_extra)
    (All-cons (λ (l : Lit). l.var < vars) (on own) (map (left sys.state_bits) clause) fits
    (All-map (λ (l : Lit). l.var < vars) (left sys.state_bits) clause
    (All-weaker (λ (l : Lit). l.var < sys.state_bits) (λ (l : Lit). (left sys.state_bits l).var < vars) (λ l lt. omega (arith, keeps.room)) clause within)))
