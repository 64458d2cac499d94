-- What a solver's answer about initial states says.
use Rattle.std.proofs.Common.{◌≡◌, inl, inr, ℕ, ◌+◌, ◌<◌, ◌≤◌, Bool, true, false, not, List, [], length, map, take, get_or, sym, ◌∙◌, subst, arith}
use Rattle.std.specs.Prelude.{All, Contains}
use Rattle.std.proofs.lemmas.List.{get_or-map, length-map, get_or-take, length-take-le}
use Rattle.std.proofs.lemmas.List.Elements.{All-contains, All-weaker, All-map, Contains-get_or}
use Rattle.clause_core.specs.declared.literal.Lit.{Lit}
use Rattle.clause_core.specs.Literals.{Within, none_lit, negate}
use Rattle.clause_core.specs.Assignments.{ClauseTrue, assignment_of, Agrees}
use Rattle.clause_core.specs.Propagation.{AllFalse}
use Rattle.clause_core.specs.Systems.{TransitionSystem, IsSystem}
use Rattle.clause_core.proofs.Sound.{clause_cases, truths, agrees_true}
use Rattle.sat_core.specs.declared.answer.Answer.{Answer}
use Rattle.sat_core.specs.declared.answer.Answer.TheVariants as solver
use Rattle.frame_core.specs.declared.parts.Lemma.{Lemma}
use Rattle.frame_solver.specs.declared.first_states.Firsts.{Firsts}
use Rattle.frame_solver.specs.declared.first_states.Firsts.TheVariants as firsts
use Rattle.frame_solver.specs.Guards.{on, group, HoldsGroups}
use Rattle.frame_core.specs.FrameLaw.{lemma_at}
use Rattle.frame_solver.specs.Groups.{base, init_group, clauses_of, groups, is_asked}
use Rattle.frame_solver.specs.Asking.{IsTrueIn, IsOne, IsAskedLiteral, AllOn, IsRefuted, AskSays}
use Rattle.frame_solver.specs.Stepping.{IsCut}
use Rattle.frame_solver.specs.Firsts.{IsFirstOut, FindsFirsts, ReadsFirsts}
use Rattle.frame_solver.proofs.Guarding.{all_true, obeyed}
use Rattle.frame_solver.proofs.Joined.{IsFree, in_core, joined, joined_low, joined_init, obeys, offs, core_on}
use Rattle.frame_solver.proofs.Framed.{by_group, groups_count, is_first, lemma_level, asked_cases, also_asked, clauses_count}
use Rattle.frame_solver.specs.declared.loading.Engine.{Engine}
use Rattle.frame_solver.specs.Engines.{IsReady}

module _ (sys : TransitionSystem) (keeps : IsSystem sys) (heads : List (List (List Lit))) (some : 0 < length heads) (at_first : get_or heads 0 [] ≡ init_group sys)
    (lemmas : List Lemma) (used : ℕ) (given : List (List Lit)) (clause : List Lit)
    (room : base sys + (length heads + length lemmas) ≤ used) (holds : HoldsGroups (base sys) (groups heads (clauses_of lemmas)) used given)
    (within : Within sys.state_bits clause) where
  abbrev b : ℕ
  b = base sys

  abbrev h : ℕ
  h = length heads

  abbrev n : ℕ
  n = length heads + length lemmas

  abbrev gs : List (List (List Lit))
  gs = groups heads (clauses_of lemmas)

  abbrev extra : List Lit
  extra = map negate clause

  extra_free : All (IsFree b n) extra
  extra_free = All-map (IsFree b n) negate clause
      (All-weaker (λ (l : Lit). l.var < sys.state_bits) (λ l. IsFree b n (negate l)) (λ l lt. inl (omega (arith, keeps.room))) clause within)

  extra_low : All (λ (m : Lit). m.var < used) extra
  extra_low = All-map (λ (m : Lit). m.var < used) negate clause
      (All-weaker (λ (l : Lit). l.var < sys.state_bits) (λ (l : Lit). l.var < used) (λ l lt. omega (arith, keeps.room, room)) clause within)

  module _ (core part : List Lit) (only : All (IsAskedLiteral b h lemmas 0 0 n extra) core) (refuted : IsRefuted given core) (cut : IsCut negate core clause part)
      (x f : ℕ → Bool) (agree : Agrees sys.state_bits f x) (init : All (ClauseTrue f) sys.init) where
    abbrev a : ℕ → Bool
    a = joined sys x f (in_core core)

    of_heads : (k : ℕ) → k < h → IsOne h lemmas 0 0 n k → All (ClauseTrue a) (get_or heads k [])
    of_heads k low_k one =
        let P : ℕ → Type 0 = λ j. All (ClauseTrue a) (get_or heads j []) in
        let Q : List (List Lit) → Type 0 = All (ClauseTrue a) in
        let init_true : P 0 = subst Q (sym at_first) (joined_init sys x f (in_core core) sys.init keeps.room (λ u lt. sym (agree u lt)) keeps.init_in init) in
        elim (asked_cases h lemmas 0 0 k one.1) [
          | inl same ↦ subst P (sym same) init_true
          | inr more ↦ elim more [ inl q ↦ subst P (sym q.1) init_true | inr q ↦ absurd (omega (arith, q.0)) ]
        ]

    of_lemmas : (m : ℕ) → m < length lemmas → is_asked h lemmas 0 0 (h + m) ≡ true → Contains core (on (b + (h + m))) → ClauseTrue a (lemma_at lemmas m).clause
    of_lemmas m lt is here = absurd (omega (arith, (lemma_level h lemmas 0 0 m some is).0))

    each_group : (k : ℕ) → IsOne h lemmas 0 0 n k → Contains core (on (b + k)) → All (ClauseTrue a) (group gs k)
    each_group = by_group heads lemmas b 0 0 a core of_heads of_lemmas

    own_at : (l : Lit) → Contains extra l → AllFalse (truths x) part → Contains core l → IsTrueIn a l
    own_at l mine false_part here =
        let k = mine.0 in
        let k_in : k < length clause = (let e : length (map negate clause) ≡ length clause = simp length-map in omega (arith, mine.1, e)) in
        let m : Lit = get_or clause k none_lit in
        let e : negate m ≡ l = sym (get_or-map negate clause k none_lit l k_in) ∙ mine.2 in
        let in_clause : Contains clause m = Contains-get_or clause k none_lit k_in in
        let C : Lit → Type 0 = Contains core in
        let in_part : Contains part m = cut.enough m in_clause (subst C (sym e) here) in
        let off_x : truths x (negate m) ≡ true = All-contains (λ (q : Lit). truths x (negate q) ≡ true) part m false_part in_part in
        let m_in : m.var < sys.state_bits = All-contains (λ (q : Lit). q.var < sys.state_bits) clause m within in_clause in
        let P : Lit → Type 0 = IsTrueIn a in
        subst P e (joined_low sys x f (in_core core) m.var (omega (arith, keeps.room)) ∙ agrees_true (x m.var) (not m.positive) off_x)

    no_way : AllFalse (truths x) part → ⊥
    no_way false_part =
        refuted a
        (all_true b gs used a given (obeys sys gs h lemmas 0 0 n used extra core only extra_free x f (groups_count heads lemmas) each_group)
        (offs sys gs h lemmas 0 0 n used extra core only extra_free x f room extra_low) holds.guarded)
        (core_on sys gs h lemmas 0 0 n used extra core only extra_free x f (λ l here mine. own_at l mine false_part here))

    pub meets_at : ClauseTrue x part
    meets_at = elim (clause_cases x part) [ inl h ↦ h | inr h ↦ absurd (no_way h) ]

  module _ (vars : ℕ) (model : List Bool) (fits : used ≤ vars) (whole : length model ≡ vars) (true_all : All (ClauseTrue (assignment_of model)) given)
      (all_on : AllOn b h lemmas 0 0 n (assignment_of model)) (mine : All (IsTrueIn (assignment_of model)) extra) where
    abbrev m : ℕ → Bool
    m = assignment_of model

    abbrev values : List Bool
    values = take sys.state_bits model

    same : (u : ℕ) → u < sys.state_bits → assignment_of values u ≡ m u
    same u lt = get_or-take sys.state_bits model u false lt

    pub is_out : IsFirstOut sys clause values
    is_out = record {
      whole = length-take-le sys.state_bits model (omega (arith, fits, room, whole, keeps.room));
      first = is_first heads lemmas b 0 0 m (obeyed b gs used m given holds.loaded true_all) all_on sys (assignment_of values) same some at_first (also_asked h lemmas 0 0);
      out = λ k d lt.
          (let l : Lit = get_or clause k d in
          let P : Lit → Type 0 = IsTrueIn m in
          same l.var (within k d lt) ∙ subst P (get_or-map negate clause k d (negate d) lt) (mine k (negate d) (simp length-map lt)));
    }

  pub finds_firsts : (vars : ℕ) (learned : List (List Lit)) (budget : ℕ) (over : Bool) (answer : Answer) (found : Firsts) → used ≤ vars →
      AskSays record { vars = vars; given = given; learned = learned } b h lemmas 0 0 n extra budget over answer → ReadsFirsts sys clause answer found →
      FindsFirsts sys clause budget over found
  finds_firsts vars learned budget over (solver.Sat model) found fits said reads =
      subst (FindsFirsts sys clause budget over) (sym reads) (is_out vars model fits said.0 said.1 said.2 said.3)
  finds_firsts vars learned budget over (solver.Unsat core) (firsts.Meet part) fits said reads =
      ((λ x start. meets_at core.items part said.0 said.1 reads x start.0 start.1 start.2), reads.only)
  finds_firsts vars learned budget over (solver.Unsat core) (firsts.First vs) fits said reads = absurd reads
  finds_firsts vars learned budget over (solver.Unsat core) (firsts.Spent d left) fits said reads = absurd reads
  finds_firsts vars learned budget over (solver.Spent d left) found fits said reads = subst (FindsFirsts sys clause budget over) (sym reads) said

-- the same with what the code has at hand
pub found_by : (sys : TransitionSystem) → IsSystem sys → (heads : List (List (List Lit))) → 0 < length heads → get_or heads 0 [] ≡ init_group sys → (lemmas : List Lemma) →
    (e : Engine) → IsReady (base sys) heads (clauses_of lemmas) e → (clause extra : List Lit) → Within sys.state_bits clause → extra ≡ map negate clause →
    (budget : ℕ) (over : Bool) (answer : Answer) (found : Firsts) → AskSays e.solver e.base e.heads lemmas 0 0 (e.heads + length lemmas) extra budget over answer →
    ReadsFirsts sys clause answer found → FindsFirsts sys clause budget over found
found_by sys keeps heads some at_first lemmas e ready clause extra within is_extra budget over answer found said reads =
    let b = base sys in
    let E : List Lit → Type 0 = λ ls. AskSays e.solver e.base e.heads lemmas 0 0 (e.heads + length lemmas) ls budget over answer in
    let B : ℕ → Type 0 = λ q. AskSays e.solver q e.heads lemmas 0 0 (e.heads + length lemmas) (map negate clause) budget over answer in
    let H : ℕ → Type 0 = λ q. AskSays e.solver b q lemmas 0 0 (q + length lemmas) (map negate clause) budget over answer in
    finds_firsts sys keeps heads some at_first lemmas e.used e.solver.given clause (omega (arith, ready.room, clauses_count lemmas)) ready.holds within
    e.solver.vars e.solver.learned budget over answer found ready.fits (subst H ready.count (subst B ready.base (subst E is_extra said))) reads

pub negated_within : (sys : TransitionSystem) → IsSystem sys → (vars : ℕ) (clause extra : List Lit) → extra ≡ map negate clause → Within sys.state_bits clause →
    base sys ≤ vars → Within vars extra
negated_within sys keeps vars clause extra is within low =
    let W : List Lit → Type 0 = Within vars in
    subst W (sym is) (All-map (λ (l : Lit). l.var < vars) negate clause
    (All-weaker (λ (l : Lit). l.var < sys.state_bits) (λ (l : Lit). l.var < vars) (λ l lt. omega (arith, keeps.room)) clause within))
