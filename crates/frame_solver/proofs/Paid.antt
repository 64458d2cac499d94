-- Queries that were paid for.
use Rattle.std.proofs.Common.{◌≡◌, ◌⊎◌, inl, inr, ℕ, ◌+◌, ◌-◌, ◌<◌, ◌≤◌, List, [], ◌∷◌, ◌++◌, length, map, get_or, refl, sym, ◌∙◌, ap, subst, arith, length-append}
use Rattle.std.specs.Prelude.{All, Contains}
use Rattle.std.proofs.Math.ListN.{get_or-append}
use Rattle.std.proofs.lemmas.Bool.{cases_lt}
use Rattle.std.proofs.lemmas.List.{length-map, map-append, append-nil, get_or-append_right}
use Rattle.std.proofs.lemmas.List.Elements.{All-append, All-weaker, All-map, All-nil, All-contains, All-contains_itself, Contains-append_left, Contains-append_right, Contains-append_cases, Contains-get_or}
use Rattle.clause_core.specs.declared.literal.Lit.{Lit}
use Rattle.clause_core.specs.Systems.{TransitionSystem}
use Rattle.sat_core.specs.Queries.{State}
use Rattle.sat_core.specs.Paying.{Query, IsPaidLog, learned_in}
use Rattle.sat_core.proofs.Payments.{log_none, log_join, asked_more}
use Rattle.frame_core.specs.declared.parts.Lemma.{Lemma}
use Rattle.frame_core.specs.FrameLaw.{system_at}
use Rattle.frame_solver.specs.declared.loading.Engine.{Engine}
use Rattle.frame_solver.specs.Guards.{off, IsGuarded, AllLoaded, HoldsGroups}
use Rattle.frame_solver.specs.Groups.{base, groups, clauses_of, step_heads, state_heads}
use Rattle.frame_solver.specs.Stepping.{step_literals}
use Rattle.frame_solver.specs.Engines.{IsReady}
use Rattle.frame_solver.specs.Asking.{AreAsked, AsksOnce}
use Rattle.frame_solver.specs.Paying.{Question, Steps, AskedQuery, IsQueryOf, Pays, PaysOne, AllDiffer, queries_of, heads_of, frame_of, head_of, own_clauses, own_literals}
use Rattle.frame_solver.proofs.Framed.{clauses_count}
use Rattle.frame_solver.proofs.Guarding.{loaded_in}

abbrev asked_of : Question → Query → AskedQuery
asked_of question q = record { question = question; query = q }

queries_back : (question : Question) (log : List Query) → queries_of (map (asked_of question) log) ≡ log
queries_back question [] = refl
queries_back question (q ∷ qs) = ap (λ xs. q ∷ xs) (queries_back question qs)

module _ (systems : List TransitionSystem) (lemmas : List Lemma) where
  -- nothing was asked
  pub pays_none : (old new : List (List Lit)) (before after : List ℕ) → All (Contains old) new → after ≡ before → Pays systems lemmas old new before after []
  pays_none old new before after sub drawn = record {
    each = All-nil (λ (a : AskedQuery). IsQueryOf systems lemmas a.question a.query);
    paid = log_none old new before after sub drawn;
  }

  pub none_asked : (question : Question) (old new : List (List Lit)) (before after : List ℕ) → All (Contains old) new → after ≡ before →
      PaysOne systems lemmas old new before after question
  none_asked question old new before after sub drawn =
      ([], pays_none old new before after sub drawn, omega arith, All-nil (λ (a : AskedQuery). a.question ≡ question))

  pub none_same : (question : Question) (old new : List (List Lit)) (before after : List ℕ) → new ≡ old → after ≡ before →
      PaysOne systems lemmas old new before after question
  none_same question old new before after same drawn =
      let P : List (List Lit) → Type 0 = All (Contains old) in
      none_asked question old new before after (subst P (sym same) (All-contains_itself old)) drawn

  module _ (question : Question) (own used : ℕ) (given : List (List Lit)) (t : State)
      (past : base (system_at systems 0) + (length (heads_of systems question) + length lemmas) ≤ own) (served : own < used)
      (holds : HoldsGroups (base (system_at systems 0)) (groups (heads_of systems question) (clauses_of lemmas)) used given)
      (is : t.given ≡ given ++ own_clauses own question) where
    abbrev b : ℕ
    b = base (system_at systems 0)

    abbrev gs : List (List (List Lit))
    gs = groups (heads_of systems question) (clauses_of lemmas)

    abbrev IsAllowed : List Lit → Type 0
    IsAllowed c = IsGuarded b gs used c ⊎ Contains (own_clauses own question) c

    all_allowed : All IsAllowed t.given
    all_allowed =
        let P : List (List Lit) → Type 0 = All IsAllowed in
        subst P (sym is) (All-append IsAllowed given (own_clauses own question)
        (All-weaker (IsGuarded b gs used) IsAllowed (λ c h. inl h) given holds.guarded)
        (All-weaker (Contains (own_clauses own question)) IsAllowed (λ c h. inr h) (own_clauses own question) (All-contains_itself (own_clauses own question))))

    of_question : (q : Query) → (q.own ≡ t.given) × AreAsked b (length (heads_of systems question)) lemmas (frame_of question) (head_of question)
        (length (heads_of systems question) + length lemmas) (own_literals (system_at systems 0).state_bits own question) q.assumptions →
        IsQueryOf systems lemmas question q
    of_question q h =
        let P : List (List Lit) → Type 0 = All IsAllowed in
        let L : List (List Lit) → Type 0 = AllLoaded b gs in
        let T : List (List Lit) → Type 0 = λ cs. All (Contains cs) (own_clauses own question) in
        let e : q.own ≡ given ++ own_clauses own question = h.0 ∙ is in
        record {
          own = own;
          used = used;
          past = past;
          served = served;
          clauses = subst P (sym h.0) all_allowed;
          loaded = subst L (sym e) (loaded_in b gs used given (given ++ own_clauses own question)
              (λ k d lt. Contains-append_left given (own_clauses own question) (get_or given k d) (Contains-get_or given k d lt)) holds.loaded);
          there = subst T (sym e) (All-weaker (Contains (own_clauses own question)) (Contains (given ++ own_clauses own question))
              (λ c here. Contains-append_right given (own_clauses own question) c here) (own_clauses own question) (All-contains_itself (own_clauses own question)));
          asks = h.1;
        }

    -- one query of the question
    pub pays_one : (old : List (List Lit)) (new : State) (before after : List ℕ) → t.learned ≡ old →
        AsksOnce b (length (heads_of systems question)) lemmas (frame_of question) (head_of question) (length (heads_of systems question) + length lemmas)
        (own_literals (system_at systems 0).state_bits own question) t new before after → PaysOne systems lemmas old new.learned before after question
    pays_one old new before after same once =
        let log = once.0 in
        let L : List (List Lit) → Type 0 = λ xs. IsPaidLog xs new.learned before after log in
        let Q : List Query → Type 0 = IsPaidLog old new.learned before after in
        let count : length (map (asked_of question) log) ≡ length log = simp length-map in (
          map (asked_of question) log,
          record {
            each = All-map (λ (a : AskedQuery). IsQueryOf systems lemmas a.question a.query) (asked_of question) log
                (All-weaker (λ (q : Query). (q.own ≡ t.given) × AreAsked b (length (heads_of systems question)) lemmas (frame_of question) (head_of question)
                (length (heads_of systems question) + length lemmas) (own_literals (system_at systems 0).state_bits own question) q.assumptions)
                (λ (q : Query). IsQueryOf systems lemmas question q) of_question log once.3);
            paid = subst Q (sym (queries_back question log)) (subst L same once.1);
          },
          omega (arith, once.2, count),
          All-map (λ (a : AskedQuery). a.question ≡ question) (asked_of question) log (All-weaker (λ (q : Query). (q.own ≡ t.given) × AreAsked b (length (heads_of systems question)) lemmas (frame_of question) (head_of question)
              (length (heads_of systems question) + length lemmas) (own_literals (system_at systems 0).state_bits own question) q.assumptions)
              (λ (q : Query). question ≡ question) (λ q h. refl) log once.3),
        )

  -- queries, and then others
  pub pays_then : (a b c : List (List Lit)) (x y z : List ℕ) (ps qs : List AskedQuery) → Pays systems lemmas a b x y ps → Pays systems lemmas b c y z qs →
      Pays systems lemmas a c x z (ps ++ qs)
  pays_then a b c x y z ps qs first second =
      let P : List Query → Type 0 = IsPaidLog a c x z in
      record {
        each = All-append (λ (q : AskedQuery). IsQueryOf systems lemmas q.question q.query) ps qs first.each second.each;
        paid = subst P (sym (map-append (λ (q : AskedQuery). q.query) ps qs)) (log_join a b c x y z (queries_of ps) (queries_of qs) first.paid second.paid);
      }

-- a query about steps, with what the code has at hand
pub steps_paid : (systems : List TransitionSystem) (lemmas : List Lemma) (e : Engine) →
    IsReady (base (system_at systems 0)) (step_heads (system_at systems 0)) (clauses_of lemmas) e → (own level : ℕ) (clause : List Lit) → own + 1 ≡ e.used →
    (t new : State) (extra : List Lit) (before after : List ℕ) → extra ≡ step_literals (system_at systems 0).state_bits own clause →
    t ≡ record e.solver { given = e.solver.given ++ (off own ∷ clause) ∷ [] } →
    AsksOnce e.base e.heads lemmas (level - 1) 1 (e.heads + length lemmas) extra t new before after →
    PaysOne systems lemmas e.solver.learned new.learned before after (Steps level clause)
steps_paid systems lemmas e ready own level clause next t new extra before after is_extra is once =
    let b = base (system_at systems 0) in
    let h : ℕ = length (step_heads (system_at systems 0)) in
    let lits = step_literals (system_at systems 0).state_bits own clause in
    let E : List Lit → Type 0 = λ ls. AsksOnce e.base e.heads lemmas (level - 1) 1 (e.heads + length lemmas) ls t new before after in
    let B : ℕ → Type 0 = λ q. AsksOnce q e.heads lemmas (level - 1) 1 (e.heads + length lemmas) lits t new before after in
    let H : ℕ → Type 0 = λ q. AsksOnce b q lemmas (level - 1) 1 (q + length lemmas) lits t new before after in
    pays_one systems lemmas (Steps level clause) own e.used e.solver.given t (omega (arith, ready.room, next, clauses_count lemmas)) (omega (arith, next)) ready.holds
    (ap (λ (s : State). s.given) is) e.solver.learned new before after (ap (λ (s : State). s.learned) is) (subst H ready.count (subst B ready.base (subst E is_extra once)))

-- a query about single states
pub states_paid : (systems : List TransitionSystem) (lemmas : List Lemma) (question : Question) (e : Engine) →
    heads_of systems question ≡ state_heads systems → ((own : ℕ) → own_clauses own question ≡ []) → (lits : List Lit) →
    ((own : ℕ) → own_literals (system_at systems 0).state_bits own question ≡ lits) →
    IsReady (base (system_at systems 0)) (state_heads systems) (clauses_of lemmas) e → (new : State) (extra : List Lit) (before after : List ℕ) → extra ≡ lits →
    AsksOnce e.base e.heads lemmas (frame_of question) (head_of question) (e.heads + length lemmas) extra e.solver new before after →
    PaysOne systems lemmas e.solver.learned new.learned before after question
states_paid systems lemmas question e heads none lits lits_are ready new extra before after is_extra once =
    let b = base (system_at systems 0) in
    let own : ℕ = e.used - 1 in
    let i = frame_of question in
    let k = head_of question in
    let hs : List (List (List Lit)) = heads_of systems question in
    let R : List (List (List Lit)) → Type 0 = λ xs. IsReady b xs (clauses_of lemmas) e in
    let was : IsReady b hs (clauses_of lemmas) e = subst R (sym heads) ready in
    let E : List Lit → Type 0 = λ ls. AsksOnce e.base e.heads lemmas i k (e.heads + length lemmas) ls e.solver new before after in
    let B : ℕ → Type 0 = λ q. AsksOnce q e.heads lemmas i k (e.heads + length lemmas) (own_literals (system_at systems 0).state_bits own question) e.solver new before after in
    let H : ℕ → Type 0 = λ q. AsksOnce b q lemmas i k (q + length lemmas) (own_literals (system_at systems 0).state_bits own question) e.solver new before after in
    pays_one systems lemmas question own e.used e.solver.given e.solver (omega (arith, was.room, clauses_count lemmas)) (omega (arith, was.room)) was.holds
    (sym (append-nil e.solver.given) ∙ ap (λ xs. e.solver.given ++ xs) (sym (none own))) e.solver.learned new before after refl
    (subst H was.count (subst B was.base (subst E (is_extra ∙ sym (lits_are own)) once)))

-- learned clauses that the queries don't touch, on either side
module _ (old new side : List (List Lit)) where
  left_old : All (Contains (old ++ side)) old
  left_old = All-weaker (Contains old) (Contains (old ++ side)) (λ c here. Contains-append_left old side c here) old (All-contains_itself old)

  right_old : All (Contains (side ++ old)) old
  right_old = All-weaker (Contains old) (Contains (side ++ old)) (λ c here. Contains-append_right side old c here) old (All-contains_itself old)

  left_in : (xs : List (List Lit)) (c : List Lit) → Contains (old ++ xs) c → Contains ((old ++ side) ++ xs) c
  left_in xs c here =
      elim (Contains-append_cases old xs c here) [
        | inl before ↦ Contains-append_left (old ++ side) xs c (Contains-append_left old side c before)
        | inr after ↦ Contains-append_right (old ++ side) xs c after
      ]

  right_in : (xs : List (List Lit)) (c : List Lit) → Contains (old ++ xs) c → Contains ((side ++ old) ++ xs) c
  right_in xs c here =
      elim (Contains-append_cases old xs c here) [
        | inl before ↦ Contains-append_left (side ++ old) xs c (Contains-append_right side old c before)
        | inr after ↦ Contains-append_right (side ++ old) xs c after
      ]

  pub log_left : (before after : List ℕ) (log : List Query) → IsPaidLog old new before after log → IsPaidLog (old ++ side) (new ++ side) before after log
  log_left before after log h =
      let T : List Lit → Type 0 = Contains ((old ++ side) ++ learned_in log) in
      record {
        asked = asked_more old (old ++ side) log left_old h.asked;
        known = All-append T new side (All-weaker (Contains (old ++ learned_in log)) T (λ c here. left_in (learned_in log) c here) new h.known)
            (All-weaker (Contains side) T (λ c here. Contains-append_left (old ++ side) (learned_in log) c (Contains-append_right old side c here)) side (All-contains_itself side));
        drawn = h.drawn;
      }

  pub log_right : (before after : List ℕ) (log : List Query) → IsPaidLog old new before after log → IsPaidLog (side ++ old) (side ++ new) before after log
  log_right before after log h =
      let T : List Lit → Type 0 = Contains ((side ++ old) ++ learned_in log) in
      record {
        asked = asked_more old (side ++ old) log right_old h.asked;
        known = All-append T side new
            (All-weaker (Contains side) T (λ c here. Contains-append_left (side ++ old) (learned_in log) c (Contains-append_left side old c here)) side (All-contains_itself side))
            (All-weaker (Contains (old ++ learned_in log)) T (λ c here. right_in (learned_in log) c here) new h.known);
        drawn = h.drawn;
      }

module _ (systems : List TransitionSystem) (lemmas : List Lemma) (old new side : List (List Lit)) (before after : List ℕ) where
  pub pays_left : (log : List AskedQuery) → Pays systems lemmas old new before after log → Pays systems lemmas (old ++ side) (new ++ side) before after log
  pays_left log h = record { each = h.each; paid = log_left old new side before after (queries_of log) h.paid }

  pub pays_right : (log : List AskedQuery) → Pays systems lemmas old new before after log → Pays systems lemmas (side ++ old) (side ++ new) before after log
  pays_right log h = record { each = h.each; paid = log_right old new side before after (queries_of log) h.paid }

  pub one_left : (question : Question) → PaysOne systems lemmas old new before after question → PaysOne systems lemmas (old ++ side) (new ++ side) before after question
  one_left question h = (h.0, pays_left h.0 h.1, h.2, h.3)

  pub one_right : (question : Question) → PaysOne systems lemmas old new before after question → PaysOne systems lemmas (side ++ old) (side ++ new) before after question
  one_right question h = (h.0, pays_right h.0 h.1, h.2, h.3)

pub one_differs : (qs : List AskedQuery) → length qs ≤ 1 → AllDiffer qs
one_differs qs few i j d lt in_j = absurd (omega arith)

-- queries of one kind, and then of another
pub differ_append : (ps qs : List AskedQuery) → AllDiffer ps → AllDiffer qs →
    ((p q : AskedQuery) → Contains ps p → Contains qs q → p.question ≡ q.question → ⊥) → AllDiffer (ps ++ qs)
differ_append ps qs first second apart i j d lt in_j =
    elim (cases_lt j (length ps)) [
      | inl j_low ↦
          let i_low : i < length ps = omega arith in
          let P : AskedQuery → Type 0 = λ p. p.question ≡ (get_or (ps ++ qs) j d).question → ⊥ in
          let Q : AskedQuery → Type 0 = λ q. (get_or ps i d).question ≡ q.question → ⊥ in
          subst P (sym (get_or-append ps qs d i i_low)) (subst Q (sym (get_or-append ps qs d j j_low)) (first i j d lt j_low))
      | inr j_high ↦
          elim (cases_lt i (length ps)) [
            | inl i_low ↦
                let P : AskedQuery → Type 0 = λ p. p.question ≡ (get_or (ps ++ qs) j d).question → ⊥ in
                let Q : AskedQuery → Type 0 = λ q. (get_or ps i d).question ≡ q.question → ⊥ in
                subst P (sym (get_or-append ps qs d i i_low)) (subst Q (sym (get_or-append_right ps qs (length ps) j d refl j_high))
                (apart (get_or ps i d) (get_or qs (j - length ps) d) (Contains-get_or ps i d i_low)
                (Contains-get_or qs (j - length ps) d (omega (arith, length-append ps qs)))))
            | inr i_high ↦
                let P : AskedQuery → Type 0 = λ p. p.question ≡ (get_or (ps ++ qs) j d).question → ⊥ in
                let Q : AskedQuery → Type 0 = λ q. (get_or qs (i - length ps) d).question ≡ q.question → ⊥ in
                subst P (sym (get_or-append_right ps qs (length ps) i d refl i_high)) (subst Q (sym (get_or-append_right ps qs (length ps) j d refl j_high))
                (second (i - length ps) (j - length ps) d (omega arith) (omega (arith, length-append ps qs))))
          ]
    ]

-- each question of one list differs from each of the other
pub apart : (p q : Question) → (p ≡ q → ⊥) → (ps qs : List AskedQuery) → All (λ (a : AskedQuery). a.question ≡ p) ps → All (λ (a : AskedQuery). a.question ≡ q) qs →
    (x y : AskedQuery) → Contains ps x → Contains qs y → x.question ≡ y.question → ⊥
apart p q differ ps qs first second x y here there e =
    differ (sym (All-contains (λ (a : AskedQuery). a.question ≡ p) ps x first here) ∙ e ∙ All-contains (λ (a : AskedQuery). a.question ≡ q) qs y second there)

-- more may have been known
pub log_sub : (old mid new : List (List Lit)) (before after : List ℕ) (log : List Query) → All (Contains old) mid → IsPaidLog mid new before after log →
    IsPaidLog old new before after log
log_sub old mid new before after log sub h = record {
  asked = asked_more mid old log sub h.asked;
  known = All-weaker (Contains (mid ++ learned_in log)) (Contains (old ++ learned_in log)) (λ c here.
      elim (Contains-append_cases mid (learned_in log) c here) [
        | inl low ↦ Contains-append_left old (learned_in log) c (All-contains (Contains old) mid c sub low)
        | inr high ↦ Contains-append_right old (learned_in log) c high
      ]) new h.known;
  drawn = h.drawn;
}

pub one_sub : (systems : List TransitionSystem) (lemmas : List Lemma) (question : Question) (old mid new : List (List Lit)) (before after : List ℕ) → All (Contains old) mid →
    PaysOne systems lemmas mid new before after question → PaysOne systems lemmas old new before after question
one_sub systems lemmas question old mid new before after sub h =
    (h.0, record { each = h.1.each; paid = log_sub old mid new before after (queries_of h.0) sub h.1.paid }, h.2, h.3)
