-- Two logs of queries, one behind the other.
use Rattle.std.proofs.Common.{◌≡◌, ◌≢◌, ◌⊎◌, ℕ, ◌≤◌, Bool, List, [], ◌++◌, length, refl, sym, subst, ◌∙◌, inl, inr, arith}
use Rattle.std.specs.Prelude.{All}
use Rattle.std.proofs.lemmas.List.{map-append}
use Rattle.std.proofs.lemmas.List.Elements.{All-nil, All-append, All-weaker, All-contains, All-contains_itself}
use Rattle.clause_core.specs.declared.literal.Lit.{Lit}
use Rattle.clause_core.specs.Systems.{TransitionSystem}
use Rattle.sat_core.specs.Paying.{IsPaidLog}
use Rattle.sat_core.proofs.Payments.{log_join, log_none}
use Rattle.frame_core.specs.declared.parts.Lemma.{Lemma}
use Rattle.frame_core.specs.FrameLaw.{system_at}
use Rattle.frame_solver.specs.Firsts.{negation_of}
use Rattle.frame_solver.specs.Paying.{Question, Steps, Firsts, Bads, AskedQuery, IsQueryOf, Pays, PaysOne, AllDiffer, queries_of}
use Rattle.frame_query.specs.Findings.{SolverView, PaysBad}
use Rattle.frame_claims.proofs.Pairs.{pairs_join, no_pairs}
use Rattle.frame_claims.specs.Asking.{PaysFor}
use Rattle.frame_claims.specs.Paying.{MayAskBad, MayAskPush}

pub pays_join : (systems : List TransitionSystem) (lemmas : List Lemma) (a b c : List (List Lit)) (x y z : List ℕ) (ps qs : List AskedQuery) →
    Pays systems lemmas a b x y ps → Pays systems lemmas b c y z qs → Pays systems lemmas a c x z (ps ++ qs)
pays_join systems lemmas a b c x y z ps qs f s =
    record {
      each = All-append (λ (q : AskedQuery). IsQueryOf systems lemmas q.question q.query) ps qs f.each s.each;
      paid = subst (IsPaidLog a c x z) (sym (map-append (λ (q : AskedQuery). q.query) ps qs))
          (log_join a b c x y z (queries_of ps) (queries_of qs) f.paid s.paid);
    }

-- no two of one or none are equal
pub alone : (log : List AskedQuery) → length log ≤ 1 → AllDiffer log
alone log few = no_pairs (λ (p q : AskedQuery). p.question ≢ q.question) log few

-- one question, and others behind it
pub pays_more : (u v w : SolverView) (x y z : List ℕ) (May : Question → Type 0) (question : Question) (ps qs : List AskedQuery) →
    v.systems ≡ u.systems → v.lemmas ≡ u.lemmas →
    Pays u.systems u.lemmas u.known v.known x y ps → length ps ≤ 1 → All (λ (a : AskedQuery). a.question ≡ question) ps → May question →
    Pays v.systems v.lemmas v.known w.known y z qs → AllDiffer qs → All (λ (a : AskedQuery). May a.question × (a.question ≢ question)) qs →
    PaysFor u w x z May
pays_more u v w x y z May question ps qs systems lemmas f few is may s apart others =
    let s' : Pays u.systems u.lemmas v.known w.known y z qs =
    subst (λ (t : List TransitionSystem). Pays t u.lemmas v.known w.known y z qs) systems
    (subst (λ (l : List Lemma). Pays v.systems l v.known w.known y z qs) lemmas s) in (
      ps ++ qs,
      pays_join u.systems u.lemmas u.known v.known w.known x y z ps qs f s',
      pairs_join (λ (p q : AskedQuery). p.question ≢ q.question) ps qs (alone ps few) apart (λ p q here there e.
          let at : p.question ≡ question = All-contains (λ (a : AskedQuery). a.question ≡ question) ps p is here in
          let ne = All-contains (λ (a : AskedQuery). May a.question × (a.question ≢ question)) qs q others there in
          ne.1 (sym e ∙ at)),
      All-append (λ (a : AskedQuery). May a.question) ps qs
          (All-weaker (λ (a : AskedQuery). a.question ≡ question) (λ (a : AskedQuery). May a.question) (λ a e. subst May (sym e) may) ps is)
          (All-weaker (λ (a : AskedQuery). May a.question × (a.question ≢ question)) (λ (a : AskedQuery). May a.question) (λ a h. h.0) qs others),
    )

-- ---- What each kind of claim asked

pub nothing_paid : (v : SolverView) (x : List ℕ) (May : Question → Type 0) → PaysFor v v x x May
nothing_paid v x May = (
  [],
  record {
    each = All-nil (λ (a : AskedQuery). IsQueryOf v.systems v.lemmas a.question a.query);
    paid = log_none v.known v.known x x (All-contains_itself v.known) refl;
  },
  alone [] (omega arith),
  All-nil (λ (a : AskedQuery). May a.question),
)

pub bad_paid : (u v : SolverView) (x y : List ℕ) (j level : ℕ) (IsState : List Bool → Type 0) →
    PaysBad u.systems u.lemmas u.known v.known x y j level IsState → PaysFor u v x y (MayAskBad j level)
bad_paid u v x y j level IsState h =
    let c : List Lit = negation_of h.1 (system_at u.systems 0).state_bits in
    let May : Question → Type 0 = MayAskBad j level in (
      h.0,
      h.2,
      h.4,
      All-weaker (λ (a : AskedQuery). (a.question ≡ Bads j level) ⊎ (a.question ≡ Firsts c)) (λ (a : AskedQuery). May a.question)
          (λ a is. elim is [
            | inl e ↦ subst May (sym e) (refl, refl)
            | inr e ↦ subst May (sym e) tt
          ]) h.0 h.5,
    )

pub push_paid : (u v : SolverView) (x y : List ℕ) (level : ℕ) (clause : List Lit) →
    PaysOne u.systems u.lemmas u.known v.known x y (Steps level clause) → PaysFor u v x y (MayAskPush clause level)
push_paid u v x y level clause h =
    let May : Question → Type 0 = MayAskPush clause level in (
      h.0,
      h.1,
      alone h.0 h.2,
      All-weaker (λ (a : AskedQuery). a.question ≡ Steps level clause) (λ (a : AskedQuery). May a.question)
          (λ a e. subst May (sym e) (refl, refl)) h.0 h.3,
    )
