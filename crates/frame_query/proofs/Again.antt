-- Proofs that are kept, as the lemmas change.
use Rattle.std.proofs.Common.{◌≡◌, inl, inr, ℕ, ◌+◌, ◌-◌, ◌<◌, ◌≤◌, List, [], ◌∷◌, length, map, set, get_or, Option, Some, None, refl, sym, ◌∙◌, ap, subst, arith, get_or-set_same, get_or-set_other}
use Rattle.std.specs.Prelude.{All}
use Rattle.std.proofs.lemmas.Bool.{cases_eq}
use Rattle.std.proofs.lemmas.List.Elements.{All-map, All-weaker, All-head, All-tail}
use Rattle.clause_core.specs.declared.literal.Lit.{Lit}
use Rattle.clause_core.specs.Systems.{TransitionSystem}
use Rattle.frame_core.specs.declared.parts.Lemma.{Lemma}
use Rattle.frame_core.specs.declared.parts.Parent.{Parent}
use Rattle.frame_core.specs.Facts.{IsProved, ProvedClause}
use Rattle.frame_core.specs.FrameLaw.{lemma_at, Stands, AllStand}
use Rattle.frame_query.specs.declared.kept_proofs.KeptProof.{KeptProof}
use Rattle.frame_query.specs.KeptProofs.{parent_at, proof_at, IsKeptProof, AreKept, IsOfPush}
use Rattle.frame_query.proofs.Found.{at_level}

-- none is kept
pub kept_none : (sys : TransitionSystem) (lemmas : List Lemma) → AreKept sys lemmas []
kept_none sys lemmas n proof is = absurd cc

-- parents are named by the numbers alone where clauses stay
parents_same : (old new : List Lemma) (numbers : List ℕ) → ((k : ℕ) → k < length old → (lemma_at old k).clause ≡ (lemma_at new k).clause) →
    All (λ k. k < length old) numbers → map (parent_at old) numbers ≡ map (parent_at new) numbers
parents_same old new [] same below = refl
parents_same old new (k ∷ ks) same below =
    let clause : (lemma_at old k).clause ≡ (lemma_at new k).clause = same k (All-head (λ i. i < length old) k ks below) in
    ap (λ (c : List Lit). let p : Parent = record { number = k; clause = c } in p ∷ map (parent_at old) ks) clause
    ∙ ap (λ ps. parent_at new k ∷ ps) (parents_same old new ks same (All-tail (λ i. i < length old) k ks below))

-- what is kept is right for later lemmas
pub kept_later : (sys : TransitionSystem) (old new : List Lemma) (proofs : List (Option KeptProof)) → length old ≤ length new →
    ((k : ℕ) → k < length old → (lemma_at old k).clause ≡ (lemma_at new k).clause) → AreKept sys old proofs → AreKept sys new proofs
kept_later sys old new proofs more same kept n proof is =
    let h = kept n proof is in
    let C : List Lit → Type 0 = λ c. IsProved record { system = sys; clause = c; part = proof.part; level = 2; parents = map (parent_at old) proof.numbers.items } in
    let P : List Parent → Type 0 = λ ps. IsProved record { system = sys; clause = (lemma_at new n).clause; part = proof.part; level = 2; parents = ps } in (
      omega (arith, h.0, more),
      record {
        below = All-weaker (λ k. k < length old) (λ k. k < length new) (λ k lt. omega (arith, lt, more)) proof.numbers.items h.1.below;
        proved = subst P (parents_same old new proof.numbers.items same h.1.below) (subst C (same n h.0) h.1.proved);
      },
    )

-- the numbers of parents that stand name them
parents_named : (lemmas : List Lemma) (least : ℕ) (parents : List Parent) → All (Stands lemmas least) parents →
    map (parent_at lemmas) (map (λ (p : Parent). p.number) parents) ≡ parents
parents_named lemmas least [] stand = refl
parents_named lemmas least (p ∷ ps) stand =
    let here : Stands lemmas least p = All-head (Stands lemmas least) p ps stand in
    ap (λ (c : List Lit). let q : Parent = record { number = p.number; clause = c } in q ∷ map (parent_at lemmas) (map (λ (r : Parent). r.number) ps)) here.1
    ∙ ap (λ qs. p ∷ qs) (parents_named lemmas least ps (All-tail (Stands lemmas least) p ps stand))

-- a proof above level 1 whose parents stand can be kept
pub kept_proof : (lemmas : List Lemma) (clause : List Lit) (p : ProvedClause) (proof : KeptProof) → IsProved p → 1 < p.level → p.clause ≡ clause →
    AllStand lemmas (p.level - 1) p.parents → proof.numbers.items ≡ map (λ (q : Parent). q.number) p.parents → proof.part ≡ p.part →
    IsKeptProof p.system lemmas clause proof
kept_proof lemmas clause p proof h high same stand numbers part =
    let all : All (Stands lemmas (p.level - 1)) p.parents = stand (omega (arith, high)) in
    let N : List ℕ → Type 0 = All (λ k. k < length lemmas) in
    let names : map (parent_at lemmas) proof.numbers.items ≡ p.parents = ap (map (parent_at lemmas)) numbers ∙ parents_named lemmas (p.level - 1) p.parents all in
    let C : List Lit → Type 0 = λ c. IsProved record { system = p.system; clause = c; part = proof.part; level = 2; parents = map (parent_at lemmas) proof.numbers.items } in
    let Q : List Lit → Type 0 = λ c. IsProved record { system = p.system; clause = p.clause; part = c; level = 2; parents = map (parent_at lemmas) proof.numbers.items } in
    let P : List Parent → Type 0 = λ ps. IsProved record { system = p.system; clause = p.clause; part = p.part; level = 2; parents = ps } in
    record {
      below = subst N (sym numbers) (All-map (λ k. k < length lemmas) (λ (q : Parent). q.number) p.parents
          (All-weaker (Stands lemmas (p.level - 1)) (λ (q : Parent). q.number < length lemmas) (λ q s. s.0) p.parents all));
      proved = subst C same (subst Q (sym part) (subst P (sym names) (at_level p h high 2 (omega arith))));
    }

-- one more proof is kept
pub kept_more : (sys : TransitionSystem) (lemmas : List Lemma) (proofs : List (Option KeptProof)) (n : ℕ) (proof : KeptProof) → AreKept sys lemmas proofs →
    n < length proofs → n < length lemmas → IsKeptProof sys lemmas (lemma_at lemmas n).clause proof → AreKept sys lemmas (set proofs n (Some proof))
kept_more sys lemmas proofs n proof kept room lt here m other is =
    elim (cases_eq m n) [
      | inl e ↦
          let G : ℕ → Type 0 = λ k. get_or (set proofs n (Some proof)) k None ≡ Some other in
          let same : Some proof ≡ Some other = sym (get_or-set_same proofs n (Some proof) None room) ∙ subst G e is in
          let value : proof ≡ other = cc in
          let V : KeptProof → Type 0 = IsKeptProof sys lemmas (lemma_at lemmas n).clause in
          let F : ℕ → Type 0 = λ k. (k < length lemmas) × IsKeptProof sys lemmas (lemma_at lemmas k).clause other in
          subst F (sym e) (lt, subst V value here)
      | inr ne ↦ kept m other (sym (get_or-set_other proofs n m (Some proof) None ne) ∙ is)
    ]

-- the same proofs are kept in a list with room for more
pub kept_same : (sys : TransitionSystem) (lemmas : List Lemma) (old new : List (Option KeptProof)) → ((m : ℕ) → get_or new m None ≡ get_or old m None) →
    AreKept sys lemmas old → AreKept sys lemmas new
kept_same sys lemmas old new same kept n proof is = kept n proof (sym (same n) ∙ is)

-- a kept proof is one at each level above 1
pub issued_proof : (sys : TransitionSystem) (lemmas : List Lemma) (clause : List Lit) (proof : KeptProof) (level : ℕ) → IsKeptProof sys lemmas clause proof → 1 < level →
    IsProved (proof_at sys lemmas clause proof level)
issued_proof sys lemmas clause proof level h high = at_level (proof_at sys lemmas clause proof 2) h.proved (omega arith) level high

-- where its lemmas have the level of lemma n, it is a proof of that one level higher
pub of_push : (sys : TransitionSystem) (lemmas : List Lemma) (n : ℕ) (proof : KeptProof) (p : ProvedClause) →
    All (λ k. k < length lemmas) proof.numbers.items → All (λ k. (lemma_at lemmas n).level ≤ (lemma_at lemmas k).level) proof.numbers.items →
    p ≡ proof_at sys lemmas (lemma_at lemmas n).clause proof ((lemma_at lemmas n).level + 1) → IsOfPush sys lemmas n p
of_push sys lemmas n proof p below high is =
    let least = (lemma_at lemmas n).level in
    let P : ProvedClause → Type 0 = IsOfPush sys lemmas n in
    subst P (sym is) record {
      system = refl;
      clause = refl;
      level = refl;
      stand = λ _. All-map (Stands lemmas least) (parent_at lemmas) proof.numbers.items
          (λ i d lt. (below i d lt, refl, high i d lt));
    }
