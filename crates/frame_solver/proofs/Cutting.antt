-- The part of a clause and the parents that a core names.
use Rattle.std.proofs.Common.{◌≡◌, inl, inr, ℕ, ◌+◌, ◌<◌, List, [], ◌∷◌, ◌++◌, length, sym, ◌∙◌, ap, subst, arith}
use Rattle.std.specs.Prelude.{All, Contains}
use Rattle.std.proofs.lemmas.List.Elements.{All-weaker, All-push, Contains-append_left, Contains-push, Contains-push_cases}
use Rattle.clause_core.specs.declared.literal.Lit.{Lit}
use Rattle.frame_core.specs.declared.parts.Lemma.{Lemma}
use Rattle.frame_core.specs.declared.parts.Parent.{Parent}
use Rattle.frame_core.specs.Facts.{IsPart}
use Rattle.frame_core.specs.FrameLaw.{lemma_at}
use Rattle.frame_solver.specs.Guards.{on}
use Rattle.frame_solver.specs.Stepping.{IsCut, AreParents}

module _ (f : Lit → Lit) (core xs part : List Lit) (l : Lit) (h : IsCut f core xs part) where
  part_more : IsPart part (xs ++ l ∷ [])
  part_more = All-weaker (Contains xs) (Contains (xs ++ l ∷ [])) (λ m. Contains-append_left xs (l ∷ []) m) part h.only

  pub cut_push : IsCut f core (xs ++ l ∷ []) (part ++ l ∷ [])
  cut_push = record {
    enough = λ m here in_core.
        elim (Contains-push_cases xs l m here) [
          | inl before ↦ Contains-append_left part (l ∷ []) m (h.enough m before in_core)
          | inr same ↦ (let P : Lit → Type 0 = Contains (part ++ l ∷ []) in subst P same (Contains-push part l))
        ];
    only = All-push (Contains (xs ++ l ∷ [])) part l part_more (Contains-push xs l);
  }

  pub cut_skip : (Contains core (f l) → ⊥) → IsCut f core (xs ++ l ∷ []) part
  cut_skip none = record {
    enough = λ m here in_core.
        elim (Contains-push_cases xs l m here) [
          | inl before ↦ h.enough m before in_core
          | inr same ↦ (let P : Lit → Type 0 = λ q. Contains core (f q) in absurd (none (subst P (sym same) in_core)))
        ];
    only = part_more;
  }

module _ (first : ℕ) (lemmas : List Lemma) (core : List Lit) (l : Lit) (parents : List Parent) (h : AreParents first lemmas core parents) where
  abbrev IsOf : List Lit → Parent → Type 0
  IsOf ls p = (p.number < length lemmas) × ((lemma_at lemmas p.number).clause ≡ p.clause) × Contains ls (on (first + p.number))

  parents_only : All (IsOf (core ++ l ∷ [])) parents
  parents_only = All-weaker (IsOf core) (IsOf (core ++ l ∷ [])) (λ p q. (q.0, q.1, Contains-append_left core (l ∷ []) (on (first + p.number)) q.2)) parents h.only

  pub parents_push : (p : Parent) (m : ℕ) → p.number ≡ m → m < length lemmas → p.clause ≡ (lemma_at lemmas m).clause → l ≡ on (first + m) →
      AreParents first lemmas (core ++ l ∷ []) (parents ++ p ∷ [])
  parents_push p m number lt clause is = record {
    enough = λ n low in_core.
        elim (Contains-push_cases core l (on (first + n)) in_core) [
          | inl before ↦ (let e = h.enough n low before in (e.0, Contains-append_left parents (p ∷ []) e.0 e.1, e.2))
          | inr same ↦
              let e : first + m ≡ first + n = ap (λ (q : Lit). q.var) (sym is ∙ same) in
              let m_n : m ≡ n = omega (arith, e) in
              (p, Contains-push parents p, clause ∙ ap (λ k. (lemma_at lemmas k).clause) m_n)
        ];
    only = All-push (IsOf (core ++ l ∷ [])) parents p parents_only (
      omega (arith, number, lt),
      ap (λ k. (lemma_at lemmas k).clause) number ∙ sym clause,
      (let P : ℕ → Type 0 = λ k. Contains (core ++ l ∷ []) (on (first + k)) in
          let Q : Lit → Type 0 = Contains (core ++ l ∷ []) in
          subst P (sym number) (subst Q is (Contains-push core l))),
    );
  }

  pub parents_skip : ((n : ℕ) → n < length lemmas → l ≡ on (first + n) → ⊥) → AreParents first lemmas (core ++ l ∷ []) parents
  parents_skip none = record {
    enough = λ n low in_core.
        elim (Contains-push_cases core l (on (first + n)) in_core) [
          | inl before ↦ h.enough n low before
          | inr same ↦ absurd (none n low same)
        ];
    only = parents_only;
  }
