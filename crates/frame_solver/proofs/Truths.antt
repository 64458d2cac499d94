-- What assignments that agree make true.
use Rattle.std.proofs.Common.{◌≡◌, ℕ, ◌<◌, Bool, List, length, map, get_or, sym, ◌∙◌, ap}
use Rattle.std.specs.Prelude.{All}
use Rattle.std.proofs.lemmas.List.{get_or-map, length-map}
use Rattle.std.proofs.lemmas.List.Elements.{All-contains, All-weaker, Contains-get_or}
use Rattle.clause_core.specs.declared.literal.Lit.{Lit}
use Rattle.clause_core.specs.Literals.{none_lit}
use Rattle.clause_core.specs.Assignments.{ClauseTrue}
use Rattle.clause_core.specs.Systems.{SameOn}
use Rattle.frame_solver.proofs.Guarding.{true_in}

pub true_like : (a b : ℕ → Bool) (c : List Lit) → SameOn a b c → ClauseTrue b c → ClauseTrue a c
true_like a b c same h =
    true_in a c h.1 (h.0, h.2, h.3) (All-contains (λ (l : Lit). a l.var ≡ b l.var) c h.1 same (h.0, h.2, h.3) ∙ h.4)

pub like_back : (a b : ℕ → Bool) (c : List Lit) → SameOn a b c → SameOn b a c
like_back a b c same = All-weaker (λ (l : Lit). a l.var ≡ b l.var) (λ (l : Lit). b l.var ≡ a l.var) (λ l e. sym e) c same

pub all_like : (a b : ℕ → Bool) (cs : List (List Lit)) → All (SameOn a b) cs → All (ClauseTrue b) cs → All (ClauseTrue a) cs
all_like a b cs same all k d lt = true_like a b (get_or cs k d) (same k d lt) (all k d lt)

module _ (r : ℕ → ℕ) where
  abbrev pub renamed : Lit → Lit
  renamed l = record { var = r l.var; positive = l.positive }

  pub renamed_true : (a b : ℕ → Bool) (c : List Lit) → All (λ (l : Lit). a (r l.var) ≡ b l.var) c → ClauseTrue b c → ClauseTrue a (map renamed c)
  renamed_true a b c same h =
      let e : get_or (map renamed c) h.0 (renamed h.1) ≡ renamed h.1 = get_or-map renamed c h.0 h.1 (renamed h.1) h.2 ∙ ap renamed h.3 in
      (h.0, renamed h.1, simp length-map h.2, e, All-contains (λ (l : Lit). a (r l.var) ≡ b l.var) c h.1 same (h.0, h.2, h.3) ∙ h.4)

  pub true_renamed : (a : ℕ → Bool) (c : List Lit) → ClauseTrue a (map renamed c) → ClauseTrue (λ v. a (r v)) c
  true_renamed a c h =
      let lt : h.0 < length c = simp length-map at h.2 in
      let l : Lit = get_or c h.0 none_lit in
      let e : renamed l ≡ h.1 = sym (get_or-map renamed c h.0 none_lit h.1 lt) ∙ h.3 in
      true_in (λ v. a (r v)) c l (Contains-get_or c h.0 none_lit lt) (ap (λ (m : Lit). a m.var) e ∙ h.4 ∙ sym (ap (λ (m : Lit). m.positive) e))
