-- Marks of the variables that a list of literals has.
use Rattle.std.proofs.Common.{◌≡◌, inl, inr, ℕ, ◌+◌, ◌<◌, Bool, true, false, List, [], ◌∷◌, ◌++◌, length, sym, ◌∙◌, ap, subst, arith, length-set, get_or-set_same, get_or-set_other}
use Rattle.std.specs.Prelude.{Contains, slice_index_or, slice_set}
use Rattle.std.proofs.lemmas.List.Elements.{Contains-push_cases}
use Rattle.std.proofs.lemmas.Bool.{cases_eq}
use Rattle.clause_core.specs.declared.literal.Lit.{Lit}
use Rattle.frame_solver.specs.Stepping.{AreMarked}

module _ (from : ℕ) (before : List Lit) (marks : List Bool) (l : Lit) (h : AreMarked from before marks) where
  -- one variable more is marked
  pub mark_more : (k : ℕ) → k < length marks → l.var ≡ from + k → AreMarked from (before ++ l ∷ []) (slice_set marks k true)
  mark_more k in_range is m here v low of_v =
      let low_v : v < length marks = subst (λ n. v < n) (length-set marks k true) low in
      elim (cases_eq v k) [
        | inl e ↦ subst (λ n. slice_index_or (slice_set marks k true) n false ≡ true) (sym e) (get_or-set_same marks k true false in_range)
        | inr other ↦ elim (Contains-push_cases before l m here) [
          | inl there ↦ get_or-set_other marks k v true false other ∙ h m there v low_v of_v
          | inr same ↦ absurd (other (let e : l.var ≡ m.var = ap (λ (q : Lit). q.var) same in omega (arith, e, of_v, is)))
        ]
      ]

  -- no variable of the range is added
  pub mark_skip : ((v : ℕ) → v < length marks → l.var ≡ from + v → ⊥) → AreMarked from (before ++ l ∷ []) marks
  mark_skip none m here v low of_v =
      elim (Contains-push_cases before l m here) [
        | inl there ↦ h m there v low of_v
        | inr same ↦ absurd (none v low (ap (λ (q : Lit). q.var) same ∙ of_v))
      ]

-- a literal whose variable is in the range, and not marked, is not in the list
pub unmarked_in : (from : ℕ) (literals : List Lit) (marks : List Bool) → AreMarked from literals marks → (l : Lit) (v : ℕ) → v < length marks → l.var ≡ from + v →
    slice_index_or marks v false ≡ false → Contains literals l → ⊥
unmarked_in from literals marks h l v low of_v off here = let no : true ≡ false = sym (h l here v low of_v) ∙ off in cc
