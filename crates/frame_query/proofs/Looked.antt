-- Marks of the literals of a list that have one sign.
use Rattle.std.proofs.Common.{◌≡◌, inl, inr, ℕ, ◌<◌, Bool, true, false, List, [], ◌∷◌, ◌++◌, length, refl, sym, ap, subst, arith, length-set, get_or-set_same, get_or-set_other}
use Rattle.std.specs.Bool.{beq}
use Rattle.std.specs.Prelude.{Contains, MatchBool, slice_index_or, slice_set}
use Rattle.std.proofs.lemmas.List.Elements.{Contains-push, Contains-push_cases, Contains-append_left}
use Rattle.std.proofs.lemmas.Bool.{cases_eq}
use Rattle.clause_core.specs.declared.literal.Lit.{Lit}
use Rattle.frame_query.specs.Lookups.{AreSigned}

-- what a comparison of two signs tells
pub same_signs : (x y : Bool) → beq x y ≡ true → x ≡ y
same_signs true true h = refl
same_signs true false h = sym h
same_signs false true h = h
same_signs false false h = refl

pub other_signs : (x y : Bool) → beq x y ≡ false → x ≡ y → ⊥
other_signs true true h e = let no : true ≡ false = h in cc
other_signs true false h e = let no : true ≡ false = e in cc
other_signs false true h e = let no : false ≡ true = e in cc
other_signs false false h e = let no : true ≡ false = h in cc

-- no literal is in an empty list
pub signed_none : (sign : Bool) (marks : List Bool) → ((v : ℕ) → slice_index_or marks v false ≡ false) → AreSigned sign [] marks
signed_none sign marks off v lt =
    let m : Lit = record { var = v; positive = sign } in
    let none : Contains [] m → ⊥ = λ h. let l = h.1 in omega arith in
    subst (λ (b : Bool). MatchBool b (Contains [] m) (Contains [] m → ⊥)) (sym (off v)) none

-- a literal that is not the one added is in the list as before
match_more : (before : List Lit) (l m : Lit) → (l ≡ m → ⊥) → (b : Bool) → MatchBool b (Contains before m) (Contains before m → ⊥) →
    MatchBool b (Contains (before ++ l ∷ []) m) (Contains (before ++ l ∷ []) m → ⊥)
match_more before l m other true here = Contains-append_left before (l ∷ []) m here
match_more before l m other false none = λ h. elim (Contains-push_cases before l m h) [ inl there ↦ none there | inr same ↦ other same ]

module _ (sign : Bool) (before : List Lit) (marks : List Bool) (l : Lit) (h : AreSigned sign before marks) where
  -- a literal of this sign is marked
  pub sign_more : l.positive ≡ sign → l.var < length marks → AreSigned sign (before ++ l ∷ []) (slice_set marks l.var true)
  sign_more is low v lt =
      let m : Lit = record { var = v; positive = sign } in
      let now : List Lit = before ++ l ∷ [] in
      let old : v < length marks = subst (λ (n : ℕ). v < n) (length-set marks l.var true) lt in
      elim (cases_eq v l.var) [
        | inl e ↦
            let on : slice_index_or (slice_set marks l.var true) v false ≡ true =
            subst (λ (n : ℕ). slice_index_or (slice_set marks l.var true) n false ≡ true) (sym e) (get_or-set_same marks l.var true false low) in
            let signed : l ≡ record { var = l.var; positive = sign } = subst (λ (t : Bool). l ≡ record { var = l.var; positive = t }) is refl in
            let same : l ≡ m = subst (λ (n : ℕ). l ≡ record { var = n; positive = sign }) (sym e) signed in
            let here : Contains now m = subst (λ (k : Lit). Contains now k) same (Contains-push before l) in
            subst (λ (b : Bool). MatchBool b (Contains now m) (Contains now m → ⊥)) (sym on) here
        | inr other ↦
            let kept : slice_index_or (slice_set marks l.var true) v false ≡ slice_index_or marks v false = get_or-set_other marks l.var v true false other in
            subst (λ (b : Bool). MatchBool b (Contains now m) (Contains now m → ⊥)) (sym kept)
            (match_more before l m (λ same. other (sym (ap (λ (k : Lit). k.var) same))) (slice_index_or marks v false) (h v old))
      ]

  -- a literal of the other sign, or past the marks, changes none
  pub sign_skip : (l.positive ≡ sign → l.var < length marks → ⊥) → AreSigned sign (before ++ l ∷ []) marks
  sign_skip none v lt =
      let m : Lit = record { var = v; positive = sign } in
      match_more before l m
      (λ same. none (ap (λ (k : Lit). k.positive) same) (subst (λ (n : ℕ). n < length marks) (sym (ap (λ (k : Lit). k.var) same)) lt))
      (slice_index_or marks v false) (h v lt)
