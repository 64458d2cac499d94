-- As many literals as values, and the parts of both.
use Rattle.std.proofs.Common.{◌≡◌, ℕ, suc, Bool, List, [], ◌∷◌, ◌++◌, length, refl, ap, arith}
use Rattle.clause_core.specs.declared.literal.Lit.{Lit}
use Rattle.bit_clauses.specs.Gated.{DefinesAll}

module _ (m : ℕ) (cs : List (List Lit)) where
  pub defines_long : (ls : List Lit) (fs : List ((ℕ → Bool) → Bool)) → DefinesAll m cs ls fs → length ls ≡ length fs
  unfolding DefinesAll
  defines_long [] [] all = refl
  defines_long [] (f ∷ fs) all = absurd all
  defines_long (l ∷ ls) [] all = absurd all
  defines_long (l ∷ ls) (f ∷ fs) all = ap suc (defines_long ls fs all.1)

  pub defines_split : (ls ms : List Lit) (fs gs : List ((ℕ → Bool) → Bool)) → length ls ≡ length fs → DefinesAll m cs (ls ++ ms) (fs ++ gs)
      → DefinesAll m cs ls fs × DefinesAll m cs ms gs
  unfolding DefinesAll
  defines_split [] ms [] gs long all = (tt, all)
  defines_split [] ms (f ∷ fs) gs long all = absurd (let no : ⊥ = omega (arith, long) in no)
  defines_split (l ∷ ls) ms [] gs long all = absurd (let no : ⊥ = omega (arith, long) in no)
  defines_split (l ∷ ls) ms (f ∷ fs) gs long all =
      let rest = defines_split ls ms fs gs (omega (arith, long)) all.1 in
      ((all.0, rest.0), rest.1)
