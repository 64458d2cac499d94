-- What holds of all pairs of a list.
use Rattle.std.proofs.Common.{◌≡◌, ◌-◌, ◌≤◌, List, ◌++◌, length, get_or, sym, subst, inl, inr, refl, arith, length-append}
use Rattle.std.specs.Prelude.{AllPairs, Contains}
use Rattle.std.proofs.lemmas.Bool.{cases_lt}
use Rattle.std.proofs.Math.ListN.{get_or-append}
use Rattle.std.proofs.lemmas.List.{get_or-append_right}
use Rattle.std.proofs.lemmas.List.Elements.{Contains-get_or}

-- what holds of all pairs of the first, and of each of them with each of the second, of which there is one at most
pub pairs_one_more : {X : Type 0} (R : X → X → Type 0) (ps qs : List X) → AllPairs R ps → length qs ≤ 1 → ((p q : X) → Contains ps p → Contains qs q → R p q) →
    AllPairs R (ps ++ qs)
pairs_one_more {X = X} R ps qs f few across i j d lt below =
    let long = length-append ps qs in
    elim (cases_lt j (length ps)) [
      | inl early ↦
          let P : X → Type 0 = λ x. R x (get_or (ps ++ qs) j d) in
          let Q : X → Type 0 = λ x. R (get_or ps i d) x in
          subst P (sym (get_or-append ps qs d i (omega arith))) (subst Q (sym (get_or-append ps qs d j early)) (f i j d lt early))
      | inr late ↦
          let there : get_or (ps ++ qs) j d ≡ get_or qs (j - length ps) d = get_or-append_right ps qs (length ps) j d refl (omega arith) in
          let P : X → Type 0 = λ x. R x (get_or qs (j - length ps) d) in
          let Q : X → Type 0 = λ x. R (get_or (ps ++ qs) i d) x in
          subst Q (sym there) (subst P (sym (get_or-append ps qs d i (omega arith)))
          (across (get_or ps i d) (get_or qs (j - length ps) d) (Contains-get_or ps i d (omega arith)) (Contains-get_or qs (j - length ps) d (omega arith))))
    ]
