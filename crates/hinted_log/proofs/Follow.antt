-- What follows by hints follows by unit propagation.
use Rattle.std.proofs.Common.{◌≡◌, ℕ, ◌<◌, Bool, true, List, [], ◌∷◌, map, get_or, inl, inr, subst}
use Rattle.std.specs.List.{All}
use Rattle.std.proofs.lemmas.List.Elements.{All-map, Contains-get_or}
use Rattle.clause_core.specs.declared.literal.Lit.{Lit}
use Rattle.clause_core.specs.Literals.{negate}
use Rattle.clause_core.specs.Propagation.{Follows}
use Rattle.clause_core.specs.Derivations.{EndsEmpty, Derives}
use Rattle.clause_core.proofs.Live.{Chain, ends, next, conflict_from_chain}
use Rattle.hinted_log.specs.Hints.{HintedLog, Chained, FollowsBy, IsHinted}

pub chain_from_hints : (cs : List (List Lit)) (set : List Lit) (hints : List ℕ) → Chained cs set hints → Chain cs set
chain_from_hints cs set [] h = absurd h
chain_from_hints cs set (h ∷ hs) p =
    elim p.1 [
      | inl e ↦ ends set (get_or cs h []) (Contains-get_or cs h [] p.0) e.1
      | inr u ↦
          next set (get_or cs h []) u.0 (Contains-get_or cs h [] p.0) u.1.in_clause u.1.others
          (chain_from_hints cs (u.0 ∷ set) hs u.2)
    ]

pub Follows-from_hints : (cs : List (List Lit)) (c : List Lit) (hints : List ℕ) → FollowsBy cs c hints → Follows cs c
Follows-from_hints cs c hints f t all closed =
    conflict_from_chain cs t closed (map negate c) (chain_from_hints cs (map negate c) hints f.1)
    (All-map (λ l. t l ≡ true) negate c all)

pub Derives-from_hinted : (vars : ℕ) (cs : List (List Lit)) (log : HintedLog) → IsHinted vars cs log → EndsEmpty log.steps →
    Derives vars cs log.steps
Derives-from_hinted vars cs log h e =
    ((λ k lt. ((h k lt).0, Follows-from_hints _ _ (get_or log.hints k []) (h k lt).1)), e)
