-- Queries that are refuted before any decision.
use Rattle.std.proofs.Common.{◌≡◌, ℕ, true, false, List, Option, None, Some, [], ◌∷◌, ◌++◌, length, refl, sym, subst, ap, ◌∙◌, inl, inr, arith}
use Rattle.std.specs.List.{All, Contains}
use Rattle.std.specs.Option.{MatchOption}
use Rattle.std.proofs.lemmas.List.Elements.{All-nil, All-cons, All-contains}
use Rattle.clause_core.specs.declared.literal.Lit.{Lit}
use Rattle.clause_core.specs.Literals.{negate}
use Rattle.clause_core.proofs.Live.{not_reached, not_conflicting}
use Rattle.sat_prop.specs.declared.trail.Trail.{Trail}
use Rattle.sat_prop.specs.Trails.{among, AtRest, Based}
use Rattle.sat_prop.proofs.Ways.{among_where, one_side}
use Rattle.sat_prop.proofs.Sweeps.{reasoned_from}
use Rattle.sat_core.specs.Queries.{IsRefutedAtOnce, Draws}
use Rattle.sat_core.specs.Searching.{Refutes}
use Rattle.sat_core.specs.Ends.{NoneOpposed, RefutesOnTrail}
use Rattle.sat_core.proofs.Levels.{held_below}
use Rattle.sat_core.proofs.Results.{reaches_more, conflicting_more}

pub option_weaker : {X : Type 0} (o : Option X) (P R : Type 0) (Q S : X → Type 0) → (P → R) → ((x : X) → Q x → S x) → MatchOption o P Q → MatchOption o R S
option_weaker None P R Q S f g h = f h
option_weaker (Some x) P R Q S f g h = g x h

-- two assumptions that are opposite, as a core
pub pair_core : (literals assumptions core : List Lit) (a b : Lit) → core ≡ a ∷ b ∷ [] → b ≡ negate a → Contains assumptions a → Contains assumptions (negate a) →
    All (Contains assumptions) core × RefutesOnTrail literals core
pair_core literals assumptions core a b e f has off =
    let P : List Lit → Type 0 = λ xs. All (Contains assumptions) xs × RefutesOnTrail literals xs in
    let n = negate a in
    let same : core ≡ a ∷ n ∷ [] = e ∙ ap (λ x. a ∷ x ∷ []) f in
    let all : All (Contains assumptions) (a ∷ n ∷ []) =
    All-cons (Contains assumptions) a (n ∷ []) has (All-cons (Contains assumptions) n [] off (All-nil (Contains assumptions))) in
    let first : Contains (a ∷ n ∷ []) a = (0, omega arith, refl) in
    let second : Contains (a ∷ n ∷ []) n = (1, omega arith, refl) in
    subst P (sym same) (all, (a, first, inr second))

-- a trail at rest with no decision
module _ (t : Trail) (cs : List (List Lit)) (based : Based t.literals.items t.reasons.items cs) (rest : AtRest cs t.literals.items) (none : length t.level_starts.items ≡ 0) where
  abbrev tr : List Lit
  tr = t.literals.items

  pub core_refutes : (core : List Lit) → RefutesOnTrail tr core → Refutes cs core
  core_refutes core h s closed holds =
      let on : s h.0 ≡ true = All-contains (λ d. s d ≡ true) core h.0 holds h.1 in
      elim h.2 [
        | inl off ↦
            let q = among_where tr (negate h.0) off in
            let held : s _ ≡ true = held_below tr t.reasons.items t.level_starts.items cs s (reasoned_from tr t.reasons.items cs based) t.roots closed (length tr) (omega arith)
            (λ i li ls. absurd (omega (arith, li, none))) q.0 q.1 in
            inr (h.0, on, ap s (sym q.2) ∙ held)
        | inr both ↦ inr (h.0, on, All-contains (λ d. s d ≡ true) core (negate h.0) holds both)
      ]

  apart : (l : Lit) → among tr l ≡ true → among tr (negate l) ≡ true → ⊥
  apart l a b =
      let x = among_where tr l a in
      let y = among_where tr (negate l) b in
      one_side tr t.positions.items l x.0 y.0 t.placed x.1 y.1 x.2 y.2

  pub not_at_once : (assumptions : List Lit) → All (λ a. among tr (negate a) ≡ false) assumptions → NoneOpposed assumptions → IsRefutedAtOnce cs assumptions → ⊥
  not_at_once assumptions off none_opposed (inl conflict) =
      not_conflicting cs [] (among tr) (All-nil (λ d. among tr d ≡ true)) rest apart conflict
  not_at_once assumptions off none_opposed (inr h) =
      elim h.2 [
        | inl reached ↦
            not_reached cs [] (among tr) (negate h.0) (All-nil (λ d. among tr d ≡ true)) rest
            (All-contains (λ a. among tr (negate a) ≡ false) assumptions h.0 off h.1) reached
        | inr both ↦ none_opposed h.0 h.1 both
      ]

-- more clauses
pub at_once_more : (cs bs : List (List Lit)) (assumptions : List Lit) → All (Contains bs) cs → IsRefutedAtOnce cs assumptions → IsRefutedAtOnce bs assumptions
at_once_more cs bs assumptions sub (inl conflict) = inl (conflicting_more cs bs [] sub conflict)
at_once_more cs bs assumptions sub (inr h) = inr (
  h.0,
  h.1,
  elim h.2 [
    | inl reached ↦ inl (reaches_more cs bs [] (negate h.0) sub reached)
    | inr both ↦ inr both
  ],
)

-- the query's own ticket
pub draws_one : (before mid after : List ℕ) (n : ℕ) → mid ≡ before ++ n ∷ [] → after ≡ mid → Draws before after 1
draws_one before mid after n first same = (n ∷ [], same ∙ first, omega arith)
