-- The loop over a clause's literals.
use Rattle.std.proofs.Common.{◌≡◌, ℕ, ◌<◌, ◌+◌, Bool, true, false, List, length, take, get_or, refl, sym, Option, Some, None}
use Rattle.std.specs.List.{All, Contains}
use Rattle.std.proofs.lemmas.List.Elements.{All-more, Contains-get_or}
use Rattle.clause_core.specs.declared.literal.Lit.{Lit}
use Rattle.clause_core.specs.Literals.{negate}
use Rattle.clause_core.specs.Propagation.{AllFalse}

-- what the loop over a clause's literals knows: the first literal that is not false, and the rest
abbrev pub SeenSoFar : (Lit → Bool) → List Lit → ℕ → Option Lit → Type 0
SeenSoFar t c i None = AllFalse t (take i c)
SeenSoFar t c i (Some f) =
    (t f ≡ false)
    × (t (negate f) ≡ false)
    × Contains c f
    × All (λ m. (m ≡ f → ⊥) → t (negate m) ≡ true) (take i c)

pub seen_false : (t : Lit → Bool) (c : List Lit) (i : ℕ) (d : Lit) (found : Option Lit) → i < length c →
    t (negate (get_or c i d)) ≡ true → SeenSoFar t c i found → SeenSoFar t c (i + 1) found
seen_false t c i d None lt e s = All-more (λ m. t (negate m) ≡ true) c i d lt s e
seen_false t c i d (Some f) lt e s =
    (s.0, s.1, s.2, All-more (λ m. (m ≡ f → ⊥) → t (negate m) ≡ true) c i d lt s.3 (λ _. e))

pub seen_first : (t : Lit → Bool) (c : List Lit) (i : ℕ) (d : Lit) → i < length c →
    t (get_or c i d) ≡ false → t (negate (get_or c i d)) ≡ false → SeenSoFar t c i None → SeenSoFar t c (i + 1) (Some (get_or c i d))
seen_first t c i d lt off unset s =
    let l = get_or c i d in (
      off,
      unset,
      Contains-get_or c i d lt,
      All-more (λ m. (m ≡ l → ⊥) → t (negate m) ≡ true) c i d lt
          (λ k x h ne. s k x h) (λ ne. absurd (ne refl)),
    )

pub seen_same : (t : Lit → Bool) (c : List Lit) (i : ℕ) (d f : Lit) → i < length c → f ≡ get_or c i d →
    SeenSoFar t c i (Some f) → SeenSoFar t c (i + 1) (Some f)
seen_same t c i d f lt e s =
    (s.0, s.1, s.2, All-more (λ m. (m ≡ f → ⊥) → t (negate m) ≡ true) c i d lt s.3 (λ ne. absurd (ne (sym e))))
