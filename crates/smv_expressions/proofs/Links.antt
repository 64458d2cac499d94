-- The loop over the operators of a rank and their right operands.
use Rattle.std.proofs.Common.{◌≡◌, ℕ, ◌<◌, Bool, true, false, List, [], ◌∷◌, ◌++◌, length, Ok, refl, sym, ◌∙◌}
use Rattle.std.specs.Prelude.{◌||◌}
use Rattle.phrase_forms.specs.Forms.{Read, head}
use Rattle.phrase_forms.proofs.Loops.{with_front}
use Rattle.smv_tree.specs.declared.token.Token.{Token}
use Rattle.smv_phrases.specs.declared.reading.Stop.{Stop}
use Rattle.smv_phrases.specs.Reading.{Stops}
use Rattle.smv_phrases.proofs.Repeats.{Repeats, loop_on, loop_ends, loop_stops, loop_shortens}
use Rattle.smv_expressions.specs.declared.ranks.Rank.{Rank}
use Rattle.smv_expressions.specs.Ranks.{operand_within, link_within, links_within}
use Rattle.smv_expressions.specs.declared.ranks.Rank.TheVariants as rank
use Rattle.smv_expressions.specs.Operators.{is_operator}
use Rattle.smv_expressions.specs.Tokens.{begins_operand, goes_on_operand}
use Rattle.smv_expressions.specs.Expressions.{Link, is_zero, phrases}
use Rattle.smv_expressions.proofs.OfExpressions.{kept, link_lawful, link_apart, inverted_fine, negation_fine, product_fine, sum_fine, shifted_fine, union_fine, membership_fine, temporal_fine, connection_fine, conjunction_fine, conditional_fine, limit_negation_fine, limit_product_fine}
use Rattle.phrase_forms.proofs.Lawful.{Lawful}
use Rattle.phrase_forms.proofs.OfNamed.{Fine}

-- an operand of a rank keeps the laws
operand_within_fine : (r : Rank) (room : ℕ) → Fine (begins_operand r) (goes_on_operand r) (operand_within r room)
unfolding operand_within
operand_within_fine rank.Concatenation room = inverted_fine (is_zero room) (phrases 0 room) (kept 0 room)
operand_within_fine rank.Product room = negation_fine (is_zero room) (phrases 0 room) (kept 0 room)
operand_within_fine rank.Sum room = product_fine (is_zero room) (phrases 0 room) (kept 0 room)
operand_within_fine rank.Shift room = sum_fine (is_zero room) (phrases 0 room) (kept 0 room)
operand_within_fine rank.Union room = shifted_fine (is_zero room) (phrases 0 room) (kept 0 room)
operand_within_fine rank.Membership room = union_fine (is_zero room) (phrases 0 room) (kept 0 room)
operand_within_fine rank.Relation room = membership_fine (is_zero room) (phrases 0 room) (kept 0 room)
operand_within_fine rank.Connection room = temporal_fine (is_zero room) (phrases 0 room) (kept 0 room)
operand_within_fine rank.Conjunction room = connection_fine (is_zero room) (phrases 0 room) (kept 0 room)
operand_within_fine rank.Disjunction room = conjunction_fine (is_zero room) (phrases 0 room) (kept 0 room)
operand_within_fine rank.Equivalence room = conditional_fine (is_zero room) (phrases 0 room) (kept 0 room)
operand_within_fine rank.LimitProduct room = limit_negation_fine (is_zero room) (phrases 0 room) (kept 0 room)
operand_within_fine rank.LimitSum room = limit_product_fine (is_zero room) (phrases 0 room) (kept 0 room)

link_law : (r : Rank) (room : ℕ) → Lawful (link_within r room)
unfolding link_within
link_law r room = link_lawful r (operand_within r room) (operand_within_fine r room)

link_ends : (r : Rank) (room : ℕ) (t : Token) → (link_within r room).first t ≡ true → (link_within r room).more t ≡ false
unfolding link_within
link_ends r room = link_apart r (operand_within r room) (operand_within_fine r room)

module _ (r : Rank) (room : ℕ) where
  alone : (b : Bool) → (b || false) ≡ b
  alone true = refl
  alone false = refl

  begins_same : (ts : List Token) → head (link_within r room).first ts ≡ head (is_operator r) ts
  unfolding link_within
  begins_same [] = refl
  begins_same (t ∷ ts) = alone (is_operator r t)

  full : (link_within r room).nullable ≡ false
  unfolding link_within
  full = refl

  links : Repeats (link_within r room)
  links = record { lawful = link_law r room; full = full; apart = link_ends r room }

  pub link_shorter : (ts : List Token) (link : Link) (rest : List Token) → (link_within r room).parse ts ≡ Ok (link, rest) → length rest < length ts
  link_shorter ts link rest e = loop_shortens (link_within r room) links ts link rest e

  pub links_go_on : (front : List Link) (ts : List Token) (link : Link) (rest : List Token) (total : Read Token (List Link)) → with_front front ((links_within r room).parse ts) ≡ total
      → head (is_operator r) ts ≡ true → (link_within r room).parse ts ≡ Ok (link, rest) → with_front (front ++ link ∷ []) ((links_within r room).parse rest) ≡ total
  unfolding links_within link_within
  links_go_on front ts link rest total so_far h e = loop_on (link_within r room) links front ts link rest total (sym (begins_same ts ∙ h)) e so_far

  pub links_end : (front : List Link) (ts : List Token) (total : Read Token (List Link)) → with_front front ((links_within r room).parse ts) ≡ total
      → head (is_operator r) ts ≡ false → total ≡ Ok (front, ts)
  unfolding links_within link_within
  links_end front ts total so_far h = loop_ends (link_within r room) links front ts total (sym (begins_same ts ∙ h)) so_far

  pub links_stop : (stop : Stop) (front : List Link) (ts : List Token) (total : Read Token (List Link)) → with_front front ((links_within r room).parse ts) ≡ total
      → head (is_operator r) ts ≡ true → Stops stop ((link_within r room).parse ts) → Stops stop total
  unfolding links_within link_within
  links_stop stop front ts total so_far h s = loop_stops (link_within r room) links stop front ts total (sym (begins_same ts ∙ h)) s so_far
