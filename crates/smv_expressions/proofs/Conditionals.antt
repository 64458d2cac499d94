-- How a conditional is read by its condition and its choices.
use Rattle.std.proofs.Common.{◌≡◌, ℕ, Bool, true, false, cond, List, Option, Some, None, Ok, Err, refl}
use Rattle.phrase_forms.specs.Forms.{Read, head, maybe, ◌>>=◌}
use Rattle.smv_tree.specs.declared.token.Token.{Token}
use Rattle.smv_tree.specs.declared.token.TokenKind.TheVariants as kind
use Rattle.smv_tree.specs.declared.tree.Expr.{Expr}
use Rattle.smv_tree.specs.Kinds.{is_kind}
use Rattle.smv_expressions.specs.declared.ranks.Rank.TheVariants as rank
use Rattle.smv_expressions.specs.Expressions.{disjunction, chosen_by, choices, conditional, conditional_of, is_zero, under}
use Rattle.smv_expressions.specs.Ranks.{operand_within, phrase_within}
use Rattle.smv_phrases.proofs.OfNames.{begins_same}

module _ (room : ℕ) where
  -- a condition and its choices
  abbrev with_choices : Expr → Read Token (Token × (Expr × Expr)) → Read Token Expr
  with_choices condition read = read >>= λ x. Ok (chosen_by condition x.0, x.1)

  abbrev pub chosen : Expr × List Token → Read Token Expr
  chosen condition = cond (head (is_kind kind.Question) condition.1) (with_choices condition.0 ((choices (is_zero room) (under 0 room)).parse condition.1)) (Ok condition)

  abbrev maybe_choices : List Token → Read Token (Option (Token × (Expr × Expr)))
  maybe_choices ts = (maybe (choices (is_zero room) (under 0 room))).parse ts

  abbrev some_choices : Read Token (Token × (Expr × Expr)) → Read Token (Option (Token × (Expr × Expr)))
  some_choices read = read >>= λ y. Ok (Some y.0, y.1)

  abbrev no_choices : List Token → Read Token (Option (Token × (Expr × Expr)))
  no_choices ts = Ok (None, ts)

  abbrev beside_condition : Expr → Read Token (Option (Token × (Expr × Expr))) → Read Token (Expr × Option (Token × (Expr × Expr)))
  beside_condition x read = read >>= λ y. Ok ((x, y.0), y.1)

  abbrev whole_conditional : Read Token (Expr × Option (Token × (Expr × Expr))) → Read Token Expr
  whole_conditional read = read >>= λ y. Ok (conditional_of y.0, y.1)

  some_chosen : (x : Expr) (read : Read Token (Token × (Expr × Expr))) → whole_conditional (beside_condition x (some_choices read)) ≡ with_choices x read
  some_chosen x (Ok y) = refl
  some_chosen x (Err e) = refl

  is_chosen : (x : Expr) (ts : List Token) → whole_conditional (beside_condition x (maybe_choices ts)) ≡ chosen (x, ts)
  is_chosen x ts = rw (begins_same (is_kind kind.Question) ts) (go (head (choices (is_zero room) (under 0 room)).first ts))
    where
      go : (b : Bool) → whole_conditional (beside_condition x (cond b (some_choices ((choices (is_zero room) (under 0 room)).parse ts)) (no_choices ts)))
          ≡ cond b (with_choices x ((choices (is_zero room) (under 0 room)).parse ts)) (Ok (x, ts))
      go true = some_chosen x ((choices (is_zero room) (under 0 room)).parse ts)
      go false = refl

  pub conditional_reads : (ts : List Token) → (conditional (is_zero room) (under 0 room)).parse ts ≡ ((phrase_within rank.Disjunction room).parse ts >>= chosen)
  unfolding conditional disjunction phrase_within operand_within
  conditional_reads ts = go ((disjunction (is_zero room) (under 0 room)).parse ts)
    where
      go : (read : Read Token Expr) → whole_conditional (read >>= λ x. beside_condition x.0 (maybe_choices x.1)) ≡ (read >>= chosen)
      go (Ok x) = is_chosen x.0 x.1
      go (Err e) = refl
