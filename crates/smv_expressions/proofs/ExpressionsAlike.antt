-- What is read of an expression does not depend on the levels that are too many.
use Rattle.std.proofs.Common.{◌≡◌, ℕ, zero, suc, Bool, true, false, List, refl}
use Rattle.phrase_forms.specs.Forms.{Form, token, then, maybe, many, named, to, ◌⨾◌, ◌▹◌, ◌◃◌}
use Rattle.phrase_forms.proofs.Alike.{Alike, same_form, then_reads, opened, to_alike, or_alike, maybe_alike, many_alike, named_alike}
use Rattle.phrase_forms.proofs.OfAfter.{after_reads}
use Rattle.smv_tree.specs.declared.token.Token.{Token}
use Rattle.smv_tree.specs.declared.token.TokenKind.TheVariants as kind
use Rattle.smv_tree.specs.declared.tree.Expr.{Expr}
use Rattle.smv_tree.specs.declared.tree.Expr.TheVariants as expr
use Rattle.smv_tree.specs.Kinds.{is_kind}
use Rattle.smv_phrases.specs.declared.names.NameStart.TheVariants as may
use Rattle.smv_phrases.specs.Names.{just, opening, name_from}
use Rattle.smv_phrases.specs.Lists.{listed}
use Rattle.smv_phrases.proofs.OfLists.{then_alike, second_alike, first_alike, behind_alike, behind_only_alike, listed_alike}
use Rattle.smv_expressions.specs.declared.ranks.Rank.{Rank}
use Rattle.smv_expressions.specs.declared.ranks.Rank.TheVariants as rank
use Rattle.smv_expressions.specs.Operators.{operator_form, is_function, names_function, is_step_operator, is_timed_operator}
use Rattle.smv_expressions.specs.Tokens.{is_truth, begins_primary, begins_denied, begins_expression, begins_limit, begins_operand, goes_on_primary, goes_on_selected, goes_on_relation, goes_on_disjunction, goes_on_conditional, goes_on_equivalence, goes_on_expression, goes_on_limit, goes_on_operand, is_value_operator}
use Rattle.smv_expressions.specs.Expressions.{Denied, Link, Phrases, link, links, chain, beside, alone, chained, truth_of, word_of, integers, parenthesised, members, branch, turns, cases, arguments, members_of, function_or_name, next_or_call, compound, primary, selection, selected, inverted, concatenation, negated, negation, product, sum, shifted, union, membership, bounds_end, bounds, denied, compared, tails, temporal, timed, connection, conjunction, disjunction, choices, conditional, equivalence, implication, placed_integer, placed_name, limit_start, limit_negation, limit_product, limit, limited, known, over, is_zero, beyond, phrases, under, expression_within, limit_within, limit_start_within, limited_within, index_within}

pub record AllAlike (q r : Phrases) : Type 0 where
  pub expression : Alike q.expression r.expression
  pub conditional : Alike q.conditional r.conditional
  pub inverted : Alike q.inverted r.inverted
  pub negation : Alike q.negation r.negation
  pub denied : Alike q.denied r.denied
  pub temporal : Alike q.temporal r.temporal
  pub timed : Alike q.timed r.timed
  pub limit : Alike q.limit r.limit
  pub limit_negation : Alike q.limit_negation r.limit_negation

module _ (r : Rank) (a b : Form Token Expr) (l : Alike a b) where
  named_both : Alike (named (begins_operand r) (goes_on_operand r) a) (named (begins_operand r) (goes_on_operand r) b)
  named_both = named_alike (begins_operand r) (goes_on_operand r) l

  pub links_alike : Alike (links r a) (links r b)
  links_alike = many_alike _ _ (to_alike _ (record { parse = then_reads _ _ _ _ (same_form (operator_form r)) named_both; first = λ t. refl }))

  pub chain_alike : Alike (chain r a) (chain r b)
  chain_alike = to_alike _ (record { parse = then_reads _ _ _ _ named_both links_alike; first = λ t. refl })

beside_alike : (one one' : Form Token (List Link)) (others others' : Form Token (List (List Link))) → Alike one one' → Alike others others'
    → ((t : Token) → (beside one others).first t ≡ (beside one' others').first t) → Alike (beside one others) (beside one' others')
beside_alike one one' others others' l m same = to_alike _ (then_alike one one' others others' l m same)

-- expressions that read alike where they may be read, and what stands between brackets
module _ (closed : Bool) (a b : Form Token Expr) (l : closed ≡ false → Alike a b) where
  abbrev e : Form Token Expr
  e = named begins_expression goes_on_expression a

  abbrev e' : Form Token Expr
  e' = named begins_expression goes_on_expression b

  same : closed ≡ false → Alike e e'
  same unlocked = named_alike begins_expression goes_on_expression (l unlocked)

  parenthesised_alike : Alike (parenthesised closed e) (parenthesised closed e')
  parenthesised_alike = opened closed (is_kind kind.LeftParen) (e ◃ just kind.RightParen) (e' ◃ just kind.RightParen) (λ unlocked. (first_alike _ _ _ _ (same unlocked) (same_form (just kind.RightParen)) (λ t. refl)).parse)

  list_alike : closed ≡ false → Alike (listed e) (listed e')
  list_alike unlocked = listed_alike e e' (same unlocked) (λ t. refl)

  members_alike : Alike (members closed e) (members closed e')
  members_alike = opened closed (is_kind kind.LeftBrace) (listed e ◃ just kind.RightBrace) (listed e' ◃ just kind.RightBrace) (λ unlocked. (first_alike _ _ _ _ (list_alike unlocked) (same_form (just kind.RightBrace)) (λ t. refl)).parse)

  arguments_alike : Alike (arguments closed e) (arguments closed e')
  arguments_alike =
      to_alike _ (opened closed (is_kind kind.LeftParen) (listed e ◃ just kind.RightParen) (listed e' ◃ just kind.RightParen) (λ unlocked. (first_alike _ _ _ _ (list_alike unlocked) (same_form (just kind.RightParen)) (λ t. refl)).parse))

  branch_alike : closed ≡ false → Alike (branch e) (branch e')
  branch_alike unlocked =
      then_alike _ _ _ _ (same unlocked) (behind_only_alike (is_kind kind.Colon) _ _ (first_alike _ _ _ _ (same unlocked) (same_form (just kind.Semicolon)) (λ t. refl))) (λ t. refl)

  turns_alike : closed ≡ false → Alike (turns e) (turns e')
  turns_alike unlocked = to_alike _ (then_alike _ _ _ _ (branch_alike unlocked) (many_alike _ _ (branch_alike unlocked)) (λ t. refl))

  cases_alike : Alike (cases closed e) (cases closed e')
  cases_alike = opened closed (is_kind kind.Case) (turns e ◃ just kind.Esac) (turns e' ◃ just kind.Esac) (λ unlocked. (first_alike _ _ _ _ (turns_alike unlocked) (same_form (just kind.Esac)) (λ t. refl)).parse)

  function_or_name_alike : Alike (function_or_name closed e) (function_or_name closed e')
  unfolding function_or_name
  function_or_name_alike =
      to_alike _ (record {
        parse = after_reads _ _ (is_kind kind.Dot) (is_kind kind.Dot) true members_of members_of (behind_alike names_function _ _ (maybe_alike _ _ arguments_alike)) (λ x ts. refl);
        first = λ t. refl;
      })

  next_or_call_alike : Alike (next_or_call closed e) (next_or_call closed e')
  unfolding next_or_call
  next_or_call_alike = or_alike _ _ _ _ (to_alike _ (behind_alike (is_kind kind.Next) _ _ parenthesised_alike)) (to_alike _ (behind_alike is_function _ _ arguments_alike)) (λ t. refl)

  compound_alike : Alike (compound closed e) (compound closed e')
  unfolding compound next_or_call
  compound_alike =
      or_alike _ _ _ _ (to_alike _ parenthesised_alike)
      (or_alike _ _ _ _ (to_alike _ members_alike) (or_alike _ _ _ _ (to_alike _ cases_alike) next_or_call_alike (λ t. refl)) (λ t. refl)) (λ t. refl)

  abbrev low : Form Token Expr → Form Token Expr
  low c = just kind.Colon ▹ c

  selection_alike : Alike (selection closed e) (selection closed e')
  selection_alike =
      opened closed (is_kind kind.LeftBracket) (e ⨾ maybe (low e) ◃ just kind.RightBracket) (e' ⨾ maybe (low e') ◃ just kind.RightBracket)
      (λ unlocked. (then_alike _ _ _ _ (same unlocked) (first_alike _ _ _ _ (maybe_alike _ _ (behind_only_alike (is_kind kind.Colon) _ _ (same unlocked))) (same_form (just kind.RightBracket)) (λ t. refl)) (λ t. refl)).parse)

  abbrev bracketed : Form Token Expr → Form Token (Token × Expr)
  bracketed c = opening closed kind.LeftBracket ⨾ c ◃ just kind.RightBracket

  index_alike : Alike (bracketed e) (bracketed e')
  index_alike = opened closed (is_kind kind.LeftBracket) (e ◃ just kind.RightBracket) (e' ◃ just kind.RightBracket) (λ unlocked. (first_alike _ _ _ _ (same unlocked) (same_form (just kind.RightBracket)) (λ t. refl)).parse)

-- phrases over two that read alike, where those may be read
module _ (closed : Bool) (q r : Phrases) (h : closed ≡ false → AllAlike q r) where
  abbrev a : Form Token Expr
  a = q.expression

  abbrev b : Form Token Expr
  b = r.expression

  l : closed ≡ false → Alike a b
  l unlocked = (h unlocked).expression

  primary_alike : Alike (primary closed (known q)) (primary closed (known r))
  unfolding primary function_or_name compound next_or_call
  primary_alike =
      or_alike _ _ _ _ (same_form (to truth_of (token false is_truth)))
      (or_alike _ _ _ _ (same_form integers)
      (or_alike _ _ _ _ (same_form (to word_of (just kind.WordConstant)))
      (or_alike _ _ _ _ (function_or_name_alike closed a b l)
      (or_alike _ _ _ _ (same_form (to expr.Name (name_from may.Plain))) (compound_alike closed a b l) (λ t. refl)) (λ t. refl)) (λ t. refl)) (λ t. refl)) (λ t. refl)

  selected_alike : Alike (selected closed (known q)) (selected closed (known r))
  unfolding selected
  selected_alike = to_alike _ (then_alike _ _ _ _ (named_alike begins_primary goes_on_primary primary_alike) (many_alike _ _ (selection_alike closed a b l)) (λ t. refl))

  inverted_alike : Alike (inverted closed (known q)) (inverted closed (known r))
  unfolding inverted
  inverted_alike =
      or_alike _ _ _ _ (to_alike _ (opened closed (is_kind kind.Not) (known q).inverted (known r).inverted (λ unlocked. (h unlocked).inverted.parse)))
      (named_alike begins_primary goes_on_selected selected_alike) (λ t. refl)

  concatenation_alike : Alike (concatenation closed (known q)) (concatenation closed (known r))
  unfolding concatenation
  concatenation_alike = chain_alike rank.Concatenation _ _ inverted_alike

  negated_alike : Alike (negated closed (known q)) (negated closed (known r))
  negated_alike = to_alike _ (opened closed (is_kind kind.Minus) (known q).negation (known r).negation (λ unlocked. (h unlocked).negation.parse))

  negation_alike : Alike (negation closed (known q)) (negation closed (known r))
  unfolding negation concatenation
  negation_alike = or_alike _ _ _ _ negated_alike concatenation_alike (λ t. refl)

  product_alike : Alike (product closed (known q)) (product closed (known r))
  unfolding product
  product_alike = chain_alike rank.Product _ _ negation_alike

  sum_alike : Alike (sum closed (known q)) (sum closed (known r))
  unfolding sum
  sum_alike = chain_alike rank.Sum _ _ product_alike

  shifted_alike : Alike (shifted closed (known q)) (shifted closed (known r))
  unfolding shifted
  shifted_alike = chain_alike rank.Shift _ _ sum_alike

  union_alike : Alike (union closed (known q)) (union closed (known r))
  unfolding union
  union_alike = chain_alike rank.Union _ _ shifted_alike

  membership_alike : Alike (membership closed (known q)) (membership closed (known r))
  unfolding membership
  membership_alike = chain_alike rank.Membership _ _ union_alike

  denied_alike : Alike (denied closed (known q)) (denied closed (known r))
  unfolding denied
  denied_alike =
      or_alike _ _ _ _ (to_alike _ (opened closed (is_kind kind.Not) (known q).denied (known r).denied (λ unlocked. (h unlocked).denied.parse)))
      (or_alike _ _ _ _ (to_alike _ (opened closed is_step_operator (known q).temporal (known r).temporal (λ unlocked. (h unlocked).temporal.parse)))
      (or_alike _ _ _ _ (to_alike _ (opened closed is_timed_operator (known q).timed (known r).timed (λ unlocked. (h unlocked).timed.parse)))
      (to_alike _ (named_alike begins_primary goes_on_selected selected_alike)) (λ t. refl)) (λ t. refl)) (λ t. refl)

  compared_alike : Alike (compared closed (known q)) (compared closed (known r))
  unfolding compared
  compared_alike =
      beside_alike _ _ _ _ (links_alike rank.Product _ _ negation_alike)
      (beside_alike _ _ _ _ (links_alike rank.Sum _ _ product_alike)
      (beside_alike _ _ _ _ (links_alike rank.Shift _ _ sum_alike)
      (beside_alike _ _ _ _ (links_alike rank.Union _ _ shifted_alike)
      (beside_alike _ _ _ _ (links_alike rank.Membership _ _ union_alike) (to_alike _ (links_alike rank.Relation _ _ membership_alike)) (λ t. refl)) (λ t. refl)) (λ t. refl)) (λ t. refl)) (λ t. refl)

  tails_same : (x : Denied) (ts : List Token) → (tails closed (known q) x).parse ts ≡ (tails closed (known r) x).parse ts
  unfolding compared
  tails_same (true, e) ts = refl
  tails_same (false, e) ts = (to_alike (chained e) (beside_alike _ _ _ _ (links_alike rank.Concatenation _ _ inverted_alike) compared_alike (λ t. refl))).parse ts

  temporal_alike : Alike (temporal closed (known q)) (temporal closed (known r))
  unfolding temporal compared
  temporal_alike =
      or_alike _ _ _ _ (to_alike _ (then_alike _ _ _ _ negated_alike compared_alike (λ t. refl)))
      (to_alike _ (record {
        parse = after_reads _ _ is_value_operator goes_on_relation true (tails closed (known q)) (tails closed (known r)) (named_alike begins_denied goes_on_relation denied_alike) tails_same;
        first = λ t. refl;
      })) (λ t. refl)

  bounds_alike : Alike (bounds closed (known q)) (bounds closed (known r))
  unfolding bounds
  bounds_alike = to_alike _ (opened closed (is_kind kind.LeftBracket) (bounds_end (known q).limit) (bounds_end (known r).limit) inside)
    where
      inside : closed ≡ false → (ts : List Token) → (bounds_end (known q).limit).parse ts ≡ (bounds_end (known r).limit).parse ts
      inside unlocked =
          let limit = named_alike begins_limit goes_on_limit (h unlocked).limit in
          let second = first_alike _ _ _ _ limit (same_form (just kind.RightBracket)) (λ t. refl) in
          (then_alike _ _ _ _ limit (behind_only_alike (is_kind kind.Comma) _ _ second) (λ t. refl)).parse

  timed_alike : Alike (timed closed (known q)) (timed closed (known r))
  unfolding timed bounds
  timed_alike = then_alike _ _ _ _ (maybe_alike _ _ bounds_alike) (named_alike begins_expression goes_on_relation temporal_alike) (λ t. refl)

  connection_alike : Alike (connection closed (known q)) (connection closed (known r))
  unfolding connection
  connection_alike = chain_alike rank.Connection _ _ temporal_alike

  conjunction_alike : Alike (conjunction closed (known q)) (conjunction closed (known r))
  unfolding conjunction
  conjunction_alike = chain_alike rank.Conjunction _ _ connection_alike

  disjunction_alike : Alike (disjunction closed (known q)) (disjunction closed (known r))
  unfolding disjunction
  disjunction_alike = chain_alike rank.Disjunction _ _ conjunction_alike

  -- what stands behind "?"
  abbrev chosen : Phrases → Form Token (Expr × Expr)
  chosen p = p.expression ⨾ just kind.Colon ▹ p.conditional

  chosen_reads : closed ≡ false → (ts : List Token) → (chosen (known q)).parse ts ≡ (chosen (known r)).parse ts
  chosen_reads unlocked =
      let second = behind_only_alike (is_kind kind.Colon) _ _ (named_alike begins_expression goes_on_conditional (h unlocked).conditional) in
      (then_alike _ _ _ _ (named_alike begins_expression goes_on_expression (l unlocked)) second (λ t. refl)).parse

  choices_alike : Alike (choices closed (known q)) (choices closed (known r))
  choices_alike = opened closed (is_kind kind.Question) (chosen (known q)) (chosen (known r)) chosen_reads

  conditional_alike : Alike (conditional closed (known q)) (conditional closed (known r))
  unfolding conditional
  conditional_alike = to_alike _ (then_alike _ _ _ _ (named_alike begins_expression goes_on_disjunction disjunction_alike) (maybe_alike _ _ choices_alike) (λ t. refl))

  equivalence_alike : Alike (equivalence closed (known q)) (equivalence closed (known r))
  unfolding equivalence
  equivalence_alike = chain_alike rank.Equivalence _ _ conditional_alike

  implication_alike : Alike (implication closed (known q)) (implication closed (known r))
  unfolding implication
  implication_alike =
      let right = opened closed (is_kind kind.Implies) (known q).expression (known r).expression (λ unlocked. (l unlocked).parse) in
      to_alike _ (then_alike _ _ _ _ (named_alike begins_expression goes_on_equivalence equivalence_alike) (maybe_alike _ _ right) (λ t. refl))

  pub limit_start_alike : Alike (limit_start closed (known q)) (limit_start closed (known r))
  unfolding limit_start
  limit_start_alike =
      let inside = opened closed (is_kind kind.LeftParen) ((known q).limit ◃ just kind.RightParen) ((known r).limit ◃ just kind.RightParen)
      (λ unlocked. (first_alike _ _ _ _ (named_alike begins_limit goes_on_limit (h unlocked).limit) (same_form (just kind.RightParen)) (λ t. refl)).parse) in
      or_alike _ _ _ _ (to_alike _ (opened closed (is_kind kind.Minus) (known q).limit_negation (known r).limit_negation (λ unlocked. (h unlocked).limit_negation.parse)))
      (or_alike _ _ _ _ (same_form (to placed_integer (just kind.Integer)))
      (or_alike _ _ _ _ (to_alike _ inside) (same_form (to placed_name (name_from may.Itself))) (λ t. refl)) (λ t. refl)) (λ t. refl)

  limit_negation_alike : Alike (limit_negation closed (known q)) (limit_negation closed (known r))
  unfolding limit_negation limit_start
  limit_negation_alike = or_alike _ _ _ _ (to_alike _ limit_start_alike) (same_form (to expr.Name (name_from may.Own))) (λ t. refl)

  limit_product_alike : Alike (limit_product closed (known q)) (limit_product closed (known r))
  unfolding limit_product
  limit_product_alike = chain_alike rank.LimitProduct _ _ limit_negation_alike

  limit_alike : Alike (limit closed (known q)) (limit closed (known r))
  unfolding limit
  limit_alike = chain_alike rank.LimitSum _ _ limit_product_alike

  pub limited_alike : Alike (limited closed (known q)) (limited closed (known r))
  unfolding limited
  limited_alike =
      beside_alike _ _ _ _ (links_alike rank.LimitProduct _ _ limit_negation_alike) (to_alike _ (links_alike rank.LimitSum _ _ limit_product_alike)) (λ t. refl)

  over_alike : AllAlike (over closed q) (over closed r)
  over_alike = record {
    expression = implication_alike;
    conditional = conditional_alike;
    inverted = inverted_alike;
    negation = negation_alike;
    denied = denied_alike;
    temporal = temporal_alike;
    timed = timed_alike;
    limit = limit_alike;
    limit_negation = limit_negation_alike;
  }

pub phrases_alike : (room past past' : ℕ) → AllAlike (phrases past (suc room)) (phrases past' (suc room))
unfolding phrases
phrases_alike zero past past' = over_alike true (beyond past) (beyond past') (λ unlocked. absurd cc)
phrases_alike (suc room) past past' = over_alike false (phrases past (suc room)) (phrases past' (suc room)) (λ unlocked. phrases_alike room past past')

pub under_alike : (past room : ℕ) → is_zero room ≡ false → AllAlike (phrases 0 room) (phrases past room)
under_alike past zero unlocked = absurd cc
under_alike past (suc room) unlocked = phrases_alike room 0 past

pub expression_alike : (past room : ℕ) → Alike (expression_within 0 room) (expression_within past room)
unfolding expression_within
expression_alike past room = named_alike begins_expression goes_on_expression (phrases_alike room 0 past).expression

pub limit_within_alike : (past room : ℕ) → Alike (limit_within 0 room) (limit_within past room)
unfolding limit_within
limit_within_alike past room = named_alike begins_limit goes_on_limit (phrases_alike room 0 past).limit

pub limit_start_within_alike : (past room : ℕ) → Alike (limit_start_within 0 room) (limit_start_within past room)
unfolding limit_start_within
limit_start_within_alike past room = limit_start_alike (is_zero room) (phrases 0 room) (phrases past room) (under_alike past room)

pub limited_within_alike : (past room : ℕ) → Alike (limited_within 0 room) (limited_within past room)
unfolding limited_within
limited_within_alike past room = limited_alike (is_zero room) (phrases 0 room) (phrases past room) (under_alike past room)

pub index_within_alike : (past room : ℕ) → Alike (index_within 0 room) (index_within past room)
unfolding index_within
index_within_alike past room = to_alike _ (index_alike (is_zero room) (phrases 0 room).expression (phrases past room).expression (λ unlocked. (under_alike past room unlocked).expression))
