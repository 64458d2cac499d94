-- What is read is measured by the levels that may be opened, and then by the rank.
use Rattle.std.proofs.Common.{◌≡◌, ◌+◌, ◌*◌, length}
use Rattle.phrase_forms.specs.Forms.{many}
use Rattle.phrase_forms.proofs.Loops.{with_front}
use Rattle.smv_phrases.specs.Lists.{further, listed}
use Rattle.smv_phrases.proofs.Repeats.{Totals}
use Rattle.smv_phrases.proofs.Folds.{gathered}
use Rattle.smv_expressions.specs.Expressions.{branch, turns, selection, selected_by_all, selected, is_zero, under, expression_within}
use Rattle.smv_expressions.specs.Ranks.{links_within}
use Rattle.smv_expressions.proofs.Heights.{height}
use Rattle.smv_expressions.proofs.Loops.{with_turns}
use Rattle.smv_expressions.proofs.expressions.+expressions.Given as goal

abbrev pub decreases-parenthesised : goal.decreases-parenthesised
decreases-parenthesised l = l.room * 200 + 0

abbrev pub decreases-group : goal.decreases-group
decreases-group l = l.room * 200 + 1

abbrev pub decreases-arguments : goal.decreases-arguments
decreases-arguments l = l.room * 200 + 0

abbrev pub decreases-set : goal.decreases-set
decreases-set l = l.room * 200 + 0

abbrev pub decreases-case : goal.decreases-case
decreases-case l = l.room * 200 + 0

abbrev pub decreases-call : goal.decreases-call
decreases-call l = l.room * 200 + 1

abbrev pub decreases-function_or_name : goal.decreases-function_or_name
decreases-function_or_name l = l.room * 200 + 1

abbrev pub decreases-next_or_call : goal.decreases-next_or_call
decreases-next_or_call l = l.room * 200 + 2

abbrev pub decreases-compound : goal.decreases-compound
decreases-compound l = l.room * 200 + 3

abbrev pub decreases-primary : goal.decreases-primary
decreases-primary l = l.room * 200 + 4

abbrev pub decreases-selection_end : goal.decreases-selection_end
decreases-selection_end l = l.room * 200 + 162

abbrev pub decreases-selection_inner : goal.decreases-selection_inner
decreases-selection_inner l = l.room * 200 + 163

abbrev pub decreases-selection : goal.decreases-selection
decreases-selection l = l.room * 200 + 0

abbrev pub decreases-selected_part : goal.decreases-selected_part
decreases-selected_part l = l.room * 200 + 1

abbrev pub decreases-selected : goal.decreases-selected
decreases-selected l = l.room * 200 + 5

abbrev pub decreases-inverted : goal.decreases-inverted
decreases-inverted l = l.room * 200 + 6

abbrev pub decreases-negated : goal.decreases-negated
decreases-negated l = l.room * 200 + 0

abbrev pub decreases-negation : goal.decreases-negation
decreases-negation l = l.room * 200 + 16

abbrev pub decreases-denied_again : goal.decreases-denied_again
decreases-denied_again l = l.room * 200 + 0

abbrev pub decreases-stepped : goal.decreases-stepped
decreases-stepped l = l.room * 200 + 0

abbrev pub decreases-timed_of : goal.decreases-timed_of
decreases-timed_of l = l.room * 200 + 0

abbrev pub decreases-denied : goal.decreases-denied
decreases-denied l = l.room * 200 + 6

abbrev pub decreases-compared : goal.decreases-compared
decreases-compared l = l.room * 200 + 60

abbrev pub decreases-temporal : goal.decreases-temporal
decreases-temporal l = l.room * 200 + 61

abbrev pub decreases-timed : goal.decreases-timed
decreases-timed l = l.room * 200 + 62

abbrev pub decreases-bounds : goal.decreases-bounds
decreases-bounds l = l.room * 200 + 0

abbrev pub decreases-maybe_bounds : goal.decreases-maybe_bounds
decreases-maybe_bounds l = l.room * 200 + 1

abbrev pub decreases-upper_bound : goal.decreases-upper_bound
decreases-upper_bound l = l.room * 200 + 165

abbrev pub decreases-bounds_end : goal.decreases-bounds_end
decreases-bounds_end l = l.room * 200 + 166

abbrev pub decreases-otherwise : goal.decreases-otherwise
decreases-otherwise l = l.room * 200 + 101

abbrev pub decreases-choices_inner : goal.decreases-choices_inner
decreases-choices_inner l = l.room * 200 + 161

abbrev pub decreases-choices : goal.decreases-choices
decreases-choices l = l.room * 200 + 0

abbrev pub decreases-chosen : goal.decreases-chosen
decreases-chosen l = l.room * 200 + 1

abbrev pub decreases-conditional : goal.decreases-conditional
decreases-conditional l = l.room * 200 + 100

abbrev pub decreases-right_side : goal.decreases-right_side
decreases-right_side l = l.room * 200 + 0

abbrev pub decreases-implied : goal.decreases-implied
decreases-implied l = l.room * 200 + 1

abbrev pub decreases-expression : goal.decreases-expression
decreases-expression l = l.room * 200 + 160

abbrev pub decreases-further : goal.decreases-further
decreases-further l = l.room * 200 + 161

abbrev pub decreases-listed : goal.decreases-listed
decreases-listed l = l.room * 200 + 162

abbrev pub decreases-branch_value : goal.decreases-branch_value
decreases-branch_value l = l.room * 200 + 161

abbrev pub decreases-branch : goal.decreases-branch
decreases-branch l = l.room * 200 + 162

abbrev pub decreases-turns : goal.decreases-turns
decreases-turns l = l.room * 200 + 163

abbrev pub decreases-low : goal.decreases-low
decreases-low l = l.room * 200 + 161

abbrev pub decreases-limit_negated : goal.decreases-limit_negated
decreases-limit_negated l = l.room * 200 + 0

abbrev pub decreases-limit_parenthesised : goal.decreases-limit_parenthesised
decreases-limit_parenthesised l = l.room * 200 + 0

abbrev pub decreases-limit_group : goal.decreases-limit_group
decreases-limit_group l = l.room * 200 + 1

abbrev pub decreases-limit_start : goal.decreases-limit_start
decreases-limit_start l = l.room * 200 + 2

abbrev pub decreases-limit_negation : goal.decreases-limit_negation
decreases-limit_negation l = l.room * 200 + 3

abbrev pub decreases-limit : goal.decreases-limit
decreases-limit l = l.room * 200 + 164

abbrev pub decreases-operand_of : goal.decreases-operand_of
decreases-operand_of l = l.room * 200 + (height l.rank * 5 + 1)

abbrev pub decreases-link : goal.decreases-link
decreases-link l = l.room * 200 + (height l.rank * 5 + 2)

abbrev pub decreases-links : goal.decreases-links
decreases-links l = l.room * 200 + (height l.rank * 5 + 3)

abbrev pub decreases-linked : goal.decreases-linked
decreases-linked l = l.room * 200 + (height l.rank * 5 + 4)

abbrev pub decreases-phrase_of : goal.decreases-phrase_of
decreases-phrase_of l = l.room * 200 + (height l.rank * 5 + 5)

abbrev pub invariant-links-links : goal.invariant-links-links
invariant-links-links l = with_front l.links ((links_within l.rank l.room).parse l.rest) ≡ (links_within l.rank l.room).parse l.fn.tokens

abbrev pub decreases-links-links : goal.decreases-links-links
decreases-links-links l = length l.rest

abbrev pub invariant-listed-phrases : goal.invariant-listed-phrases
invariant-listed-phrases l = Totals (further (expression_within 0 l.room)) l.all l.rest ((listed (expression_within 0 l.room)).parse l.fn.tokens)

abbrev pub decreases-listed-phrases : goal.decreases-listed-phrases
decreases-listed-phrases l = length l.rest

abbrev pub invariant-turns-branches : goal.invariant-turns-branches
invariant-turns-branches l = gathered with_turns l.all ((many (branch (expression_within 0 l.room))).parse l.rest) ≡ (turns (expression_within 0 l.room)).parse l.fn.tokens

abbrev pub decreases-turns-branches : goal.decreases-turns-branches
decreases-turns-branches l = length l.rest

abbrev pub invariant-selected-selections : goal.invariant-selected-selections
invariant-selected-selections l = gathered selected_by_all l.whole ((many (selection (is_zero l.room) (under 0 l.room).expression)).parse l.rest) ≡ (selected (is_zero l.room) (under 0 l.room)).parse l.fn.tokens

abbrev pub decreases-selected-selections : goal.decreases-selected-selections
decreases-selected-selections l = length l.rest
