-- The forms of declarations, sections, modules and programs keep the laws of forms.
use Rattle.std.proofs.Common.{◌≡◌, ℕ, Bool, false, true, refl}
use Rattle.std.specs.Prelude.{◌||◌}
use Rattle.phrase_forms.specs.Forms.{maybe, many, to}
use Rattle.phrase_forms.proofs.Lawful.{Lawful}
use Rattle.phrase_forms.proofs.Alike.{Alike, same_form, or_alike, many_alike, to_alike}
use Rattle.phrase_forms.proofs.OfToken.{token_lawful}
use Rattle.phrase_forms.proofs.OfThen.{then_lawful}
use Rattle.phrase_forms.proofs.OfOr.{or_lawful}
use Rattle.phrase_forms.proofs.OfTo.{to_lawful}
use Rattle.phrase_forms.proofs.OfMaybe.{maybe_lawful}
use Rattle.phrase_forms.proofs.OfMany.{many_lawful}
use Rattle.phrase_forms.proofs.OfNamed.{Fine}
use Rattle.smv_tree.specs.declared.token.Token.{Token}
use Rattle.smv_tree.specs.declared.token.TokenKind.{TokenKind}
use Rattle.smv_tree.specs.declared.token.TokenKind.TheVariants as kind
use Rattle.smv_tree.specs.declared.tree.AssignmentKind.{AssignmentKind}
use Rattle.smv_tree.specs.declared.tree.AssignmentKind.TheVariants as side
use Rattle.smv_tree.specs.Kinds.{is_kind, is_identifier}
use Rattle.smv_phrases.specs.Names.{just, identifier, identifier_of, begins_name, member, name_from, name}
use Rattle.smv_phrases.specs.Lists.{further, bracketed}
use Rattle.smv_phrases.proofs.EachKind.{token_at, apart, within}
use Rattle.smv_phrases.proofs.OfNames.{just_lawful, identifier_lawful, name_lawful}
use Rattle.smv_phrases.proofs.OfLists.{second_lawful, first_lawful, listed_lawful, bracketed_lawful, then_alike, second_alike, first_alike, behind_alike, behind_only_alike}
use Rattle.smv_expressions.specs.Expressions.{expression_within, index_within, most_levels}
use Rattle.smv_expressions.proofs.OfExpressions.{expression_lawful, index_lawful}
use Rattle.smv_expressions.proofs.ExpressionsAlike.{expression_alike, index_within_alike}
use Rattle.smv_parse.specs.Types.{written_type}
use Rattle.smv_parse.specs.Programs.{expression, under_one, declaration, declares, variables, definition, definitions, constants, target, sided, left_side, assignment, assignments, formula, constrains, constraint, given_name, claims, specification, section_form, parameter_of, module_form, program}
use Rattle.smv_parse.proofs.OfTypes.{type_lawful, type_ends, type_alike}

pub declaration_lawful : (past : ℕ) → Lawful (declaration past)
unfolding declaration
declaration_lawful past =
    to_lawful _ _ (then_lawful _ _ identifier_lawful (second_lawful _ _ (just_lawful kind.Colon refl) (first_lawful _ _ (type_lawful past most_levels) (just_lawful kind.Semicolon refl) (type_ends past most_levels)) (λ t e. refl)) (λ t e. refl))

pub declarations_apart : (past : ℕ) (t : Token) → (declaration past).first t ≡ true → (declaration past).more t ≡ false
unfolding declaration written_type
declarations_apart past t e = refl

pub declarations_full : (past : ℕ) → (declaration past).nullable ≡ false
unfolding declaration
declarations_full past = refl

variables_lawful : (past : ℕ) → Lawful (variables past)
unfolding variables
variables_lawful past =
    to_lawful _ _ (then_lawful _ _ (token_lawful false declares (token_at kind.Var) refl) (many_lawful _ (declaration_lawful past) (declarations_full past) (declarations_apart past)) (λ t e. refl))

pub definition_lawful : (past : ℕ) → Lawful (definition past)
unfolding definition expression_within
definition_lawful past =
    to_lawful _ _ (then_lawful _ _ identifier_lawful (second_lawful _ _ (just_lawful kind.Becomes refl) (first_lawful _ _ (expression_lawful past most_levels) (just_lawful kind.Semicolon refl) (apart _ _ (λ t. refl) (λ t. refl) refl)) (λ t e. refl)) (λ t e. refl))

pub definitions_apart : (past : ℕ) (t : Token) → (definition past).first t ≡ true → (definition past).more t ≡ false
unfolding definition expression_within
definitions_apart past t e = refl

pub definitions_full : (past : ℕ) → (definition past).nullable ≡ false
unfolding definition
definitions_full past = refl

definitions_lawful : (past : ℕ) → Lawful (definitions past)
unfolding definitions
definitions_lawful past = to_lawful _ _ (second_lawful _ _ (just_lawful kind.Define refl) (many_lawful _ (definition_lawful past) (definitions_full past) (definitions_apart past)) (λ t e. refl))

pub indices_apart : (past room : ℕ) (t : Token) → (index_within past room).first t ≡ true → (index_within past room).more t ≡ false
unfolding index_within
indices_apart past room t e = refl

pub indices_full : (past room : ℕ) → (index_within past room).nullable ≡ false
unfolding index_within
indices_full past room = refl

-- the tokens that go on a target
abbrev goes_on_target : Token → Bool
goes_on_target t = is_kind kind.Dot t || is_kind kind.LeftBracket t

target_fine : (past room : ℕ) → Fine begins_name goes_on_target (target past room)
unfolding target name_from member index_within
target_fine past room = record {
  lawful = to_lawful _ _ (then_lawful _ _ name_lawful (many_lawful _ (index_lawful past room) (indices_full past room) (indices_apart past room)) (apart _ _ (λ t. refl) (λ t. refl) refl));
  first = within _ _ (λ t. refl) (λ t. refl) refl;
  more = within _ _ (λ t. refl) (λ t. refl) refl;
  full = refl;
}

sided_lawful : (past : ℕ) (k : TokenKind) (which : AssignmentKind) → is_kind k (token_at k) ≡ true → Lawful (sided past k which)
unfolding target name_from member index_within
sided_lawful past k which e =
    to_lawful _ _ (then_lawful _ _ (just_lawful k e) (second_lawful _ _ (just_lawful kind.LeftParen refl) (first_lawful _ _ (target_fine past under_one).lawful (just_lawful kind.RightParen refl) (apart _ _ (λ t. refl) (λ t. refl) refl)) (λ t e. refl)) (λ t e. refl))

left_lawful : (past : ℕ) → Lawful (left_side past)
unfolding left_side target name_from member
left_lawful past =
    or_lawful _ _ (to_lawful _ _ (target_fine past most_levels).lawful)
    (or_lawful _ _ (sided_lawful past kind.Init side.Init refl) (sided_lawful past kind.Next side.Next refl) refl refl (apart _ _ (λ t. refl) (λ t. refl) refl)) refl refl (apart _ _ (λ t. refl) (λ t. refl) refl)

pub assignment_lawful : (past : ℕ) → Lawful (assignment past)
unfolding assignment left_side target name_from member index_within expression_within
assignment_lawful past =
    to_lawful _ _ (then_lawful _ _ (left_lawful past) (second_lawful _ _ (just_lawful kind.Becomes refl) (first_lawful _ _ (expression_lawful past most_levels) (just_lawful kind.Semicolon refl) (apart _ _ (λ t. refl) (λ t. refl) refl)) (λ t e. refl)) (apart _ _ (λ t. refl) (λ t. refl) refl))

pub assignments_apart : (past : ℕ) (t : Token) → (assignment past).first t ≡ true → (assignment past).more t ≡ false
unfolding assignment left_side target name_from member index_within expression_within
assignments_apart past t e = refl

pub assignments_full : (past : ℕ) → (assignment past).nullable ≡ false
unfolding assignment left_side target name_from
assignments_full past = refl

assignments_lawful : (past : ℕ) → Lawful (assignments past)
unfolding assignments
assignments_lawful past = to_lawful _ _ (second_lawful _ _ (just_lawful kind.Assign refl) (many_lawful _ (assignment_lawful past) (assignments_full past) (assignments_apart past)) (λ t e. refl))

formula_lawful : (past : ℕ) → Lawful (formula past)
unfolding formula expression_within
formula_lawful past = first_lawful _ _ (expression_lawful past most_levels) (maybe_lawful _ (just_lawful kind.Semicolon refl) refl) (apart _ _ (λ t. refl) (λ t. refl) refl)

constraint_lawful : (past : ℕ) → Lawful (constraint past)
unfolding constraint
constraint_lawful past = to_lawful _ _ (then_lawful _ _ (token_lawful false constrains (token_at kind.InitSection) refl) (formula_lawful past) (λ t e. refl))

given_name_lawful : Lawful given_name
unfolding given_name
given_name_lawful = second_lawful _ _ (just_lawful kind.Name refl) (first_lawful _ _ identifier_lawful (just_lawful kind.Becomes refl) (λ t e. refl)) (λ t e. refl)

specification_lawful : (past : ℕ) → Lawful (specification past)
unfolding specification given_name formula expression_within
specification_lawful past =
    to_lawful _ _ (then_lawful _ _ (token_lawful false claims (token_at kind.Invarspec) refl) (second_lawful _ _ (maybe_lawful _ given_name_lawful refl) (formula_lawful past) (apart _ _ (λ t. refl) (λ t. refl) refl)) (λ t e. refl))

-- the symbols of a CONSTANTS section
pub constants_apart : (t : Token) → (further (to identifier_of identifier)).first t ≡ true → (further (to identifier_of identifier)).more t ≡ false
constants_apart t e = refl

pub further_constant_lawful : Lawful (further (to identifier_of identifier))
further_constant_lawful = second_lawful _ _ (just_lawful kind.Comma refl) (to_lawful _ _ identifier_lawful) (λ t e. refl)

constants_lawful : Lawful constants
unfolding constants
constants_lawful =
    let list = listed_lawful (to identifier_of identifier) (to_lawful _ _ identifier_lawful) refl (λ t e. refl) (λ t e. refl) in
    to_lawful _ _ (second_lawful _ _ (just_lawful kind.Constants refl) (first_lawful _ _ list (just_lawful kind.Semicolon refl) (apart _ _ (λ t. refl) (λ t. refl) refl)) (λ t e. refl))

pub section_lawful : (past : ℕ) → Lawful (section_form past)
unfolding section_form variables definitions constants assignments constraint specification
section_lawful past =
    or_lawful _ _ (variables_lawful past)
    (or_lawful _ _ (definitions_lawful past)
    (or_lawful _ _ constants_lawful
    (or_lawful _ _ (assignments_lawful past)
    (or_lawful _ _ (constraint_lawful past) (specification_lawful past) refl refl (apart _ _ (λ t. refl) (λ t. refl) refl))
    refl refl (apart _ _ (λ t. refl) (λ t. refl) refl))
    refl refl (apart _ _ (λ t. refl) (λ t. refl) refl))
    refl refl (apart _ _ (λ t. refl) (λ t. refl) refl))
    refl refl (apart _ _ (λ t. refl) (λ t. refl) refl)

-- the parameters of a module
pub parameters_apart : (t : Token) → (further (to parameter_of identifier)).first t ≡ true → (further (to parameter_of identifier)).more t ≡ false
parameters_apart t e = refl

pub further_parameter_lawful : Lawful (further (to parameter_of identifier))
further_parameter_lawful = second_lawful _ _ (just_lawful kind.Comma refl) (to_lawful _ _ identifier_lawful) (λ t e. refl)

parameters_lawful : Lawful (bracketed (to parameter_of identifier))
parameters_lawful = bracketed_lawful _ (to_lawful _ _ identifier_lawful) refl (λ t e. refl) (λ t e. refl) (apart _ _ (λ t. refl) (λ t. refl) refl)

pub sections_apart : (past : ℕ) (t : Token) → (section_form past).first t ≡ true → (section_form past).more t ≡ false
unfolding section_form variables declaration written_type definitions definition constants assignments assignment left_side target name_from member index_within constraint specification given_name formula expression_within
sections_apart past = apart _ _ (λ t. refl) (λ t. refl) refl

-- a section is not empty
pub sections_full : (past : ℕ) → (section_form past).nullable ≡ false
unfolding section_form variables definitions constants assignments constraint specification
sections_full past = refl

sections_lawful : (past : ℕ) → Lawful (many (section_form past))
sections_lawful past = many_lawful _ (section_lawful past) (sections_full past) (sections_apart past)

pub module_lawful : (past : ℕ) → Lawful (module_form past)
unfolding module_form section_form variables definitions constants assignments constraint specification
module_lawful past =
    to_lawful _ _ (then_lawful _ _ (just_lawful kind.Module refl) (then_lawful _ _ identifier_lawful (then_lawful _ _ parameters_lawful (sections_lawful past) (apart _ _ (λ t. refl) (λ t. refl) refl)) (λ t e. refl)) (λ t e. refl))

pub modules_apart : (past : ℕ) (t : Token) → (module_form past).first t ≡ true → (module_form past).more t ≡ false
unfolding module_form section_form variables declaration written_type definitions definition constants assignments assignment left_side target name_from member index_within constraint specification given_name formula expression_within
modules_apart past = apart _ _ (λ t. refl) (λ t. refl) refl

pub modules_full : (past : ℕ) → (module_form past).nullable ≡ false
unfolding module_form
modules_full past = refl

pub program_lawful : (past : ℕ) → Lawful (program past)
unfolding program
program_lawful past = to_lawful _ _ (many_lawful _ (module_lawful past) (modules_full past) (modules_apart past))

expressions_alike : (past : ℕ) → Alike (expression 0) (expression past)
expressions_alike past = expression_alike past most_levels

declaration_alike : (past : ℕ) → Alike (declaration 0) (declaration past)
unfolding declaration written_type
declaration_alike past =
    to_alike _ (behind_alike is_identifier _ _ (behind_only_alike (is_kind kind.Colon) _ _ (first_alike _ _ _ _ (type_alike past most_levels) (same_form (just kind.Semicolon)) (λ t. refl))))

variables_alike : (past : ℕ) → Alike (variables 0) (variables past)
unfolding variables
variables_alike past = to_alike _ (behind_alike declares _ _ (many_alike _ _ (declaration_alike past)))

definition_alike : (past : ℕ) → Alike (definition 0) (definition past)
unfolding definition expression_within
definition_alike past =
    to_alike _ (behind_alike is_identifier _ _ (behind_only_alike (is_kind kind.Becomes) _ _ (first_alike _ _ _ _ (expressions_alike past) (same_form (just kind.Semicolon)) (λ t. refl))))

definitions_alike : (past : ℕ) → Alike (definitions 0) (definitions past)
unfolding definitions
definitions_alike past = to_alike _ (behind_only_alike (is_kind kind.Define) _ _ (many_alike _ _ (definition_alike past)))

target_alike : (past room : ℕ) → Alike (target 0 room) (target past room)
unfolding target index_within
target_alike past room = to_alike _ (then_alike _ _ _ _ (same_form name) (many_alike _ _ (index_within_alike past room)) (λ t. refl))

sided_alike : (past : ℕ) (k : TokenKind) (which : AssignmentKind) → Alike (sided 0 k which) (sided past k which)
unfolding target index_within
sided_alike past k which =
    to_alike _ (behind_alike (is_kind k) _ _ (behind_only_alike (is_kind kind.LeftParen) _ _ (first_alike _ _ _ _ (target_alike past under_one) (same_form (just kind.RightParen)) (λ t. refl))))

left_alike : (past : ℕ) → Alike (left_side 0) (left_side past)
unfolding left_side target index_within
left_alike past =
    or_alike _ _ _ _ (to_alike _ (target_alike past most_levels)) (or_alike _ _ _ _ (sided_alike past kind.Init side.Init) (sided_alike past kind.Next side.Next) (λ t. refl)) (λ t. refl)

assignment_alike : (past : ℕ) → Alike (assignment 0) (assignment past)
unfolding assignment left_side target index_within expression_within
assignment_alike past =
    to_alike _ (then_alike _ _ _ _ (left_alike past) (behind_only_alike (is_kind kind.Becomes) _ _ (first_alike _ _ _ _ (expressions_alike past) (same_form (just kind.Semicolon)) (λ t. refl))) (λ t. refl))

assignments_alike : (past : ℕ) → Alike (assignments 0) (assignments past)
unfolding assignments
assignments_alike past = to_alike _ (behind_only_alike (is_kind kind.Assign) _ _ (many_alike _ _ (assignment_alike past)))

formula_alike : (past : ℕ) → Alike (formula 0) (formula past)
unfolding formula expression_within
formula_alike past = first_alike _ _ _ _ (expressions_alike past) (same_form (maybe (just kind.Semicolon))) (λ t. refl)

constraint_alike : (past : ℕ) → Alike (constraint 0) (constraint past)
unfolding constraint
constraint_alike past = to_alike _ (behind_alike constrains _ _ (formula_alike past))

specification_alike : (past : ℕ) → Alike (specification 0) (specification past)
unfolding specification given_name formula expression_within
specification_alike past =
    to_alike _ (behind_alike claims _ _ (second_alike _ _ _ _ (same_form (maybe given_name)) (formula_alike past) (λ t. refl)))

section_alike : (past : ℕ) → Alike (section_form 0) (section_form past)
unfolding section_form variables definitions assignments constraint specification
section_alike past =
    or_alike _ _ _ _ (variables_alike past)
    (or_alike _ _ _ _ (definitions_alike past)
    (or_alike _ _ _ _ (same_form constants)
    (or_alike _ _ _ _ (assignments_alike past)
    (or_alike _ _ _ _ (constraint_alike past) (specification_alike past) (λ t. refl)) (λ t. refl)) (λ t. refl)) (λ t. refl)) (λ t. refl)

module_alike : (past : ℕ) → Alike (module_form 0) (module_form past)
unfolding module_form
module_alike past =
    let parameters = same_form (bracketed (to parameter_of identifier)) in
    let sections = many_alike _ _ (section_alike past) in
    let same : (t : Token) → (section_form 0).first t ≡ (section_form past).first t = (section_alike past).first in
    to_alike _ (behind_alike (is_kind kind.Module) _ _ (behind_alike is_identifier _ _ (then_alike _ _ _ _ parameters sections (λ t. rw (same t) refl))))

pub program_alike : (past : ℕ) → Alike (program 0) (program past)
unfolding program
program_alike past = to_alike _ (many_alike _ _ (module_alike past))
