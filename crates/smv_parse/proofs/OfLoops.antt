-- The loops of the grammar, each over a form that may stand any number of times in a row.
use Rattle.std.proofs.Common.{◌≡◌, ℕ, Bool, List, Ok, Err, refl, sym, ap, ◌∙◌}
use Rattle.phrase_forms.specs.declared.fault.Fault.{Fault}
use Rattle.phrase_forms.specs.Forms.{Read, head, many, to, ◌>>=◌}
use Rattle.smv_tree.specs.declared.place.Place.{Place}
use Rattle.smv_tree.specs.declared.token.Token.{Token}
use Rattle.smv_tree.specs.declared.token.TokenKind.TheVariants as kind
use Rattle.smv_tree.specs.declared.tree.Expr.{Expr}
use Rattle.smv_tree.specs.declared.tree.Expr.TheVariants as expr
use Rattle.smv_tree.specs.declared.tree.Name.{Name}
use Rattle.smv_tree.specs.Kinds.{is_kind, is_identifier}
use Rattle.smv_phrases.specs.declared.reading.Stop.{Stop}
use Rattle.smv_phrases.specs.declared.reading.Stop.TheVariants.{Refused, NoMemory}
use Rattle.smv_phrases.specs.Reading.{Stops}
use Rattle.smv_phrases.specs.Names.{identifier, identifier_of, name, place_of}
use Rattle.smv_phrases.specs.Lists.{further}
use Rattle.smv_phrases.proofs.OfNames.{begins_same}
use Rattle.smv_phrases.proofs.Repeats.{Repeats}
use Rattle.smv_phrases.proofs.Folds.{gathered}
use Rattle.smv_expressions.specs.Expressions.{Selection, selected_by_all, index_within}
use Rattle.smv_expressions.proofs.OfExpressions.{index_lawful}
use Rattle.smv_parse.specs.Types.{element}
use Rattle.smv_parse.specs.Programs.{parameter_of, declaration, definition, target, assignment, section_form, module_form}
use Rattle.smv_parse.proofs.OfTypes.{further_element_lawful, elements_apart}
use Rattle.smv_parse.proofs.OfPrograms.{further_parameter_lawful, parameters_apart, declaration_lawful, declarations_full, declarations_apart, definition_lawful, definitions_full, definitions_apart, further_constant_lawful, constants_apart, indices_full, indices_apart, assignment_lawful, assignments_full, assignments_apart, section_lawful, sections_full, sections_apart, module_lawful, modules_full, modules_apart}

pub elements : (closed : Bool) → Repeats (further (element closed))
elements closed = record { lawful = further_element_lawful closed; full = refl; apart = elements_apart closed }

pub constants : Repeats (further (to identifier_of identifier))
constants = record { lawful = further_constant_lawful; full = refl; apart = constants_apart }

pub parameters : Repeats (further (to parameter_of identifier))
parameters = record { lawful = further_parameter_lawful; full = refl; apart = parameters_apart }

pub declarations : Repeats (declaration 0)
declarations = record { lawful = declaration_lawful 0; full = declarations_full 0; apart = declarations_apart 0 }

pub declaration_begins : (ts : List Token) → head is_identifier ts ≡ head (declaration 0).first ts
unfolding declaration
declaration_begins ts = begins_same is_identifier ts

pub definitions : Repeats (definition 0)
definitions = record { lawful = definition_lawful 0; full = definitions_full 0; apart = definitions_apart 0 }

pub definition_begins : (ts : List Token) → head is_identifier ts ≡ head (definition 0).first ts
unfolding definition
definition_begins ts = begins_same is_identifier ts

pub indices : (room : ℕ) → Repeats (index_within 0 room)
indices room = record { lawful = index_lawful 0 room; full = indices_full 0 room; apart = indices_apart 0 room }

pub index_begins : (room : ℕ) (ts : List Token) → head (is_kind kind.LeftBracket) ts ≡ head (index_within 0 room).first ts
unfolding index_within
index_begins room ts = begins_same (is_kind kind.LeftBracket) ts

-- the place of a name before what is selected of it
abbrev pub placed : Place → Read Token Expr → Read Token (Place × Expr)
placed p read = read >>= λ y. Ok ((p, y.0), y.1)

abbrev placed_target : (Name × List Selection) × List Token → Read Token (Place × Expr)
placed_target z = Ok ((place_of z.0.0, selected_by_all (expr.Name z.0.0) z.0.1), z.1)

pub target_begins : (room : ℕ) (ts : List Token) (n : Name) (rest : List Token) → name.parse ts ≡ Ok (n, rest)
    → placed (place_of n) (gathered selected_by_all (expr.Name n) ((many (index_within 0 room)).parse rest)) ≡ (target 0 room).parse ts
unfolding target
target_begins room ts n rest h = rw h (go ((many (index_within 0 room)).parse rest))
  where
    go : (read : Read Token (List Selection))
        → placed (place_of n) (gathered selected_by_all (expr.Name n) read)
        ≡ ((read >>= λ y. Ok ((n, y.0), y.1)) >>= λ (z : (Name × List Selection) × List Token). placed_target z)
    go (Ok y) = refl
    go (Err e) = refl

name_refused : (room : ℕ) (ts : List Token) (d : Fault × List Token) → name.parse ts ≡ Err d → (target 0 room).parse ts ≡ Err d
unfolding target
name_refused room ts d e = rw e refl

-- a name that is not read is no target
pub name_stops : (stop : Stop) (room : ℕ) (ts : List Token) → Stops stop (name.parse ts) → Stops stop ((target 0 room).parse ts)
name_stops (Refused fault rest) room ts e = name_refused room ts (fault, rest.now) e
name_stops NoMemory room ts e = tt

-- what is read of the indices is read of the target
pub placed_stops : (stop : Stop) (p : Place) (read : Read Token Expr) (total : Read Token (Place × Expr)) → Stops stop read → placed p read ≡ total → Stops stop total
placed_stops (Refused fault rest) p read total e h = sym h ∙ ap (placed p) e
placed_stops NoMemory p read total e h = tt

pub placed_on : (p : Place) (read next : Read Token Expr) (total : Read Token (Place × Expr)) → next ≡ read → placed p read ≡ total → placed p next ≡ total
placed_on p read next total e h = ap (placed p) e ∙ h

pub placed_ends : (p : Place) (read : Read Token Expr) (e : Expr) (rest : List Token) (total : Read Token (Place × Expr)) → read ≡ Ok (e, rest) → placed p read ≡ total → total ≡ Ok ((p, e), rest)
placed_ends p read e rest total r h = sym h ∙ ap (placed p) r

pub assignments : Repeats (assignment 0)
assignments = record { lawful = assignment_lawful 0; full = assignments_full 0; apart = assignments_apart 0 }

pub sections : Repeats (section_form 0)
sections = record { lawful = section_lawful 0; full = sections_full 0; apart = sections_apart 0 }

pub modules : Repeats (module_form 0)
modules = record { lawful = module_lawful 0; full = modules_full 0; apart = modules_apart 0 }
