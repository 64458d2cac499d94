-- The loops over expressions in a list, over branches and over selections.
use Rattle.std.proofs.Common.{◌≡◌, ℕ, ◌<◌, Bool, true, false, List, [], ◌∷◌, ◌++◌, length, Ok, Err, refl, subst, append_assoc, inl, inr}
use Rattle.std.specs.Prelude.{◌||◌}
use Rattle.std.proofs.lemmas.List.{append-nil}
use Rattle.phrase_forms.specs.declared.fault.Fault.{Fault}
use Rattle.phrase_forms.specs.Forms.{Form, Read, head, many, to, ◌>>=◌}
use Rattle.phrase_forms.proofs.Lists.{bind_ok, bind_err, ok_is}
use Rattle.smv_tree.specs.declared.token.Token.{Token}
use Rattle.smv_tree.specs.declared.token.TokenKind.TheVariants as kind
use Rattle.smv_tree.specs.declared.tree.Expr.{Expr}
use Rattle.smv_tree.specs.Kinds.{is_kind}
use Rattle.smv_phrases.specs.declared.reading.Stop.{Stop}
use Rattle.smv_phrases.specs.declared.reading.Stop.TheVariants.{Refused, NoMemory}
use Rattle.smv_phrases.specs.Reading.{Stops}
use Rattle.smv_phrases.specs.Lists.{further}
use Rattle.smv_phrases.proofs.OfNames.{begins_same}
use Rattle.smv_phrases.proofs.Repeats.{Repeats, loop_shortens}
use Rattle.smv_phrases.proofs.Folds.{Gathers, gathered, fold_on, fold_stops}
use Rattle.smv_expressions.specs.Tokens.{begins_expression}
use Rattle.smv_expressions.specs.Expressions.{Selection, branch, by_turns, turns, primary, selection, selected_by, selected_by_all, selected, is_zero, phrases, under, expression_within}
use Rattle.smv_expressions.proofs.OfExpressions.{further_lawful, further_apart, branch_lawful, branch_full, branch_apart, selection_lawful, phrases_sound, keeps}

pub expressions : (room : ℕ) → Repeats (further (expression_within 0 room))
expressions room = record { lawful = further_lawful 0 room; full = refl; apart = further_apart 0 room }

-- A loop whose step makes the next state at once.
module _ {A S : Type 0} (a : Form Token A) (repeats : Repeats a) (all : S → List A → S) (one : S → A → S) (gathers : Gathers all one) where
  pub step_on : (s : S) (ts : List Token) (t : S) (rest : List Token) (total : Read Token S) → true ≡ head a.first ts → (to (one s) a).parse ts ≡ Ok (t, rest)
      → gathered all s ((many a).parse ts) ≡ total → gathered all t ((many a).parse rest) ≡ total
  step_on s ts t rest total begun e so_far =
      let p = bind_ok (a.parse ts) (λ (x : A × List Token). Ok (one s x.0, x.1)) (t, rest) e in
      let w : S × List Token = (one s p.0.0, p.0.1) in
      subst (λ (u : S × List Token). gathered all u.0 ((many a).parse u.1) ≡ total) (ok_is w (t, rest) p.2) (fold_on a repeats all one gathers s ts p.0.0 p.0.1 total begun p.1 so_far)

  pub step_shortens : (s : S) (ts : List Token) (t : S) (rest : List Token) → (to (one s) a).parse ts ≡ Ok (t, rest) → length rest < length ts
  step_shortens s ts t rest e =
      let p = bind_ok (a.parse ts) (λ (x : A × List Token). Ok (one s x.0, x.1)) (t, rest) e in
      let w : S × List Token = (one s p.0.0, p.0.1) in
      subst (λ (u : S × List Token). length u.1 < length ts) (ok_is w (t, rest) p.2) (loop_shortens a repeats ts p.0.0 p.0.1 p.1)

  step_refused : (s : S) (ts : List Token) (d : Fault × List Token) → (to (one s) a).parse ts ≡ Err d → a.parse ts ≡ Err d
  step_refused s ts d e = elim (bind_err (a.parse ts) (λ (x : A × List Token). Ok (one s x.0, x.1)) d e) [ inl h ↦ h | inr p ↦ absurd (cc (p.2)) ]

  stopped : (stop : Stop) (s : S) (ts : List Token) → Stops stop ((to (one s) a).parse ts) → Stops stop (a.parse ts)
  stopped (Refused fault rest) s ts e = step_refused s ts (fault, rest.now) e
  stopped NoMemory s ts e = tt

  pub step_stops : (stop : Stop) (s : S) (ts : List Token) (total : Read Token S) → true ≡ head a.first ts → Stops stop ((to (one s) a).parse ts)
      → gathered all s ((many a).parse ts) ≡ total → Stops stop total
  step_stops stop s ts total begun e so_far = fold_stops a repeats all one gathers stop s ts total begun (stopped stop s ts e) so_far

-- conditions and values behind those before them
abbrev pub with_turns : List Expr → List (Expr × Expr) → List Expr
with_turns all branches = all ++ by_turns branches

abbrev pub with_turn : List Expr → Expr × Expr → List Expr
with_turn all b = all ++ (b.0 ∷ b.1 ∷ [])

pub turns_gather : Gathers with_turns with_turn
turns_gather = record { none = λ all. append-nil all; more = λ all b branches. simp append_assoc }

pub turns_begin : (e : Form Token Expr) (ts : List Token) (b : Expr × Expr) (rest : List Token) → (branch e).parse ts ≡ Ok (b, rest)
    → gathered with_turns (b.0 ∷ b.1 ∷ []) ((many (branch e)).parse rest) ≡ (turns e).parse ts
turns_begin e ts b rest h = rw h (go ((many (branch e)).parse rest))
  where
    go : (read : Read Token (List (Expr × Expr)))
        → gathered with_turns (b.0 ∷ b.1 ∷ []) read ≡ ((read >>= λ y. Ok ((b, y.0), y.1)) >>= λ (z : ((Expr × Expr) × List (Expr × Expr)) × List Token). Ok (by_turns (z.0.0 ∷ z.0.1), z.1))
    go (Ok y) = refl
    go (Err e) = refl

pub branches : (room : ℕ) → Repeats (branch (expression_within 0 room))
branches room = record { lawful = branch_lawful 0 room; full = branch_full 0 room; apart = branch_apart 0 room }

or_false : (b : Bool) → (b || false) ≡ b
or_false true = refl
or_false false = refl

pub branch_begins : (room : ℕ) (ts : List Token) → head begins_expression ts ≡ head (branch (expression_within 0 room)).first ts
unfolding expression_within
branch_begins room [] = refl
branch_begins room (t ∷ ts) = rw (or_false (begins_expression t)) refl

pub selections_gather : Gathers selected_by_all selected_by
selections_gather = record { none = λ e. refl; more = λ e s selections. refl }

pub selected_begins : (room : ℕ) (ts : List Token) (e : Expr) (rest : List Token) → (primary (is_zero room) (under 0 room)).parse ts ≡ Ok (e, rest)
    → gathered selected_by_all e ((many (selection (is_zero room) (under 0 room).expression)).parse rest) ≡ (selected (is_zero room) (under 0 room)).parse ts
unfolding selected
selected_begins room ts e rest h = rw h (go ((many (selection (is_zero room) (under 0 room).expression)).parse rest))
  where
    go : (read : Read Token (List Selection))
        → gathered selected_by_all e read ≡ ((read >>= λ y. Ok ((e, y.0), y.1)) >>= λ (z : (Expr × List Selection) × List Token). Ok (selected_by_all z.0.0 z.0.1, z.1))
    go (Ok y) = refl
    go (Err e) = refl

pub selection_begins : (room : ℕ) (ts : List Token) → head (is_kind kind.LeftBracket) ts ≡ head (selection (is_zero room) (under 0 room).expression).first ts
selection_begins room ts = begins_same (is_kind kind.LeftBracket) ts

pub selections : (room : ℕ) → Repeats (selection (is_zero room) (under 0 room).expression)
selections room = record { lawful = selection_lawful (is_zero room) (phrases 0 room).expression (keeps (phrases 0 room) (phrases_sound 0 room)).expression; full = refl; apart = λ t e. refl }
