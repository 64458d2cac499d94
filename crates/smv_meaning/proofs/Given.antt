-- What a typed program assigns, asks for and claims gives values or faults.
use Rattle.std.proofs.Common.{◌≡◌, ◌∙◌, ℕ, zero, suc, ◌<◌, Bool, true, false, ◌&&◌, if◌then◌else◌, List, [], ◌∷◌, length, Option, slice_index_or, refl, sym, ap, arith}
use Rattle.std.specs.List.{Contains, list_all}
use Rattle.smv_tree.specs.declared.tree.Program.{Program}
use Rattle.smv_tree.specs.declared.tree.Expr.{Expr}
use Rattle.smv_tree.specs.declared.tree.SpecificationKind.TheVariants as claim
use Rattle.smv_value.specs.declared.value.Value.{Value}
use Rattle.smv_resolve.specs.declared.item.ItemKind.{ItemKind}
use Rattle.smv_resolve.specs.declared.item.ItemKind.TheVariants as item
use Rattle.smv_resolve.specs.Items.{ResolvedItem}
use Rattle.smv_resolve.specs.Resolved.{Resolved, resolved}
use Rattle.smv_layout.specs.Layout.{items_of, laid_expression}
use Rattle.smv_slots.specs.declared.slot.Slot.{Slot}
use Rattle.smv_slots.specs.Slots.{slots_of}
use Rattle.smv_meaning.specs.declared.outcome.Evaluation.{Evaluation}
use Rattle.smv_meaning.specs.declared.outcome.Evaluation.TheVariants.{Fault, Nothing, Values}
use Rattle.smv_meaning.specs.Answers.{GivesWhereTyped, looked_at}
use Rattle.smv_meaning.specs.Faults.{speaks_of_paths}
use Rattle.smv_meaning.specs.Formulas.{is_known}
use Rattle.smv_meaning.specs.Runs.{AllKnown, is_given, is_known_by, is_known_item, is_single, item_outcome, outcome_of_target, speaks_of_step}
use Rattle.smv_meaning.specs.Values.{outcome, outcome_in}

both : (a b : Bool) → (a && b) ≡ true → (a ≡ true) × (b ≡ true)
both true b h = (refl, h)
both false b h = absurd cc

-- an element of a list whose elements all pass the test
passes : {X : Type 0} (test : X → Bool) (xs : List X) (k : ℕ) (x : X) → list_all test xs ≡ true → k < length xs → slice_index_or xs k x ≡ x → test x ≡ true
passes test [] k x all within is = absurd (omega (arith, within))
passes test (y ∷ xs) zero x all within is = ap test (sym is) ∙ (both (test y) (list_all test xs) all).0
passes test (y ∷ xs) (suc k) x all within is = passes test xs k x (both (test y) (list_all test xs) all).1 (omega (arith, within)) is

-- TRUE, FALSE or a fault is values or a fault
known_given : (o : Evaluation) → is_known o ≡ true → is_given o ≡ true
known_given (Values vs) h = refl
known_given (Fault rule place) h = refl
known_given Nothing h = absurd cc

item_given : (slots : List Slot) (s v w : List Value) (target : Option Resolved) (e : Resolved) (kind : ItemKind) → speaks_of_paths kind ≡ false → is_known_by slots s v w target e kind ≡ true →
    is_given (item_outcome slots s v w e kind) ≡ true
item_given slots s v w target e (item.Assignment which) plain h =
    (both (is_single (outcome_of_target slots s target)) (is_given (item_outcome slots s v w e (item.Assignment which))) h).1
item_given slots s v w target e (item.Constraint which) plain h = known_given (item_outcome slots s v w e (item.Constraint which)) h
item_given slots s v w target e (item.Specification claim.Invariant) plain h = known_given (outcome_in slots s e) h
item_given slots s v w target e (item.Specification claim.Temporal) plain h = absurd cc

looked_by : (slots : List Slot) (s v w : List Value) (e : Resolved) (b : Bool) →
    outcome slots s (if b then v else []) (if b then w else []) e ≡ (if b then outcome slots s v w e else outcome_in slots s e)
looked_by slots s v w e true = refl
looked_by slots s v w e false = refl

-- the outcome of what an item looks at
looked : (slots : List Slot) (s u t v w : List Value) (e : Resolved) (kind : ItemKind) → u ≡ looked_at kind v → t ≡ looked_at kind w → outcome slots s u t e ≡ item_outcome slots s v w e kind
looked slots s u t v w e kind is there =
    ap (λ (l : List Value). outcome slots s l t e) is ∙ ap (λ (l : List Value). outcome slots s (looked_at kind v) l e) there ∙ looked_by slots s v w e (speaks_of_step kind)

pub given_where_typed : (p : Program) (at : ℕ) (e : Expr) (s u t : List Value) (o : Evaluation) → AllKnown p → o ≡ outcome (slots_of p) s u t (laid_expression p (resolved p at e)) →
    GivesWhereTyped p at e s u t o
given_where_typed p at e s u t o known is = λ x v w among same plain state inputs next looks there.
    let one : is_known_item (slots_of p) s v w x ≡ true =
    passes (is_known_item (slots_of p) s v w) (items_of p) among.0 x (known s v w state inputs next) among.1 among.2 in
    let told : o ≡ item_outcome (slots_of p) s v w x.value x.kind =
    is ∙ ap (λ (r : Resolved). outcome (slots_of p) s u t r) (sym same) ∙ looked (slots_of p) s u t v w x.value x.kind looks there in
    ap is_given told ∙ item_given (slots_of p) s v w x.target x.value x.kind plain one
