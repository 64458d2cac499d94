-- What edges tell of temporal formulas, one node after another.
use Rattle.std.proofs.Common.{◌≡◌, ◌∙◌, ℕ, zero, suc, ◌+◌, ◌-◌, ◌<◌, Bool, true, false, ◌&&◌, ◌||◌, List, [], ◌∷◌, ◌++◌, length, get_or, take, drop, replicate, refl, sym, ap, subst, arith, if◌then◌else◌, length-append}
use Rattle.std.specs.Prelude.{None, Option, Some}
use Rattle.std.specs.List.{list_all, list_any}
use Rattle.std.specs.Option.{is_some, option_or}
use Rattle.std.proofs.lemmas.Bool.{and_parts}
use Rattle.std.proofs.lemmas.List.{get_or-drop, length-drop, length-replicate}
use Rattle.std.proofs.lemmas.List.Elements.{All-replicate}
use Rattle.std.proofs.lemmas.List.Folds.{list_all_more, list_any_more}
use Rattle.std.proofs.lemmas.Option.{slice_get-get_or}
use Rattle.bit_graph.specs.declared.edge.Edge.{Edge}
use Rattle.bit_graph.specs.declared.edge.GraphNode.{GraphNode as Gate}
use Rattle.bit_graph.specs.Growth.{Extends}
use Rattle.bit_graph.specs.Meaning.{edge_value}
use Rattle.smv_tree.specs.declared.place.Place.{Place}
use Rattle.smv_value.specs.declared.operator.Operator.{Operator}
use Rattle.smv_value.specs.declared.value.Value.{Value}
use Rattle.smv_slots.specs.declared.slot.Slot.{Slot}
use Rattle.smv_resolve.specs.declared.node.Naming.{Naming}
use Rattle.smv_resolve.specs.declared.node.ExprNode.{ExprNode}
use Rattle.smv_resolve.specs.Resolved.{Operands, Resolved, last_of, operands_of, part_at, part_of, parts_of, resolved_by}
use Rattle.smv_resolve.proofs.Parts.{length-parts, part_is, parts_of-next}
use Rattle.smv_meaning.specs.declared.outcome.Evaluation.{Evaluation}
use Rattle.smv_meaning.specs.declared.outcome.Evaluation.TheVariants.{Fault, Nothing, Values}
use Rattle.smv_meaning.specs.Formulas.{are_known_formulas, fault_in, formula_fault, formula_faults, is_known, is_known_formula, is_over_formulas}
use Rattle.smv_meaning.specs.Runs.{is_given}
use Rattle.smv_meaning.specs.Tables.{outcome_at, outcomes_of}
use Rattle.smv_meaning.specs.Values.{outcome}
use Rattle.smv_meaning.proofs.Tables.{outcome_at-map}
use Rattle.bit_outcomes.proofs.Kept.{edge_kept}
use Rattle.bit_faults.specs.Formulas.{AllStandIfAny, StandsIfAny, TellsFormula, TellsFormulas, TellsOwn, TellsSome}

-- what is known is given
pub known_given : (o : Evaluation) → is_known o ≡ true → is_given o ≡ true
known_given Nothing known = cc
known_given (Values vs) known = refl
known_given (Fault rule place) known = refl

-- edges lead to nodes as the graph grows, and in the last as in all

pub if_any_kept : (g h : List Gate) → Extends g h → (e : Option Edge) → StandsIfAny g e → StandsIfAny h e
if_any_kept g h extends None s = tt
if_any_kept g h extends (Some e) s = edge_kept g h extends e s

pub all_kept : (g h : List Gate) → Extends g h → (es : List (Option Edge)) → AllStandIfAny g es → AllStandIfAny h es
all_kept g h extends es s = λ i d lt. if_any_kept g h extends (get_or es i d) (s i d lt)

pub last_stand : (g : List Gate) (count : ℕ) (es : List (Option Edge)) → AllStandIfAny g es → AllStandIfAny g (last_of count es)
last_stand g count es stand i d lt =
    let n = length es - count in
    let size = length-drop n es in
    let same : get_or (drop n es) i d ≡ get_or es (n + i) d = get_or-drop n es i d in
    subst (StandsIfAny g) (sym same) (stand (n + i) d (omega (arith, lt, size)))

pub stands_at : (g : List Gate) (es : List (Option Edge)) (k : ℕ) → AllStandIfAny g es → StandsIfAny g (get_or es k None)
stands_at g [] k stand = tt
stands_at g (e ∷ es) zero stand = stand 0 None (omega arith)
stands_at g (e ∷ es) (suc k) stand = stands_at g es k (λ i d lt. stand (suc i) d (omega (arith, lt)))

-- no edge of any node

abbrev pub no_edges : ℕ → List (Option Edge)
no_edges n = replicate n None

pub none_stand : (g : List Gate) (n : ℕ) → AllStandIfAny g (no_edges n)
none_stand g n = All-replicate (StandsIfAny g) n None tt

none_at : (n k : ℕ) → get_or (no_edges n) k None ≡ None
none_at zero k = refl
none_at (suc n) zero = refl
none_at (suc n) (suc k) = none_at n k

pub none_tell : (v : ℕ → Bool) (slots : List Slot) (s u : List Value) (nodes : List ExprNode) → TellsFormulas v slots s u (no_edges (length nodes)) (parts_of nodes)
none_tell v slots s u nodes = record {
  long = length-replicate (length nodes) None ∙ sym (length-parts nodes);
  each = λ k. subst (λ (e : Option Edge). TellsFormula v slots s u e (part_at (parts_of nodes) k)) (sym (none_at (length nodes) k)) tt;
}

-- two operands

pub two_stand : (g : List Gate) (a b : Option Edge) → StandsIfAny g a → StandsIfAny g b → AllStandIfAny g (a ∷ b ∷ [])
two_stand g a b one other zero d lt = one
two_stand g a b one other (suc zero) d lt = other
two_stand g a b one other (suc (suc i)) d lt = absurd (let no : ⊥ = omega (arith, lt) in no)

module _ (v : ℕ → Bool) (slots : List Slot) (s u : List Value) where
  abbrev Told : Option Edge → Resolved → Type 0
  Told e r = TellsFormula v slots s u e r

  abbrev All_told : List (Option Edge) → List Resolved → Type 0
  All_told es rs = TellsFormulas v slots s u es rs

  abbrev At : List (Option Edge) → List Resolved → ℕ → Type 0
  At es rs k = Told (get_or es k None) (part_at rs k)

  abbrev known : Resolved → Bool
  known r = is_known_formula slots s u r

  abbrev faulty : Resolved → Bool
  faulty r = is_some (formula_fault slots s u r)

  abbrev value : Resolved → Evaluation
  value r = outcome slots s u [] r

  -- one more

  at_push : (es : List (Option Edge)) (rs : List Resolved) (e : Option Edge) (r : Resolved) → length es ≡ length rs → ((k : ℕ) → At es rs k) → Told e r → (k : ℕ) → At (es ++ e ∷ []) (rs ++ r ∷ []) k
  at_push [] [] e r long each h zero = h
  at_push [] [] e r long each h (suc k) = tt
  at_push [] (q ∷ rs) e r long each h k = absurd (let no : ⊥ = omega (arith, long) in no)
  at_push (x ∷ es) [] e r long each h k = absurd (let no : ⊥ = omega (arith, long) in no)
  at_push (x ∷ es) (q ∷ rs) e r long each h zero = each 0
  at_push (x ∷ es) (q ∷ rs) e r long each h (suc k) = at_push es rs e r (omega (arith, long)) (λ j. each (suc j)) h k

  told_push : (es : List (Option Edge)) (rs : List Resolved) (e : Option Edge) (r : Resolved) → All_told es rs → Told e r → All_told (es ++ e ∷ []) (rs ++ r ∷ [])
  told_push es rs e r all h = record {
    long = omega (arith, all.long, length-append es (e ∷ []), length-append rs (r ∷ []));
    each = at_push es rs e r all.long all.each h;
  }

  -- the last ones, and two

  told_drop : (n : ℕ) (es : List (Option Edge)) (rs : List Resolved) → All_told es rs → All_told (drop n es) (drop n rs)
  told_drop zero es rs all = all
  told_drop (suc n) [] [] all = all
  told_drop (suc n) [] (r ∷ rs) all = absurd (let no : ⊥ = omega (arith, all.long) in no)
  told_drop (suc n) (e ∷ es) [] all = absurd (let no : ⊥ = omega (arith, all.long) in no)
  told_drop (suc n) (e ∷ es) (r ∷ rs) all = told_drop n es rs (record { long = omega (arith, all.long); each = λ j. all.each (suc j) })

  pub told_last : (count : ℕ) (es : List (Option Edge)) (rs : List Resolved) → All_told es rs → All_told (last_of count es) (last_of count rs)
  told_last count es rs all = subst (λ (n : ℕ). All_told (last_of count es) (drop (n - count) rs)) all.long (told_drop (length es - count) es rs all)

  pub told_two : (a b : Option Edge) (q r : Resolved) → Told a q → Told b r → All_told (a ∷ b ∷ []) (q ∷ r ∷ [])
  told_two a b q r one other = record { long = refl; each = each }
    where
      each : (k : ℕ) → At (a ∷ b ∷ []) (q ∷ r ∷ []) k
      each zero = one
      each (suc zero) = other
      each (suc (suc k)) = tt

  -- operands, one more

  pub some_none : (rs : List Resolved) (e : Edge) → edge_value v e ≡ false → list_all known (take 0 rs) ≡ true → edge_value v e ≡ list_any faulty (take 0 rs)
  some_none rs e is all = is

  pub some_more : (es : List (Option Edge)) (rs : List Resolved) (i : ℕ) (e any more : Edge) → i < length es → get_or es i None ≡ Some e → All_told es rs →
      (list_all known (take i rs) ≡ true → edge_value v any ≡ list_any faulty (take i rs)) → edge_value v more ≡ (edge_value v any || edge_value v e) →
      list_all known (take (i + 1) rs) ≡ true → edge_value v more ≡ list_any faulty (take (i + 1) rs)
  some_more es rs i e any more lt is all before or all_known =
      let within : i < length rs = omega (arith, lt, all.long) in
      let parts = and_parts (list_all known (take i rs)) (known (part_at rs i)) (sym (list_all_more known rs i Resolved.Stuck within) ∙ all_known) in
      let here : known (part_at rs i) ≡ true → edge_value v e ≡ faulty (part_at rs i) = subst (λ (x : Option Edge). Told x (part_at rs i)) is (all.each i) in
      or ∙ (λ j. before parts.0 j || here parts.1 j) ∙ sym (list_any_more faulty rs i Resolved.Stuck within)

  -- operators over formulas, and what is none

  known_list : (rs : List Resolved) → are_known_formulas slots s u (operands_of rs) ≡ list_all known rs
  known_list [] = refl
  known_list (r ∷ rs) = ap (λ (b : Bool). known r && b) (known_list rs)

  either : {A : Type 0} (f g : Option A) → is_some (option_or f g) ≡ (is_some f || is_some g)
  either None g = refl
  either (Some x) g = refl

  fault_list : (rs : List Resolved) → is_some (formula_faults slots s u (operands_of rs)) ≡ list_any faulty rs
  fault_list [] = refl
  fault_list (r ∷ rs) = either (formula_fault slots s u r) (formula_faults slots s u (operands_of rs)) ∙ ap (λ (b : Bool). faulty r || b) (fault_list rs)

  pub over_told : (e : Option Edge) (place : Place) (o : Operator) (rs : List Resolved) → is_over_formulas o ≡ true → TellsSome v slots s u e rs → Told e (Resolved.Apply place o (operands_of rs))
  over_told None place o rs over h = tt
  over_told (Some e) place o rs over h = λ k.
      let all : list_all known rs ≡ true =
      sym (known_list rs) ∙ sym (ap (λ (b : Bool). if b then are_known_formulas slots s u (operands_of rs) else is_known (value (Resolved.Apply place o (operands_of rs)))) over) ∙ k in
      h all ∙ sym (fault_list rs)
      ∙ sym (ap (λ (b : Bool). is_some (if b then formula_faults slots s u (operands_of rs) else fault_in (value (Resolved.Apply place o (operands_of rs))))) over)

  pub own_told : (e : Option Edge) (place : Place) (o : Operator) (rs : Operands) → is_over_formulas o ≡ false → TellsOwn v e (value (Resolved.Apply place o rs)) → Told e (Resolved.Apply place o rs)
  own_told None place o rs under h = tt
  own_told (Some e) place o rs under h = λ k.
      let here : is_known (value (Resolved.Apply place o rs)) ≡ true =
      sym (ap (λ (b : Bool). if b then are_known_formulas slots s u rs else is_known (value (Resolved.Apply place o rs))) under) ∙ k in
      h (known_given (value (Resolved.Apply place o rs)) here)
      ∙ sym (ap (λ (b : Bool). is_some (if b then formula_faults slots s u rs else fault_in (value (Resolved.Apply place o rs)))) under)

  pub named_told : (e : Option Edge) (place : Place) (naming : Naming) (r : Resolved) → TellsOwn v e (value (Resolved.Named place naming r)) → Told e (Resolved.Named place naming r)
  named_told None place naming r h = tt
  named_told (Some e) place naming r h = λ k. h (known_given (value r) k)

  -- nodes, one more

  pub none_told : All_told [] (parts_of [])
  unfolding parts_of
  none_told = record { long = refl; each = λ k. tt }

  pub own_at : (nodes : List ExprNode) (i : ℕ) (d : ExprNode) (mine : Option Edge) → i < length nodes → TellsOwn v mine (outcome_at (outcomes_of slots s u [] nodes) i) →
      TellsOwn v mine (value (resolved_by (parts_of (take i nodes)) (get_or nodes i d)))
  own_at nodes i d mine lt h =
      let n = get_or nodes i d in
      let part : part_of nodes i ≡ resolved_by (parts_of (take i nodes)) n = part_is nodes i n (slice_get-get_or nodes i d lt) in
      subst (TellsOwn v mine) (outcome_at-map slots s u [] (parts_of nodes) i ∙ ap value part) h

  pub next_told : (nodes : List ExprNode) (i : ℕ) (d : ExprNode) (made : List (Option Edge)) (e : Option Edge) → i < length nodes → All_told made (parts_of (take i nodes)) →
      Told e (resolved_by (parts_of (take i nodes)) (get_or nodes i d)) → All_told (made ++ e ∷ []) (parts_of (take (i + 1) nodes))
  next_told nodes i d made e lt so_far h =
      let parts = parts_of (take i nodes) in
      subst (λ (rs : List Resolved). All_told (made ++ e ∷ []) rs) (sym (parts_of-next nodes i d lt)) (told_push made parts e (resolved_by parts (get_or nodes i d)) so_far h)
