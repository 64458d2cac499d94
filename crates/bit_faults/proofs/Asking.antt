-- Questions, one more after another, and what follows where they cannot be met.
use Rattle.std.proofs.Common.{◌≡◌, ◌∙◌, ℕ, zero, suc, ◌+◌, ◌<◌, Bool, true, ◌&&◌, List, [], ◌∷◌, ◌++◌, length, get_or, map, take, refl, sym, ap, subst, arith, length-append}
use Rattle.std.specs.Prelude.{All, None, Option, Some, slice_get}
use Rattle.std.specs.Option.{is_none, is_some}
use Rattle.std.proofs.lemmas.List.{map-append, take_more}
use Rattle.std.proofs.lemmas.Option.{slice_get-get_or, slice_get_within}
use Rattle.clause_core.specs.Assignments.{ClauseTrue}
use Rattle.bit_clauses.specs.declared.deciding.Decided.{Decided}
use Rattle.smv_tree.specs.declared.place.Place.{Place}
use Rattle.smv_tree.specs.declared.tree.Program.{Program}
use Rattle.smv_value.specs.declared.value.FaultRule.{FaultRule}
use Rattle.smv_value.specs.declared.value.Value.{Value}
use Rattle.smv_resolve.specs.declared.item.Item.{Item}
use Rattle.smv_resolve.specs.declared.node.ExprNode.{ExprNode}
use Rattle.smv_resolve.specs.Items.{ResolvedItem, item_by}
use Rattle.smv_slots.specs.Slots.{slots_of}
use Rattle.smv_slots.specs.Slots.{types_of}
use Rattle.smv_meaning.specs.Faults.{IsFaultFree, item_fault}
use Rattle.smv_meaning.specs.Runs.{are_inputs, is_state}
use Rattle.bit_states.specs.Coding.{inputs_of, next_of, state_of}
use Rattle.bit_states.specs.Layouts.{HasTypes}
use Rattle.bit_faults.specs.Mending.{mended}
use Rattle.bit_faults.specs.Questions.{AreFaultQuestions, AreQuestions, CanNeverBeMet, IsFaultQuestion, NeverFaults, faults_at, judged_items}
use Rattle.bit_faults.proofs.Bits.{AreBits, bits_of}
use Rattle.bit_faults.proofs.Judging.{all_judged}

-- one more

pub questions_none : (p : Program) → AreQuestions p [] []
questions_none p = record { long = refl; each = λ j x q at there. cc }

module _ (p : Program) where
  one_more : (xs : List ResolvedItem) (qs : List (Option Decided)) (x : ResolvedItem) (q : Option Decided) → length qs ≡ length xs →
      ((j : ℕ) (y : ResolvedItem) (r : Option Decided) → slice_get xs j ≡ Some y → slice_get qs j ≡ Some r → IsFaultQuestion p y r) → IsFaultQuestion p x q →
      (j : ℕ) (y : ResolvedItem) (r : Option Decided) → slice_get (xs ++ x ∷ []) j ≡ Some y → slice_get (qs ++ q ∷ []) j ≡ Some r → IsFaultQuestion p y r
  one_more [] [] x q long each last zero y r at there =
      subst (IsFaultQuestion p y) (let e : q ≡ r = cc in e) (subst (λ (z : ResolvedItem). IsFaultQuestion p z q) (let e : x ≡ y = cc in e) last)
  one_more [] [] x q long each last (suc j) y r at there = cc
  one_more [] (r ∷ qs) x q long each last j y s at there = absurd (let no : ⊥ = omega (arith, long) in no)
  one_more (z ∷ xs) [] x q long each last j y s at there = absurd (let no : ⊥ = omega (arith, long) in no)
  one_more (z ∷ xs) (r ∷ qs) x q long each last zero y s at there = each 0 y s at there
  one_more (z ∷ xs) (r ∷ qs) x q long each last (suc j) y s at there =
      one_more xs qs x q (omega (arith, long)) (λ k w v a b. each (suc k) w v a b) last j y s at there

  pub questions_more : (xs : List ResolvedItem) (qs : List (Option Decided)) (x : ResolvedItem) (q : Option Decided) → AreQuestions p xs qs → IsFaultQuestion p x q →
      AreQuestions p (xs ++ x ∷ []) (qs ++ q ∷ [])
  questions_more xs qs x q are last = record {
    long = omega (arith, are.long, length-append xs (x ∷ []), length-append qs (q ∷ []));
    each = one_more xs qs x q are.long are.each last;
  }

  -- one item more of a list
  pub questions_next : (nodes : List ExprNode) (items : List Item) (i : ℕ) (d : Item) (qs : List (Option Decided)) (q : Option Decided) → i < length items →
      AreQuestions p (map (item_by nodes) (take i items)) qs → IsFaultQuestion p (item_by nodes (get_or items i d)) q → AreQuestions p (map (item_by nodes) (take (i + 1) items)) (qs ++ q ∷ [])
  questions_next nodes items i d qs q lt are last =
      subst (λ (xs : List ResolvedItem). AreQuestions p xs (qs ++ q ∷ []))
      (sym (ap (map (item_by nodes)) (take_more items i d lt) ∙ map-append (item_by nodes) (take i items) (get_or items i d ∷ [])))
      (questions_more (map (item_by nodes) (take i items)) qs (item_by nodes (get_or items i d)) q are last)

-- what cannot be met

abbrev Fault : Type 0
Fault = FaultRule × Place

module _ (p : Program) (has : HasTypes p) where
  abbrev fault_of : ResolvedItem → List Value → List Value → List Value → Option Fault
  fault_of x s u t = item_fault (types_of p) (slots_of p) s u t x

  no_fault : (o : Option Fault) → (is_some o ≡ true → ⊥) → o ≡ None
  no_fault None none = refl
  no_fault (Some f) none = absurd (none refl)

  three : (a b c d : Bool) → a ≡ true → b ≡ true → c ≡ true → d ≡ true → ((a && b && c) && d) ≡ true
  three a b c d one two last whole = λ i. (one i && two i && last i) && whole i

  pub never : (x : ResolvedItem) (q : Option Decided) → IsFaultQuestion p x q → ((c : Decided) → q ≡ Some c → CanNeverBeMet c.clauses) → NeverFaults p x
  never x None is none = is
  never x (Some c) is none = λ s u t from given to.
      let at : AreBits p s u t = bits_of p has s u t from given to in
      no_fault (fault_of x s u t) (λ faulty.
      let same : fault_of x (state_of p at.bits) (inputs_of p at.bits) (next_of p at.bits) ≡ fault_of x s u t = (λ i. fault_of x (at.state i) (at.inputs i) (at.next i)) in
      let faults : faults_at p x at.bits ≡ true =
      three (is_state p (state_of p at.bits)) (are_inputs p (inputs_of p at.bits)) (is_state p (next_of p at.bits)) (is_some (fault_of x (state_of p at.bits) (inputs_of p at.bits) (next_of p at.bits)))
      (ap (is_state p) at.state ∙ from) (ap (are_inputs p) at.inputs ∙ given) (ap (is_state p) at.next ∙ to) (ap is_some same ∙ faulty) in
      let met = (is.decides.meets at.bits).1 (is.met at.bits faults) in
      none c refl met.0 met.2)

  module _ (qs : List (Option Decided)) (are : AreFaultQuestions p qs) where
    -- the question of this number
    asked : (j : ℕ) (x : ResolvedItem) → slice_get (judged_items p) j ≡ Some x → (q : Option Decided) × (slice_get qs j ≡ Some q)
    asked j x at =
        let lt : j < length (judged_items p) = slice_get_within (judged_items p) j x at in
        (get_or qs j None, slice_get-get_or qs j None (omega (arith, lt, are.long)))

    one_never : (j : ℕ) (x : ResolvedItem) → slice_get (judged_items p) j ≡ Some x → ((c : Decided) → slice_get qs j ≡ Some (Some c) → CanNeverBeMet c.clauses) → NeverFaults p x
    one_never j x at none =
        let q = asked j x at in
        never x q.0 (are.each j x q.0 at q.1) (λ c is. none c (q.1 ∙ ap Some is))

    pub before_never : (n : ℕ) → ((j : ℕ) (c : Decided) → j < n → slice_get qs j ≡ Some (Some c) → CanNeverBeMet c.clauses) → (j : ℕ) (x : ResolvedItem) → j < n →
        slice_get (judged_items p) j ≡ Some x → NeverFaults p x
    before_never n none j x lt at = one_never j x at (λ c is. none j c lt is)

    pub all_never : ((j : ℕ) (c : Decided) → slice_get qs j ≡ Some (Some c) → CanNeverBeMet c.clauses) → IsFaultFree p
    all_never none = λ s u t from given to.
        all_judged (λ (x : ResolvedItem). is_none (fault_of x s u t)) p (λ j x at. ap is_none (one_never j x at (λ c is. none j c is) s u t from given to))

-- what is met
pub one_met : (p : Program) (x : ResolvedItem) (c : Decided) (a : ℕ → Bool) → IsFaultQuestion p x (Some c) → All (ClauseTrue a) c.clauses → faults_at p x (mended p a) ≡ true
one_met p x c a is met = is.faulty a ((is.decides.meets a).0 (a, (λ k lt. refl), met))
