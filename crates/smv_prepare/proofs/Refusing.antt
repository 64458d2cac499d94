-- From the questions about items and what came of them to what is said of the program.
use Rattle.std.proofs.Common.{◌≡◌, inl, inr, ℕ, ◌<◌, ◌≤◌, Bool, true, ◌&&◌, List, length, get_or, map, Option, None, Some, slice_get, option_map, is_some, All, sym, ap, subst, ◌∙◌, arith}
use Rattle.std.proofs.lemmas.Bool.{and_parts}
use Rattle.std.proofs.lemmas.List.{length-map}
use Rattle.std.proofs.lemmas.Option.{get_or_from_slice_get, slice_get-map, slice_get_cases, slice_get_within}
use Rattle.clause_core.specs.Assignments.{ClauseTrue, assignment_of}
use Rattle.bit_clauses.specs.declared.deciding.Decided.{Decided}
use Rattle.smv_tree.specs.declared.refusal.Refusal.{Refusal}
use Rattle.smv_tree.specs.declared.tree.Program.{Program}
use Rattle.smv_resolve.specs.declared.item.Item.{Item}
use Rattle.smv_resolve.specs.declared.node.ExprNode.{ExprNode}
use Rattle.smv_resolve.specs.Items.{ResolvedItem, item_by}
use Rattle.smv_slots.specs.Slots.{slots_of}
use Rattle.smv_slots.specs.Slots.{types_of}
use Rattle.smv_meaning.specs.Faults.{item_fault}
use Rattle.smv_meaning.specs.Runs.{are_inputs, is_state}
use Rattle.bit_states.specs.Coding.{inputs_of, next_of, state_of}
use Rattle.bit_states.specs.Layouts.{layout_of}
use Rattle.bit_faults.specs.Mending.{mended}
use Rattle.bit_faults.specs.Questions.{AreFaultQuestions, IsFaultQuestion, NeverFaults, are_of_types, faults_at, judged_items}
use Rattle.fault_search.specs.Answering.{IsFaulty}
use Rattle.sound_check.specs.Questions.{IsQuestion}
use Rattle.fault_texts.specs.Refusals.{TellsFault, refusal_at, refusal_of}
use Rattle.smv_prepare.specs.declared.decoding.Valuation.{Valuation}
use Rattle.smv_prepare.specs.Decoding.{IsValuation}
use Rattle.smv_prepare.specs.Preparing.{IsRefusedByFaults}

some_at : {A : Type 0} (xs : List A) (i : ℕ) → i < length xs → (x : A) × (slice_get xs i ≡ Some x) × ((d : A) → get_or xs i d ≡ x)
some_at xs i less =
    elim (slice_get_cases xs i).1 [
      | inl some ↦ (some.0, some.2, λ d. get_or_from_slice_get xs i some.0 d some.2)
      | inr past ↦ let le : length xs ≤ i = past.0 in absurd (omega (arith, less, le))
    ]

question_asked : (p : Program) (x : ResolvedItem) (q : Option Decided) → IsFaultQuestion p x q → IsQuestion q
question_asked p x None h = tt
question_asked p x (Some c) h = h.within

-- the questions about items are questions
pub questions_asked : (p : Program) (questions : List (Option Decided)) → AreFaultQuestions p questions → All IsQuestion questions
questions_asked p questions asked i d less =
    let q = some_at questions i less in
    let long = asked.long in
    let x = some_at (judged_items p) i (omega (arith, less, long)) in
    subst IsQuestion (sym (q.2 d)) (question_asked p x.0 q.0 (asked.each i x.0 q.0 x.1 q.1))

-- the valuation that bits are at which the item faults
module _ (p : Program) (x : ResolvedItem) (b : ℕ → Bool) (v : Valuation) (is : IsValuation (layout_of p) b v) (met : faults_at p x b ≡ true) where
  parts : (are_of_types p b ≡ true) × (is_some (item_fault (types_of p) (slots_of p) (state_of p b) (inputs_of p b) (next_of p b) x) ≡ true)
  parts = and_parts (are_of_types p b) (is_some (item_fault (types_of p) (slots_of p) (state_of p b) (inputs_of p b) (next_of p b) x)) met

  -- the refusal that is found tells a fault of the item
  pub told_there : (r : Refusal) → refusal_at p v.state v.inputs v.next x ≡ Some r → TellsFault p x r
  told_there r told =
      let typed = and_parts (is_state p (state_of p b) && are_inputs p (inputs_of p b)) (is_state p (next_of p b)) parts.0 in
      let both = and_parts (is_state p (state_of p b)) (are_inputs p (inputs_of p b)) typed.0 in
      record {
        s = v.state;
        u = v.inputs;
        t = v.next;
        state = ap (is_state p) is.state ∙ both.0;
        inputs = ap (are_inputs p) is.inputs ∙ both.1;
        next = ap (is_state p) is.next ∙ typed.1;
        told = told;
      }

  -- and one is found
  pub refused_there : refusal_at p v.state v.inputs v.next x ≡ None → ⊥
  refused_there none =
      let same : item_fault (types_of p) (slots_of p) v.state v.inputs v.next x ≡ item_fault (types_of p) (slots_of p) (state_of p b) (inputs_of p b) (next_of p b) x =
      ap (λ s. item_fault (types_of p) (slots_of p) s v.inputs v.next x) is.state
      ∙ ap (λ u. item_fault (types_of p) (slots_of p) (state_of p b) u v.next x) is.inputs
      ∙ ap (λ t. item_fault (types_of p) (slots_of p) (state_of p b) (inputs_of p b) t x) is.next in
      never (item_fault (types_of p) (slots_of p) v.state v.inputs v.next x) (refusal_of p v.state v.inputs v.next x) (ap is_some same ∙ parts.1) none
    where
      never : {A B : Type 0} (o : Option A) (f : A → B) → is_some o ≡ true → option_map f o ≡ None → ⊥
      never None f some e = absurd cc
      never (Some a) f some e = absurd cc

-- the item of a question that is met is there
pub item_there : (p : Program) (nodes : List ExprNode) (items : List Item) (questions : List (Option Decided)) (number : ℕ) (model : List Bool) → map (item_by nodes) items ≡ judged_items p
    → AreFaultQuestions p questions → IsFaulty questions number model → number < length items
item_there p nodes items questions number model judged asked faulty =
    let within = slice_get_within questions number (Some faulty.question) faulty.asked in
    let long = asked.long in
    let same = ap length judged in
    let size = length-map items (item_by nodes) in
    omega (arith, within, long, same, size)

-- what the laws of questions say of those of a program
pub record AreJudges (p : Program) (questions : List (Option Decided)) (model : List Bool) (number : ℕ) : Type 0 where
  pub met : (x : ResolvedItem) (c : Decided) → IsFaultQuestion p x (Some c) → All (ClauseTrue (assignment_of model)) c.clauses → faults_at p x (mended p (assignment_of model)) ≡ true
  pub before : (j : ℕ) (x : ResolvedItem) → j < number → slice_get (judged_items p) j ≡ Some x → NeverFaults p x

-- The item of this number is judged, and its question is met: it faults at the valuation that the mended bits are.
module _ (p : Program) (nodes : List ExprNode) (items : List Item) (questions : List (Option Decided)) (number : ℕ) (item : Item) (model : List Bool) (v : Valuation)
    (judged : map (item_by nodes) items ≡ judged_items p) (here : slice_get items number ≡ Some item) (asked : AreFaultQuestions p questions)
    (faulty : IsFaulty questions number model) (is : IsValuation (layout_of p) (mended p (assignment_of model)) v) (judges : AreJudges p questions model number) where
  at_number : slice_get (judged_items p) number ≡ Some (item_by nodes item)
  at_number = ap (λ (xs : List ResolvedItem). slice_get xs number) (sym judged) ∙ slice_get-map (item_by nodes) items number ∙ ap (option_map (item_by nodes)) here

  faults : faults_at p (item_by nodes item) (mended p (assignment_of model)) ≡ true
  faults = judges.met (item_by nodes item) faulty.question (asked.each number (item_by nodes item) (Some faulty.question) at_number faulty.asked) faulty.met

  -- the refusal that is found is that of the program
  pub refused_so : (r : Refusal) → refusal_at p v.state v.inputs v.next (item_by nodes item) ≡ Some r → IsRefusedByFaults p r
  refused_so r told = record {
    number = number;
    item = item_by nodes item;
    judged = at_number;
    before = judges.before;
    told = told_there p (item_by nodes item) (mended p (assignment_of model)) v is faults r told;
  }

  -- and one is found
  pub refusal_found : refusal_at p v.state v.inputs v.next (item_by nodes item) ≡ None → ⊥
  refusal_found none = refused_there p (item_by nodes item) (mended p (assignment_of model)) v is faults none
