-- Bindings tell just the values of which they are made.
use Rattle.std.proofs.Common.{◌≡◌, inl, inr, ℕ, zero, suc, true, List, [], ◌∷◌, length, map, slice_get, Option, None, Some, refl, sym, ap, ◌∙◌, arith, bytes_eq}
use lib.Dec.{eqb}
use Rattle.std.specs.List.{list_all, zip}
use Rattle.std.proofs.lemmas.Bool.{and_parts, cases_Bool, cond-false, cond-true, eqb-true}
use Rattle.std.proofs.lemmas.Slice.Eq.{bytes_eq-Decides}
use Rattle.smv_tree.specs.declared.tree.Program.{Program}
use Rattle.smv_value.specs.declared.value.Value.{Value}
use Rattle.value_types.specs.declared.value_type.ValueType.{ValueType}
use Rattle.value_types.specs.Types.{is_type}
use Rattle.value_texts.specs.Told.{told_text}
use Rattle.value_texts.proofs.Codes.{read_told, reading}
use Rattle.smv_slots.specs.declared.slot.Slot.{Slot}
use Rattle.smv_meaning.specs.Runs.{fits, in_type}
use Rattle.trace_replay.specs.declared.columns.Column.{Column}
use Rattle.trace_replay.specs.declared.entry.Binding.{Binding}
use Rattle.trace_replay.specs.Rows.{AreTypes, Terms, binding_of, bindings_of, cell_read, column_of, in_front, row_read, terms_of, typed_read}

typed_told : (names : List (List ℕ)) (t : Option ValueType) (text : List ℕ) (v : Value) → typed_read names t text ≡ Some v → told_text names v ≡ text
typed_told names None text v e = absurd (let never : ⊥ = cc in never)
typed_told names (Some t) text v e = read_told names t text v e

cell_told : (terms : Terms) (c : Column) (b : Binding) (v : Value) → cell_read terms c b ≡ Some v → b ≡ binding_of terms c v
cell_told terms c b v e = elim (cases_Bool (bytes_eq c.name b.name)) [
  | inl hit ↦
      let name : c.name ≡ b.name = (bytes_eq-Decides c.name b.name).0 hit in
      let read : Option Value = typed_read terms.names (slice_get terms.types c.declared) b.value in
      let text : b.value ≡ told_text terms.names v = sym (typed_told terms.names (slice_get terms.types c.declared) b.value v (sym (cond-true (bytes_eq c.name b.name) read None hit) ∙ e)) in
      let made : List ℕ → List ℕ → Binding = λ n x. record { name = n; value = x } in
      ap (λ (n : List ℕ). made n b.value) (sym name) ∙ ap (λ (x : List ℕ). made c.name x) text
  | inr never ↦
      let is : None ≡ Some v = sym (cond-false (bytes_eq c.name b.name) (typed_read terms.names (slice_get terms.types c.declared) b.value) None never) ∙ e in
      absurd (let clash : ⊥ = cc in clash)
]

pub record InFront (v : Option Value) (ws : Option (List Value)) (vs : List Value) : Type 0 where
  pub first : Value
  pub more : List Value
  pub is_first : v ≡ Some first
  pub are_more : ws ≡ Some more
  pub all : first ∷ more ≡ vs

in_front-parts : (v : Option Value) (ws : Option (List Value)) (vs : List Value) → in_front v ws ≡ Some vs → InFront v ws vs
in_front-parts None ws vs e = absurd (let never : ⊥ = cc in never)
in_front-parts (Some v) None vs e = absurd (let never : ⊥ = cc in never)
in_front-parts (Some v) (Some ws) vs e = record { first = v; more = ws; is_first = refl; are_more = refl; all = let same : v ∷ ws ≡ vs = cc in same }

-- a row tells only the values of which it is made
pub row_told : (terms : Terms) (cs : List Column) (bs : List Binding) (vs : List Value) → row_read terms cs bs ≡ Some vs → bindings_of terms cs vs ≡ bs
row_told terms [] [] vs e = refl
row_told terms [] (b ∷ bs) vs e = absurd (let never : ⊥ = cc in never)
row_told terms (c ∷ cs) [] vs e = absurd (let never : ⊥ = cc in never)
row_told terms (c ∷ cs) (b ∷ bs) vs e =
    let parts = in_front-parts (cell_read terms c b) (row_read terms cs bs) vs e in
    ap (bindings_of terms (c ∷ cs)) (sym parts.all)
    ∙ ap (λ (x : Binding). x ∷ bindings_of terms cs parts.more) (sym (cell_told terms c b parts.first parts.is_first))
    ∙ ap (λ (xs : List Binding). b ∷ xs) (row_told terms cs bs parts.more parts.are_more)

-- a type among types
pub among_types : (types : List ValueType) (n : ℕ) (t : ValueType) → list_all is_type types ≡ true → slice_get types n ≡ Some t → is_type t ≡ true
among_types [] n t all e = absurd (let never : ⊥ = cc in never)
among_types (x ∷ types) zero t all e = let same : x ≡ t = cc in ap is_type (sym same) ∙ (and_parts (is_type x) (list_all is_type types) all).0
among_types (x ∷ types) (suc n) t all e = among_types types n t (and_parts (is_type x) (list_all is_type types) all).1 e

pub terms_types : (p : Program) → AreTypes p → list_all is_type (terms_of p).types ≡ true
unfolding terms_of
terms_types p types = types

typed_back : (names : List (List ℕ)) (t : Option ValueType) (v : Value) → ((x : ValueType) → t ≡ Some x → is_type x ≡ true) → in_type t v ≡ true → typed_read names t (told_text names v) ≡ Some v
typed_back names None v typed h = absurd (let never : ⊥ = cc in never)
typed_back names (Some t) v typed h = (reading names t (typed t refl)).back v h

module _ (p : Program) (types : AreTypes p) where
  cell_back : (slot : Slot) (v : Value) → in_type (slice_get (terms_of p).types slot.declared) v ≡ true → cell_read (terms_of p) (column_of p slot) (binding_of (terms_of p) (column_of p slot) v) ≡ Some v
  cell_back slot v h =
      let names = (terms_of p).names in
      let t = slice_get (terms_of p).types slot.declared in
      cond-true (bytes_eq (column_of p slot).name (column_of p slot).name) (typed_read names t (told_text names v)) None ((bytes_eq-Decides (column_of p slot).name (column_of p slot).name).1 refl)
      ∙ typed_back names t v (λ x is. among_types (terms_of p).types slot.declared x (terms_types p types) is) h

  row_made : (slots : List Slot) (s : List Value) → length slots ≡ length s → list_all (λ (pair : Slot × Value). in_type (slice_get (terms_of p).types pair.0.declared) pair.1) (zip slots s) ≡ true
      → row_read (terms_of p) (map (column_of p) slots) (bindings_of (terms_of p) (map (column_of p) slots) s) ≡ Some s
  row_made [] [] long h = refl
  row_made [] (v ∷ s) long h = absurd (let never : ⊥ = omega (arith, long) in never)
  row_made (slot ∷ slots) [] long h = absurd (let never : ⊥ = omega (arith, long) in never)
  row_made (slot ∷ slots) (v ∷ s) long h =
      let both = and_parts (in_type (slice_get (terms_of p).types slot.declared) v) (list_all (λ (pair : Slot × Value). in_type (slice_get (terms_of p).types pair.0.declared) pair.1) (zip slots s)) h in
      ap (λ (o : Option Value). in_front o (row_read (terms_of p) (map (column_of p) slots) (bindings_of (terms_of p) (map (column_of p) slots) s))) (cell_back slot v both.0)
      ∙ ap (in_front (Some v)) (row_made slots s (omega (arith, long)) both.1)

  -- and it tells these, if they are of the types of the slots
  pub row_back : (slots : List Slot) (s : List Value) → fits (terms_of p).types slots s ≡ true → row_read (terms_of p) (map (column_of p) slots) (bindings_of (terms_of p) (map (column_of p) slots) s) ≡ Some s
  row_back slots s h =
      let both = and_parts (eqb (length slots) (length s)) (list_all (λ (pair : Slot × Value). in_type (slice_get (terms_of p).types pair.0.declared) pair.1) (zip slots s)) h in
      row_made slots s (eqb-true (length slots) (length s) both.0) both.1
