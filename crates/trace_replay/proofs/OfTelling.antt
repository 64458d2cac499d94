-- Reading the values of a row, and those of one number more.
use Rattle.std.proofs.Common.{◌≡◌, ◌≢◌, ℕ, suc, ◌+◌, ◌-◌, ◌<◌, ◌≤◌, max, min, Bool, true, false, cond, List, [], ◌∷◌, ◌++◌, length, map, take, get_or, Option, None, Some, refl, sym, ap, ◌∙◌, arith, unwrap_or, slice_get}
use lib.Dec.{eqb, leb, ltb}
use Rattle.std.specs.List.{range_with_len}
use Rattle.std.specs.Option.{is_some}
use Rattle.std.proofs.lemmas.Bool.{and_from, and_parts, cond-false, cond-true, le-ltb, lt-ltb, ne_eqb}
use Rattle.std.proofs.lemmas.List.{map-append, take_more}
use Rattle.std.proofs.lemmas.List.FromFn.{map-range_with_len_more}
use Rattle.std.proofs.lemmas.Option.{get_or_from_slice_get, slice_get_within}
use Rattle.smv_tree.specs.declared.tree.Program.{Program}
use Rattle.smv_value.specs.declared.value.Value.{Value}
use Rattle.trace_replay.specs.declared.columns.Column.{Column}
use Rattle.trace_replay.specs.declared.entry.Binding.{Binding}
use Rattle.trace_replay.specs.declared.trace.Trace.{Trace}
use Rattle.trace_replay.specs.Rows.{Terms, cell_read, in_front, input_columns, inputs_read, line_read, row_read, state_columns, state_read, terms_of}
use Rattle.trace_replay.specs.Tests.{due_beside, inputs_due, inputs_fit, state_fits, values_fit}

-- values behind others
abbrev pub behind : List Value → Option (List Value) → Option (List Value)
behind vs None = None
behind vs (Some ws) = Some (vs ++ ws)

in_front-none : (v : Option Value) (vs : Option (List Value)) → vs ≡ None → in_front v vs ≡ None
in_front-none None vs h = refl
in_front-none (Some v) vs h = ap (in_front (Some v)) h

-- there are as many bindings as columns where they tell values
pub row_read-uneven : (terms : Terms) (cs : List Column) (bs : List Binding) → length cs ≢ length bs → row_read terms cs bs ≡ None
row_read-uneven terms [] [] h = absurd (h refl)
row_read-uneven terms [] (b ∷ bs) h = refl
row_read-uneven terms (c ∷ cs) [] h = refl
row_read-uneven terms (c ∷ cs) (b ∷ bs) h = in_front-none (cell_read terms c b) (row_read terms cs bs) (row_read-uneven terms cs bs (λ e. h (ap suc e)))

-- a line that tells values is there
pub line_row : (terms : Terms) (cs : List Column) (o : Option (List Binding)) (s : List Value) → line_read terms cs o ≡ Some s → (bs : List Binding) × (o ≡ Some bs) × (row_read terms cs bs ≡ Some s)
line_row terms cs None s e = absurd (let no : ⊥ = cc in no)
line_row terms cs (Some bs) s e = (bs, refl, e)

abbrev pub row_told : Terms → List Column → List Binding → List Value
row_told terms cs bs = unwrap_or (row_read terms cs bs) []

-- one row more
pub rows_more : (terms : Terms) (cs : List Column) (rows : List (List Binding)) (made : List (List Value)) (i : ℕ) (s : List Value) → line_read terms cs (slice_get rows i) ≡ Some s
    → made ≡ map (row_told terms cs) (take i rows) → made ++ s ∷ [] ≡ map (row_told terms cs) (take (i + 1) rows)
rows_more terms cs rows made i s e so_far =
    let r = line_row terms cs (slice_get rows i) s e in
    let within : i < length rows = slice_get_within rows i r.0 r.1 in
    let here : s ≡ row_told terms cs (get_or rows i r.0) = sym (ap (row_told terms cs) (get_or_from_slice_get rows i r.0 r.0 r.1) ∙ ap (λ (o : Option (List Value)). unwrap_or o []) r.2) in
    ap (λ (l : List (List Value)). l ++ s ∷ []) so_far
    ∙ ap (λ (x : List Value). map (row_told terms cs) (take i rows) ++ x ∷ []) here
    ∙ sym (map-append (row_told terms cs) (take i rows) (get_or rows i r.0 ∷ []))
    ∙ ap (map (row_told terms cs)) (sym (take_more rows i r.0 within))

pub is_there : {A : Type 0} (o : Option A) → is_some o ≡ true → (x : A) × (o ≡ Some x)
is_there None h = absurd (let no : ⊥ = cc in no)
is_there (Some x) h = (x, refl)

unless : (b x : Bool) → x ≡ true → cond b x true ≡ true
unless true x h = h
unless false x h = refl

module _ (p : Program) (t : Trace) where
  some_read : (i : ℕ) (s : List Value) → state_read p t i ≡ Some s → is_some (state_read p t i) ≡ true
  some_read i s e = ap (λ (o : Option (List Value)). is_some o) e

  -- the values of one number
  pub fits_here : (i : ℕ) (s : List Value) → state_read p t i ≡ Some s → inputs_fit p t i ≡ true → values_fit p t i ≡ true
  fits_here i s e fit = and_from (state_fits p t i) (inputs_fit p t i) (unless (ltb i (max 1 (length t.states))) (is_some (state_read p t i)) (some_read i s e)) fit

  due-small : (cs : List Column) (n : ℕ) → due_beside cs n ≤ n - 1
  due-small [] n = omega arith
  due-small (c ∷ cs) n = omega arith

  -- those past all states
  pub fits_past : (i : ℕ) → max 1 (length t.states) ≤ i → values_fit p t i ≡ true
  fits_past i past =
      let small = due-small (input_columns p) (length t.states) in
      let due_past : inputs_due p t ≤ i = omega (arith, small) in
      let not_due : i ≢ inputs_due p t = omega (arith, small) in
      and_from (state_fits p t i) (inputs_fit p t i)
      (cond-false (ltb i (max 1 (length t.states))) (is_some (state_read p t i)) true (le-ltb i (max 1 (length t.states)) past))
      (cond-false (ltb i (inputs_due p t)) (is_some (inputs_read p t i)) _ (le-ltb i (inputs_due p t) due_past)
      ∙ cond-false (eqb i (inputs_due p t)) (leb (length t.inputs) i) true (ne_eqb i (inputs_due p t) not_due))

  -- there is a state where all values fit
  pub some_state : values_fit p t 0 ≡ true → 0 < length t.states
  some_state fit =
      let first : state_fits p t 0 ≡ true = (and_parts (state_fits p t 0) (inputs_fit p t 0) fit).0 in
      let top : ltb 0 (max 1 (length t.states)) ≡ true = lt-ltb 0 (max 1 (length t.states)) (omega arith) in
      let told : is_some (state_read p t 0) ≡ true = sym (cond-true (ltb 0 (max 1 (length t.states))) (is_some (state_read p t 0)) true top) ∙ first in
      let value = is_there (state_read p t 0) told in
      let row = line_row (terms_of p) (state_columns p) (slice_get t.states 0) value.0 value.1 in
      slice_get_within t.states 0 row.0 row.1

-- what a function gives of the numbers below both
pub numbers_more : {A : Type 0} (g : ℕ → A) (made now : List A) (i m : ℕ) (u : A) → now ≡ made ++ u ∷ [] → made ≡ map g (range_with_len 0 (min i m)) → u ≡ g i → i < m → now ≡ map g (range_with_len 0 (min (i + 1) m))
numbers_more g made now i m u pushed so_far is below =
    let k : min i m ≡ i = omega arith in
    let n : min (i + 1) m ≡ i + 1 = omega arith in
    pushed
    ∙ ap (λ (l : List _). l ++ u ∷ []) (so_far ∙ ap (λ j. map g (range_with_len 0 j)) k)
    ∙ ap (λ x. map g (range_with_len 0 i) ++ x ∷ []) is
    ∙ sym (map-range_with_len_more g 0 i i (omega arith))
    ∙ ap (λ j. map g (range_with_len 0 j)) (sym n)

pub numbers_same : {A : Type 0} (g : ℕ → A) (made now : List A) (i m : ℕ) → now ≡ made → made ≡ map g (range_with_len 0 (min i m)) → m ≤ i → now ≡ map g (range_with_len 0 (min (i + 1) m))
numbers_same g made now i m same so_far past =
    let k : min i m ≡ min (i + 1) m = omega arith in
    same ∙ so_far ∙ ap (λ j. map g (range_with_len 0 j)) k
