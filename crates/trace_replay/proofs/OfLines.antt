-- One more binding, and the lines of one more number.
use Rattle.std.proofs.Common.{◌≡◌, ℕ, zero, suc, ◌+◌, ◌<◌, List, [], ◌∷◌, ◌++◌, length, take, get_or, sym, ap, ◌∙◌, arith, append_assoc, append-nil, codes, slice_get}
use Rattle.std.specs.List.{flat_map, range_with_len}
use Rattle.std.proofs.lemmas.List.{take_more}
use Rattle.std.proofs.lemmas.Grind.{flat_map-append}
use Rattle.trace_replay.specs.declared.entry.Binding.{Binding}
use Rattle.trace_replay.specs.declared.trace.Trace.{Trace}
use Rattle.trace_replay.specs.Lines.{binding_text, input_entries, line_text, moment_entries, more_bindings, state_entries}

more_bindings-push : (bs : List Binding) (b : Binding) → more_bindings (bs ++ b ∷ []) ≡ more_bindings bs ++ (codes ", " ++ binding_text b)
more_bindings-push [] b = append-nil (codes ", " ++ binding_text b)
more_bindings-push (c ∷ bs) b =
    ap (λ (l : List ℕ). codes ", " ++ binding_text c ++ l) (more_bindings-push bs b)
    ∙ sym (append_assoc (codes ", " ++ binding_text c) (more_bindings bs) (codes ", " ++ binding_text b))

pub bindings_more : (bs : List Binding) (i : ℕ) (b : Binding) → i < length bs → more_bindings (take i bs) ++ (codes ", " ++ binding_text (get_or bs i b)) ≡ more_bindings (take (i + 1) bs)
bindings_more bs i b h = sym (more_bindings-push (take i bs) (get_or bs i b)) ∙ ap more_bindings (sym (take_more bs i b h))

range_more : (a n : ℕ) → range_with_len a (suc n) ≡ range_with_len a n ++ (a + n) ∷ []
range_more a zero = ap (λ m. m ∷ []) (let e : a ≡ a + 0 = omega arith in e)
range_more a (suc n) =
    ap (λ (l : List ℕ). a ∷ l) (range_more (a + 1) n ∙ ap (λ m. range_with_len (a + 1) n ++ m ∷ []) (let e : (a + 1) + n ≡ a + suc n = omega arith in e))

-- what a function gives of the numbers below i + 1
pub numbers_more : {A : Type 0} (f : ℕ → List A) (i : ℕ) → flat_map f (range_with_len 0 (i + 1)) ≡ flat_map f (range_with_len 0 i) ++ f i
numbers_more {A} f i =
    ap (λ n. flat_map f (range_with_len 0 n)) (let e : i + 1 ≡ suc i = omega arith in e)
    ∙ ap (flat_map f) (range_more 0 i)
    ∙ flat_map-append f (range_with_len 0 i) ((0 + i) ∷ [])
    ∙ ap (λ (l : List A). flat_map f (range_with_len 0 i) ++ l) (append-nil (f (0 + i)) ∙ ap f (let e : 0 + i ≡ i = omega arith in e))

-- the same in lines
pub numbers_written : (t : Trace) (i : ℕ) (states inputs : List (List Binding)) → states ≡ t.states → inputs ≡ t.inputs →
    flat_map line_text (flat_map (moment_entries t) (range_with_len 0 i)) ++ (flat_map line_text (state_entries i (slice_get states i)) ++ flat_map line_text (input_entries i (slice_get inputs i)))
    ≡ flat_map line_text (flat_map (moment_entries t) (range_with_len 0 (i + 1)))
numbers_written t i states inputs e f =
    let moments : List ℕ = flat_map line_text (flat_map (moment_entries t) (range_with_len 0 i)) in
    ap (λ (l : List (List Binding)). moments ++ (flat_map line_text (state_entries i (slice_get l i)) ++ flat_map line_text (input_entries i (slice_get inputs i)))) e
    ∙ ap (λ (l : List (List Binding)). moments ++ (flat_map line_text (state_entries i (slice_get t.states i)) ++ flat_map line_text (input_entries i (slice_get l i)))) f
    ∙ ap (λ (l : List ℕ). moments ++ l) (sym (flat_map-append line_text (state_entries i (slice_get t.states i)) (input_entries i (slice_get t.inputs i))))
    ∙ sym (flat_map-append line_text (flat_map (moment_entries t) (range_with_len 0 i)) (moment_entries t i))
    ∙ ap (flat_map line_text) (sym (numbers_more (moment_entries t) i))
