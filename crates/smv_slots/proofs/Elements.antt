-- Sizes, elements and indices, one more at a time.
use Rattle.std.proofs.Common.{◌≡◌, ℕ, ◌+◌, ◌-◌, ◌*◌, ◌/◌, ◌%◌, ◌<◌, List, [], ◌∷◌, ◌++◌, length, get_or, drop, take, map, sym, ap, ◌∙◌, append_assoc, append-nil, pos, ◌+ℤ◌, arith, take_all, length-drop}
use Rattle.std.proofs.Math.Nat.{mul_assoc}
use Rattle.std.specs.List.{flat_map, range_with_len, zip}
use Rattle.std.proofs.lemmas.List.{drop_more, take_more}
use Rattle.std.proofs.lemmas.List.Concat.{flat_map-append}
use Rattle.smv_declared.specs.declared.variable_type.Bounds.{Bounds}
use Rattle.smv_declared.specs.declared.variable_type.VariableType.{VariableType}
use Rattle.smv_declared.specs.Types.{size_of}
use Rattle.smv_slots.specs.declared.slot.Holder.{Holder}
use Rattle.smv_slots.specs.declared.slot.Slot.{Slot}
use Rattle.smv_slots.specs.Slots.{element_at, elements_of}
use Rattle.smv_slots.specs.Names.{bracketed, indices_of}

-- the pieces so far, and the next one
pub flat_map-take : {X A : Type 0} (f : X → List A) (xs : List X) (k : ℕ) (x : X) → k < length xs → x ≡ get_or xs k x → flat_map f (take (k + 1) xs) ≡ flat_map f (take k xs) ++ f x
flat_map-take f xs k x h e =
    ap (flat_map f) (take_more xs k x h ∙ ap (λ y. take k xs ++ y ∷ []) (sym e))
    ∙ flat_map-append f (take k xs) (x ∷ []) ∙ ap (λ ys. flat_map f (take k xs) ++ ys) (append-nil (f x))

-- one dimension more is counted
pub size_more : (bs : List Bounds) (i : ℕ) (d : Bounds) (size : ℕ) → i < length bs → size * (get_or bs i d).count * size_of (drop (i + 1) bs) ≡ size * size_of (drop i bs)
size_more bs i d size within =
    mul_assoc size (get_or bs i d).count (size_of (drop (i + 1) bs)) ∙ ap (λ (cs : List Bounds). size * size_of cs) (sym (drop_more bs i d within))

-- the elements of one variable more
pub pairs_more : (all more : List Slot) (size : ℕ) (h : Holder) (t : VariableType) (from left : List Holder) (types rest : List VariableType) →
    from ≡ h ∷ left → types ≡ t ∷ rest → size ≡ size_of t.dimensions → more ≡ all ++ map (element_at h) (range_with_len 0 size) →
    more ++ flat_map elements_of (zip left rest) ≡ all ++ flat_map elements_of (zip from types)
pairs_more all more size h t from left types rest first second is added =
    ap (λ (xs : List Slot). xs ++ flat_map elements_of (zip left rest)) (added ∙ ap (λ n. all ++ map (element_at h) (range_with_len 0 n)) is)
    ∙ append_assoc all (elements_of (h, t)) (flat_map elements_of (zip left rest))
    ∙ ap (λ (ts : List VariableType). all ++ flat_map elements_of (zip (h ∷ left) ts)) (sym second)
    ∙ ap (λ (hs : List Holder). all ++ flat_map elements_of (zip hs types)) (sym first)

-- no variable is left
pub no_pair_left : (all : List Slot) (hs : List Holder) (ts : List VariableType) → length hs ≡ 0 → all ≡ all ++ flat_map elements_of (zip hs ts)
no_pair_left all [] ts e = sym (append-nil all)
no_pair_left all (h ∷ hs) ts e = absurd (omega (arith, e))

pub no_type_left : (all : List Slot) (hs : List Holder) (ts : List VariableType) → length ts ≡ 0 → all ≡ all ++ flat_map elements_of (zip hs ts)
no_type_left all [] ts e = sym (append-nil all)
no_type_left all (h ∷ hs) [] e = sym (append-nil all)
no_type_left all (h ∷ hs) (t ∷ ts) e = absurd (omega (arith, e))

-- what is left of a list, as a slice from there on
left_is : {X : Type 0} (xs : List X) (i : ℕ) → take (length xs - i) (drop i xs) ≡ drop i xs
left_is xs i = take_all (length xs - i) (drop i xs) (let long : length (drop i xs) ≡ length xs - i = length-drop i xs in omega (arith, long))

-- one index more is printed
pub index_more : (bs : List Bounds) (i : ℕ) (d : Bounds) (left size position rest : ℕ) (before after : List ℕ) → i < length bs →
    size ≡ size_of (take (length bs - (i + 1)) (drop (i + 1) bs)) → position ≡ left / size → rest ≡ left % size → after ≡ before ++ bracketed ((get_or bs i d).low +ℤ pos position) →
    after ++ indices_of (drop (i + 1) bs) rest ≡ before ++ indices_of (drop i bs) left
index_more bs i d left size position rest before after within sized quotient remainder printed =
    let others = drop (i + 1) bs in
    let low = (get_or bs i d).low in
    let same : size ≡ size_of others = sized ∙ ap size_of (left_is bs (i + 1)) in
    ap (λ xs. xs ++ indices_of others rest) printed
    ∙ append_assoc before (bracketed (low +ℤ pos position)) (indices_of others rest)
    ∙ ap (λ n. before ++ (bracketed (low +ℤ pos n) ++ indices_of others rest)) (quotient ∙ ap (λ n. left / n) same)
    ∙ ap (λ n. before ++ (bracketed (low +ℤ pos (left / size_of others)) ++ indices_of others n)) (remainder ∙ ap (λ n. left % n) same)
    ∙ ap (λ (cs : List Bounds). before ++ indices_of cs left) (sym (drop_more bs i d within))
