-- Frozen slots keep their values just where they keep their bits.
use Rattle.std.proofs.Common.{◌≡◌, ◌∙◌, ℕ, zero, suc, ◌+◌, ◌<◌, ◌≤◌, Bool, true, false, not, ◌&&◌, ◌||◌, List, [], ◌∷◌, length, get_or, take, drop, refl, sym, ap, subst, arith, add-one}
use Rattle.std.specs.Bool.{beq}
use Rattle.std.specs.List.{list_all}
use Rattle.std.proofs.Math.ListN.{drop_of_length-le, get_or-map}
use Rattle.std.proofs.Math.Seq.{drop-cons}
use Rattle.std.proofs.lemmas.Bool.{and_parts}
use Rattle.std.proofs.lemmas.List.{drop-map, length-map, length-take-le, take-map}
use Rattle.smv_value.specs.Results.{same}
use Rattle.value_types.specs.declared.value_type.ValueType.{ValueType}
use Rattle.value_types.specs.Types.{is_type}
use Rattle.smv_slots.specs.declared.slot.Slot.{Slot}
use Rattle.smv_meaning.specs.Runs.{is_frozen, keeps}
use Rattle.bit_graph.specs.declared.edge.Edge.{Edge}
use Rattle.bit_graph.specs.Meaning.{edge_value}
use Rattle.bit_arith.specs.Number.{values_of}
use Rattle.bit_values.specs.Bits.{encoded, is_code, value_of_bits, width_of}
use Rattle.bit_values.proofs.OfBits.{bits_are}
use Rattle.bit_outcomes.proofs.OfAsked.{same_is, same_refl}
use Rattle.bit_states.specs.Values.{are_codes, decoded_all, width_of_all}
use Rattle.bit_states.proofs.Walking.{next_left, of_all}
use Rattle.bit_conditions.specs.Keeping.{all_kept, are_same}

-- bits that are the same

beq_is : (a b : Bool) → beq a b ≡ true → a ≡ b
beq_is true true h = refl
beq_is true false h = absurd cc
beq_is false true h = absurd cc
beq_is false false h = refl

beq_self : (a : Bool) → beq a a ≡ true
beq_self true = refl
beq_self false = refl

are_same_is : (xs ys : List Bool) → length xs ≡ length ys → are_same xs ys ≡ true → xs ≡ ys
are_same_is [] [] long h = refl
are_same_is [] (y ∷ ys) long h = absurd (let no : ⊥ = omega (arith, long) in no)
are_same_is (x ∷ xs) [] long h = absurd (let no : ⊥ = omega (arith, long) in no)
are_same_is (x ∷ xs) (y ∷ ys) long h =
    let both = and_parts (beq x y) (are_same xs ys) h in
    λ i. beq_is x y both.0 i ∷ are_same_is xs ys (omega (arith, long)) both.1 i

are_same_self : (xs : List Bool) → are_same xs xs ≡ true
are_same_self [] = refl
are_same_self (x ∷ xs) = rw (beq_self x) (are_same_self xs)

iff : (a b : Bool) → (a ≡ true → b ≡ true) → (b ≡ true → a ≡ true) → a ≡ b
iff true b f g = sym (f refl)
iff false true f g = g refl
iff false false f g = refl

-- codes of one type are the same just where their values are
same_values : (t : ValueType) (xs ys : List Bool) → is_type t ≡ true → length xs ≡ width_of t → length ys ≡ width_of t → is_code t xs ≡ true → is_code t ys ≡ true →
    are_same xs ys ≡ same (value_of_bits t xs) (value_of_bits t ys)
same_values t xs ys h long more code coded =
    let laws = bits_are t h in
    iff (are_same xs ys) (same (value_of_bits t xs) (value_of_bits t ys))
    (λ e. ap (λ zs. same (value_of_bits t xs) (value_of_bits t zs)) (sym (are_same_is xs ys (long ∙ sym more) e)) ∙ same_refl (value_of_bits t xs))
    (λ e.
    let is : xs ≡ ys = sym (laws.bits_back xs long code) ∙ ap (encoded t) (same_is (value_of_bits t xs) (value_of_bits t ys) e) ∙ laws.bits_back ys more coded in
    ap (are_same xs) (sym is) ∙ are_same_self xs)

and_assoc : (a b c : Bool) → ((a && b) && c) ≡ (a && (b && c))
and_assoc true b c = refl
and_assoc false b c = refl

and_true : (b : Bool) → (b && true) ≡ b
and_true true = refl
and_true false = refl

-- one more pair of bits, where those that are left are the same

same_next : (xs ys : List Bool) (i : ℕ) (dx dy x y : Bool) → i < length xs → length xs ≡ length ys → get_or xs i dx ≡ x → get_or ys i dy ≡ y →
    are_same (drop i xs) (drop i ys) ≡ (beq x y && are_same (drop (suc i) xs) (drop (suc i) ys))
same_next [] ys i dx dy x y lt long at bt = absurd (let no : ⊥ = omega (arith, lt) in no)
same_next (a ∷ xs) [] i dx dy x y lt long at bt = absurd (let no : ⊥ = omega (arith, long) in no)
same_next (a ∷ xs) (b ∷ ys) zero dx dy x y lt long at bt = λ j. beq (at j) (bt j) && are_same xs ys
same_next (a ∷ xs) (b ∷ ys) (suc i) dx dy x y lt long at bt = same_next xs ys i dx dy x y (omega (arith, lt)) (omega (arith, long)) at bt

pub same_more : (v : ℕ → Bool) (a b : List Edge) (i : ℕ) (d e : Edge) (old now new : Bool) → i < length a → length a ≡ length b →
    new ≡ (now && beq (edge_value v (get_or a i d)) (edge_value v (get_or b i e))) →
    (now && are_same (drop i (values_of v a)) (drop i (values_of v b))) ≡ (old && are_same (values_of v a) (values_of v b)) →
    (new && are_same (drop (i + 1) (values_of v a)) (drop (i + 1) (values_of v b))) ≡ (old && are_same (values_of v a) (values_of v b))
same_more v a b i d e old now new lt long is before =
    let xs = values_of v a in
    let ys = values_of v b in
    let x = edge_value v (get_or a i d) in
    let y = edge_value v (get_or b i e) in
    let within : i < length xs = omega (arith, lt, length-map a (edge_value v)) in
    let as_long : length xs ≡ length ys = length-map a (edge_value v) ∙ long ∙ sym (length-map b (edge_value v)) in
    ap (λ (n : ℕ). new && are_same (drop n xs) (drop n ys)) (add-one i)
    ∙ ap (λ (b : Bool). b && are_same (drop (suc i) xs) (drop (suc i) ys)) is
    ∙ and_assoc now (beq x y) (are_same (drop (suc i) xs) (drop (suc i) ys))
    ∙ ap (λ (b : Bool). now && b)
    (sym (same_next xs ys i (edge_value v d) (edge_value v e) x y within as_long (get_or-map (edge_value v) a i d) (get_or-map (edge_value v) b i e)))
    ∙ before

pub same_done : (xs ys : List Bool) (i : ℕ) (old now : Bool) → length xs ≤ i → (now && are_same (drop i xs) (drop i ys)) ≡ (old && are_same xs ys) → now ≡ (old && are_same xs ys)
same_done xs ys i old now all before =
    sym (ap (λ (l : List Bool). now && are_same l (drop i ys)) (drop_of_length-le xs {i = i} all) ∙ and_true now) ∙ before

-- What is asked so far, and of the slots that are left, is asked in all, where the bits are codes.
pub record Kept (slots : List Slot) (types : List ValueType) (bits next : List Bool) (old now : Bool) (i : ℕ) (xs ys : List Bool) : Type 0 where
  pub first : are_codes (drop i types) xs ≡ true
  pub second : are_codes (drop i types) ys ≡ true
  pub kept : (now && all_kept (drop i slots) (decoded_all (drop i types) xs) (decoded_all (drop i types) ys)) ≡ (old && all_kept slots (decoded_all types bits) (decoded_all types next))

pub kept_none : (slots : List Slot) (types : List ValueType) (bits next : List Bool) (old : Bool) → are_codes types bits ≡ true → are_codes types next ≡ true → Kept slots types bits next old old 0 bits next
kept_none slots types bits next old h k = record { first = h; second = k; kept = refl }

pub kept_more : (slots : List Slot) (types : List ValueType) (bits next : List Bool) (old now new : Bool) (i : ℕ) (xs ys : List Bool) (d : Slot) (t : ValueType) →
    list_all is_type types ≡ true → i < length slots → i < length types → t ≡ get_or types i t →
    length xs ≡ width_of_all (drop i types) → length ys ≡ width_of_all (drop i types) →
    new ≡ (now && (not (is_frozen (get_or slots i d).kind) || are_same (take (width_of t) xs) (take (width_of t) ys))) →
    Kept slots types bits next old now i xs ys → Kept slots types bits next old new (i + 1) (drop (width_of t) xs) (drop (width_of t) ys)
kept_more slots types bits next old now new i xs ys d t all lt in_types t_is long more is before =
    let w = width_of t in
    let left = drop (i + 1) types in
    let rest = drop (i + 1) slots in
    let slot = get_or slots i d in
    let types_left : drop i types ≡ t ∷ left = next_left types i t in_types t_is in
    let slots_left : drop i slots ≡ slot ∷ rest = drop-cons slots i d lt ∙ (λ j. get_or slots i d ∷ drop (sym (add-one i) j) slots) in
    let first = and_parts (is_code t (take w xs)) (are_codes left (drop w xs)) (sym (ap (λ (l : List ValueType). are_codes l xs) types_left) ∙ before.first) in
    let second = and_parts (is_code t (take w ys)) (are_codes left (drop w ys)) (sym (ap (λ (l : List ValueType). are_codes l ys) types_left) ∙ before.second) in
    let enough : width_of_all (drop i types) ≡ w + width_of_all left = ap width_of_all types_left in
    let one : (not (is_frozen slot.kind) || are_same (take w xs) (take w ys)) ≡ keeps slot (value_of_bits t (take w xs)) (value_of_bits t (take w ys)) =
    ap (λ (b : Bool). not (is_frozen slot.kind) || b)
    (same_values t (take w xs) (take w ys) (of_all is_type types i t all in_types t_is)
    (length-take-le w xs (omega (arith, long, enough))) (length-take-le w ys (omega (arith, more, enough))) first.0 second.0) in
    let after : Bool = all_kept rest (decoded_all left (drop w xs)) (decoded_all left (drop w ys)) in
    let whole : all_kept (drop i slots) (decoded_all (drop i types) xs) (decoded_all (drop i types) ys) ≡ (keeps slot (value_of_bits t (take w xs)) (value_of_bits t (take w ys)) && after) =
    (λ j. all_kept (slots_left j) (decoded_all (types_left j) xs) (decoded_all (types_left j) ys)) in
    record {
      first = first.1;
      second = second.1;
      kept = ap (λ (b : Bool). b && after) (is ∙ ap (λ (b : Bool). now && b) one)
          ∙ and_assoc now (keeps slot (value_of_bits t (take w xs)) (value_of_bits t (take w ys))) after
          ∙ ap (λ (b : Bool). now && b) (sym whole) ∙ before.kept;
    }

-- the same by edges, where these are cut at the width of the slot's type
pub kept_edges : (v : ℕ → Bool) (slots : List Slot) (types : List ValueType) (bits next : List Bool) (old now new : Bool) (i : ℕ) (first second low under more rest : List Edge) (d : Slot) (t : ValueType) →
    list_all is_type types ≡ true → i < length slots → i < length types → t ≡ get_or types i t →
    length first ≡ width_of_all (drop i types) → length second ≡ width_of_all (drop i types) →
    low ≡ take (width_of t) first → under ≡ take (width_of t) second → more ≡ drop (width_of t) first → rest ≡ drop (width_of t) second →
    new ≡ (now && (not (is_frozen (get_or slots i d).kind) || are_same (values_of v low) (values_of v under))) →
    Kept slots types bits next old now i (values_of v first) (values_of v second) → Kept slots types bits next old new (i + 1) (values_of v more) (values_of v rest)
kept_edges v slots types bits next old now new i first second low under more rest d t all lt in_types t_is long also low_is under_is more_is rest_is is before =
    let w = width_of t in
    let low_values : values_of v low ≡ take w (values_of v first) = ap (values_of v) low_is ∙ sym (take-map (edge_value v) w first) in
    let under_values : values_of v under ≡ take w (values_of v second) = ap (values_of v) under_is ∙ sym (take-map (edge_value v) w second) in
    let more_values : values_of v more ≡ drop w (values_of v first) = ap (values_of v) more_is ∙ sym (drop-map (edge_value v) w first) in
    let rest_values : values_of v rest ≡ drop w (values_of v second) = ap (values_of v) rest_is ∙ sym (drop-map (edge_value v) w second) in
    let made : Kept slots types bits next old new (i + 1) (drop w (values_of v first)) (drop w (values_of v second)) =
    kept_more slots types bits next old now new i (values_of v first) (values_of v second) d t all lt in_types t_is
    (length-map first (edge_value v) ∙ long) (length-map second (edge_value v) ∙ also)
    (is ∙ (λ j. now && (not (is_frozen (get_or slots i d).kind) || are_same (low_values j) (under_values j)))) before in
    subst (λ (ys : List Bool). Kept slots types bits next old new (i + 1) (values_of v more) ys) (sym rest_values)
    (subst (λ (xs : List Bool). Kept slots types bits next old new (i + 1) xs (drop w (values_of v second))) (sym more_values) made)

pub kept_done : (slots : List Slot) (types : List ValueType) (bits next : List Bool) (old now : Bool) (i : ℕ) (xs ys : List Bool) → length slots ≤ i → Kept slots types bits next old now i xs ys →
    now ≡ (old && all_kept slots (decoded_all types bits) (decoded_all types next))
kept_done slots types bits next old now i xs ys all so_far =
    sym (ap (λ (l : List Slot). now && all_kept l (decoded_all (drop i types) xs) (decoded_all (drop i types) ys)) (drop_of_length-le slots {i = i} all) ∙ and_true now) ∙ so_far.kept
