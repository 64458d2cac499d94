-- How many members there are.
use Rattle.std.proofs.Common.{◌≡◌, ◌∙◌, ℕ, ◌+◌, ◌<◌, ◌≤◌, List, [], ◌∷◌, ◌++◌, length, get_or, take, None, Some, refl, sym, ap, subst, arith, length-append}
use Rattle.std.specs.List.{flat_map}
use Rattle.std.proofs.lemmas.List.{flat_map_more, take_more}
use Rattle.smv_value.specs.declared.value.Value.{Value}
use Rattle.value_sets.specs.Members.{IsFew, only, span_values, together}
use Rattle.value_sets.specs.declared.spans.Few.{Few}
use Rattle.value_sets.specs.declared.spans.Few.TheVariants as few
use Rattle.value_sets.specs.declared.spans.Span.{Span}

-- at least one
some : (f : Few) (vs : List Value) (v : Value) → f ≡ few.One v → IsFew f vs → 1 ≤ length vs
some f vs v is h = omega (arith, ap length (subst (λ (f : Few). IsFew f vs) is h))

many : (xs ys : List Value) → 2 ≤ length xs + length ys → 2 ≤ length (xs ++ ys)
many xs ys h = omega (arith, length-append xs ys)

at_end : (xs : List Value) → xs ++ [] ≡ xs
at_end [] = refl
at_end (x ∷ xs) = ap (λ (l : List Value). x ∷ l) (at_end xs)

pub number_together : (a b : Few) (xs ys : List Value) → IsFew a xs → IsFew b ys → IsFew (together a b) (xs ++ ys)
number_together few.Nothing b xs ys p q = subst (λ (l : List Value). IsFew b (l ++ ys)) (sym p) q
number_together (few.One v) few.Nothing xs ys p q = ap (λ (l : List Value). xs ++ l) q ∙ at_end xs ∙ p
number_together (few.One v) (few.One w) xs ys p q = many xs ys (omega (arith, ap length p, ap length q))
number_together (few.One v) few.More xs ys p q = many xs ys (omega (arith, ap length p, q))
number_together few.More b xs ys p q = many xs ys (omega (arith, p))

-- one span more
pub number_more : (a b : Few) (xs : List Span) (i : ℕ) (d : Span) → i < length xs → IsFew a (flat_map span_values (take i xs)) →
    IsFew b (span_values (get_or xs i d)) → IsFew (together a b) (flat_map span_values (take (i + 1) xs))
number_more a b xs i d l p q =
    let more : flat_map span_values (take i xs) ++ span_values (get_or xs i d) ≡ flat_map span_values (take (i + 1) xs) =
    flat_map_more span_values [] (take i xs) (get_or xs i d) ∙ ap (flat_map span_values) (sym (take_more xs i d l)) in
    subst (IsFew (together a b)) more (number_together a b _ _ p q)

-- the only one
pub only_none : (vs : List Value) → IsFew few.Nothing vs → None ≡ only vs
only_none vs h = sym (ap only h)

pub only_one : (vs : List Value) (v : Value) → IsFew (few.One v) vs → Some v ≡ only vs
only_one vs v h = sym (ap only h)

pub only_more : (vs : List Value) → IsFew few.More vs → None ≡ only vs
only_more [] h = absurd (omega (arith, h))
only_more (v ∷ []) h = absurd (omega (arith, h))
only_more (v ∷ w ∷ vs) h = refl
