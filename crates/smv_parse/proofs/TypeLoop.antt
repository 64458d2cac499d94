-- The loop over the dimensions of an array.
use Rattle.std.proofs.Common.{◌≡◌, ℕ, zero, suc, ◌-◌, ◌<◌, Bool, true, false, cond, List, [], ◌∷◌, ◌++◌, Ok, Err, refl, sym, ◌∙◌, append_assoc, arith}
use Rattle.std.specs.Prelude.{◌||◌}
use Rattle.std.proofs.lemmas.List.{append-nil}
use Rattle.phrase_forms.specs.Forms.{Read, head, ◌>>=◌}
use Rattle.smv_tree.specs.declared.token.Token.{Token}
use Rattle.smv_tree.specs.declared.token.TokenKind.TheVariants as kind
use Rattle.smv_tree.specs.declared.tree.Dimension.{Dimension}
use Rattle.smv_tree.specs.declared.tree.TypeExpr.{TypeExpr}
use Rattle.smv_tree.specs.Kinds.{is_kind}
use Rattle.smv_phrases.specs.declared.reading.Stop.{Stop}
use Rattle.smv_phrases.specs.declared.reading.Stop.TheVariants.{Refused, NoMemory}
use Rattle.smv_phrases.specs.Reading.{Stops}
use Rattle.smv_parse.specs.Types.{plain_type, array_head, Written, array_of, types}

-- what is read with these dimensions before it
abbrev pub behind : List Dimension → Read Token Written → Read Token Written
behind before read = read >>= λ y. Ok ((before ++ y.0.0, y.0.1), y.1)

-- so it is read in all, where these dimensions were read before
abbrev pub Measured : ℕ → List Dimension → List Token → Read Token Written → Type 0
Measured room before ts total = behind before ((types 0 (suc room)).parse ts) ≡ total

pub none_before : (read : Read Token Written) → behind [] read ≡ read
none_before (Ok y) = refl
none_before (Err e) = refl

or_false : (b : Bool) → ((b || false) || false) ≡ b
or_false true = refl
or_false false = refl

array_begins : (ts : List Token) → head (λ t. (is_kind kind.Array t || false) || false) ts ≡ head (is_kind kind.Array) ts
array_begins [] = refl
array_begins (t ∷ ts) = or_false (is_kind kind.Array t)

-- an array: its first dimension, and the others with the type of the elements
abbrev beside : Dimension → Read Token Written → Read Token (Dimension × Written)
beside d read = read >>= λ y. Ok ((d, y.0), y.1)

abbrev nested : Read Token (Dimension × Written) → Read Token Written
nested read = read >>= λ z. Ok (array_of z.0, z.1)

abbrev array : ℕ → List Token → Read Token Written
array room ts = nested ((array_head 0 room).parse ts >>= λ x. beside x.0 ((types 0 room).parse x.1))

abbrev plain : ℕ → List Token → Read Token Written
plain room ts = (plain_type 0 room).parse ts >>= λ x. Ok (([], x.0), x.1)

type_reads : (room : ℕ) (ts : List Token) → (types 0 (suc room)).parse ts ≡ cond (head (is_kind kind.Array) ts) (array room ts) (plain room ts)
unfolding types array_head
type_reads room ts = rw (← array_begins ts) refl

one_more : (before : List Dimension) (d : Dimension) (read : Read Token Written) → behind before (nested (beside d read)) ≡ behind (before ++ d ∷ []) read
one_more before d (Ok y) = simp append_assoc
one_more before d (Err e) = refl

-- one more dimension is read
pub dimension_on : (room : ℕ) (before : List Dimension) (ts : List Token) (d : Dimension) (rest : List Token) (total : Read Token Written) → true ≡ head (is_kind kind.Array) ts → 0 < room
    → (array_head 0 room).parse ts ≡ Ok (d, rest) → Measured room before ts total → Measured (room - 1) (before ++ d ∷ []) rest total
dimension_on zero before ts d rest total begun h e so_far = absurd (omega arith)
dimension_on (suc n) before ts d rest total begun h e so_far =
    let m : suc n - 1 ≡ n = omega arith in
    rw m (sym (one_more before d ((types 0 (suc n)).parse rest)) ∙ rw (type_reads (suc n) ts, sym begun, e) at so_far)

-- a dimension that is not read stops the loop
pub dimension_stops : (stop : Stop) (room : ℕ) (before : List Dimension) (ts : List Token) (total : Read Token Written) → true ≡ head (is_kind kind.Array) ts
    → Stops stop ((array_head 0 room).parse ts) → Measured room before ts total → Stops stop total
dimension_stops (Refused fault bad) room before ts total begun e so_far = sym (rw (type_reads room ts, sym begun, e) at so_far)
dimension_stops NoMemory room before ts total begun e so_far = tt

-- the type of the elements is read
pub elements_end : (room : ℕ) (before : List Dimension) (ts : List Token) (t : TypeExpr) (rest : List Token) (total : Read Token Written) → false ≡ head (is_kind kind.Array) ts
    → (plain_type 0 room).parse ts ≡ Ok (t, rest) → Measured room before ts total → total ≡ Ok ((before, t), rest)
elements_end room before ts t rest total ended e so_far =
    let all : Ok ((before ++ [], t), rest) ≡ total = rw (type_reads room ts, sym ended, e) at so_far in
    sym (rw (append-nil before) at all)

pub elements_stop : (stop : Stop) (room : ℕ) (before : List Dimension) (ts : List Token) (total : Read Token Written) → false ≡ head (is_kind kind.Array) ts
    → Stops stop ((plain_type 0 room).parse ts) → Measured room before ts total → Stops stop total
elements_stop (Refused fault bad) room before ts total ended e so_far = sym (rw (type_reads room ts, sym ended, e) at so_far)
elements_stop NoMemory room before ts total ended e so_far = tt
