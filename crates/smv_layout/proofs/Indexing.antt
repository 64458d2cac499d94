-- The integers that nodes are, and the slots at which variables begin.
use Rattle.std.proofs.Common.{◌≡◌, ℕ, ◌+◌, ◌<◌, List, [], ◌∷◌, ◌++◌, length, get_or, map, take, Option, None, refl, sym, ap, ◌∙◌, arith}
use Rattle.std.specs.Prelude.{ℤ, slice_index_or}
use Rattle.std.proofs.Math.ListN.{get_or-map}
use Rattle.std.proofs.lemmas.List.{map-append}
use Rattle.std.proofs.lemmas.List.FromFn.{get_or-map-range_with_len}
use Rattle.std.proofs.lemmas.List.Sums.{sum_by_more}
use Rattle.smv_value.specs.declared.operator.Operator.{Operator}
use Rattle.smv_resolve.specs.declared.node.ExprNode.{ExprNode}
use Rattle.smv_resolve.specs.Resolved.{Resolved, last_of, operands_of, part_at, parts_of, resolved_by}
use Rattle.smv_resolve.proofs.Parts.{last_of-map, parts_of-next}
use Rattle.smv_declared.specs.declared.variable_type.VariableType.{VariableType}
use Rattle.smv_declared.specs.Types.{size_of}
use Rattle.smv_slots.specs.Slots.{first_slot}
use Rattle.smv_layout.specs.Indices.{index_by, index_of, indices_of}
use Rattle.smv_layout.specs.Sizes.{first_slots}

-- the integers of operands
pub indices-operands : (rs : List Resolved) → indices_of (operands_of rs) ≡ map index_of rs
indices-operands [] = refl
indices-operands (r ∷ rs) = ap (λ (zs : List (Option ℤ)). index_of r ∷ zs) (indices-operands rs)

-- the integer that the part of this number is
pub index_found : (parts : List Resolved) (table : List (Option ℤ)) (k : ℕ) → table ≡ map index_of parts → slice_index_or table k None ≡ index_of (part_at parts k)
index_found parts table k e = ap (λ (zs : List (Option ℤ)). slice_index_or zs k None) e ∙ get_or-map index_of parts k Resolved.Stuck

-- what the last parts are is what is known last
pub indices_last : (o : Operator) (count : ℕ) (parts : List Resolved) (table : List (Option ℤ)) → table ≡ map index_of parts →
    index_by o (last_of count table) ≡ index_by o (indices_of (operands_of (last_of count parts)))
indices_last o count parts table e =
    ap (λ (zs : List (Option ℤ)). index_by o (last_of count zs)) e ∙ ap (index_by o) (last_of-map index_of count parts ∙ sym (indices-operands (last_of count parts)))

-- one node more
pub index_more : (nodes : List ExprNode) (i : ℕ) (d : ExprNode) (old new : List (Option ℤ)) (z : Option ℤ) → i < length nodes → old ≡ map index_of (parts_of (take i nodes)) →
    ((parts : List Resolved) → old ≡ map index_of parts → z ≡ index_of (resolved_by parts (get_or nodes i d))) → new ≡ old ++ z ∷ [] → new ≡ map index_of (parts_of (take (i + 1) nodes))
index_more nodes i d old new z l told more is =
    let parts : List Resolved = parts_of (take i nodes) in
    is ∙ ap (λ (zs : List (Option ℤ)). zs ++ z ∷ []) told ∙ ap (λ (y : Option ℤ). map index_of parts ++ y ∷ []) (more parts told)
    ∙ sym (map-append index_of parts (resolved_by parts (get_or nodes i d) ∷ []))
    ∙ ap (map index_of) (sym (parts_of-next nodes i d l))

-- one variable more
pub first_slot_next : (vs : List VariableType) (i : ℕ) (v : VariableType) → i < length vs → v ≡ get_or vs i v → first_slot vs i + size_of v.dimensions ≡ first_slot vs (i + 1)
first_slot_next vs i v l e =
    ap (λ (w : VariableType). first_slot vs i + size_of w.dimensions) e ∙ sym (sum_by_more (λ (t : VariableType). size_of t.dimensions) vs i v l)

-- the first slot that is looked up
pub first_found : (vs : List VariableType) (firsts : List ℕ) (n : ℕ) → firsts ≡ first_slots vs → n < length vs → slice_index_or firsts n 0 ≡ first_slot vs n
first_found vs firsts n e l = ap (λ (ns : List ℕ). slice_index_or ns n 0) e ∙ get_or-map-range_with_len (first_slot vs) 0 (length vs) n n 0 l (omega arith)
