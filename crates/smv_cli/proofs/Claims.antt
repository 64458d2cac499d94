-- The record of the specification at a place of a list.
use Rattle.std.proofs.Common.{◌≡◌, ◌∙◌, ◌+◌, ◌<◌, ◌≤◌, ℕ, List, [], All, map, take, take_all, length, get_or, sym, subst, ap, refl, true, arith}
use Rattle.std.specs.declared.option.Option.{Option}
use Rattle.std.proofs.KnownBytes.{Appends-nil}
use Rattle.std.proofs.lemmas.List.Elements.{All-get_or}
use Rattle.std.proofs.lemmas.List.{length-map}
use Rattle.std.proofs.Math.ListN.{get_or-map}
use Rattle.smv_resolve.specs.declared.item.Item.{Item}
use Rattle.smv_resolve.specs.declared.item.ItemKind.TheVariants as item
use Rattle.smv_resolve.specs.declared.node.ExprNode.{ExprNode}
use Rattle.smv_resolve.specs.Items.{ResolvedItem, item_by}
use Rattle.smv_tree.specs.declared.tree.SpecificationKind.{SpecificationKind}
use Rattle.smv_meaning.specs.Runs.{is_claim}
use Rattle.smv_cli.specs.declared.record.SpecVerdict.{SpecVerdict}
use Rattle.smv_cli.specs.declared.record.Record.{Record}
use Rattle.smv_cli.specs.Written.{WritesRecordsBy}
use Rattle.smv_cli.proofs.Recording.{IsRecordOf, claimed}

abbrev pub listed : List ExprNode → List Item → List ResolvedItem
listed nodes specs = map (item_by nodes) specs

pub listed_at : (IsSo : SpecificationKind → ResolvedItem → SpecVerdict → Type 0) (nodes : List ExprNode) (specs : List Item) (i : ℕ) (s : Item) (kind : SpecificationKind) (r : Record)
    → (get_or specs i s).kind ≡ item.Specification kind → r.number ≡ i + 1 → r.kind ≡ kind → IsSo kind (item_by nodes (get_or specs i s)) r.verdict
    → IsRecordOf IsSo (i + 1) (get_or (listed nodes specs) i (item_by nodes s)) r
listed_at IsSo nodes specs i s kind r of_kind number same right =
    let x = item_by nodes (get_or specs i s) in
    let here : IsSo r.kind x r.verdict = subst (λ (k : SpecificationKind). IsSo k x r.verdict) (sym same) right in
    subst (λ (y : ResolvedItem). IsRecordOf IsSo (i + 1) y r) (sym (get_or-map (item_by nodes) specs i s)) (number, of_kind ∙ ap item.Specification (sym same), here)

pub not_claimed : (specs : List Item) (i : ℕ) (d : Item) → i < length specs → All (λ (x : Item). is_claim x.kind ≡ true) specs
    → ((k : SpecificationKind) → (get_or specs i d).kind ≡ item.Specification k → ⊥) → ⊥
not_claimed specs i d h all never = let k = claimed (get_or specs i d).kind (All-get_or (λ (x : Item). is_claim x.kind ≡ true) specs i d h all) in never k.0 k.1

-- no record is written yet
pub recorded_none : (IsSo : SpecificationKind → ResolvedItem → SpecVerdict → Type 0) (old : Option (List ℕ)) → WritesRecordsBy IsSo [] old old 0
recorded_none IsSo old = record { records = []; right = tt; each = refl; took = Appends-nil old; worst = refl }

-- all are written
pub recorded_all : (IsSo : SpecificationKind → ResolvedItem → SpecVerdict → Type 0) (specs : List ResolvedItem) (i : ℕ) (old new : Option (List ℕ)) (status : ℕ) → length specs ≤ i
    → WritesRecordsBy IsSo (take i specs) old new status → WritesRecordsBy IsSo specs old new status
recorded_all IsSo specs i old new status le made = subst (λ (xs : List ResolvedItem). WritesRecordsBy IsSo xs old new status) (take_all i specs le) made
