-- The records of specifications, one by one.
use Rattle.std.proofs.Common.{◌≡◌, ◌∙◌, ◌⊎◌, ℕ, zero, suc, ◌+◌, ◌-◌, ◌<◌, Bool, true, List, [], ◌∷◌, ◌++◌, length, map, get_or, slice_get, Option, None, Some, refl, sym, ap, subst, arith, inl, inr, length-append}
use Rattle.std.specs.Prelude.{slice_index_or}
use Rattle.std.specs.List.{All, Contains}
use Rattle.std.proofs.lemmas.List.{length-map}
use Rattle.std.proofs.lemmas.List.Elements.{All-get_or}
use Rattle.std.proofs.lemmas.Option.{get_or_from_slice_get, slice_get-get_or, slice_get_within}
use Rattle.std.proofs.Math.ListN.{get_or-map}
use Rattle.cert_core.specs.Blocks.{Block}
use Rattle.smv_tree.specs.declared.tree.Program.{Program}
use Rattle.smv_tree.specs.declared.tree.SpecificationKind.{SpecificationKind}
use Rattle.smv_resolve.specs.declared.item.Item.{Item}
use Rattle.smv_resolve.specs.declared.item.ItemKind.{ItemKind}
use Rattle.smv_resolve.specs.declared.item.ItemKind.TheVariants as item
use Rattle.smv_resolve.specs.declared.node.ExprNode.{ExprNode}
use Rattle.smv_resolve.specs.Items.{ResolvedItem, item_by}
use Rattle.smv_meaning.specs.Runs.{is_claim, specifications_of}
use Rattle.bit_system.specs.Building.{BitProgram, IsBuilt, system_of}
use Rattle.sound_check.specs.declared.judging.SoundVerdict.{SoundVerdict}
use Rattle.trace_replay.specs.declared.trace.Trace.{Trace}
use Rattle.trace_replay.specs.Tests.{specification_at}
use Rattle.smv_recheck.specs.declared.judgement.Record.{Record}
use Rattle.smv_recheck.specs.Checking.{AreRecords}
use Rattle.smv_recheck.specs.Judging.{IsRecord}
use Rattle.smv_recheck.specs.Refusing.{spec_count}

-- an item of which it is said that it is a specification is one
pub claimed : (kind : ItemKind) → is_claim kind ≡ true → ((k : SpecificationKind) → kind ≡ item.Specification k → ⊥) → ⊥
claimed (item.Specification k) h never = never k refl
claimed (item.Assignment k) h never = cc
claimed (item.Constraint k) h never = cc

pub numbered : (p : Program) (j : ℕ) (spec : ResolvedItem) → slice_get (specifications_of p) j ≡ Some spec → specification_at p (j + 1) ≡ Some spec
numbered p j spec h = let back : j + 1 - 1 ≡ j = omega arith in ap (slice_get (specifications_of p)) back ∙ h

-- there is a system for each specification
pub has_system : (p : Program) (b : BitProgram) (j : ℕ) (spec : ResolvedItem) → IsBuilt p b → slice_get (specifications_of p) j ≡ Some spec → j < length b.systems
has_system p b j spec built h = let within = slice_get_within (specifications_of p) j spec h in omega (arith, within, built.each_one)

pub at_place : (p : Program) (nodes : List ExprNode) (specs : List Item) (j : ℕ) (d : Item) → j < length specs → map (item_by nodes) specs ≡ specifications_of p
    → slice_get (specifications_of p) j ≡ Some (item_by nodes (get_or specs j d))
at_place p nodes specs j d within same =
    ap (λ (xs : List ResolvedItem). slice_get xs j) (sym same)
    ∙ slice_get-get_or (map (item_by nodes) specs) j (item_by nodes d) (omega (arith, within, length-map specs (item_by nodes)))
    ∙ ap (λ (x : ResolvedItem). Some x) (get_or-map (item_by nodes) specs j d)

pub claim_at : (specs : List Item) (j : ℕ) (s : Item) → j < length specs → All (λ (x : Item). is_claim x.kind ≡ true) specs → s ≡ get_or specs j s → is_claim s.kind ≡ true
claim_at specs j s within all is = subst (λ (x : Item). is_claim x.kind ≡ true) (sym is) (All-get_or (λ (x : Item). is_claim x.kind ≡ true) specs j s within all)

-- what stands at a place
pub element_at : {A : Type 0} (xs : List A) (i : ℕ) → i < length xs → (x : A) × (slice_get xs i ≡ Some x)
element_at [] i lt = absurd (let never : ⊥ = omega (arith, lt) in never)
element_at (x ∷ xs) zero lt = (x, refl)
element_at (x ∷ xs) (suc i) lt = element_at xs i (omega (arith, lt))

-- what stands at a place is in the list
pub is_among : {A : Type 0} (xs : List A) (i : ℕ) (x : A) → slice_get xs i ≡ Some x → Contains xs x
is_among xs i x h = (i, slice_get_within xs i x h, get_or_from_slice_get xs i x x h)

some_is : {A : Type 0} (a b : A) → Some a ≡ Some b → a ≡ b
some_is a b e = cc

pushed_at : (rs : List Record) (last : Record) (k : ℕ) (r : Record) → slice_get (rs ++ last ∷ []) k ≡ Some r → (slice_get rs k ≡ Some r) ⊎ ((k ≡ length rs) × (r ≡ last))
pushed_at [] last zero r h = inr (refl, some_is r last (sym h))
pushed_at [] last (suc k) r h = absurd (let never : ⊥ = cc in never)
pushed_at (x ∷ rs) last zero r h = inl h
pushed_at (x ∷ rs) last (suc k) r h = elim (pushed_at rs last k r h) [ inl before ↦ inl before | inr here ↦ inr (ap suc here.0, here.1) ]

-- the records so far
pub record SoFar (p : Program) (b : BitProgram) (soundness : SoundVerdict) (upgrade : Bool) (traces : List (Option Trace)) (certificates : List (Option Block)) (n : ℕ) (records : List Record) : Type 0 where
  pub long : length records ≡ n
  pub each : (j : ℕ) (spec : ResolvedItem) (r : Record) → slice_get (specifications_of p) j ≡ Some spec → slice_get records j ≡ Some r
      → IsRecord p soundness (system_of b j) upgrade (slice_index_or traces j None) (slice_index_or certificates j None) (j + 1) spec r

module _ (p : Program) (b : BitProgram) (soundness : SoundVerdict) (upgrade : Bool) (traces : List (Option Trace)) (certificates : List (Option Block)) where
  abbrev IsAt : ℕ → ResolvedItem → Record → Type 0
  IsAt j spec r = IsRecord p soundness (system_of b j) upgrade (slice_index_or traces j None) (slice_index_or certificates j None) (j + 1) spec r

  pub none_yet : SoFar p b soundness upgrade traces certificates 0 []
  none_yet = record { long = refl; each = λ j spec r at here. absurd (let never : ⊥ = cc in never) }

  pub one_more : (j : ℕ) (records : List Record) (spec : ResolvedItem) (last : Record) → SoFar p b soundness upgrade traces certificates j records → slice_get (specifications_of p) j ≡ Some spec → IsAt j spec last
      → SoFar p b soundness upgrade traces certificates (j + 1) (records ++ last ∷ [])
  one_more j records spec last so at new = record {
    long = length-append records (last ∷ []) ∙ ap (λ (n : ℕ). n + 1) so.long;
    each = λ k s r here found. elim (pushed_at records last k r found) [
      | inl before ↦ so.each k s r here before
      | inr end ↦ (
          let kj : k ≡ j = end.0 ∙ so.long in
          let same : s ≡ spec = some_is s spec (sym here ∙ ap (slice_get (specifications_of p)) kj ∙ at) in
          subst (λ (n : ℕ). IsAt n s r) (sym kj) (subst (λ (x : ResolvedItem). IsAt j x r) (sym same) (subst (λ (q : Record). IsAt j spec q) (sym end.1) new)))
    ];
  }

  pub all_done : (n : ℕ) (records : List Record) → SoFar p b soundness upgrade traces certificates n records → n ≡ spec_count p → AreRecords p b soundness upgrade traces certificates records
  all_done n records so e = record { each_one = so.long ∙ e; each = so.each }
