-- What is accepted shows that the specification is broken, and only that.
use Rattle.std.proofs.Common.{◌≡◌, ◌↔◌, ◌<◌, ℕ, List, length, map, get_or, slice_get, refl, sym, subst, ap, ◌∙◌, Option, Some, Result, Ok, Err, IfOk, IfSome}
use Rattle.std.proofs.lemmas.Option.{slice_get-get_or}
use Rattle.std.proofs.Math.ListN.{get_or-map}
use Rattle.smv_tree.specs.declared.tree.Program.{Program}
use Rattle.smv_tree.specs.declared.tree.SpecificationKind.TheVariants as claim
use Rattle.smv_resolve.specs.declared.item.Item.{Item}
use Rattle.smv_resolve.specs.declared.item.ItemKind.{ItemKind}
use Rattle.smv_resolve.specs.declared.item.ItemKind.TheVariants as item
use Rattle.smv_resolve.specs.Items.{ResolvedItem}
use Rattle.trace_replay.specs.declared.rule.Replayed.{Replayed}
use Rattle.trace_replay.specs.declared.rule.Replayed.TheVariants.{Accepted, Rejected}
use Rattle.trace_replay.specs.declared.trace.Trace.{Trace}
use Rattle.trace_replay.specs.Lassos.{IsLassoReplay, IsReplayOf, Shows, ShowsViolated}
use Rattle.trace_replay.specs.Rows.{AreTypes}
use Rattle.trace_replay.specs.Tests.{IsReplay, ShowsBroken}
use Rattle.trace_replay.proofs.Broken.{broken_passes}
use Rattle.trace_replay.proofs.Shows.{shows}
use Rattle.trace_replay.proofs.Violated.{shows_violated, violated_passes}

accepted : (p : Program) → AreTypes p → (spec : ResolvedItem) (t : Trace) (r : Replayed) → IsReplay p spec t r → (r ≡ Accepted) ↔ ShowsBroken p spec t
accepted p types spec t Accepted h = (λ e. shows p spec t h, λ b. refl)
accepted p types spec t (Rejected rule n) h =
    (λ e. absurd (let never : ⊥ = cc in never), λ b. absurd (let e = sym h.fails ∙ broken_passes p types spec t b rule n in let never : ⊥ = cc in never))

lasso_accepted : (p : Program) → AreTypes p → (spec : ResolvedItem) (t : Trace) (r : Replayed) → IsLassoReplay p spec t r → (r ≡ Accepted) ↔ ShowsViolated p spec t
lasso_accepted p types spec t Accepted h = (λ e. shows_violated p spec t h, λ v. refl)
lasso_accepted p types spec t (Rejected rule n) h =
    (λ e. absurd (let never : ⊥ = cc in never), λ v. absurd (h.fails (violated_passes p types spec t v rule n)))

-- the same of a specification of either kind
shown : (kind : ItemKind) (p : Program) → AreTypes p → (spec : ResolvedItem) (t : Trace) (r : Replayed) → IsReplayOf kind p spec t r → Shows kind p spec t r
shown (item.Specification claim.Temporal) p types spec t r h = lasso_accepted p types spec t r h
shown (item.Specification claim.Invariant) p types spec t r h = accepted p types spec t r h
shown (item.Assignment kind) p types spec t r h = accepted p types spec t r h
shown (item.Constraint kind) p types spec t r h = accepted p types spec t r h

-- the specification of a number
at_number : (f : Item → ResolvedItem) (xs : List Item) (ys : List ResolvedItem) (k : ℕ) (d : Item) → map f xs ≡ ys → k < length ys → slice_get ys k ≡ Some (f (get_or xs k d))
at_number f xs ys k d same within =
    slice_get-get_or ys k (f d) within
    ∙ ap (λ (l : List ResolvedItem). Some (get_or l k (f d))) (sym same)
    ∙ ap (λ (y : ResolvedItem). Some y) (get_or-map f xs k d)

-- what a call says of it
at_spec : {E : Type 0} (Q : ResolvedItem → Replayed → Type 0) (o : Option ResolvedItem) (x : ResolvedItem) (r : Result Replayed E) → o ≡ Some x → IfOk r (Q x) → IfOk r (λ y. IfSome o (λ z. Q z y))
at_spec Q o x (Ok y) is h = subst (λ (q : Option ResolvedItem). IfSome q (λ z. Q z y)) (sym is) h
at_spec Q o x (Err e) is h = h

on_ok : {E : Type 0} (P Q : Replayed → Type 0) (r : Result Replayed E) → ((y : Replayed) → P y → Q y) → IfOk r P → IfOk r Q
on_ok P Q (Ok y) f h = f y h
on_ok P Q (Err e) f h = h

module _ {E : Type 0} (p : Program) (f : Item → ResolvedItem) (xs : List Item) (ys : List ResolvedItem) (k : ℕ) (d : Item) (t : Trace) (r : Result Replayed E) (same : map f xs ≡ ys) (within : k < length ys) where
  abbrev at : ResolvedItem
  at = f (get_or xs k d)

  pub judged_at : IfOk r (IsReplayOf at.kind p at t) → IfOk r (λ y. IfSome (slice_get ys k) (λ x. IsReplayOf x.kind p x t y))
  judged_at h = at_spec (λ x y. IsReplayOf x.kind p x t y) (slice_get ys k) at r (at_number f xs ys k d same within) h

  pub shown_at : AreTypes p → IfOk r (IsReplayOf at.kind p at t) → IfOk r (λ y. IfSome (slice_get ys k) (λ x. Shows x.kind p x t y))
  shown_at types h =
      at_spec (λ x y. Shows x.kind p x t y) (slice_get ys k) at r (at_number f xs ys k d same within)
      (on_ok (IsReplayOf at.kind p at t) (Shows at.kind p at t) r (λ y. shown at.kind p types at t y) h)

  -- the same of the trace of a run
  pub run_judged_at : IfOk r (IsReplay p at t) → IfOk r (λ y. IfSome (slice_get ys k) (λ x. IsReplay p x t y))
  run_judged_at h = at_spec (λ x y. IsReplay p x t y) (slice_get ys k) at r (at_number f xs ys k d same within) h

  pub run_shown_at : AreTypes p → IfOk r (IsReplay p at t) → IfOk r (λ y. IfSome (slice_get ys k) (λ x. (y ≡ Accepted) ↔ ShowsBroken p x t))
  run_shown_at types h =
      at_spec (λ x y. (y ≡ Accepted) ↔ ShowsBroken p x t) (slice_get ys k) at r (at_number f xs ys k d same within)
      (on_ok (IsReplay p at t) (λ y. (y ≡ Accepted) ↔ ShowsBroken p at t) r (λ y. accepted p types at t y) h)
