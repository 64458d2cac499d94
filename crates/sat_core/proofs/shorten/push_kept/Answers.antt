use Rattle.std.proofs.Common.{rules, ◌≡◌, ◌<◌, ◌++◌, ◌∷◌, [], ◌⊎◌, length, List, ℕ, ◌+◌, Bool, take, get_or, arith, refl, sym, subst, ap, ◌∙◌, inl, inr}
use Rattle.std.specs.List.{All, Contains}
use Rattle.std.proofs.lemmas.List.{take_all, get_or_read_under}
use Rattle.std.proofs.lemmas.List.Elements.{All-more, All-push, All-weaker, Contains-push, Contains-append_left}
use Rattle.sat_prop.specs.declared.trail.Trail.{Trail}
use Rattle.sat_core.specs.Searching.{Implied, MarksImplied}
use Rattle.sat_core.proofs.Shortening.{implied_more, kept_recover, marks_on}
use Rattle.sat_core.proofs.shorten.push_kept.Goals as goal
use Rattle.sat_core.proofs.shorten.push_kept.Goals.{then-not-is_implied+in_ok-push, else-not-is_implied}

pub low-preserved : goal.low-preserved
low-preserved g c =
    let u = g.P.Propagator.trail c.args.inner.now in
    let cs = g.P.Propagator.clauses c.args.inner.now in
    let first = c.index-first.result.now in
    let v = c.low.marks in
    let new = c.is_implied.new.marks in
    let low = c.args.low.now in
    let i = c.low.x-index in
    let kept = c.low.kept.items in
    let inv = c.low.invariant in
    let li : i < length low = omega arith in
    let grown : MarksImplied u cs first v new = c.is_implied.ensures.marks in
    let L : List ℕ → List Bool → ℕ → Type 0 = λ ks ms q. Contains ks q ⊎ Implied u cs ms first q in
    let marks = marks_on u cs first c.args.marks.now v new inv.marks grown in
    elim c.if-not-is_implied.branch [
      | then-not-is_implied+in_ok-push b ↦
          let q = get_or low i 0 in
          let ks = kept ++ q ∷ [] in
          let items : b.push.new.self.items ≡ ks = b.in_ok-push.ensures.items in
          let A : List ℕ → Type 0 = λ xs. All (L xs new) (take (i + 1) low) in
          let left : A ks = All-more (L ks new) low i 0 li
          (All-weaker (L kept v) (L ks new) (λ k h. elim h [ inl o ↦ inl (Contains-append_left kept (q ∷ []) k o) | inr m ↦ inr (implied_more u cs first k v new grown.0 m) ]) (take i low) inv.left)
          (inl (Contains-push kept q)) in
          let B : List ℕ → Type 0 = All (λ k. k < c.args.floor) in
          let below : B ks = All-push (λ k. k < c.args.floor) kept q inv.below (c.requires.low.1 i 0 li).0 in
          rw b.kept-is (record { marks = marks; left = subst A (sym items) left; below = subst B (sym items) below })
      | else-not-is_implied b ↦
          let says = b.if-not-is_implied.ensures.says in
          let left = All-more (L kept new) low i 0 li
          (All-weaker (L kept v) (L kept new) (λ k h. elim h [ inl o ↦ inl o | inr m ↦ inr (implied_more u cs first k v new grown.0 m) ]) (take i low) inv.left)
          (inr (c.is_implied.ensures.says (search (rules, b.if-not-is_implied.false)))) in
          rw b.kept-is (record { marks = marks; left = left; below = inv.below })
    ]

pub returns-clause-recovers : goal.returns-clause-recovers
returns-clause-recovers g c =
    let u = g.P.Propagator.trail c.args.inner.now in
    let cs = g.P.Propagator.clauses c.args.inner.now in
    let x = c.assignment.result.now in
    let first = c.index-first.result.now in
    let v = c.low.marks in
    let low = c.args.low.now in
    let kept = c.low.kept.items in
    let inv = c.low.invariant in
    let some : 0 < length x.level_starts.items = omega (arith, c.requires.level, ap (λ (y : Trail). length y.level_starts.items) c.assignment.ensures) in
    let read : first ≡ get_or x.level_starts.items 0 0 = get_or_read_under x.level_starts.items 0 (length x.level_starts.items) first 0 c.index-first.ensures some refl in
    let ef : first ≡ get_or u.level_starts.items 0 0 = read ∙ ap (λ (y : Trail). get_or y.level_starts.items 0 0) c.assignment.ensures in
    let L : ℕ → Type 0 = λ q. Contains kept q ⊎ Implied u cs v first q in
    let A : List ℕ → Type 0 = All L in
    let left : A low = subst A (take_all c.low.x-index low (omega arith)) inv.left in
    kept_recover u cs c.args.marks.now v first c.args.floor c.args.p low kept (g.met.P.Propagator.based c.args.inner.now) c.requires.level ef
    c.requires.marks_len c.requires.only c.requires.low inv.marks left
