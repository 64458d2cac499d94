use Rattle.std.proofs.Common.{◌≡◌, ℕ, ◌+◌, [], ◌∷◌, ◌++◌, length, sym, ap, ◌∙◌, subst, arith, length-append}
use Rattle.std.specs.List.{count_by}
use Rattle.frame_core.specs.Counting.{AreCounts, is_live_at}
use Rattle.frame_core.proofs.Counts.{counted_level}
use Rattle.frame_core.proofs.counting.count_below.Goals as goal

pub levels-preserved : goal.levels-preserved
levels-preserved c =
    let ls = c.args.lemmas.now in
    let old = c.levels.counts.items in
    let n = c.count_at.result in
    let e : c.push.new.self.items ≡ old ++ n ∷ [] = c.in_ok-push.ensures.items in
    let at : n ≡ count_by (is_live_at (length old)) ls = c.count_at.ensures ∙ ap (λ (i : ℕ). count_by (is_live_at i) ls) (sym c.levels.invariant.far) in
    let len : length c.push.new.self.items ≡ length old + 1 = ap length e ∙ length-append old (n ∷ []) in
    let longer = c.levels.invariant.longer in
    let far = c.levels.invariant.far in
    record {
      counted = subst (AreCounts ls) (sym e) (counted_level ls old n c.levels.invariant.counted at);
      longer = omega arith;
      far = omega arith;
    }
