-- A search begins at a new node; an edge back to the path closes a cycle.
use Rattle.std.proofs.Common.{◌≡◌, ◌∙◌, ap, sym, subst, ℕ, List, ◌++◌, ◌∷◌, []}
use Rattle.digraph.specs.Search.{Searched}
use Rattle.digraph.specs.declared.mark.Mark.TheVariants as M
use Rattle.digraph.proofs.Steps.{scanned_start, started, begun, marked, open_new}
use Rattle.digraph.proofs.Rounds.{cycle_of}
use Rattle.digraph.proofs.find.search_from.Goals as goal

pub loop-top-init : goal.loop-top-init
loop-top-init c =
    record {
      at = started c.args.g.now c.args.marks.now.items c.args.start c.args.done.now c.push.new.self.items c.requires.at c.requires.start.0 c.requires.start.1 (c.in_ok-push.ensures.items ∙ ap (λ (p : List ℕ). p ++ c.args.start ∷ []) c.new-path.ensures.items);
      begun = begun c.args.marks.now.items c.args.start M.Open c.requires.start.0 open_new;
      passed = scanned_start c.args.g.now c.args.marks.now.items c.args.scanned.now.items c.args.start c.requires.passed c.requires.start.1;
      start = λ e. open_new (sym (marked c.args.marks.now.items c.args.start M.Open c.requires.start.0) ∙ e);
    }

pub returns-in-Some-2 : goal.returns-in-Some-2
returns-in-Some-2 c =
    let d = rw c.in-Some-2.is at c.in_ok-v.ensures in
    let made : c.deref.result.now ≡ c.pop.new.self.items ++ c.in-Some.top ∷ [] =
    c.deref.ensures.value ∙ c.in_ok-push-2.ensures.items ∙ ap (λ (p : List ℕ). p ++ c.in-Some.top ∷ []) (ap (λ p. p.items) d.2) in
    let same : c.loop-top.path.items ≡ c.deref.result.now = c.in-Some.ensures.items ∙ sym made in
    let P : List ℕ → Type 0 = λ p. Searched c.args.g.now c.loop-top.marks.items p c.loop-top.done in
    cycle_of c.args.g.now c.loop-top.marks.items c.deref.result.now c.pop.new.self.items c.in_ok-cycle.cycle c.in-Some.top c.in-Some-2.v c.loop-top.done
    (subst P same c.loop-top.invariant.at) made d.0 d.1 c.in_ok-cycle.ensures
