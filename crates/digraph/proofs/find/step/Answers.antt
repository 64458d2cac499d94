-- A step opens a new node, or finishes the last one of the path.
use Rattle.std.proofs.Common.{◌<◌, ◌∙◌, ap, sym, length, arith, ℕ, List, All, ◌≡◌, ◌++◌, ◌∷◌, [], subst, take}
use Rattle.digraph.specs.Search.{IsDone, Scanned, Searched, mark}
use Rattle.digraph.specs.declared.mark.Mark.{Mark}
use Rattle.digraph.specs.declared.mark.Mark.TheVariants as M
use Rattle.digraph.proofs.Steps.{all_within, passed_by, scanned_in, scanned_out, step_in, step_out, top_within, within_from}
use Rattle.digraph.proofs.find.step.Goals as goal

pub successors_of-requires : goal.successors_of-requires
successors_of-requires c =
    let w = top_within c.args.g.now c.args.marks.now.items c.args.path.now.items c.args.top c.args.done.now c.requires.at in
    omega (arith, w, c.requires.at.long)

top_here : (g : List (List ℕ)) (marks : List Mark) (path scanned : List ℕ) (top done : ℕ) → Searched g marks (path ++ top ∷ []) done → Scanned g marks scanned → top < length scanned
top_here g marks path scanned top done at passed = omega (arith, top_within g marks path top done at, at.long, passed.long)

pub index-requires : goal.index-requires
index-requires c =
    let lt = top_here c.args.g.now c.args.marks.now.items c.args.path.now.items c.args.scanned.now.items c.args.top c.args.done.now c.requires.at c.requires.passed in omega (arith, lt)

pub next_of-requires-clause-nodes : goal.next_of-requires-clause-nodes
next_of-requires-clause-nodes c =
    all_within c.args.g.now c.args.top (length c.deref.result.now) c.successors_of.result.now c.requires.closed (ap length c.deref.ensures.value ∙ c.requires.at.long) c.successors_of.ensures

pub next_of-requires-clause-passed : goal.next_of-requires-clause-passed
next_of-requires-clause-passed c =
    let P : List Mark → Type 0 = λ ms. All (λ v. IsDone (mark ms v)) (take c.index.result.now c.successors_of.result.now) in
    let lt = top_here c.args.g.now c.args.marks.now.items c.args.path.now.items c.args.scanned.now.items c.args.top c.args.done.now c.requires.at c.requires.passed in
    subst P (sym c.deref.ensures.value)
    (passed_by c.args.g.now c.args.marks.now.items c.args.scanned.now.items c.successors_of.result.now c.args.top c.index.result.now c.requires.passed c.successors_of.ensures lt c.index.ensures)

pub index_mut-requires : goal.index_mut-requires
index_mut-requires c =
    let w : c.in-Fresh.v < length c.args.g.now = within_from c.args.g.now c.args.top c.in-Fresh.v c.successors_of.result.now c.requires.closed c.successors_of.ensures c.in-Fresh.ensures.0 in
    omega (arith, w, c.requires.at.long)

pub index_mut-requires-in-AllDone : goal.index_mut-requires-in-AllDone
index_mut-requires-in-AllDone c =
    let w = top_within c.args.g.now c.args.marks.now.items c.args.path.now.items c.args.top c.args.done.now c.requires.at in
    omega (arith, w)

pub returns-in_ok-push-in-Fresh-2 : goal.returns-in_ok-push-in-Fresh-2
returns-in_ok-push-in-Fresh-2 c =
    let new : mark c.args.marks.now.items c.in-Fresh.v ≡ M.New = ap (λ (ms : List Mark). mark ms c.in-Fresh.v) (sym c.deref.ensures.value) ∙ c.in-Fresh.ensures.1 in
    let P : List Mark → Type 0 = λ ms. All (λ v. IsDone (mark ms v)) (take c.in-Fresh.place c.successors_of.result.now) in
    let lt = top_here c.args.g.now c.args.marks.now.items c.args.path.now.items c.args.scanned.now.items c.args.top c.args.done.now c.requires.at c.requires.passed in (
      step_in c.args.g.now c.args.marks.now.items c.args.path.now.items c.args.top c.in-Fresh.v c.args.done.now c.push-in-Fresh.new.self.items c.successors_of.result.now
          c.requires.at c.requires.closed c.successors_of.ensures c.in-Fresh.ensures.0 new
          (c.in_ok-push-in-Fresh-2.ensures.items ∙ ap (λ (p : List ℕ). p ++ c.in-Fresh.v ∷ []) c.in_ok-push-in-Fresh.ensures.items),
      scanned_in c.args.g.now c.args.marks.now.items c.args.scanned.now.items c.successors_of.result.now c.args.top c.in-Fresh.v c.in-Fresh.place
          c.requires.passed c.successors_of.ensures new lt (subst P c.deref.ensures.value c.in-Fresh.ensures.2),
    )

pub returns-in-AllDone : goal.returns-in-AllDone
returns-in-AllDone c =
    let P : List Mark → Type 0 = λ ms. All (λ v. IsDone (mark ms v)) c.successors_of.result.now in (
      step_out c.args.g.now c.args.marks.now.items c.args.path.now.items c.args.top c.args.done.now c.successors_of.result.now
          c.requires.at c.successors_of.ensures (subst P c.deref.ensures.value c.in-AllDone.ensures),
      scanned_out c.args.g.now c.args.marks.now.items c.args.scanned.now.items c.args.top c.args.done.now c.requires.passed
          (top_within c.args.g.now c.args.marks.now.items c.args.path.now.items c.args.top c.args.done.now c.requires.at),
    )
