use Rattle.std.proofs.Common.{◌≡◌, ◌++◌, ◌∷◌, [], ◌+◌, List, Bool, false, take, get_or, length, subst, sym, arith, ◌<◌}
use Rattle.std.specs.Prelude.{Contains, slice_index_or}
use Rattle.std.proofs.lemmas.List.{take_more}
use Rattle.std.proofs.lemmas.List.Elements.{All-get_or}
use Rattle.clause_core.specs.declared.literal.Lit.{Lit}
use Rattle.clause_core.specs.Literals.{none_lit, negate}
use Rattle.frame_solver.specs.Stepping.{IsCut}
use Rattle.frame_solver.proofs.Cutting.{cut_push, cut_skip}
use Rattle.frame_solver.proofs.Marked.{unmarked_in}
use Rattle.frame_solver.proofs.first_states.part_of.Goals as goal
use Rattle.frame_solver.proofs.first_states.part_of.Goals.{then-is_marked+in_ok-push, else-is_marked}

pub literals-preserved : goal.literals-preserved
literals-preserved c =
    let clause = c.args.clause.now in
    let core = c.args.core.now in
    let bits = c.args.bits in
    let marks = c.in_ok-marks.marks.items in
    let i = c.literals.l-index in
    let part = c.literals.part.items in
    let lt : i < length clause = c.literals-test.true in
    let l : Lit = get_or clause i none_lit in
    let more = take_more clause i none_lit lt in
    let P : List Lit → Type 0 = λ xs. IsCut negate core xs c.if-is_marked.part.items in
    let Q : List Lit → Type 0 = λ ps. IsCut negate core (take i clause ++ l ∷ []) ps in
    let in_range : l.var < length marks = subst (λ n. l.var < n) (sym c.in_ok-marks.ensures.len) (All-get_or (λ (m : Lit). m.var < bits) clause i none_lit lt c.requires.within) in
    elim c.if-is_marked.branch [
      | then-is_marked+in_ok-push w ↦
          let e : c.if-is_marked.part.items ≡ part ++ l ∷ [] = cc (w.part-is, w.in_ok-push.ensures.items) in
          subst P (sym more) (subst Q (sym e) (cut_push negate core (take i clause) part l c.literals.invariant))
      | else-is_marked w ↦
          let e : c.if-is_marked.part.items ≡ part = cc w.part-is in
          let off : slice_index_or marks l.var false ≡ false = subst (λ (ms : List Bool). slice_index_or ms l.var false ≡ false) c.deref.ensures.value (sym w.if-is_marked.ensures) in
          let here : (negate l).var ≡ 0 + l.var = omega arith in
          let none : Contains core (negate l) → ⊥ = unmarked_in 0 core marks c.in_ok-marks.ensures.marked (negate l) l.var in_range here off in
          subst P (sym more) (subst Q (sym e) (cut_skip negate core (take i clause) part l c.literals.invariant none))
    ]
