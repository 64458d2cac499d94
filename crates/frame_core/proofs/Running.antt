-- A run gets one state more.
use Rattle.std.proofs.Common.{◌≡◌, ℕ, ◌+◌, ◌-◌, ◌<◌, Bool, List, [], ◌∷◌, ◌++◌, length, get_or, sym, ap, ◌∙◌, subst, inl, inr, arith, length-append}
use Rattle.std.specs.List.{All}
use Rattle.std.proofs.Math.ListN.{get_or-append}
use Rattle.std.proofs.Math.Seq.{get_or-append_seam}
use Rattle.std.proofs.lemmas.Bool.{cases_lt}
use Rattle.std.proofs.lemmas.List.Elements.{All-append, All-cons}
use Rattle.clause_core.specs.Assignments.{ClauseTrue, assignment_of}
use Rattle.clause_core.specs.Systems.{TransitionSystem, FirstBits, NextIs}
use Rattle.frame_core.specs.Runs.{IsBitRun, IsBadRun, row_at}

-- the run of one state
pub run_one : (sys : TransitionSystem) (v : List Bool) → length v ≡ sys.all_bits → FirstBits sys (assignment_of v) → IsBitRun sys ([] ++ v ∷ [])
run_one sys v whole first =
    record {
      some = omega arith;
      whole = All-cons (λ (r : List Bool). length r ≡ sys.all_bits) v [] whole (λ k d lt. absurd (omega (arith, lt)));
      first = first;
      steps = λ k lt. absurd (omega (arith, lt));
      links = λ k lt. absurd (omega (arith, lt));
    }

-- one state more, to which a step leads from the last
pub run_more : (sys : TransitionSystem) (rows : List (List Bool)) (v w : List Bool) → IsBitRun sys (rows ++ v ∷ []) →
    All (ClauseTrue (assignment_of v)) sys.step → NextIs sys.state_bits (assignment_of v) (assignment_of w) → length w ≡ sys.all_bits →
    IsBitRun sys ((rows ++ v ∷ []) ++ w ∷ [])
run_more sys rows v w run step next whole =
    let old = rows ++ v ∷ [] in
    let more = old ++ w ∷ [] in
    let len : length old ≡ length rows + 1 = length-append rows (v ∷ []) in
    let longer : length more ≡ length old + 1 = length-append old (w ∷ []) in
    let front : (k : ℕ) → k < length old → get_or more k [] ≡ get_or old k [] = λ k lt. get_or-append old (w ∷ []) [] k lt in
    let last : get_or old (length rows) [] ≡ v = get_or-append_seam rows v [] [] in
    let end : get_or more (length old) [] ≡ w = get_or-append_seam old w [] [] in
    record {
      some = omega arith;
      whole = All-append (λ (r : List Bool). length r ≡ sys.all_bits) old (w ∷ []) run.whole
          (All-cons (λ (r : List Bool). length r ≡ sys.all_bits) w [] whole (λ k d lt. absurd (omega (arith, lt))));
      first = subst (λ (r : List Bool). FirstBits sys (assignment_of r)) (sym (front 0 run.some)) run.first;
      steps = λ k lt. elim (cases_lt (k + 1) (length old)) [
        | inl below ↦ subst (λ (r : List Bool). All (ClauseTrue (assignment_of r)) sys.step) (sym (front k (omega arith))) (run.steps k below)
        | inr at ↦
            let e : k ≡ length rows = omega arith in
            let here : get_or more k [] ≡ v = front k (omega arith) ∙ ap (λ (n : ℕ). get_or old n []) e ∙ last in
            subst (λ (r : List Bool). All (ClauseTrue (assignment_of r)) sys.step) (sym here) step
      ];
      links = λ k lt. elim (cases_lt (k + 1) (length old)) [
        | inl below ↦
            subst (λ (r : List Bool). NextIs sys.state_bits (assignment_of r) (row_at more (k + 1))) (sym (front k (omega arith)))
            (subst (λ (r : List Bool). NextIs sys.state_bits (row_at old k) (assignment_of r)) (sym (front (k + 1) below)) (run.links k below))
        | inr at ↦
            let e : k ≡ length rows = omega arith in
            let here : get_or more k [] ≡ v = front k (omega arith) ∙ ap (λ (n : ℕ). get_or old n []) e ∙ last in
            let f : k + 1 ≡ length old = omega arith in
            let there : get_or more (k + 1) [] ≡ w = ap (λ (n : ℕ). get_or more n []) f ∙ end in
            subst (λ (r : List Bool). NextIs sys.state_bits (assignment_of r) (row_at more (k + 1))) (sym here)
            (subst (λ (r : List Bool). NextIs sys.state_bits (assignment_of v) (assignment_of r)) (sym there) next)
      ];
    }

-- a run whose last state is bad
pub run_bad : (sys : TransitionSystem) (rows : List (List Bool)) (v : List Bool) → IsBitRun sys (rows ++ v ∷ []) →
    All (ClauseTrue (assignment_of v)) sys.bad → IsBadRun sys (rows ++ v ∷ [])
run_bad sys rows v run bad =
    let e : length (rows ++ v ∷ []) - 1 ≡ length rows = omega (arith, length-append rows (v ∷ [])) in
    let here : get_or (rows ++ v ∷ []) (length (rows ++ v ∷ []) - 1) [] ≡ v =
    ap (λ (n : ℕ). get_or (rows ++ v ∷ []) n []) e ∙ get_or-append_seam rows v [] [] in
    record { run = run; bad = subst (λ (r : List Bool). All (ClauseTrue (assignment_of r)) sys.bad) (sym here) bad }
