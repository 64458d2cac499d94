-- One bit more.
use Rattle.std.proofs.Common.{rules, ◌≡◌, ◌∙◌, ◌+◌, ◌<◌, ℕ, Bool, ◌&&◌, List, [], ◌∷◌, length, get_or, take, sym, ap}
use Rattle.std.specs.Prelude.{slice_index_or}
use Rattle.std.specs.List.{list_all}
use Rattle.std.proofs.Math.Bool.{and-true}
use Rattle.std.proofs.lemmas.List.{take_all, take_more}
use Rattle.std.proofs.lemmas.List.Folds.{list_all-append}
use Rattle.bit_graph.specs.Values.{value_under, values}
use Rattle.bit_faults.specs.Cones.{place}
use Rattle.bit_faults.proofs.Copying.{takes_kept}
use Rattle.bit_faults.proofs.questions.valid_where.Goals as goal

-- tests of one number more
tests_more : (f : ℕ → Bool) (ks : List ℕ) (i d : ℕ) → i < length ks → list_all f (take (i + 1) ks) ≡ (list_all f (take i ks) && f (get_or ks i d))
tests_more f ks i d lt =
    ap (list_all f) (take_more ks i d lt) ∙ list_all-append f (take i ks) (get_or ks i d ∷ []) ∙ ap (λ b. list_all f (take i ks) && b) (and-true (f (get_or ks i d)))

pub loop-k-preserved : goal.loop-k-preserved
loop-k-preserved c =
    let g = c.args.graph.now in
    let read = c.args.read.now in
    let domains = c.args.domains.now in
    let i = c.loop-k.k-index in
    let x = c.take_over.new.cone in
    let h = c.and.new.self in
    let copies = c.in_ok-copy.ensures.copies in
    let grown = c.in_ok-both.ensures.extends in
    record {
      copies = record {
        inputs = grown.inputs c.args.named copies.inputs;
        within = copies.within;
        taken = λ k. takes_kept x.graph h grown x.read.items (λ a. values a g k) (place x k) (copies.taken k);
      };
      extends = search rules;
      stands = c.in_ok-both.ensures.stands;
      value = λ d v ok.
          let early = grown.kept v ok in
          c.in_ok-both.ensures.value v ok
          ∙ (λ j. c.loop-k.invariant.value d v (c.in_ok-copy.ensures.extends.kept v early) j && (c.in_ok-copy.ensures.taken.value v early ∙ ap (value_under v g) (c.domain_at-domain.ensures d)) j)
          ∙ sym (tests_more (λ k. value_under v g (slice_index_or domains k d)) read i 0 c.loop-k-test.true);
    }

pub returns-clause-value : goal.returns-clause-value
returns-clause-value c = λ d v ok.
    c.loop-k.invariant.value d v ok
    ∙ ap (list_all (λ k. value_under v c.args.graph.now (slice_index_or c.args.domains.now k d))) (take_all c.loop-k.k-index c.args.read.now c.loop-k-test.false)
