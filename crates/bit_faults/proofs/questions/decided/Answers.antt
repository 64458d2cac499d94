-- The clauses of the cone ask the same of the graph.
use Rattle.std.proofs.Common.{◌≡◌, ◌∙◌, ◌<◌, ◌&&◌, ℕ, ap, arith}
use Rattle.std.specs.Prelude.{slice_index_or}
use Rattle.std.specs.List.{list_all}
use Rattle.bit_graph.specs.Values.{value_under, values}
use Rattle.bit_clauses.proofs.Deciders.{decides_as}
use Rattle.bit_faults.proofs.Asked.{inputs_kept, same_tests, under_same}
use Rattle.bit_faults.proofs.Copying.{copy_kept}
use Rattle.bit_faults.proofs.questions.decided.Goals as goal

pub returns : goal.returns
returns c =
    let n = c.args.named in
    let g = c.args.graph.now in
    let domains = c.args.domains.now in
    let e = c.args.edge in
    let x = c.take_over.new.cone in
    let h = c.valid_where.new.cone.graph in
    let read = x.read.items in
    let law = c.one_way.ensures.law in
    let inner = c.one_way-2.ensures.law in
    let inputs = c.in_ok-valid.ensures.inputs in
    let own = c.in_ok-own.own in
    let valid = c.in_ok-valid.valid in
    let copy = c.in_ok-own.ensures.taken in
    let kept = copy_kept x.graph h c.in_ok-valid.ensures.extends read (λ a. value_under a g e) own copy in
    let within = c.in_ok-own.ensures.copies.within in
    let read_is : c.deref-2.result.now ≡ read = c.deref-2.ensures.value ∙ c.in_ok-read.ensures.items ∙ c.deref.ensures.value in
    record {
      read = read;
      within_inputs = within;
      reads = copy.reads;
      decides = decides_as n c.in_ok-decided.decided.clauses (λ y. value_under y h valid && value_under y h own)
          (λ y. list_all (λ k. value_under y g (slice_index_or domains k e)) read && value_under y g e)
          (λ y.
          let v = values y h in
          let ok = (inner.some y).0 in
          let same : (k : ℕ) → k < n → v k ≡ y k = inputs_kept n h inner inputs y in
          let first : value_under y h valid ≡ list_all (λ k. value_under y g (slice_index_or domains k e)) read =
          c.in_ok-valid.ensures.value e v ok
          ∙ ap (list_all (λ k. value_under v g (slice_index_or domains k e))) read_is
          ∙ same_tests (λ k. value_under v g (slice_index_or domains k e)) (λ k. value_under y g (slice_index_or domains k e)) read n within (λ k lt.
          under_same n g law c.requires.inputs v y (slice_index_or domains k e) (c.requires.stand k e (omega (arith, lt, c.requires.long))) same) in
          let second : value_under y h own ≡ value_under y g e = kept.value v ok ∙ under_same n g law c.requires.inputs v y e c.requires.edge same in
          λ i. first i && second i)
          c.in_ok-decided.ensures.decides;
      within = c.in_ok-decided.ensures.within;
      room = c.in_ok-decided.ensures.room;
    }
