-- One input more.
use Rattle.std.proofs.Common.{◌∙◌, ℕ, Bool, List, [], ◌∷◌, ◌++◌, Vec, Global, ap, sym}
use Rattle.std.specs.List.{list_any}
use Rattle.smv_formulas.specs.Says.{atom_parts}
use Rattle.bit_formula.specs.Reading.{is_read}
use Rattle.bit_formula.proofs.Numbers.{listed_none, listed_one}
use Rattle.bit_formula.proofs.reading.all_read.Goals as goal
use Rattle.bit_formula.proofs.reading.all_read.Goals.{then-read+in_ok-push, else-read}

pub loop-k-preserved : goal.loop-k-preserved
loop-k-preserved c =
    let f : ℕ → Bool = λ k. list_any (is_read c.args.slots.now k) (atom_parts c.args.nodes.now c.args.atoms.now) in
    let k = c.loop-k.k in
    elim c.if-read.branch [
      | then-read+in_ok-push w ↦
          ap (λ (v : Vec ℕ Global). v.items) w.reads-is ∙ w.in_ok-push.ensures.items ∙ ap (λ (l : List ℕ). l ++ k ∷ []) c.loop-k.invariant
          ∙ listed_one f k (sym c.in_ok-read.ensures ∙ w.if-read.true)
      | else-read w ↦
          ap (λ (v : Vec ℕ Global). v.items) w.reads-is ∙ c.loop-k.invariant ∙ listed_none f k (sym c.in_ok-read.ensures ∙ w.if-read.false)
    ]
