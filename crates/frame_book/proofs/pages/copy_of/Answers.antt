use Rattle.std.proofs.Common.{[], sym, subst, arith}
use Rattle.frame_core.specs.Copies.{LagsBehind}
use Rattle.frame_book.proofs.pages.copy_of.Goals as goal

pub returns : goal.returns
returns c =
    let lemmas = c.args.lemmas.now in
    let none : LagsBehind lemmas [] [] = record {
      shorter = omega arith;
      clause = λ n lt. absurd (omega (arith, lt));
      live = λ n lt e. absurd (omega (arith, lt));
      same = λ n lt. absurd (omega (arith, lt));
    } in
    c.in_ok-follow.ensures.done (subst (LagsBehind lemmas []) (sym c.new-copy.ensures) none)
