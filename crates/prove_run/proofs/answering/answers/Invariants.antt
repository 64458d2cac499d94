use Rattle.std.proofs.Common.{◌≡◌, true, length}
use Rattle.prove_run.specs.Answers.{AreAnswered}
use Rattle.prove_run.proofs.answering.answers.Given as goal

abbrev pub invariant-systems : goal.invariant-systems
invariant-systems g l =
    record {
      so_many : length l.answers.items ≡ l.j;
      still : l.spent ≡ true → g.Q.Purse.spent l.purse ≡ true;
      answered : AreAnswered l.effort l.frames l.over (g.Q.Purse.tickets l.fn.purse) (g.Q.Purse.tickets l.purse) l.spent l.answers.items;
      kept : g.Q.Purse.kept l.fn.purse l.purse;
      ready : g.Q.Purse.ready l.purse;
      budget : g.Q.Purse.budget l.purse ≡ g.Q.Purse.budget l.fn.purse;
    }
