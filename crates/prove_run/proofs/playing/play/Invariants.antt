use Rattle.std.proofs.Common.{◌≡◌, ◌<◌}
use Rattle.prove_run.specs.Playing.{IsPlayed}
use Rattle.prove_run.proofs.playing.play.Given as goal

abbrev pub invariant-turns : goal.invariant-turns
invariant-turns g l =
    record {
      played : IsPlayed g.B.Begun.before l.book l.solver (g.Q.Purse.tickets l.purse) (g.Q.Purse.spent l.purse);
      part : 0 < l.share.parts;
      ready : g.Q.Purse.ready l.purse;
      systems : l.book.systems ≡ l.initial.book.systems;
      limits : l.book.limits ≡ l.initial.book.limits;
      carried : l.book.carried ≡ l.initial.book.carried;
      kept : g.Q.Purse.kept l.initial.purse l.purse;
      budget : g.Q.Purse.budget l.purse ≡ g.Q.Purse.budget l.initial.purse;
    }
