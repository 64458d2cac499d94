use Rattle.std.proofs.Common.{◌+◌, [], arith}
use Rattle.std.proofs.lemmas.List.Elements.{All-cons, All-nil}
use Rattle.clause_core.specs.Literals.{Within}
use Rattle.clause_core.proofs.Definitions.{Gives-none}
use Rattle.clause_core.proofs.Opposing.{Opposed-cube}
use Rattle.time_tests.proofs.monitors.of_parts.Goals as goal

pub new-system-requires : goal.new-system-requires
new-system-requires c =
    rw (c.new-bad.ensures, c.new-defs.ensures, c.requires.none)
    (record {
      room = omega arith;
      init_in = c.requires.init_in;
      step_in = c.requires.step_in;
      bad_in = λ k d lt. absurd (omega (arith, lt));
      good_in = All-cons (Within (c.args.bits + c.args.bits)) [] [] (λ k d lt. absurd (omega (arith, lt))) (All-nil (Within (c.args.bits + c.args.bits)));
      opposed = Opposed-cube c.args.bits [] (λ k d lt. absurd (omega (arith, lt)));
      fair_in = λ k d lt. (let h = c.requires.fair_in k d lt in omega (arith, h));
      defs_in = λ k d lt. absurd (omega (arith, lt));
      gives = Gives-none c.args.bits c.args.fair c.requires.fair_in;
    })
