use Rattle.std.proofs.Common.{◌≤◌, ◌∙◌, [], arith}
use Rattle.clause_core.proofs.Definitions.{Gives-none}
use Rattle.clause_core.proofs.Opposing.{Opposed-cube, units_in, negation_in}
use Rattle.clause_core.proofs.system.System.plain.Goals as goal

pub new-requires-3 : goal.new-requires-3
new-requires-3 c =
    let few : c.args.state_bits ≤ c.args.all_bits = omega (arith, c.requires.room) in
    rw (c.in_ok-bad.ensures, c.in_ok-good.ensures, c.from_vec.ensures ∙ c.new.ensures.items, c.new-2.ensures)
    (record {
      room = c.requires.room;
      init_in = c.requires.init_in;
      step_in = c.requires.step_in;
      bad_in = units_in c.args.state_bits c.args.all_bits c.args.bad.now few c.requires.bad_in;
      good_in = negation_in c.args.state_bits c.args.all_bits c.args.bad.now few c.requires.bad_in;
      opposed = Opposed-cube c.args.state_bits c.args.bad.now c.requires.bad_in;
      fair_in = λ k d lt. absurd (omega (arith, lt));
      defs_in = λ k d lt. absurd (omega (arith, lt));
      gives = Gives-none c.args.state_bits [] (λ k d lt. absurd (omega (arith, lt)));
    })
