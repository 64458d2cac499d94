-- The system stands for the formula.
use Rattle.smv_cli.specs.Written.{item_in, program_in}
use Rattle.smv_cli.proofs.Replays.{is_among}
use Rattle.smv_cli.proofs.formulas.judge_formula.Goals as goal

pub ask-requires-clause-stands : goal.ask-requires-clause-stands
ask-requires-clause-stands g c _ _ = (program_in c.args.model.now, (item_in c.args.model.now c.args.spec.now, c.in_ok-formula.ensures))

pub build_formula-requires-clause-among : goal.build_formula-requires-clause-among
build_formula-requires-clause-among g c = is_among (program_in c.args.model.now) c.args.number (item_in c.args.model.now c.args.spec.now) c.requires.numbered
