-- What is answered of the specification, at once with all others or alone, is right.
use Rattle.std.proofs.Common.{◌≡◌, ◌-◌, ◌+◌, arith, drop, reverse, subst}
use Rattle.smv_meaning.specs.Runs.{specifications_of}
use Rattle.smv_cli.specs.Written.{IsPool, item_in, program_in}
use Rattle.smv_cli.proofs.Asking.{last_answered, some_left}
use Rattle.smv_cli.proofs.judging.answer_of.Goals as goal

pub last_of-requires : goal.last_of-requires
last_of-requires g c =
    let model = c.args.model.now in
    some_left (program_in model) model.effort model.built (c.args.number - 1) (item_in model c.args.spec.now) c.requires.ready.built c.requires.numbered c.args.pool.now.items
    c.requires.invariant c.if-model.true c.requires.pool

pub returns-then-model-clause-answered : goal.returns-then-model-clause-answered
returns-then-model-clause-answered g c =
    let model = c.args.model.now in
    (last_answered (program_in model) model.effort model.built (c.args.number - 1) (item_in model c.args.spec.now) c.requires.ready.built c.requires.numbered c.args.pool.now.items
    c.last_of.new.answers.items c.last_of.result c.requires.invariant c.if-model.true c.requires.pool c.last_of.ensures).0

pub returns-then-model-clause-pool : goal.returns-then-model-clause-pool
returns-then-model-clause-pool g c =
    let model = c.args.model.now in
    let counted : c.args.number - 1 + 1 ≡ c.args.number = omega (arith, c.requires.first) in
    subst (λ n. IsPool (program_in model) model.built.systems model.effort n c.last_of.new.answers.items) counted
    (last_answered (program_in model) model.effort model.built (c.args.number - 1) (item_in model c.args.spec.now) c.requires.ready.built c.requires.numbered c.args.pool.now.items
    c.last_of.new.answers.items c.last_of.result c.requires.invariant c.if-model.true c.requires.pool c.last_of.ensures).1
