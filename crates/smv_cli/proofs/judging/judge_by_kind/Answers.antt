-- What is said of a specification of either kind.
use Rattle.std.proofs.Common.{◌≡◌, ◌∙◌, ◌-◌, ◌+◌, ap, arith, subst, Result, Ok, Err, OnOk}
use Rattle.smv_resolve.specs.declared.item.ItemKind.TheVariants as item
use Rattle.bit_conditions.specs.Asked.{is_invariant}
use Rattle.smv_cli.specs.Written.{IsPool, item_in, program_in}
use Rattle.smv_cli.proofs.Asking.{kept_pool}
use Rattle.smv_cli.proofs.judging.judge_by_kind.Goals as goal

pub judge_invariant-requires-clause-invariant : goal.judge_invariant-requires-clause-invariant
judge_invariant-requires-clause-invariant g c _ _ = ap is_invariant (c.requires.kind ∙ ap item.Specification c.in-Invariant.is)

on_ok : {A E : Type 0} (P : Type 0) (r : Result A E) → P → OnOk r P
on_ok P (Ok x) h = h
on_ok P (Err e) h = tt

pub returns-in-Temporal-clause-pool : goal.returns-in-Temporal-clause-pool
returns-in-Temporal-clause-pool g c =
    let model = c.args.model.now in
    let p = program_in model in
    let answers = c.args.pool.now.items in
    let counted : c.args.number - 1 + 1 ≡ c.args.number = omega (arith, c.requires.first) in
    let other = ap is_invariant (c.requires.kind ∙ ap item.Specification c.in-Temporal.is) in
    on_ok (IsPool p model.built.systems model.effort c.args.number answers) c.judge_formula.result
    (subst (λ n. IsPool p model.built.systems model.effort n answers) counted
    (kept_pool p model.effort model.built (c.args.number - 1) (item_in model c.args.spec.now) c.requires.ready.built c.requires.numbered answers other c.requires.pool))
