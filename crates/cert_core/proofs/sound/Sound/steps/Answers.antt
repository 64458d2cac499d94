use Rattle.std.proofs.Common.{List, Option, sym, subst}
use Rattle.std.specs.List.{All}
use Rattle.hinted_log.specs.Hints.{HintedLog}
use Rattle.cert_core.specs.declared.form.Form.TheVariants.{Plain}
use Rattle.cert_core.specs.Blocks.{PartFits}
use Rattle.cert_core.proofs.Keeping.{some_fits, at_fits}
use Rattle.cert_core.proofs.sound.Sound.steps.Goals as goal

pub returns-clause-fits : goal.returns-clause-fits
returns-clause-fits c =
    let P : List (Option HintedLog) → Type 0 = All (PartFits Plain) in
    let all : P c.deref.result.now = subst P (sym c.deref.ensures.value) c.self.invariant in
    some_fits Plain c.part_at.result _ c.part_at.ensures (at_fits Plain c.deref.result.now c.args.item all)
