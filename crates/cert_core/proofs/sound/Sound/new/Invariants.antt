use Rattle.std.proofs.Common.{◌≡◌, None, replicate}
use Rattle.std.specs.List.{All}
use Rattle.cert_core.specs.declared.form.Form.TheVariants.{Plain}
use Rattle.cert_core.specs.Blocks.{PartFits}
use Rattle.cert_core.proofs.sound.Sound.new.Given as goal

abbrev pub invariant-loop-item : goal.invariant-loop-item
invariant-loop-item l = record { same : l.items.items ≡ replicate l.item None; fit : All (PartFits Plain) l.items.items }
