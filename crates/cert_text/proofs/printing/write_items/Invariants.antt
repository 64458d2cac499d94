use Rattle.std.proofs.Common.{◌≡◌, ◌++◌, drop, string_bytes, codes}
use Rattle.cert_core.specs.declared.form.Form.TheVariants.{Plain}
use Rattle.cert_text.specs.Printed.{parts_text}
use Rattle.cert_text.proofs.printing.write_items.Given as goal

abbrev pub invariant-loop-item : goal.invariant-loop-item
invariant-loop-item l =
    string_bytes l.out ++ parts_text Plain (codes "item") l.item (drop l.item l.sound) ≡ string_bytes l.initial.out ++ parts_text Plain (codes "item") 0 l.sound
