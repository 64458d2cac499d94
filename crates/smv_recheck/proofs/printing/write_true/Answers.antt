use Rattle.std.proofs.Common.{◌++◌, codes, string_bytes}
use Rattle.smv_tree.specs.Texts.{line_end}
use Rattle.smv_recheck.specs.Printed.{again_text}
use Rattle.smv_recheck.proofs.Writing.{and_then}
use Rattle.smv_recheck.proofs.printing.write_true.Goals as goal

pub returns : goal.returns
returns c =
    and_then c.write_again.result (string_bytes c.args.out.now) (string_bytes c.push_str.new.self) (string_bytes c.write_again.new.out) (codes "is shown true" ++ line_end)
    (again_text c.args.number c.args.again.now) c.in_ok-push_str.ensures.bytes c.write_again.ensures
