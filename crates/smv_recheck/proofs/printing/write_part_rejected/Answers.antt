use Rattle.std.proofs.Common.{◌++◌, codes, string_bytes}
use Rattle.smv_tree.specs.Texts.{line_end}
use Rattle.smv_recheck.specs.Printed.{part_name}
use Rattle.smv_recheck.proofs.Writing.{and_both, and_then, pushed}
use Rattle.smv_recheck.proofs.printing.write_part_rejected.Goals as goal

pub returns : goal.returns
returns c =
    let begin = codes "is rejected: part " in
    let name = part_name c.args.part in
    let ended = pushed c.push_str-2.result (string_bytes c.push_str-2.new.self) (string_bytes c.write_part.new.out) line_end c.push_str-2.ensures.bytes in
    and_then c.push_str-2.result (string_bytes c.args.out.now) (string_bytes c.write_part.new.out) (string_bytes c.push_str-2.new.self) (begin ++ name) line_end
    (and_both (string_bytes c.args.out.now) (string_bytes c.push_str.new.self) (string_bytes c.write_part.new.out) begin name c.in_ok-push_str.ensures.bytes c.in_ok-write_part.ensures) ended
