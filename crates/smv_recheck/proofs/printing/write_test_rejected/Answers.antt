use Rattle.std.proofs.Common.{List, ℕ, ◌++◌, ap, codes, string_bytes}
use Rattle.std.specs.Fmt.{decimal}
use Rattle.smv_tree.specs.Texts.{line_end}
use Rattle.trace_replay.specs.Tests.{rule_text}
use Rattle.smv_recheck.proofs.Writing.{regrouped, same_text}
use Rattle.smv_recheck.proofs.printing.write_test_rejected.Goals as goal

pub returns : goal.returns
returns c =
    let out = string_bytes c.args.out.now in
    let rule = rule_text c.args.rule in
    let number = decimal c.args.number in
    same_text c.write.result (string_bytes c.write.new.self) (out ++ (codes "is rejected: trace " ++ (rule ++ (codes " " ++ (number ++ line_end)))))
    (out ++ (codes "is rejected: trace " ++ (((rule ++ codes " ") ++ number) ++ line_end))) (ap (λ (w : List ℕ). out ++ (codes "is rejected: trace " ++ w)) (regrouped rule (codes " ") number line_end))
    c.write.ensures.bytes
