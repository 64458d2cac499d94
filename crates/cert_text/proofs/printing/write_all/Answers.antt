use Rattle.std.proofs.Common.{◌≡◌, ◌++◌, codes, string_bytes, ap, ◌∙◌}
use Rattle.cert_text.specs.Printed.{head_text, clauses_text, part_text, parts_text, end_text}
use Rattle.cert_text.proofs.Pieces.{all_written}
use Rattle.cert_text.proofs.printing.write_all.Goals as goal

pub returns : goal.returns
returns c =
    let b = c.args.cert.now in
    let cs : string_bytes c.write_clauses.new.out ≡ string_bytes c.write_head.new.out ++ clauses_text b.clauses =
    c.in_ok-write_clauses.ensures ∙ ap (λ w. string_bytes c.write_head.new.out ++ clauses_text w) c.clauses.ensures in
    all_written (string_bytes c.args.out.now) (head_text c.args.spec b) (clauses_text b.clauses) (part_text b.form (codes "shared") 0 b.shared)
    (parts_text b.form (codes "first") 1 b.first) (parts_text b.form (codes "kept") 1 b.kept) (part_text b.form (codes "safe") 0 b.safe) end_text
    _ _ _ _ _ _ _ c.in_ok-write_head.ensures cs c.in_ok-write_numbered.ensures c.in_ok-write_first.ensures c.in_ok-write_kept.ensures c.in_ok-write_numbered-2.ensures
    c.in_ok-write_end.ensures
