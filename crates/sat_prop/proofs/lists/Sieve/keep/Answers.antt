use Rattle.std.proofs.Common.{◌≡◌, ◌+◌, drop, set, sym, ap, ◌∙◌, arith}
use Rattle.std.proofs.lemmas.List.{drop-drop, drop-map, drop-set-lt}
use Rattle.sat_prop.specs.Sifted.{Sifted}
use Rattle.sat_prop.specs.Slots.{entries_of, entry_of}
use Rattle.sat_prop.proofs.lists.Sieve.keep.Goals as goal

pub returns-clause-rest : goal.returns-clause-rest
returns-clause-rest c =
    let s = c.self.inside in
    let other : drop (s.read + 1) (set s.slots.items s.kept c.args.slot) ≡ drop (s.read + 1) s.slots.items =
    drop-set-lt (s.read + 1) s.slots.items s.kept c.args.slot (omega arith) in
    let on : drop (s.read + 1) s.slots.items ≡ drop 1 (drop s.read s.slots.items) = sym (drop-drop 1 s.read s.slots.items) in
    ap entries_of (other ∙ on) ∙ sym (drop-map entry_of 1 (drop s.read s.slots.items)) ∙ ap (λ (v : Sifted). drop 1 v.rest) c.self.view_is
