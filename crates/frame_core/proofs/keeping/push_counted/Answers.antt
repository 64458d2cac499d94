use Rattle.std.proofs.Common.{◌≡◌, [], ◌∷◌, ◌++◌, length, true, ap, ◌∙◌, refl, arith}
use Rattle.frame_core.specs.declared.parts.Lemma.{Lemma}
use Rattle.frame_core.proofs.Counts.{counted_added, more_fits}
use Rattle.frame_core.proofs.keeping.push_counted.Goals as goal

pub count_more-requires : goal.count_more-requires
count_more-requires c = λ lt.
    let ls = c.args.lemmas.now in
    let counts = c.args.counts.now.items in
    let level = c.args.level in
    let l : Lemma = record { clause = c.args.clause; level = level; live = true } in
    let e : c.push.new.self ≡ ls ++ l ∷ [] = c.in_ok-push.ensures.done in
    let len : c.len-after.result ≡ length (ls ++ l ∷ []) = c.len-after.ensures ∙ ap length e in
    let fits = more_fits (ls ++ l ∷ []) counts level lt (counted_added ls l counts refl c.requires) in
    let small = c.len-after.type_inv in
    omega arith
