use Rattle.std.proofs.Common.{◌≡◌, ◌<◌, ◌∙◌, length, map, ap, arith}
use Rattle.frame_core.specs.declared.parts.Parent.{Parent}
use Rattle.frame_core.specs.FrameLaw.{lemma_at}
use Rattle.frame_query.specs.declared.kept_proofs.KeptProof.{KeptProof}
use Rattle.frame_query.proofs.Again.{kept_same, kept_more, kept_proof}
use Rattle.frame_query.proofs.kept_proofs.keep_proof.Goals as goal

pub returns-in_err-make_room : goal.returns-in_err-make_room
returns-in_err-make_room c =
    kept_same c.args.proved.now.system c.args.lemmas.now c.args.proofs.now.items c.make_room.new.proofs.items c.make_room.ensures.same c.requires.kept

pub returns : goal.returns
returns c =
    let p = c.args.proved.now in
    let lemmas = c.args.lemmas.now in
    let n = c.args.n in
    let new = c.make_room.new.proofs.items in
    let proof : KeptProof = record { numbers = c.in_ok-numbers.numbers; part = c.in_ok-part.part } in
    let high : 1 < p.level = omega (arith, c.if-level-lt2.false, c.level.ensures) in
    let room : n < length new = omega (arith, c.requires.number, c.in_ok-make_room.ensures.room) in
    let numbers : proof.numbers.items ≡ map (λ (q : Parent). q.number) p.parents = c.in_ok-numbers.ensures ∙ ap (map (λ (q : Parent). q.number)) c.parents.ensures in
    kept_more p.system lemmas new n proof (kept_same p.system lemmas c.args.proofs.now.items new c.make_room.ensures.same c.requires.kept) room c.requires.number
    (kept_proof lemmas (lemma_at lemmas n).clause p proof c.system-system.ensures.shown high c.requires.clause c.requires.stand numbers
    (c.in_ok-part.ensures ∙ c.part.ensures))
