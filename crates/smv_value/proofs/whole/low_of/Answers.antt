use Rattle.std.proofs.Common.{◌∙◌, ◌<◌, ◌^◌, ap, cond, pos, neg_ℤ, sym, rules}
use Rattle.smv_value.specs.Results.{low_bits}
use Rattle.smv_value.proofs.Bits.{low_negative}
use Rattle.smv_value.proofs.whole.low_of.Goals as goal

pub returns-then-z : goal.returns-then-z
returns-then-z c =
    let small : c.args.z.size < 2 ^ 128 = search rules in
    c.low.ensures ∙ low_negative c.args.width c.args.z.size c.requires small
    ∙ ap (λ b. low_bits c.args.width (cond b (neg_ℤ (pos c.args.z.size)) (pos c.args.z.size))) (sym c.if-z.true)
