-- The sign and the width of the type.
use Rattle.std.proofs.Common.{◌≡◌, ◌&&◌, true, rules, sym, ap, ◌∙◌, nat_eq, length}
use Rattle.std.specs.Bool.{beq}
use Rattle.bit_choices.proofs.OfValues.{word_kind}
use Rattle.bit_choices.proofs.types.is_word_of.Goals as goal

pub returns-then-signed-its_sign : goal.returns-then-signed-its_sign
returns-then-signed-its_sign c = λ v x h.
    let w = c.args.width in
    let signs : beq c.args.signed c.in-Word.its_sign ≡ true = search rules in
    let long : c.len.result ≡ length c.in-Word.bits = search rules in
    ap (λ b. b && nat_eq w c.len.result) (sym signs) ∙ ap (λ n. beq c.args.signed c.in-Word.its_sign && nat_eq w n) long
    ∙ word_kind v c.args.a.now c.args.signed c.in-Word.its_sign w c.in-Word.bits x c.in-Word.is h c.requires
