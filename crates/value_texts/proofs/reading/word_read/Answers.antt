-- The bits stand behind the front of a word.
use Rattle.std.proofs.Common.{◌≡◌, ◌++◌, List, ℕ, ap, drop, subst, sym, ◌∙◌}
use Rattle.value_types.specs.declared.value_type.ValueType.TheVariants as type
use Rattle.value_texts.specs.Read.{IsRead, word_front}
use Rattle.value_texts.proofs.reading.word_read.Goals as goal

pub returns : goal.returns
returns c = λ names.
    let front = word_front c.args.signed c.args.width in
    let h = c.in-Some.ensures.cases in
    let is : c.args.text.now ≡ front ++ c.in-Some.digits.now =
    h.1.1 ∙ ap (λ (l : List ℕ). l ++ drop h.0 c.args.text.now) (c.as_str.ensures.value ∙ c.in_ok-front.ensures) ∙ ap (λ (l : List ℕ). front ++ l) (sym h.2) in
    subst (λ (t : List ℕ). IsRead names (type.Word c.args.signed c.args.width) t c.word_of.result) (sym is) (c.word_of.ensures names c.in-Some.digits.now c.in_ok-bits.ensures)
