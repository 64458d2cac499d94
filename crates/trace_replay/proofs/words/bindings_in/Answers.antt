-- One binding more, and no binding.
use Rattle.std.proofs.Common.{◌≡◌, ◌∙◌, ◌+◌, ◌*◌, ◌<◌, ◌++◌, ◌∷◌, [], List, length, drop, sym, ap, arith}
use Rattle.trace_replay.specs.declared.entry.Binding.{Binding}
use Rattle.trace_replay.specs.Words.{bindings_in}
use Rattle.trace_replay.proofs.OfWords.{behind, binding_more, binding_none, uneven_words}
use Rattle.trace_replay.proofs.words.bindings_in.Goals as goal

pub returns-then-words-ne0 : goal.returns-then-words-ne0
returns-then-words-ne0 c = uneven_words c.args.words.now c.if-words-ne0.true

pub returns-in-None : goal.returns-in-None
returns-in-None c =
    let words = c.args.words.now in
    let i = c.loop-i.i in
    let within : 3 * i + 2 < length words = omega (arith, c.loop-i-test.true) in
    binding_none words (3 * i) _ _ _ c.loop-i.bindings.items (bindings_in words) within c.index-words-i.is c.index-words-i-in-loop-i.is c.index-words-i-in-loop-i-2.is
    (sym c.in_ok-binding_in.ensures ∙ c.in-None.is) c.loop-i.invariant

pub loop-i-preserved : goal.loop-i-preserved
loop-i-preserved c =
    let words = c.args.words.now in
    let i = c.loop-i.i in
    let made = c.loop-i.bindings.items in
    let x = c.in-Some.binding in
    let within : 3 * i + 2 < length words = omega (arith, c.loop-i-test.true) in
    let next : 3 * (i + 1) ≡ 3 * i + 3 = omega arith in
    ap (λ (l : List Binding). behind l (bindings_in (drop (3 * (i + 1)) words))) c.in_ok-push-in-Some.ensures.items
    ∙ ap (λ n. behind (made ++ x ∷ []) (bindings_in (drop n words))) next
    ∙ binding_more words (3 * i) _ _ _ made x (bindings_in words) within c.index-words-i.is c.index-words-i-in-loop-i.is c.index-words-i-in-loop-i-2.is
    (sym c.in_ok-binding_in.ensures ∙ c.in-Some.is) c.loop-i.invariant
