use Rattle.std.proofs.Common.{◌≡◌, inl, inr, ◌<◌, true, false, length, sym, ap, subst, ◌∙◌, arith}
use Rattle.std.specs.Prelude.{IsSome}
use Rattle.frame_core.specs.FrameLaw.{FrameState, top_at, obligation_at}
use Rattle.frame_history.specs.History.{BookState}
use Rattle.frame_book.specs.Pages.{state_of}
use Rattle.frame_book.proofs.Picked.{no_block}
use Rattle.frame_book.proofs.picking.with_part.Goals as goal

pub top-requires : goal.top-requires
top-requires c = subst (λ (f : FrameState). c.args.j < length f.systems) (sym c.frames.ensures) c.requires.in_range

pub returns-then-is_worse-clause-none : goal.returns-then-is_worse-clause-none
returns-then-is_worse-clause-none c = λ e. let f : false ≡ true = subst IsSome e (c.is_worse.ensures c.if-is_worse.true) in absurd (cc)

pub returns-then-top-floor-clause-none : goal.returns-then-top-floor-clause-none
returns-then-top-floor-clause-none c = λ e. (
  e,
  λ o low high lt of level task new.
      let f : FrameState = c.args.levels.now in
      let s : BookState = state_of f c.args.register.now c.args.marks.now in
      let b = c.floor-floor.ensures o low high lt in
      let le = b.2 in
      let top : c.top.result ≡ top_at f.tops c.args.j = c.top.ensures.value ∙ ap (λ (z : FrameState). top_at z.tops c.args.j) c.frames.ensures in
      let same : top_at f.tops (obligation_at f.obligations o).system ≡ top_at f.tops c.args.j = ap (top_at f.tops) of in
      let test = c.if-top-floor.true in
      no_block c.args.limits s o b.0 b.1 (inl (inr (omega (arith, le, top, same, test)))) level task new,
)

pub returns-clause-none : goal.returns-clause-none
returns-clause-none c = λ is.
    let n = c.with_blocks.ensures.none is in
    let count : c.obligations-count.result ≡ length c.args.levels.now.obligations =
    c.obligations-count.ensures ∙ ap (λ (f : FrameState). length f.obligations) c.frames-2.ensures in
    (n.0, λ o low high lt of. n.1 o low (c.end_of-end.ensures.all o high (omega (arith, count, lt))) of)
