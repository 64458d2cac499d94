use Rattle.std.proofs.Common.{◌≡◌, inl, inr, ◌-◌, ℕ, sym, subst, arith}
use Rattle.std.proofs.lemmas.Bool.{cases_eq}
use Rattle.frame_core.specs.FrameLaw.{obligation_at}
use Rattle.frame_history.specs.declared.entries.Subject.TheVariants.{Block}
use Rattle.frame_history.specs.History.{BookState}
use Rattle.frame_book.specs.Pages.{state_of}
use Rattle.frame_book.specs.Picking.{IsNotOffered}
use Rattle.frame_book.proofs.picking.with_blocks.Goals as goal

pub loop-o-preserved : goal.loop-o-preserved
loop-o-preserved c =
    let s : BookState = state_of c.args.levels.now c.args.register.now c.args.marks.now in
    let o : ℕ = c.loop-o.o - 1 in
    let i = c.loop-o.invariant in
    let e = c.with_block-best.ensures in
    let end = i.0 in (
      omega (arith, end),
      λ t is. elim (e.some t is) [ inl old ↦ i.1 t old | inr h ↦ inr h ],
      λ is.
          let n = e.none is in
          let before = i.2 n.0 in (
            before.0,
            λ k ge lt of. elim (cases_eq k o) [
              | inl same ↦
                  subst (λ (m : ℕ). (obligation_at s.frames.obligations m).system ≡ c.args.j → IsNotOffered c.args.limits s (Block m)) (sym same) n.1 of
              | inr ne ↦ before.1 k (omega (arith, ge, ne)) lt of
            ],
          ),
    )

pub returns-clause-none : goal.returns-clause-none
returns-clause-none c = λ is.
    let before = c.loop-o.invariant.2 is in
    let test = c.loop-o-test.false in
    (before.0, λ k ge lt of. before.1 k (omega (arith, ge, test)) lt of)
