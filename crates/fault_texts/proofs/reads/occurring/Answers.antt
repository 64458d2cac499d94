use Rattle.std.proofs.Common.{◌==◌, ◌&&◌, Bool, List, nat_lt, length, subst}
use Rattle.fault_texts.specs.declared.reads.Sought.TheVariants as sought
use Rattle.fault_texts.specs.Marks.{Finds, Marks}
use Rattle.fault_texts.proofs.Occurring.{told_now, told_next}
use Rattle.fault_texts.proofs.reads.occurring.Goals as goal

pub returns-clause-now : goal.returns-clause-now
returns-clause-now c =
    let nodes = c.args.nodes.now in
    let M : List Bool → Type 0 = λ ms. Marks (λ j. nat_lt j (length nodes) && j == c.args.root) ms c.mark_one.new.marks.items in
    let F : List Bool → Type 0 = λ ms. Finds nodes ms sought.Slot c.args.slots c.in_ok-now.now.items in
    told_now nodes c.args.root c.args.slots c.mark_one.new.marks.items c.spread.new.marks.items (record { made = subst M (c.in_ok-here.ensures.items_if_clones_equal (λ y h. h)) c.mark_one.ensures }) c.spread.ensures
    c.in_ok-now.now.items (subst F c.deref.ensures.value c.in_ok-now.ensures)

pub returns-clause-next : goal.returns-clause-next
returns-clause-next c =
    let nodes = c.args.nodes.now in
    let M : List Bool → Type 0 = λ ms. Marks (λ j. nat_lt j (length nodes) && j == c.args.root) ms c.mark_one.new.marks.items in
    let U : List Bool → Type 0 = λ ms. Finds nodes ms sought.Under (length nodes) c.in_ok-under.under.items in
    let F : List Bool → Type 0 = λ ms. Finds nodes ms sought.Slot c.args.slots c.in_ok-next.next.items in
    told_next nodes c.args.root c.args.slots c.mark_one.new.marks.items c.spread.new.marks.items (record { made = subst M (c.in_ok-here.ensures.items_if_clones_equal (λ y h. h)) c.mark_one.ensures }) c.spread.ensures
    c.in_ok-under.under.items c.spread-2.new.marks.items c.in_ok-next.next.items (subst U c.deref-2.ensures.value c.in_ok-under.ensures) c.spread-2.ensures
    (subst F c.deref-3.ensures.value c.in_ok-next.ensures)
