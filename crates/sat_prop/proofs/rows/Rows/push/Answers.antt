use Rattle.std.proofs.Common.{◌≡◌, ◌≤◌, ◌+◌, ◌-◌, ◌∷◌, ◌++◌, [], List, length, map, sym, subst, ap, ◌∙◌, arith, length-append}
use Rattle.std.proofs.lemmas.Result.{err_from_is_err_and}
use Rattle.std.proofs.lemmas.List.{length-map}
use Rattle.sat_prop.specs.declared.rows.Span.{Span}
use Rattle.sat_prop.specs.Watches.{cell}
use Rattle.sat_prop.specs.Packing.{rows_at, row_of, SpansIn, SpansApart}
use Rattle.sat_prop.proofs.Packed.{rows_later, rows_push, spans_in_push, apart_push}
use Rattle.sat_prop.proofs.rows.Rows.push.Goals as goal

pub returns-in_err-write_row-clause-failed : goal.returns-in_err-write_row-clause-failed
returns-in_err-write_row-clause-failed c =
    let p = err_from_is_err_and c.from_residual.result c.from_residual.ensures.1 in
    rw (p.1, ← c.self.view_is) (rows_later c.self.inside.words.items c.write_row.new.words.items c.self.inside.spans.items c.in_err-write_row.ensures.kept c.self.invariant.0)

pub returns-then-end-clause-failed : goal.returns-then-end-clause-failed
returns-then-end-clause-failed c =
    rows_later c.self.inside.words.items c.write_row.new.words.items c.self.inside.spans.items c.in_ok-write_row.ensures.kept c.self.invariant.0 ∙ c.self.view_is

pub returns-in_err-push-clause-failed : goal.returns-in_err-push-clause-failed
returns-in_err-push-clause-failed c =
    let p = err_from_is_err_and c.from_residual-in_err-push.result c.from_residual-in_err-push.ensures.1 in
    let new = c.write_row.new.words.items in
    let e : c.push.new.self.items ≡ c.self.inside.spans.items = c.in_err-push.ensures.items in
    rw (p.1, e) (rows_later c.self.inside.words.items new c.self.inside.spans.items c.in_ok-write_row.ensures.kept c.self.invariant.0 ∙ c.self.view_is)

pub invariant_of-self-2 : goal.invariant_of-self-2
invariant_of-self-2 c =
    let words = c.self.inside.words.items in
    let new = c.write_row.new.words.items in
    let spans = c.self.inside.spans.items in
    let s : Span = record { from = length c.as_slice-from.result.now; len = length c.as_slice-end.result.now - length c.as_slice-from.result.now } in
    let ef : s.from ≡ length words = ap length c.as_slice-from.ensures.value in
    let grown : length words ≤ length new = omega (arith, ap length c.in_ok-write_row.ensures.done, length-append words (map cell (row_of c.args.h c.args.c.now))) in
    let here : s.from + s.len ≤ length new = omega (arith, ef, grown, ap length c.as_slice-end.ensures.value) in
    let items : c.push.new.self.items ≡ spans ++ s ∷ [] = c.in_ok-push.ensures.items in
    let P : List Span → Type 0 = λ v. SpansIn new v × SpansApart v in
    let done : P (spans ++ s ∷ []) = (spans_in_push words new spans s grown here c.self.invariant.0, apart_push words spans s ef c.self.invariant.0 c.self.invariant.1) in
    subst P (sym items) done

pub returns-clause-done : goal.returns-clause-done
returns-clause-done c =
    let words = c.self.inside.words.items in
    let new = c.write_row.new.words.items in
    let spans = c.self.inside.spans.items in
    let row = row_of c.args.h c.args.c.now in
    let s : Span = record { from = length c.as_slice-from.result.now; len = length c.as_slice-end.result.now - length c.as_slice-from.result.now } in
    let ef : s.from ≡ length words = ap length c.as_slice-from.ensures.value in
    let el : s.len ≡ length row = omega (arith, ef, ap length c.as_slice-end.ensures.value, ap length c.in_ok-write_row.ensures.done, length-append words (map cell row), length-map row cell) in
    let items : c.push.new.self.items ≡ spans ++ s ∷ [] = c.in_ok-push.ensures.items in
    ap (λ v. rows_at v c.push.new.self.items) c.in_ok-write_row.ensures.done ∙ ap (rows_at (words ++ map cell row)) items
    ∙ rows_push words row spans s ef el c.self.invariant.0 ∙ ap (λ v. v ++ row ∷ []) c.self.view_is
