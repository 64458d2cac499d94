use Rattle.std.proofs.Common.{◌≡◌, ◌<◌, ◌++◌, ◌∷◌, [], Bool, false, List, length, subst, sym, refl, ap, ◌∙◌, arith, length-append}
use Rattle.sat_core.specs.Searching.{SameMarks}
use Rattle.sat_core.proofs.Origins.{same_push}
use Rattle.sat_core.proofs.query.mark_learned.Goals as goal

pub returns-in_err-push-clause-len : goal.returns-in_err-push-clause-len
returns-in_err-push-clause-len c =
    omega (arith, ap length c.in_err-push.ensures.items, c.loop-k.invariant.len, c.loop-k-test.true)

pub returns-in_err-push-clause-same : goal.returns-in_err-push-clause-same
returns-in_err-push-clause-same c cs e =
    let P : List Bool → Type 0 = λ ms. SameMarks c.args.marks.now.items ms cs in
    subst P (sym c.in_err-push.ensures.items) (c.loop-k.invariant.same cs e)

pub returns-clause-len : goal.returns-clause-len
returns-clause-len c =
    omega (arith, c.loop-k.invariant.len, c.loop-k.auto._k-end, c.len-k.ensures, c.args.marks.now.ok.0, c.requires)

pub returns-clause-full : goal.returns-clause-full
returns-clause-full c =
    omega (arith, c.loop-k.invariant.len, c.loop-k-test.false, c.loop-k.auto._k-end, c.len-k.ensures, c.args.marks.now.ok.0, c.requires)

pub returns-clause-same : goal.returns-clause-same
returns-clause-same c = c.loop-k.invariant.same

pub loop-k-init : goal.loop-k-init
loop-k-init c = record {
  len = omega (arith, c.len-k.ensures, c.args.marks.now.ok.0);
  same = λ cs e. (refl, refl);
}

pub loop-k-preserved : goal.loop-k-preserved
loop-k-preserved c =
    let old = c.loop-k.marks.items in
    let e : c.push.new.self.items ≡ old ++ false ∷ [] = c.in_ok-push.ensures.items in
    record {
      len = omega (arith, ap length e, length-append old (false ∷ []), c.loop-k.invariant.len);
      same = λ cs el.
          let before = c.loop-k.invariant.same cs el in
          let lt : length old < length cs = omega (arith, el, c.loop-k.invariant.len, c.loop-k-test.true) in
          let more = same_push old cs lt in
          let P : List Bool → Type 0 = λ ms. SameMarks c.args.marks.now.items ms cs in
          subst P (sym e) (more.0 ∙ before.0, more.1 ∙ before.1);
    }
