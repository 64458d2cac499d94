-- One symbol more.
use Rattle.std.proofs.Common.{◌<◌, IsTrue, arith, get_or, length, subst, take}
use Rattle.std.proofs.lemmas.List.{take_all}
use Rattle.std.proofs.lemmas.List.Elements.{All-more}
use Rattle.bit_choices.specs.Symbols.{AreIn, has}
use Rattle.bit_choices.proofs.symbols.united.Goals as goal

pub symbols-preserved : goal.symbols-preserved
symbols-preserved c =
    let within : c.symbols.i < length c.args.ys.now = omega arith in
    record {
      distinct = c.in_ok-push_new.ensures.distinct;
      first = λ k d l. c.in_ok-push_new.ensures.kept (get_or c.args.xs.now k d) (c.symbols.invariant.first k d l);
      second =
          All-more (λ m. IsTrue (has c.push_new.new.all.items m)) c.args.ys.now c.symbols.i 0 within
          (λ k d l. c.in_ok-push_new.ensures.kept (get_or (take c.symbols.i c.args.ys.now) k d) (c.symbols.invariant.second k d l)) c.in_ok-push_new.ensures.new;
    }

pub returns-clause-second : goal.returns-clause-second
returns-clause-second c = subst (λ l. AreIn l c.symbols.all.items) (take_all c.symbols.i c.args.ys.now (omega arith)) c.symbols.invariant.second
