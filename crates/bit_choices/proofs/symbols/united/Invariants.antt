-- The symbols of the first list, and those so far of the second.
use Rattle.std.proofs.Common.{take, IsTrue}
use Rattle.bit_operators.specs.Lists.{is_distinct}
use Rattle.bit_choices.specs.Symbols.{AreIn}
use Rattle.bit_choices.proofs.symbols.united.Given as goal

abbrev pub invariant-symbols : goal.invariant-symbols
invariant-symbols l = record {
  distinct : IsTrue (is_distinct l.all.items);
  first : AreIn l.xs l.all.items;
  second : AreIn (take l.i l.ys) l.all.items;
}
