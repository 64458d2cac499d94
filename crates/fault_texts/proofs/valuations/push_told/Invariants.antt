-- The texts of the first slots that are marked are added.
use Rattle.std.proofs.Common.{◌≡◌, ◌++◌, map}
use Rattle.fault_texts.specs.Marks.{mark}
use Rattle.fault_texts.specs.Valuations.{told}
use Rattle.fault_texts.proofs.Listing.{passing}
use Rattle.fault_texts.proofs.valuations.push_told.Given as goal

abbrev pub invariant-loop-n : goal.invariant-loop-n
invariant-loop-n l = l.texts.items ≡ l.initial.texts.items ++ map (told l.typed.scope.program l.ahead l.s l.u) (passing (mark l.marks) l.n)
