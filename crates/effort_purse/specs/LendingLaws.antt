-- What draws keep, from one state to itself and over two runs.
use Rattle.std.proofs.Common.{refl, ◌∙◌}
use Rattle.effort_purse.specs.declared.seat.Seat.{Seat}
use Rattle.effort_purse.specs.declared.lent.Lent.{Lent}
use Rattle.effort_purse.specs.Lending.{KeepsSeat, KeepsLent}

pub KeepsSeat-trans : (x y z : Seat) → KeepsSeat x y → KeepsSeat y z → KeepsSeat x z
KeepsSeat-trans x y z first second =
    record {
      shares = second.shares ∙ first.shares;
      lengths = second.lengths ∙ first.lengths;
      no_more = second.no_more ∙ first.no_more;
      raised = second.raised ∙ first.raised;
      stop = second.stop ∙ first.stop;
    }

pub KeepsLent-refl : (x : Lent) → KeepsLent x x
KeepsLent-refl x = record { purse = refl; seat = record { shares = refl; lengths = refl; no_more = refl; raised = refl; stop = refl } }

pub KeepsLent-trans : (x y z : Lent) → KeepsLent x y → KeepsLent y z → KeepsLent x z
KeepsLent-trans x y z first second =
    record { purse = second.purse ∙ first.purse; seat = KeepsSeat-trans x.seat y.seat z.seat first.seat second.seat }
