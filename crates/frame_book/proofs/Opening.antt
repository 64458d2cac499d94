-- A book without entries.
use Rattle.std.proofs.Common.{◌≡◌, ℕ, ◌+◌, ◌<◌, ◌^◌, false, List, [], length, replicate, refl, arith}
use Rattle.std.specs.Prelude.{Some, None}
use Rattle.std.proofs.lemmas.List.{length-replicate}
use Rattle.frame_core.specs.declared.parts.Lemma.{Lemma}
use Rattle.frame_core.specs.FrameLaw.{FrameState, FramesHold}
use Rattle.frame_history.specs.declared.entries.Limits.{Limits}
use Rattle.frame_history.specs.declared.entries.Made.{Made}
use Rattle.frame_history.specs.declared.entries.Entry.{Entry}
use Rattle.frame_history.specs.History.{claim_at}
use Rattle.book_agenda.specs.Register.{Claims}
use Rattle.frame_book.specs.Marked.{Marking}
use Rattle.frame_book.specs.Rooms.{Room}
use Rattle.frame_book.specs.Pages.{state_of, ArePages}
use Rattle.frame_book.specs.Book.{opened}
use Rattle.frame_book.proofs.Backed.{backed_opened}

-- the marks of a book without entries
abbrev pub unmarked : Limits → ℕ → Marking
unmarked limits systems = record { failed = replicate (limits.frames + 1) false; limited = replicate systems false; spent = false }

no_claim : (n : ℕ) (c : Made) → claim_at [] n ≡ Some c → ⊥
no_claim n c at = let none : None ≡ Some c = at in cc

pub is_opened : (f : FrameState) (limits : Limits) (carried : List Lemma) (history : List Entry) (claims : Claims) (marks : Marking) → f.obligations ≡ [] →
    f.tops ≡ replicate (length f.systems) 0 → carried ≡ f.lemmas → history ≡ [] → claims ≡ record { made = []; growth = 0 } →
    marks ≡ unmarked limits (length f.systems) →
    record { systems = f.systems; limits = limits; carried = carried; history = history; state = state_of f claims marks } ≡ opened f.systems limits f.lemmas
is_opened f limits carried history claims marks none low same empty unclaimed unmarked' =
    λ i. record {
      systems = f.systems;
      limits = limits;
      carried = same i;
      history = empty i;
      state = record {
        frames = record { systems = f.systems; lemmas = f.lemmas; tops = low i; obligations = none i };
        claims = (unclaimed i).made;
        growth = (unclaimed i).growth;
        failed = (unmarked' i).failed;
        limited = (unmarked' i).limited;
        spent = (unmarked' i).spent;
      };
    }

pub opened_pages : (f : FrameState) (limits : Limits) (cap : ℕ) (rooms : Room) → FramesHold f → f.obligations ≡ [] → f.tops ≡ replicate (length f.systems) 0 →
    limits.frames + 1 < 2 ^ 32 → rooms.size ≡ length f.systems + 1 → ArePages (opened f.systems limits f.lemmas) cap rooms
opened_pages f limits cap rooms law none low small size =
    record {
      book = record {
        carried = record { some = law.some; alike = law.alike; hold = law.lemmas };
        lawful = tt;
        replayed = refl;
      };
      systems = refl;
      sane = record { fit = λ n c at. absurd (no_claim n c at); low = λ n c at now. absurd (no_claim n c at) };
      small = small;
      as_many = refl;
      limited = length-replicate (length f.systems) false;
      room = omega arith;
      rooms' = omega arith;
      size = size;
      backed = backed_opened limits f.systems f.lemmas;
    }
