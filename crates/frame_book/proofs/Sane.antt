-- Claims fit the frames, whatever comes of them.
use Rattle.std.proofs.Common.{◌≡◌, inl, inr, ℕ, zero, suc, ◌+◌, ◌<◌, ◌≤◌, Bool, true, false, List, [], ◌∷◌, ◌++◌, length, set, refl, sym, subst, ◌∙◌, arith, length-append, length-set}
use Rattle.std.specs.Prelude.{Some, None, if◌then◌else◌}
use Rattle.clause_core.specs.declared.literal.Lit.{Lit}
use Rattle.clause_core.specs.Assignments.{ClauseTrue, assignment_of}
use Rattle.clause_core.specs.Systems.{TransitionSystem}
use Rattle.frame_core.specs.declared.parts.Lemma.{Lemma}
use Rattle.frame_core.specs.declared.parts.Obligation.{Obligation}
use Rattle.frame_core.specs.FrameLaw.{FrameState, top_at, lemma_at, obligation_at}
use Rattle.frame_core.specs.Changes.{with_retired}
use Rattle.frame_history.specs.declared.entries.Subject.{Subject}
use Rattle.frame_history.specs.declared.entries.Subject.TheVariants.{Bad, Block, Push}
use Rattle.frame_history.specs.declared.entries.Made.{Made}
use Rattle.frame_history.specs.declared.entries.Change.{Change}
use Rattle.frame_history.specs.declared.entries.Change.TheVariants.{Add, Raise, Held, Retire, Behind, Dropped, Note, Open, PushFailed, Limit, Spent}
use Rattle.frame_history.specs.History.{claim_at, ended, Accepts}
use Rattle.frame_book.specs.declared.claim.ClaimOutcome.{ClaimOutcome}
use Rattle.book_agenda.specs.Values.{IsBlockedTo}
use Rattle.book_agenda.specs.Register.{Claims, AreOrderly}
use Rattle.frame_book.specs.Steps.{framed, grows, head_of, Retires, HasSettled, AreSameLemmas}
use Rattle.frame_book.specs.Pages.{FitsIn, IsNotAbove, AreSane}
use Rattle.book_agenda.proofs.Orderly.{claim_snoc, was, Was, some_is}
use Rattle.book_agenda.proofs.Blocked.{obligation_old, retired_clause, retired_length}
use Rattle.frame_book.proofs.Accepted.{same_trans}

-- nothing is lost
pub record Evolves (f g : FrameState) : Type 0 where
  pub systems : g.systems ≡ f.systems
  pub lemmas : length f.lemmas ≤ length g.lemmas
  pub obligations : (o : ℕ) → o < length f.obligations → (o < length g.obligations) × (obligation_at g.obligations o ≡ obligation_at f.obligations o)
  pub tops : (j : ℕ) → top_at f.tops j ≤ top_at g.tops j

same : (f : FrameState) → Evolves f f
same f = record { systems = refl; lemmas = omega arith; obligations = λ o lt. (lt, refl); tops = λ j. omega arith }

pub evolves_trans : (f g h : FrameState) → Evolves f g → Evolves g h → Evolves f h
evolves_trans f g h a b =
    record {
      systems = b.systems ∙ a.systems;
      lemmas = let x = a.lemmas in let y = b.lemmas in omega arith;
      obligations = λ o lt. let x = a.obligations o lt in let y = b.obligations o x.0 in (y.0, y.1 ∙ x.1);
      tops = λ j. let x = a.tops j in let y = b.tops j in omega arith;
    }

top_set : (tops : List ℕ) (j v k : ℕ) → top_at tops j ≤ v → top_at tops k ≤ top_at (set tops j v) k
top_set [] j v k le = omega arith
top_set (t ∷ ts) zero v zero le = le
top_set (t ∷ ts) zero v (suc k) le = omega arith
top_set (t ∷ ts) (suc j) v zero le = omega arith
top_set (t ∷ ts) (suc j) v (suc k) le = top_set ts j v k le

evolves_retired : (f : FrameState) (n : ℕ) → Evolves f (with_retired f n)
evolves_retired f n = record { systems = refl; lemmas = omega (arith, retired_length f.lemmas n); obligations = λ o lt. (lt, refl); tops = λ j. omega arith }

pub evolves_framed : (f : FrameState) (d : Change) → Evolves f (framed f d)
evolves_framed f (Add clause level parents) =
    let l : Lemma = record { clause = clause; level = level; live = true } in
    record { systems = refl; lemmas = omega (arith, length-append f.lemmas (l ∷ [])); obligations = λ o lt. (lt, refl); tops = λ j. omega arith }
evolves_framed f (Raise n level parents) =
    let l : Lemma = record { clause = (lemma_at f.lemmas n).clause; level = level; live = (lemma_at f.lemmas n).live } in
    record { systems = refl; lemmas = omega (arith, length-set f.lemmas n l); obligations = λ o lt. (lt, refl); tops = λ j. omega arith }
evolves_framed f (Held n clause level) = same f
evolves_framed f (Retire n) = evolves_retired f n
evolves_framed f (Behind l) = same f
evolves_framed f Dropped = same f
evolves_framed f (Note j values parent first) =
    let x : Obligation = record { system = j; values = values; parent = parent; first = first } in
    record {
      systems = refl;
      lemmas = omega arith;
      obligations = λ o lt. (omega (arith, lt, length-append f.obligations (x ∷ [])), obligation_old f.obligations x o lt);
      tops = λ k. omega arith;
    }
evolves_framed f (Open j) =
    record {
      systems = refl;
      lemmas = omega arith;
      obligations = λ o lt. (lt, refl);
      tops = λ k. top_set f.tops j (top_at f.tops j + 1) k (omega arith);
    }
evolves_framed f (PushFailed n level) = same f
evolves_framed f (Limit j) = same f
evolves_framed f Spent = same f

alike : (ls : List Lemma) → AreSameLemmas ls ls
alike ls = record { as_many = refl; clause = λ n. refl; level = λ n. refl }

-- a first change that is no growth leaves the lemmas
pub same_framed : (f : FrameState) (c : Made) (d : Change) → Accepts f c d → grows d ≡ false → AreSameLemmas f.lemmas (framed f d).lemmas
same_framed f c (Add clause level parents) a e = absurd (cc)
same_framed f c (Raise n level parents) a e = absurd (cc)
same_framed f c (Held n clause level) a e = alike f.lemmas
same_framed f c (Retire n) a e = absurd a
same_framed f c (Behind l) a e = alike f.lemmas
same_framed f c Dropped a e = alike f.lemmas
same_framed f c (Note j values parent first) a e = alike f.lemmas
same_framed f c (Open j) a e = alike f.lemmas
same_framed f c (PushFailed n level) a e = alike f.lemmas
same_framed f c (Limit j) a e = absurd a
same_framed f c Spent a e = alike f.lemmas

pub retires_evolve : (f g : FrameState) (ds : List Change) → Retires f ds g → Evolves f g × AreSameLemmas f.lemmas g.lemmas
retires_evolve f g [] a = (subst (Evolves f) (sym a) (same f), subst (λ (z : FrameState). AreSameLemmas f.lemmas z.lemmas) (sym a) (alike f.lemmas))
retires_evolve f g (Retire n ∷ ds) a =
    let r = retires_evolve (with_retired f n) g ds a.3 in
    let s : AreSameLemmas f.lemmas (with_retired f n).lemmas =
    record {
      as_many = retired_length f.lemmas n;
      clause = λ k. (retired_clause f.lemmas n k a.0).0;
      level = λ k. (retired_clause f.lemmas n k a.0).1;
    } in
    (evolves_trans f (with_retired f n) g (evolves_retired f n) r.0, same_trans f.lemmas (with_retired f n).lemmas g.lemmas s r.1)
retires_evolve f g (Add clause level parents ∷ ds) a = absurd a
retires_evolve f g (Raise n level parents ∷ ds) a = absurd a
retires_evolve f g (Held n clause level ∷ ds) a = absurd a
retires_evolve f g (Behind l ∷ ds) a = absurd a
retires_evolve f g (Dropped ∷ ds) a = absurd a
retires_evolve f g (Note j values parent first ∷ ds) a = absurd a
retires_evolve f g (Open j ∷ ds) a = absurd a
retires_evolve f g (PushFailed n level ∷ ds) a = absurd a
retires_evolve f g (Limit j ∷ ds) a = absurd a
retires_evolve f g (Spent ∷ ds) a = absurd a

pub settled_evolves : (f g : FrameState) (c : Made) (o : ClaimOutcome) (xs : List Change) → HasSettled f c o xs g →
    Evolves f g × ((grows (head_of xs) ≡ false) → AreSameLemmas f.lemmas g.lemmas)
settled_evolves f g c o [] h = absurd h
settled_evolves f g c o (d ∷ ds) h =
    let m : FrameState = h.0 in
    let r = retires_evolve m g ds h.2 in
    let e : Evolves f m = subst (Evolves f) (sym h.1.changes) (evolves_framed f d) in (
      evolves_trans f m g e r.0,
      λ still. same_trans f.lemmas m.lemmas g.lemmas
          (subst (λ (z : FrameState). AreSameLemmas f.lemmas z.lemmas) (sym h.1.changes) (same_framed f c d h.1.accepted still)) r.1,
    )

-- ---- Claims go on fitting

pub fits_still : (f g : FrameState) (u : Subject) (level : ℕ) → Evolves f g → FitsIn f u level → FitsIn g u level
fits_still f g (Bad j) level e h =
    let t = e.tops j in
    (subst (λ (z : List TransitionSystem). j < length z) (sym e.systems) h.0, omega (arith, t, h.1), h.2)
fits_still f g (Block o) level e h = ((e.obligations o h.0).0, h.1)
fits_still f g (Push n) level e h = let l = e.lemmas in (omega (arith, l, h.0), h.1)

blocked_back : (xs ys : List Lemma) (b : ℕ) (x : ℕ → Bool) → AreSameLemmas xs ys → IsBlockedTo ys b x → IsBlockedTo xs b x
blocked_back xs ys b x s h =
    record {
      above = λ n lt high. subst (ClauseTrue x) (s.clause n)
          (h.above n (let l = s.as_many in omega arith) (let l = s.level n in omega arith));
      at' = elim h.at' [
        | inl z ↦ inl z
        | inr w ↦ inr (w.0, (let l = s.as_many in let lt = w.1 in omega arith), sym (s.level w.0) ∙ w.2, subst (λ (c : List Lit). ClauseTrue x c → ⊥) (s.clause w.0) w.3)
      ];
    }

low_still : (f g : FrameState) (u : Subject) (level : ℕ) → Evolves f g → AreSameLemmas f.lemmas g.lemmas → FitsIn f u level → IsNotAbove f u level →
    IsNotAbove g u level
low_still f g (Bad j) level e s fits h = let t = e.tops j in omega (arith, t, h)
low_still f g (Block o) level e s fits h =
    λ b blocked.
    let x = e.obligations o fits.0 in
    let there : IsBlockedTo f.lemmas b (assignment_of (obligation_at g.obligations o).values) = blocked_back f.lemmas g.lemmas b (assignment_of (obligation_at g.obligations o).values) s blocked in
    h b (subst (λ (z : Obligation). IsBlockedTo f.lemmas b (assignment_of z.values)) x.1 there)
low_still f g (Push n) level e s fits h = let l = s.level n in omega (arith, l, h)

pub sane_settled : (f g : FrameState) (c : Made) (o : ClaimOutcome) (xs : List Change) (claims : Claims) → HasSettled f c o xs g → AreOrderly claims →
    AreSane f claims → AreSane g record { made = claims.made; growth = claims.growth + (if grows (head_of xs) then 1 else 0) }
sane_settled f g c o xs claims h orderly sane =
    let e = settled_evolves f g c o xs h in
    record {
      fit = λ n d at. fits_still f g d.subject d.level e.0 (sane.fit n d at);
      low = λ n d at now. low_by (grows (head_of xs)) refl n d at now;
    }
  where
    low_by : (b : Bool) → grows (head_of xs) ≡ b → (n : ℕ) (d : Made) → claim_at claims.made n ≡ Some d →
        d.growth ≡ claims.growth + (if grows (head_of xs) then 1 else 0) → IsNotAbove g d.subject d.level
    low_by true is n d at now =
        let past = orderly.past n d at in
        let one : (if grows (head_of xs) then 1 else 0) ≡ suc zero = rw is refl in
        absurd (omega (arith, past, now, one))
    low_by false is n d at now =
        let none : (if grows (head_of xs) then 1 else 0) ≡ zero = rw is refl in
        let e = settled_evolves f g c o xs h in
        low_still f g d.subject d.level e.0 (e.1 is) (sane.fit n d at) (sane.low n d at (omega (arith, now, none)))

pub sane_ended : (f : FrameState) (claims : Claims) (n : ℕ) (void : Bool) (c : Made) → claim_at claims.made n ≡ Some c → c.out ≡ true → AreSane f claims →
    AreSane f record { made = set claims.made n (ended void (Some c)) ++ None ∷ []; growth = claims.growth }
sane_ended f claims n void c at out sane =
    record {
      fit = λ k d is.
          let w : Was claims.made k d = was claims.made n void c at out k d is in
          subst (λ (u : Subject). FitsIn f u d.level) (sym w.subject)
          (subst (FitsIn f w.before.subject) (sym w.level) (sane.fit k w.before w.at'));
      low = λ k d is now.
          let w : Was claims.made k d = was claims.made n void c at out k d is in
          subst (λ (u : Subject). IsNotAbove f u d.level) (sym w.subject)
          (subst (IsNotAbove f w.before.subject) (sym w.level) (sane.low k w.before w.at' (sym w.growth ∙ now)));
    }

pub sane_claimed : (f : FrameState) (claims : Claims) (d : Made) → FitsIn f d.subject d.level → IsNotAbove f d.subject d.level → AreSane f claims →
    AreSane f record { made = claims.made ++ Some d ∷ []; growth = claims.growth }
sane_claimed f claims d fits low sane =
    record {
      fit = λ n c at. elim (claim_snoc claims.made (Some d) n c at) [
        | inl old ↦ sane.fit n c old
        | inr last ↦ subst (λ (z : Made). FitsIn f z.subject z.level) (some_is d c last.1) fits
      ];
      low = λ n c at now. elim (claim_snoc claims.made (Some d) n c at) [
        | inl old ↦ sane.low n c old now
        | inr last ↦ subst (λ (z : Made). IsNotAbove f z.subject z.level) (some_is d c last.1) low
      ];
    }
