use Rattle.std.proofs.Common.{◌≡◌, ◌-◌, ℕ, List, [], ◌∷◌, ◌++◌, length, false, true, sym, ap, ◌∙◌, subst}
use Rattle.clause_core.specs.declared.literal.Lit.{Lit}
use Rattle.std.specs.Prelude.{Option, None, MatchOption}
use Rattle.frame_core.specs.declared.outcomes.Insertion.{Insertion}
use Rattle.frame_core.specs.declared.parts.Lemma.{Lemma}
use Rattle.frame_core.specs.FrameLaw.{FrameState, AllStand}
use Rattle.frame_core.specs.Facts.{ProvedClause}
use Rattle.frame_core.specs.Changes.{IsOfSystem, InsertsSame, with_lemma}
use Rattle.frame_core.specs.Counting.{IsKept, more_at}
use Rattle.frame_core.specs.Looking.{IsHeldByNone}
use Rattle.frame_core.proofs.Kept.{kept_inserted}
use Rattle.frame_core.proofs.keeping.Frames.insert_same.Goals as goal

-- what is known where nothing speaks against the lemma
not_refused : (f : FrameState) (p : ProvedClause) (r : Option Insertion) → r ≡ None →
    MatchOption r (IsHeldByNone f.lemmas p.clause p.level × AllStand f.lemmas (p.level - 1) p.parents) (λ i. InsertsSame f p i f) →
    IsHeldByNone f.lemmas p.clause p.level × AllStand f.lemmas (p.level - 1) p.parents
not_refused f p r is h =
    let P : Option Insertion → Type 0 =
    λ z. MatchOption z (IsHeldByNone f.lemmas p.clause p.level × AllStand f.lemmas (p.level - 1) p.parents) (λ i. InsertsSame f p i f) in
    subst P is h

-- the lemmas with the one that is added
more : (ls : List Lemma) (p : ProvedClause) (clause : List Lit) (level : ℕ) → clause ≡ p.clause → level ≡ p.level →
    ls ++ record { clause = clause; level = level; live = true } ∷ [] ≡ ls ++ record { clause = p.clause; level = p.level; live = true } ∷ []
more ls p clause level e f = λ i. ls ++ record { clause = e i; level = f i; live = true } ∷ []

pub push_counted-requires : goal.push_counted-requires
push_counted-requires c = c.self.invariant.counted

pub invariant_of-self : goal.invariant_of-self
invariant_of-self c =
    let f : FrameState =
    record { systems = c.self.inside.systems.now; lemmas = c.self.inside.lemmas; tops = c.self.inside.tops.items; obligations = c.self.inside.obligations.items } in
    let marks = c.self.inside.marks.items in
    let e = c.in_err-push_counted.ensures.err in
    subst (λ (xs : List Lemma). IsKept record f { lemmas = xs } c.push_counted.new.counts.items marks) (sym e.0)
    (subst (λ (xs : List ℕ). IsKept f xs marks) (sym e.1) c.self.invariant)

pub invariant_of-self-2 : goal.invariant_of-self-2
invariant_of-self-2 c =
    let p = c.args.proved.now in
    let f : FrameState =
    record { systems = c.self.inside.systems.now; lemmas = c.self.inside.lemmas; tops = c.self.inside.tops.items; obligations = c.self.inside.obligations.items } in
    let counts = c.self.inside.counts.items in
    let marks = c.self.inside.marks.items in
    let items : c.push_counted.new.lemmas ≡ (with_lemma f p.clause p.level).lemmas =
    c.in_ok-push_counted.ensures.lemmas ∙ more f.lemmas p c.args.clause c.level.result c.requires.copy c.level.ensures in
    let counted : c.push_counted.new.counts.items ≡ more_at counts p.level = c.in_ok-push_counted.ensures.counts ∙ ap (more_at counts) c.level.ensures in
    let same : IsOfSystem f 0 false p.system = subst (λ (z : FrameState). IsOfSystem z 0 false p.system) (sym c.self.view_is) c.requires.same in
    let h = not_refused c.args.self.now p c.in_ok-insertion.field-0 c.in_default.is c.in_ok-insertion.ensures.answer in
    let stand : AllStand f.lemmas (p.level - 1) p.parents = subst (λ (z : FrameState). AllStand z.lemmas (p.level - 1) p.parents) (sym c.self.view_is) h.1 in
    subst (λ (xs : List Lemma). IsKept record f { lemmas = xs } c.push_counted.new.counts.items marks) (sym items)
    (subst (λ (xs : List ℕ). IsKept (with_lemma f p.clause p.level) xs marks) (sym counted)
    (kept_inserted f p counts marks c.self.invariant same c.in_ok-insertion.ensures.shown stand))

pub returns-clause-done : goal.returns-clause-done
returns-clause-done c =
    let p = c.args.proved.now in
    let g : FrameState =
    record { systems = c.self.inside.systems.now; lemmas = c.self.inside.lemmas; tops = c.self.inside.tops.items; obligations = c.self.inside.obligations.items } in
    let h = not_refused c.args.self.now p c.in_ok-insertion.field-0 c.in_default.is c.in_ok-insertion.ensures.answer in
    let items : c.push_counted.new.lemmas ≡ (with_lemma g p.clause p.level).lemmas =
    c.in_ok-push_counted.ensures.lemmas ∙ more g.lemmas p c.args.clause c.level.result c.requires.copy c.level.ensures in (
      h.0,
      h.1,
      c.len-number.ensures ∙ ap (λ (z : FrameState). length z.lemmas) c.self.view_is,
      ap (λ (xs : List Lemma). record g { lemmas = xs }) items ∙ ap (λ (z : FrameState). with_lemma z p.clause p.level) c.self.view_is,
    )
