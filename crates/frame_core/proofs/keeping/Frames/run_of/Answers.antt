use Rattle.std.proofs.Common.{◌≡◌, ◌<◌, ℕ, Bool, List, [], ◌∷◌, ◌++◌, length, get_or, sym, ap, ◌∙◌, subst, refl, arith}
use Rattle.std.specs.Prelude.{Some, None}
use Rattle.std.specs.List.{All}
use Rattle.std.proofs.lemmas.List.{get_or_read}
use Rattle.clause_core.specs.Assignments.{ClauseTrue, assignment_of}
use Rattle.frame_core.specs.declared.parts.Obligation.{Obligation}
use Rattle.frame_core.specs.FrameLaw.{FrameState, FramesHold, system_at, no_obligation, obligation_at, LeadsToBad}
use Rattle.frame_core.specs.Runs.{IsBitRun, IsBadRun}
use Rattle.frame_core.proofs.Running.{run_one, run_more, run_bad}
use Rattle.frame_core.proofs.keeping.Frames.run_of.Goals as goal

-- the obligation that is read at a place
read : (g f : FrameState) (at : ℕ) (o : Obligation) → g ≡ f → at < length f.obligations → o ≡ get_or g.obligations at o →
    o ≡ obligation_at f.obligations at
read g f at o same lt is =
    get_or_read f.obligations at o lt (is ∙ ap (λ (z : FrameState). get_or z.obligations at o) same) no_obligation

-- what an obligation of j with a parent keeps
leads : (f : FrameState) (at j p : ℕ) (o : Obligation) → FramesHold f → at < length f.obligations → (obligation_at f.obligations at).system ≡ j →
    o ≡ obligation_at f.obligations at → o.parent ≡ Some p →
    LeadsToBad f.systems f.obligations at j (obligation_at f.obligations at).values (Some p)
leads f at j p o h lt of e is =
    let q : (obligation_at f.obligations at).parent ≡ Some p = sym (ap (λ (z : Obligation). z.parent) e) ∙ is in
    subst (λ (k : ℕ). LeadsToBad f.systems f.obligations at k (obligation_at f.obligations at).values (Some p)) of
    (subst (LeadsToBad f.systems f.obligations at (obligation_at f.obligations at).system (obligation_at f.obligations at).values) q (h.obligations at lt).leads)

-- what a root of j keeps
roots : (f : FrameState) (at j : ℕ) (o : Obligation) → FramesHold f → at < length f.obligations → (obligation_at f.obligations at).system ≡ j →
    o ≡ obligation_at f.obligations at → o.parent ≡ None →
    All (ClauseTrue (assignment_of (obligation_at f.obligations at).values)) (system_at f.systems j).bad
roots f at j o h lt of e is =
    let q : (obligation_at f.obligations at).parent ≡ None = sym (ap (λ (z : Obligation). z.parent) e) ∙ is in
    subst (λ (k : ℕ). LeadsToBad f.systems f.obligations at k (obligation_at f.obligations at).values None) of
    (subst (LeadsToBad f.systems f.obligations at (obligation_at f.obligations at).system (obligation_at f.obligations at).values) q (h.obligations at lt).leads)

-- values of all bits, of the system of j
whole : (f : FrameState) (at j : ℕ) → FramesHold f → at < length f.obligations → (obligation_at f.obligations at).system ≡ j →
    length (obligation_at f.obligations at).values ≡ (system_at f.systems j).all_bits
whole f at j h lt of = (h.obligations at lt).whole ∙ ap (λ (k : ℕ). (system_at f.systems k).all_bits) of

pub rows-init : goal.rows-init
rows-init c =
    let f = c.args.self.now in
    let h : FramesHold f = subst FramesHold c.self.view_is c.self.invariant.law in
    let v = (obligation_at f.obligations c.args.n).values in
    let sys = system_at f.systems (obligation_at f.obligations c.args.n).system in
    record {
      within = c.requires.in_range;
      of = refl;
      run = subst (λ (rs : List (List Bool)). IsBitRun sys (rs ++ v ∷ [])) (sym c.new-rows.ensures.items)
          (run_one sys v (h.obligations c.args.n c.requires.in_range).whole c.requires.first);
    }

pub rows-preserved : goal.rows-preserved
rows-preserved c =
    let f = c.args.self.now in
    let h : FramesHold f = subst FramesHold c.self.view_is c.self.invariant.law in
    let at = c.rows.at in
    let lt : at < length f.obligations = c.rows.invariant.within in
    let j = (obligation_at f.obligations c.args.n).system in
    let sys = system_at f.systems j in
    let g : FrameState =
    record { systems = c.self.inside.systems.now; lemmas = c.self.inside.lemmas; tops = c.self.inside.tops.items; obligations = c.self.inside.obligations.items } in
    let o : Obligation = c.index-obligation.result.now in
    let e : o ≡ obligation_at f.obligations at = read g f at o c.self.view_is lt c.index-obligation.ensures in
    let p = c.in-Some.parent in
    let l : LeadsToBad f.systems f.obligations at j (obligation_at f.obligations at).values (Some p) = leads f at j p o h lt c.rows.invariant.of e c.in-Some.is in
    let lp : p < length f.obligations = omega (arith, l.0) in
    let w = (obligation_at f.obligations p).values in
    let rows = c.rows.rows.items in
    let v = (obligation_at f.obligations at).values in
    let vv : c.in_ok-values.values ≡ v = c.in_ok-values.ensures ∙ c.as_slice.ensures ∙ ap (λ (z : Obligation). z.values) e in
    let pushed : c.push.new.self.items ≡ rows ++ v ∷ [] = c.in_ok-push.ensures.items ∙ ap (λ (r : List Bool). rows ++ r ∷ []) vv in
    record {
      within = lp;
      of = l.1;
      run = subst (λ (rs : List (List Bool)). IsBitRun sys (rs ++ w ∷ [])) (sym pushed)
          (run_more sys rows v w c.rows.invariant.run l.2 l.3 (whole f p j h lp l.1));
    }

pub rows-smaller : goal.rows-smaller
rows-smaller c =
    let f = c.args.self.now in
    let h : FramesHold f = subst FramesHold c.self.view_is c.self.invariant.law in
    let at = c.rows.at in
    let lt : at < length f.obligations = c.rows.invariant.within in
    let j = (obligation_at f.obligations c.args.n).system in
    let g : FrameState =
    record { systems = c.self.inside.systems.now; lemmas = c.self.inside.lemmas; tops = c.self.inside.tops.items; obligations = c.self.inside.obligations.items } in
    let o : Obligation = c.index-obligation.result.now in
    let e : o ≡ obligation_at f.obligations at = read g f at o c.self.view_is lt c.index-obligation.ensures in
    (leads f at j c.in-Some.parent o h lt c.rows.invariant.of e c.in-Some.is).0

pub returns-in-None : goal.returns-in-None
returns-in-None c =
    let f = c.args.self.now in
    let h : FramesHold f = subst FramesHold c.self.view_is c.self.invariant.law in
    let at = c.rows.at in
    let lt : at < length f.obligations = c.rows.invariant.within in
    let j = (obligation_at f.obligations c.args.n).system in
    let sys = system_at f.systems j in
    let g : FrameState =
    record { systems = c.self.inside.systems.now; lemmas = c.self.inside.lemmas; tops = c.self.inside.tops.items; obligations = c.self.inside.obligations.items } in
    let o : Obligation = c.index-obligation.result.now in
    let e : o ≡ obligation_at f.obligations at = read g f at o c.self.view_is lt c.index-obligation.ensures in
    let rows = c.rows.rows.items in
    let v = (obligation_at f.obligations at).values in
    let vv : c.in_ok-values.values ≡ v = c.in_ok-values.ensures ∙ c.as_slice.ensures ∙ ap (λ (z : Obligation). z.values) e in
    let pushed : c.push.new.self.items ≡ rows ++ v ∷ [] = c.in_ok-push.ensures.items ∙ ap (λ (r : List Bool). rows ++ r ∷ []) vv in
    subst (IsBadRun sys) (sym (c.from_vec.ensures ∙ pushed)) (run_bad sys rows v c.rows.invariant.run (roots f at j o h lt c.rows.invariant.of e c.in-None.is))
