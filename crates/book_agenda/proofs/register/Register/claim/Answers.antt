use Rattle.std.proofs.Common.{◌≡◌, ◌+◌, ℕ, true, false, List, [], ◌∷◌, ◌++◌, length, sym, ap, subst, ◌∙◌, inl, inr, arith, length-append, refl}
use Rattle.std.specs.Prelude.{Option, Some, vec_capacity}
use Rattle.frame_history.specs.declared.entries.Subject.{Subject}
use Rattle.frame_history.specs.declared.entries.Made.{Made}
use Rattle.book_agenda.specs.Register.{Claims, IsNewIn, IsUpTo, IsLatest, latest_at, IsRegister, outs}
use Rattle.book_agenda.proofs.Orderly.{orderly_claim, outs-push, subject_cases, latest_claim_here, latest_claim_other}
use Rattle.book_agenda.proofs.register.Register.claim.Goals as goal

pub invariant_of-self-2 : goal.invariant_of-self-2
invariant_of-self-2 c =
    let s : Claims = record { made = c.self.inside.claims.items; growth = c.self.inside.growth } in
    let same : s ≡ c.args.self.now = c.self.view_is in
    let u : Subject = c.args.subject in
    let d : Made = record { worker = c.args.worker; subject = u; level = c.args.level; growth = s.growth; out = true; void = false } in
    let items : c.push_reserved.new.self.items ≡ s.made ++ Some d ∷ [] =
    c.push_reserved.ensures.items ∙ ap (λ (z : List (Option Made)). z ++ Some d ∷ []) c.in_ok-reserve.ensures.items in
    let new : IsNewIn s u c.args.level = subst (λ (z : Claims). IsNewIn z u c.args.level) (sym same) c.requires.new in
    let up : IsUpTo s u c.args.level = subst (λ (z : Claims). IsUpTo z u c.args.level) (sym same) c.requires.up_to in
    let old = c.self.inside.latest in
    let mid = c.cover.new.self in
    let now = c.set.new.self in
    let number : c.len-number.result ≡ length s.made = c.len-number.ensures ∙ c.reserve.new.self.ok.0 ∙ ap length c.in_ok-reserve.ensures.items in
    let outs' : outs (s.made ++ Some d ∷ []) ≡ outs s.made + 1 = outs-push s.made (Some d) in
    let length' : length (s.made ++ Some d ∷ []) ≡ length s.made + 1 = length-append s.made (Some d ∷ []) in
    let out_is = c.self.invariant.out_is in
    let room = c.in_ok-reserve.ensures.ok in
    let len = c.in_ok-reserve.ensures.len in
    let cap = c.push_reserved.ensures.capacity in
    subst (λ (z : List (Option Made)). IsRegister record { made = z; growth = s.growth } (c.self.inside.out + 1) now.bads.items now.blocks.items now.pushes.items (vec_capacity c.push_reserved.new.self))
    (sym items)
    record {
      orderly = orderly_claim s d c.self.invariant.orderly new up refl refl refl;
      out_is = omega arith;
      latest = λ v. elim (subject_cases v u) [
        | inl e ↦
            let is : latest_at now.bads.items now.blocks.items now.pushes.items v ≡ Some (length s.made) =
            ap (latest_at now.bads.items now.blocks.items now.pushes.items) e ∙ c.set.ensures.here ∙ ap (λ (n : ℕ). Some n) number in
            subst (λ (o : Option ℕ). IsLatest (s.made ++ Some d ∷ []) v o) (sym is) (latest_claim_here s.made d v (sym e))
        | inr ne ↦
            let is : latest_at now.bads.items now.blocks.items now.pushes.items v ≡ latest_at old.bads.items old.blocks.items old.pushes.items v =
            c.set.ensures.others v ne ∙ c.in_ok-cover.ensures.same v in
            subst (λ (o : Option ℕ). IsLatest (s.made ++ Some d ∷ []) v o) (sym is)
            (latest_claim_other s.made d v (latest_at old.bads.items old.blocks.items old.pushes.items v) (λ e. ne (sym e)) (c.self.invariant.latest v))
      ];
      room = omega (arith, outs', length', out_is, room, len, cap);
    }
