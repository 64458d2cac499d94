use Rattle.std.proofs.Common.{◌≡◌, ◌+◌, ◌-◌, ◌≤◌, ℕ, List, [], ◌∷◌, ◌++◌, length, set, sym, subst, arith, length-append, length-set, refl, add-zero}
use Rattle.std.specs.Prelude.{Option, Some, None, vec_capacity}
use Rattle.frame_history.specs.declared.entries.Made.{Made}
use Rattle.frame_history.specs.History.{claim_at, ended}
use Rattle.book_agenda.specs.Register.{Claims, latest_at, AreOrderly, IsRegister, outs}
use Rattle.book_agenda.proofs.Orderly.{orderly_end, outs-push, outs-end, outs_some, latest_end, end_of}
use Rattle.book_agenda.proofs.register.Register.end.Goals as goal

pub push_reserved-requires : goal.push_reserved-requires
push_reserved-requires c =
    let s : Claims = record { made = c.self.inside.claims.items; growth = c.self.inside.growth } in
    let same : s ≡ c.args.self.now = c.self.view_is in
    let at : claim_at s.made c.args.n ≡ Some c.args.made = subst (λ (z : Claims). claim_at z.made c.args.n ≡ Some c.args.made) (sym same) c.requires.made in
    let some : 1 ≤ outs s.made = outs_some s.made c.args.n c.args.made at c.requires.out in
    let room = c.self.invariant.room in
    omega (arith, some, room)

pub overflow_sub-self : goal.overflow_sub-self
overflow_sub-self c =
    let s : Claims = record { made = c.self.inside.claims.items; growth = c.self.inside.growth } in
    let same : s ≡ c.args.self.now = c.self.view_is in
    let at : claim_at s.made c.args.n ≡ Some c.args.made = subst (λ (z : Claims). claim_at z.made c.args.n ≡ Some c.args.made) (sym same) c.requires.made in
    let some : 1 ≤ outs s.made = outs_some s.made c.args.n c.args.made at c.requires.out in
    let out_is = c.self.invariant.out_is in
    omega (arith, some, out_is)

pub invariant_of-self : goal.invariant_of-self
invariant_of-self c =
    let s : Claims = record { made = c.self.inside.claims.items; growth = c.self.inside.growth } in
    let same : s ≡ c.args.self.now = c.self.view_is in
    let d : Made = c.args.made in
    let n : ℕ = c.args.n in
    let at : claim_at s.made n ≡ Some d = subst (λ (z : Claims). claim_at z.made n ≡ Some d) (sym same) c.requires.made in
    let e : Option Made = ended c.args.void (Some d) in
    let l = c.self.inside.latest in
    let o : outs (set s.made n e ++ None ∷ []) ≡ outs (set s.made n e) + 0 = outs-push (set s.made n e) None in
    let p : outs (set s.made n e) + 1 ≡ outs s.made = outs-end s.made n d (end_of c.args.void d) at c.requires.out refl in
    let len : length (set s.made n e ++ None ∷ []) ≡ length (set s.made n e) + 1 = length-append (set s.made n e) (None ∷ []) in
    let len' : length (set s.made n e) ≡ length s.made = length-set s.made n e in
    let out_is = c.self.invariant.out_is in
    let room = c.self.invariant.room in
    let cap = c.push_reserved.ensures.capacity in
    subst (λ (z : List (Option Made)). IsRegister record { made = z; growth = s.growth + 1 } (c.self.inside.out - 1) l.bads.items l.blocks.items l.pushes.items (vec_capacity c.push_reserved.new.self))
    (sym c.push_reserved.ensures.items)
    record {
      orderly = orderly_end s n c.args.void d 1 c.self.invariant.orderly at c.requires.out (omega arith);
      out_is = omega (arith, o, p, out_is);
      latest = λ u. latest_end s.made n c.args.void d at c.requires.out u (latest_at l.bads.items l.blocks.items l.pushes.items u) (c.self.invariant.latest u);
      room = omega (arith, o, p, len, len', room, cap);
    }

pub invariant_of-self-else-grows : goal.invariant_of-self-else-grows
invariant_of-self-else-grows c =
    let s : Claims = record { made = c.self.inside.claims.items; growth = c.self.inside.growth } in
    let same : s ≡ c.args.self.now = c.self.view_is in
    let d : Made = c.args.made in
    let n : ℕ = c.args.n in
    let at : claim_at s.made n ≡ Some d = subst (λ (z : Claims). claim_at z.made n ≡ Some d) (sym same) c.requires.made in
    let e : Option Made = ended c.args.void (Some d) in
    let l = c.self.inside.latest in
    let o : outs (set s.made n e ++ None ∷ []) ≡ outs (set s.made n e) + 0 = outs-push (set s.made n e) None in
    let p : outs (set s.made n e) + 1 ≡ outs s.made = outs-end s.made n d (end_of c.args.void d) at c.requires.out refl in
    let len : length (set s.made n e ++ None ∷ []) ≡ length (set s.made n e) + 1 = length-append (set s.made n e) (None ∷ []) in
    let len' : length (set s.made n e) ≡ length s.made = length-set s.made n e in
    let out_is = c.self.invariant.out_is in
    let room = c.self.invariant.room in
    let cap = c.push_reserved.ensures.capacity in
    subst (λ (z : List (Option Made)). IsRegister record { made = z; growth = s.growth } (c.self.inside.out - 1) l.bads.items l.blocks.items l.pushes.items (vec_capacity c.push_reserved.new.self))
    (sym c.push_reserved.ensures.items)
    record {
      orderly = subst (λ (g : ℕ). AreOrderly record { made = set s.made n e ++ None ∷ []; growth = g }) (add-zero s.growth)
          (orderly_end s n c.args.void d 0 c.self.invariant.orderly at c.requires.out (omega arith));
      out_is = omega (arith, o, p, out_is);
      latest = λ u. latest_end s.made n c.args.void d at c.requires.out u (latest_at l.bads.items l.blocks.items l.pushes.items u) (c.self.invariant.latest u);
      room = omega (arith, o, p, len, len', room, cap);
    }
