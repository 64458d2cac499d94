-- A form under other sets of tokens that it begins with, and that go on it.
use Rattle.std.proofs.Common.{◌≡◌, Bool, true, false, inl, inr, refl}
use Rattle.phrase_forms.specs.Forms.{Form, named}
use Rattle.phrase_forms.proofs.Lists.{head_never, head_within}
use Rattle.phrase_forms.proofs.Lawful.{Lawful}

-- The form is lawful and not empty, begins with f at most, and is gone on by m at most.
pub record Fine {T A : Type 0} (f m : T → Bool) (F : Form T A) : Type 0 where
  pub lawful : Lawful F
  pub first : (t : T) → F.first t ≡ true → f t ≡ true
  pub more : (t : T) → F.more t ≡ true → m t ≡ true
  pub full : F.nullable ≡ false

pub named_lawful : {T A : Type 0} {f m : T → Bool} {F : Form T A} → Fine f m F → Lawful (named f m F)
named_lawful {T} {A} {f} {m} {F} w = record {
  ok = λ ts a rest e. let t = w.lawful.ok ts a rest e in record { pre = t.pre; split = t.split; spelt = t.spelt; again = t.again };
  err = λ ts g bad e. let t = w.lawful.err ts g bad e in record { pre = t.pre; front = t.front; split = t.split; place = t.place; again = t.again; grows = t.grows };
  complete = λ k ts a rest y h. w.lawful.complete k ts a rest y (head_never F.more m rest w.more h);
  some = w.lawful.some;
  starts = λ k ts a rest y. elim (w.lawful.starts k ts a rest y) [ inl s ↦ inl (head_within F.first f ts w.first s) | inr n ↦ absurd (let a = n.0 in let b = w.full in cc) ];
}
