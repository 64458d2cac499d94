-- Integers of a range, and their distances from its least.
use Rattle.std.proofs.Common.{◌≡◌, ℕ, ◌<◌, true, refl, ap, arith, ℤ, pos, negsuc, ◌+ℤ◌, ◌-ℤ◌}
use Rattle.std.specs.Prelude.{int_le}
use Rattle.std.proofs.lemmas.Int.{ints}
use Rattle.smv_value.specs.Results.{is_int, natural}

natural_back : (z : ℤ) → int_le (pos 0) z ≡ true → pos (natural z) ≡ z
natural_back (pos n) h = refl
natural_back (negsuc n) h = absurd cc

-- z is c more than the least, and within
pub record IsOffset (low high z : ℤ) (c : ℕ) : Type 0 where
  pub sum : low +ℤ pos c ≡ z
  pub distance : natural (z -ℤ low) ≡ c
  pub below : c < natural (high -ℤ low +ℤ pos 1)
  pub least : int_le low z ≡ true
  pub most : int_le z high ≡ true

pub offset_of : (low high z : ℤ) → int_le low z ≡ true → int_le z high ≡ true → IsOffset low high z (natural (z -ℤ low))
offset_of low high z l m =
    let d : pos (natural (z -ℤ low)) ≡ z -ℤ low = natural_back (z -ℤ low) (grind (arith, ints)) in
    let n : pos (natural (high -ℤ low +ℤ pos 1)) ≡ high -ℤ low +ℤ pos 1 = natural_back (high -ℤ low +ℤ pos 1) (grind (arith, ints)) in
    record {
      sum = omega (arith, ints);
      distance = refl;
      below = grind (arith, ints);
      least = l;
      most = m;
    }

pub offset_at : (low high : ℤ) (c : ℕ) → int_le low high ≡ true → c < natural (high -ℤ low +ℤ pos 1) → IsOffset low high (low +ℤ pos c) c
offset_at low high c h l =
    let n : pos (natural (high -ℤ low +ℤ pos 1)) ≡ high -ℤ low +ℤ pos 1 = natural_back (high -ℤ low +ℤ pos 1) (grind (arith, ints)) in
    let same : low +ℤ pos c -ℤ low ≡ pos c = omega (arith, ints) in
    record {
      sum = refl;
      distance = ap natural same;
      below = l;
      least = grind (arith, ints);
      most = grind (arith, ints);
    }

pub within_int : (low high z : ℤ) → is_int low ≡ true → is_int high ≡ true → int_le low z ≡ true → int_le z high ≡ true → is_int z ≡ true
within_int low high z a b l m = grind (arith, ints)
