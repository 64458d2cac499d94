-- Signatures of clauses, and of the clauses of lemmas.
use Rattle.std.proofs.Common.{◌≡◌, ℕ, ◌+◌, ◌*◌, ◌%◌, ◌^◌, ◌<◌, List, [], ◌∷◌, ◌++◌, length, get_or, set, sym, ap, subst, ◌∙◌, inl, inr, arith, length-append, length-set, get_or-set_same, get_or-set_other, w64}
use Rattle.std.specs.Prelude.{bit_and, bit_or}
use Rattle.std.specs.Int.{bit_at}
use Rattle.std.specs.List.{Contains}
use Rattle.std.proofs.Math.ListN.{get_or-append}
use Rattle.std.proofs.Math.Seq.{get_or-append_seam}
use Rattle.std.proofs.lemmas.Bool.{cases_eq, cases_lt}
use Rattle.std.proofs.lemmas.List.{get_or_read}
use Rattle.std.proofs.lemmas.Nat.Bits.{bit_at_and, bit_at-lt, bit_at_set_same, bit_at_set_other, same_from_bits, bit_at-zero}
use Rattle.clause_core.specs.declared.literal.Lit.{Lit}
use Rattle.clause_core.specs.Literals.{none_lit, at}
use Rattle.frame_core.specs.declared.parts.Lemma.{Lemma}
use Rattle.frame_core.specs.Facts.{IsPart}
use Rattle.frame_core.specs.FrameLaw.{no_lemma, lemma_at}
use Rattle.frame_core.specs.Signatures.{bit_of, AreBitsOf, IsSignature, AreSigned}

-- no literal has no bit
pub bits_of_none : (clause : List Lit) → AreBitsOf clause 0 0
bits_of_none clause i = ((λ one. absurd (let z = bit_at-zero i in omega arith)), (λ h. absurd (omega (arith, h.1))))

-- one literal more
pub bits_of_more : (clause : List Lit) (n word : ℕ) → AreBitsOf clause n word →
    AreBitsOf clause (n + 1) (bit_or word (1 * 2 ^ (bit_of (at clause n)) % 2 ^ 64))
bits_of_more clause n word are i =
    let b : ℕ = bit_of (at clause n) in
    let low : b < 64 = omega arith in
    let new : ℕ = bit_or word (1 * 2 ^ b % 2 ^ 64) in
    elim (cases_eq i b) [
      | inl e ↦ (
        (λ one. (n, omega arith, sym e)),
        (λ h. let P : ℕ → Type 0 = λ j. bit_at new j ≡ 1 in subst P (sym e) (bit_at_set_same w64 word b low)),
      )
      | inr ne ↦
          let same : bit_at new i ≡ bit_at word i = bit_at_set_other w64 word b low i ne in (
            (λ one. let h = (are i).0 (sym same ∙ one) in (h.0, omega (arith, h.1), h.2)),
            (λ h. same ∙ (are i).1 (
              h.0,
              elim (cases_eq h.0 n) [
                | inl last ↦ absurd (ne (let P : ℕ → Type 0 = λ k. bit_of (at clause k) ≡ i in sym (subst P last h.2)))
                | inr before ↦ omega (arith, h.1)
              ],
              h.2,
            )),
          )
    ]

-- the signature of a part has no bit that the whole clause's lacks
pub part_has_bits : (part whole : List Lit) (a b : ℕ) → IsSignature part a → IsSignature whole b → IsPart part whole → bit_and a b ≡ a
part_has_bits part whole a b is_a is_b in' =
    same_from_bits (bit_and a b) a (λ i.
    let both = bit_at_and a b i in
    let small = bit_at-lt a i in
    elim (cases_eq (bit_at a i) 1) [
      | inl one ↦
          let h = (is_a i).0 one in
          let l : Lit = at part h.0 in
          let has : Contains whole l = in' h.0 none_lit h.1 in
          let here : l ≡ at whole has.0 = get_or_read whole has.0 l has.1 (sym has.2) none_lit in
          let set' : bit_at b i ≡ 1 = (is_b i).1 (has.0, has.1, sym (ap bit_of here) ∙ h.2) in
          omega arith
      | inr none ↦ omega arith
    ])

-- one lemma more
pub signed_more : (lemmas : List Lemma) (l : Lemma) (signatures : List ℕ) (s : ℕ) → AreSigned lemmas signatures → IsSignature l.clause s →
    AreSigned (lemmas ++ l ∷ []) (signatures ++ s ∷ [])
signed_more lemmas l signatures s are is =
    record {
      as_many = let e = are.as_many in omega (arith, length-append lemmas (l ∷ []), length-append signatures (s ∷ []));
      each = λ n lt. elim (cases_lt n (length lemmas)) [
        | inl old ↦
            let e = are.as_many in
            let a : lemma_at (lemmas ++ l ∷ []) n ≡ lemma_at lemmas n = get_or-append lemmas (l ∷ []) no_lemma n old in
            let b : get_or (signatures ++ s ∷ []) n 0 ≡ get_or signatures n 0 = get_or-append signatures (s ∷ []) 0 n (omega arith) in
            subst (λ (m : Lemma). IsSignature m.clause (get_or (signatures ++ s ∷ []) n 0)) (sym a)
            (subst (λ (k : ℕ). IsSignature (lemma_at lemmas n).clause k) (sym b) (are.each n old))
        | inr new ↦
            let e : n ≡ length lemmas = omega (arith, length-append lemmas (l ∷ [])) in
            let f : n ≡ length signatures = let many = are.as_many in omega arith in
            let a : lemma_at (lemmas ++ l ∷ []) n ≡ l = rw e (get_or-append_seam lemmas l [] no_lemma) in
            let b : get_or (signatures ++ s ∷ []) n 0 ≡ s = rw f (get_or-append_seam signatures s [] 0) in
            subst (λ (m : Lemma). IsSignature m.clause (get_or (signatures ++ s ∷ []) n 0)) (sym a)
            (subst (λ (k : ℕ). IsSignature l.clause k) (sym b) is)
      ];
    }

-- a lemma with the same clause in place of another
pub signed_set : (lemmas : List Lemma) (k : ℕ) (l : Lemma) (signatures : List ℕ) → k < length lemmas → l.clause ≡ (lemma_at lemmas k).clause →
    AreSigned lemmas signatures → AreSigned (set lemmas k l) signatures
signed_set lemmas k l signatures lt is are =
    record {
      as_many = are.as_many ∙ sym (length-set lemmas k l);
      each = λ n below.
          let old : n < length lemmas = omega (arith, length-set lemmas k l) in
          let same : (lemma_at (set lemmas k l) n).clause ≡ (lemma_at lemmas n).clause = elim (cases_eq n k) [
            | inl e ↦
                let at' : lemma_at (set lemmas k l) n ≡ l = rw e (get_or-set_same lemmas k l no_lemma lt) in
                ap (λ (m : Lemma). m.clause) at' ∙ is ∙ sym (ap (λ (m : ℕ). (lemma_at lemmas m).clause) e)
            | inr ne ↦ ap (λ (m : Lemma). m.clause) (get_or-set_other lemmas k n l no_lemma ne)
          ] in
          subst (λ (c : List Lit). IsSignature c (get_or signatures n 0)) (sym same) (are.each n old);
    }
