-- A text is cut in one way, and from its front to its end.
use Rattle.std.proofs.Common.{◌≡◌, ℕ, List, [], ◌++◌, take, drop, Option, refl, sym, ap, ◌∙◌, subst, inl, inr, append_assoc, arith}
use Rattle.std.specs.Prelude.{◌⊎◌}
use Rattle.std.proofs.lemmas.Bool.{cases_lt}
use Rattle.std.proofs.lemmas.List.{append-nil}
use Rattle.longest_match.specs.Lexemes.{Lexicon, IsLongest, IsNone, Lexed, done, next}

-- the longest lexeme is the only one
pub longest_length : {Shape : Type 0} (shape_of : List ℕ → Option Shape) (bytes : List ℕ) (n m : ℕ) (s r : Shape) → IsLongest shape_of bytes n s → IsLongest shape_of bytes m r → n ≡ m
longest_length shape_of bytes n m s r h k =
    elim (cases_lt n m) [
      | inl lt ↦ absurd (let e = h.longest m lt k.inside in let d = k.lexeme in cc)
      | inr le ↦ elim (cases_lt m n) [
        | inl lt ↦ absurd (let e = k.longest n lt h.inside in let d = h.lexeme in cc)
        | inr ge ↦ omega arith
      ]
    ]

pub longest_shape : {Shape : Type 0} (shape_of : List ℕ → Option Shape) (bytes : List ℕ) (n m : ℕ) (s r : Shape) → IsLongest shape_of bytes n s → IsLongest shape_of bytes m r → s ≡ r
longest_shape shape_of bytes n m s r h k =
    let e = longest_length shape_of bytes n m s r h k in
    let d = h.lexeme in
    let c = k.lexeme in
    cc

-- no lexeme stands at the end
pub none_at_end : {Shape : Type 0} (shape_of : List ℕ → Option Shape) → IsNone shape_of []
none_at_end shape_of n s h = omega (arith, h.some, h.inside)

module _ {Shape Place Token : Type 0} (words : Lexicon Shape Place Token) where
  -- a text has no lexeme, or a first one
  record Begun (place : Place) (bytes : List ℕ) (tokens : List Token) (end : Place) (rest : List ℕ) : Type 0 where
    n : ℕ
    shape : Shape
    more : List Token
    is : IsLongest words.shape_of bytes n shape
    after : Lexed words (words.behind place (take n bytes)) (drop n bytes) more end rest
    all : tokens ≡ words.tokens_of shape place (take n bytes) ++ more

  record Ended (place : Place) (bytes : List ℕ) (tokens : List Token) (end : Place) (rest : List ℕ) : Type 0 where
    none : tokens ≡ []
    here : place ≡ end
    same : bytes ≡ rest

  parts : {place end : Place} {bytes rest : List ℕ} {tokens : List Token} → Lexed words place bytes tokens end rest
      → Ended place bytes tokens end rest ⊎ Begun place bytes tokens end rest
  parts done = inl (record { none = refl; here = refl; same = refl })
  parts (next {tokens = tokens} n s h l) = inr (record { n = n; shape = s; more = tokens; is = h; after = l; all = refl })

  -- one more lexeme behind those that are cut
  pub lexed_more : {place end : Place} {bytes rest : List ℕ} {tokens : List Token} → Lexed words place bytes tokens end rest → (n : ℕ) (shape : Shape) → IsLongest words.shape_of rest n shape
      → Lexed words place bytes (tokens ++ words.tokens_of shape end (take n rest)) (words.behind end (take n rest)) (drop n rest)
  lexed_more {place} {end} {bytes} {rest} done n s h =
      let P : List Token → Type 0 = λ ts. Lexed words place bytes ts (words.behind place (take n bytes)) (drop n bytes) in
      subst P (append-nil (words.tokens_of s place (take n bytes))) (next n s h done)
  lexed_more {place} {end} {bytes} {rest} (next {tokens = ts} m r k l) n s h =
      let P : List Token → Type 0 = λ us. Lexed words place bytes us (words.behind end (take n rest)) (drop n rest) in
      subst P (sym (append_assoc (words.tokens_of r place (take m bytes)) ts (words.tokens_of s end (take n rest)))) (next m r k (lexed_more l n s h))

  pub record Same (tokens others : List Token) (end stop : Place) (rest left : List ℕ) : Type 0 where
    pub same_tokens : tokens ≡ others
    pub same_end : end ≡ stop
    pub same_rest : rest ≡ left

  -- the tokens up to a place where none begins are the only ones
  pub lexed_once : {place end : Place} {bytes rest : List ℕ} {tokens : List Token} → Lexed words place bytes tokens end rest → IsNone words.shape_of rest
      → (others : List Token) (stop : Place) (left : List ℕ) → Lexed words place bytes others stop left → IsNone words.shape_of left → Same tokens others end stop rest left
  lexed_once {place} {end} {bytes} {rest} done none others stop left l last =
      elim (parts l) [
        | inl e ↦ record { same_tokens = sym e.none; same_end = e.here; same_rest = e.same }
        | inr b ↦ absurd (none b.n b.shape b.is)
      ]
  lexed_once {place} {end} {bytes} {rest} (next {tokens = ts} n s h l) none others stop left m last =
      elim (parts m) [
        | inl e ↦ absurd (let P : List ℕ → Type 0 = λ u. IsNone words.shape_of u in subst P (sym e.same) last n s h)
        | inr b ↦ go (λ us p k. lexed_once l none us stop left p k) b
      ]
    where
      go : ((us : List Token) → Lexed words (words.behind place (take n bytes)) (drop n bytes) us stop left → IsNone words.shape_of left → Same ts us end stop rest left) → Begun place bytes others stop left → Same (words.tokens_of s place (take n bytes) ++ ts) others end stop rest left
      go ih b =
          let en : b.n ≡ n = longest_length words.shape_of bytes b.n n b.shape s b.is h in
          let es : b.shape ≡ s = longest_shape words.shape_of bytes b.n n b.shape s b.is h in
          let P : ℕ → Type 0 = λ k. Lexed words (words.behind place (take k bytes)) (drop k bytes) b.more stop left in
          let q = ih b.more (subst P en b.after) last in
          record {
            same_tokens = ap (λ (us : List Token). words.tokens_of s place (take n bytes) ++ us) q.same_tokens ∙ sym (ap (λ (k : ℕ). words.tokens_of s place (take k bytes) ++ b.more) en) ∙ sym (ap (λ (r : Shape). words.tokens_of r place (take b.n bytes) ++ b.more) es) ∙ sym b.all;
            same_end = q.same_end;
            same_rest = q.same_rest;
          }
