-- A text has one list of tokens, or one first flaw.
use Rattle.std.proofs.Common.{◌≡◌, ℕ, ◌≤◌, List, [], ◌∷◌, ◌++◌, length, take, drop, map, Option, refl, sym, ap, ◌∙◌, subst, inl, inr, append_assoc, arith}
use Rattle.std.specs.Prelude.{◌⊎◌}
use Rattle.std.proofs.lemmas.List.{append-nil}
use Rattle.longest_match.specs.Lexemes.{Lexicon, IsLongest, IsNone, Lexed, done, next}
use Rattle.longest_match.proofs.OfLexemes.{longest_length, longest_shape, lexed_more, none_at_end, lexed_once}
use Rattle.smv_tree.specs.declared.place.Place.{Place}
use Rattle.smv_tree.specs.declared.token.Token.{Token}
use Rattle.smv_tree.specs.declared.token.Tokens.{Tokens}
use Rattle.smv_tree.specs.declared.refusal.Rule.{Rule}
use Rattle.smv_tree.specs.declared.refusal.Refusal.{Refusal}
use Rattle.smv_tree.specs.declared.refusal.TextStop.{TextStop}
use Rattle.smv_tree.specs.declared.refusal.TextStop.TheVariants.{Refused, NoMemory}
use Rattle.smv_tree.specs.Places as places
use Rattle.smv_text.specs.declared.lexeme.Lexeme.{Lexeme}
use Rattle.smv_text.specs.declared.lexeme.Lexeme.TheVariants.{Flaw}
use Rattle.smv_text.specs.Lexemes.{shape_of}
use Rattle.smv_text.specs.Runs.{IsFlawStop}
use Rattle.smv_text.specs.Texts.{Piece, good, bad, pieces_of, words, AreTokens, IsBrokenFirst, source_limit, IsText, IsBrokenAt, IsRefusedText, IsTextStop}

-- the bytes are these tokens up to this place, where the rest stands
abbrev pub AreCut : List ℕ → List Token → Place → List ℕ → Type 0
AreCut bytes tokens place rest = Lexed words places.start bytes (map good tokens) place rest

-- one of two lists goes on the other
abbrev Goes : {A : Type 0} → List A → List A → Type 0
Goes {A} xs ys = ((more : List A) × (ys ≡ xs ++ more)) ⊎ ((more : List A) × (xs ≡ ys ++ more))

goes_behind : {A : Type 0} (pre xs ys : List A) → Goes xs ys → Goes (pre ++ xs) (pre ++ ys)
goes_behind {A} pre xs ys g = elim g [
  | inl m ↦ inl (m.0, ap (λ (w : List A). pre ++ w) m.1 ∙ sym (append_assoc pre xs m.0))
  | inr m ↦ inr (m.0, ap (λ (w : List A). pre ++ w) m.1 ∙ sym (append_assoc pre ys m.0))
]

module _ {Shape Place Token : Type 0} (words : Lexicon Shape Place Token) where
  record Begun (place : Place) (bytes : List ℕ) (tokens : List Token) (end : Place) (rest : List ℕ) : Type 0 where
    n : ℕ
    shape : Shape
    more : List Token
    is : IsLongest words.shape_of bytes n shape
    after : Lexed words (words.behind place (take n bytes)) (drop n bytes) more end rest
    all : tokens ≡ words.tokens_of shape place (take n bytes) ++ more

  record Ended (bytes : List ℕ) (tokens : List Token) (rest : List ℕ) : Type 0 where
    none : tokens ≡ []
    same : bytes ≡ rest

  parts : {place end : Place} {bytes rest : List ℕ} {tokens : List Token} → Lexed words place bytes tokens end rest → Ended bytes tokens rest ⊎ Begun place bytes tokens end rest
  parts done = inl (record { none = refl; same = refl })
  parts (next {tokens = tokens} n s h l) = inr (record { n = n; shape = s; more = tokens; is = h; after = l; all = refl })

  -- two cuts of one text agree as far as both go
  pub agree : {place end : Place} {bytes rest : List ℕ} {tokens : List Token} → Lexed words place bytes tokens end rest → (others : List Token) (stop : Place) (left : List ℕ) → Lexed words place bytes others stop left → Goes tokens others
  agree {place} {end} {bytes} {rest} done others stop left m = inl (others, refl)
  agree {place} {end} {bytes} {rest} (next {tokens = ts} n s h l) others stop left m =
      elim (parts m) [
        | inl e ↦ inr (words.tokens_of s place (take n bytes) ++ ts, rw (e.none) refl)
        | inr b ↦ go (λ us k. agree l us stop left k) b
      ]
    where
      go : ((us : List Token) → Lexed words (words.behind place (take n bytes)) (drop n bytes) us stop left → Goes ts us) → Begun place bytes others stop left → Goes (words.tokens_of s place (take n bytes) ++ ts) others
      go ih b =
          let en : b.n ≡ n = longest_length words.shape_of bytes b.n n b.shape s b.is h in
          let es : b.shape ≡ s = longest_shape words.shape_of bytes b.n n b.shape s b.is h in
          let P : ℕ → Type 0 = λ k. Lexed words (words.behind place (take k bytes)) (drop k bytes) b.more stop left in
          let same : others ≡ words.tokens_of s place (take n bytes) ++ b.more =
          b.all ∙ ap (λ (k : ℕ). words.tokens_of b.shape place (take k bytes) ++ b.more) en ∙ ap (λ (r : Shape). words.tokens_of r place (take n bytes) ++ b.more) es in
          let Q : List Token → Type 0 = λ w. Goes (words.tokens_of s place (take n bytes) ++ ts) w in
          subst Q (sym same) (goes_behind (words.tokens_of s place (take n bytes)) ts b.more (ih b.more (subst P en b.after)))

  -- a cut of the whole text goes as far as any
  pub whole_goes : {place end : Place} {bytes rest : List ℕ} {tokens : List Token} → Lexed words place bytes tokens end rest → IsNone words.shape_of rest → (others : List Token) (stop : Place) (left : List ℕ)
      → Lexed words place bytes others stop left → (more : List Token) × (tokens ≡ others ++ more)
  whole_goes {place} {end} {bytes} {rest} done none others stop left m =
      elim (parts m) [
        | inl e ↦ ([], sym e.none ∙ sym (append-nil others))
        | inr b ↦ absurd (none b.n b.shape b.is)
      ]
  whole_goes {place} {end} {bytes} {rest} (next {tokens = ts} n s h l) none others stop left m =
      elim (parts m) [
        | inl e ↦ (words.tokens_of s place (take n bytes) ++ ts, rw (e.none) refl)
        | inr b ↦ go (λ us k. whole_goes l none us stop left k) b
      ]
    where
      go : ((us : List Token) → Lexed words (words.behind place (take n bytes)) (drop n bytes) us stop left → (more : List Token) × (ts ≡ us ++ more)) → Begun place bytes others stop left
          → (more : List Token) × (words.tokens_of s place (take n bytes) ++ ts ≡ others ++ more)
      go ih b =
          let en : b.n ≡ n = longest_length words.shape_of bytes b.n n b.shape s b.is h in
          let es : b.shape ≡ s = longest_shape words.shape_of bytes b.n n b.shape s b.is h in
          let P : ℕ → Type 0 = λ k. Lexed words (words.behind place (take k bytes)) (drop k bytes) b.more stop left in
          let same : others ≡ words.tokens_of s place (take n bytes) ++ b.more =
          b.all ∙ ap (λ (k : ℕ). words.tokens_of b.shape place (take k bytes) ++ b.more) en ∙ ap (λ (r : Shape). words.tokens_of r place (take n bytes) ++ b.more) es in
          let m = ih b.more (subst P en b.after) in
          (m.0, ap (λ (w : List Token). words.tokens_of s place (take n bytes) ++ w) m.1 ∙ sym (append_assoc (words.tokens_of s place (take n bytes)) b.more m.0) ∙ ap (λ (w : List Token). w ++ m.0) (sym same))

-- the flaw of a list of pieces is its first
flaw_once : (ts us : List Token) (r s : Rule) (p q : Place) (more : List Piece) → map good us ++ bad s q ∷ [] ≡ (map good ts ++ bad r p ∷ []) ++ more → (r ≡ s) × (p ≡ q)
flaw_once [] [] r s p q more e = let f : bad s q ≡ bad r p = cc in (let P : Piece → Type 0 = λ x. x ≡ bad r p in cc, cc)
flaw_once [] (u ∷ us) r s p q more e = absurd (let f : good u ≡ bad r p = cc in cc)
flaw_once (t ∷ ts) [] r s p q more e = absurd (let f : bad s q ≡ good t = cc in cc)
flaw_once (t ∷ ts) (u ∷ us) r s p q more e = flaw_once ts us r s p q more cc

pub one_flaw : (bytes : List ℕ) (r s : Rule) (p q : Place) → IsBrokenFirst bytes r p → IsBrokenFirst bytes s q → (r ≡ s) × (p ≡ q)
one_flaw bytes r s p q a b =
    elim (agree words a.3 (map good b.0 ++ bad s q ∷ []) b.1 b.2 b.3) [
      | inl m ↦ flaw_once a.0 b.0 r s p q m.0 m.1
      | inr m ↦ let f = flaw_once b.0 a.0 s r q p m.0 m.1 in (sym f.0, sym f.1)
    ]

-- no flaw stands among tokens
no_flaw : (ts us : List Token) (r : Rule) (p : Place) (more : List Piece) → map good ts ≡ (map good us ++ bad r p ∷ []) ++ more → ⊥
no_flaw [] [] r p more e = cc
no_flaw [] (u ∷ us) r p more e = cc
no_flaw (t ∷ ts) [] r p more e = let f : good t ≡ bad r p = cc in cc
no_flaw (t ∷ ts) (u ∷ us) r p more e = no_flaw ts us r p more cc

pub tokens_apart : (bytes : List ℕ) (ts : List Token) (end : Place) (r : Rule) (p : Place) → AreTokens bytes ts end → IsBrokenFirst bytes r p → ⊥
tokens_apart bytes ts end r p a b = let m = whole_goes words a (none_at_end shape_of) (map good b.0 ++ bad r p ∷ []) b.1 b.2 b.3 in no_flaw ts b.0 r p m.0 m.1

same_goods : (ts us : List Token) → map good ts ≡ map good us → ts ≡ us
same_goods [] [] e = refl
same_goods [] (u ∷ us) e = absurd cc
same_goods (t ∷ ts) [] e = absurd cc
same_goods (t ∷ ts) (u ∷ us) e =
    let f : good t ≡ good u = cc in
    let g : t ≡ u = cc in
    ap (λ (x : Token). x ∷ ts) g ∙ ap (λ (xs : List Token). u ∷ xs) (same_goods ts us cc)

pub one_text : (bytes : List ℕ) (t u : Tokens) → IsText bytes t → IsText bytes u → t ≡ u
one_text bytes t u a b =
    let s = lexed_once words a.1 (none_at_end shape_of) (map good u.items) u.end [] b.1 (none_at_end shape_of) in
    let same = same_goods t.items u.items s.same_tokens in
    let end = s.same_end in
    ap (λ (xs : List Token). record { items = xs; end = t.end }) same ∙ ap (λ (p : Place). record { items = u.items; end = p }) end

broken_once : (bytes : List ℕ) (r s : Rule) (p q : Place) → IsBrokenAt bytes r p → IsBrokenAt bytes s q → (r ≡ s) × (p ≡ q)
broken_once bytes r s p q a b =
    elim a [
      | inl x ↦ elim b [ inl y ↦ (x.1 ∙ sym y.1, x.2 ∙ sym y.2) | inr y ↦ absurd (omega (arith, x.0, y.0)) ]
      | inr x ↦ elim b [ inl y ↦ absurd (omega (arith, x.0, y.0)) | inr y ↦ one_flaw bytes r s p q x.1 y.1 ]
    ]

pub one_refusal : (bytes : List ℕ) (a b : Refusal) → IsRefusedText bytes a → IsRefusedText bytes b → a ≡ b
one_refusal bytes a b x y =
    let s = broken_once bytes a.rule b.rule a.place b.place x.broken y.broken in
    ap (λ (r : Rule). record { rule = r; place = a.place; detail = a.detail }) s.0
    ∙ ap (λ (p : Place). record { rule = b.rule; place = p; detail = a.detail }) s.1
    ∙ ap (λ (d : Option (List ℕ)). record { rule = b.rule; place = b.place; detail = d }) (x.no_detail ∙ sym y.no_detail)

pub never_both : (bytes : List ℕ) (t : Tokens) (r : Refusal) → IsText bytes t → IsRefusedText bytes r → ⊥
never_both bytes t r a b =
    elim b.broken [
      | inl x ↦ omega (arith, a.0, x.0)
      | inr x ↦ tokens_apart bytes t.items t.end r.rule r.place a.1 x.1
    ]

-- the loop that cuts a text
pub none_cut : (bytes : List ℕ) (tokens : List Token) → tokens ≡ [] → AreCut bytes tokens places.start bytes
none_cut bytes tokens e = let P : List Token → Type 0 = λ ts. AreCut bytes ts places.start bytes in subst P (sym e) done

pub one_cut : (bytes : List ℕ) (tokens more : List Token) (place end : Place) (rest text after : List ℕ) (n : ℕ) (x : Lexeme) → AreCut bytes tokens place rest → IsLongest shape_of rest n x
    → map good more ≡ map good tokens ++ pieces_of x place text → text ≡ take n rest → after ≡ drop n rest → end ≡ places.behind place text → AreCut bytes more end after
one_cut bytes tokens more place end rest text after n x l h em et ea ee = rw (em, ee, et, ea) (lexed_more words l n x h)

pub all_cut : (bytes : List ℕ) (tokens items : List Token) (place : Place) (rest : List ℕ) → rest ≡ [] → items ≡ tokens → length bytes ≤ source_limit → AreCut bytes tokens place rest → IsText bytes (record { items = items; end = place })
all_cut bytes tokens items place rest e ei le l = (le, rw ei (let P : List ℕ → Type 0 = λ r. AreCut bytes tokens place r in subst P e l))

pub flaw_cut : (bytes : List ℕ) (tokens : List Token) (place : Place) (rest text : List ℕ) (n : ℕ) (x : Lexeme) (stop : TextStop) → length bytes ≤ source_limit → AreCut bytes tokens place rest → IsLongest shape_of rest n x
    → text ≡ take n rest → IsFlawStop x place stop → IsTextStop bytes stop
flaw_cut bytes tokens place rest text n x NoMemory le l h et s = tt
flaw_cut bytes tokens place rest text n x (Refused r) le l h et s =
    let k : IsLongest shape_of rest n (Flaw r.rule) = (let P : Lexeme → Type 0 = λ y. IsLongest shape_of rest n y in subst P s.0 h) in
    let m = lexed_more words l n (Flaw r.rule) k in
    record {
      broken = inr (le, (tokens, places.behind place (take n rest), drop n rest, (let P : Place → Type 0 = λ p. Lexed words places.start bytes (map good tokens ++ bad r.rule p ∷ []) (places.behind place (take n rest)) (drop n rest) in subst P (sym s.1) m)));
      no_detail = s.2;
    }
