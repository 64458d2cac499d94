use Rattle.std.proofs.Common.{◌≡◌, ◌^◌, ◌<◌, ◌∙◌, ap, sym, length, subst, ℕ, false, refl}
use Rattle.std.proofs.lemmas.Result.{IfOk-weaker}
use Rattle.bit_graph.specs.Meaning.{edge_value, exclusive_or}
use Rattle.bit_arith.specs.Number.{number_of}
use Rattle.bit_arith.specs.Words.{is_negative, quotient, remainder}
use Rattle.bit_arith.proofs.Numbers.{number-lt, AllStand-extends}
use Rattle.bit_arith.proofs.TwosComplement.{size, size_of, signed_quotient, signed_remainder}
use Rattle.bit_arith.proofs.signs.divide_signed.Goals as goal

pub negate_if-requires-2-clause-a_stand : goal.negate_if-requires-2-clause-a_stand
negate_if-requires-2-clause-a_stand c = AllStand-extends c.args.graph.now c.negate_if.new.graph c.args.b.now c.in_ok-size_a.ensures.extends c.requires.b_stand

pub divide_sizes-requires-clause-lengths : goal.divide_sizes-requires-clause-lengths
divide_sizes-requires-clause-lengths c =
    ap length c.deref.ensures.value ∙ c.in_ok-size_a.ensures.length ∙ c.requires.lengths
    ∙ sym (ap length c.deref-2.ensures.value ∙ c.in_ok-size_b.ensures.length)

pub divide_sizes-requires-clause-size_a_stand : goal.divide_sizes-requires-clause-size_a_stand
divide_sizes-requires-clause-size_a_stand c =
    rw c.deref.ensures.value
    (AllStand-extends c.negate_if.new.graph c.negate_if-2.new.graph c.in_ok-size_a.size_a.items c.in_ok-size_b.ensures.extends c.in_ok-size_a.ensures.stands)

pub divide_sizes-requires-clause-size_b_stand : goal.divide_sizes-requires-clause-size_b_stand
divide_sizes-requires-clause-size_b_stand c = rw c.deref-2.ensures.value c.in_ok-size_b.ensures.stands

pub returns-clause-length : goal.returns-clause-length
returns-clause-length c =
    let width : length c.deref.result.now ≡ length c.args.a.now = ap length c.deref.ensures.value ∙ c.in_ok-size_a.ensures.length in
    IfOk-weaker c.divide_sizes.result _ _ (λ r e. (e.0 ∙ width, e.1 ∙ width)) c.divide_sizes.ensures.length

pub returns-clause-quotient : goal.returns-clause-quotient
returns-clause-quotient c =
    IfOk-weaker c.divide_sizes.result _ _
    (λ r f v h.
    let after_b = c.divide_sizes.ensures.extends.kept v h in
    let after_a = c.in_ok-size_b.ensures.extends.kept v after_b in
    let first = c.in_ok-size_a.ensures.extends.kept v after_a in
    let n = length c.args.a.now in
    let a = number_of v c.args.a.now in
    let b = number_of v c.args.b.now in
    let s = edge_value v c.sign-sign_a.result in
    let t = edge_value v c.sign-sign_b.result in
    let lengths : length c.args.b.now ≡ n = sym c.requires.lengths in
    let s_is : s ≡ is_negative n a = c.sign-sign_a.ensures.value v first in
    let t_is : t ≡ is_negative n b = c.sign-sign_b.ensures.value v first ∙ ap (λ m. is_negative m b) lengths in
    let small_a : a < 2 ^ n = number-lt (edge_value v) c.args.a.now in
    let small_b : b < 2 ^ n = (let P : ℕ → Type 0 = λ m. b < 2 ^ m in subst P lengths (number-lt (edge_value v) c.args.b.now)) in
    let x : number_of v c.deref.result.now ≡ size s n a = ap (number_of v) c.deref.ensures.value ∙ c.in_ok-size_a.ensures.value v after_a in
    let y : number_of v c.deref-2.result.now ≡ size t n b =
    ap (number_of v) c.deref-2.ensures.value ∙ c.in_ok-size_b.ensures.value v after_b ∙ ap (λ m. size t m b) lengths in
    let width : length c.deref.result.now ≡ n = ap length c.deref.ensures.value ∙ c.in_ok-size_a.ensures.length in
    let q = quotient false n (size s n a) (size t n b) in
    signed_quotient n s t a b (size s n a) (size t n b) q (number_of v r.0.items)
    s_is small_a (size_of s n a s_is small_a) (size_of t n b t_is small_b) refl
    (f v h ∙ (λ i. size (exclusive_or s t) (width i) (quotient false (width i) (x i) (y i)))))
    c.divide_sizes.ensures.quotient

pub returns-clause-remainder : goal.returns-clause-remainder
returns-clause-remainder c =
    IfOk-weaker c.divide_sizes.result _ _
    (λ r f v h.
    let after_b = c.divide_sizes.ensures.extends.kept v h in
    let after_a = c.in_ok-size_b.ensures.extends.kept v after_b in
    let first = c.in_ok-size_a.ensures.extends.kept v after_a in
    let n = length c.args.a.now in
    let a = number_of v c.args.a.now in
    let b = number_of v c.args.b.now in
    let s = edge_value v c.sign-sign_a.result in
    let t = edge_value v c.sign-sign_b.result in
    let lengths : length c.args.b.now ≡ n = sym c.requires.lengths in
    let s_is : s ≡ is_negative n a = c.sign-sign_a.ensures.value v first in
    let t_is : t ≡ is_negative n b = c.sign-sign_b.ensures.value v first ∙ ap (λ m. is_negative m b) lengths in
    let small_a : a < 2 ^ n = number-lt (edge_value v) c.args.a.now in
    let small_b : b < 2 ^ n = (let P : ℕ → Type 0 = λ m. b < 2 ^ m in subst P lengths (number-lt (edge_value v) c.args.b.now)) in
    let x : number_of v c.deref.result.now ≡ size s n a = ap (number_of v) c.deref.ensures.value ∙ c.in_ok-size_a.ensures.value v after_a in
    let y : number_of v c.deref-2.result.now ≡ size t n b =
    ap (number_of v) c.deref-2.ensures.value ∙ c.in_ok-size_b.ensures.value v after_b ∙ ap (λ m. size t m b) lengths in
    let width : length c.deref.result.now ≡ n = ap length c.deref.ensures.value ∙ c.in_ok-size_a.ensures.length in
    let m = remainder false n (size s n a) (size t n b) in
    signed_remainder n s t a b (size s n a) (size t n b) m (number_of v r.1.items)
    (size_of s n a s_is small_a) refl (size_of t n b t_is small_b) refl
    (f v h ∙ (λ i. size s (width i) (remainder false (width i) (x i) (y i)))))
    c.divide_sizes.ensures.remainder
