-- Words that tell the levels of lemmas, and which are live: one word for each four lemmas.
use Rattle.std.specs.Prelude.{◌≡◌, ◌≢◌, ℕ, ◌+◌, ◌*◌, ◌^◌, ◌<◌, ◌/◌, ◌%◌, Bool, true, false, List, slice_index}
use Rattle.frame_core.specs.declared.parts.Lemma.{Lemma}
use Rattle.frame_core.specs.FrameLaw.{lemma_at}

-- 1 for a live lemma
abbrev pub live_bit : Bool → ℕ
live_bit true = 1
live_bit false = 0

-- the level, and whether the lemma is live, as one number
abbrev pub mark_of : Lemma → ℕ
mark_of l = 2 * l.level + live_bit l.live

-- part i of a word, of 16 bits
abbrev pub part_of : ℕ → ℕ → ℕ
part_of word i = word / 65536 ^ i % 65536

-- the word has the marks of the four lemmas from this one on
abbrev pub HasMarks : List Lemma → ℕ → ℕ → Type 0
HasMarks lemmas first word = (i : ℕ) → i < 4 → part_of word i ≡ mark_of (lemma_at lemmas (first + i))

-- each word has the marks of its four lemmas, or is 0 and tells nothing; where there is no word it is the same as with 0
abbrev pub AreMarked : List Lemma → List ℕ → Type 0
AreMarked lemmas words = (g : ℕ) → 0 < slice_index words g → HasMarks lemmas (4 * g) (slice_index words g)

-- but for lemma n the lemmas are the same
abbrev pub AreSameBut : ℕ → List Lemma → List Lemma → Type 0
AreSameBut n old new = (m : ℕ) → m ≢ n → lemma_at new m ≡ lemma_at old m
