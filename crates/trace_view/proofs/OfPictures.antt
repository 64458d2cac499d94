-- A picture is well-formed.
use Rattle.std.proofs.Common.{◌≡◌, ℕ, zero, suc, ◌+◌, ◌*◌, ◌-◌, ◌/◌, ◌%◌, Bool, true, false, not, cond, List, [], ◌∷◌, ◌++◌, length, codes, Option, None, Some, refl, ap, ◌∙◌, arith}
use lib.Dec.{eqb}
use Rattle.std.specs.Prelude.{◌||◌, fold}
use Rattle.std.specs.Char.{is_ascii_digit}
use Rattle.std.specs.Fmt.{decimal, digit_glyph, digits, digits_onto}
use Rattle.std.specs.List.{list_all}
use Rattle.std.specs.Str.{chars}
use Rattle.std.proofs.lemmas.Bool.{and_from, and_parts}
use Rattle.std.proofs.lemmas.Bool.Decides.{nat_tests}
use Rattle.std.proofs.lemmas.Grind.{fold-append}
use Rattle.trace_lines.specs.declared.entry.Binding.{Binding}
use Rattle.trace_lines.specs.declared.trace.Trace.{Trace}
use Rattle.trace_lines.specs.Reading.{head_row}
use Rattle.trace_table.specs.declared.kinds.Kind.{Kind}
use Rattle.trace_table.specs.declared.kinds.Kind.TheVariants.{Bit, Bits, Number, Symbol}
use Rattle.trace_table.specs.Cells.{shown, value_at}
use Rattle.trace_table.specs.Kinds.{column_kind}
use Rattle.trace_table.specs.Table.{time, title}
use Rattle.trace_view.specs.declared.svg.Grid.{Grid}
use Rattle.trace_view.specs.Svg as svg
use Rattle.trace_view.specs.WellFormed.{Attributes, Content, Scan, Value, step}
use Rattle.trace_view.proofs.OfSvg.{chars_plain}

abbrev run : Scan → List ℕ → Scan
run q text = fold step q text

behind : (q r t : Scan) (xs ys : List ℕ) → run q xs ≡ r → run r ys ≡ t → run q (xs ++ ys) ≡ t
behind q r t xs ys e f = fold-append step q xs ys ∙ ap (λ (z : Scan). run z ys) e ∙ f

-- Between tags.

content_step : (b : ℕ) (o : List (List ℕ)) → svg.is_plain b ≡ true → step (Content o) b ≡ Content o
content_step b o h = go (eqb b 60) (eqb b 62) h
  where
    go : (x y : Bool) → not (x || y) ≡ true → cond x (step (Content o) 60) (cond y (step (Content o) 62) (Content o)) ≡ Content o
    go true y k = absurd (let never : ⊥ = cc in never)
    go false true k = absurd (let never : ⊥ = cc in never)
    go false false k = refl

content_kept : (text : List ℕ) (o : List (List ℕ)) → list_all svg.is_plain text ≡ true → run (Content o) text ≡ Content o
content_kept [] o h = refl
content_kept (b ∷ bs) o h =
    let both = and_parts (svg.is_plain b) (list_all svg.is_plain bs) h in
    ap (λ (z : Scan). run z bs) (content_step b o both.0) ∙ content_kept bs o both.1

escaped_kept : (text : List ℕ) (o : List (List ℕ)) → run (Content o) (svg.escaped text) ≡ Content o
escaped_kept text o = content_kept (svg.escaped text) o (chars_plain (chars text))

-- Numbers in values.

chosen : (p : ℕ → Bool) (b : Bool) (xs ys : List ℕ) → list_all p xs ≡ true → list_all p ys ≡ true → list_all p (cond b xs ys) ≡ true
chosen p true xs ys h k = h
chosen p false xs ys h k = k

glyph_digit : (n : ℕ) → is_ascii_digit (digit_glyph false (n % 10)) ≡ true
glyph_digit n = grind (arith, nat_tests)

onto_digits : (k n : ℕ) (acc : List ℕ) → list_all is_ascii_digit acc ≡ true → list_all is_ascii_digit (digits_onto k 10 false n acc) ≡ true
onto_digits zero n acc h = h
onto_digits (suc k) n acc h =
    let more = and_from (is_ascii_digit (digit_glyph false (n % 10))) (list_all is_ascii_digit acc) (glyph_digit n) h in
    chosen is_ascii_digit (eqb (n / 10) 0) (digit_glyph false (n % 10) ∷ acc) (digits_onto k 10 false (n / 10) (digit_glyph false (n % 10) ∷ acc)) more (onto_digits k (n / 10) (digit_glyph false (n % 10) ∷ acc) more)

decimal_digits : (n : ℕ) → list_all is_ascii_digit (decimal n) ≡ true
unfolding digits
decimal_digits n = onto_digits 64 n [] refl

value_step : (b : ℕ) (name : List ℕ) (o : List (List ℕ)) → is_ascii_digit b ≡ true → step (Value name o) b ≡ Value name o
value_step b name o h =
    let quote : eqb b 39 ≡ false = grind (arith, h, nat_tests) in
    let tag : eqb b 60 ≡ false = grind (arith, h, nat_tests) in
    ap (λ (x : Bool). cond x (Attributes name o) (cond (eqb b 60) (step (Content o) 62) (Value name o))) quote
    ∙ ap (λ (x : Bool). cond x (step (Content o) 62) (Value name o)) tag

digits_kept : (ds : List ℕ) (name : List ℕ) (o : List (List ℕ)) → list_all is_ascii_digit ds ≡ true → run (Value name o) ds ≡ Value name o
digits_kept [] name o h = refl
digits_kept (b ∷ bs) name o h =
    let both = and_parts (is_ascii_digit b) (list_all is_ascii_digit bs) h in
    ap (λ (z : Scan). run z bs) (value_step b name o both.0) ∙ digits_kept bs name o both.1

number_kept : (n : ℕ) (name : List ℕ) (o : List (List ℕ)) → run (Value name o) (decimal n) ≡ Value name o
number_kept n name o = digits_kept (decimal n) name o (decimal_digits n)

-- Elements.

text_kept : (x y : ℕ) (text : List ℕ) (o : List (List ℕ)) → run (Content o) (svg.text_at x y text) ≡ Content o
text_kept x y text o =
    let n : List ℕ = codes "text" in
    let v : Scan = Value n o in
    let inside : Scan = Content (n ∷ o) in
    let a : List ℕ = codes "<text x='" ++ decimal x in
    let b : List ℕ = a ++ codes "' y='" in
    let c : List ℕ = b ++ decimal y in
    let d : List ℕ = c ++ codes "'>" in
    let e : List ℕ = d ++ svg.escaped text in
    behind (Content o) inside (Content o) e (codes "</text>\n")
    (behind (Content o) inside inside d (svg.escaped text)
    (behind (Content o) v inside c (codes "'>")
    (behind (Content o) v v b (decimal y)
    (behind (Content o) v v a (codes "' y='") (behind (Content o) v v (codes "<text x='") (decimal x) refl (number_kept x n o)) refl)
    (number_kept y n o)) refl) (escaped_kept text (n ∷ o))) refl

shade_kept : (x width height : ℕ) (o : List (List ℕ)) → run (Content o) (svg.shade x width height) ≡ Content o
shade_kept x width height o =
    let n : List ℕ = codes "rect" in
    let v : Scan = Value n o in
    let a : List ℕ = codes "<rect x='" ++ decimal x in
    let b : List ℕ = a ++ codes "' width='" in
    let c : List ℕ = b ++ decimal width in
    let d : List ℕ = c ++ codes "' height='" in
    let e : List ℕ = d ++ decimal height in
    behind (Content o) v (Content o) e (codes "' fill='#fd8'/>\n")
    (behind (Content o) v v d (decimal height)
    (behind (Content o) v v c (codes "' height='")
    (behind (Content o) v v b (decimal width)
    (behind (Content o) v v a (codes "' width='") (behind (Content o) v v (codes "<rect x='") (decimal x) refl (number_kept x n o)) refl)
    (number_kept width n o)) refl) (number_kept height n o)) refl

-- Paths.

abbrev in_path : List (List ℕ) → Scan
in_path o = Value (codes "path") o

start_kept : (g : Grid) (y : ℕ) (o : List (List ℕ)) → run (in_path o) (svg.start_text g y) ≡ in_path o
start_kept g y o =
    let v = in_path o in
    let a : List ℕ = codes "M" ++ decimal g.left in
    behind v v v (a ++ codes " ") (decimal y) (behind v v v a (codes " ") (behind v v v (codes "M") (decimal g.left) refl (number_kept g.left (codes "path") o)) refl) (number_kept y (codes "path") o)

level_kept : (rows : List (List Binding)) (g : Grid) (y j i : ℕ) (o : List (List ℕ)) → run (in_path o) (svg.level_text rows g y j i) ≡ in_path o
level_kept rows g y j i o =
    let v = in_path o in
    let height : ℕ = y + svg.level (value_at rows i j) in
    let x : ℕ = svg.x_of g i + g.step in
    let a : List ℕ = codes "V" ++ decimal height in
    behind v v v (a ++ codes "H") (decimal x) (behind v v v a (codes "H") (behind v v v (codes "V") (decimal height) refl (number_kept height (codes "path") o)) refl) (number_kept x (codes "path") o)

levels_kept : (rows : List (List Binding)) (g : Grid) (y j i : ℕ) (ss : List (List Binding)) (o : List (List ℕ)) → run (in_path o) (svg.levels_text rows g y j i ss) ≡ in_path o
levels_kept rows g y j i [] o = refl
levels_kept rows g y j i (s ∷ ss) o =
    behind (in_path o) (in_path o) (in_path o) (svg.level_text rows g y j i) (svg.levels_text rows g y j (i + 1) ss) (level_kept rows g y j i o) (levels_kept rows g y j (i + 1) ss o)

line_kept : (t : Trace) (rows : List (List Binding)) (g : Grid) (y j : ℕ) (o : List (List ℕ)) → run (Content o) (svg.line_wave t rows g y j) ≡ Content o
line_kept t rows g y j o =
    let v = in_path o in
    let first : List ℕ = svg.start_text g (y + svg.level (value_at rows 0 j)) in
    let levels : List ℕ = svg.levels_text rows g y j 0 t.states in
    behind (Content o) v (Content o) (svg.path_begin ++ first ++ levels) svg.path_end
    (behind (Content o) v v (svg.path_begin ++ first) levels (behind (Content o) v v svg.path_begin first refl (start_kept g (y + svg.level (value_at rows 0 j)) o)) (levels_kept rows g y j 0 t.states o))
    refl

either_kept : (q : Scan) (b : Bool) (xs ys : List ℕ) → run q xs ≡ q → run q ys ≡ q → run q (cond b xs ys) ≡ q
either_kept q true xs ys h k = h
either_kept q false xs ys h k = k

edge_kept : (rows : List (List Binding)) (g : Grid) (y j i : ℕ) (o : List (List ℕ)) → run (in_path o) (svg.edge_text rows g y j i) ≡ in_path o
edge_kept rows g y j i o =
    let v = in_path o in
    let x : ℕ = svg.x_of g i in
    let a : List ℕ = codes "M" ++ decimal x in
    let b : List ℕ = a ++ codes " " in
    let c : List ℕ = b ++ decimal (y + 4) in
    either_kept v (svg.is_old rows i j) [] (c ++ codes "v16") refl
    (behind v v v c (codes "v16") (behind v v v b (decimal (y + 4)) (behind v v v a (codes " ") (behind v v v (codes "M") (decimal x) refl (number_kept x (codes "path") o)) refl) (number_kept (y + 4) (codes "path") o)) refl)

edges_kept : (rows : List (List Binding)) (g : Grid) (y j i : ℕ) (ss : List (List Binding)) (o : List (List ℕ)) → run (in_path o) (svg.edges_text rows g y j i ss) ≡ in_path o
edges_kept rows g y j i [] o = refl
edges_kept rows g y j i (s ∷ ss) o =
    behind (in_path o) (in_path o) (in_path o) (svg.edge_text rows g y j i) (svg.edges_text rows g y j (i + 1) ss) (edge_kept rows g y j i o) (edges_kept rows g y j (i + 1) ss o)

rail_kept : (t : Trace) (g : Grid) (y : ℕ) (o : List (List ℕ)) → run (in_path o) (svg.rail_text t g y) ≡ in_path o
rail_kept t g y o =
    let v = in_path o in
    let x : ℕ = svg.x_of g (length t.states) in
    let a : List ℕ = svg.start_text g y in
    behind v v v (a ++ codes "H") (decimal x) (behind v v v a (codes "H") (start_kept g y o) refl) (number_kept x (codes "path") o)

bus_path_kept : (t : Trace) (rows : List (List Binding)) (g : Grid) (y j : ℕ) (o : List (List ℕ)) → run (Content o) (svg.bus_path t rows g y j) ≡ Content o
bus_path_kept t rows g y j o =
    let v = in_path o in
    let rails : List ℕ = svg.rails_text t g y in
    let edges : List ℕ = svg.edges_text rows g y j 0 t.states in
    let rails_kept : run v rails ≡ v = behind v v v (svg.rail_text t g (y + 4)) (svg.rail_text t g (y + 20)) (rail_kept t g (y + 4) o) (rail_kept t g (y + 20) o) in
    behind (Content o) v (Content o) (svg.path_begin ++ rails ++ edges) svg.path_end
    (behind (Content o) v v (svg.path_begin ++ rails) edges (behind (Content o) v v svg.path_begin rails refl rails_kept) (edges_kept rows g y j 0 t.states o))
    refl

-- Rows.

both_kept : (q : Scan) (xs ys : List ℕ) → run q xs ≡ q → run q ys ≡ q → run q (xs ++ ys) ≡ q
both_kept q xs ys h k = behind q q q xs ys h k

labels_kept : (rows : List (List Binding)) (g : Grid) (y j i : ℕ) (ss : List (List Binding)) (o : List (List ℕ)) → run (Content o) (svg.labels_text rows g y j i ss) ≡ Content o
labels_kept rows g y j i [] o = refl
labels_kept rows g y j i (s ∷ ss) o =
    let label = text_kept (svg.x_of g i + 6) (y + 17) (shown (value_at rows i j)) o in
    both_kept (Content o) (svg.label_text rows g y j i) (svg.labels_text rows g y j (i + 1) ss)
    (either_kept (Content o) (svg.is_old rows i j) [] (svg.text_at (svg.x_of g i + 6) (y + 17) (shown (value_at rows i j))) refl label) (labels_kept rows g y j (i + 1) ss o)

bus_kept : (t : Trace) (rows : List (List Binding)) (g : Grid) (y j : ℕ) (o : List (List ℕ)) → run (Content o) (svg.bus_wave t rows g y j) ≡ Content o
bus_kept t rows g y j o = both_kept (Content o) (svg.bus_path t rows g y j) (svg.labels_text rows g y j 0 t.states) (bus_path_kept t rows g y j o) (labels_kept rows g y j 0 t.states o)

wave_kept : (t : Trace) (rows : List (List Binding)) (g : Grid) (k : Kind) (y j : ℕ) (o : List (List ℕ)) → run (Content o) (svg.wave t rows g k y j) ≡ Content o
unfolding svg.wave
wave_kept t rows g Bit y j o = line_kept t rows g y j o
wave_kept t rows g (Bits w) y j o = bus_kept t rows g y j o
wave_kept t rows g Number y j o = bus_kept t rows g y j o
wave_kept t rows g Symbol y j o = bus_kept t rows g y j o

rows_kept : (t : Trace) (rows : List (List Binding)) (g : Grid) (top j : ℕ) (bs : List Binding) (o : List (List ℕ)) → run (Content o) (svg.rows_text t rows g top j bs) ≡ Content o
rows_kept t rows g top j [] o = refl
rows_kept t rows g top j (b ∷ bs) o =
    let y : ℕ = top + 24 * j in
    both_kept (Content o) (svg.row_text t rows g y j b.name) (svg.rows_text t rows g top (j + 1) bs)
    (both_kept (Content o) (svg.text_at 8 (y + 17) b.name) (svg.wave t rows g (column_kind rows j) y j) (text_kept 8 (y + 17) b.name o) (wave_kept t rows g (column_kind rows j) y j o))
    (rows_kept t rows g top (j + 1) bs o)

times_kept : (t : Trace) (g : Grid) (i : ℕ) (ss : List (List Binding)) (o : List (List ℕ)) → run (Content o) (svg.times_text t g i ss) ≡ Content o
times_kept t g i [] o = refl
times_kept t g i (s ∷ ss) o =
    both_kept (Content o) (svg.text_at (svg.x_of g i + 6) 17 (time t i)) (svg.times_text t g (i + 1) ss) (text_kept (svg.x_of g i + 6) 17 (time t i) o) (times_kept t g (i + 1) ss o)

loop_kept : (t : Trace) (g : Grid) (start : Option ℕ) (o : List (List ℕ)) → run (Content o) (svg.loop_shade t g start) ≡ Content o
loop_kept t g None o = refl
loop_kept t g (Some start) o = shade_kept (svg.x_of g start) (g.step * (length t.states - start)) (svg.bottom t) o

-- The whole.

abbrev in_root : Scan
in_root = Content (codes "svg" ∷ [])

size_read : (width height : ℕ) → run (Attributes (codes "svg") []) (svg.size_text width height) ≡ in_root
size_read width height =
    let n : List ℕ = codes "svg" in
    let v : Scan = Value n [] in
    let q : Scan = Attributes n [] in
    let a : List ℕ = codes "width='" ++ decimal width in
    let b : List ℕ = a ++ codes "' height='" in
    let c : List ℕ = b ++ decimal height in
    behind q v in_root c (codes "'>\n")
    (behind q v v b (decimal height) (behind q v v a (codes "' height='") (behind q v v (codes "width='") (decimal width) refl (number_kept width n [])) refl) (number_kept height n []))
    refl

root_read : run (Content []) svg.root_text ≡ Attributes (codes "svg") []
unfolding svg.root_text
root_read = refl

style_kept : run in_root svg.style_text ≡ in_root
unfolding svg.style_text
style_kept = refl

head_read : (t : Trace) (g : Grid) → run (Content []) (svg.head_text t g) ≡ in_root
unfolding svg.head_text
head_read t g =
    let width : ℕ = svg.x_of g (length t.states) + 8 in
    let height : ℕ = svg.bottom t + 8 in
    let o : List (List ℕ) = codes "svg" ∷ [] in
    let a : List ℕ = svg.root_text ++ svg.size_text width height in
    let b : List ℕ = a ++ svg.style_text in
    let c : List ℕ = b ++ svg.loop_shade t g t.start in
    let d : List ℕ = c ++ svg.text_at 8 17 (title t) in
    behind (Content []) in_root in_root d (svg.times_text t g 0 t.states)
    (behind (Content []) in_root in_root c (svg.text_at 8 17 (title t))
    (behind (Content []) in_root in_root b (svg.loop_shade t g t.start)
    (behind (Content []) in_root in_root a svg.style_text
    (behind (Content []) (Attributes (codes "svg") []) in_root svg.root_text (svg.size_text width height) root_read (size_read width height)) style_kept)
    (loop_kept t g t.start o)) (text_kept 8 17 (title t) o)) (times_kept t g 0 t.states o)

pub well_formed : (t : Trace) → run (Content []) (svg.svg_text t) ≡ Content []
unfolding svg.svg_text
well_formed t =
    let g = svg.grid_of t in
    let o : List (List ℕ) = codes "svg" ∷ [] in
    let a : List ℕ = svg.head_text t g ++ svg.states_text t g in
    behind (Content []) in_root (Content []) (a ++ svg.inputs_text t g) (codes "</svg>\n")
    (behind (Content []) in_root in_root a (svg.inputs_text t g)
    (behind (Content []) in_root in_root (svg.head_text t g) (svg.states_text t g) (head_read t g) (rows_kept t t.states g svg.states_top 0 (head_row t.states) o))
    (rows_kept t t.inputs g (svg.inputs_top t) 0 (head_row t.inputs) o))
    refl
