use Rattle.std.proofs.Common.{◌≡◌, ◌<◌, [], length, get_or, set, sym, ap, ◌∙◌, arith}
use Rattle.std.proofs.lemmas.List.{length-map, get_or-map}
use Rattle.sat_prop.specs.Words.{literal_of}
use Rattle.sat_prop.specs.Packing.{row_at, rows_at}
use Rattle.sat_prop.proofs.Packed.{rows_set, literal_cell, row_length}
use Rattle.sat_prop.proofs.rows.Rows.put.Goals as goal

pub returns : goal.returns
returns c =
    let words = c.self.inside.words.items in
    let spans = c.self.inside.spans.items in
    let k = c.args.k in
    let i = c.args.i in
    let l = c.args.l in
    let s = c.index.result.now in
    let R = rows_at words spans in
    let view : R ≡ c.args.self.now = c.self.view_is in
    let lk : k < length spans = omega (arith, c.requires.row, ap length view, length-map spans (row_at words)) in
    let es : s ≡ get_or spans k s = c.index.ensures in
    let here : get_or R k [] ≡ row_at words s = get_or-map (row_at words) spans k s [] lk ∙ ap (row_at words) (sym es) in
    let li : i < s.len = row_length words s i (get_or c.args.self.now k []) (sym (ap (λ v. get_or v k []) view) ∙ here) c.requires.place in
    let e = rows_set words spans k i c.word_of.result s lk es li c.self.invariant.1 in
    let back : literal_of c.word_of.result ≡ l = ap literal_of c.word_of.ensures ∙ literal_cell l in
    e ∙ ap (λ x. set R k (set (row_at words s) i x)) back ∙ ap (λ x. set R k (set x i l)) (sym here) ∙ ap (λ v. set v k (set (get_or v k []) i l)) view
