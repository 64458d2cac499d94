-- Pieces by their marks.
use Rattle.std.proofs.Common.{◌≡◌, take, slice_get, Some, None}
use Rattle.smv_formulas.proofs.OfPieces.{no_piece, some_piece, some_sound, unmarked_piece, unmarked_sound}
use Rattle.smv_formulas.proofs.pieces.piece_at.Goals as goal

pub returns-in_default-clause-piece : goal.returns-in_default-clause-piece
returns-in_default-clause-piece c =
    let none : slice_get (take c.args.limit c.args.nodes.now) c.args.k ≡ None = cc in
    no_piece c.args.nodes.now c.args.limit c.args.k c.requires.inside none

pub returns-then-mark_at-clause-piece : goal.returns-then-mark_at-clause-piece
returns-then-mark_at-clause-piece c =
    let here : slice_get (take c.args.limit c.args.nodes.now) c.args.k ≡ Some c.in-Some.node = cc in
    some_piece c.args.nodes.now c.args.limit c.args.k c.requires.inside c.in-Some.node here c.args.marks.now c.requires.marked
    c.mark_at.result c.mark_at.ensures c.marked_piece.result c.if-mark_at.true c.marked_piece.ensures.piece

pub returns-else-mark_at-clause-piece : goal.returns-else-mark_at-clause-piece
returns-else-mark_at-clause-piece c =
    let here : slice_get (take c.args.limit c.args.nodes.now) c.args.k ≡ Some c.in-Some.node = cc in
    unmarked_piece c.args.nodes.now c.args.limit c.args.k c.requires.inside c.in-Some.node here c.args.marks.now c.requires.marked
    c.mark_at.result c.mark_at.ensures c.if-mark_at.false

pub returns-then-mark_at-clause-sound : goal.returns-then-mark_at-clause-sound
returns-then-mark_at-clause-sound c =
    let here : slice_get (take c.args.limit c.args.nodes.now) c.args.k ≡ Some c.in-Some.node = cc in
    some_sound c.args.nodes.now c.args.limit c.args.k c.requires.inside c.in-Some.node here c.args.marks.now c.requires.marked
    c.mark_at.result c.mark_at.ensures c.marked_piece.result c.if-mark_at.true c.marked_piece.ensures.sound

pub returns-else-mark_at-clause-sound : goal.returns-else-mark_at-clause-sound
returns-else-mark_at-clause-sound c =
    let here : slice_get (take c.args.limit c.args.nodes.now) c.args.k ≡ Some c.in-Some.node = cc in
    unmarked_sound c.args.nodes.now c.args.limit c.args.k c.requires.inside c.in-Some.node here c.args.marks.now c.requires.marked
    c.mark_at.result c.mark_at.ensures c.if-mark_at.false
