-- Operators over parts.
use Rattle.smv_formulas.proofs.OfPieces.{apply_piece, apply_sound, constant_sound, link_piece, link_sound, named_sound, next_sound, same_sound, slot_sound, whole_sound}
use Rattle.smv_formulas.proofs.pieces.marked_piece.Goals as goal

pub returns-in-Apply-clause-piece : goal.returns-in-Apply-clause-piece
returns-in-Apply-clause-piece c = λ parts long h.
    apply_piece parts c.args.node _ c.in-Apply.operator c.form_of.result c.form_of.ensures c.args.k c.in-Apply.count c.saturating_sub-left.result
    c.in-Apply.is c.saturating_sub-left.ensures long h

pub returns-in-Link-clause-piece : goal.returns-in-Link-clause-piece
returns-in-Link-clause-piece c = λ parts long h.
    link_piece parts c.args.node _ c.in-Link.operator c.form_of-in-Link.result c.form_of-in-Link.ensures c.in-Link.a c.in-Link.b c.in-Link.is h

pub returns-in-Apply-clause-sound : goal.returns-in-Apply-clause-sound
returns-in-Apply-clause-sound c = λ parts long h.
    apply_sound parts c.args.node _ c.in-Apply.operator c.form_of.result c.form_of.ensures c.args.k c.in-Apply.count c.saturating_sub-left.result
    c.in-Apply.is c.saturating_sub-left.ensures long

pub returns-in-Link-clause-sound : goal.returns-in-Link-clause-sound
returns-in-Link-clause-sound c = λ parts long h.
    link_sound parts c.args.node _ c.in-Link.operator c.form_of-in-Link.result c.form_of-in-Link.ensures c.in-Link.a c.in-Link.b c.in-Link.is

pub returns-in-Named-clause-sound : goal.returns-in-Named-clause-sound
returns-in-Named-clause-sound c = λ parts long h. named_sound parts c.args.node _ _ c.in-Named.a c.in-Named.is h

pub returns-in-Operand-clause-sound : goal.returns-in-Operand-clause-sound
returns-in-Operand-clause-sound c = λ parts long h. same_sound parts c.args.node c.in-Operand.a c.in-Operand.is

pub returns-in-Constant-clause-sound : goal.returns-in-Constant-clause-sound
returns-in-Constant-clause-sound c = λ parts long h. constant_sound parts c.args.node _ _ c.in-Constant.is

pub returns-in-Slot-clause-sound : goal.returns-in-Slot-clause-sound
returns-in-Slot-clause-sound c = λ parts long h. slot_sound parts c.args.node _ _ c.in-Slot.is

pub returns-in-Whole-clause-sound : goal.returns-in-Whole-clause-sound
returns-in-Whole-clause-sound c = λ parts long h. whole_sound parts c.args.node _ _ c.in-Whole.is

pub returns-in-Next-clause-sound : goal.returns-in-Next-clause-sound
returns-in-Next-clause-sound c = λ parts long h. next_sound parts c.args.node _ _ c.in-Next.is
