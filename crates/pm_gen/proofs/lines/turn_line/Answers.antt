use Rattle.pm_gen.proofs.lines.turn_line.Goals as goal

pub returns-in-Text : goal.returns-in-Text
returns-in-Text c = rw c.in-Text.is (rw c.from.ensures at c.typed_line.ensures)

pub returns-in-Undo : goal.returns-in-Undo
returns-in-Undo c = rw c.in-Undo.is c.bare_line.ensures

pub returns-in-Redo : goal.returns-in-Redo
returns-in-Redo c = rw c.in-Redo.is c.bare_line-in-Redo.ensures

pub returns-in-Pull : goal.returns-in-Pull
returns-in-Pull c = rw c.in-Pull.is c.bare_line-in-Pull.ensures
