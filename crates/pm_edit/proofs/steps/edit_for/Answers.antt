use Rattle.std.proofs.Common.{subst}
use Rattle.pm_text.specs.Units.{utf16}
use Rattle.pm_ops.specs.declared.op.Op.TheVariants.{InsertText, Delete, Paste, InsertNode}
use Rattle.pm_edit.specs.Edits.{insert_text}
use Rattle.pm_edit.specs.Ops.{AnswersEdited}
use Rattle.pm_edit.proofs.AnswerLaws.{op-one, found-one, none-one}
use Rattle.pm_edit.proofs.steps.edit_for.Goals as goal

pub returns-in-InsertText-clause-steps : goal.returns-in-InsertText-clause-steps
returns-in-InsertText-clause-steps c =
    let s = c.args.schema.now in
    let d = c.args.doc.now in
    let x = c.in-InsertText in
    op-one s d c.args.op.now (InsertText x.from x.to x.text) c.text_edited.result x.is
    (subst (λ t. AnswersEdited (insert_text s d x.from x.to (utf16 t)) c.text_edited.result) c.as_str.ensures c.text_edited.ensures.step)

pub returns-in-Delete-clause-steps : goal.returns-in-Delete-clause-steps
returns-in-Delete-clause-steps c =
    let x = c.in-Delete in
    op-one c.args.schema.now c.args.doc.now c.args.op.now (Delete x.from x.to) c.deletion_edited.result x.is c.deletion_edited.ensures.step

pub returns-in-Paste-clause-steps : goal.returns-in-Paste-clause-steps
returns-in-Paste-clause-steps c =
    let x = c.in-Paste in
    op-one c.args.schema.now c.args.doc.now c.args.op.now (Paste x.from x.to x.slice) c.paste_edited.result x.is c.paste_edited.ensures.step

pub returns-in-InsertNode-clause-steps : goal.returns-in-InsertNode-clause-steps
returns-in-InsertNode-clause-steps c =
    let x = c.in-InsertNode in
    op-one c.args.schema.now c.args.doc.now c.args.op.now (InsertNode x.pos x.node) c.node_edited.result x.is c.node_edited.ensures.step

pub returns-in-Ok : goal.returns-in-Ok
returns-in-Ok c = record { steps = found-one c.args.schema.now c.args.doc.now c.args.op.now c.in-Ok.step c.in-Ok.ensures; doc = tt }

pub returns-in-Err : goal.returns-in-Err
returns-in-Err c = record { steps = none-one c.args.schema.now c.args.doc.now c.args.op.now c.in-Err.error c.in-Err.ensures; doc = tt }
