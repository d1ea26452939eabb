use Rattle.serde_json.specs.View.{view}
use Rattle.pm_docjson.proofs.WholeTexts.{text-is, text-reads}
use Rattle.pm_step.specs.Steps.{step_of}
use Rattle.pm_stepjson.specs.Writing.{step_written}
use Rattle.pm_stepjson.proofs.NoFloat.{step-whole}
use Rattle.pm_stepjson.proofs.StepLevels.{step-deep}
use Rattle.pm_stepjson.proofs.StepOrder.{step-ordered}
use Rattle.pm_stepjson.proofs.StepsBack.{step-back}
use Rattle.pm_stepjson.proofs.texts.step_text.Goals as goal

pub returns-clause-text : goal.returns-clause-text
returns-clause-text c =
    let s = c.args.schema.now.spec in
    let st = step_of c.args.step.now in
    text-is (view c.in_ok-value.value) (step_written s st) c.to_string.result c.in_ok-value.ensures.written (step-whole s st) c.to_string.ensures.text

pub returns-clause-read : goal.returns-clause-read
returns-clause-read c =
    let s = c.args.schema.now.spec in
    let st = step_of c.args.step.now in
    text-reads (view c.in_ok-value.value) (step_written s st) c.to_string.result c.in_ok-value.ensures.written c.to_string.ensures.reads_back

pub returns-clause-whole : goal.returns-clause-whole
returns-clause-whole c = step-whole c.args.schema.now.spec (step_of c.args.step.now)

pub returns-in_err-value-clause-whole : goal.returns-in_err-value-clause-whole
returns-in_err-value-clause-whole c = step-whole c.args.schema.now.spec (step_of c.args.step.now)

pub returns-clause-shallow : goal.returns-clause-shallow
returns-clause-shallow c = step-deep c.args.schema.now.spec (step_of c.args.step.now)

pub returns-in_err-value-clause-shallow : goal.returns-in_err-value-clause-shallow
returns-in_err-value-clause-shallow c = step-deep c.args.schema.now.spec (step_of c.args.step.now)

pub returns-clause-ordered : goal.returns-clause-ordered
returns-clause-ordered c = step-ordered c.args.schema.now.spec (step_of c.args.step.now)

pub returns-in_err-value-clause-ordered : goal.returns-in_err-value-clause-ordered
returns-in_err-value-clause-ordered c = step-ordered c.args.schema.now.spec (step_of c.args.step.now)

pub returns-clause-back : goal.returns-clause-back
returns-clause-back c =
    let s = c.args.schema.now.spec in
    let st = step_of c.args.step.now in
    step-back s st (view c.in_ok-value.value) c.to_string.result c.in_ok-value.ensures.written
    (text-reads (view c.in_ok-value.value) (step_written s st) c.to_string.result c.in_ok-value.ensures.written c.to_string.ensures.reads_back)
    c.in_ok-value.ensures.again
