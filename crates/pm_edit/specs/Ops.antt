-- The steps of an op, and how a call answers with them.
use Rattle.std.specs.Prelude.{◌≡◌, List, [], ◌∷◌, map, Vec, Result, Ok, Err, IfSome}
use Rattle.std.specs.declared.alloc.Global.{Global}
use Rattle.pm_change.specs.declared.no_step.NoStep.{NoStep}
use Rattle.pm_change.specs.declared.no_step.MakeError.{MakeError}
use Rattle.pm_change.specs.declared.no_step.MakeError.TheVariants.{NoStep as NoneMade, NoMemory}
use Rattle.pm_value.specs.Views.{plain}
use Rattle.pm_tokens.specs.Tokens.{Doc}
use Rattle.pm_text.specs.Units.{utf16}
use Rattle.pm_node.specs.Trees.{node_tokens}
use Rattle.pm_tokens.specs.Schemas as documents
use Rattle.pm_meaning.specs.Steps as steps
use Rattle.pm_meaning.specs.Outcomes.{outcome}
use Rattle.pm_step.specs.declared.step.Step.{Step}
use Rattle.pm_step.specs.Steps.{step_of}
use Rattle.pm_schema.specs.declared.schema.Schema.{Schema}
use Rattle.pm_ops.specs.declared.op.Op.{Op}
use Rattle.pm_ops.specs.declared.op.Op.TheVariants as op
use Rattle.pm_edit.specs.declared.edited.Edited.{Edited}
use Rattle.pm_edit.specs.Edits.{Answer, insert_text, delete, paste, insert_node, split, join, wrap, lift, set_type, add_mark, remove_mark, set_attr, set_doc_attr}

-- the step of an op on a document, or why there is none
abbrev pub answer_of : Schema → Doc → Op → Answer
answer_of s d (op.InsertText from to text) = insert_text s d from to (utf16 text)
answer_of s d (op.Delete from to) = delete s d from to
answer_of s d (op.Paste from to slice) = paste s d from to slice
answer_of s d (op.InsertNode pos node) = insert_node s d pos (node_tokens node)
answer_of s d (op.Split pos depth) = split d pos depth
answer_of s d (op.Join pos depth) = join d pos depth
answer_of s d (op.Wrap from to kind attrs) = wrap s d from to kind attrs
answer_of s d (op.Lift pos) = lift d pos
answer_of s d (op.SetType pos kind attrs) = set_type s d pos kind attrs
answer_of s d (op.AddMark from to mark) = add_mark d from to mark
answer_of s d (op.RemoveMark from to mark) = remove_mark d from to mark
answer_of s d (op.SetAttr pos attr value) = set_attr d pos attr (plain value)
answer_of s d (op.SetDocAttr attr value) = set_doc_attr attr (plain value)
answer_of s d (op.Step step) = Ok (step_of step)

-- a list of this one step
abbrev pub one : Answer → Result (List steps.Step) NoStep
one (Ok step) = Ok (step ∷ [])
one (Err reason) = Err reason

-- the steps of an op on a document: exactly one, or why there is none
unfoldable pub steps_of : Schema → Doc → Op → Result (List steps.Step) NoStep
steps_of s d o = one (answer_of s d o)

-- the call gave this very step, or told this very reason why there is none, or memory ran out
abbrev pub Answers : Answer → Result Step MakeError → Type 0
Answers answer (Ok step) = answer ≡ Ok (step_of step)
Answers answer (Err (NoneMade reason)) = answer ≡ Err reason
Answers answer (Err NoMemory) = Unit {0}

-- the same of a step that comes with its document
abbrev pub AnswersEdited : Answer → Result Edited MakeError → Type 0
AnswersEdited answer (Ok edited) = answer ≡ Ok (step_of edited.step)
AnswersEdited answer (Err (NoneMade reason)) = answer ≡ Err reason
AnswersEdited answer (Err NoMemory) = Unit {0}

-- so that this very step is the list
abbrev pub AnswersOne : Result (List steps.Step) NoStep → Result Edited MakeError → Type 0
AnswersOne answer (Ok edited) = answer ≡ Ok (step_of edited.step ∷ [])
AnswersOne answer (Err (NoneMade reason)) = answer ≡ Err reason
AnswersOne answer (Err NoMemory) = Unit {0}

-- where there is a document, it is what the step makes of this one
abbrev pub Makes : documents.Schema → Doc → Edited → Type 0
Makes s d edited = IfSome edited.doc (λ next. outcome s (step_of edited.step) d ≡ Ok next)

-- the same of lists of steps
abbrev pub AnswersList : Result (List steps.Step) NoStep → Result (Vec Step Global) MakeError → Type 0
AnswersList answer (Ok made) = answer ≡ Ok (map step_of made.items)
AnswersList answer (Err (NoneMade reason)) = answer ≡ Err reason
AnswersList answer (Err NoMemory) = Unit {0}
