-- What an op line says by a spec, it says by each spec with the same types.
use Rattle.std.proofs.Common.{◌≡◌, ℕ, ◌+◌, List, [], ◌∷◌, ◌++◌, refl}
use Rattle.std.specs.Prelude.{codes, nat_lt, Ok, Err, if◌then◌else◌}
use Rattle.serde_json.specs.Data.{Data, Items, no_items, item}
use Rattle.serde_json.specs.Find.{get, as_array}
use Rattle.pm_list.specs.Readings.{◌>>=◌, or_fault}
use Rattle.pm_schema.specs.declared.spec.SchemaSpec.{SchemaSpec}
use Rattle.pm_schema.specs.Names.{place_of}
use Rattle.pm_head.specs.declared.form.Form.{Form}
use Rattle.pm_head.specs.declared.code.Code.TheVariants.{TooManyLines, WrongShape, UnknownName}
use Rattle.pm_head.specs.OneMeaning.{HaveSameTypes}
use Rattle.pm_docjson.specs.declared.leaves.LeafContent.TheVariants.{Refused}
use Rattle.pm_docjson.specs.Fields.{field}
use Rattle.pm_head.specs.declared.clients.ClientEntry.{ClientEntry}
use Rattle.pm_head.specs.Lines.{json_line}
use Rattle.pm_head.proofs.SameNodes.{names-alike, node-attrs-alike, mark-of-alike, node-of-alike}
use Rattle.pm_ops.specs.declared.op.Op.{Op}
use Rattle.pm_ops.specs.declared.op.Op.TheVariants as op
use Rattle.pm_session.specs.declared.line.Act.TheVariants as act
use Rattle.pm_meaning.specs.Steps.{Step}
use Rattle.pm_session.specs.declared.line.Line.{Line}
use Rattle.pm_opjson.specs.declared.kinds.EditKind.{EditKind}
use Rattle.pm_opjson.specs.declared.kinds.EditKind.TheVariants as kind
use Rattle.pm_script.specs.declared.word.Word.{Word}
use Rattle.pm_script.specs.declared.word.Word.TheVariants as word
use Rattle.pm_opjson.specs.Codes.{coded, node_coded}
use Rattle.pm_opjson.specs.Fields.{text_in, number_in, event_in}
use Rattle.pm_step.specs.Steps.{as_step}
use Rattle.pm_opjson.specs.Parts.{step_in, step_list, steps_in, slice_in, node_in, mark_in, type_in, attrs_in}
use Rattle.pm_opjson.specs.Ops.{step_op, paste_op, insert_op, wrap_op, set_type_op, add_mark_op, remove_mark_op, op_of}
use Rattle.pm_script.specs.Acts.{edit_in, forge_in, act_in}
use Rattle.pm_script.specs.declared.lines.TheConstants.{LAST_LINE}
use Rattle.pm_script.specs.Lines.{client_in, word_in, said, turned, named, op_in, op_line}
use Rattle.pm_script.specs.Sessions.{at_line, ops_of}
use Rattle.pm_script.proofs.SameSteps.{slice-alike, step-alike}

module _ (s t : SchemaSpec) (h : HaveSameTypes s t) where
  -- ---- the parts of an edit

  step-in-alike : (d : Data) → step_in s d ≡ step_in t d
  step-in-alike d = λ i. or_fault WrongShape (get (codes "step") d) >>= (λ v. coded (step-alike s t h v i) >>= (λ read. Ok (as_step read)))

  step-list-alike : (ds : Items) → step_list s ds ≡ step_list t ds
  unfolding step_list
  step-list-alike no_items = refl
  step-list-alike (item d ds) = λ i. coded (step-alike s t h d i) >>= (λ first. step-list-alike ds i >>= (λ rest. Ok (first ∷ rest)))

  steps-in-alike : (d : Data) → steps_in s d ≡ steps_in t d
  unfolding steps_in
  steps-in-alike d = λ i. or_fault WrongShape (get (codes "steps") d) >>= (λ value. or_fault WrongShape (as_array value) >>= (λ items. step-list-alike items i))

  slice-in-alike : (d : Data) → slice_in s d ≡ slice_in t d
  slice-in-alike d = λ i. or_fault WrongShape (get (codes "slice") d) >>= (λ v. node_coded (slice-alike s t h v i))

  node-in-alike : (d : Data) → node_in s d ≡ node_in t d
  node-in-alike d = λ i. or_fault WrongShape (get (codes "node") d) >>= (λ v. node_coded (node-of-alike s t h Refused v i))

  mark-in-alike : (d : Data) → mark_in s d ≡ mark_in t d
  mark-in-alike d = λ i. or_fault WrongShape (get (codes "mark") d) >>= (λ v. node_coded (mark-of-alike s t h v i))

  type-in-alike : (d : Data) → type_in s d ≡ type_in t d
  type-in-alike d = λ i. text_in (codes "type") d >>= (λ name. or_fault UnknownName (place_of name (names-alike s t h i)))

  attrs-in-alike : (k : ℕ) (d : Data) → attrs_in s k d ≡ attrs_in t k d
  attrs-in-alike k d = λ i. node_coded (node-attrs-alike s t h k (field (codes "attrs") d) i)

  -- ---- edits

  step-op-alike : (d : Data) → step_op s d ≡ step_op t d
  unfolding step_op
  step-op-alike d = λ i. step-in-alike d i >>= (λ step. Ok (op.Step step))

  paste-alike : (d : Data) → paste_op s d ≡ paste_op t d
  unfolding paste_op
  paste-alike d = λ i. number_in (codes "from") d >>= (λ from. number_in (codes "to") d >>= (λ to. slice-in-alike d i >>= (λ slice. Ok (op.Paste from to slice))))

  insert-alike : (d : Data) → insert_op s d ≡ insert_op t d
  unfolding insert_op
  insert-alike d = λ i. number_in (codes "pos") d >>= (λ at. node-in-alike d i >>= (λ node. Ok (op.InsertNode at node)))

  wrap-alike : (d : Data) → wrap_op s d ≡ wrap_op t d
  unfolding wrap_op
  wrap-alike d = λ i. number_in (codes "from") d >>= (λ from. number_in (codes "to") d >>= (λ to. type-in-alike d i >>= (λ type. attrs-in-alike type d i >>= (λ attrs. Ok (op.Wrap from to type attrs)))))

  set-type-alike : (d : Data) → set_type_op s d ≡ set_type_op t d
  unfolding set_type_op
  set-type-alike d = λ i. number_in (codes "pos") d >>= (λ at. type-in-alike d i >>= (λ type. attrs-in-alike type d i >>= (λ attrs. Ok (op.SetType at type attrs))))

  add-mark-alike : (d : Data) → add_mark_op s d ≡ add_mark_op t d
  unfolding add_mark_op
  add-mark-alike d = λ i. number_in (codes "from") d >>= (λ from. number_in (codes "to") d >>= (λ to. mark-in-alike d i >>= (λ mark. Ok (op.AddMark from to mark))))

  remove-mark-alike : (d : Data) → remove_mark_op s d ≡ remove_mark_op t d
  unfolding remove_mark_op
  remove-mark-alike d = λ i. number_in (codes "from") d >>= (λ from. number_in (codes "to") d >>= (λ to. mark-in-alike d i >>= (λ mark. Ok (op.RemoveMark from to mark))))

  op-alike : (k : EditKind) (d : Data) → op_of s k d ≡ op_of t k d
  op-alike kind.Step d = step-op-alike d
  op-alike kind.Text d = refl
  op-alike kind.Delete d = refl
  op-alike kind.Paste d = paste-alike d
  op-alike kind.Insert d = insert-alike d
  op-alike kind.Split d = refl
  op-alike kind.Join d = refl
  op-alike kind.Wrap d = wrap-alike d
  op-alike kind.Lift d = refl
  op-alike kind.SetType d = set-type-alike d
  op-alike kind.AddMark d = add-mark-alike d
  op-alike kind.RemoveMark d = remove-mark-alike d
  op-alike kind.Attr d = refl
  op-alike kind.DocAttr d = refl

  -- ---- acts and lines

  edit-alike : (k : EditKind) (d : Data) → edit_in s k d ≡ edit_in t k d
  unfolding edit_in
  edit-alike k d = λ i. op-alike k d i >>= (λ edit. event_in d >>= (λ event. Ok (act.Edit edit event)))

  forge-alike : (d : Data) → forge_in s d ≡ forge_in t d
  unfolding forge_in
  forge-alike d = λ i. number_in (codes "version") d >>= (λ version. steps-in-alike d i >>= (λ forged. Ok (act.Forge version forged)))

  -- what the word does
  act-alike : (w : Word) (d : Data) → act_in s w d ≡ act_in t w d
  act-alike (word.Edit k) d = edit-alike k d
  act-alike word.Undo d = refl
  act-alike word.Redo d = refl
  act-alike word.UndoEvent d = refl
  act-alike word.Cursor d = refl
  act-alike word.Submit d = refl
  act-alike word.Ask d = refl
  act-alike word.Present d = refl
  act-alike word.Take d = refl
  act-alike word.Push d = refl
  act-alike word.Pull d = refl
  act-alike word.Forge d = forge-alike d
  act-alike word.Enter d = refl

  pub op-in-alike : (form : Form) (clients : List ClientEntry) (earlier : List (Line Op Step)) (n : ℕ) (d : Data) → op_in form s clients earlier n d ≡ op_in form t clients earlier n d
  unfolding op_in
  op-in-alike form clients earlier n d = λ i. client_in clients d >>= (λ client. word_in form d >>= (λ found. said clients earlier client found >>= (λ allowed. turned clients earlier client allowed >>= (λ w. act-alike w d i >>= (λ read. named earlier client read >>= (λ done. Ok (record { number = n; client = client; act = done })))))))

  op-line-alike : (form : Form) (clients : List ClientEntry) (earlier : List (Line Op Step)) (n : ℕ) (line : List ℕ) → op_line form s clients earlier n line ≡ op_line form t clients earlier n line
  unfolding op_line
  op-line-alike form clients earlier n line = λ i. if nat_lt LAST_LINE n then Err TooManyLines else (json_line line >>= (λ d. op-in-alike form clients earlier n d i))

  pub ops-alike : (form : Form) (clients : List ClientEntry) (earlier : List (Line Op Step)) (n : ℕ) (lines : List (List ℕ)) → ops_of form s clients earlier n lines ≡ ops_of form t clients earlier n lines
  unfolding ops_of
  ops-alike form clients earlier n [] = refl
  ops-alike form clients earlier n (line ∷ rest) = λ i. at_line n (op-line-alike form clients earlier n line i) >>= (λ done. ops-alike form clients (earlier ++ done ∷ []) (n + 1) rest i >>= (λ later. Ok (done ∷ later)))
