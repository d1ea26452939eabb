-- Two specs with the same types write documents and steps alike, and report alike.
use Rattle.std.proofs.Common.{◌≡◌, ℕ, ◌+◌, Bool, List, [], ◌∷◌, ◌++◌, length, map, refl, ap}
use Rattle.std.specs.Prelude.{◌==◌, codes, decimal, if◌then◌else◌}
use Rattle.serde_json.specs.Data.{null, string, array, object, Items, item, member, no_members}
use Rattle.serde_json.specs.View.{items_of}
use Rattle.serde_json.specs.Written.{compact_text}
use Rattle.pm_text.specs.Units.{utf8}
use Rattle.pm_marks.specs.declared.mark.Mark.{Mark}
use Rattle.pm_tokens.specs.Tokens.{Attrs, Marks, Token, Doc}
use Rattle.pm_tokens.specs.Slices.{Slice, slice_size}
use Rattle.pm_schema.specs.declared.spec.AttrSpec.{AttrSpec}
use Rattle.pm_schema.specs.declared.spec.SchemaSpec.{SchemaSpec}
use Rattle.pm_schema.specs.declared.schema.Schema.{Schema}
use Rattle.pm_schema.specs.Types.{node_at, mark_at}
use Rattle.pm_schemajson.specs.Views.{attribute, attributes, types_of_spec}
use Rattle.pm_schemajson.proofs.SameTypes.{map-alike, node-alike}
use Rattle.pm_schemajson.proofs.SameDocuments.{mark-alike, documents-alike}
use Rattle.pm_docjson.specs.Trees.{Tree, text, branch, Trees, none, tree, trees_of}
use Rattle.pm_docjson.specs.Values.{keys}
use Rattle.pm_docjson.specs.Writing.{typed, with_attrs, with_content, with_marks, mark_written, marks_written, text_written, branch_written, tree_written, trees_written, nodes_written, doc_written}
use Rattle.pm_slicejson.specs.Writing.{with_count, slice_written}
use Rattle.pm_meaning.specs.Steps.{Step, Replace, ReplaceAround, AddMark, RemoveMark, AddNodeMark, RemoveNodeMark, Attr, DocAttr}
use Rattle.pm_meaning.specs.declared.reason.Reason.{Reason}
use Rattle.pm_stepjson.specs.Fields as fields
use Rattle.pm_stepjson.specs.Fields.{count, with_structure, replaced}
use Rattle.pm_stepjson.specs.Mark.{range_written}
use Rattle.pm_stepjson.specs.NodeMark.{node_written}
use Rattle.pm_stepjson.specs.Writing.{step_written}
use Rattle.pm_head.specs.declared.clients.ClientEntry.{ClientEntry}
use Rattle.pm_authority.specs.declared.named.Named.{Named}
use Rattle.pm_session.specs.declared.member.Member.{Member}
use Rattle.pm_session.specs.declared.member.Member.TheVariants.{Editor, Raw}
use Rattle.pm_session.specs.Events.{State}
use Rattle.pm_report.specs.Words.{◌&◌, line, list_text}
use Rattle.pm_report.specs.declared.outcomes.Numbered.{Numbered}
use Rattle.pm_report.specs.Outcomes.{outcome_lines}
use Rattle.pm_report.specs.Report.{serial_of, place_of, name_at, settled_lines, member_line, client_lines, entry_lines, report}

keys-alike : (xs ys : List AttrSpec) → attributes xs ≡ attributes ys → keys xs ≡ keys ys
keys-alike xs ys h = map-alike attribute (λ a. a.name) xs ys h

module _ (s t : SchemaSpec) (h : types_of_spec s ≡ types_of_spec t) where
  node-keys : (k : ℕ) → keys (node_at s k).attrs ≡ keys (node_at t k).attrs
  node-keys k = keys-alike (node_at s k).attrs (node_at t k).attrs (ap (λ x. x.attrs) (node-alike s t k h))

  mark-keys : (m : ℕ) → keys (mark_at s m).attrs ≡ keys (mark_at t m).attrs
  mark-keys m = keys-alike (mark_at s m).attrs (mark_at t m).attrs (ap (λ x. x.attrs) (mark-alike s t h m))

  -- ---- marks and nodes

  mark-written-alike : (m : Mark Attrs) → mark_written s m ≡ mark_written t m
  mark-written-alike m = λ i. object (with_attrs (mark-keys m.kind i) m.attrs (typed (mark-alike s t h m.kind i).name))

  marks-written-alike : (ms : Marks) → marks_written s ms ≡ marks_written t ms
  marks-written-alike ms = λ i. items_of (map (λ m. mark-written-alike m i) ms)

  text-alike : (units : List ℕ) (marks : Marks) → text_written s units marks ≡ text_written t units marks
  text-alike units marks =
      λ i. object (with_marks (marks-written-alike marks i) (member (codes "text") (string (utf8 units)) (typed (node-alike s t (documents-alike s t h i).text h i).name)))

  branch-alike : (kind : ℕ) (attrs : Attrs) (marks : Marks) (c e : Items) → c ≡ e → branch_written s kind attrs marks c ≡ branch_written t kind attrs marks e
  branch-alike kind attrs marks c e q =
      λ i. object (with_attrs (node-keys kind i) attrs (with_content (q i) (with_marks (marks-written-alike marks i) (typed (node-alike s t kind h i).name))))

  mutual
    unfolding tree_written

    tree-alike : (x : Tree) → tree_written s x ≡ tree_written t x
    tree-alike (text units marks) = text-alike units marks
    tree-alike (branch kind attrs marks inner) = branch-alike kind attrs marks (trees_written s inner) (trees_written t inner) (trees-alike inner)

    trees-alike : (xs : Trees) → trees_written s xs ≡ trees_written t xs
    trees-alike none = refl
    trees-alike (tree x xs) = λ i. item (tree-alike x i) (trees-alike xs i)

  nodes-written-alike : (ts : List Token) → nodes_written s ts ≡ nodes_written t ts
  nodes-written-alike ts = trees-alike (trees_of ts)

  pub doc-written-alike : (d : Doc) → doc_written s d ≡ doc_written t d
  doc-written-alike d = branch-alike d.kind d.attrs d.marks (nodes_written s d.tokens) (nodes_written t d.tokens) (nodes-written-alike d.tokens)

  -- ---- steps

  slice-written-alike : (sl : Slice) → slice_written s sl ≡ slice_written t sl
  slice-written-alike sl =
      λ i. if slice_size sl == 0 then null else object (member (codes "content") (array (nodes-written-alike sl.content i)) (with_count (codes "openEnd") sl.open_end (with_count (codes "openStart") sl.open_start no_members)))

  replaced-alike : (name : List ℕ) (to : ℕ) (sl : Slice) (structure : Bool) → replaced s name to sl structure ≡ replaced t name to sl structure
  replaced-alike name to sl structure =
      let ms = fields.typed name (with_structure structure (member (codes "to") (count to) no_members)) in
      λ i. if slice_size sl == 0 then ms else member (codes "slice") (slice-written-alike sl i) ms

  range-alike : (name : List ℕ) (from to : ℕ) (mark : Mark Attrs) → range_written s name from to mark ≡ range_written t name from to mark
  range-alike name from to mark =
      λ i. object (member (codes "from") (count from) (member (codes "mark") (mark-written-alike mark i) (fields.typed name (member (codes "to") (count to) no_members))))

  node-mark-alike : (name : List ℕ) (pos : ℕ) (mark : Mark Attrs) → node_written s name pos mark ≡ node_written t name pos mark
  node-mark-alike name pos mark =
      λ i. object (member (codes "mark") (mark-written-alike mark i) (member (codes "pos") (count pos) (fields.typed name no_members)))

  pub step-written-alike : (step : Step) → step_written s step ≡ step_written t step
  step-written-alike (Replace from to sl structure) = λ i. object (member (codes "from") (count from) (replaced-alike (codes "replace") to sl structure i))
  step-written-alike (ReplaceAround from to gap_from gap_to sl insert structure) =
      λ i. object (member (codes "from") (count from) (member (codes "gapFrom") (count gap_from) (member (codes "gapTo") (count gap_to)
      (member (codes "insert") (count insert) (replaced-alike (codes "replaceAround") to sl structure i)))))
  step-written-alike (AddMark from to mark) = range-alike (codes "addMark") from to mark
  step-written-alike (RemoveMark from to mark) = range-alike (codes "removeMark") from to mark
  step-written-alike (AddNodeMark pos mark) = node-mark-alike (codes "addNodeMark") pos mark
  step-written-alike (RemoveNodeMark pos mark) = node-mark-alike (codes "removeNodeMark") pos mark
  step-written-alike (Attr pos name value) = refl
  step-written-alike (DocAttr name value) = refl

  -- ---- the report

  member-alike : (name : List ℕ) (m : Member Step Schema Doc Reason) → member_line s name m ≡ member_line t name m
  member-alike name (Editor c) =
      λ i. line (codes "client" & name & decimal c.version & list_text (map serial_of c.pending) & list_text c.dropped & list_text (map place_of c.cursors) & compact_text (doc-written-alike c.doc i))
  member-alike name (Raw number serial) = refl

  clients-alike : (entries : List ClientEntry) (k : ℕ) (ms : List (Member Step Schema Doc Reason)) → client_lines s entries k ms ≡ client_lines t entries k ms
  clients-alike entries k [] = refl
  clients-alike entries k (m ∷ ms) = λ i. member-alike (name_at entries k) m i ++ clients-alike entries (k + 1) ms i

  entries-alike : (entries : List ClientEntry) (k : ℕ) (log : List (Named Step)) → entry_lines s entries k log ≡ entry_lines t entries k log
  entries-alike entries k [] = refl
  entries-alike entries k (n ∷ log) =
      λ i. line (decimal k & name_at entries n.name.client & decimal n.name.serial & compact_text (step-written-alike n.change i)) ++ entries-alike entries (k + 1) log i

  pub report-alike : (entries : List ClientEntry) (outcomes : List Numbered) (before after : State Step Schema Doc Reason)
      → report s entries outcomes before after ≡ report t entries outcomes before after
  report-alike entries outcomes before after =
      λ i. outcome_lines outcomes
      ++ clients-alike entries 0 before.members i
      ++ line (codes "log" & decimal (length after.authority.log))
      ++ entries-alike entries 1 after.authority.log i
      ++ settled_lines entries 0 after.members
      ++ line (codes "final" & compact_text (doc-written-alike after.authority.doc i))
