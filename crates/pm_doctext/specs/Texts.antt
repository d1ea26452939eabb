-- The text of a document's JSON value, made of the document's parts in their order.
use Rattle.std.specs.Prelude.{ℕ, List, [], ◌∷◌, ◌++◌, Bool, true, false, codes}
use Rattle.json.specs.Print.{quoted}
use Rattle.serde_json.specs.Written.{comma_if, compact_text}
use Rattle.pm_text.specs.Units.{utf8}
use Rattle.pm_value.specs.Plain.{Plain, fields, plains_of}
use Rattle.pm_value.specs.Writing.{written}
use Rattle.pm_tokens.specs.Tokens.{Marks}
use Rattle.pm_schema.specs.declared.spec.SchemaSpec.{SchemaSpec}
use Rattle.pm_schema.specs.Documents.{documents_of}
use Rattle.pm_schema.specs.Types.{node_at}
use Rattle.pm_docjson.specs.Values.{keys}
use Rattle.pm_docjson.specs.Writing.{mark_written}
use Rattle.pm_view.specs.Seen.{Seen, Opens, Closes, Atom, Run}

-- ---- the members of an object, each with the comma after it; the type is the last

-- the attributes, where the type has some
abbrev pub attrs_text : List (List ℕ) → List Plain → List ℕ
attrs_text [] values = []
attrs_text (k ∷ ks) values = codes "\"attrs\":" ++ (compact_text (written (fields (k ∷ ks) (plains_of values))) ++ codes ",")

-- the type, and the end of the object
abbrev pub type_text : List ℕ → List ℕ
type_text name = codes "\"type\":" ++ (quoted name ++ codes "}")

-- before a child: the first one begins the content
abbrev pub start_text : Bool → List ℕ
start_text true = codes "\"content\":["
start_text false = codes ","

-- after the children, where there were some
abbrev pub end_text : Bool → List ℕ
end_text true = []
end_text false = codes "],"

-- after this part stands a node that has had no child yet
abbrev pub opens : Seen → Bool
opens (Opens h) = true
opens (Closes h) = false
opens (Atom h) = false
opens (Run units marks) = false

module _ (s : SchemaSpec) where
  -- a mark of a list, which is the first one or a later one
  abbrev pub mark_text : Bool → Marks → List ℕ
  mark_text later [] = codes "],"
  mark_text later (m ∷ ms) = comma_if later ++ (compact_text (mark_written s m) ++ mark_text true ms)

  -- the marks, where there are some
  abbrev pub marks_text : Marks → List ℕ
  marks_text [] = []
  marks_text (m ∷ ms) = codes "\"marks\":[" ++ mark_text false (m ∷ ms)

  -- ---- what stands before the content of a node and after it

  abbrev pub front_text : ℕ → List Plain → List ℕ
  front_text kind attrs = codes "{" ++ attrs_text (keys (node_at s kind).attrs) attrs

  abbrev pub back_text : ℕ → Marks → List ℕ
  back_text kind marks = marks_text marks ++ type_text (node_at s kind).name

  -- a text
  abbrev pub run_text : List ℕ → Marks → List ℕ
  run_text units marks = codes "{" ++ (marks_text marks ++ (codes "\"text\":" ++ (quoted (utf8 units) ++ (codes "," ++ type_text (node_at s (documents_of s).text).name))))

  -- ---- parts

  -- a part, where `first` says that the node it stands in has had no child yet
  abbrev pub part_text : Bool → Seen → List ℕ
  part_text first (Opens h) = start_text first ++ front_text h.kind h.attrs
  part_text first (Closes h) = end_text first ++ back_text h.kind h.marks
  part_text first (Atom h) = start_text first ++ (front_text h.kind h.attrs ++ back_text h.kind h.marks)
  part_text first (Run units marks) = start_text first ++ run_text units marks

  -- the parts of a content, up to its end
  abbrev pub content_text : Bool → List Seen → List ℕ
  content_text first [] = end_text first
  content_text first (p ∷ ps) = part_text first p ++ content_text (opens p) ps
