-- The compact text of a node's JSON value, member by member.
use Rattle.std.proofs.Common.{◌≡◌, ℕ, List, [], ◌∷◌, ◌++◌, Bool, true, false, refl, ap, sym, ◌∙◌, append_assoc}
use Rattle.std.specs.Prelude.{codes}
use Rattle.json.specs.Print.{quoted, escape_byte}
use Rattle.serde_json.specs.Data.{Data, string, Items, no_items, item, Members, no_members, member}
use Rattle.serde_json.specs.Written.{comma_if, compact_text, items_text, members_text}
use Rattle.pm_text.specs.Units.{utf8}
use Rattle.pm_value.specs.Plain.{Plain, fields, plains_of}
use Rattle.pm_value.specs.Writing.{written}
use Rattle.pm_tokens.specs.Tokens.{Marks}
use Rattle.pm_schema.specs.declared.spec.SchemaSpec.{SchemaSpec}
use Rattle.pm_schema.specs.Documents.{documents_of}
use Rattle.pm_schema.specs.Types.{node_at}
use Rattle.pm_docjson.specs.Values.{keys}
use Rattle.pm_docjson.specs.Writing.{typed, with_attrs, with_content, with_marks, mark_written, marks_written, text_written, branch_written}
use Rattle.pm_doctext.specs.Texts.{attrs_text, type_text, start_text, end_text, mark_text, marks_text, front_text, back_text, run_text}

-- there is a member
abbrev Filled : Members → Type 0
Filled no_members = ⊥
Filled (member k d ms) = Unit {0}

-- a comma stands before a later member
comma : (ms : Members) → Filled ms → members_text true ms ≡ 44 ∷ members_text false ms
comma no_members h = absurd h
comma (member k d ms) h = refl

-- ---- attributes

attrs-first : (ks : List (List ℕ)) (vs : List Plain) (ms : Members) → Filled ms → members_text false (with_attrs ks vs ms) ≡ attrs_text ks vs ++ members_text false ms
unfolding escape_byte
attrs-first [] vs ms h = refl
attrs-first (k ∷ ks) vs ms h =
    let value = compact_text (written (fields (k ∷ ks) (plains_of vs))) in
    ap (λ z. codes "\"attrs\":" ++ (value ++ z)) (comma ms h) ∙ ap (λ z. codes "\"attrs\":" ++ z) (sym (append_assoc value (44 ∷ []) (members_text false ms)))

-- ---- content

-- children, and the end of the list
abbrev pub list_text : Bool → Items → List ℕ
list_text first no_items = end_text first
list_text first (item d ds) = start_text first ++ (compact_text d ++ list_text false ds)

items-rest : (ds : Items) (more : List ℕ) → items_text true ds ++ (44 ∷ more) ≡ list_text false ds ++ more
items-rest no_items more = refl
items-rest (item d ds) more =
    let value = compact_text d in
    ap (λ z. 44 ∷ z) (append_assoc value (items_text true ds) (44 ∷ more) ∙ (ap (λ z. value ++ z) (items-rest ds more) ∙ sym (append_assoc value (list_text false ds) more)))

content-first : (ds : Items) (ms : Members) → Filled ms → members_text false (with_content ds ms) ≡ list_text true ds ++ members_text false ms
unfolding escape_byte
content-first no_items ms h = refl
content-first (item d ds) ms h =
    let value = compact_text d in
    let more = members_text false ms in
    ap (λ z. codes "\"content\":[" ++ ((value ++ items_text true ds) ++ z)) (comma ms h)
    ∙ ap (λ z. codes "\"content\":[" ++ z) (append_assoc value (items_text true ds) (44 ∷ more) ∙ (ap (λ z. value ++ z) (items-rest ds more) ∙ sym (append_assoc value (list_text false ds) more)))

filled-content : (ds : Items) (ms : Members) → Filled ms → Filled (with_content ds ms)
filled-content no_items ms h = h
filled-content (item d ds) ms h = tt

module _ (s : SchemaSpec) where
  -- ---- marks

  marks-rest : (later : Bool) (marks : Marks) (more : List ℕ) → items_text later (marks_written s marks) ++ (44 ∷ more) ≡ mark_text s later marks ++ more
  marks-rest later [] more = refl
  marks-rest later (m ∷ marks) more =
      let first = comma_if later in
      let value = compact_text (mark_written s m) in
      let rest = items_text true (marks_written s marks) in
      let mine = mark_text s true marks in
      append_assoc first (value ++ rest) (44 ∷ more)
      ∙ (ap (λ z. first ++ z) (append_assoc value rest (44 ∷ more) ∙ (ap (λ z. value ++ z) (marks-rest true marks more) ∙ sym (append_assoc value mine more)))
      ∙ sym (append_assoc first (value ++ mine) more))

  filled-marks : (marks : Marks) (ms : Members) → Filled ms → Filled (with_marks (marks_written s marks) ms)
  filled-marks [] ms h = h
  filled-marks (m ∷ marks) ms h = tt

  marks-first : (marks : Marks) (ms : Members) → Filled ms → members_text false (with_marks (marks_written s marks) ms) ≡ marks_text s marks ++ members_text false ms
  unfolding escape_byte
  marks-first [] ms h = refl
  marks-first (m ∷ marks) ms h =
      let more = members_text false ms in
      ap (λ z. codes "\"marks\":[" ++ (items_text false (marks_written s (m ∷ marks)) ++ z)) (comma ms h)
      ∙ ap (λ z. codes "\"marks\":[" ++ z) (marks-rest false (m ∷ marks) more)

  -- ---- the type

  type-last : (name : List ℕ) → members_text false (typed name) ≡ type_text name
  unfolding escape_byte
  type-last name = refl

  back-is : (kind : ℕ) (marks : Marks) → members_text false (with_marks (marks_written s marks) (typed (node_at s kind).name)) ≡ back_text s kind marks
  back-is kind marks =
      let name = (node_at s kind).name in
      marks-first marks (typed name) tt ∙ ap (λ z. marks_text s marks ++ z) (type-last name)

  -- ---- a node, and a text

  pub branch-is : (kind : ℕ) (attrs : List Plain) (marks : Marks) (ds : Items)
      → compact_text (branch_written s kind attrs marks ds) ≡ front_text s kind attrs ++ (list_text true ds ++ back_text s kind marks)
  branch-is kind attrs marks ds =
      let ks = keys (node_at s kind).attrs in
      let last = with_marks (marks_written s marks) (typed (node_at s kind).name) in
      let filled = filled-marks marks (typed (node_at s kind).name) tt in
      ap (λ z. 123 ∷ z)
      (attrs-first ks attrs (with_content ds last) (filled-content ds last filled)
      ∙ ap (λ z. attrs_text ks attrs ++ z) (content-first ds last filled ∙ ap (λ z. list_text true ds ++ z) (back-is kind marks)))

  units-first : (units : List ℕ) → members_text false (member (codes "text") (string (utf8 units)) (typed (node_at s (documents_of s).text).name)) ≡ codes "\"text\":" ++ (quoted (utf8 units) ++ (codes "," ++ type_text (node_at s (documents_of s).text).name))
  unfolding escape_byte
  units-first units = refl

  pub text-is : (units : List ℕ) (marks : Marks) → compact_text (text_written s units marks) ≡ run_text s units marks
  text-is units marks =
      let more = member (codes "text") (string (utf8 units)) (typed (node_at s (documents_of s).text).name) in
      ap (λ z. 123 ∷ z) (marks-first marks more tt ∙ ap (λ z. marks_text s marks ++ z) (units-first units))
