-- What is found in an object that was written, and that putting its members in gives it.
use Rattle.std.proofs.Common.{◌≡◌, ℕ, List, [], ◌∷◌, refl}
use Rattle.std.specs.Prelude.{codes, Some, None}
use Rattle.serde_json.specs.Data.{Data, object, Items, no_items, item, no_members, member}
use Rattle.serde_json.specs.Find.{get}
use Rattle.pm_value.specs.Plain.{Plain}
use Rattle.pm_value.specs.Writing.{written}
use Rattle.pm_docjson.specs.Fields.{field}
use Rattle.pm_docjson.specs.Members.{attrs_field, put_attrs, list_field, put_list}
use Rattle.pm_docjson.specs.Writing.{with_attrs, with_content, with_marks}

-- the object of a node that is no text, with what stands at `type`
abbrev pub branch_object : List (List ℕ) → List Plain → Items → Items → Data → Data
branch_object ns vs c m e = object (with_attrs ns vs (with_content c (with_marks m (member (codes "type") e no_members))))

pub type_is : (ns : List (List ℕ)) (vs : List Plain) (c m : Items) (e : Data) → get (codes "type") (branch_object ns vs c m e) ≡ Some e
type_is [] vs no_items no_items e = refl
type_is [] vs no_items (item x xs) e = refl
type_is [] vs (item d ds) no_items e = refl
type_is [] vs (item d ds) (item x xs) e = refl
type_is (n ∷ ns) vs no_items no_items e = refl
type_is (n ∷ ns) vs no_items (item x xs) e = refl
type_is (n ∷ ns) vs (item d ds) no_items e = refl
type_is (n ∷ ns) vs (item d ds) (item x xs) e = refl

pub attrs_is : (ns : List (List ℕ)) (vs : List Plain) (c m : Items) (e : Data) → field (codes "attrs") (branch_object ns vs c m e) ≡ attrs_field ns vs
unfolding written
attrs_is [] vs no_items no_items e = refl
attrs_is [] vs no_items (item x xs) e = refl
attrs_is [] vs (item d ds) no_items e = refl
attrs_is [] vs (item d ds) (item x xs) e = refl
attrs_is (n ∷ ns) vs no_items no_items e = refl
attrs_is (n ∷ ns) vs no_items (item x xs) e = refl
attrs_is (n ∷ ns) vs (item d ds) no_items e = refl
attrs_is (n ∷ ns) vs (item d ds) (item x xs) e = refl

pub content_is : (ns : List (List ℕ)) (vs : List Plain) (c m : Items) (e : Data) → field (codes "content") (branch_object ns vs c m e) ≡ list_field c
content_is [] vs no_items no_items e = refl
content_is [] vs no_items (item x xs) e = refl
content_is [] vs (item d ds) no_items e = refl
content_is [] vs (item d ds) (item x xs) e = refl
content_is (n ∷ ns) vs no_items no_items e = refl
content_is (n ∷ ns) vs no_items (item x xs) e = refl
content_is (n ∷ ns) vs (item d ds) no_items e = refl
content_is (n ∷ ns) vs (item d ds) (item x xs) e = refl

pub marks_is : (ns : List (List ℕ)) (vs : List Plain) (c m : Items) (e : Data) → field (codes "marks") (branch_object ns vs c m e) ≡ list_field m
marks_is [] vs no_items no_items e = refl
marks_is [] vs no_items (item x xs) e = refl
marks_is [] vs (item d ds) no_items e = refl
marks_is [] vs (item d ds) (item x xs) e = refl
marks_is (n ∷ ns) vs no_items no_items e = refl
marks_is (n ∷ ns) vs no_items (item x xs) e = refl
marks_is (n ∷ ns) vs (item d ds) no_items e = refl
marks_is (n ∷ ns) vs (item d ds) (item x xs) e = refl

pub puts_branch : (ns : List (List ℕ)) (vs : List Plain) (c m : Items) (e : Data) → put_attrs ns vs (put_list (codes "content") c (put_list (codes "marks") m (member (codes "type") e no_members))) ≡ with_attrs ns vs (with_content c (with_marks m (member (codes "type") e no_members)))
puts_branch [] vs no_items no_items e = refl
puts_branch [] vs no_items (item x xs) e = refl
puts_branch [] vs (item d ds) no_items e = refl
puts_branch [] vs (item d ds) (item x xs) e = refl
puts_branch (n ∷ ns) vs no_items no_items e = refl
puts_branch (n ∷ ns) vs no_items (item x xs) e = refl
puts_branch (n ∷ ns) vs (item d ds) no_items e = refl
puts_branch (n ∷ ns) vs (item d ds) (item x xs) e = refl

pub puts_mark : (ns : List (List ℕ)) (vs : List Plain) (e : Data) → put_attrs ns vs (member (codes "type") e no_members) ≡ with_attrs ns vs (member (codes "type") e no_members)
puts_mark [] vs e = refl
puts_mark (n ∷ ns) vs e = refl

-- the object of a text, with what stands at `text` and at `type`
abbrev pub text_object : Items → Data → Data → Data
text_object m w e = object (with_marks m (member (codes "text") w (member (codes "type") e no_members)))

pub text_type : (m : Items) (w e : Data) → get (codes "type") (text_object m w e) ≡ Some e
text_type no_items w e = refl
text_type (item d ds) w e = refl

pub text_text : (m : Items) (w e : Data) → get (codes "text") (text_object m w e) ≡ Some w
text_text no_items w e = refl
text_text (item d ds) w e = refl

pub text_attrs : (m : Items) (w e : Data) → field (codes "attrs") (text_object m w e) ≡ None
text_attrs no_items w e = refl
text_attrs (item d ds) w e = refl

pub text_marks : (m : Items) (w e : Data) → field (codes "marks") (text_object m w e) ≡ list_field m
text_marks no_items w e = refl
text_marks (item d ds) w e = refl

pub puts_text : (m : Items) (w e : Data) → put_list (codes "marks") m (member (codes "text") w (member (codes "type") e no_members)) ≡ with_marks m (member (codes "text") w (member (codes "type") e no_members))
puts_text no_items w e = refl
puts_text (item d ds) w e = refl

pub ruleset puts = (puts_branch, puts_mark, puts_text)
