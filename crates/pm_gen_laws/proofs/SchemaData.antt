-- The JSON value of the generated schema.
use Rattle.std.specs.Prelude.{codes, true, false}
use Rattle.serde_json.specs.Data.{Data, boolean, number, unsigned, string, array, object, no_items, item, no_members, member}

abbrev doc_type : Data
doc_type = object (member (codes "content") (string (codes "block+")) (member (codes "name") (string (codes "doc")) no_members))

abbrev paragraph_type : Data
paragraph_type = object (member (codes "content") (string (codes "inline*")) (member (codes "group") (string (codes "block")) (member (codes "name") (string (codes "paragraph")) no_members)))

abbrev blockquote_type : Data
blockquote_type = object (member (codes "content") (string (codes "block+")) (member (codes "group") (string (codes "block")) (member (codes "name") (string (codes "blockquote")) no_members)))

abbrev heading_type : Data
heading_type = object (member (codes "attrs") (object (member (codes "level") (object (member (codes "default") (number (unsigned 1)) no_members)) no_members)) (member (codes "content") (string (codes "inline*")) (member (codes "group") (string (codes "block")) (member (codes "name") (string (codes "heading")) no_members))))

abbrev bullet_list_type : Data
bullet_list_type = object (member (codes "content") (string (codes "list_item+")) (member (codes "group") (string (codes "block")) (member (codes "name") (string (codes "bullet_list")) no_members)))

abbrev list_item_type : Data
list_item_type = object (member (codes "content") (string (codes "paragraph block*")) (member (codes "name") (string (codes "list_item")) no_members))

abbrev image_type : Data
image_type = object (member (codes "attrs") (object (member (codes "src") (object no_members) no_members)) (member (codes "group") (string (codes "inline")) (member (codes "inline") (boolean true) (member (codes "name") (string (codes "image")) no_members))))

abbrev text_type : Data
text_type = object (member (codes "group") (string (codes "inline")) (member (codes "name") (string (codes "text")) no_members))

abbrev link_mark : Data
link_mark = object (member (codes "attrs") (object (member (codes "href") (object no_members) no_members)) (member (codes "inclusive") (boolean false) (member (codes "name") (string (codes "link")) no_members)))

abbrev em_mark : Data
em_mark = object (member (codes "name") (string (codes "em")) no_members)

abbrev strong_mark : Data
strong_mark = object (member (codes "name") (string (codes "strong")) no_members)

abbrev code_mark : Data
code_mark = object (member (codes "excludes") (string (codes "_")) (member (codes "name") (string (codes "code")) no_members))

abbrev nodes : Data
nodes = array (item doc_type (item paragraph_type (item blockquote_type (item heading_type (item bullet_list_type (item list_item_type (item image_type (item text_type no_items))))))))

abbrev marks : Data
marks = array (item link_mark (item em_mark (item strong_mark (item code_mark no_items))))

abbrev pub schema_data : Data
schema_data = object (member (codes "marks") marks (member (codes "nodes") nodes no_members))
