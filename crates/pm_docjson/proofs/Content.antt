-- The content of a node is the field of that name.
use Rattle.std.proofs.Common.{◌≡◌, ℕ, List, refl, ap, ◌∙◌}
use Rattle.std.specs.Prelude.{codes, ◌==◌, true, false, option_and_then, Option, Some, Result, Ok}
use Rattle.std.specs.Ordering.{nat_cmp, match_ordering}
use Rattle.std.specs.Cmp.Lexicographic.{slice_cmp}
use Rattle.std.specs.declared.cmp.Ordering.{Ordering}
use Rattle.std.specs.declared.cmp.Ordering.TheVariants.{Less, Equal, Greater}
use Rattle.serde_json.specs.Data.{Data, null, boolean, number, string, array, object, Members, no_members, member}
use Rattle.serde_json.specs.Find.{get_member}
use Rattle.pm_schema.specs.declared.spec.SchemaSpec.{SchemaSpec}
use Rattle.pm_schema.specs.Names.{place_of}
use Rattle.pm_schema.specs.Types.{names_of_nodes}
use Rattle.pm_schema.specs.Documents.{documents_of}
use Rattle.pm_tokens.specs.Tokens.{Token}
use Rattle.pm_docjson.specs.declared.leaves.LeafContent.{LeafContent}
use Rattle.pm_docjson.specs.declared.fault.DocReadError.{DocReadError}
use Rattle.pm_docjson.specs.Fields.{non_null, field, text_at}
use Rattle.pm_docjson.specs.Reading.{text_from, branch_from, node_of, node_from, content_in, content_of, content_for, content_at}

content_of-value : (s : SchemaSpec) (l : LeafContent) (d : Data) → content_of s l d ≡ content_at s l (non_null d)
unfolding content_of
content_of-value s l null = refl
content_of-value s l (boolean b) = refl
content_of-value s l (number n) = refl
content_of-value s l (string t) = refl
content_of-value s l (array ds) = refl
content_of-value s l (object ms) = refl

pick : (s : SchemaSpec) (l : LeafContent) (o : Ordering) (d : Data) (rest : Option Data) (r : Result (List Token) DocReadError) → r ≡ content_at s l (option_and_then non_null rest)
    → match_ordering o r (content_of s l d) r ≡ content_at s l (option_and_then non_null (match_ordering o rest (Some d) rest))
pick s l Less d rest r h = h
pick s l Equal d rest r h = content_of-value s l d
pick s l Greater d rest r h = h

content_in-field : (s : SchemaSpec) (l : LeafContent) (ms : Members) → content_in s l ms ≡ content_at s l (field (codes "content") (object ms))
unfolding content_in
content_in-field s l no_members = refl
content_in-field s l (member k d ms) = pick s l (slice_cmp nat_cmp (codes "content") k) d (get_member (codes "content") ms) (content_in s l ms) (content_in-field s l ms)

pub node_of-fields : (s : SchemaSpec) (l : LeafContent) (d : Data) → node_of s l d ≡ node_from s l d (content_at s l (field (codes "content") d))
unfolding node_of node_from
node_of-fields s l null = refl
node_of-fields s l (boolean b) = refl
node_of-fields s l (number n) = refl
node_of-fields s l (string t) = refl
node_of-fields s l (array ds) = refl
node_of-fields s l (object ms) = ap (node_from s l (object ms)) (content_in-field s l ms)

pub as_text : (s : SchemaSpec) (l : LeafContent) (d : Data) (name : List ℕ) (kind : ℕ) → text_at (codes "type") d ≡ Ok name → place_of name (names_of_nodes s) ≡ Some kind → (kind == (documents_of s).text) ≡ true
    → node_of s l d ≡ text_from s d
unfolding node_from
as_text s l d name kind h g k = node_of-fields s l d ∙ rw (h, g, k) refl

pub as_branch : (s : SchemaSpec) (l : LeafContent) (d : Data) (name : List ℕ) (kind : ℕ) → text_at (codes "type") d ≡ Ok name → place_of name (names_of_nodes s) ≡ Some kind → (kind == (documents_of s).text) ≡ false
    → node_of s l d ≡ branch_from s kind d (content_for s l kind (field (codes "content") d) (content_at s l (field (codes "content") d)))
unfolding node_from
as_branch s l d name kind h g k = node_of-fields s l d ∙ rw (h, g, k) refl

pub ruleset fields = node_of-fields
