-- What a step makes of a document: the next document, or the first reason why it does not apply.
use Rattle.std.specs.Prelude.{ℕ, Bool, true, false, ◌&&◌, ◌||◌, not, nat_le, List, [], ◌∷◌, length, drop, Option, Some, None, Result, Ok, Err}
use Rattle.pm_value.specs.Plain.{Plain}
use Rattle.pm_tokens.specs.Tokens.{Marks, Token, Doc, with_tokens}
use Rattle.pm_tokens.specs.Scan.{is_whole, plain, joins, part, closes_then_opens, parts_pair, deepest}
use Rattle.pm_tokens.specs.Schemas.{Schema, compatible, max_size, max_depth}
use Rattle.pm_tokens.specs.Faults.{fault_place}
use Rattle.pm_tokens.specs.Slices.{is_slice, slice_size, slice_tokens, spliced, spliced_around, depths_fit}
use Rattle.pm_meaning.specs.declared.reason.Reason.{Reason}
use Rattle.pm_meaning.specs.declared.reason.Reason.TheVariants.{Range, Structure, Gap, Depth, Pair, Join, Large, Deep, Content, NoNode, NoAttribute, BadValue, NotInSchema}
use Rattle.pm_meaning.specs.Steps.{Step, Replace, ReplaceAround, AddMark, RemoveMark, AddNodeMark, RemoveNodeMark, Attr, DocAttr}
use Rattle.pm_meaning.specs.Known.{knows_step}
use Rattle.pm_meaning.specs.Attributes.{place_among, allows_among, node_kind, node_valued, top_valued}
use Rattle.pm_meaning.specs.Marked.{add, remove, mark_added, mark_removed, marked, starts_node, node_marked}

-- ---- tests

-- the next test decides, unless this one fails
abbrev pub unless : {A : Type 0} → Bool → Reason → Result A Reason → Result A Reason
unless true reason next = next
unless false reason next = Err reason

-- positions in order within a size
abbrev pub in_order : List ℕ → ℕ → Bool
in_order [] size = true
in_order (p ∷ []) size = nat_le p size
in_order (p ∷ q ∷ ps) size = nat_le p q && in_order (q ∷ ps) size

-- none of the positions parts a pair
abbrev pub parts_no_pair : List Token → List ℕ → Bool
parts_no_pair ts [] = true
parts_no_pair ts (p ∷ ps) = not (parts_pair ts p) && parts_no_pair ts ps

-- where the step has `structure`, what is overwritten is closes followed by opens
abbrev pub keeps_structure : Bool → List Token → Bool
keeps_structure structure ts = not structure || closes_then_opens ts

-- the document, unless it has a fault
abbrev pub unless_fault : Option ℕ → Doc → Result Doc Reason
unless_fault None d = Ok d
unless_fault (Some at) d = Err (Content at)

-- the document, or the first of Large, Deep and Content
abbrev pub checked : Schema → Doc → Result Doc Reason
checked s d =
    unless (nat_le (length d.tokens) (max_size s)) Large
    (unless (nat_le (deepest 0 d.tokens) max_depth) Deep
    (unless_fault (fault_place s d) d))

-- a reason that comes where no other does
abbrev pub and_unless : Bool → Reason → Result Doc Reason → Result Doc Reason
and_unless test reason (Ok d) = unless test reason (Ok d)
and_unless test reason (Err r) = Err r

-- ---- outcomes

-- of a step that changes marks in a range
abbrev pub range_outcome : Schema → (ℕ → Token → Marks → Marks) → ℕ → ℕ → Doc → Result Doc Reason
range_outcome s f from to d =
    unless (in_order (from ∷ to ∷ []) (length d.tokens)) Range
    (unless (parts_no_pair d.tokens (from ∷ to ∷ [])) Pair
    (checked s (marked f from to d)))

-- of a step that changes the marks of one node
abbrev pub node_outcome : Schema → (Marks → Marks) → ℕ → Doc → Result Doc Reason
node_outcome s f pos d =
    unless (in_order (pos ∷ []) (length d.tokens)) Range
    (unless (parts_no_pair d.tokens (pos ∷ [])) Pair
    (and_unless (starts_node (drop pos d.tokens)) NoNode
    (checked s (node_marked f pos d))))

-- what the place gives, unless there is none
abbrev pub at_place : {A : Type 0} → Option ℕ → (ℕ → Result A Reason) → Result A Reason
at_place None next = Err NoAttribute
at_place (Some i) next = next i

-- Of a step that gives an attribute of a node of this type a value: what it makes of the document, by the attribute's place,
-- unless the type has no such attribute, or names kinds for it of which the value is none.
abbrev pub attr_outcome : Schema → ℕ → List ℕ → Plain → (ℕ → Doc) → Result Doc Reason
attr_outcome s kind name value changed =
    at_place (place_among (s.node_declares kind) name) (λ i.
    unless (allows_among (s.node_declares kind) i value) BadValue
    (checked s (changed i)))

-- The document, or the first reason in the order of the tests that look at the document. Every slice that there is passes the
-- first test, which is there for values that are none.
abbrev pub made : Schema → Step → Doc → Result Doc Reason
made s (Replace from to sl structure) d =
    unless (is_slice sl) Range
    (unless (in_order (from ∷ to ∷ []) (length d.tokens)) Range
    (unless (keeps_structure structure (part from to d.tokens)) Structure
    (unless (depths_fit d.tokens from to sl) Depth
    (unless (parts_no_pair d.tokens (from ∷ to ∷ [])) Pair
    (unless (joins (compatible s) [] (spliced d.tokens from to sl)) Join
    (checked s (with_tokens d (plain (spliced d.tokens from to sl)))))))))
made s (ReplaceAround from to gap_from gap_to sl insert structure) d =
    unless (is_slice sl) Range
    (unless (in_order (from ∷ gap_from ∷ gap_to ∷ to ∷ []) (length d.tokens) && nat_le insert (slice_size sl)) Range
    (unless (keeps_structure structure (part from gap_from d.tokens) && keeps_structure structure (part gap_to to d.tokens)) Structure
    (unless (is_whole (part gap_from gap_to d.tokens)) Gap
    (unless (depths_fit d.tokens from to sl) Depth
    (unless (parts_no_pair d.tokens (from ∷ gap_from ∷ gap_to ∷ to ∷ []) && parts_no_pair (slice_tokens sl) (insert ∷ [])) Pair
    (unless (joins (compatible s) [] (spliced_around d.tokens from to gap_from gap_to sl insert)) Join
    (checked s (with_tokens d (plain (spliced_around d.tokens from to gap_from gap_to sl insert))))))))))
made s (AddMark from to mark) d = range_outcome s (mark_added s mark) from to d
made s (RemoveMark from to mark) d = range_outcome s (mark_removed s mark) from to d
made s (AddNodeMark pos mark) d = node_outcome s (add s mark) pos d
made s (RemoveNodeMark pos mark) d = node_outcome s (remove mark) pos d
made s (Attr pos name value) d =
    unless (in_order (pos ∷ []) (length d.tokens)) Range
    (unless (parts_no_pair d.tokens (pos ∷ [])) Pair
    (unless (starts_node (drop pos d.tokens)) NoNode
    (attr_outcome s (node_kind (drop pos d.tokens)) name value (λ i. node_valued i value pos d))))
made s (DocAttr name value) d = attr_outcome s d.kind name value (λ i. top_valued i value d)

-- the document, or the first reason, where the last is that the schema does not know the step
abbrev pub outcome : Schema → Step → Doc → Result Doc Reason
outcome s step d = and_unless (knows_step s step) NotInSchema (made s step d)
