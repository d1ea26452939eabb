-- The step of each edit, or why there is none.
use Rattle.std.specs.Prelude.{ℕ, ◌+◌, ◌-◌, Bool, true, false, not, ◌&&◌, ◌||◌, ◌==◌, nat_lt, Option, Some, None, List, [], ◌∷◌, length, drop, Result, Ok, Err}
use Rattle.pm_change.specs.declared.no_step.NoStep.{NoStep}
use Rattle.pm_change.specs.declared.no_step.NoStep.TheVariants.{Range, NotThere, NoFit}
use Rattle.pm_value.specs.Plain.{Plain}
use Rattle.pm_marks.specs.declared.mark.Mark.{Mark}
use Rattle.pm_tokens.specs.Tokens.{Attrs, Token, Doc}
use Rattle.pm_tokens.specs.Scan.{is_whole, part, depth_at}
use Rattle.pm_tokens.specs.Slices.{Slice, slice_size}
use Rattle.pm_slice.specs.Sides.{no_slice}
use Rattle.pm_meaning.specs.Steps.{Step, Replace, ReplaceAround, AddMark, RemoveMark, Attr, DocAttr}
use Rattle.pm_meaning.specs.Marked.{starts_node}
use Rattle.pm_meaning.specs.Outcomes.{in_order}
use Rattle.pm_schema.specs.declared.schema.Schema.{Schema}
use Rattle.pm_schema.specs.Types as types
use Rattle.pm_resolve.specs.Places.{marks_at, inclusive_in}
use Rattle.pm_fit.specs.Fits.{fit_step}
use Rattle.pm_edit.specs.Nodes.{node_at, behind, meet, closed, text_slice, empty_node, split_slice}

-- ---- refusals

-- what an edit gives
abbrev pub Answer : Type 0
Answer = Result Step NoStep

-- refused where the test is true
abbrev pub refuse : NoStep → Bool → Answer → Answer
refuse reason true answer = Err reason
refuse reason false answer = answer

-- refused where the positions are not in order within the document
abbrev pub in_range : Doc → List ℕ → Answer → Answer
in_range d positions answer = refuse Range (not (in_order positions (length d.tokens))) answer

-- the step that fits the slice in
abbrev pub fitted : Option Step → Answer
fitted None = Err NoFit
fitted (Some step) = Ok step

-- what is said of the node that begins at a position; refused where none with an open does
abbrev pub of_node : (Doc → Answer) → Option Doc → Answer
of_node says None = Err NotThere
of_node says (Some node) = says node

-- nodes of the type have no content; a type that is none of the schema's has none
abbrev pub is_leaf : Schema → ℕ → Bool
is_leaf s kind = types.is_leaf (types.node_at s.spec kind)

-- ---- text, slices and nodes that are fitted in

-- Text takes the marks at `from`. A text is given by its units.
abbrev pub insert_text : Schema → Doc → (from to : ℕ) → List ℕ → Answer
insert_text s d from to units =
    in_range d (from ∷ to ∷ [])
    (refuse NotThere ((from == to) && (length units == 0))
    (fitted (fit_step s d from to (text_slice (marks_at (inclusive_in s.spec) d from) units))))

abbrev pub delete : Schema → Doc → (from to : ℕ) → Answer
delete s d from to =
    in_range d (from ∷ to ∷ [])
    (refuse NotThere (from == to)
    (fitted (fit_step s d from to no_slice)))

abbrev pub paste : Schema → Doc → (from to : ℕ) → Slice → Answer
paste s d from to slice =
    in_range d (from ∷ to ∷ [])
    (refuse NotThere ((from == to) && (slice_size slice == 0))
    (fitted (fit_step s d from to slice)))

-- a node is given by its tokens
abbrev pub insert_node : Schema → Doc → (pos : ℕ) → List Token → Answer
insert_node s d pos node =
    in_range d (pos ∷ [])
    (fitted (fit_step s d pos pos (closed node)))

-- ---- structure

-- the `depth` innermost nodes around the position end there, and nodes with the same type, attributes and marks begin
abbrev pub split : Doc → (pos depth : ℕ) → Answer
split d pos depth =
    let around = depth_at d.tokens pos in
    in_range d (pos ∷ [])
    (refuse NotThere ((depth == 0) || nat_lt around depth)
    (Ok (Replace pos pos (split_slice d pos (around - depth) depth) true)))

-- the closes and opens around the position are taken out
abbrev pub join : Doc → (pos depth : ℕ) → Answer
join d pos depth =
    in_range d (pos ∷ [])
    (refuse NotThere ((depth == 0) || not (meet d pos depth))
    (Ok (Replace (pos - depth) (pos + depth) no_slice true)))

-- the range comes to stand in a node of the type, without marks
abbrev pub wrap : Schema → Doc → (from to kind : ℕ) → Attrs → Answer
wrap s d from to kind attrs =
    in_range d (from ∷ to ∷ [])
    (refuse NotThere ((from == to) || not (is_whole (part from to d.tokens)) || is_leaf s kind)
    (Ok (ReplaceAround from to from to (empty_node kind attrs []) 1 true)))

-- the node's open and close are taken out
abbrev pub lift : Doc → (pos : ℕ) → Answer
lift d pos =
    in_range d (pos ∷ [])
    (of_node (λ node. let end = behind pos node in Ok (ReplaceAround pos end (pos + 1) (end - 1) no_slice 0 true)) (node_at d pos))

-- the node comes to be of the type, and keeps its marks
abbrev pub set_type : Schema → Doc → (pos kind : ℕ) → Attrs → Answer
set_type s d pos kind attrs =
    in_range d (pos ∷ [])
    (refuse NotThere (is_leaf s kind)
    (of_node (λ node. let end = behind pos node in Ok (ReplaceAround pos end (pos + 1) (end - 1) (empty_node kind attrs node.marks) 1 true)) (node_at d pos)))

-- ---- marks of a range

abbrev pub add_mark : Doc → (from to : ℕ) → Mark Attrs → Answer
add_mark d from to mark =
    in_range d (from ∷ to ∷ [])
    (refuse NotThere (from == to)
    (Ok (AddMark from to mark)))

abbrev pub remove_mark : Doc → (from to : ℕ) → Mark Attrs → Answer
remove_mark d from to mark =
    in_range d (from ∷ to ∷ [])
    (refuse NotThere (from == to)
    (Ok (RemoveMark from to mark)))

-- ---- attributes

-- The attribute of the node that begins at the position gets the value. Whether the node's type has the attribute, and whether it
-- may have the value, is asked where the step is applied.
abbrev pub set_attr : Doc → (pos : ℕ) → List ℕ → Plain → Answer
set_attr d pos attr value =
    in_range d (pos ∷ [])
    (refuse NotThere (not (starts_node (drop pos d.tokens)))
    (Ok (Attr pos attr value)))

-- the same of the document's top node
abbrev pub set_doc_attr : List ℕ → Plain → Answer
set_doc_attr attr value = Ok (DocAttr attr value)
