-- The steps that take a step back.
use Rattle.std.specs.Prelude.{ℕ, ◌+◌, ◌-◌, Bool, true, false, ◌&&◌, cond, ◌==◌, List, [], ◌∷◌, length, take, drop, Option, Some, None, Result, Ok, Err}
use Rattle.pm_value.specs.Plain.{Plain}
use Rattle.pm_attrs.specs.Attrs.{same_attrs}
use Rattle.pm_marks.specs.declared.mark.Mark.{Mark}
use Rattle.pm_marks.specs.Sets.{same_marks, has}
use Rattle.pm_tokens.specs.Tokens.{Attrs, Marks, Token, Open, Close, Leaf, CodeUnit, Doc, marks_of}
use Rattle.pm_tokens.specs.Schemas.{Schema}
use Rattle.pm_tokens.specs.Scan.{closes_then_opens}
use Rattle.pm_tokens.specs.Slices.{Slice, slice_size, slice_tokens, cut, cut_around}
use Rattle.pm_meaning.specs.declared.reason.Reason.{Reason}
use Rattle.pm_meaning.specs.Steps.{Step, Replace, ReplaceAround, AddMark, RemoveMark, AddNodeMark, RemoveNodeMark, Attr, DocAttr}
use Rattle.pm_meaning.specs.Marked.{add, remove, mark_added, mark_removed, marked, node_marked}
use Rattle.pm_meaning.specs.Attributes.{place_among, value_at, node_kind, node_values}
use Rattle.pm_meaning.specs.Outcomes.{outcome}
use Rattle.pm_meaning.specs.Runs.{node_steps, run_steps}

-- ---- replace

-- what was cut out is put back in place of what was put in
abbrev pub replace_back : Doc → ℕ → ℕ → Slice → Step
replace_back d from to sl = Replace from (from + slice_size sl) (cut d.tokens from to) false

-- The same around the gap, where it stands now. It has `structure` where the step had it and both inserted parts are closes
-- followed by opens.
abbrev pub around_back : Doc → ℕ → ℕ → ℕ → ℕ → Slice → ℕ → Bool → Step
around_back d from to gap_from gap_to sl insert structure =
    let gap = gap_to - gap_from in
    let kept = structure && closes_then_opens (take insert (slice_tokens sl)) && closes_then_opens (drop insert (slice_tokens sl)) in
    ReplaceAround from ((from + slice_size sl) + gap) (from + insert) ((from + insert) + gap)
    (cut_around d.tokens from to gap_from gap_to) (gap_from - from) kept

-- ---- marks

-- equal tokens
abbrev pub same_token : Token → Token → Bool
same_token (Open k a m) (Open l b n) = (k == l) && same_attrs a b && same_marks same_attrs m n
same_token Close Close = true
same_token (Leaf k a m) (Leaf l b n) = (k == l) && same_attrs a b && same_marks same_attrs m n
same_token (CodeUnit u m) (CodeUnit v n) = (u == v) && same_marks same_attrs m n
same_token a b = false

abbrev pub same_tokens : List Token → List Token → Bool
same_tokens [] [] = true
same_tokens (x ∷ xs) (y ∷ ys) = same_token x y && same_tokens xs ys
same_tokens _ _ = false

-- the outcome is a document with these tokens
abbrev pub gives : Result Doc Reason → List Token → Bool
gives (Ok d) ts = same_tokens d.tokens ts
gives (Err r) ts = false

-- this one step where it gives the document back, else the others
abbrev pub one_or : Schema → Step → List Step → Doc → Doc → List Step
one_or s one others d next = cond (gives (outcome s one next) d.tokens) (one ∷ []) others

-- this one step, else the steps that give the marks back run by run
abbrev pub one_or_runs : Schema → Step → Doc → Doc → List Step
one_or_runs s one d next = one_or s one (run_steps s 0 None d.tokens next.tokens) d next

-- the first of these marks that is not in the new set
abbrev pub first_lost : Marks → Marks → Option (Mark Attrs)
first_lost [] new = None
first_lost (m ∷ ms) new = cond (has same_attrs new m) (first_lost ms new) (Some m)

-- the marks of the token at the head
abbrev pub node_marks : List Token → Marks
node_marks [] = []
node_marks (t ∷ ts) = marks_of t

abbrev pub added_back : ℕ → Mark Attrs → Option (Mark Attrs) → Step
added_back pos mark None = AddNodeMark pos mark
added_back pos mark (Some m) = AddNodeMark pos m

-- The step that takes an AddNodeMark back, by the old and the new set. Where the new set is as long as the old one, the first
-- old mark that it lacks is added, or the mark itself where it lacks none; else the mark is removed.
abbrev pub add_node_back : ℕ → Mark Attrs → Marks → Marks → Step
add_node_back pos mark old new = cond (length new == length old) (added_back pos mark (first_lost old new)) (RemoveNodeMark pos mark)

-- ---- attributes

-- the value that the named attribute of a type has among these
abbrev pub old_value : Schema → ℕ → List ℕ → Attrs → Plain
old_value s kind name values = value_at values (place_among (s.node_declares kind) name)

-- the attribute of the node at a position gets its old value back, and likewise that of the top node
abbrev pub attr_back : Schema → ℕ → List ℕ → Doc → Step
attr_back s pos name d = let here = drop pos d.tokens in Attr pos name (old_value s (node_kind here) name (node_values here))

abbrev pub doc_attr_back : Schema → List ℕ → Doc → Step
doc_attr_back s name d = DocAttr name (old_value s d.kind name d.attrs)

-- ---- all kinds

-- the steps that take a step back, which was made on this document
abbrev pub inverse : Schema → Step → Doc → List Step
inverse s (Replace from to sl structure) d = replace_back d from to sl ∷ []
inverse s (ReplaceAround from to gap_from gap_to sl insert structure) d = around_back d from to gap_from gap_to sl insert structure ∷ []
inverse s (AddMark from to mark) d = one_or_runs s (RemoveMark from to mark) d (marked (mark_added s mark) from to d)
inverse s (RemoveMark from to mark) d = one_or_runs s (AddMark from to mark) d (marked (mark_removed s mark) from to d)
inverse s (AddNodeMark pos mark) d =
    let old = node_marks (drop pos d.tokens) in
    one_or s (add_node_back pos mark old (add s mark old)) (node_steps pos old (add s mark old)) d (node_marked (add s mark) pos d)
inverse s (RemoveNodeMark pos mark) d =
    let old = node_marks (drop pos d.tokens) in
    one_or s (cond (has same_attrs old mark) (AddNodeMark pos mark) (RemoveNodeMark pos mark)) (node_steps pos old (remove mark old)) d (node_marked (remove mark) pos d)
inverse s (Attr pos name value) d = attr_back s pos name d ∷ []
inverse s (DocAttr name value) d = doc_attr_back s name d ∷ []
