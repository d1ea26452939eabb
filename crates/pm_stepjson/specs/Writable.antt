-- What can be written and is read again.
use Rattle.std.specs.Prelude.{◌≡◌, ℕ, ◌<◌, ◌≤◌, ◌^◌, true}
use Rattle.pm_value.specs.Plain.{depth}
use Rattle.pm_tokens.specs.Scan.{is_whole, deepest}
use Rattle.pm_tokens.specs.Slices.{Slice, is_slice}
use Rattle.pm_schema.specs.declared.spec.SchemaSpec.{SchemaSpec}
use Rattle.pm_docjson.specs.Writable.{mark_fits, AreWritable}
use Rattle.pm_meaning.specs.Steps.{Step, Replace, ReplaceAround, AddMark, RemoveMark, AddNodeMark, RemoveNodeMark, Attr, DocAttr}

-- the step's mark can be written, or the content of its slice; a value nests at most four levels deep
abbrev pub CanBeWritten : SchemaSpec → Step → Type 0
CanBeWritten s (Replace from to sl structure) = AreWritable s sl.content
CanBeWritten s (ReplaceAround from to gap_from gap_to sl insert structure) = AreWritable s sl.content
CanBeWritten s (AddMark from to mark) = mark_fits s mark ≡ true
CanBeWritten s (RemoveMark from to mark) = mark_fits s mark ≡ true
CanBeWritten s (AddNodeMark pos mark) = mark_fits s mark ≡ true
CanBeWritten s (RemoveNodeMark pos mark) = mark_fits s mark ≡ true
CanBeWritten s (Attr pos name value) = depth value ≤ 4
CanBeWritten s (DocAttr name value) = depth value ≤ 4

-- the step's slice is one, as that of every step of the code is
abbrev pub HasSlice : Step → Type 0
HasSlice (Replace from to sl structure) = is_slice sl ≡ true
HasSlice (ReplaceAround from to gap_from gap_to sl insert structure) = is_slice sl ≡ true
HasSlice (AddMark from to mark) = Unit {0}
HasSlice (RemoveMark from to mark) = Unit {0}
HasSlice (AddNodeMark pos mark) = Unit {0}
HasSlice (RemoveNodeMark pos mark) = Unit {0}
HasSlice (Attr pos name value) = Unit {0}
HasSlice (DocAttr name value) = Unit {0}

-- a number that is read
abbrev pub IsCount : ℕ → Type 0
IsCount n = n < 2 ^ 32

-- the step's numbers are read: each is 4,294,967,295 at most
abbrev pub HasCounts : Step → Type 0
HasCounts (Replace from to sl structure) = IsCount from × IsCount to
HasCounts (ReplaceAround from to gap_from gap_to sl insert structure) = IsCount from × IsCount to × IsCount gap_from × IsCount gap_to × IsCount insert
HasCounts (AddMark from to mark) = IsCount from × IsCount to
HasCounts (RemoveMark from to mark) = IsCount from × IsCount to
HasCounts (AddNodeMark pos mark) = IsCount pos
HasCounts (RemoveNodeMark pos mark) = IsCount pos
HasCounts (Attr pos name value) = IsCount pos
HasCounts (DocAttr name value) = Unit {0}

-- The slice's content is a whole number of nodes, as that of every slice is, and each position in it stands in at most n nodes.
pub record IsNested (n : ℕ) (sl : Slice) : Type 0 where
  pub whole : is_whole sl.content ≡ true
  pub deep : deepest 0 sl.content ≤ n

-- the step's slice is so
abbrev pub NestsWithin : ℕ → Step → Type 0
NestsWithin n (Replace from to sl structure) = IsNested n sl
NestsWithin n (ReplaceAround from to gap_from gap_to sl insert structure) = IsNested n sl
NestsWithin n (AddMark from to mark) = Unit {0}
NestsWithin n (RemoveMark from to mark) = Unit {0}
NestsWithin n (AddNodeMark pos mark) = Unit {0}
NestsWithin n (RemoveNodeMark pos mark) = Unit {0}
NestsWithin n (Attr pos name value) = Unit {0}
NestsWithin n (DocAttr name value) = Unit {0}

-- The step can be stored as text: it can be written, its numbers are ones that are read, and its slice nests no deeper than a
-- document, so that the text is read as the JSON value and the value as this step.
pub record IsStorable (s : SchemaSpec) (step : Step) : Type 0 where
  pub written : CanBeWritten s step
  pub counts : HasCounts step
  pub nested : NestsWithin 48 step
