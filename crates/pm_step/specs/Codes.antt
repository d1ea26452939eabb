-- Steps as tuples, by which a proof tells them apart.
use Rattle.std.specs.Prelude.{◌≡◌, ℕ, Bool, List, ◌⊎◌, refl}
use Rattle.std.specs.Coded.{Coded, code_by, coded×, coded⊎, coded_ℕ, coded_bool, coded_list}
use Rattle.std.proofs.Common.{inl, inr}
use Rattle.pm_value.specs.Plain.{Plain}
use Rattle.pm_value.specs.Codes.{plain_code}
use Rattle.pm_marks.specs.declared.mark.Mark.{Mark}
use Rattle.pm_tokens.specs.Tokens.{Attrs}
use Rattle.pm_tokens.specs.Slices.{Slice}
use Rattle.pm_node.specs.Codes.{mark_code}
use Rattle.pm_slice.specs.Sides.{slice_code}
use Rattle.pm_meaning.specs.Steps.{Step, Replace, ReplaceAround, AddMark, RemoveMark, AddNodeMark, RemoveNodeMark, Attr, DocAttr}

-- two positions
abbrev pub Ends : Type 0
Ends = ℕ × ℕ

abbrev pub ends_code : Coded Ends
ends_code = coded× coded_ℕ coded_ℕ

-- a name and a value
abbrev pub Named : Type 0
Named = List ℕ × Plain

abbrev pub named_code : Coded Named
named_code = coded× (coded_list coded_ℕ) plain_code

-- a replace, a replaceAround, marks of a range or of a node, which are added or removed, and attributes of a node or of the top
abbrev pub Parts : Type 0
Parts =
    (Ends × (Slice × Bool)) ⊎ (((Ends × Ends) × ((Slice × ℕ) × Bool))
    ⊎ (((Ends × Mark Attrs) ⊎ (Ends × Mark Attrs)) ⊎ (((ℕ × Mark Attrs) ⊎ (ℕ × Mark Attrs))
    ⊎ ((ℕ × Named) ⊎ Named))))

abbrev pub parts_code : Coded Parts
parts_code =
    coded⊎ (coded× ends_code (coded× slice_code coded_bool))
    (coded⊎ (coded× (coded× ends_code ends_code) (coded× (coded× slice_code coded_ℕ) coded_bool))
    (coded⊎ (coded⊎ (coded× ends_code mark_code) (coded× ends_code mark_code))
    (coded⊎ (coded⊎ (coded× coded_ℕ mark_code) (coded× coded_ℕ mark_code))
    (coded⊎ (coded× coded_ℕ named_code) named_code))))

abbrev pub to_parts : Step → Parts
to_parts (Replace from to slice structure) = inl ((from, to), (slice, structure))
to_parts (ReplaceAround from to gap_from gap_to slice insert structure) = inr (inl (((from, to), (gap_from, gap_to)), ((slice, insert), structure)))
to_parts (AddMark from to mark) = inr (inr (inl (inl ((from, to), mark))))
to_parts (RemoveMark from to mark) = inr (inr (inl (inr ((from, to), mark))))
to_parts (AddNodeMark pos mark) = inr (inr (inr (inl (inl (pos, mark)))))
to_parts (RemoveNodeMark pos mark) = inr (inr (inr (inl (inr (pos, mark)))))
to_parts (Attr pos name value) = inr (inr (inr (inr (inl (pos, (name, value))))))
to_parts (DocAttr name value) = inr (inr (inr (inr (inr (name, value)))))

abbrev pub from_parts : Parts → Step
from_parts (inl p) = Replace p.0.0 p.0.1 p.1.0 p.1.1
from_parts (inr (inl p)) = ReplaceAround p.0.0.0 p.0.0.1 p.0.1.0 p.0.1.1 p.1.0.0 p.1.0.1 p.1.1
from_parts (inr (inr (inl (inl p)))) = AddMark p.0.0 p.0.1 p.1
from_parts (inr (inr (inl (inr p)))) = RemoveMark p.0.0 p.0.1 p.1
from_parts (inr (inr (inr (inl (inl p))))) = AddNodeMark p.0 p.1
from_parts (inr (inr (inr (inl (inr p))))) = RemoveNodeMark p.0 p.1
from_parts (inr (inr (inr (inr (inl p))))) = Attr p.0 p.1.0 p.1.1
from_parts (inr (inr (inr (inr (inr p))))) = DocAttr p.0 p.1

pub parts_back : (s : Step) → from_parts (to_parts s) ≡ s
parts_back (Replace from to slice structure) = refl
parts_back (ReplaceAround from to gap_from gap_to slice insert structure) = refl
parts_back (AddMark from to mark) = refl
parts_back (RemoveMark from to mark) = refl
parts_back (AddNodeMark pos mark) = refl
parts_back (RemoveNodeMark pos mark) = refl
parts_back (Attr pos name value) = refl
parts_back (DocAttr name value) = refl

abbrev pub step_code : Coded Step
step_code = code_by Parts parts_code to_parts from_parts parts_back
