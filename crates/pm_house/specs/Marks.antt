-- What is counted of a house before and after a line, to tell whether the line changed it.
use Rattle.std.specs.Prelude.{◌≡◌, ℕ, Bool, true, false, is_some, List, length, slice_get, ◌==◌, ◌&&◌, Option, Some, None, Result, Ok, Err, option_map}
use Rattle.std.specs.List.{list_any}
use Rattle.std.specs.Str.{bytes_eq}
use Rattle.pm_schema.specs.Names.{place_of}
use Rattle.pm_head.specs.declared.code.Code.{Code}
use Rattle.pm_archive.specs.declared.archive.Archive.{Archive}
use Rattle.pm_house.specs.declared.house.House.{House}
use Rattle.pm_house.specs.declared.mark.Mark.{Mark}
use Rattle.pm_house.specs.declared.mark.Sizes.{Sizes}
use Rattle.pm_house.specs.Found.{names_of}

-- the first kept version, and how many entries the log has
abbrev pub sizes_of : Archive → Sizes
sizes_of a = record { from = a.from; entries = length a.log }

-- those of the document at this place, if there is one
abbrev pub sizes_at : House → Option ℕ → Option Sizes
sizes_at h None = None
sizes_at h (Some place) = option_map sizes_of (slice_get h.documents place)

-- how many schemas and documents there are, and the sizes of the document at this place
abbrev pub mark_of : House → Option ℕ → Mark
mark_of h place = record { schemas = length h.schemas; documents = length h.documents; at = sizes_at h place }

-- the place of the document that a line names, if there is one
abbrev pub IsPlace : House → Result (List ℕ) Code → Option ℕ → Type 0
IsPlace h (Ok name) place = (place ≡ place_of name (names_of h.documents)) × (is_some place ≡ list_any (bytes_eq name) (names_of h.documents))
IsPlace h (Err code) place = place ≡ None

abbrev pub same_sizes : Option Sizes → Option Sizes → Bool
same_sizes None None = true
same_sizes None (Some b) = false
same_sizes (Some a) None = false
same_sizes (Some a) (Some b) = (a.from == b.from) && (a.entries == b.entries)

abbrev pub same_mark : Mark → Mark → Bool
same_mark a b = (a.schemas == b.schemas) && (a.documents == b.documents) && same_sizes a.at b.at
