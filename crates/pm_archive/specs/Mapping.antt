-- Where positions of a document go over entries of its log.
use Rattle.std.specs.Prelude.{ℕ, nat_lt, nat_le, Bool, true, false, List, [], ◌∷◌, ◌++◌, codes, decimal, Option, Some, None, if◌then◌else◌}
use Rattle.std.specs.List.{list_all}
use Rattle.serde_json.specs.Written.{comma_if}
use Rattle.pm_tokens.specs.Tokens.{Doc as Document}
use Rattle.pm_map.specs.declared.step_map.Moved.{Moved}
use Rattle.pm_meaning.specs.Steps.{Step}
use Rattle.pm_change.specs.declared.no_step.NoStep.TheVariants.{Range}
use Rattle.pm_apply.specs.Changes.{meaning}
use Rattle.pm_authority.specs.declared.named.Named.{Named}
use Rattle.pm_client.specs.declared.cursors.Cursor.{Cursor}
use Rattle.pm_anchors.specs.Anchors.{places}
use Rattle.pm_talk.specs.Texts.{version_text}
use Rattle.pm_told.specs.Texts.{none_text}
use Rattle.pm_talk.specs.Live.{version_end}
use Rattle.pm_archive.specs.Texts.{truth_text}

-- a position, and whether the token on its side was taken out
abbrev pub place_text : Moved → List ℕ
place_text m = codes "[" ++ (decimal m.pos ++ (codes "," ++ (truth_text m.deleted ++ codes "]")))

-- positions, up to the end of the list
abbrev pub place_items : Bool → List Moved → List ℕ
place_items later [] = codes "]"
place_items later (m ∷ ms) = comma_if later ++ (place_text m ++ place_items true ms)

-- positions in the document at this version
abbrev pub places_text : List Moved → ℕ → List ℕ
places_text ms version = codes "{\"positions\":[" ++ (place_items false ms ++ version_end version)

-- whether each is a position of a document of this size
abbrev pub all_within : ℕ → List Cursor → Bool
all_within size anchors = list_all (λ a. nat_le a.pos size) anchors

-- where positions of this document go over the entries that lead from it to the version, if each is within it
abbrev pub moved_text : ℕ → List (Named Step) → List Cursor → Option Document → List ℕ
moved_text to entries anchors (Some doc) =
    if all_within (meaning.size doc) anchors then places_text (places meaning entries anchors) to else none_text Range
moved_text to entries anchors None = []

-- the same between two versions, of which the second may not be the earlier one, nor past the document's, which is `last`
abbrev pub between_text : ℕ → ℕ → ℕ → List (Named Step) → List Cursor → Option Document → List ℕ
between_text last from to entries anchors doc =
    if nat_lt last to then version_text last
    else (if nat_lt to from then none_text Range
    else moved_text to entries anchors doc)
