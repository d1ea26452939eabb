-- The first candidate that fits.
use Rattle.std.specs.Prelude.{ℕ, false, if◌then◌else◌, Option, Some, None, List, [], ◌∷◌, map, is_ok}
use Rattle.pm_tokens.specs.Tokens.{Token, Doc}
use Rattle.pm_tokens.specs.Slices.{Slice, is_slice}
use Rattle.pm_tokens.specs.Schemas as documents
use Rattle.pm_slice.specs.Sides.{sides, or_none}
use Rattle.pm_meaning.specs.Steps.{Step, Replace}
use Rattle.pm_meaning.specs.Outcomes.{outcome}
use Rattle.pm_schema.specs.declared.spec.SchemaSpec.{SchemaSpec}
use Rattle.pm_schema.specs.declared.schema.Schema.{Schema}
use Rattle.pm_schema.specs.Documents.{documents_of}
use Rattle.pm_fit.specs.Candidates.{Candidate, Sided, Wrapped, candidates}
use Rattle.pm_fit.specs.Paths.{first_some}
use Rattle.pm_fit.specs.Wrappings.{wrapping_at, in_nodes}

-- ---- the slice that a candidate is

-- the content with these open sides, where that is a slice; one of no tokens is the empty slice
abbrev pub sided : List Token → ℕ → ℕ → Option Slice
sided content open_start open_end =
    if is_slice (sides content open_start open_end) then Some (or_none (sides content open_start open_end)) else None

-- the content in the nodes of a wrapping, with open sides 0, where the wrapping was found and is not empty
abbrev pub wrapped : SchemaSpec → Option (List ℕ) → List Token → Option Slice
wrapped s None content = None
wrapped s (Some []) content = None
wrapped s (Some (k ∷ ks)) content = sided (in_nodes s (k ∷ ks) content) 0 0

-- the slice that the candidate is, if it is one
abbrev pub slice_of : Schema → Doc → ℕ → Candidate → Option Slice
slice_of s d from (Sided content open_start open_end) = sided content open_start open_end
slice_of s d from (Wrapped content) = wrapped s.spec (wrapping_at s d from content) content

-- ---- the first that fits

-- the step that replaces from..to by the slice, where that gives a document
abbrev pub step_with : documents.Schema → Doc → ℕ → ℕ → Option Slice → Option Step
step_with s d from to None = None
step_with s d from to (Some sl) = if is_ok (outcome s (Replace from to sl false) d) then Some (Replace from to sl false) else None

-- the step by the candidate
abbrev pub step_by : Schema → Doc → ℕ → ℕ → Candidate → Option Step
step_by s d from to c = step_with (documents_of s.spec) d from to (slice_of s d from c)

-- the step of the first of these candidates that has one
abbrev pub first_step : Schema → Doc → ℕ → ℕ → List Candidate → Option Step
first_step s d from to cs = first_some (map (step_by s d from to) cs)

-- the step that fits the slice in at from..to: that of the first of all candidates that has one
unfoldable pub fit_step : Schema → Doc → ℕ → ℕ → Slice → Option Step
fit_step s d from to sl = first_step s d from to (candidates d from to sl)
