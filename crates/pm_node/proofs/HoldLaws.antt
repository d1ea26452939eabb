-- Content without a fault is that of a valid document.
use Rattle.std.specs.Prelude.{◌≡◌, ℕ, ◌+◌, true, ◌&&◌, Option, Some, None, List, [], ◌∷◌}
use Rattle.std.proofs.Common.{refl, ap, ◌∙◌}
use Rattle.pm_tokens.specs.Tokens.{Marks, Token, Doc, with_tokens}
use Rattle.pm_tokens.specs.Schemas.{Schema, max_depth, node_attrs}
use Rattle.pm_tokens.specs.Scan.{head_of}
use Rattle.pm_tokens.specs.Kids.{kids}
use Rattle.pm_tokens.specs.Faults.{attrs_fit, marks_fit, content_fits, high_of, Valid, fault_unless, under, first_fault, first_broken, no_marks, token_fits, place_from, top_fits, fault_place}
use Rattle.pm_tokens.proofs.ScanLaws.{whole-of}
use Rattle.pm_tokens.proofs.BalanceLaws.{whole-balanced}
use Rattle.pm_tokens.proofs.PairLaws.{first-none, none-first}
use Rattle.pm_tokens.proofs.DepthLaws.{depths-bound}
use Rattle.pm_tokens.proofs.ValidLaws.{token-fits, valid-tokens, none-some, none-unless}
use Rattle.pm_node.specs.Places.{place_in, least}
use Rattle.pm_node.specs.Changes.{Holds}
use Rattle.pm_node.proofs.PlaceLaws.{moved, place-least}
use Rattle.pm_node.proofs.ChangeLaws.{fault-moved}
use Rattle.std.proofs.lemmas.Bool.{and_from}

-- where no place has a fault, neither reading finds one
both-none : (s : Schema) (ps : List ℕ) (high : Option Marks) (at : ℕ) (ts : List Token) → place_from s ps high ts ≡ None → (first_fault s at ps ts ≡ None) × (first_broken at high ts ≡ None)
both-none s ps high at [] h = (refl, refl)
both-none s ps high at (t ∷ ts) h =
    let f = first-none (token_fits s (head_of ps) high t ts) (place_from s (under ps t) (high_of t) ts) h in
    let w = token-fits s (head_of ps) high t ts f.0 in
    let i = both-none s (under ps t) (high_of t) (at + 1) ts f.1 in (
      none-some (fault_unless (attrs_fit s t) (marks_fit s (head_of ps) t) (content_fits s t ts) at) (first_fault s (at + 1) (under ps t) ts)
          (none-unless (attrs_fit s t) (marks_fit s (head_of ps) t) (content_fits s t ts) at w.attrs w.marks w.content) i.0,
      rw w.pair i.1,
    )

-- the content of a valid document has no fault
pub valid-holds : (s : Schema) (d : Doc) → Valid s d → Holds s d.kind max_depth d.tokens
valid-holds s d v =
    let h = valid-tokens s d v in
    record {
      faultless = λ at ps. fault-moved s (whole-balanced d.tokens (whole-of d.tokens v.whole)) d.kind at at [] ps (both-none s (d.kind ∷ []) None at d.tokens h).0;
      unbroken = λ at. (both-none s (d.kind ∷ []) None at d.tokens h).1;
      shallow = depths-bound max_depth d.tokens v.depth;
      accepted = v.top_content;
    }

moved-none : (at : ℕ) (o : Option ℕ) → moved at o ≡ None → o ≡ None
moved-none at None h = refl
moved-none at (Some p) h = absurd (cc)

-- and with other content that has none, no place of the document has a fault
pub holds-place : (s : Schema) (d : Doc) (ts : List Token) → Valid s d → Holds s d.kind max_depth ts → fault_place s (with_tokens d ts) ≡ None
holds-place s d ts v h =
    let top : top_fits s (with_tokens d ts) ≡ true =
    and_from (node_attrs s d.kind d.attrs && no_marks d.marks) (s.accepts d.kind (kids s.text 0 None ts))
    (and_from (node_attrs s d.kind d.attrs) (no_marks d.marks) v.top_attrs (ap no_marks v.top_marks)) h.accepted in
    let below : least (place_in (first_broken 0 None ts)) (place_in (first_fault s 0 (d.kind ∷ []) ts)) ≡ None = rw (h.unbroken 0, h.faultless 0 []) refl in
    none-first (top_fits s (with_tokens d ts)) (place_from s (d.kind ∷ []) None ts) top
    (moved-none 0 (place_from s (d.kind ∷ []) None ts) (place-least s 0 (d.kind ∷ []) None ts ∙ below))
