-- A client that comes at any version stands to a log: one whose steps, all of others, put nothing into the document.
use Rattle.std.specs.Prelude.{◌≡◌, ℕ, zero, suc, ◌<◌, ◌^◌, false, true, ◌&&◌, ◌==◌, nat_le, List, [], ◌∷◌, length, Some, Result, Ok, refl}
use Rattle.std.specs.List.{AllByRecursion as Each}
use Rattle.std.proofs.Common.{sym, ap, ◌∙◌, subst, arith}
use Rattle.std.proofs.lemmas.Bool.{le-leb, and_from}
use Rattle.pm_tokens.specs.Tokens.{Token, Doc as Document, with_tokens}
use Rattle.pm_tokens.specs.Faults.{Valid}
use Rattle.pm_tokens.specs.Scan.{owned, joins}
use Rattle.pm_tokens.specs.Schemas.{Schema as Rules, compatible}
use Rattle.pm_tokens.specs.Slices.{Slice, depths_fit}
use Rattle.pm_tokens.proofs.ScanLaws.{plain-owned, whole-of, joins-self}
use Rattle.pm_tokens.proofs.SchemaLaws.{compatible-itself}
use Rattle.pm_schema.specs.Documents.{documents_of}
use Rattle.pm_schema.specs.declared.schema.Schema.{Schema}
use Rattle.pm_meaning.specs.Outcomes.{checked, in_order, outcome}
use Rattle.pm_meaning.specs.Steps.{Step, Replace}
use Rattle.pm_meaning.specs.declared.reason.Reason.{Reason}
use Rattle.pm_meaning.specs.declared.reason.Reason.TheVariants.{Range, Depth, Join}
use Rattle.pm_meaning.proofs.OutcomeLaws.{ok-unless, known-made, valid-checks}
use Rattle.pm_change.specs.Changes.{then_some, fold}
use Rattle.pm_apply.specs.Changes.{meaning}
use Rattle.pm_authority.specs.declared.named.Named.{Named}
use Rattle.pm_authority.specs.Runs.{changes_of, AllApply}
use Rattle.pm_client.specs.Clients.{entered_client}
use Rattle.pm_client.specs.Kins.{IsForeign, Stands}
use Rattle.pm_client.proofs.Entering.{kin-entered}
use Rattle.pm_asked.specs.declared.entry.Entry.{Entry}
use Rattle.pm_told.specs.Showing.{DocClient}
use Rattle.pm_editor.specs.declared.editor.Editor.{Editor}
use Rattle.pm_editor.specs.Editors.{IsEditor}
use Rattle.pm_editor.specs.Talk.{entered}
use Rattle.pm_editor.proofs.Openings.{entering, entered-is}

abbrev nothing : Slice
nothing = record { content = []; open_start = 0; open_end = 0 }

-- the step that puts nothing
abbrev idle : Step
idle = Replace 0 0 nothing false

idle-outcome : (s : Rules) (d : Document) → Valid s d → outcome s idle d ≡ Ok d
idle-outcome s d v =
    known-made s idle d refl
    ∙ ok-unless (in_order (0 ∷ 0 ∷ []) (length d.tokens)) Range _ d (and_from true (nat_le 0 (length d.tokens)) refl (le-leb 0 (length d.tokens) (omega arith)))
    (ok-unless (depths_fit d.tokens 0 0 nothing) Depth _ d (and_from (nat_le 0 0) (0 == 0) refl refl)
    (ok-unless (joins (compatible s) [] (owned [] d.tokens)) Join _ d (joins-self (compatible s) (compatible-itself s) [] d.tokens (whole-of d.tokens v.whole).met)
    (subst (λ (ts : List Token). checked s (with_tokens d ts) ≡ Ok d) (sym (plain-owned [] d.tokens)) (valid-checks s d v))))

-- so many such steps of others
idles : ℕ → List (Named Step)
idles zero = []
idles (suc n) = record { name = record { client = 1; serial = 0 }; change = idle } ∷ idles n

idles-length : (n : ℕ) → n ≡ length (idles n)
unfolding idles
idles-length zero = refl
idles-length (suc n) = ap suc (idles-length n)

idles-foreign : (n : ℕ) → Each (IsForeign 0) (idles n)
unfolding idles
idles-foreign zero = tt
idles-foreign (suc n) = (λ (e : 1 ≡ 0). omega (arith, e), idles-foreign n)

module _ (s : Schema) (d : Document) (v : Valid (documents_of s.spec) d) where
  idles-apply : (n : ℕ) → AllApply meaning s d (idles n) d
  unfolding idles
  idles-apply zero = refl
  idles-apply (suc n) =
      ap (λ (r : Result Document Reason). then_some meaning s r (λ (x : Document). fold meaning s x (changes_of (idles n)))) (idle-outcome (documents_of s.spec) d v) ∙ idles-apply n

  entered-stands : (version : ℕ) → version < 2 ^ 64 → Stands meaning s (entered_client 0 version d)
  entered-stands version short = record {
    first = d;
    log = idles version;
    short = subst (λ (n : ℕ). n < 2 ^ 64) (idles-length version) short;
    kin = kin-entered meaning s 0 version d d (idles version) v (idles-apply version) (idles-length version) (idles-foreign version);
  }

  pub entered-good : (entry : Entry) → entry.version < 2 ^ 64 → IsEditor (entered s d entry)
  entered-good entry short = record { stands = entered-stands entry.version short; bare = (refl, refl); name = refl; serials = refl }

  -- the same of a client that is equal to the one that comes
  pub entering-good : (entry : Entry) (client : DocClient) → client ≡ entered_client 0 entry.version d → entry.version < 2 ^ 64 → IsEditor (entering s client entry.id)
  entering-good entry client is short = subst (λ (e : Editor). IsEditor e) (sym (entered-is s d entry client is)) (entered-good entry short)
