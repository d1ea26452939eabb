-- What is answered where an authority's entries are taken.
use Rattle.std.specs.Prelude.{◌≡◌, ℕ, ◌+◌, ◌-◌, ◌≤◌, ◌<◌, nat_le, nat_lt, Bool, false, List, [], ◌∷◌, length, drop, refl, if◌then◌else◌}
use Rattle.std.proofs.Common.{sym, ap, ◌∙◌, subst, arith}
use Rattle.std.proofs.lemmas.Bool.{lt-leb, le-ltb}
use Rattle.pm_meaning.specs.Steps.{Step}
use Rattle.pm_meaning.specs.declared.reason.Reason.{Reason}
use Rattle.pm_apply.specs.Changes.{meaning}
use Rattle.pm_authority.specs.declared.message.Answer.TheVariants.{Entries}
use Rattle.pm_client.specs.declared.taken.Taken.{Taken}
use Rattle.pm_client.specs.Clients.{taken}
use Rattle.pm_remote.specs.Hearings.{heard, IsRefusal}
use Rattle.pm_remote.specs.declared.received.ReceiveError.{ReceiveError}
use Rattle.pm_remote.specs.declared.received.ReceiveError.TheVariants.{Refused}
use Rattle.pm_told.specs.declared.preview.TheConstants.{OTHER}
use Rattle.pm_told.specs.declared.preview.Preview.{Preview}
use Rattle.pm_told.specs.Previews.{IsPreview, preview_text}
use Rattle.pm_told.specs.Showing.{DocClient}
use Rattle.pm_editor.specs.declared.editor.Editor.{Editor}
use Rattle.pm_editor.specs.Editors.{with_client, front, run_answer, middle_answer, past_answer, entries_answer}
use Rattle.pm_editor.proofs.Views.{never-refused, others-run, refusal-within, same-text}

if-false : {X : Type 0} (b : Bool) (p q : X) → b ≡ false → (if b then p else q) ≡ q
if-false b p q h = rw h refl

module _ (e : Editor) where
  -- entries that go past the version, and begin at it or before
  pub entries-are : (owners : List Bool) (steps : List Step) (end skipped own : ℕ) (rest : List Step) → e.client.version < end → end - length steps ≤ e.client.version
      → skipped ≡ e.client.version - (end - length steps) → own ≡ front (drop skipped owners) (length e.client.pending) → rest ≡ drop (skipped + own) steps
      → entries_answer e owners steps end ≡ past_answer e skipped own rest end
  entries-are owners steps end skipped own rest past begins skipped_is own_is rest_is =
      let most : ℕ = length e.client.pending in
      if-false (nat_le end e.client.version) _ _ (lt-leb end e.client.version past)
      ∙ if-false (nat_lt e.client.version (end - length steps)) _ _ (le-ltb e.client.version (end - length steps) begins)
      ∙ ap (λ (k : ℕ). past_answer e k (front (drop k owners) most) (drop (k + front (drop k owners) most) steps) end) (sym skipped_is)
      ∙ ap (λ (n : ℕ). past_answer e skipped n (drop (skipped + n) steps) end) (sym own_is)
      ∙ ap (λ (l : List Step). past_answer e skipped own l end) (sym rest_is)

  module _ (skipped own version : ℕ) (foreign : List Step) (p : Preview) (is : IsPreview e.schema e.client own foreign p) where
    -- others' steps that were reckoned are taken
    pub taken-is : 0 < length foreign
        → past_answer e skipped own foreign version
        ≡ (
          preview_text e.schema.spec (drop own e.client.pending) own foreign p version,
          with_client e (taken meaning e.schema e.client (Entries e.client.version (heard e.client OTHER own foreign))).1,
        )
    taken-is some = by-list foreign p is some
      where
        by-list : (l : List Step) (q : Preview) (at : IsPreview e.schema e.client own l q) → 0 < length l
            → past_answer e skipped own l version
            ≡ (
              preview_text e.schema.spec (drop own e.client.pending) own l q version,
              with_client e (taken meaning e.schema e.client (Entries e.client.version (heard e.client OTHER own l))).1,
            )
        by-list [] q at h = absurd (omega (arith, h))
        by-list (f ∷ fs) q at h =
            let next : Editor = with_client e (taken meaning e.schema e.client (Entries e.client.version (heard e.client OTHER own (f ∷ fs)))).1 in
            ap (middle_answer e skipped own (f ∷ fs) version) at.middle_is
            ∙ ap (run_answer e skipped own (f ∷ fs) version at.middle) (others-run e.schema e.client own (f ∷ fs) q at)
            ∙ ap (λ (t : List ℕ). (t, next)) (sym (same-text e.schema e.client own (f ∷ fs) q at version))

    -- the editor then
    pub after-is : 0 < length foreign → (items : List Step) → items ≡ foreign → (told : Taken) (next : DocClient)
        → (told, next) ≡ taken meaning e.schema e.client (Entries e.client.version (heard e.client OTHER own items))
        → with_client e next ≡ (past_answer e skipped own foreign version).1
    after-is some items same told next h =
        ap (λ (t : Taken × DocClient). with_client e t.1)
        (h ∙ ap (λ (l : List Step). taken meaning e.schema e.client (Entries e.client.version (heard e.client OTHER own l))) same)
        ∙ sym (ap (λ (a : List ℕ × Editor). a.1) (taken-is some))

    -- none of them is refused
    pub not-refused : (items : List Step) → items ≡ foreign → (error : ReceiveError Reason) (index : ℕ) (reason : Reason) → error ≡ Refused index reason
        → IsRefusal meaning e.schema e.client OTHER own items error → ⊥
    not-refused items same error index reason at h =
        never-refused e.schema e.client own foreign p is index reason
        (subst (λ (l : List Step). IsRefusal meaning e.schema e.client OTHER own l (Refused index reason)) same
        (subst (λ (x : ReceiveError Reason). IsRefusal meaning e.schema e.client OTHER own items x) at h))

  -- the one that is refused is among them
  pub refusal-index : (own : ℕ) (foreign : List Step) (error : ReceiveError Reason) (index : ℕ) (reason : Reason) → error ≡ Refused index reason
      → IsRefusal meaning e.schema e.client OTHER own foreign error → index < length foreign
  refusal-index own foreign error index reason at h =
      refusal-within e.schema e.client own foreign index reason
      (subst (λ (x : ReceiveError Reason). IsRefusal meaning e.schema e.client OTHER own foreign x) at h)
