-- What taking others' steps comes to, by what was heard of them.
use Rattle.std.specs.Prelude.{◌≡◌, ℕ, ◌-◌, ◌≤◌, List, ◌++◌, length, take, drop}
use Rattle.std.proofs.Common.{sym, ap, ◌∙◌}
use Rattle.std.proofs.Math.Seq.{drop-append_seam}
use Rattle.std.proofs.lemmas.List.{length-take-le, take-append-drop, take_rest}
use Rattle.pm_tokens.specs.Tokens.{Doc as Document}
use Rattle.pm_schema.specs.declared.schema.Schema.{Schema}
use Rattle.pm_meaning.specs.Steps.{Step}
use Rattle.pm_meaning.specs.declared.reason.Reason.{Reason}
use Rattle.pm_map.specs.declared.mapping.Mirrored.{Mirrored}
use Rattle.pm_change.specs.Changes.{fold}
use Rattle.pm_change.proofs.Folds.{fold-append, fold-good}
use Rattle.pm_apply.specs.Changes.{meaning}
use Rattle.pm_apply.specs.Laws.{laws}
use Rattle.pm_frames.specs.Routes.{Guides}
use Rattle.pm_authority.specs.declared.named.Named.{Named}
use Rattle.pm_authority.specs.Runs.{changes_of, AllApply}
use Rattle.pm_authority.proofs.RunFolds.{changes-append}
use Rattle.pm_client.specs.declared.cursors.Cursor.{Cursor}
use Rattle.pm_client.specs.declared.rebasing.Rebaser.{Rebaser}
use Rattle.pm_client.specs.Clients.{carried}
use Rattle.pm_client.specs.Cursors.{AreIn, moved_over}
use Rattle.pm_client.specs.Kins.{Stands}
use Rattle.pm_client.specs.Rebasables.{CanRebaseOver}
use Rattle.pm_client.specs.Rebasers.{IsAt}
use Rattle.pm_client.specs.Rebases.{maps_of, rebased, start}
use Rattle.pm_client.proofs.Keeps.{base-good}
use Rattle.pm_client.proofs.RebaseLaws.{can-over}
use Rattle.pm_remote.specs.declared.hearing.News.{News}
use Rattle.pm_remote.specs.Heard.{IsNews}
use Rattle.pm_remote.specs.Hearings.{others}
use Rattle.pm_told.specs.declared.preview.TheConstants.{OTHER}
use Rattle.pm_told.specs.Previews.{IsPreview}
use Rattle.pm_told.specs.Showing.{DocClient, DocRebasing}

module _ (s : Schema) (c : DocClient) (stands : Stands meaning s c) (own : ℕ) (foreign : List Step) (news : News Step Schema Document Reason)
    (is : IsNews meaning s c OTHER own foreign news) where
  -- others' steps lead from the document after the own ones to the new base, and the later pending steps to the client's own
  over : CanRebaseOver meaning s news.end (others c OTHER own foreign) (drop own c.pending) c.doc
  over =
      let good = fold-good meaning s laws c.base is.middle (changes_of (take own c.pending)) (base-good meaning s stands.first stands.log c stands.kin laws) is.middle_is in
      let goes_on = λ (ns : List (Named Step)).
      sym (fold-append meaning s c.base is.middle (changes_of (take own c.pending)) (changes_of ns) is.middle_is)
      ∙ ap (fold meaning s c.base) (sym (changes-append (take own c.pending) ns)) in
      can-over meaning s laws is.middle news.end c.doc (others c OTHER own foreign) (drop own c.pending) good
      (goes_on (others c OTHER own foreign) ∙ is.leads)
      (goes_on (drop own c.pending) ∙ ap (λ (l : List (Named Step)). fold meaning s c.base (changes_of l)) (take-append-drop own c.pending) ∙ stands.kin.doc_is)

  module _ (within : own ≤ length c.pending) (heard pending : List (Named Step)) (heard_is : heard ≡ news.entries) (pending_is : pending ≡ c.pending) where
    -- what is past the own steps
    ahead : take (length heard - own) (drop own heard) ≡ others c OTHER own foreign
    ahead =
        take_rest heard own ∙ ap (drop own) (heard_is ∙ is.entries_are)
        ∙ ap (λ (n : ℕ). drop n (take own c.pending ++ others c OTHER own foreign)) (sym (length-take-le own c.pending within))
        ∙ drop-append_seam (take own c.pending) (others c OTHER own foreign)

    later : take (length pending - own) (drop own pending) ≡ drop own c.pending
    later = take_rest pending own ∙ ap (drop own) pending_is

    pub may-carry : (end : Document) × CanRebaseOver meaning s news.end (take (length heard - own) (drop own heard)) (take (length pending - own) (drop own pending)) end
    may-carry = (c.doc, rw (ahead, later) over)

    module _ (r : Rebaser Step Schema Document Reason)
        (at : (end : Document)
        → CanRebaseOver meaning s news.end (take (length heard - own) (drop own heard)) (take (length pending - own) (drop own pending)) end
        → IsAt meaning r (rebased meaning s (start meaning news.end (maps_of meaning (take (length heard - own) (drop own heard)))) (take (length pending - own) (drop own pending))) (meaning.size end)) where
      came : IsAt meaning r (carried meaning s c own (others c OTHER own foreign) news.end) (meaning.size c.doc)
      came = (rw (ahead, later) at at) c.doc over

      pub may-move : (cursors : List Cursor) → cursors ≡ c.cursors → (ms : List Mirrored) × (n k : ℕ) × (Guides r.route ms n k × AreIn cursors n)
      may-move cursors e =
          let so : DocRebasing = carried meaning s c own (others c OTHER own foreign) news.end in
          rw e (so.maps, meaning.size c.doc, meaning.size so.doc, (came.leads, stands.kin.cursors))

      pub looked : (cursors moved : List Cursor) → cursors ≡ c.cursors
          → ((ms : List Mirrored) (n k : ℕ) → Guides r.route ms n k → AreIn cursors n → moved ≡ moved_over ms cursors)
          → IsPreview s c own foreign (record { back = news.back; kept = r.kept; dropped = r.dropped; cursors = moved })
      looked cursors moved e led =
          let so : DocRebasing = carried meaning s c own (others c OTHER own foreign) news.end in
          let here = rw e at led in
          record {
            middle = is.middle;
            middle_is = is.middle_is;
            end = news.end;
            leads = is.leads;
            back_is = is.back_is;
            kept_is = ap (λ (x : DocRebasing). x.kept) came.same;
            dropped_is = ap (λ (x : DocRebasing). x.dropped) came.same;
            cursors_are = here so.maps (meaning.size c.doc) (meaning.size so.doc) came.leads stands.kin.cursors;
          }
