-- What is shown of others' steps, by what was reckoned before they were taken.
use Rattle.std.specs.Prelude.{◌≡◌, ℕ, suc, ◌+◌, ◌<◌, List, [], ◌∷◌, ◌++◌, length, map, reverse, take, drop, Option, Some, None, Result, Ok, Err, refl}
use Rattle.std.proofs.Common.{sym, ap, ◌∙◌, arith, length-append}
use Rattle.std.proofs.lemmas.List.{reverse-append, reverse-reverse, length-reverse, length-map, map-append, take-append-drop}
use Rattle.pm_tokens.specs.Tokens.{Doc as Document}
use Rattle.pm_schema.specs.declared.schema.Schema.{Schema}
use Rattle.pm_meaning.specs.Steps.{Step}
use Rattle.pm_meaning.specs.declared.reason.Reason.{Reason}
use Rattle.pm_change.specs.Changes.{Meaning, fold}
use Rattle.pm_change.proofs.Folds.{fold-cons, fold-append}
use Rattle.pm_apply.specs.Changes.{meaning}
use Rattle.pm_authority.specs.declared.named.Named.{Named}
use Rattle.pm_authority.specs.declared.running.Refusal.{Refusal}
use Rattle.pm_authority.specs.Runs.{run, then_run, change_of, changes_of, AllApply}
use Rattle.pm_authority.proofs.RunFolds.{changes-append, fold-run}
use Rattle.pm_client.specs.Clients.{carried}
use Rattle.pm_client.specs.Cursors.{moved_over}
use Rattle.pm_client.specs.declared.cursors.Cursor.{Cursor}
use Rattle.pm_client.specs.Kins.{Stands}
use Rattle.pm_client.proofs.TimelineLaws.{named-changes}
use Rattle.pm_remote.specs.declared.received.Back.{Back}
use Rattle.pm_remote.specs.declared.received.ReceiveError.TheVariants.{Refused}
use Rattle.pm_remote.specs.Backs.{joined, sizes_of, undos, backs, IsBack}
use Rattle.pm_remote.specs.Hearings.{others, IsMiddle, IsRefusal}
use Rattle.pm_told.specs.declared.preview.TheConstants.{OTHER}
use Rattle.pm_told.specs.declared.preview.Preview.{Preview}
use Rattle.pm_told.specs.Previews.{IsPreview, MayShow, back_views, preview_text}
use Rattle.pm_told.specs.Showing.{DocClient, DocRebasing, View, sum, pairs_of, positions_of, view_of, where_applies, shown, taken_text, brought_text}

module _ {X Y : Type 0} (f : X → Y) where
  map-reverse : (xs : List X) → map f (reverse xs) ≡ reverse (map f xs)
  map-reverse [] = refl
  map-reverse (x ∷ xs) =
      ap (map f) (reverse-append (x ∷ []) xs) ∙ map-append f (reverse xs) (x ∷ [])
      ∙ ap (λ (ys : List Y). ys ++ f x ∷ []) (map-reverse xs) ∙ sym (reverse-append (f x ∷ []) (map f xs))

joined-length : {C : Type 0} (ls : List (List C)) → length (joined ls) ≡ sum (sizes_of ls)
joined-length [] = refl
joined-length (l ∷ ls) = length-append l (joined ls) ∙ ap (λ (n : ℕ). length l + n) (joined-length ls)

module _ {Rules Doc Reason C : Type 0} (m : Meaning Rules Doc Reason C) (rules : Rules) where
  -- each change that applies is undone
  undos-length : (doc end : Doc) (cs : List C) → fold m rules doc cs ≡ Some end → length (undos m rules doc cs) ≡ length cs
  undos-length doc end [] h = refl
  undos-length doc end (c ∷ cs) h =
      let f = fold-cons m rules doc end c cs h in
      let all : undos m rules doc (c ∷ cs) ≡ m.inverse rules c doc ∷ undos m rules f.0 cs = rw f.1 refl in
      ap (λ (ls : List (List C)). length ls) all ∙ ap suc (undos-length f.0 end cs f.2)

  -- the step that is refused is one of them
  run-index : (doc : Doc) (i : ℕ) (ns : List (Named C)) (r : Refusal Reason) → run m rules doc i ns ≡ Err r → r.index < i + length ns
  run-index doc i [] r h = absurd (cc)
  run-index doc i (n ∷ ns) r h = from (λ (next : Doc). run-index next (i + 1) ns r) (m.outcome rules n.change doc) h
    where
      from : ((next : Doc) → run m rules next (i + 1) ns ≡ Err r → r.index < (i + 1) + length ns) → (o : Result Doc Reason)
          → then_run m rules o i (λ d. run m rules d (i + 1) ns) ≡ Err r → r.index < i + length (n ∷ ns)
      from later (Ok next) e =
          let rest : r.index < (i + 1) + length ns = later next e in
          omega (arith, rest)
      from later (Err why) e =
          let here : i ≡ r.index = cc in
          omega (arith, here)

module _ (s : Schema) (c : DocClient) (own : ℕ) (middle : Document) (is : IsMiddle meaning s c own middle) where
  -- what steps past the first pending ones lead to from the document after these
  pub goes-on : (ns : List (Named Step)) → fold meaning s middle (changes_of ns) ≡ fold meaning s c.base (changes_of (take own c.pending ++ ns))
  goes-on ns =
      sym (fold-append meaning s c.base middle (changes_of (take own c.pending)) (changes_of ns) is)
      ∙ ap (fold meaning s c.base) (sym (changes-append (take own c.pending) ns))

  -- the later pending steps lead to the client's document
  pub later-lead : Stands meaning s c → AllApply meaning s middle (drop own c.pending) c.doc
  later-lead stands =
      goes-on (drop own c.pending) ∙ ap (λ (l : List (Named Step)). fold meaning s c.base (changes_of l)) (take-append-drop own c.pending) ∙ stands.kin.doc_is

module _ (s : Schema) (c : DocClient) (own : ℕ) (foreign : List Step) where
  pub others-changes : changes_of (others c OTHER own foreign) ≡ foreign
  others-changes = named-changes OTHER (c.version + own + 1) foreign

  pub others-length : length (others c OTHER own foreign) ≡ length foreign
  others-length = sym (length-map (others c OTHER own foreign) change_of) ∙ ap (λ (l : List Step). length l) others-changes

  -- a refusal names one of them
  pub refusal-within : (index : ℕ) (reason : Reason) → IsRefusal meaning s c OTHER own foreign (Refused index reason) → index < length foreign
  refusal-within index reason h =
      let within : index < 0 + length (others c OTHER own foreign) =
      run-index meaning s h.0 0 (others c OTHER own foreign) (record { index = index; reason = reason }) h.2 in
      omega (arith, within, others-length)

module _ (s : Schema) (c : DocClient) (own : ℕ) (foreign : List Step) (p : Preview) (is : IsPreview s c own foreign p) where
  others-apply : (middle : Document) → IsMiddle meaning s c own middle → AllApply meaning s middle (others c OTHER own foreign) is.end
  others-apply middle at = goes-on s c own middle at (others c OTHER own foreign) ∙ is.leads

  pub others-run : run meaning s is.middle 0 (others c OTHER own foreign) ≡ Ok is.end
  others-run = fold-run meaning s is.middle is.end 0 (others c OTHER own foreign) (others-apply is.middle is.middle_is)

  -- what was reckoned is not refused
  pub never-refused : (index : ℕ) (reason : Reason) → IsRefusal meaning s c OTHER own foreign (Refused index reason) → ⊥
  never-refused index reason h =
      let ok : run meaning s h.0 0 (others c OTHER own foreign) ≡ Ok is.end =
      fold-run meaning s h.0 is.end 0 (others c OTHER own foreign) (others-apply h.0 h.1) in
      let err = h.2 in
      cc

  same-views : (kept : List (Named Step)) (o : Option (Back Step)) → IsBack meaning s c.doc (backs meaning s is.middle (changes_of (drop own c.pending))) o
      → (r : DocRebasing) → kept ≡ r.kept → back_views (drop own c.pending) foreign kept o ≡ shown s c own is.middle foreign r
  same-views kept None h r e =
      let undone : List (List Step) = undos meaning s is.middle (changes_of (drop own c.pending)) in
      sym (ap (λ (d : Option Document). where_applies d (view_of (drop own c.pending) undone foreign r.kept)) h)
  same-views kept (Some b) h r e =
      let undone : List (List Step) = undos meaning s is.middle (changes_of (drop own c.pending)) in
      let sizes : reverse b.sizes.items ≡ sizes_of undone =
      ap (λ (l : List ℕ). reverse l) (h.1 ∙ map-reverse (λ (l : List Step). length l) undone) ∙ reverse-reverse (sizes_of undone) in
      let view_from : List Step → List ℕ → List (Named Step) → Option View =
      λ back zs ks.
      Some (record {
        back = length back;
        steps = back ++ foreign ++ changes_of ks;
        pairs = pairs_of (drop own c.pending) zs ks (length back + length foreign);
      }) in
      ap (λ (l : List Step). view_from l (reverse b.sizes.items) kept) h.0
      ∙ ap (λ (zs : List ℕ). view_from (joined (reverse undone)) zs kept) sizes
      ∙ ap (λ (ks : List (Named Step)). view_from (joined (reverse undone)) (sizes_of undone) ks) e
      ∙ sym (ap (λ (d : Option Document). where_applies d (view_of (drop own c.pending) undone foreign r.kept)) h.3)

  -- the text by what was reckoned
  pub same-text : (version : ℕ)
      → preview_text s.spec (drop own c.pending) own foreign p version
      ≡ brought_text s c own is.middle foreign (carried meaning s c own (others c OTHER own foreign) is.end) version
  same-text version =
      let r : DocRebasing = carried meaning s c own (others c OTHER own foreign) is.end in
      ap (λ (v : Option View). taken_text s.spec v own (positions_of p.cursors) p.dropped (length foreign) version) (same-views p.kept p.back is.back_is r is.kept_is)
      ∙ ap (λ (cs : List Cursor). taken_text s.spec (shown s c own is.middle foreign r) own (positions_of cs) p.dropped (length foreign) version) is.cursors_are
      ∙ ap (λ (ds : List ℕ). taken_text s.spec (shown s c own is.middle foreign r) own (positions_of (moved_over r.maps c.cursors)) ds (length foreign) version) is.dropped_is

  shows-back : Stands meaning s c → (o : Option (Back Step)) → IsBack meaning s c.doc (backs meaning s is.middle (changes_of (drop own c.pending))) o
      → MayShow (length (drop own c.pending)) o
  shows-back stands None h = tt
  shows-back stands (Some b) h =
      let steps : List Step = changes_of (drop own c.pending) in
      let undone : List (List Step) = undos meaning s is.middle steps in
      let count : length (reverse undone) ≡ length (drop own c.pending) =
      length-reverse undone ∙ undos-length meaning s is.middle c.doc steps (later-lead s c own is.middle is.middle_is stands)
      ∙ length-map (drop own c.pending) change_of in (
        ap (λ (l : List ℕ). length l) h.1 ∙ length-map (reverse undone) (λ (l : List Step). length l) ∙ count,
        ap (λ (l : List Step). length l) h.0 ∙ joined-length (reverse undone) ∙ ap sum (sym h.1),
      )

  -- each later pending step is taken back
  pub may-show : Stands meaning s c → MayShow (length (drop own c.pending)) p.back
  may-show stands = shows-back stands p.back is.back_is
