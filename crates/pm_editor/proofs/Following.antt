-- What a view is shown of others' steps leads it to the client's new document.
use Rattle.std.specs.Prelude.{◌≡◌, ◌⊎◌, ℕ, zero, suc, ◌+◌, ◌-◌, ◌≤◌, ◌<◌, ◌==◌, nat_le, nat_lt, Bool, true, false, List, [], ◌∷◌, ◌++◌, length, take, drop, reverse, Option, Some, None, IfSome, Result, Ok, Err, refl, if◌then◌else◌}
use Rattle.std.specs.List.{AllByRecursion as Each}
use Rattle.std.proofs.Common.{sym, ap, ◌∙◌, subst, inl, inr, arith, length-append, append-nil}
use Rattle.std.proofs.Math.Seq.{drop-append_seam}
use Rattle.std.proofs.lemmas.Bool.{lt-leb, ne_eqb}
use Rattle.std.proofs.lemmas.Grind.{reverse_onto}
use Rattle.std.proofs.lemmas.List.{length-take-le, take-append-drop}
use Rattle.std.proofs.lemmas.List.Concat.{flat_map-append}
use Rattle.pm_tokens.specs.Tokens.{Doc as Document}
use Rattle.pm_meaning.specs.Steps.{Step}
use Rattle.pm_meaning.specs.declared.reason.Reason.{Reason}
use Rattle.pm_change.specs.Changes.{Meaning, Laws, fold}
use Rattle.pm_change.proofs.Folds.{fold-cons, fold-append, fold-good}
use Rattle.pm_apply.specs.Changes.{meaning}
use Rattle.pm_apply.specs.Laws.{laws}
use Rattle.pm_authority.specs.declared.named.Named.{Named}
use Rattle.pm_authority.specs.declared.running.Refusal.{Refusal}
use Rattle.pm_authority.specs.declared.message.Answer.TheVariants.{Entries}
use Rattle.pm_authority.specs.Runs.{run, changes_of, AllApply}
use Rattle.pm_authority.proofs.RunFolds.{run-fold}
use Rattle.pm_client.specs.declared.client.Client.{Client}
use Rattle.pm_client.specs.declared.taken.Taken.{Taken}
use Rattle.pm_client.specs.declared.taken.Taken.TheVariants.{Confirmed, Rebased, Stale}
use Rattle.pm_client.specs.Clients.{own_run, named, given, confirmed, brought, carried, confirmed_first, others_taken, rest_taken, taken}
use Rattle.pm_client.specs.Cursors.{moved_over}
use Rattle.pm_client.specs.Kins.{IsOwn, IsForeign}
use Rattle.pm_client.specs.Rebases.{maps_of, start}
use Rattle.pm_client.proofs.Keeps.{base-good}
use Rattle.pm_client.proofs.Lists.{Each-front}
use Rattle.pm_client.proofs.RebaseLaws.{rebased-applied}
use Rattle.pm_client.proofs.Takings.{own_run-is}
use Rattle.pm_remote.specs.Backs.{joined, undos, backs}
use Rattle.pm_remote.specs.Hearings.{others, heard, IsMiddle}
use Rattle.pm_told.specs.declared.preview.TheConstants.{OTHER}
use Rattle.pm_told.specs.Showing.{DocClient, DocRebasing, View, empty_view, positions_of, shown, view_of, where_applies}
use Rattle.pm_editor.specs.declared.editor.Editor.{Editor}
use Rattle.pm_editor.specs.Editors.{IsEditor, front, run_answer, middle_answer, past_answer}
use Rattle.pm_editor.specs.Laws.{Shows, ViewsFollow}
use Rattle.pm_editor.proofs.Views.{goes-on, later-lead, others-changes, others-length}

module _ {Rules Doc Reason C : Type 0} (m : Meaning Rules Doc Reason C) (rules : Rules) where
  -- changes in two parts, with the document between them
  fold-parts : (doc end : Doc) (cs ds : List C) → fold m rules doc (cs ++ ds) ≡ Some end → (mid : Doc) × (fold m rules doc cs ≡ Some mid) × (fold m rules mid ds ≡ Some end)
  fold-parts doc end [] ds h = (doc, refl, h)
  fold-parts doc end (c ∷ cs) ds h =
      let f = fold-cons m rules doc end c (cs ++ ds) h in
      let r = fold-parts f.0 end cs ds f.2 in
      (r.0, rw f.1 r.1, r.2)

  -- the first change is taken back last
  backs-cons : (before next : Doc) (c : C) (cs : List C) → m.outcome rules c before ≡ Ok next
      → joined (backs m rules before (c ∷ cs)) ≡ joined (backs m rules next cs) ++ m.inverse rules c before
  backs-cons before next c cs ok =
      let undo : List C = m.inverse rules c before in
      let all : undos m rules before (c ∷ cs) ≡ undo ∷ undos m rules next cs = rw ok refl in
      ap (λ l. joined (reverse l)) all ∙ ap joined (reverse_onto (undos m rules next cs) undo [])
      ∙ flat_map-append (λ l. l) (reverse (undos m rules next cs)) (undo ∷ []) ∙ ap (λ l. joined (backs m rules next cs) ++ l) (append-nil undo)

  -- what takes changes back leads to the document before them
  backs-restore : Laws m → (before doc back : Doc) (cs : List C) → m.is_good rules before → fold m rules before cs ≡ Some doc
      → fold m rules doc (joined (backs m rules before cs)) ≡ Some back → back ≡ before
  backs-restore keeps before doc back [] good leads h = let e : doc ≡ back = cc in let f : before ≡ doc = cc in sym (f ∙ e)
  backs-restore keeps before doc back (c ∷ cs) good leads h =
      let f = fold-cons m rules before doc c cs leads in
      let p = fold-parts doc back (joined (backs m rules f.0 cs)) (m.inverse rules c before) (sym (ap (fold m rules doc) (backs-cons before f.0 c cs f.1)) ∙ h) in
      let e : p.0 ≡ f.0 = backs-restore keeps f.0 doc p.0 cs (keeps.good rules c before f.0 good f.1) f.2 p.1 in
      keeps.restores rules c before f.0 back good f.1 (subst (λ d. fold m rules d (m.inverse rules c before) ≡ Some back) e p.2)

  -- under loose rules it applies
  backs-apply : Laws m → m.is_loose rules → (before doc : Doc) (cs : List C) → m.is_good rules before → fold m rules before cs ≡ Some doc
      → fold m rules doc (joined (backs m rules before cs)) ≡ Some before
  backs-apply keeps loose before doc [] good leads = sym leads
  backs-apply keeps loose before doc (c ∷ cs) good leads =
      let f = fold-cons m rules before doc c cs leads in
      let to : fold m rules doc (joined (backs m rules f.0 cs)) ≡ Some f.0 = backs-apply keeps loose f.0 doc cs (keeps.good rules c before f.0 good f.1) f.2 in
      let u = keeps.undoes rules c before f.0 loose good f.1 in
      let e : u.0 ≡ before = keeps.restores rules c before f.0 u.0 good f.1 u.1 in
      ap (fold m rules doc) (backs-cons before f.0 c cs f.1)
      ∙ fold-append m rules doc f.0 (joined (backs m rules f.0 cs)) (m.inverse rules c before) to ∙ u.1 ∙ ap (λ d. Some d) e

  module _ (c : Client C Rules Doc Reason) where
    -- the client that took pending steps and then others' entries
    heard-is : (k : ℕ) (foreign : List (Named C)) (base : Doc) → Each (IsOwn c.name) c.pending → k ≤ length c.pending → Each (IsForeign c.name) foreign
        → 0 < length foreign → AllApply m rules c.base (take k c.pending ++ foreign) base
        → (taken m rules c (Entries c.version (take k c.pending ++ foreign))).1 ≡ brought m rules c k foreign base (carried m rules c k foreign base)
    heard-is k foreign base own within far some applies =
        let rest : List (Named C) = take k c.pending ++ foreign in
        let at : length (take k c.pending) ≡ k = length-take-le k c.pending within in
        let n : length rest ≡ k + length foreign = omega (arith, at, length-append (take k c.pending) foreign) in
        let past : nat_le (c.version + length rest) c.version ≡ false = lt-leb (c.version + length rest) c.version (omega (arith, some, n)) in
        let zero_is : c.version - c.version ≡ 0 = omega arith in
        let whole : drop (c.version - c.version) rest ≡ rest = ap (λ i. drop i rest) zero_is in
        let own_front : Each (IsOwn c.name) (take k c.pending) = Each-front (IsOwn c.name) (take k c.pending) (drop k c.pending) (subst (Each (IsOwn c.name)) (sym (take-append-drop k c.pending)) own) in
        let run_is : own_run c.name rest ≡ k = own_run-is c.name (take k c.pending) foreign own_front far ∙ at in
        let differs : (k == length rest) ≡ false = ne_eqb k (length rest) (λ e. omega (arith, e, n, some)) in
        let front_is : drop k rest ≡ foreign = ap (λ i. drop i rest) (sym at) ∙ drop-append_seam (take k c.pending) foreign in
        let told : ℕ → List (Named C) → Doc → Taken × Client C Rules Doc Reason =
        λ i ns b. (Rebased k i (length (carried m rules c k ns b).dropped), brought m rules c k ns b (carried m rules c k ns b)) in
        ap (λ (p : Taken × Client C Rules Doc Reason). p.1)
        (ap (λ b. if b then (Stale, c) else rest_taken m rules c (drop (c.version - c.version) rest) (own_run c.name (drop (c.version - c.version) rest))) past
        ∙ ap (λ l. rest_taken m rules c l (own_run c.name l)) whole
        ∙ ap (rest_taken m rules c rest) run_is
        ∙ ap (λ b. if b then confirmed_first m rules c k else others_taken m rules c rest k) differs
        ∙ ap (λ o. given c o (told (length rest - k) (drop k rest))) applies
        ∙ ap (λ l. told (length rest - k) l base) front_is)

    -- confirming leaves the document
    confirmed-doc : (o : Option Doc) (k : ℕ) → (given c o (λ base. (Confirmed k, confirmed c k base))).1.doc ≡ c.doc
    confirmed-doc None k = refl
    confirmed-doc (Some base) k = refl

-- steps under another name are others'
named-foreign : {C : Type 0} (client other serial : ℕ) (cs : List C) → (other ≡ client → ⊥) → Each (IsForeign client) (named other serial cs)
named-foreign client other serial [] h = tt
named-foreign client other serial (c ∷ cs) h = (h, named-foreign client other (serial + 1) cs h)

front-most : (bs : List Bool) (most : ℕ) → front bs most ≤ most
front-most [] most = omega arith
front-most (false ∷ bs) most = omega arith
front-most (true ∷ bs) zero = omega arith
front-most (true ∷ bs) (suc most) =
    let rest : front bs most ≤ most = front-most bs most in
    omega (arith, rest)

module _ (e : Editor) (is : IsEditor e) where
  -- an answer changes nothing, or shows what leads on
  abbrev Follows : List ℕ × Editor → Type 0
  Follows answer = (answer.1 ≡ e) ⊎ Shows e answer

  by-if : (b : Bool) (p q : List ℕ × Editor) → Follows p → Follows q → Follows (if b then p else q)
  by-if true p q h k = h
  by-if false p q h k = k

  module _ (own : ℕ) (within : own ≤ length e.client.pending) (middle : Document) (at : IsMiddle meaning e.schema e.client own middle) where
    middle-good : meaning.is_good e.schema middle
    middle-good =
        let s = is.stands in
        fold-good meaning e.schema laws e.client.base middle (changes_of (take own e.client.pending)) (base-good meaning e.schema s.first s.log e.client s.kin laws) at

    module _ (foreign : List Step) (end : Document) (r : DocRebasing) (is_r : r ≡ carried meaning e.schema e.client own (others e.client OTHER own foreign) end)
        (reached : fold meaning e.schema middle foreign ≡ Some end) where
      kept-lead : AllApply meaning e.schema end r.kept r.doc
      kept-lead =
          subst (λ (x : DocRebasing). AllApply meaning e.schema end x.kept x.doc) (sym is_r)
          (rebased-applied meaning e.schema end (start meaning end (maps_of meaning (others e.client OTHER own foreign))) (drop own e.client.pending) refl)

      -- where the steps back apply, the steps shown lead to the new document
      shown-leads : (o : Option Document) → fold meaning e.schema e.client.doc (joined (backs meaning e.schema middle (changes_of (drop own e.client.pending)))) ≡ o
          → IfSome (where_applies o (view_of (drop own e.client.pending) (undos meaning e.schema middle (changes_of (drop own e.client.pending))) foreign r.kept))
          (λ v. fold meaning e.schema e.client.doc v.steps ≡ Some r.doc)
      shown-leads None h = tt
      shown-leads (Some d) h =
          let back : List Step = joined (backs meaning e.schema middle (changes_of (drop own e.client.pending))) in
          let same : d ≡ middle =
          backs-restore meaning e.schema laws middle e.client.doc d (changes_of (drop own e.client.pending)) middle-good
          (later-lead e.schema e.client own middle at is.stands) h in
          let one : fold meaning e.schema e.client.doc back ≡ Some middle = h ∙ ap (λ (x : Document). Some x) same in
          fold-append meaning e.schema e.client.doc end (back ++ foreign) (changes_of r.kept) (fold-append meaning e.schema e.client.doc middle back foreign one ∙ reached) ∙ kept-lead

    -- under loose rules they apply
    shown-some : (view : View) → meaning.is_loose e.schema → (o : Option Document)
        → fold meaning e.schema e.client.doc (joined (backs meaning e.schema middle (changes_of (drop own e.client.pending)))) ≡ o
        → (v : View) × (where_applies o view ≡ Some v)
    shown-some view loose None h =
        let applies : fold meaning e.schema e.client.doc (joined (backs meaning e.schema middle (changes_of (drop own e.client.pending)))) ≡ Some middle =
        backs-apply meaning e.schema laws loose middle e.client.doc (changes_of (drop own e.client.pending)) middle-good (later-lead e.schema e.client own middle at is.stands) in
        absurd (cc)
    shown-some view loose (Some d) h = (view, refl)

    -- others' steps are refused or taken
    run-follows : (skipped version : ℕ) (foreign : List Step) (o : Result Document (Refusal Reason)) → 0 < length foreign
        → run meaning e.schema middle 0 (others e.client OTHER own foreign) ≡ o → Follows (run_answer e skipped own foreign version middle o)
    run-follows skipped version foreign (Err refusal) some h = inl refl
    run-follows skipped version foreign (Ok end) some h =
        let c = e.client in
        let s = e.schema in
        let ns : List (Named Step) = others c OTHER own foreign in
        let r : DocRebasing = carried meaning s c own ns end in
        let applies : AllApply meaning s middle ns end = run-fold meaning s middle end 0 ns h in
        let reached : fold meaning s middle foreign ≡ Some end = ap (fold meaning s middle) (sym (others-changes s c own foreign)) ∙ applies in
        let leads : AllApply meaning s c.base (take own c.pending ++ ns) end = sym (goes-on s c own middle at ns) ∙ applies in
        let count : length ns ≡ length foreign = others-length s c own foreign in
        let more : 0 < length ns = omega (arith, some, count) in
        let far : Each (IsForeign c.name) ns = named-foreign c.name OTHER (c.version + own + 1) foreign (λ h. omega (arith, h, is.name)) in
        let next_is = heard-is meaning s c own ns end is.stands.kin.own within far more leads in
        let doc_is : r.doc ≡ (taken meaning s c (Entries c.version (heard c OTHER own foreign))).1.doc = sym (ap (λ (x : DocClient). x.doc) next_is) in
        let undone = undos meaning s middle (changes_of (drop own c.pending)) in
        inr (
          shown s c own middle foreign r,
          own,
          length foreign,
          version,
          positions_of (moved_over r.maps c.cursors),
          r.dropped,
          refl,
          subst (λ (d : Document). IfSome (shown s c own middle foreign r) (λ v. fold meaning s c.doc v.steps ≡ Some d)) doc_is
              (shown-leads foreign end r refl reached (fold meaning s c.doc (joined (reverse undone))) refl),
          (λ loose. shown-some (view_of (drop own c.pending) undone foreign r.kept) loose (fold meaning s c.doc (joined (reverse undone))) refl),
        )

  middle-follows : (skipped own version : ℕ) (foreign : List Step) (o : Option Document) → own ≤ length e.client.pending → 0 < length foreign
      → fold meaning e.schema e.client.base (changes_of (take own e.client.pending)) ≡ o → Follows (middle_answer e skipped own foreign version o)
  middle-follows skipped own version foreign None within some h = inl refl
  middle-follows skipped own version foreign (Some middle) within some h =
      run-follows own within middle h skipped version foreign (run meaning e.schema middle 0 (others e.client OTHER own foreign)) some refl

  past-follows : (skipped own version : ℕ) (foreign : List Step) → own ≤ length e.client.pending → Follows (past_answer e skipped own foreign version)
  past-follows skipped own version [] within =
      let base : Option Document = fold meaning e.schema e.client.base (changes_of (take own e.client.pending)) in
      inr (
        Some empty_view,
        own,
        0,
        version,
        positions_of e.client.cursors,
        [],
        refl,
        ap (λ (d : Document). Some d) (sym (confirmed-doc meaning e.schema e.client base own)),
        (λ loose. (empty_view, refl)),
      )
  past-follows skipped own version (f ∷ fs) within =
      middle-follows skipped own version (f ∷ fs) (fold meaning e.schema e.client.base (changes_of (take own e.client.pending))) within (omega arith) refl

pub views-follow : ViewsFollow
views-follow e own steps version is =
    let skipped : ℕ = e.client.version - (version - length steps) in
    let n : ℕ = front (drop skipped own) (length e.client.pending) in
    by-if e is (nat_le version e.client.version) _ _ (inl refl)
    (by-if e is (nat_lt e.client.version (version - length steps)) _ _ (inl refl)
    (past-follows e is skipped n version (drop (skipped + n) steps) (front-most (drop skipped own) (length e.client.pending))))
