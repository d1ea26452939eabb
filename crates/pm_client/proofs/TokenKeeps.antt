-- A client's calls keep its cursors before their tokens.
use Rattle.std.specs.Prelude.{◌≡◌, ℕ, zero, suc, ◌+◌, ◌-◌, ◌<◌, List, [], ◌∷◌, ◌++◌, length, map, take, drop, slice_get, Option, Some, None, Result, Ok, Err, refl}
use Rattle.std.specs.List.{AllByRecursion as Each}
use Rattle.std.proofs.Common.{true, arith, sym, ap, ◌∙◌, subst, append_assoc, append-nil, length-append}
use Rattle.std.proofs.Math.Seq.{drop-append_seam}
use Rattle.pm_map.specs.declared.side.Side.TheVariants.{After}
use Rattle.pm_map.specs.Through.{through}
use Rattle.pm_change.specs.Changes.{Meaning, Laws, fold}
use Rattle.pm_change.proofs.Folds.{fold-cons}
use Rattle.pm_authority.specs.declared.named.Named.{Named}
use Rattle.pm_authority.specs.declared.running.Refusal.{Refusal}
use Rattle.pm_authority.specs.Runs.{run, changes_of, AllApply}
use Rattle.pm_authority.proofs.RunFolds.{run-fold}
use Rattle.pm_history.specs.declared.branches.Branches.{Branches}
use Rattle.pm_history.specs.declared.branches.MadeBy.TheVariants.{Edit}
use Rattle.pm_history.specs.Histories.{noted_all}
use Rattle.pm_history.specs.Trims.{trimmed}
use Rattle.pm_history.specs.Timelines.{items_from}
use Rattle.pm_client.specs.declared.client.Client.{Client}
use Rattle.pm_client.proofs.Lists.{Each-front, Each-back, take-seam}
use Rattle.pm_client.specs.Serials.{serials_of, own_serials, Rises}
use Rattle.pm_client.specs.Rebases.{Rebasing, maps_of, start, rebased}
use Rattle.pm_client.proofs.RebaseLaws.{fork, maps-fit, plain-paired}
use Rattle.pm_client.specs.Cursors.{cursor, moved_cursor}
use Rattle.pm_client.specs.Timelines.{edit_steps}
use Rattle.pm_client.specs.Clients.{named, own_run, gone_on, edited, tried, confirmed, brought, taken_if, taken_at, answer_at}
use Rattle.pm_client.proofs.Takings.{own_run-is, one-taken, answer-stands}
use Rattle.pm_authority.specs.declared.message.Answer.{Answer}
use Rattle.pm_client.specs.Kins.{IsOwn, IsForeign, Kin}
use Rattle.pm_client.proofs.Keeps.{base-good, kin-edited}
use Rattle.pm_client.specs.TokenNames.{Token, Unpinched, Has, names_after, NoneBy, AllDiffer, AllUnpinched, passed, over_others, gone_over, KeepsTokens}
use Rattle.pm_client.proofs.Leads.{Leads}
use Rattle.pm_client.proofs.TokenRuns.{none-spliced}
use Rattle.pm_client.proofs.TokenLeads.{names-append, Named_well, next-named, maps-lead, Following, rebased-leads}

-- ---- names of steps

-- the serials of steps of one client rise, so their names differ
rises-differ : {C : Type 0} (ns : List (Named C)) → Rises (serials_of ns) → AllDiffer ns
rises-differ [] h = tt
rises-differ {C = C} (n ∷ ns) h = (past ns h.0, rises-differ ns h.1)
  where
    past : (ks : List (Named C)) → Each (λ y. n.name.serial < y) (serials_of ks) → Each (λ k. k.name ≡ n.name → ⊥) ks
    past [] h = tt
    past (k ∷ ks) h = ((λ e. let s : k.name.serial ≡ n.name.serial = ap (λ x. x.serial) e in absurd (omega (arith, h.0, s))), past ks h.1)

rises-back : (xs ys : List ℕ) → Rises (xs ++ ys) → Rises ys
rises-back [] ys h = h
rises-back (x ∷ xs) ys h = rises-back xs ys h.1

-- no step of the second list has the name of one of the first
Apart : {C : Type 0} → List (Named C) → List (Named C) → Type 0
Apart xs ys = Each (λ x. Each (λ k. k.name ≡ x.name → ⊥) ys) xs

differ-parts : {C : Type 0} (xs ys : List (Named C)) → AllDiffer (xs ++ ys) → Apart xs ys
unfolding Apart
differ-parts [] ys h = tt
differ-parts (x ∷ xs) ys h = (Each-back (λ k. k.name ≡ x.name → ⊥) xs ys h.0, differ-parts xs ys h.1)

differ-back : {C : Type 0} (xs ys : List (Named C)) → AllDiffer (xs ++ ys) → AllDiffer ys
differ-back [] ys h = h
differ-back (x ∷ xs) ys h = differ-back xs ys h.1

-- others' steps and own ones have no name in common
foreign-parts : {C : Type 0} (client : ℕ) (xs ys : List (Named C)) → Each (IsForeign client) xs → Each (IsOwn client) ys → Apart xs ys
unfolding Apart
foreign-parts client [] ys f o = tt
foreign-parts {C = C} client (x ∷ xs) ys f o = (apart ys o, foreign-parts client xs ys f.1 o)
  where
    apart : (ks : List (Named C)) → Each (IsOwn client) ks → Each (λ k. k.name ≡ x.name → ⊥) ks
    apart [] o = tt
    apart (k ∷ ks) o = ((λ e. f.0 (sym (ap (λ n. n.client) e) ∙ o.0)), apart ks o.1)

parted-append : {C : Type 0} (xs ys zs : List (Named C)) → Apart xs zs → Apart ys zs → Apart (xs ++ ys) zs
unfolding Apart
parted-append [] ys zs h k = k
parted-append (x ∷ xs) ys zs h k = (h.0, parted-append xs ys zs h.1 k)

none-front : {C : Type 0} (xs ys : List (Named C)) (names : List Token) → NoneBy (xs ++ ys) names → NoneBy xs names
none-front xs ys names h = Each-front _ xs ys h

none-after : {Rules Doc Reason C : Type 0} (m : Meaning Rules Doc Reason C) (xs ys : List (Named C)) (names : List Token) → Apart xs ys → NoneBy ys names → NoneBy ys (names_after m names xs)
unfolding Apart
none-after m [] ys names p h = h
none-after m (x ∷ xs) ys names p h = none-after m xs ys _ p.1 (none-spliced x.name ys (m.step_map x.change) names p.0 h)

-- where others' steps were passed, none is pinched of those that were carried over them, of them, and of those kept
others-apart : {Rules Doc Reason C : Type 0} (m : Meaning Rules Doc Reason C) (others carried kept made : List (Named C)) → 0 < length others
    → AllUnpinched m (over_others others carried kept made) → AllUnpinched m carried × AllUnpinched m others × AllUnpinched m kept
others-apart m [] carried kept made some h = absurd (omega arith)
others-apart m (n ∷ others) carried kept made some h =
    let rest : AllUnpinched m ((n ∷ others) ++ kept) = Each-back (λ k. Unpinched (m.step_map k.change)) carried ((n ∷ others) ++ kept) h in (
      Each-front (λ k. Unpinched (m.step_map k.change)) carried ((n ∷ others) ++ kept) h,
      Each-front (λ k. Unpinched (m.step_map k.change)) (n ∷ others) kept rest,
      Each-back (λ k. Unpinched (m.step_map k.change)) (n ∷ others) kept rest,
    )

get-map : {A B : Type 0} (f : A → B) (xs : List A) (i : ℕ) (x : A) → slice_get xs i ≡ Some x → slice_get (map f xs) i ≡ Some (f x)
get-map f [] i x h = absurd (cc)
get-map f (y ∷ xs) zero x h = let e : y ≡ x = cc in ap (λ z. Some (f z)) e
get-map f (y ∷ xs) (suc i) x h = get-map f xs i x h

module _ {Rules Doc Reason C : Type 0} (m : Meaning Rules Doc Reason C) (rules : Rules) (laws : Laws m) where
  -- names stay well over the first steps
  well-after : (doc mid : Doc) (xs ys : List (Named C)) (names : List Token) → AllApply m rules doc xs mid → Named_well m rules laws doc (xs ++ ys) names
      → Named_well m rules laws mid ys (names_after m names xs)
  well-after doc mid [] ys names applies h = let e : doc ≡ mid = cc in subst (λ d. Named_well m rules laws d ys names) e h
  well-after doc mid (x ∷ xs) ys names applies h =
      let f = fold-cons m rules doc mid x.change (changes_of xs) applies in
      well-after f.0 mid xs ys _ f.2 (next-named m rules laws doc f.0 x (xs ++ ys) names f.1 h)

  well-all : (doc end : Doc) (ns : List (Named C)) (names : List Token) → AllApply m rules doc ns end → Named_well m rules laws doc ns names
      → Named_well m rules laws end [] (names_after m names ns)
  well-all doc end ns names applies h =
      well-after doc end ns [] names applies (subst (λ l. Named_well m rules laws doc l names) (sym (append-nil ns)) h)

module _ {Rules Doc Reason C : Type 0} (m : Meaning Rules Doc Reason C) (rules : Rules) (laws : Laws m) (first : Doc) (log : List (Named C))
    (c : Client C Rules Doc Reason) (kin : Kin m rules first log c) where
  past-is : drop c.version log ≡ kin.past
  past-is = rw (kin.log_is, kin.version_is) (drop-append_seam kin.before kin.past)

  none-passed : passed log c.version c.version ≡ []
  none-passed = let z : c.version - c.version ≡ 0 = omega arith in rw z (take-none (drop c.version log))
    where
      take-none : (xs : List (Named C)) → take 0 xs ≡ []
      take-none [] = refl
      take-none (x ∷ xs) = refl

  some-passed : (front rest : List (Named C)) → kin.past ≡ front ++ rest → passed log c.version (c.version + length front) ≡ front
  some-passed front rest is =
      let n : c.version + length front - c.version ≡ length front = omega arith in
      rw (n, past-is, is) (take-seam front rest (length front) refl)

  pending-differ : AllDiffer c.pending
  pending-differ = rises-differ c.pending (rises-back (own_serials c.name kin.before) (serials_of c.pending) kin.parted.rise)

  -- nothing was done
  now-keeps : KeepsTokens m log c c (m.size c.base)
  now-keeps names may i p t at before after = (p, at, (rw none-passed before))

  -- the standing steps were confirmed
  confirmed-keeps : (base : Doc) → KeepsTokens m log c (confirmed c kin.standing base) (m.size c.base)
  confirmed-keeps base names may i p t at before after =
      let s = kin.stands in
      let front : passed log c.version (c.version + kin.standing) ≡ s.standing = rw (← s.counted) (some-passed s.standing s.foreign s.past_is) in
      let rest : drop kin.standing c.pending ≡ s.later = rw (s.pending_is, ← s.counted) (drop-append_seam s.standing s.later) in
      let whole : names_after m names c.pending ≡ names_after m (names_after m names s.standing) s.later =
      ap (names_after m names) s.pending_is ∙ names-append m names s.standing s.later in
      (p, at, rw (front, rest) (rw whole at before))

  -- the later steps were carried over others'
  brought-keeps : (base : Doc) (front back : List (Named C)) (r : Rebasing C Rules Doc Reason) → 0 < length front → kin.stands.foreign ≡ front ++ back
      → fold m rules c.base (changes_of (kin.stands.standing ++ front)) ≡ Some base
      → r ≡ rebased m rules (start m base (maps_of m front)) kin.stands.later
      → KeepsTokens m log c (brought m rules c kin.standing front base r) (m.size c.base)
  brought-keeps base front back r some split h is names may i p t at before after =
      let s = kin.stands in
      let gone : List (Named C) = s.standing ++ front in
      let past : kin.past ≡ gone ++ back = s.past_is ∙ ap (λ l. s.standing ++ l) split ∙ sym (append_assoc s.standing front back) in
      let so_many : kin.standing + length front ≡ length gone = omega (arith, s.counted, length-append s.standing front) in
      let went : passed log c.version (c.version + (kin.standing + length front)) ≡ gone = rw so_many (some-passed gone back past) in
      let good = base-good m rules first log c kin laws in
      let pending : AllDiffer (s.standing ++ s.later) = rw s.pending_is at pending-differ in
      let well : Named_well m rules laws c.base gone names =
      record { good = good; size = may.size; once = may.once; none = rw went at may.past; differ = rw went at may.differ } in
      let old : Named_well m rules laws c.base (s.standing ++ s.later) names =
      record { good = good; size = may.size; once = may.once; none = rw s.pending_is at may.pending; differ = pending } in
      let f = fork m rules laws c.base base c.doc s.standing front s.later good h (ap (λ l. fold m rules c.base (changes_of l)) (sym s.pending_is) ∙ kin.doc_is) in
      let shared : List Token = names_after m names s.standing in
      let front_well = well-after m rules laws c.base f.at s.standing front names f.reached well in
      let later_well = well-after m rules laws c.base f.at s.standing s.later names f.reached old in
      let new_well = well-all m rules laws f.at base front shared f.left_applies front_well in
      let own : Each (IsOwn c.name) s.later = Each-back (IsOwn c.name) s.standing s.later (rw s.pending_is at kin.own) in
      let far : Each (IsForeign c.name) front = Each-front (IsForeign c.name) front back (rw split at s.are_foreign) in
      let apart = parted-append s.standing front s.later (differ-parts s.standing s.later pending) (foreign-parts c.name front s.later far own) in
      let later_none : NoneBy s.later names = Each-back _ s.standing s.later (rw s.pending_is at may.pending) in
      let fresh : NoneBy s.later (names_after m shared front) =
      subst (λ (l : List Token). NoneBy s.later l) (names-append m names s.standing front) (none-after m gone s.later names apart later_none) in
      let run : own_run c.name gone ≡ length s.standing =
      own_run-is c.name s.standing front (Each-front (IsOwn c.name) s.standing s.later (rw s.pending_is at kin.own)) far in
      let others_are : drop (own_run c.name gone) gone ≡ front = ap (λ k. drop k gone) run ∙ drop-append_seam s.standing front in
      let carried_are : drop (own_run c.name gone) c.pending ≡ s.later =
      ap (λ k. drop k c.pending) run ∙ ap (λ l. drop (length s.standing) l) s.pending_is ∙ drop-append_seam s.standing s.later in
      let over_gone : AllUnpinched m (gone_over c.name gone c.pending r.kept) =
      subst (λ (l : List (Named C)). AllUnpinched m (gone_over c.name l c.pending r.kept)) went may.unpinched in
      let made : List (Named C) = drop (length c.pending) r.kept in
      let over_front : AllUnpinched m (over_others front s.later r.kept made) =
      subst (λ (l : List (Named C)). AllUnpinched m (over_others front l r.kept made)) carried_are
      (subst (λ (l : List (Named C)). AllUnpinched m (over_others l (drop (own_run c.name gone) c.pending) r.kept made)) others_are over_gone) in
      let gone_apart : AllUnpinched m s.later × AllUnpinched m front × AllUnpinched m r.kept = others-apart m front s.later r.kept made some over_front in
      let following : Following m rules laws f.at (start m base (maps_of m front)) s.later shared (names_after m shared front) =
      record {
        can = record {
          old_good = f.at_good;
          new_good = new_well.good;
          applies = (c.doc, f.right_applies);
          fits = (maps-fit m rules laws f.at base front f.at_good f.left_applies).0;
          paired = plain-paired m rules front;
        };
        old_names = later_well;
        old_apart = gone_apart.0;
        new_size = new_well.size;
        new_once = new_well.once;
        new_none = fresh;
        leads = maps-lead m rules laws f.at base front shared f.left_applies front_well gone_apart.1;
      } in
      let leads : Leads r.maps (names_after m shared s.later) (names_after m (names_after m shared front) r.kept) =
      rw is (rebased-leads m rules laws f.at (start m base (maps_of m front)) s.later shared (names_after m shared front) following (rw (← is) gone_apart.2)) in
      let was : slice_get (names_after m shared s.later) p ≡ Some t =
      ap (λ l. slice_get l p) (sym (names-append m names s.standing s.later) ∙ ap (names_after m names) (sym s.pending_is)) ∙ before in
      let same : names_after m (names_after m names (passed log c.version (c.version + (kin.standing + length front)))) r.kept ≡ names_after m (names_after m shared front) r.kept =
      ap (λ l. names_after m (names_after m names l) r.kept) went ∙ ap (λ l. names_after m l r.kept) (names-append m names s.standing front) in
      let there : Has (names_after m (names_after m shared front) r.kept) t = (after.0, ap (λ l. slice_get l after.0) (sym same) ∙ after.1) in (
        (through r.maps p After).pos,
        get-map (moved_cursor r.maps) c.cursors i (cursor p After) at,
        ap (λ l. slice_get l (through r.maps p After).pos) same ∙ leads p t was there,
      )

  -- own steps were made
  made-keeps : (cs : List C) (doc : Doc) (h : Branches C) → AllApply m rules c.doc (named c.name (c.serials + 1) cs) doc → AllDiffer (c.pending ++ named c.name (c.serials + 1) cs)
      → KeepsTokens m log c (gone_on m c cs doc h) (m.size c.base)
  made-keeps cs doc h applies differ names may i p t at before after =
      let new : List (Named C) = named c.name (c.serials + 1) cs in
      let well : Named_well m rules laws c.base (c.pending ++ new) names =
      record { good = base-good m rules first log c kin laws; size = may.size; once = may.once; none = may.made; differ = differ } in
      let over_none : AllUnpinched m (drop (length c.pending) (c.pending ++ new)) =
      subst (λ (l : List (Named C)). AllUnpinched m (gone_over c.name l c.pending (c.pending ++ new))) none-passed may.unpinched in
      let apart : AllUnpinched m new = subst (λ (l : List (Named C)). AllUnpinched m l) (drop-append_seam c.pending new) over_none in
      let old : List Token = names_after m names c.pending in
      let leads = maps-lead m rules laws c.doc doc new old applies (well-after m rules laws c.base c.doc c.pending new names kin.doc_is well) apart in
      let same : names_after m (names_after m names (passed log c.version c.version)) (c.pending ++ new) ≡ names_after m old new =
      ap (λ l. names_after m (names_after m names l) (c.pending ++ new)) none-passed ∙ names-append m names c.pending new in
      let there : Has (names_after m old new) t = (after.0, ap (λ l. slice_get l after.0) (sym same) ∙ after.1) in (
        (through (maps_of m new) p After).pos,
        get-map (moved_cursor (maps_of m new)) c.cursors i (cursor p After) at,
        ap (λ l. slice_get l (through (maps_of m new) p After).pos) same ∙ leads p t before there,
      )

  pub gone_on-keeps : (cs : List C) (doc : Doc) (h : Branches C) → AllApply m rules c.doc (named c.name (c.serials + 1) cs) doc → Kin m rules first log (gone_on m c cs doc h)
      → KeepsTokens m log c (gone_on m c cs doc h) (m.size c.base)
  gone_on-keeps cs doc h applies k =
      made-keeps cs doc h applies
      (rises-differ (c.pending ++ named c.name (c.serials + 1) cs) (rises-back (own_serials c.name k.before) (serials_of (c.pending ++ named c.name (c.serials + 1) cs)) k.parted.rise))

  tried-keeps : (cs : List C) (event : Option ℕ) (next : Client C Rules Doc Reason) (r : Result Doc (Refusal Reason)) → run m rules c.doc 0 (named c.name (c.serials + 1) cs) ≡ r
      → tried m rules c cs event r ≡ Ok next → Kin m rules first log next → KeepsTokens m log c next (m.size c.base)
  tried-keeps cs event next (Err e) ran h k = absurd (cc)
  tried-keeps cs event next (Ok doc) ran h k =
      let new : List (Named C) = named c.name (c.serials + 1) cs in
      let history : Branches C = trimmed (noted_all c.history (items_from m rules c.doc (edit_steps new)) (Edit event true)) in
      let is : gone_on m c cs doc history ≡ next = cc in
      subst (λ d. KeepsTokens m log c d (m.size c.base)) is
      (gone_on-keeps cs doc history (run-fold m rules c.doc doc 0 new ran) (subst (Kin m rules first log) (sym is) k))

  pub edited-keeps : (cs : List C) (event : Option ℕ) (next : Client C Rules Doc Reason) → edited m rules c cs event ≡ Ok next → KeepsTokens m log c next (m.size c.base)
  edited-keeps cs event next h =
      tried-keeps cs event next (run m rules c.doc 0 (named c.name (c.serials + 1) cs)) refl h (kin-edited m rules first log c kin laws cs event next h)

  -- the answer of a number was taken
  pub taken-keeps : (i : ℕ) → KeepsTokens m log c (taken_at m rules c i).1 (m.size c.base)
  taken-keeps i = from (answer_at c i) refl
    where
      from : (o : Option (Answer C Rules Doc Reason)) → answer_at c i ≡ o → KeepsTokens m log c (taken_if m rules c o).1 (m.size c.base)
      from None e = now-keeps
      from (Some a) e =
          one-taken m rules first log c kin (λ d. KeepsTokens m log c d (m.size c.base)) now-keeps (λ base some f. confirmed-keeps base)
          (λ base front back r some split f is. brought-keeps base front back r some split f is) a (answer-stands m rules first log c kin i a e)
