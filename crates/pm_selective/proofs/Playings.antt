-- What is told of a line: whether it undoes an event that lies apart, and what the undo leaves.
use Rattle.std.specs.Prelude.{◌≡◌, ◌↔◌, ℕ, zero, suc, ◌+◌, Bool, true, false, List, [], ◌∷◌, ◌++◌, if◌then◌else◌, length, slice_get, slice_set, Option, Some, None, Result, Ok, Err, IfOk, refl}
use Rattle.std.proofs.Common.{ap, sym, subst, ◌∙◌, inl, inr}
use Rattle.pm_change.specs.declared.no_step.NoStep.{NoStep}
use Rattle.pm_tokens.specs.Tokens.{Doc}
use Rattle.pm_schema.specs.declared.schema.Schema.{Schema}
use Rattle.pm_meaning.specs.Steps.{Step}
use Rattle.pm_meaning.specs.declared.reason.Reason.{Reason}
use Rattle.pm_apply.specs.Changes.{meaning}
use Rattle.pm_authority.specs.declared.authority.Authority.{Authority}
use Rattle.pm_authority.specs.declared.named.Named.{Named}
use Rattle.pm_history.specs.declared.branch.Event.{Event}
use Rattle.pm_history.specs.declared.branches.Branches.{Branches}
use Rattle.pm_history.specs.declared.turn.Turn.TheVariants.{UndoEvent as undo_numbered}
use Rattle.pm_history.specs.Turns.{last_numbered}
use Rattle.pm_history.specs.Undos.{undo_event}
use Rattle.pm_client.specs.Clients.{turned, turned_if}
use Rattle.pm_client.specs.Kins.{Kin}
use Rattle.pm_client.proofs.Keeps.{timeline-applies}
use Rattle.pm_session.specs.declared.line.Line.{Line}
use Rattle.pm_session.specs.declared.line.Act.{Act}
use Rattle.pm_session.specs.declared.line.Act.TheVariants.{UndoEvent}
use Rattle.pm_session.specs.declared.member.Member.{Member}
use Rattle.pm_session.specs.declared.member.Member.TheVariants.{Editor, Raw}
use Rattle.pm_session.specs.declared.outcome.Outcome.TheVariants.{Made}
use Rattle.pm_session.specs.Events.{turns, acted, played}
use Rattle.pm_session.specs.Sounds.{Sound}
use Rattle.pm_session.proofs.Editors.{local, editor_acts, acted-editor}
use Rattle.pm_selective.specs.Histories.{IsApartIn, HasLeft}
use Rattle.pm_selective.specs.Playing.{Room, Client, Outcome, documents, FindsApart, UndoesApart, IsFound, HasMade, LeavesLater, AreApartLines}
use Rattle.pm_selective.specs.Standing.{HasTimeline, IsCount}
use Rattle.pm_selective.proofs.Leavings.{leaves-later}
use Rattle.pm_selective.proofs.Numbered.{some-event, numbered-in}

-- ---- the timeline of a client

abbrev pub kin-timeline : (schema : Schema) (first : Doc) (log : List (Named Step)) (c : Client) → Kin meaning schema first log c → HasTimeline c.history
kin-timeline schema first log c kin = record {
  schema = schema;
  client = c.name;
  drawn = c.serials;
  first = first;
  last = c.doc;
  steps = kin.timeline;
  valid = kin.first_good;
  apply = timeline-applies meaning schema first log c kin;
  stands = kin.history;
}

one-editor : (o : Option (Member Step Schema Doc Reason)) (c d : Client) → o ≡ Some (Editor c) → o ≡ Some (Editor d) → c ≡ d
one-editor o c d f g = cc

no-editor : (o : Option (Member Step Schema Doc Reason)) (name serial : ℕ) (c : Client) → o ≡ Some (Raw name serial) → o ≡ Some (Editor c) → ⊥
no-editor o name serial c f g = cc

one-number : {Op : Type 0} (a : Act Op Step) (j k : ℕ) → a ≡ UndoEvent j → a ≡ UndoEvent k → j ≡ k
one-number a j k f g = cc

one-count : (o : Outcome) (j k : ℕ) → o ≡ Made j → o ≡ Made k → j ≡ k
one-count o j k f g = cc

-- what was set at a place that is there stands there
set-there : {A : Type 0} (xs : List A) (i : ℕ) (v x : A) → slice_get xs i ≡ Some x → slice_get (slice_set xs i v) i ≡ Some v
set-there [] i v x h = absurd (cc)
set-there (y ∷ xs) zero v x h = refl
set-there (y ∷ xs) (suc i) v x h = set-there xs i v x h

module _ (schema : Schema) {Op : Type 0} (s : Room) (line : Line Op Step) where
  -- ---- the event that is found is one

  same-event : (f g : FindsApart schema s line) → f.event ≡ g.event
  same-event f g =
      let client = one-editor (slice_get s.members line.client) f.client g.client f.at g.at in
      let number = one-number line.act f.number g.number f.act_is g.act_is in
      some-event f.event g.event
      (sym f.found ∙ ap (λ (c : Client). last_numbered f.number c.history.undo) client ∙ ap (λ k. last_numbered k g.client.history.undo) number ∙ g.found)

  -- ---- whether an event is found

  pub raw-member : (name serial : ℕ) → slice_get s.members line.client ≡ Some (Raw name serial) → IsFound schema s line None
  raw-member name serial stood = λ f. no-editor (slice_get s.members line.client) name serial f.client stood f.at

  pub editor-found : Sound meaning schema s → (number : ℕ) (c : Client) → line.act ≡ UndoEvent number → slice_get s.members line.client ≡ Some (Editor c)
      → (n : Option ℕ) → IsCount c.history number n → IsFound schema s line n
  editor-found sound number c act stood (Some n) count = (
    record { number = number; client = c; event = count.0; act_is = act; at = stood; found = count.1; apart = λ kin. count.3 (kin-timeline schema s.authority.first s.authority.log c kin) },
    count.2,
  )
  editor-found sound number c act stood None count = λ f.
      let kin : Kin meaning schema s.authority.first s.authority.log c = (sound.stand line.client (Editor c) stood).1.kin in
      let client = one-editor (slice_get s.members line.client) c f.client stood f.at in
      let same = one-number line.act number f.number act f.act_is in
      let found : last_numbered number c.history.undo ≡ Some f.event = ap (λ k. last_numbered k c.history.undo) same ∙ ap (λ (d : Client). last_numbered f.number d.history.undo) client ∙ f.found in
      let apart : (k : Kin meaning schema s.authority.first s.authority.log c) → IsApartIn f.event.names k.timeline =
      subst (λ (d : Client). (k : Kin meaning schema s.authority.first s.authority.log d) → IsApartIn f.event.names k.timeline) (sym client) f.apart in
      count f.event (kin-timeline schema s.authority.first s.authority.log c kin) found (apart kin)

  pub if-found : {E : Type 0} (r : Result (Option ℕ) E) (h : Branches Step) (number : ℕ) (c : Client) → h ≡ c.history → Sound meaning schema s → line.act ≡ UndoEvent number
      → slice_get s.members line.client ≡ Some (Editor c) → IfOk r (IsCount h number) → IfOk r (IsFound schema s line)
  if-found (Ok n) h number c is sound act stood k = editor-found sound number c act stood n (subst (λ (x : Branches Step). IsCount x number n) is k)
  if-found (Err e) h number c is sound act stood k = tt

  -- ---- what is told

  pub told-apart : (o : Outcome) (n : Option ℕ) (apart : Bool) → IsFound schema s line n → (apart ≡ true) ↔ HasMade o n → (apart ≡ true) ↔ UndoesApart schema s line o
  told-apart o None apart found made = (λ h. absurd (made.0 h), λ u. absurd (found u.0))
  told-apart o (Some n) apart found made = (
    λ h. (found.0, made.0 h ∙ ap Made found.1),
    λ u. made.1 (u.1 ∙ ap (λ (e : Event). Made (length e.names)) (same-event u.0 found.0) ∙ sym (ap Made found.1)),
  )

  module _ (makes : Doc → Op → Result (List Step) NoStep) where
    -- what an undo of an event of this number makes of the room
    turned-is : (a : Authority Step Schema Doc Reason) (number : ℕ) (c : Client) (e : Event) → line.act ≡ UndoEvent number → last_numbered number c.history.undo ≡ Some e
        → editor_acts meaning schema makes a line.act c
        ≡ (let w = undo_event meaning schema c.name e.names c.history.items c.doc (c.serials + 1) in (Made (length w.made), a, turned meaning c (undo_numbered number) e.number w))
    turned-is a number c e act found =
        ap (λ x. editor_acts meaning schema makes a x c) act ∙ ap (λ o. local a (turns c (turned_if meaning schema c (undo_numbered number) o))) found

    played-undo : (number : ℕ) (c next : Client) (e : Event) → line.act ≡ UndoEvent number → slice_get s.members line.client ≡ Some (Editor c)
        → last_numbered number c.history.undo ≡ Some e → slice_get (played meaning schema makes s line).1.members line.client ≡ Some (Editor next)
        → (let w = undo_event meaning schema c.name e.names c.history.items c.doc (c.serials + 1) in ((played meaning schema makes s line).0 ≡ Made (length w.made)) × (next.doc ≡ w.doc))
    played-undo number c next e act stood found there =
        let w = undo_event meaning schema c.name e.names c.history.items c.doc (c.serials + 1) in
        let turn = turned-is s.authority number c e act found in
        let d = turned meaning c (undo_numbered number) e.number w in
        let acts = acted-editor meaning schema makes s.authority line.act c in
        let member : (acted meaning schema makes s.authority line.act (Editor c)).2 ≡ Editor d = ap (λ p. p.2) acts ∙ ap (λ p. Editor p.2) turn in
        let told : (acted meaning schema makes s.authority line.act (Editor c)).0 ≡ Made (length w.made) = ap (λ p. p.0) acts ∙ ap (λ p. p.0) turn in
        let stands : slice_get (slice_set s.members line.client (acted meaning schema makes s.authority line.act (Editor c)).2) line.client ≡ Some (Editor d) =
        set-there s.members line.client (acted meaning schema makes s.authority line.act (Editor c)).2 (Editor c) stood ∙ ap Some member in
        let now : slice_get (slice_set s.members line.client (acted meaning schema makes s.authority line.act (Editor c)).2) line.client ≡ Some (Editor next) = rw stood at there in
        let same : next ≡ d = one-editor (slice_get (slice_set s.members line.client (acted meaning schema makes s.authority line.act (Editor c)).2) line.client) next d now stands in
        (rw stood told, ap (λ (x : Client). x.doc) same)

    -- where it is told that the line undid an event that lies apart, the undo left the later steps
    pub told-leaves : (o : Outcome) (t : Room) (apart : Bool) → (o, t) ≡ played meaning schema makes s line → ((apart ≡ true) ↔ UndoesApart schema s line o)
        → apart ≡ true → LeavesLater schema s line t
    told-leaves o t apart plays told h f next stood kin =
        let u = told.0 h in
        let c = f.client in
        let e = f.event in
        let w = undo_event meaning schema c.name e.names c.history.items c.doc (c.serials + 1) in
        let there : slice_get (played meaning schema makes s line).1.members line.client ≡ Some (Editor next) = subst (λ (r : Room). slice_get r.members line.client ≡ Some (Editor next)) (ap (λ p. p.1) plays) stood in
        let p = played-undo f.number c next e f.act_is f.at f.found there in
        let full : length w.made ≡ length e.names =
        one-count o (length w.made) (length e.names) (ap (λ q. q.0) plays ∙ p.0) (u.1 ∙ ap (λ (x : Event). Made (length x.names)) (same-event u.0 f)) in
        let left = leaves-later documents schema c.name c.serials s.authority.first c.doc kin.timeline c.history kin.first_good (timeline-applies meaning schema s.authority.first s.authority.log c kin)
        kin.history e (numbered-in f.number c.history.undo e f.found) (c.serials + 1) (f.apart kin) full in
        subst (λ (d : Doc). HasLeft documents schema e.names s.authority.first kin.timeline c.doc d) (sym p.1) left

  -- ---- lines one after another

  module _ (makes : Doc → Op → Result (List Step) NoStep) (o : Outcome) (t : Room) (plays : (o, t) ≡ played meaning schema makes s line) (lines : List (Line Op Step)) where
    -- one number more
    pub apart-more : UndoesApart schema s line o → LeavesLater schema s line t → (rest : List ℕ) → AreApartLines schema makes t lines rest
        → AreApartLines schema makes s (line ∷ lines) (line.number ∷ rest)
    apart-more u l rest h =
        let one : o ≡ (played meaning schema makes s line).0 = ap (λ p. p.0) plays in
        let two : t ≡ (played meaning schema makes s line).1 = ap (λ p. p.1) plays in
        inl (subst (UndoesApart schema s line) one u, subst (LeavesLater schema s line) two l, rest, refl, subst (λ r. AreApartLines schema makes r lines rest) two h)

    -- a line that is none of them
    pub apart-other : (UndoesApart schema s line o → ⊥) → (rest : List ℕ) → AreApartLines schema makes t lines rest → AreApartLines schema makes s (line ∷ lines) rest
    apart-other other rest h =
        let one : o ≡ (played meaning schema makes s line).0 = ap (λ p. p.0) plays in
        let two : t ≡ (played meaning schema makes s line).1 = ap (λ p. p.1) plays in
        inr (λ u. other (subst (UndoesApart schema s line) (sym one) u), subst (λ r. AreApartLines schema makes r lines rest) two h)

    -- the line's number, where it is told that the line is one of them
    pub apart-next : (apart : Bool) → ((apart ≡ true) ↔ UndoesApart schema s line o) → (apart ≡ true → LeavesLater schema s line t) → (rest : List ℕ) → AreApartLines schema makes t lines rest
        → AreApartLines schema makes s (line ∷ lines) ((if apart then line.number ∷ [] else []) ++ rest)
    apart-next true told leaves rest h = apart-more (told.0 refl) (leaves refl) rest h
    apart-next false told leaves rest h = apart-other (λ u. let e : false ≡ true = told.1 u in absurd (cc)) rest h
