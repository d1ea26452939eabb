-- After every line a client that came late is as one that pulled.
use Rattle.std.specs.Prelude.{◌≡◌, ◌⊎◌, ℕ, zero, suc, ◌<◌, ◌==◌, ◌&&◌, ◌||◌, if◌then◌else◌, MatchBool, Bool, true, false, List, [], ◌∷◌, length, slice_get, Some, Result, refl}
use Rattle.std.proofs.Common.{sym, ap, subst, ◌∙◌, inl, inr, arith}
use Rattle.std.proofs.lemmas.Bool.{eqb-true, eq-eqb}
use Rattle.pm_change.specs.Changes.{Meaning}
use Rattle.pm_change.specs.declared.no_step.NoStep.{NoStep}
use Rattle.pm_authority.specs.declared.authority.Authority.{Authority}
use Rattle.pm_client.specs.declared.client.Client.{Client}
use Rattle.pm_client.specs.Clients.{new_client, entered_client}
use Rattle.pm_session.specs.declared.line.Line.{Line}
use Rattle.pm_session.specs.declared.line.Act.{Act}
use Rattle.pm_session.specs.declared.line.Act.TheVariants.{Pull}
use Rattle.pm_session.specs.declared.member.Member.{Member}
use Rattle.pm_session.specs.declared.member.Member.TheVariants.{Editor, Raw}
use Rattle.pm_session.specs.Events.{State, placed, by_some, acted, played}
use Rattle.pm_session.specs.Sounds.{Sound}
use Rattle.pm_session.specs.Suits.{enters, ActSuits, SuitsRoom}
use Rattle.pm_session.proofs.Editors.{editor_acts, lifted, acted-editor}
use Rattle.pm_session.proofs.SoundLaws.{get-set, set-length}
use Rattle.pm_versions.specs.Late.{IsEditorIdle, SuitsLate, entered_by, entered, late_played}
use Rattle.pm_versions.specs.Pulled.{raised, pulled_line, entered_with, with_pull, IsPulled, IsAsPulled, AsPulled, EntersNew}
use Rattle.pm_versions.proofs.Alikes.{acts-alike}
use Rattle.pm_versions.proofs.Fresh.{fresh-pulls}
use Rattle.pm_versions.proofs.Entrances.{entered-stands}

get-some : {A : Type 0} (xs : List A) (i : ℕ) → i < length xs → (x : A) × (slice_get xs i ≡ Some x)
get-some [] i l = absurd (omega arith)
get-some (x ∷ xs) zero l = (x, refl)
get-some (x ∷ xs) (suc i) l = get-some xs i (omega arith)

within : {A : Type 0} (xs : List A) (i : ℕ) (x : A) → slice_get xs i ≡ Some x → i < length xs
within [] i x h = absurd (cc)
within (y ∷ xs) zero x h = omega arith
within (y ∷ xs) (suc i) x h = let r = within xs i x h in omega arith

module _ {Rules Doc Reason C : Type 0} where
  -- a room with one member and the authority changed, and the other room likewise
  placed-as : (has has' : ℕ → Bool) (s t : State C Rules Doc Reason) (i : ℕ) (a b : Authority C Rules Doc Reason) (x y : Member C Rules Doc Reason)
      → AsPulled has s t → b ≡ a → IsAsPulled (has' i) x y → ((k : ℕ) → (k ≡ i → ⊥) → has' k ≡ has k) → AsPulled has' (placed s i a x) (placed t i b y)
  placed-as has has' s t i a b x y was same here others = record {
    authority = same;
    count = set-length t.members i y ∙ was.count ∙ sym (set-length s.members i x);
    members = λ k u v at_u at_v. by-place k u v (get-set s.members i k x u at_u) (get-set t.members i k y v at_v);
  }
    where
      by-place : (k : ℕ) (u v : Member C Rules Doc Reason) → ((k ≡ i) × (u ≡ x)) ⊎ ((k ≡ i → ⊥) × (slice_get s.members k ≡ Some u))
          → ((k ≡ i) × (v ≡ y)) ⊎ ((k ≡ i → ⊥) × (slice_get t.members k ≡ Some v)) → IsAsPulled (has' k) u v
      by-place k u v (inl g) (inl h) = rw (g.0, g.1, h.1) here
      by-place k u v (inl g) (inr h) = absurd (h.0 g.0)
      by-place k u v (inr g) (inl h) = absurd (g.0 h.0)
      by-place k u v (inr g) (inr h) = rw (others k g.0) (was.members k u v g.1 h.1)

module _ {Rules Doc Reason C Op : Type 0} (m : Meaning Rules Doc Reason C) (rules : Rules) (makes : Doc → Op → Result (List C) NoStep) (has : ℕ → Bool)
    (s t : State C Rules Doc Reason) (line : Line Op C) (sound : Sound m rules s) (was : AsPulled has s t) where
  -- what the line's member is in the other room
  other : (x : Member C Rules Doc Reason) → slice_get s.members line.client ≡ Some x
      → (y : Member C Rules Doc Reason) × (slice_get t.members line.client ≡ Some y) × IsAsPulled (has line.client) x y
  other x at =
      let g = get-some t.members line.client (omega (arith, within s.members line.client x at, was.count)) in
      (g.0, g.1, was.members line.client x g.0 at g.1)

  -- the room after an act by a member that is there
  acts-there : (r : State C Rules Doc Reason) (act : Act Op C) (x : Member C Rules Doc Reason) → slice_get r.members line.client ≡ Some x
      → (by_some r line.client (slice_get r.members line.client) (acted m rules makes r.authority act)).1
      ≡ placed r line.client (acted m rules makes r.authority act x).1 (acted m rules makes r.authority act x).2
  acts-there r act x at = ap (λ o. (by_some r line.client o (acted m rules makes r.authority act)).1) at

  -- ---- a line that does not enter

  module _ (stays : enters line.act ≡ false) (suits : SuitsRoom s line) where
    same-has : (k : ℕ) → entered_with has line k ≡ has k
    same-has k = ap (λ b. (b && (line.client == k)) || has k) stays

    both-act : (act : Act Op C) (y : Member C Rules Doc Reason) → slice_get t.members line.client ≡ Some y
        → (acted m rules makes t.authority act y).1 ≡ (acted m rules makes s.authority line.act suits.member).1
        → IsAsPulled (has line.client) (acted m rules makes s.authority line.act suits.member).2 (acted m rules makes t.authority act y).2
        → AsPulled (entered_with has line) (by_some s line.client (slice_get s.members line.client) (acted m rules makes s.authority line.act)).1
        (by_some t line.client (slice_get t.members line.client) (acted m rules makes t.authority act)).1
    both-act act y at same pulled =
        let p = acted m rules makes s.authority line.act suits.member in
        let q = acted m rules makes t.authority act y in
        subst (λ r. AsPulled (entered_with has line) r (by_some t line.client (slice_get t.members line.client) (acted m rules makes t.authority act)).1)
        (sym (acts-there s line.act suits.member suits.at))
        (subst (λ r. AsPulled (entered_with has line) (placed s line.client p.1 p.2) r) (sym (acts-there t act y at))
        (placed-as has (entered_with has line) s t line.client p.1 q.1 p.2 q.2 was same (rw (same-has line.client) pulled) (λ k apart. same-has k)))

    -- an editor that entered
    editor-acts : (c : Client C Rules Doc Reason) (y : Member C Rules Doc Reason) → IsPulled (Editor c) y → ActSuits (Editor c) line.act
        → ((acted m rules makes t.authority (raised line.act) y).1 ≡ (acted m rules makes s.authority line.act (Editor c)).1)
        × IsPulled (acted m rules makes s.authority line.act (Editor c)).2 (acted m rules makes t.authority (raised line.act) y).2
    editor-acts c y pulled suit =
        let d = with_pull pulled.0 c in
        let one = acted-editor m rules makes s.authority line.act c in
        let two = acted-editor m rules makes s.authority (raised line.act) d in
        let alike = acts-alike m rules pulled.0 makes s.authority c line.act suit.1 in
        rw (was.authority, pulled.1, one, two) (alike.0, (pulled.0, ap Editor alike.1))

    by-has : (b : Bool) → has line.client ≡ b → (x y : Member C Rules Doc Reason) → x ≡ suits.member → IsAsPulled b x y → ActSuits x line.act
        → ((acted m rules makes t.authority (if b then raised line.act else line.act) y).1 ≡ (acted m rules makes s.authority line.act x).1)
        × IsAsPulled b (acted m rules makes s.authority line.act x).2 (acted m rules makes t.authority (if b then raised line.act else line.act) y).2
    by-has true e (Editor c) y is pulled suit = editor-acts c y pulled suit
    by-has true e (Raw name serial) y is pulled suit = absurd pulled
    by-has false e x y is same suit = rw (was.authority, same) (refl, refl)

    pub plays-pulled : AsPulled (entered_with has line) (played m rules makes s line).1 (played m rules makes t (pulled_line has line)).1
    plays-pulled =
        let o = other suits.member suits.at in
        let act = if has line.client then raised line.act else line.act in
        let r = by-has (has line.client) refl suits.member o.0 refl o.2 suits.suits in
        let both = both-act act o.0 o.1 r.0 r.1 in
        let is : act ≡ (if enters line.act then Pull false else act) = ap (λ b. if b then Pull false else act) (sym stays) in
        subst (λ act. AsPulled (entered_with has line) (played m rules makes s line).1 (by_some t line.client (slice_get t.members line.client) (acted m rules makes t.authority act)).1) is both

  -- ---- a line that enters

  module _ (comes : enters line.act ≡ true) (new : EntersNew has s line) where
    pub enters-pulled : AsPulled (entered_with has line) (entered s line.client).1 (played m rules makes t (pulled_line has line)).1
    enters-pulled =
        let a = s.authority in
        let i = line.client in
        let c : Client C Rules Doc Reason = new_client i a.first in
        let at = new.new comes in
        let o = other (Editor c) at in
        let same : o.0 ≡ Editor c = subst (λ b. IsAsPulled b (Editor c) o.0) (new.once comes) o.2 in
        let far = (entered-stands m rules s i c sound at refl).0 in
        let pulls = fresh-pulls m rules makes a i sound.authority far in
        let x : Member C Rules Doc Reason = Editor (entered_client i (length a.log) a.doc) in
        let q = acted m rules makes t.authority (Pull false) o.0 in
        let q_is : q ≡ lifted (editor_acts m rules makes a (Pull false) c) = ap (λ b. acted m rules makes b (Pull false) o.0) was.authority ∙ ap (λ y. acted m rules makes a (Pull false) y) same ∙ acted-editor m rules makes a (Pull false) c in
        let authority : q.1 ≡ a = ap (λ p. p.1) q_is ∙ pulls.0 in
        let member : q.2 ≡ Editor (with_pull a.log (entered_client i (length a.log) a.doc)) = ap (λ p. p.2) q_is ∙ ap Editor pulls.1 in
        let here : entered_with has line i ≡ true = rw (comes, eq-eqb i i refl) refl in
        let left : (entered s i).1 ≡ placed s i a x = ap (λ o. (entered_by s i o).1) at in
        let right : (played m rules makes t (pulled_line has line)).1 ≡ placed t i q.1 q.2 =
        ap (λ b. (by_some t i (slice_get t.members i) (acted m rules makes t.authority (if b then Pull false else (if has i then raised line.act else line.act)))).1) comes
        ∙ acts-there t (Pull false) o.0 o.1 in
        subst (λ r. AsPulled (entered_with has line) r (played m rules makes t (pulled_line has line)).1) (sym left)
        (subst (λ r. AsPulled (entered_with has line) (placed s i a x) r) (sym right)
        (placed-as has (entered_with has line) s t i a q.1 x q.2 was authority (subst (λ b. IsAsPulled b x q.2) (sym here) (a.log, member)) others))
      where
        others : (k : ℕ) → (k ≡ line.client → ⊥) → entered_with has line k ≡ has k
        others k apart = by-test (line.client == k) refl
          where
            by-test : (b : Bool) → (line.client == k) ≡ b → entered_with has line k ≡ has k
            by-test true e = absurd (apart (sym (eqb-true line.client k e)))
            by-test false e = rw (comes, e) refl

  -- a line of either kind
  pub late-pulled : SuitsLate s line → EntersNew has s line
      → AsPulled (entered_with has line) (late_played m rules makes s line).1 (played m rules makes t (pulled_line has line)).1
  late-pulled suits new = by-test (enters line.act) refl
    where
      by-test : (b : Bool) → enters line.act ≡ b → AsPulled (entered_with has line) (late_played m rules makes s line).1 (played m rules makes t (pulled_line has line)).1
      by-test true comes =
          subst (λ b. AsPulled (entered_with has line) (if b then entered s line.client else played m rules makes s line).1 (played m rules makes t (pulled_line has line)).1) (sym comes)
          (enters-pulled comes new)
      by-test false stays =
          let room : SuitsRoom s line = subst (λ b. MatchBool b (IsEditorIdle s line.client) (SuitsRoom s line)) stays suits in
          subst (λ b. AsPulled (entered_with has line) (if b then entered s line.client else played m rules makes s line).1 (played m rules makes t (pulled_line has line)).1) (sym stays)
          (plays-pulled stays room)
