-- Lines that suit a room just opened.
use Rattle.std.specs.Prelude.{◌≡◌, ℕ, zero, suc, ◌+◌, Bool, true, false, List, [], ◌∷◌, length, slice_get, Some, refl}
use Rattle.std.proofs.Common.{sym, ap, arith}
use Rattle.pm_client.specs.declared.client.Client.{Client}
use Rattle.pm_client.specs.Clients.{new_client}
use Rattle.pm_session.specs.declared.member.Member.{Member}
use Rattle.pm_session.specs.declared.member.Member.TheVariants.{Editor}
use Rattle.pm_session.specs.declared.line.Line.{Line}
use Rattle.pm_session.specs.Members.{kinds_of}
use Rattle.pm_session.specs.Sessions.{new_member, new_members, opened}
use Rattle.pm_session.specs.Suits.{AllSuit, LinesSuit}

module _ {Rules Doc Reason C : Type 0} (doc : Doc) where
  -- the member at place k of those named from i on
  pub new-at : (i : ℕ) (raw : List Bool) (k : ℕ) (x : Member C Rules Doc Reason) → slice_get (new_members doc i raw) k ≡ Some x
      → (b : Bool) × (slice_get raw k ≡ Some b) × (x ≡ new_member doc (i + k) b)
  new-at i [] k x h = absurd (cc)
  new-at i (b ∷ raw) zero x h =
      let one : new_member doc i b ≡ x = cc in
      let two : i + 0 ≡ i = omega arith in
      (b, refl, rw two (sym one))
  new-at i (b ∷ raw) (suc k) x h =
      let two : i + suc k ≡ i + 1 + k = omega arith in
      let r = new-at (i + 1) raw k x h in
      (r.0, r.1, rw two r.2)

  -- an editor just come has no messages and no answers
  pub new-empty : (i : ℕ) (b : Bool) (c : Client C Rules Doc Reason) → Editor c ≡ new_member doc i b → (length c.messages ≡ 0) × (length c.answers ≡ 0)
  new-empty i true c e = absurd (cc)
  new-empty i false c e =
      let is : c ≡ new_client i doc = cc in
      (ap (λ (x : Client C Rules Doc Reason). length x.messages) is, ap (λ (x : Client C Rules Doc Reason). length x.answers) is)

-- the members are of the kinds that were asked for
pub kinds-new : (Rules Doc Reason C : Type 0) (doc : Doc) (i : ℕ) (raw : List Bool)
    → kinds_of (new_members {Rules = Rules} {Doc = Doc} {Reason = Reason} {C = C} doc i raw) ≡ raw
kinds-new Rules Doc Reason C doc i [] = refl
kinds-new Rules Doc Reason C doc i (true ∷ raw) = ap (λ l. true ∷ l) (kinds-new Rules Doc Reason C doc (i + 1) raw)
kinds-new Rules Doc Reason C doc i (false ∷ raw) = ap (λ l. false ∷ l) (kinds-new Rules Doc Reason C doc (i + 1) raw)

-- lines of clients of these kinds, the first of which follows no other, suit a room opened with these clients
pub opened-suits : {Op : Type 0} (Rules Doc Reason C : Type 0) (doc : Doc) (raw : List Bool) (lines : List (Line Op C)) → AllSuit raw [] lines
    → LinesSuit (opened {Rules = Rules} {Doc = Doc} {Reason = Reason} {C = C} doc raw) lines
opened-suits Rules Doc Reason C doc raw lines suit = record {
  earlier = [];
  counted = λ i c at. let is = new-at doc 0 raw i (Editor c) at in new-empty doc (0 + i) is.0 c is.2;
  suit = rw (kinds-new Rules Doc Reason C doc 0 raw) suit;
}
