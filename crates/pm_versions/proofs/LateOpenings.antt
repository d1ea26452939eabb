-- Lines that suit a room just opened, which clients enter late.
use Rattle.std.specs.Prelude.{◌≡◌, ℕ, ◌+◌, Bool, true, false, List, []}
use Rattle.std.proofs.Common.{◌∙◌, ap, arith}
use Rattle.pm_client.specs.declared.client.Client.{Client}
use Rattle.pm_client.specs.Clients.{new_client}
use Rattle.pm_session.specs.declared.line.Line.{Line}
use Rattle.pm_session.specs.declared.member.Member.TheVariants.{Editor}
use Rattle.pm_session.specs.Sessions.{new_member, opened}
use Rattle.pm_session.proofs.Openings.{new-at, new-empty, kinds-new}
use Rattle.pm_versions.specs.LateSessions.{LateLinesSuit}
use Rattle.pm_versions.specs.Suiting.{AllSuitLate}

-- an editor just come is a new client
editor-new : {Rules Doc Reason C : Type 0} (doc : Doc) (i : ℕ) (b : Bool) (c : Client C Rules Doc Reason) → Editor c ≡ new_member doc i b → c ≡ new_client i doc
editor-new doc i true c e = absurd (cc)
editor-new doc i false c e = cc

-- lines of clients of these kinds, the first of which follows no other, suit a room opened with these clients
pub opened-suits-late : {Op : Type 0} (Rules Doc Reason C : Type 0) (doc : Doc) (raw : List Bool) (lines : List (Line Op C)) → AllSuitLate raw [] lines
    → LateLinesSuit (opened {Rules = Rules} {Doc = Doc} {Reason = Reason} {C = C} doc raw) lines
opened-suits-late Rules Doc Reason C doc raw lines suit = record {
  earlier = [];
  counted = λ i c at. let is = new-at doc 0 raw i (Editor c) at in new-empty doc (0 + i) is.0 c is.2;
  new = λ i c at none.
      let is = new-at doc 0 raw i (Editor c) at in
      let name : 0 + i ≡ i = omega arith in
      editor-new doc (0 + i) is.0 c is.2 ∙ ap (λ k. new_client k doc) name;
  suit = rw (kinds-new Rules Doc Reason C doc 0 raw) suit;
}
