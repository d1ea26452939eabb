-- The entries that a host gave last are the end of its log.
use Rattle.std.specs.Prelude.{◌≡◌, ℕ, ◌==◌, if◌then◌else◌, Bool, true, false, List, ◌++◌, length, drop, Some, Result, Ok, Err}
use Rattle.std.proofs.Common.{sym, ap, subst, arith, length-append, length-drop}
use Rattle.pm_change.specs.Changes.{Meaning}
use Rattle.pm_authority.specs.declared.named.Named.{Named}
use Rattle.pm_authority.specs.declared.running.Refusal.{Refusal}
use Rattle.pm_authority.specs.declared.message.Message.{Message}
use Rattle.pm_authority.specs.declared.message.Message.TheVariants.{Submit, Ask}
use Rattle.pm_authority.specs.declared.message.Answer.{Answer}
use Rattle.pm_authority.specs.declared.message.Answer.TheVariants.{WrongVersion}
use Rattle.pm_authority.specs.declared.authority.Authority.{Authority}
use Rattle.pm_authority.specs.Runs.{run}
use Rattle.pm_authority.specs.Presents.{presented, tried}
use Rattle.pm_client.specs.declared.client.Client.{Client}
use Rattle.pm_client.specs.Clients.{answer_at}
use Rattle.pm_client.specs.Kins.{AnswerStands, Kin}
use Rattle.pm_client.proofs.Takings.{answer-stands}
use Rattle.pm_session.specs.Hosts.{IsAnswered, EndsWith}

module _ {Rules Doc Reason C : Type 0} (m : Meaning Rules Doc Reason C) (rules : Rules) where
  tried-ends : (a : Authority C Rules Doc Reason) (steps : List (Named C)) (r : Result Doc (Refusal Reason))
      → EndsWith (tried m rules a steps r).1.log (Some (tried m rules a steps r).0)
  tried-ends a steps (Ok end) = tt
  tried-ends a steps (Err e) = tt

  -- an answer that stands to the log after it
  presented-ends : (a : Authority C Rules Doc Reason) (x : Message C) (version standing : ℕ)
      → AnswerStands (presented m rules a x).1.log version standing (presented m rules a x).0
      → EndsWith (presented m rules a x).1.log (Some (presented m rules a x).0)
  presented-ends a (Ask v) version standing h =
      let part = h.1 in
      let entries : List (Named C) = drop v a.log in
      omega (arith, length-drop v a.log, part.2, ap length part.3, length-append part.0 (entries ++ part.1), length-append (part.0 ++ entries) part.1, length-append part.0 entries)
  presented-ends a (Submit v steps) version standing h = by-test (v == length a.log)
    where
      by-test : (b : Bool)
          → EndsWith (if b then tried m rules a steps (run m rules a.doc 0 steps) else (WrongVersion (length a.log), a)).1.log
          (Some (if b then tried m rules a steps (run m rules a.doc 0 steps) else (WrongVersion (length a.log), a)).0)
      by-test true = tried-ends a steps (run m rules a.doc 0 steps)
      by-test false = tt

  -- the answer of a number that a host gave last
  pub last-ends : (name : ℕ) (first : Doc) (log new : List (Named C)) (x : Message C) (answer : Answer C Rules Doc Reason) → IsAnswered m rules name first log x answer new
      → (begins : Doc) (c : Client C Rules Doc Reason) → Kin m rules begins new c → (n : ℕ) → answer_at c n ≡ Some answer → EndsWith new (answer_at c n)
  last-ends name first log new x answer h begins c kin n at =
      let after = presented m rules h.authority x in
      let one : AnswerStands new c.version kin.standing answer = answer-stands m rules begins new c kin n answer at in
      let two : AnswerStands new c.version kin.standing after.0 = subst (λ y. AnswerStands new c.version kin.standing y) h.answer_is one in
      let three : AnswerStands after.1.log c.version kin.standing after.0 = subst (λ l. AnswerStands l c.version kin.standing after.0) h.new_is two in
      let ends : EndsWith after.1.log (Some after.0) = presented-ends h.authority x c.version kin.standing three in
      let back : EndsWith after.1.log (Some answer) = subst (λ y. EndsWith after.1.log (Some y)) (sym h.answer_is) ends in
      let here : EndsWith new (Some answer) = subst (λ l. EndsWith l (Some answer)) (sym h.new_is) back in
      subst (λ o. EndsWith new o) (sym at) here
