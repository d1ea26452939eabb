-- When each answer comes, and what it leaves.
use Rattle.std.specs.Prelude.{◌≡◌, ◌≢◌, ◌++◌, length, drop}
use Rattle.pm_change.specs.Changes.{Meaning}
use Rattle.pm_authority.specs.Runs.{AllApply, StopsAt}
use Rattle.pm_authority.specs.declared.message.Message.{Message}
use Rattle.pm_authority.specs.declared.message.Message.TheVariants.{Submit, Ask}
use Rattle.pm_authority.specs.declared.message.Answer.{Answer}
use Rattle.pm_authority.specs.declared.message.Answer.TheVariants.{Accepted, WrongVersion, StepRefused, Entries}
use Rattle.pm_authority.specs.declared.authority.Authority.{Authority}

module _ {Rules Doc Reason C : Type 0} (m : Meaning Rules Doc Reason C) (rules : Rules) where
  -- Accepted comes where the version is the log's length and the steps apply one after another to the document; it tells
  -- that length and the number of steps. WrongVersion comes where the version is not the log's length, which it tells.
  -- StepRefused comes where the version is the log's length and the step that it names is the first that does not apply.
  -- Entries comes to a request, and to nothing else: it has the request's version, and the log from there on.
  abbrev pub IsAnswer : Authority C Rules Doc Reason → Message C → Answer C Rules Doc Reason → Type 0
  IsAnswer a (Submit version steps) (Accepted from count) =
      (version ≡ length a.log) × (((end : Doc) × AllApply m rules a.doc steps end) × ((from ≡ length a.log) × (count ≡ length steps)))
  IsAnswer a (Submit version steps) (WrongVersion size) = (version ≢ length a.log) × (size ≡ length a.log)
  IsAnswer a (Submit version steps) (StepRefused index reason) =
      (version ≡ length a.log) × StopsAt m rules a.doc steps index reason
  IsAnswer a (Submit version steps) (Entries since entries) = ⊥
  IsAnswer a (Ask version) (Entries since entries) = (since ≡ version) × (entries ≡ drop version a.log)
  IsAnswer a (Ask version) (Accepted from count) = ⊥
  IsAnswer a (Ask version) (WrongVersion size) = ⊥
  IsAnswer a (Ask version) (StepRefused index reason) = ⊥

  -- After Accepted the log has the message's steps at its end, the document is what they give, and the first document is
  -- the same. No other answer changes the authority.
  abbrev pub IsNext : Authority C Rules Doc Reason → Message C → Answer C Rules Doc Reason → Authority C Rules Doc Reason → Type 0
  IsNext a (Submit version steps) (Accepted from count) next =
      (next.log ≡ a.log ++ steps) × ((AllApply m rules a.doc steps next.doc) × (next.first ≡ a.first))
  IsNext a (Submit version steps) (WrongVersion size) next = next ≡ a
  IsNext a (Submit version steps) (StepRefused index reason) next = next ≡ a
  IsNext a (Submit version steps) (Entries since entries) next = next ≡ a
  IsNext a (Ask version) answer next = next ≡ a
