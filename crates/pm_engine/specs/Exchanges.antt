-- An exchange: a client composes a message, the authority answers it, and the client keeps the answer and takes it.
use Rattle.std.specs.Prelude.{◌≡◌, ◌≢◌, ◌⊎◌, length}
use Rattle.pm_change.specs.Changes.{Meaning}
use Rattle.pm_authority.specs.declared.authority.Authority.{Authority}
use Rattle.pm_authority.specs.declared.message.Answer.{Answer}
use Rattle.pm_authority.specs.Presents.{presented}
use Rattle.pm_client.specs.declared.client.Client.{Client}
use Rattle.pm_client.specs.declared.taken.MessageKind.{MessageKind}
use Rattle.pm_client.specs.declared.taken.MessageKind.TheVariants.{Submit}
use Rattle.pm_client.specs.declared.taken.Taken.{Taken}
use Rattle.pm_client.specs.Clients.{message_of, composed, kept, taken}

module _ {Rules Doc Reason C : Type 0} (m : Meaning Rules Doc Reason C) (rules : Rules) (a : Authority C Rules Doc Reason) (c : Client C Rules Doc Reason) (kind : MessageKind) where
  -- the answer to the client's message of this kind, and the authority after it
  abbrev pub answered : Answer C Rules Doc Reason × Authority C Rules Doc Reason
  answered = presented m rules a (message_of c kind)

  -- the client with its message composed and the answer kept
  abbrev pub keeper : Client C Rules Doc Reason
  keeper = kept (composed c kind) answered.0

  -- what the client is told when it takes the answer, the authority, and the client after it
  pub record Exchanged (told : Taken) (after : Authority C Rules Doc Reason) (next : Client C Rules Doc Reason) : Type 0 where
    pub answers : after ≡ answered.1
    pub takes : (told, next) ≡ taken m rules keeper answered.0

  -- What running out of memory leaves: nothing was done, or the message was composed, or it was answered too, or the answer
  -- was kept too. The answer was not taken.
  abbrev pub LeftExchanging : Authority C Rules Doc Reason → Client C Rules Doc Reason → Type 0
  LeftExchanging after next =
      ((after ≡ a) × (next ≡ c))
      ⊎ (((after ≡ a) × (next ≡ composed c kind))
      ⊎ (((after ≡ answered.1) × (next ≡ composed c kind))
      ⊎ ((after ≡ answered.1) × (next ≡ keeper))))

-- the message is a submission, and the client's version is not the log's length
abbrev pub SubmitsOld : {Rules Doc Reason C : Type 0} → Authority C Rules Doc Reason → Client C Rules Doc Reason → MessageKind → Type 0
SubmitsOld a c kind = (kind ≡ Submit) × (c.version ≢ length a.log)
