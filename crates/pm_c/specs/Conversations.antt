-- What a handle holds, and what a line does to it.
use Rattle.std.specs.Prelude.{◌≡◌, ℕ, Bool, List, [], String, string_bytes, Option, None, Some}
use Rattle.std.specs.declared.alloc.Global.{Global}
use Rattle.pm_serve.specs.Serves.{Tells}
use Rattle.pm_talk.specs.Texts.{no_memory}
use Rattle.pm_c.specs.declared.conversation.Conversation.{Conversation}
use Rattle.pm_c.specs.declared.any_talk.AnyTalk.{AnyTalk}
use Rattle.pm_c.specs.AnyTalks.{Replies, last_text}

-- the bytes of the answer that was given last
abbrev pub answer_bytes : Option (String Global) → List ℕ
answer_bytes None = no_memory
answer_bytes (Some text) = string_bytes text

abbrev pub answer_of : Conversation → List ℕ
answer_of c = answer_bytes c.answer

-- This talk, and no answer.
pub record IsNew (talk : AnyTalk) (c : Conversation) : Type 0 where
  pub talk_is : c.talk ≡ talk
  pub empty : answer_of c ≡ []

-- a handle that holds something of which this is so
abbrev pub Holds : Option Conversation → (Conversation → Type 0) → Type 0
Holds None P = ⊥
Holds (Some c) P = P c

-- The line was told: the answer is the talk's (`Replies` of AnyTalks), or that there was no memory, and then the talk stands where it
-- stood.
abbrev pub Told : Conversation → List ℕ → Conversation → Type 0
Told c line d = (more : Bool) × Tells Replies last_text no_memory c.talk line (answer_of d) more d.talk
