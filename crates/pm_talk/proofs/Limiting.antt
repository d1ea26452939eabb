-- What a talk with a limit of work is told.
use Rattle.std.proofs.Common.{List, ℕ, refl, string_bytes}
use Rattle.std.specs.Prelude.{Result, Ok, Err, IfOk}
use Rattle.pm_serve.specs.declared.service.Reply.{Reply}
use Rattle.pm_talk.specs.declared.limited.Limited.{Limited}
use Rattle.pm_talk.specs.declared.talk.Talk.{Talk}
use Rattle.pm_talk.specs.Limited.{RepliesBelow, RepliesWithin}

-- its talk is told so, and the limit stays
pub told-within : {E : Type 0} (result : Result Reply E) (old : Limited) (line : List ℕ) (talk : Talk)
    → IfOk result (λ r. RepliesBelow old.limit old.talk line (string_bytes r.text) r.more talk)
    → IfOk result (λ r. RepliesWithin old line (string_bytes r.text) r.more record { talk = talk; limit = old.limit })
told-within (Ok r) old line talk told = (told, refl)
told-within (Err e) old line talk told = tt
