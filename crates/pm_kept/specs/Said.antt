-- What answers say, for private clauses.
use Rattle.std.specs.Prelude.{ℕ, List, [], ◌++◌, string_bytes}
use Rattle.pm_talk.specs.Texts.{no_memory}
use Rattle.pm_kept.specs.declared.answers.Answer.{Answer}
use Rattle.pm_kept.specs.declared.answers.Answer.TheVariants as answer
use Rattle.pm_kept.specs.declared.answers.Answers.{Answers}

-- what the last of them says
abbrev pub last_said : Answer → List ℕ
last_said answer.None = []
last_said (answer.Text text) = string_bytes text
last_said answer.NoMemory = no_memory

-- what all of them say
abbrev pub said : Answers → List ℕ
said answers = answers.text.items ++ last_said answers.last
