-- What a stack of open nodes is seen as.
use Rattle.std.specs.Prelude.{ℕ, Option, Some, None, List, [], ◌∷◌, ◌++◌}
use Rattle.pm_tokens.specs.Tokens.{Token, Open}
use Rattle.pm_tokens.specs.Scan.{Balanced}
use Rattle.pm_build.specs.declared.builder.Frame.{Frame}

-- the opens of the frames, each with its content so far, the outermost first
abbrev pub frames_tokens : List Frame → List Token
frames_tokens [] = []
frames_tokens (f ∷ fs) = Open f.kind f.attrs f.marks ∷ (f.content ++ frames_tokens fs)

abbrev pub AllWhole : List Frame → Type 0
AllWhole [] = Unit {0}
AllWhole (f ∷ fs) = Balanced f.content × AllWhole fs

pub record Whole (base : List Token) (fs : List Frame) : Type 0 where
  pub at_base : Balanced base
  pub at_frames : AllWhole fs

-- the innermost of the types of the open nodes
abbrev pub first_of : List ℕ → Option ℕ
first_of [] = None
first_of (k ∷ s) = Some k
