-- What a view of a part of a document shows.
use Rattle.std.specs.Prelude.{◌≡◌, ℕ, List, [], Result, Ok, Err}
use Rattle.pm_tokens.specs.Tokens.{Token}
use Rattle.pm_tokens.specs.Scan.{part}
use Rattle.pm_tokens.specs.Slices.{cut}
use Rattle.pm_slice.specs.declared.fault.CutError.{CutError}
use Rattle.pm_slice.specs.declared.fault.CutError.TheVariants.{Range, NoMemory}
use Rattle.pm_slice.specs.Cuts.{InRange}
use Rattle.pm_view.specs.Known.{Known, known, tokens_of}
use Rattle.pm_view.specs.Sliced.{sliced}

-- the tokens from..to, where each close knows its node, which may open before `from`
abbrev pub viewed : List Token → ℕ → ℕ → List Known
viewed ts from to = part from to (known [] ts)

-- It shows the tokens from..to, and its slice is their cut.
pub record IsView (ts : List Token) (from to : ℕ) (shown : List Known) : Type 0 where
  pub in_range : InRange ts from to
  pub is : shown ≡ viewed ts from to
  pub tokens : tokens_of shown ≡ part from to ts
  pub slice : sliced shown ≡ cut ts from to

-- the view is that of from..to, where the positions are in range; Range comes where they are not. It takes no memory.
abbrev pub Views : List Token → ℕ → ℕ → Result (List Known) CutError → Type 0
Views ts from to (Ok shown) = IsView ts from to shown
Views ts from to (Err Range) = ¬ InRange ts from to
Views ts from to (Err NoMemory) = ⊥
