-- Where the serials that a client drew stand.
use Rattle.std.specs.Prelude.{◌≡◌, ℕ, zero, suc, ◌+◌, ◌<◌, ◌==◌, nat_lt, if◌then◌else◌, List, [], ◌∷◌, ◌++◌}
use Rattle.std.specs.List.{AllByRecursion as Each}
use Rattle.pm_authority.specs.declared.named.Named.{Named}

-- how often a serial stands in a list
abbrev pub times : ℕ → List ℕ → ℕ
times s [] = 0
times s (x ∷ xs) = (if x == s then 1 else 0) + times s xs

-- the serials of steps
abbrev pub serials_of : {C : Type 0} → List (Named C) → List ℕ
serials_of [] = []
serials_of (n ∷ ns) = n.name.serial ∷ serials_of ns

-- the serials of a client's own steps among these
abbrev pub own_serials : {C : Type 0} → ℕ → List (Named C) → List ℕ
own_serials client [] = []
own_serials client (n ∷ ns) = if n.name.client == client then n.name.serial ∷ own_serials client ns else own_serials client ns

-- the numbers from 1 to n, the last first
abbrev pub numbers_to : ℕ → List ℕ
numbers_to zero = []
numbers_to (suc n) = suc n ∷ numbers_to n

-- each number is below all later ones
abbrev pub Rises : List ℕ → Type 0
Rises [] = Unit {0}
Rises (x ∷ xs) = Each (λ y. x < y) xs × Rises xs

-- a serial at its place among others that are in order
abbrev pub put : ℕ → List ℕ → List ℕ
put x [] = x ∷ []
put x (y ∷ ys) = if nat_lt y x then y ∷ put x ys else x ∷ y ∷ ys

-- each of the second list at its place in the first
abbrev pub merged : List ℕ → List ℕ → List ℕ
merged ds [] = ds
merged ds (x ∷ xs) = merged (put x ds) xs

-- Each serial drawn so far, which are the numbers from 1 on, is exactly one of these: that of an own entry of the log
-- before the version, that of a pending step, and a dropped one. The own entries' serials and then the pending ones
-- rise, and the dropped ones rise.
pub record Parted {C : Type 0} (client : ℕ) (before pending : List (Named C)) (dropped : List ℕ) (drawn : ℕ) : Type 0 where
  pub parts : (s : ℕ) → times s (own_serials client before) + times s (serials_of pending) + times s dropped ≡ times s (numbers_to drawn)
  pub rise : Rises (own_serials client before ++ serials_of pending)
  pub dropped_rise : Rises dropped
