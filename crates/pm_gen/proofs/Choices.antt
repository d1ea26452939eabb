-- What a number below 16 stands for, case by case.
use Rattle.std.proofs.Common.{◌≡◌, ℕ, ◌<◌, ◌≤◌, false, refl, arith}
use Rattle.std.proofs.lemmas.Bool.{le-leb, lt-leb}
use Rattle.pm_gen.specs.declared.turns.Turn.TheVariants.{Undo, Redo, Push, Pull}
use Rattle.pm_gen.specs.Draws.{next}
use Rattle.pm_gen.specs.Turns.{typing, deleting, splitting, marking, losing, chosen, behind}

pub chosen_typing : (k x : ℕ) → k ≤ 5 → chosen k x ≡ typing x
unfolding chosen
chosen_typing k x high = rw (le-leb k 5 high) refl

pub chosen_deleting : (k x : ℕ) → 5 < k → k ≤ 7 → chosen k x ≡ deleting x
unfolding chosen
chosen_deleting k x low high = rw (lt-leb k 5 (omega arith), le-leb k 7 high) refl

pub chosen_splitting : (k x : ℕ) → 7 < k → k ≤ 8 → chosen k x ≡ splitting x
unfolding chosen
chosen_splitting k x low high = rw (lt-leb k 5 (omega arith), lt-leb k 7 (omega arith), le-leb k 8 high) refl

pub chosen_marking : (k x : ℕ) → 8 < k → k ≤ 9 → chosen k x ≡ marking x
unfolding chosen
chosen_marking k x low high = rw (lt-leb k 5 (omega arith), lt-leb k 7 (omega arith), lt-leb k 8 (omega arith), le-leb k 9 high) refl

pub chosen_undo : (k x : ℕ) → 9 < k → k ≤ 10 → chosen k x ≡ Undo
unfolding chosen
chosen_undo k x low high = rw (lt-leb k 5 (omega arith), lt-leb k 7 (omega arith), lt-leb k 8 (omega arith), lt-leb k 9 (omega arith), le-leb k 10 high) refl

pub chosen_redo : (k x : ℕ) → 10 < k → k ≤ 11 → chosen k x ≡ Redo
unfolding chosen
chosen_redo k x low high = rw (lt-leb k 5 (omega arith), lt-leb k 7 (omega arith), lt-leb k 8 (omega arith), lt-leb k 9 (omega arith), lt-leb k 10 (omega arith), le-leb k 11 high) refl

pub chosen_push : (k x : ℕ) → 11 < k → k ≤ 13 → chosen k x ≡ Push false
unfolding chosen
chosen_push k x low high = rw (lt-leb k 5 (omega arith), lt-leb k 7 (omega arith), lt-leb k 8 (omega arith), lt-leb k 9 (omega arith), lt-leb k 10 (omega arith), lt-leb k 11 (omega arith), le-leb k 13 high) refl

pub chosen_pull : (k x : ℕ) → 13 < k → k ≤ 14 → chosen k x ≡ Pull
unfolding chosen
chosen_pull k x low high = rw (lt-leb k 5 (omega arith), lt-leb k 7 (omega arith), lt-leb k 8 (omega arith), lt-leb k 9 (omega arith), lt-leb k 10 (omega arith), lt-leb k 11 (omega arith), lt-leb k 13 (omega arith), le-leb k 14 high) refl

pub chosen_losing : (k x : ℕ) → 14 < k → chosen k x ≡ losing x
unfolding chosen
chosen_losing k x low = rw (lt-leb k 5 (omega arith), lt-leb k 7 (omega arith), lt-leb k 8 (omega arith), lt-leb k 9 (omega arith), lt-leb k 10 (omega arith), lt-leb k 11 (omega arith), lt-leb k 13 (omega arith), lt-leb k 14 (omega arith)) refl

pub behind_two : (k x : ℕ) → k ≤ 7 → behind k x ≡ next (next x)
unfolding behind
behind_two k x high = rw (le-leb k 7 high) refl

pub behind_one : (k x : ℕ) → 7 < k → k ≤ 8 → behind k x ≡ next x
unfolding behind
behind_one k x low high = rw (lt-leb k 7 (omega arith), le-leb k 8 high) refl

pub behind_three : (k x : ℕ) → 8 < k → k ≤ 9 → behind k x ≡ next (next (next x))
unfolding behind
behind_three k x low high = rw (lt-leb k 7 (omega arith), lt-leb k 8 (omega arith), le-leb k 9 high) refl

pub behind_none : (k x : ℕ) → 9 < k → k ≤ 14 → behind k x ≡ x
unfolding behind
behind_none k x low high = rw (lt-leb k 7 (omega arith), lt-leb k 8 (omega arith), lt-leb k 9 (omega arith), le-leb k 14 high) refl

pub behind_last : (k x : ℕ) → 14 < k → behind k x ≡ next x
unfolding behind
behind_last k x low = rw (lt-leb k 7 (omega arith), lt-leb k 8 (omega arith), lt-leb k 9 (omega arith), lt-leb k 14 (omega arith)) refl

pub ruleset choices = (chosen_typing, chosen_deleting, chosen_splitting, chosen_marking, chosen_undo, chosen_redo, chosen_push, chosen_pull, chosen_losing, behind_two, behind_one, behind_three, behind_none, behind_last)
