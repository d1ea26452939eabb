-- What holds of all that a reading gives.
use Rattle.std.proofs.Common.{◌≡◌, subst}
use Rattle.std.specs.Prelude.{Option, Some, None, Result, Ok, Err, option_and_then}
use Rattle.pm_list.specs.Readings.{◌>>=◌}

abbrev pub Gives : {A E : Type 0} → (A → Type 0) → Result A E → Type 0
Gives P (Ok x) = P x
Gives P (Err e) = Unit {0}

pub then-gives : {A B E : Type 0} (P : A → Type 0) (Q : B → Type 0) (r : Result A E) (f : A → Result B E) → Gives P r → ((x : A) → P x → Gives Q (f x)) → Gives Q (r >>= f)
then-gives P Q (Ok x) f h k = k x h
then-gives P Q (Err e) f h k = tt

-- whatever is read first
pub past : {A B E : Type 0} (Q : B → Type 0) (r : Result A E) (f : A → Result B E) → ((x : A) → Gives Q (f x)) → Gives Q (r >>= f)
past Q (Ok x) f k = k x
past Q (Err e) f k = tt

pub given : {A E : Type 0} (P : A → Type 0) (r : Result A E) (x : A) → r ≡ Ok x → Gives P r → P x
given P r x e h = subst (Gives P) e h

-- the same of an answer that may be absent
abbrev pub IfThere : {A : Type 0} → (A → Type 0) → Option A → Type 0
IfThere P None = Unit {0}
IfThere P (Some x) = P x

pub then-there : {A B : Type 0} (P : A → Type 0) (Q : B → Type 0) (o : Option A) (f : A → Option B) → IfThere P o → ((x : A) → P x → IfThere Q (f x)) → IfThere Q (option_and_then f o)
then-there P Q None f h k = tt
then-there P Q (Some x) f h k = k x h
