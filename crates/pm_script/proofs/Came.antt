-- Readings that came to something.
use Rattle.std.proofs.Common.{◌≡◌, ℕ, Bool, true, false, refl, Result, Ok, Err}
use Rattle.std.specs.Prelude.{◌&&◌, if◌then◌else◌, Option, Some, None}
use Rattle.pm_list.specs.Readings.{◌>>=◌, or_fault}
use Rattle.pm_head.specs.declared.code.Code.{Code}
use Rattle.pm_script.specs.Sessions.{at_line}

pub then-ok : {A B E : Type 0} (r : Result A E) (f : A → Result B E) (y : B) → (r >>= f) ≡ Ok y → (x : A) × (r ≡ Ok x) × (f x ≡ Ok y)
then-ok (Ok x) f y h = (x, refl, h)
then-ok (Err e) f y h = absurd (cc)

pub fault-ok : {A E : Type 0} (e : E) (o : Option A) (x : A) → or_fault e o ≡ Ok x → o ≡ Some x
fault-ok e None x h = absurd (cc)
fault-ok e (Some y) x h = (cc)

pub when-ok : {A E : Type 0} (b : Bool) (x y : A) (e : E) → (if b then Ok x else Err e) ≡ Ok y → (b ≡ true) × (x ≡ y)
when-ok true x y e h = (refl, (cc))
when-ok false x y e h = absurd (cc)

pub unless-ok : {A E : Type 0} (b : Bool) (e : E) (r : Result A E) (y : A) → (if b then Err e else r) ≡ Ok y → r ≡ Ok y
unless-ok true e r y h = absurd (cc)
unless-ok false e r y h = h

pub line-ok : {A : Type 0} (n : ℕ) (r : Result A Code) (x : A) → at_line n r ≡ Ok x → r ≡ Ok x
line-ok n (Ok y) x h = (cc)
line-ok n (Err code) x h = absurd (cc)

pub both-true : (a b : Bool) → (a && b) ≡ true → (a ≡ true) × (b ≡ true)
both-true true true h = (refl, refl)
both-true true false h = absurd (cc)
both-true false b h = absurd (cc)
