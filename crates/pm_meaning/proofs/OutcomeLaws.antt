-- Outcomes that are documents: what each test has told.
use Rattle.std.specs.Prelude.{◌≡◌, ℕ, Bool, true, false, nat_le, length, Option, Some, None, Result, Ok, Err}
use Rattle.std.proofs.Common.{refl, sym}
use Rattle.pm_tokens.specs.Tokens.{Doc}
use Rattle.pm_tokens.specs.Schemas.{Schema, max_size, max_depth}
use Rattle.pm_tokens.specs.Scan.{is_whole, deepest}
use Rattle.pm_tokens.specs.Faults.{Valid, fault_place}
use Rattle.pm_tokens.proofs.ValidLaws.{valid-place, valid-size, valid-depth, place-valid}
use Rattle.pm_meaning.specs.declared.reason.Reason.{Reason}
use Rattle.pm_meaning.specs.declared.reason.Reason.TheVariants.{Large, Deep, NotInSchema}
use Rattle.pm_meaning.specs.Steps.{Step}
use Rattle.pm_meaning.specs.Known.{knows_step}
use Rattle.pm_meaning.specs.Outcomes.{unless, unless_fault, and_unless, checked, made, outcome}

pub unless-ok : {A : Type 0} (b : Bool) (r : Reason) (x : Result A Reason) (n : A) → unless b r x ≡ Ok n → (b ≡ true) × (x ≡ Ok n)
unless-ok true r x n h = (refl, h)
unless-ok false r x n h = absurd (cc)

pub ok-unless : {A : Type 0} (b : Bool) (r : Reason) (x : Result A Reason) (n : A) → b ≡ true → x ≡ Ok n → unless b r x ≡ Ok n
ok-unless true r x n h k = k
ok-unless false r x n h k = absurd (cc)

pub and-unless-ok : (b : Bool) (r : Reason) (x : Result Doc Reason) (n : Doc) → and_unless b r x ≡ Ok n → (b ≡ true) × (x ≡ Ok n)
and-unless-ok true r (Ok d) n h = (refl, h)
and-unless-ok false r (Ok d) n h = absurd (cc)
and-unless-ok b r (Err e) n h = absurd (cc)

pub and-passes : (b : Bool) (r : Reason) (x : Result Doc Reason) → b ≡ true → and_unless b r x ≡ x
and-passes b r (Ok d) h = rw h refl
and-passes b r (Err e) h = refl

-- a step that applies is known, and gives what is made
pub made-ok : (s : Schema) (c : Step) (d next : Doc) → outcome s c d ≡ Ok next → (knows_step s c ≡ true) × (made s c d ≡ Ok next)
made-ok s c d next h = and-unless-ok (knows_step s c) NotInSchema (made s c d) next h

-- the outcome of a known step is what is made
pub known-made : (s : Schema) (c : Step) (d : Doc) → knows_step s c ≡ true → outcome s c d ≡ made s c d
known-made s c d h = and-passes (knows_step s c) NotInSchema (made s c d) h

fault-none : (f : Option ℕ) (d n : Doc) → unless_fault f d ≡ Ok n → (f ≡ None) × (n ≡ d)
fault-none None d n h = (refl, (let e : d ≡ n = cc in sym e))
fault-none (Some at) d n h = absurd (cc)

-- a document that was checked is the result, and has no fault
pub checked-ok : (s : Schema) (d n : Doc) → checked s d ≡ Ok n → (n ≡ d) × (fault_place s d ≡ None)
checked-ok s d n h =
    let a = unless-ok (nat_le (length d.tokens) (max_size s)) Large _ n h in
    let b = unless-ok _ Deep (unless_fault (fault_place s d) d) n a.1 in
    let c = fault-none (fault_place s d) d n b.1 in
    (c.1, c.0)

-- a valid document passes the checks
pub valid-checks : (s : Schema) (d : Doc) → Valid s d → checked s d ≡ Ok d
valid-checks s d v = rw (valid-size s d v, valid-depth s d v, valid-place s d v) refl

-- and a whole number of nodes that passes them is valid
pub checks-valid : (s : Schema) (d : Doc) → is_whole d.tokens ≡ true → checked s d ≡ Ok d → Valid s d
checks-valid s d w h =
    let a = unless-ok (nat_le (length d.tokens) (max_size s)) Large _ d h in
    let b = unless-ok (nat_le (deepest 0 d.tokens) max_depth) Deep (unless_fault (fault_place s d) d) d a.1 in
    let c = fault-none (fault_place s d) d d b.1 in
    place-valid s d w a.0 b.0 c.0
