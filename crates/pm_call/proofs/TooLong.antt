-- All that a source gives is the input, and an input of which more than the limit came is refused on line 0.
use Rattle.std.proofs.Common.{◌≡◌, ◌<◌, ◌≤◌, ◌+◌, ◌++◌, ◌∙◌, ℕ, true, List, [], length, refl, ap, sym, subst, arith, length-append}
use Rattle.std.specs.Prelude.{nat_lt, Option, None, Some, Err}
use Rattle.std.specs.Io.KnownBytes.{Consumes, IsAtEnd}
use Rattle.std.proofs.lemmas.List.{append-nil}
use Rattle.std.proofs.lemmas.Bool.Decides.{nat_tests}
use Rattle.pm_call.specs.declared.files.FileForm.{FileForm}
use Rattle.pm_call.specs.declared.files.FileForm.TheVariants.{OneRoom, ManyRooms}
use Rattle.pm_head.specs.declared.code.Code.TheVariants.{InputTooLong}
use Rattle.pm_head.specs.Refusals.{refused}
use Rattle.pm_script.specs.declared.session.TheConstants.{MAX_INPUT}
use Rattle.pm_call.specs.Contents.{FileIs}

to_end : (new : Option (List ℕ)) (bytes input : List ℕ) → Consumes (Some input) new bytes → IsAtEnd new → bytes ≡ input
to_end None bytes input h e = absurd h
to_end (Some rest) bytes input h e = sym (h ∙ ap (λ (r : List ℕ). bytes ++ r) e ∙ append-nil bytes)

-- what was read to the end is the input
pub whole_input : (old new : Option (List ℕ)) (bytes input : List ℕ) → Consumes old new bytes → IsAtEnd new → old ≡ Some input → bytes ≡ input
whole_input old new bytes input h e is = to_end new bytes input (subst (λ o. Consumes o new bytes) is h) e

longer : (new : Option (List ℕ)) (bytes input : List ℕ) → Consumes (Some input) new bytes → length bytes ≤ length input
longer None bytes input h = absurd h
longer (Some rest) bytes input h = omega (arith, ap length h, length-append bytes rest)

above : (n : ℕ) → MAX_INPUT < n → nat_lt MAX_INPUT n ≡ true
above n h = grind (arith, nat_tests)

pub past_limit : (old new : Option (List ℕ)) (bytes input : List ℕ) → Consumes old new bytes → length bytes ≡ MAX_INPUT + 1 → old ≡ Some input → nat_lt MAX_INPUT (length input) ≡ true
past_limit old new bytes input h size is =
    let taken = subst (λ o. Consumes o new bytes) is h in
    above (length input) (omega (arith, longer new bytes input taken, size))

-- a source that is left as it was gave nothing
pub nothing-read : (left : Option (List ℕ)) → Consumes left left []
nothing-read None = tt
nothing-read (Some bytes) = refl

-- it is no session
pub no_session : (f : FileForm) (input : List ℕ) → nat_lt MAX_INPUT (length input) ≡ true → FileIs f input (Err (refused 0 InputTooLong))
no_session (OneRoom form) input h = rw h refl
no_session ManyRooms input h = rw h refl
