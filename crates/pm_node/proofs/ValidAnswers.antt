-- What the first fault says of the validity of a document.
use Rattle.std.specs.Prelude.{◌≡◌, ◌≢◌, true, None, Result, Ok, Err, OnOk, IfErr}
use Rattle.std.proofs.Common.{refl}
use Rattle.pm_tokens.specs.Tokens.{Doc}
use Rattle.pm_tokens.specs.Schemas.{Schema}
use Rattle.pm_tokens.specs.Scan.{is_whole}
use Rattle.pm_tokens.specs.Faults.{Valid, fault}
use Rattle.pm_tokens.proofs.ValidLaws.{valid-fault, fault-valid}
use Rattle.pm_node.specs.declared.fault.CheckError.{CheckError}
use Rattle.pm_node.specs.declared.fault.CheckError.TheVariants as error
use Rattle.pm_node.specs.Checks.{Tells, Checks}

pub valid-answer : (s : Schema) (d : Doc) (r : Result (Unit {0}) CheckError) → is_whole d.tokens ≡ true → Checks r (fault s d) → OnOk r (Valid s d)
valid-answer s d (Ok u) w h = fault-valid s d w h
valid-answer s d (Err e) w h = tt

told : (s : Schema) (d : Doc) (e : CheckError) → Tells e (fault s d) → e ≢ error.NoMemory → fault s d ≡ None → ⊥
told s d (error.Content at) h n f = absurd (cc)
told s d (error.Marks at) h n f = absurd (cc)
told s d (error.Attrs at) h n f = absurd (cc)
told s d error.Deep h n f = absurd (cc)
told s d error.Large h n f = absurd (cc)
told s d (error.Pair at) h n f = absurd (cc)
told s d error.NoMemory h n f = n refl

pub invalid-answer : (s : Schema) (d : Doc) (r : Result (Unit {0}) CheckError) → Checks r (fault s d) → IfErr r (λ e. e ≢ error.NoMemory → ¬ Valid s d)
invalid-answer s d (Ok u) h = tt
invalid-answer s d (Err e) h = λ n v. told s d e h n (valid-fault s d v)
