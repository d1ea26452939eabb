-- The text of a value that is written, from what the call says of it.
use Rattle.std.proofs.Common.{◌≡◌, ◌≤◌, false, subst}
use Rattle.std.specs.declared.alloc.AllocError.{AllocError}
use Rattle.std.specs.declared.alloc.Global.{Global}
use Rattle.std.specs.Prelude.{Result, Ok, Err, IfOk, Some, String, string_bytes}
use Rattle.serde_json.specs.Data.{Data, depth}
use Rattle.serde_json.specs.Read.{read, max_depth}
use Rattle.serde_json.specs.Written.{compact_text, has_float}

pub text-is : (v d : Data) (r : Result (String Global) AllocError) → v ≡ d → has_float d ≡ false → IfOk r (λ s. has_float v ≡ false → string_bytes s ≡ compact_text v) → IfOk r (λ s. string_bytes s ≡ compact_text d)
text-is v d (Ok s) is whole h = let P : Data → Type 0 = λ x. has_float x ≡ false → string_bytes s ≡ compact_text x in subst P is h whole
text-is v d (Err e) is whole h = tt

pub text-reads : (v d : Data) (r : Result (String Global) AllocError) → v ≡ d → IfOk r (λ s. depth v ≤ max_depth → read (string_bytes s) ≡ Some v) → IfOk r (λ s. depth d ≤ max_depth → read (string_bytes s) ≡ Some d)
text-reads v d (Ok s) is h = let P : Data → Type 0 = λ x. depth x ≤ max_depth → read (string_bytes s) ≡ Some x in subst P is h
text-reads v d (Err e) is h = tt
