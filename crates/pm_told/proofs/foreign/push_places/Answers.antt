use Rattle.std.proofs.Common.{◌≡◌, ◌++◌, List, ℕ, string_bytes, subst, append_assoc, ◌∙◌}
use Rattle.std.specs.Prelude.{OnOk}
use Rattle.pm_told.proofs.foreign.push_places.Goals as goal

pub returns : goal.returns
returns c =
    subst (λ (l : List ℕ). OnOk c.push_numbers-2.result (string_bytes c.push_numbers-2.new.text ≡ l))
    (rw (c.in_ok-push_str-2.ensures.bytes, c.in_ok-push_numbers.ensures, c.deref.ensures.value ∙ c.in_ok-places.ensures, c.in_ok-push_str.ensures.bytes) (simp append_assoc))
    c.push_numbers-2.ensures
