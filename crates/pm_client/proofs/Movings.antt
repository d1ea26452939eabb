-- Cursors that are moved one after another.
use Rattle.std.proofs.Common.{◌≡◌, ℕ, ◌+◌, ◌<◌, ◌≤◌, List, [], ◌∷◌, ◌++◌, length, drop, get_or, zero, suc, sym, ap, ◌∙◌, append_assoc, add-one, arith}
use Rattle.std.proofs.Math.Seq.{drop-cons}
use Rattle.pm_map.specs.declared.mapping.Mirrored.{Mirrored}
use Rattle.pm_map.specs.Through.{through}
use Rattle.pm_map.specs.Positions.{MayLead, EachLed, IsItself}
use Rattle.pm_client.specs.declared.cursors.Cursor.{Cursor}
use Rattle.pm_client.specs.Cursors.{AreIn, cursor, moved_over}

pub moved-on : (ms : List Mirrored) (cs : List Cursor) (i : ℕ) (c : Cursor) (moved : List Cursor) (p : ℕ) → i < length cs → c ≡ get_or cs i c → p ≡ (through ms c.pos c.side).pos
    → moved ++ moved_over ms (drop i cs) ≡ moved_over ms cs → (moved ++ cursor p c.side ∷ []) ++ moved_over ms (drop (i + 1) cs) ≡ moved_over ms cs
moved-on ms cs i c moved p within is goes was =
    rw add-one
    (append_assoc moved (cursor p c.side ∷ []) (moved_over ms (drop (suc i) cs))
    ∙ ap (λ (x : ℕ). moved ++ (cursor x c.side ∷ moved_over ms (drop (suc i) cs))) goes
    ∙ ap (λ l. moved ++ moved_over ms l) (sym at-step) ∙ was)
  where
    at-step : drop i cs ≡ c ∷ drop (suc i) cs
    at-step = drop-cons cs i c within ∙ ap (λ x. x ∷ drop (suc i) cs) (sym is)

-- what holds of each mapping that a mapping stands for holds of it
pub moved-itself : (ms : List Mirrored) (cs moved : List Cursor) → MayLead AreIn IsItself cs ms → EachLed AreIn IsItself cs ms (λ ns. moved ≡ moved_over ns cs) → moved ≡ moved_over ms cs
moved-itself ms cs moved r each = each r.0 r.1 r.2 r.3.0 r.3.1 ∙ ap (λ ns. moved_over ns cs) (sym r.3.0.is)
