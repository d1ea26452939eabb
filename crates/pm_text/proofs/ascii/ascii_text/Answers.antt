use Rattle.std.proofs.Common.{◌≡◌, false, true, subst, sym}
use Rattle.std.specs.Str.{IsUtf8}
use Rattle.std.proofs.lemmas.Str.{IsUtf8-from_ascii}
use Rattle.pm_text.proofs.ascii.ascii_text.Goals as goal

pub unreachable-requires : goal.unreachable-requires
unreachable-requires c = never (c.in-Err.ensures.succeeds (subst IsUtf8 (sym c.in_ok-bytes.ensures) (IsUtf8-from_ascii c.args.units.now c.requires)))
  where
    never : false ≡ true → ⊥
    never h = absurd (cc)
