use Rattle.std.proofs.Common.{◌≡◌, ◌++◌, drop, string_bytes, false}
use Rattle.pm_archive.specs.Mapping.{place_items}
use Rattle.pm_archive.proofs.mapping.push_places.Given as goal

abbrev pub invariant-loop-place : goal.invariant-loop-place
invariant-loop-place l = string_bytes l.text ++ place_items l.later (drop l.place-index l.places) ≡ string_bytes l.fn.text ++ place_items false l.places
