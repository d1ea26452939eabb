use Rattle.std.proofs.Common.{◌≡◌, ◌∙◌, ap, string_bytes, map, false, refl}
use Rattle.std.specs.List.{list_any}
use Rattle.std.specs.Str.{bytes_eq}
use Rattle.pm_house.proofs.Places.{insert_new}
use Rattle.pm_house.proofs.names.Names.add.Goals as goal

pub returns-clause-ok : goal.returns-clause-ok
returns-clause-ok c =
    let old : map string_bytes c.self.inside.names.keys ≡ c.args.self.now = c.self.view_is in
    let name : string_bytes c.in_ok-from_str.field-0 ≡ c.args.name.now = c.in_ok-from_str.ensures.ok in
    let new : list_any (λ n. bytes_eq (string_bytes c.in_ok-from_str.field-0) n) (map string_bytes c.self.inside.names.keys) ≡ false = rw (name, old) c.requires in
    ap (map string_bytes) c.in_ok-insert.ensures.keys ∙ insert_new c.self.inside.names.keys c.in_ok-from_str.field-0 new ∙ rw (old, name) refl
