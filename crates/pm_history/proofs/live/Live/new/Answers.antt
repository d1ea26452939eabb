use Rattle.std.proofs.Common.{◌≡◌, ◌<◌, replicate, None, ℕ, Option, arith, rules, sym, ap, ◌∙◌}
use Rattle.std.specs.Prelude.{nat_eq}
use Rattle.std.specs.HashMap.{get}
use Rattle.pm_history.specs.declared.live.Live.{Live}
use Rattle.pm_history.proofs.Lives.{near-none}
use Rattle.pm_history.proofs.live.Live.new.Goals as goal

pub returns : goal.returns
returns c =
    let table : Live = record { near = c.in_ok-vec.field-0; far = c.new.result } in
    let some : 0 < c.max-count.result = omega (arith, c.max-count.ensures) in
    let items : c.in_ok-vec.field-0.items ≡ replicate c.max-count.result None = search rules in
    let empty : (s : ℕ) → get nat_eq c.new.result s ≡ None = λ s. search rules in
    near-none table c.max-count.result c.args.names.now some c.requires items empty
