use Rattle.std.proofs.Common.{◌≡◌, ◌∷◌, []}
use Rattle.pm_gen.proofs.lines.typed_line.Goals as goal

pub returns : goal.returns
returns c =
    let e : c.as_str.result.now ≡ c.args.letter ∷ [] = cc (c.as_str.ensures.value, c.in_ok-text.ensures) in
    rw e at c.text_line.ensures
