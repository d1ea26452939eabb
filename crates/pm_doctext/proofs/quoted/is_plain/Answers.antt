use Rattle.std.proofs.Common.{◌≡◌, ap, arith, false, length}
use Rattle.pm_doctext.proofs.Plain.{escape-plain, not-any}
use Rattle.pm_doctext.proofs.quoted.is_plain.Goals as goal

pub returns : goal.returns
returns c =
    λ none. let any : c.loop-byte.any ≡ false = not-any c.loop-byte.any none in
    let size = ap length c.as_bytes-byte-items.ensures.value in
    escape-plain c.args.word.now (λ j l. c.loop-byte.invariant any j (omega (arith, l, size)))
