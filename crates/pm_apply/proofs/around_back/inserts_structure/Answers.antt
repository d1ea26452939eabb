use Rattle.std.proofs.Common.{◌≡◌, ◌+◌, take, drop, ap, sym, ◌∙◌}
use Rattle.std.specs.Prelude.{◌&&◌}
use Rattle.pm_tokens.specs.Scan.{closes_then_opens, part}
use Rattle.pm_tokens.specs.Slices.{slice_size, slice_tokens}
use Rattle.pm_apply.proofs.AroundBackLaws.{insert-first, insert-rest}
use Rattle.pm_apply.proofs.around_back.inserts_structure.Goals as goal

pub returns-then-first : goal.returns-then-first
returns-then-first c =
    let sl = c.args.slice.now in
    let first : c.in_ok-first.first ≡ closes_then_opens (take c.args.insert (slice_tokens sl)) =
    c.in_ok-first.ensures
    ∙ (ap (λ z. closes_then_opens (part z (z + c.args.insert) c.content-content.result.now)) c.open_start-start.ensures.side
    ∙ (ap (λ z. closes_then_opens (part sl.open_start (sl.open_start + c.args.insert) z)) c.content-content.ensures
    ∙ ap closes_then_opens (insert-first sl c.size-size.ensures.slice c.args.insert c.requires))) in
    let second : c.in_ok-second.second ≡ closes_then_opens (drop c.args.insert (slice_tokens sl)) =
    c.in_ok-second.ensures
    ∙ (ap (λ z. closes_then_opens (part (z + c.args.insert) (z + c.size-size.result) c.content-content.result.now)) c.open_start-start.ensures.side
    ∙ (ap (λ z. closes_then_opens (part (sl.open_start + c.args.insert) (sl.open_start + z) c.content-content.result.now)) c.size-size.ensures.size
    ∙ (ap (λ z. closes_then_opens (part (sl.open_start + c.args.insert) (sl.open_start + slice_size sl) z)) c.content-content.ensures
    ∙ ap closes_then_opens (insert-rest sl c.size-size.ensures.slice c.args.insert c.requires)))) in
    second ∙ ap (λ z. z && closes_then_opens (drop c.args.insert (slice_tokens sl))) (sym c.if-first.true ∙ first)
