use Rattle.std.proofs.Common.{rules, ◌≡◌, ℕ, ◌<◌, ◌≤◌, inl, inr, ◌⊎◌, ◌+◌, subst, sym, arith, true, false, length}
use Rattle.pm_auto.proofs.Orders.{le_or_lt}
use Rattle.pm_schema.specs.Types.{node_at}
use Rattle.pm_loose.specs.Repeats.{SomeCounts}
use Rattle.pm_loose.proofs.LooseLaws.{ByShortened, shorter-fits, each-loose, text-is}
use Rattle.pm_loose.proofs.loose.is_loose.Goals as goal

pub loop-kind-preserved : goal.loop-kind-preserved
loop-kind-preserved c = λ k h. at k h (le_or_lt c.loop-kind.kind k)
  where
    repeats : c.repeats_texts.result ≡ true
    repeats = search rules

    own : ByShortened c.args.schema.now.spec c.text_type-text.result c.loop-kind.kind
    own = shorter-fits c.text_type-text.result c.auto.result.now (c.repeats_texts.ensures.repeats repeats) (node_at c.args.schema.now.spec c.loop-kind.kind).content c.auto.ensures.runs

    at : (k : ℕ) → k < c.loop-kind.kind + 1 → (c.loop-kind.kind ≤ k) ⊎ (k < c.loop-kind.kind) → ByShortened c.args.schema.now.spec c.text_type-text.result k
    at k h (inl l) = let same : c.loop-kind.kind ≡ k = omega (arith, h, l) in subst (ByShortened c.args.schema.now.spec c.text_type-text.result) same own
    at k h (inr l) = c.loop-kind.invariant k l

pub returns-clause-loose : goal.returns-clause-loose
returns-clause-loose c = λ _. each-loose c.args.schema.now.spec c.text_type-text.result c.text_type-text.ensures.named (λ k h. c.loop-kind.invariant k (omega (arith, h, c.loop-kind-test.false, c.node_count-kind-end.ensures)))

pub returns-then-not-repeats_texts-clause-counts : goal.returns-then-not-repeats_texts-clause-counts
returns-then-not-repeats_texts-clause-counts c = λ _.
    let unlike : c.repeats_texts.result ≡ false = search rules in
    let inside : c.loop-kind.kind < length c.args.schema.now.autos = omega (arith, c.loop-kind-test.true, c.node_count-kind-end.ensures, c.args.schema.now.full) in
    subst (λ (text : ℕ). SomeCounts text c.args.schema.now.autos) (sym (text-is c.args.schema.now.spec c.text_type-text.result c.text_type-text.ensures.named))
    record { kind = c.loop-kind.kind; inside = inside; auto = c.auto.result.now; is = c.auto.ensures.entry; counts = c.repeats_texts.ensures.counts unlike }
