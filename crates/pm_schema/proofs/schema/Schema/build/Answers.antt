use Rattle.std.proofs.Common.{◌≡◌, true, ◌∙◌, ap, subst, map, refl, List, ℕ}
use Rattle.std.specs.Prelude.{codes}
use Rattle.std.specs.List.{list_all}
use Rattle.pm_schema.specs.declared.spec.NodeSpec.{NodeSpec}
use Rattle.pm_schema.specs.declared.spec.MarkSpec.{MarkSpec}
use Rattle.pm_schema.specs.Defaults.{have_kinds}
use Rattle.pm_schema.specs.Names.{place_of}
use Rattle.pm_schema.specs.Made.{can_wrap}
use Rattle.pm_schema.specs.Generated.{IsGeneratable, AllFinishing}
use Rattle.pm_schema.proofs.Tables.{all-run}
use Rattle.pm_schema.proofs.Makes.{makes-all, runs-of, live-of, never-stuck}
use Rattle.pm_schema.proofs.Plain.{plain-text}
use Rattle.pm_schema.proofs.schema.Schema.build.Goals as goal

pub generatable-requires-clause-runs : goal.generatable-requires-clause-runs
generatable-requires-clause-runs c =
    runs-of c.args.spec.nodes c.as_slice.result.now c.in_ok-autos.autos c.as_slice-2.result.now c.as_slice.ensures c.as_slice-2.ensures c.in_ok-autos.ensures.full c.in_ok-autos.ensures.automata

pub allowed_rows-requires-clause-runs : goal.allowed_rows-requires-clause-runs
allowed_rows-requires-clause-runs c =
    runs-of c.args.spec.nodes c.args.spec.nodes c.in_ok-autos.autos c.as_slice-5.result.now refl c.as_slice-5.ensures c.in_ok-autos.ensures.full c.in_ok-autos.ensures.automata

pub returns-clause-built : goal.returns-clause-built
returns-clause-built c = record {
  named = c.in_ok-check_marks.ensures.named;
  have = c.in_ok-autos.ensures.have;
  automata = c.in_ok-autos.ensures.automata;
  generatable = subst (λ (ns : List NodeSpec). IsGeneratable ns c.in_ok-generatable.generatable) c.as_slice.ensures c.in_ok-generatable.ensures;
  live = live-of c.in_ok-generatable.generatable c.as_slice-4.result.now c.in_ok-autos.autos c.as_slice-3.result.now c.as_slice-4.ensures c.as_slice-3.ensures c.in_ok-check_ends.ensures.live;
}

pub invariant_of-result : goal.invariant_of-result
invariant_of-result c =
    let live : AllFinishing c.in_ok-generatable.generatable c.in_ok-autos.autos = live-of c.in_ok-generatable.generatable c.as_slice-4.result.now c.in_ok-autos.autos c.as_slice-3.result.now c.as_slice-4.ensures c.as_slice-3.ensures c.in_ok-check_ends.ensures.live in
    let made : IsGeneratable c.args.spec.nodes c.in_ok-generatable.generatable = subst (λ (ns : List NodeSpec). IsGeneratable ns c.in_ok-generatable.generatable) c.as_slice.ensures c.in_ok-generatable.ensures in
    let runs = all-run c.args.spec.nodes c.in_ok-autos.autos c.in_ok-autos.ensures.full c.in_ok-autos.ensures.automata in
    record {
      nodes_named = c.in_ok-node_names.ensures.nodes;
      marks_named = c.in_ok-node_names.ensures.marks;
      names_differ = c.in_ok-node_names.ensures.differ;
      top_named = ap (λ (ns : List (List ℕ)). place_of c.args.spec.top ns) c.in_ok-node_names.ensures.nodes ∙ c.in_ok-top.ensures.top;
      text_named = ap (λ (ns : List (List ℕ)). place_of (codes "text") ns) c.in_ok-node_names.ensures.nodes ∙ c.in_ok-top.ensures.text;
      text_plain = plain-text c.args.spec c.in_ok-top.ensures.types;
      full = c.in_ok-autos.ensures.full;
      runs = runs;
      allows = c.in_ok-allowed.ensures;
      excludes = c.in_ok-rules.ensures;
      makes = makes-all c.args.spec.nodes c.in_ok-autos.autos c.in_ok-generatable.generatable c.in_ok-autos.ensures.full runs made live;
      never_stuck = never-stuck c.in_ok-generatable.generatable c.in_ok-autos.autos live;
      wraps = c.in_ok-may_wrap.ensures ∙ ap (map can_wrap) c.as_slice-6.ensures;
      versioned = c.requires;
      node_defaults = subst (λ (ns : List NodeSpec). list_all (λ n. have_kinds n.attrs) ns ≡ true) c.as_slice-7.ensures c.node_defaults.ensures;
      mark_defaults = subst (λ (ms : List MarkSpec). list_all (λ m. have_kinds m.attrs) ms ≡ true) c.as_slice-8.ensures c.mark_defaults.ensures;
    }
