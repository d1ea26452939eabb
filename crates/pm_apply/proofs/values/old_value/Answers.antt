use Rattle.std.specs.Prelude.{map}
use Rattle.std.proofs.Common.{◌≡◌, ◌<◌, length, arith, ap, sym, ◌∙◌}
use Rattle.std.proofs.lemmas.List.{length-map}
use Rattle.std.proofs.lemmas.Result.{IfOk-weaker}
use Rattle.pm_value.specs.Views.{plain}
use Rattle.pm_tokens.specs.Schemas.{attr_place}
use Rattle.pm_schema.specs.Types.{node_at, declared}
use Rattle.pm_schema.specs.Documents.{documents_of}
use Rattle.pm_meaning.specs.Inverses.{old_value}
use Rattle.pm_apply.proofs.SettledLaws.{named-inside, old-none, old-some}
use Rattle.pm_apply.proofs.values.old_value.Goals as goal

pub value_at-requires : goal.value_at-requires
value_at-requires c =
    let s = c.args.schema.now.spec in
    let named = sym c.in-Some.is ∙ (c.attr_place.ensures.place ∙ ap (λ n. attr_place n (map declared (node_at s c.args.kind).attrs)) c.as_str.ensures) in
    let l : c.in-Some.place < length c.args.attrs.now = named-inside s c.args.kind c.requires.known c.args.attr.now c.args.attrs.now c.in-Some.place named c.requires.fit in
    omega (arith, l, ap length c.values.ensures, length-map c.values.result.now plain)

pub returns-in-Some : goal.returns-in-Some
returns-in-Some c =
    let s = c.args.schema.now.spec in
    let vs = c.values.result.now in
    let d = c.value_at.result.now in
    let named = sym c.in-Some.is ∙ (c.attr_place.ensures.place ∙ ap (λ n. attr_place n (map declared (node_at s c.args.kind).attrs)) c.as_str.ensures) in
    let l : c.in-Some.place < length c.args.attrs.now = named-inside s c.args.kind c.requires.known c.args.attr.now c.args.attrs.now c.in-Some.place named c.requires.fit in
    let inside : c.in-Some.place < length vs = omega (arith, l, ap length c.values.ensures, length-map vs plain) in
    IfOk-weaker c.copy.result (λ v. v ≡ d) (λ v. plain v ≡ old_value (documents_of s) c.args.kind c.args.attr.now c.args.attrs.now)
    (λ v e. ap plain (e ∙ c.value_at.ensures) ∙ old-some s c.args.kind c.requires.known c.args.attr.now c.args.attrs.now c.in-Some.place vs d named c.values.ensures inside)
    c.copy.ensures

pub returns-in-None : goal.returns-in-None
returns-in-None c =
    let s = c.args.schema.now.spec in
    old-none s c.args.kind c.requires.known c.args.attr.now c.args.attrs.now
    (sym c.in-None.is ∙ (c.attr_place.ensures.place ∙ ap (λ n. attr_place n (map declared (node_at s c.args.kind).attrs)) c.as_str.ensures))
