use Rattle.std.specs.Prelude.{map, nat_le, Ok, IfSome, slice_index_or}
use Rattle.std.proofs.Common.{◌≡◌, ◌<◌, ℕ, true, false, length, ap, sym, ◌∙◌, subst}
use Rattle.pm_value.specs.Plain.{depth}
use Rattle.pm_value.specs.Kinds.{is_allowed}
use Rattle.pm_value.specs.Views.{plain}
use Rattle.pm_tokens.specs.Schemas.{attr_place}
use Rattle.pm_schema.specs.Attrs.{no_attr}
use Rattle.pm_schema.specs.Types.{node_at, declared}
use Rattle.pm_meaning.specs.declared.reason.Reason.TheVariants.{BadValue, Content}
use Rattle.pm_meaning.specs.Outcomes.{unless}
use Rattle.pm_apply.proofs.SettledLaws.{settle-none, settle-some}
use Rattle.pm_apply.proofs.values.settle.Goals as goal

pub returns-in_default : goal.returns-in_default
returns-in_default c =
    let attrs = (node_at c.args.schema.now.spec c.args.kind).attrs in
    settle-none c.args.schema.now.spec c.args.kind c.requires c.args.attr.now (plain c.args.value.now) c.args.at
    (sym c.in_default.is ∙ (c.attr_place.ensures.place ∙ ap (λ n. attr_place n (map declared attrs)) c.as_str.ensures))

pub returns-then-not-attr_allows : goal.returns-then-not-attr_allows
returns-then-not-attr_allows c =
    let attrs = (node_at c.args.schema.now.spec c.args.kind).attrs in
    let v = plain c.args.value.now in
    let place = c.in-Some.place in
    let inside : place < length attrs = subst (λ o. IfSome o (λ (i : ℕ). i < length attrs)) c.in-Some.is c.attr_place.ensures.inside in
    let no : is_allowed (slice_index_or attrs place no_attr).validate v ≡ false = sym c.attr_allows.ensures ∙ c.if-not-attr_allows.true in
    sym (ap (λ b. unless b BadValue (unless (nat_le (depth v) 4) (Content c.args.at) (Ok place))) no)
    ∙ settle-some c.args.schema.now.spec c.args.kind c.requires c.args.attr.now v c.args.at place
    (sym c.in-Some.is ∙ (c.attr_place.ensures.place ∙ ap (λ n. attr_place n (map declared attrs)) c.as_str.ensures)) inside

pub returns-then-not-value_is_shallow : goal.returns-then-not-value_is_shallow
returns-then-not-value_is_shallow c =
    let attrs = (node_at c.args.schema.now.spec c.args.kind).attrs in
    let v = plain c.args.value.now in
    let place = c.in-Some.place in
    let inside : place < length attrs = subst (λ o. IfSome o (λ (i : ℕ). i < length attrs)) c.in-Some.is c.attr_place.ensures.inside in
    let yes : is_allowed (slice_index_or attrs place no_attr).validate v ≡ true = sym c.attr_allows.ensures ∙ c.if-not-attr_allows.false in
    let no : nat_le (depth v) 4 ≡ false = sym c.value_is_shallow.ensures ∙ c.if-not-value_is_shallow.true in
    sym (ap (λ b. unless b BadValue (unless (nat_le (depth v) 4) (Content c.args.at) (Ok place))) yes ∙ ap (λ b. unless b (Content c.args.at) (Ok place)) no)
    ∙ settle-some c.args.schema.now.spec c.args.kind c.requires c.args.attr.now v c.args.at place
    (sym c.in-Some.is ∙ (c.attr_place.ensures.place ∙ ap (λ n. attr_place n (map declared attrs)) c.as_str.ensures)) inside

pub returns : goal.returns
returns c =
    let attrs = (node_at c.args.schema.now.spec c.args.kind).attrs in
    let v = plain c.args.value.now in
    let place = c.in-Some.place in
    let inside : place < length attrs = subst (λ o. IfSome o (λ (i : ℕ). i < length attrs)) c.in-Some.is c.attr_place.ensures.inside in
    let yes : is_allowed (slice_index_or attrs place no_attr).validate v ≡ true = sym c.attr_allows.ensures ∙ c.if-not-attr_allows.false in
    let low : nat_le (depth v) 4 ≡ true = sym c.value_is_shallow.ensures ∙ c.if-not-value_is_shallow.false in
    sym (ap (λ b. unless b BadValue (unless (nat_le (depth v) 4) (Content c.args.at) (Ok place))) yes ∙ ap (λ b. unless b (Content c.args.at) (Ok place)) low)
    ∙ settle-some c.args.schema.now.spec c.args.kind c.requires c.args.attr.now v c.args.at place
    (sym c.in-Some.is ∙ (c.attr_place.ensures.place ∙ ap (λ n. attr_place n (map declared attrs)) c.as_str.ensures)) inside
