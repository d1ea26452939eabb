use Rattle.std.proofs.Common.{◌≡◌, true, false, refl, sym, ◌∙◌}
use Rattle.pm_schema.specs.Documents.{documents_of}
use Rattle.pm_apply.proofs.marking.Sort.of.Goals as goal

pub returns-then-is_leaf-clause-takes : goal.returns-then-is_leaf-clause-takes
unfolding documents_of
returns-then-is_leaf-clause-takes c =
    let i : (documents_of c.args.schema.now.spec).is_inline c.args.kind ≡ true = sym c.is_inline-inline.ensures ∙ c.if-inline.true in
    rw (c.if-is_leaf.true, i) refl

pub returns-then-is_leaf-clause-inline : goal.returns-then-is_leaf-clause-inline
unfolding documents_of
returns-then-is_leaf-clause-inline c = c.is_inline-inline.ensures

pub returns-else-is_leaf-clause-takes : goal.returns-else-is_leaf-clause-takes
unfolding documents_of
returns-else-is_leaf-clause-takes c =
    let i : (documents_of c.args.schema.now.spec).is_inline c.args.kind ≡ true = sym c.is_inline-inline.ensures ∙ c.if-inline.true in
    rw (i, c.if-is_leaf.false) c.is_atom.ensures

pub returns-else-is_leaf-clause-inline : goal.returns-else-is_leaf-clause-inline
unfolding documents_of
returns-else-is_leaf-clause-inline c = c.is_inline-inline.ensures

pub returns-else-inline-clause-takes : goal.returns-else-inline-clause-takes
unfolding documents_of
returns-else-inline-clause-takes c =
    let i : (documents_of c.args.schema.now.spec).is_inline c.args.kind ≡ false = sym c.is_inline-inline.ensures ∙ c.if-inline.false in
    rw (c.if-inline.false, i) refl

pub returns-else-inline-clause-inline : goal.returns-else-inline-clause-inline
unfolding documents_of
returns-else-inline-clause-inline c = c.is_inline-inline.ensures
