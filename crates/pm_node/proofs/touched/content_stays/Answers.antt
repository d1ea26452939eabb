use Rattle.std.proofs.Common.{◌≡◌, ◌++◌, true, ap, sym, ◌∙◌, subst, arith, length}
use Rattle.std.specs.Prelude.{unwrap_or}
use Rattle.pm_auto.specs.Walks.{accepted}
use Rattle.pm_tokens.specs.Scan.{part}
use Rattle.pm_schema.specs.Documents.{documents_of}
use Rattle.pm_node.specs.Trees.{list_tokens}
use Rattle.pm_node.specs.Kinds.{kinds}
use Rattle.pm_node.specs.Changes.{Keeps}
use Rattle.pm_node.specs.Touching.{Sound, types_with}
use Rattle.pm_node.proofs.TouchedLaws.{touched-holds, part-within}
use Rattle.pm_node.proofs.touched.content_stays.Goals as goal
use Rattle.pm_node.proofs.touched.content_stays.Goals.{In_ok-fit}

-- the schema accepts the new types if it accepted the old ones, by the walk of the automaton
told : (c : In_ok-fit) → c.in_ok-fit.fit ≡ true → (documents_of c.args.schema.now.spec).accepts c.args.kind (kinds (documents_of c.args.schema.now.spec).text c.children-old.result) ≡ true
    → (documents_of c.args.schema.now.spec).accepts c.args.kind (types_with (documents_of c.args.schema.now.spec).text c.children-old.result c.children-new.result c.in-Some.touched) ≡ true
unfolding documents_of
told c r h =
    let s = documents_of c.args.schema.now.spec in
    let a = c.auto-automaton.result.now in
    let xs = c.children-old.result in
    let ys = c.children-new.result in
    let t = c.in-Some.touched in
    let text : c.text_type.result ≡ s.text = sym (ap (λ o. unwrap_or o 0) c.text_type.ensures.named) in
    let old : accepted a.sets a.edges 0 (kinds c.text_type.result xs) ≡ true = ap (λ z. accepted a.sets a.edges 0 (kinds z xs)) text ∙ (c.auto-automaton.ensures.runs.accepts (kinds s.text xs) ∙ h) in
    sym (c.auto-automaton.ensures.runs.accepts (types_with s.text xs ys t)) ∙ (ap (λ z. accepted a.sets a.edges 0 (types_with z xs ys t)) (sym text) ∙ c.in_ok-fit.ensures r old)

pub append-requires-clause-room : goal.append-requires-clause-room
append-requires-clause-room c =
    let t = c.in-Some.touched in
    omega (arith, ap length c.new-inner.ensures, part-within c.children-new.result t.new_from t.new_to c.in-Some.ensures.new_order, c.children-new.ensures.bound)

pub returns : goal.returns
returns c = λ r.
    let s = documents_of c.args.schema.now.spec in
    let kind = c.args.kind in
    let levels = c.args.levels in
    let from = c.args.change.from in
    let to = c.args.change.to in
    let new_to = c.args.change.new_to in
    let old = c.children-old in
    let new = c.children-new in
    let t = c.in-Some.touched in
    let made : c.append.new.self ≡ list_tokens (part t.new_from t.new_to new.result) = c.in_ok-append.ensures ∙ ap (λ z. z ++ list_tokens (part t.new_from t.new_to new.result)) c.new-inner.ensures in
    let sound : Sound s kind levels (list_tokens (part t.new_from t.new_to new.result)) = subst (Sound s kind levels) made (c.is_sound.ensures r) in
    let lists : Keeps s kind levels (list_tokens old.result) (list_tokens new.result) from to new_to = λ ch h.
    touched-holds s kind levels old.result new.result old.ensures.normal new.ensures.normal old.ensures.each new.ensures.each from to new_to t c.in-Some.ensures ch h sound
    (told ((goal.at.returns c).In_ok-fit) c.if-not-fit.false) in
    subst (λ u. Keeps s kind levels u c.args.after.now from to new_to) old.ensures.tokens (subst (λ v. Keeps s kind levels (list_tokens old.result) v from to new_to) new.ensures.tokens lists)
