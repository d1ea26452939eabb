use Rattle.std.proofs.Common.{◌≡◌, ◌++◌, length, ap, sym, ◌∙◌, subst, arith}
use Rattle.std.specs.Prelude.{OnOk}
use Rattle.std.proofs.lemmas.List.{append-nil, nil_from_length}
use Rattle.pm_sized.specs.Parts.{part}
use Rattle.pm_units.specs.Pieces.{pieces_in, text_in, spelled, form_units}
use Rattle.pm_units.proofs.TextLaws.{part-rest, text-bound}
use Rattle.pm_units.proofs.form.Form.put.Goals as goal

pub returns-then-len-eq0-clause-text : goal.returns-then-len-eq0-clause-text
returns-then-len-eq0-clause-text c =
    let none = nil_from_length (form_units c.args.self.now) (sym c.len-3.ensures.units ∙ c.if-len-eq0.true) in
    sym (ap (λ us. text_in c.args.made.now ++ us) none ∙ append-nil (text_in c.args.made.now))

pub push-requires-clause-room : goal.push-requires-clause-room
push-requires-clause-room c = omega (arith, c.if-len-ge-LIMIT.false, c.len.ensures, c.len-2.ensures.units, ap length c.in_ok-copy-in-Short.ensures, ap (λ f. length (form_units f)) c.in-Short.is)

pub append-requires-clause-room : goal.append-requires-clause-room
append-requires-clause-room c =
    let vs = pieces_in c.deref.result.now in
    let same = c.deref-in-Long.ensures ∙ sym c.deref.ensures in
    let n : c.count.result ≡ length vs = c.count.ensures ∙ ap (λ p. length (pieces_in p)) same in
    let all : spelled (part 0 c.count.result vs) ≡ text_in c.deref.result.now = part-rest 0 c.count.result vs n in
    omega (arith, c.if-len-ge-LIMIT.false, c.len.ensures, c.len-2.ensures.units, ap length all, ap (λ f. length (form_units f)) c.in-Long.is, ap (λ p. length (text_in p)) c.deref.ensures)

pub returns-in_ok-copy-in-Short-clause-text : goal.returns-in_ok-copy-in-Short-clause-text
returns-in_ok-copy-in-Short-clause-text c =
    subst (λ us. OnOk c.push.result (text_in c.push.new.self ≡ text_in c.args.made.now ++ us)) (c.in_ok-copy-in-Short.ensures ∙ sym (ap form_units c.in-Short.is)) c.push.ensures.text

pub returns-in-Long-clause-text : goal.returns-in-Long-clause-text
returns-in-Long-clause-text c =
    let vs = pieces_in c.deref.result.now in
    let same = c.deref-in-Long.ensures ∙ sym c.deref.ensures in
    let n : c.count.result ≡ length vs = c.count.ensures ∙ ap (λ p. length (pieces_in p)) same in
    let all : spelled (part 0 c.count.result vs) ≡ text_in c.deref.result.now = part-rest 0 c.count.result vs n in
    subst (λ us. OnOk c.append.result (text_in c.append.new.self ≡ text_in c.args.made.now ++ us)) (all ∙ (ap text_in c.deref.ensures ∙ sym (ap form_units c.in-Long.is))) c.append.ensures.text

pub overflow_add-len : goal.overflow_add-len
overflow_add-len c = omega (arith, c.len.ensures, text-bound c.args.made.now c.requires.pieces, c.len-2.ensures.few)
